-- The files that a host in memory starts with.
use Rattle.std.specs.Prelude.{ℕ, List, [], ◌∷◌, length}
use Rattle.std.specs.Global.{Vec}
use Rattle.bm_host.specs.declared.Role.{Role}
use Rattle.bm_host.specs.declared.Role.TheVariants.{Image, Disk, Schedule, Report, Out, Console}
use Rattle.bm_host.specs.declared.by_role.ByRole.{ByRole}
use Rattle.bm_host.specs.ByRole.{with_value}

-- what is written has the room; what is read may not grow (own)
abbrev pub limit_at_start : ℕ → Role → List ℕ → ℕ
limit_at_start room Image bytes = length bytes
limit_at_start room Disk bytes = length bytes
limit_at_start room Schedule bytes = length bytes
limit_at_start room Report bytes = room
limit_at_start room Out bytes = room
limit_at_start room Console bytes = room

-- each role empty (own)
abbrev pub all_empty : ByRole (List ℕ)
all_empty = record { image = []; disk = []; schedule = []; report = []; out = []; console = [] }

-- the files in their order, each in place of what its role had (own)
abbrev pub named_onto : ByRole (List ℕ) → List (Role × Vec ℕ) → ByRole (List ℕ)
named_onto all [] = all
named_onto all (file ∷ files) = named_onto (with_value all file.0 file.1.items) files

-- the bytes of the last file that names each role, or none (own)
abbrev pub files_named : List (Role × Vec ℕ) → ByRole (List ℕ)
files_named files = named_onto all_empty files
