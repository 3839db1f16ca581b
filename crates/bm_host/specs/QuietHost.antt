-- What a host that never fails tells, gives and counts.
use Rattle.std.specs.Prelude.{ℕ, List, Option, Some, None}
use Rattle.bm_host.specs.declared.Role.{Role}
use Rattle.bm_host.specs.declared.Role.TheVariants.{Image, Disk, Schedule, Report, Out, Console}
use Rattle.bm_host.specs.declared.quiet_host.QuietHost.{QuietHost}
use Rattle.bm_host.specs.ByRole.{value_of}
use Rattle.bm_host.specs.QuietFile.{bytes_in}
use Rattle.bm_host.specs.Outside.{Outside}

-- a quiet host tells the bytes that it knows, and its counts of faults are always 0 (own)
abbrev pub outside_of : QuietHost → Outside
outside_of host = record {
  told = λ role. bytes_in (value_of host.files role);
  given = λ role. (value_of host.files role).given;
  read_faults = λ role. 0;
  write_faults = λ role. 0;
  looked = host.looked;
}

-- what it tells at the start: a role that is read has its file's bytes, and one that is written isn't told (own)
abbrev pub told_at_start : Role → List ℕ → Option (List ℕ)
told_at_start Image bytes = Some bytes
told_at_start Disk bytes = Some bytes
told_at_start Schedule bytes = Some bytes
told_at_start Report bytes = None
told_at_start Out bytes = None
told_at_start Console bytes = None
