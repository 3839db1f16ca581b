-- The sectors of a held piece as the bus master moves them: good steps of the drive that the guest sees.
use Rattle.std.specs.Prelude.{ℕ, ◌≡◌, ◌<◌, ◌≤◌, Bool, false, ◌&&◌, List}
use Rattle.ata_taskfile.specs.declared.Taken.TheVariants.{Good, Bad}
use Rattle.ata_taskfile.specs.declared.Phase.{Phase}
use Rattle.ata_taskfile.specs.declared.Phase.TheVariants.{Reset, Idle, Busy, Ready}
use Rattle.ata_taskfile.specs.Data.{moves_by_bus}
use Rattle.ata_taskfile.specs.Device.{Device}
use Rattle.plain_drive.specs.Plain.{sector_value}
use Rattle.redirect.specs.Read.{goes_inward}
use Rattle.redirect.specs.Piece.{piece_bytes}

-- the drive that the guest sees is at work on an order whose sectors the bus master moves to memory
abbrev pub moves_inward : Phase → Bool
moves_inward Reset = false
moves_inward Idle = false
moves_inward (Busy (Good order) done) = goes_inward order.form && moves_by_bus order.form
moves_inward (Busy (Bad reason) done) = false
moves_inward (Ready taken done left) = false

-- a phase with the same order at another position
abbrev pub at_position : ℕ → Phase → Phase
at_position n Reset = Reset
at_position n Idle = Idle
at_position n (Busy taken done) = Busy taken n
at_position n (Ready taken done left) = Ready taken n left

-- the sectors from one up to another have the values of a piece in this device
abbrev pub HoldsPiece : List ℕ → ℕ → ℕ → ℕ → Device → Type 0
HoldsPiece bytes base from end g =
    (s : ℕ) → from ≤ s → s < end → sector_value s g ≡ piece_bytes bytes base s
