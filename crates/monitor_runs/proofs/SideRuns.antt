-- What a command that reaches the drive past the side leaves of what is kept.
use Rattle.std.proofs.Common.{◌≡◌, ℕ, bit_and, refl, arith}
use Rattle.ata_taskfile.specs.declared.Reg.TheVariants as reg
use Rattle.ata_taskfile.specs.declared.Phase.{Phase}
use Rattle.ata_taskfile.specs.declared.Phase.TheVariants.{Reset, Idle, Busy, Ready}
use Rattle.ata_taskfile.specs.Device.{Device, after_write8}
use Rattle.port_lease.specs.declared.view.View.{View}
use Rattle.port_lease.specs.View.{IsKept}

kept_at : (v : View) (x : ℕ) (phase : Phase) (d : Device) → d.file.phase ≡ phase
    → bit_and v.file.control 127 ≡ v.file.control
    → IsKept v d.file → IsKept v (after_write8 reg.Status x d).file
kept_at v x Reset d e low k = grind arith
kept_at v x Idle d e low k = grind arith
kept_at v x (Busy order position) d e low k = grind arith
kept_at v x (Ready order position left) d e low k = grind arith

pub command_keeps : (v : View) (x : ℕ) (d : Device) → bit_and v.file.control 127 ≡ v.file.control
    → IsKept v d.file → IsKept v (after_write8 reg.Status x d).file
command_keeps v x d low k = kept_at v x d.file.phase d refl low k
