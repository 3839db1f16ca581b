-- Where a command stands lies within its sectors, and these within the disk's.
use Rattle.std.proofs.Common.{◌≡◌, ℕ, ◌+◌, ◌<◌, ◌≤◌, Option, Some, subst, arith}
use Rattle.std.specs.Prelude.{IfSome}
use Rattle.ata_taskfile.specs.declared.Form.{Form}
use Rattle.ata_taskfile.specs.declared.Form.TheVariants.{NoMove, PioIn, PioOut, DmaIn, DmaOut}
use Rattle.ata_taskfile.specs.declared.Request.{Request}
use Rattle.ata_taskfile.specs.declared.Taken.TheVariants.{Good}
use Rattle.ata_taskfile.specs.declared.Phase.TheVariants.{Busy, Ready}
use Rattle.ata_taskfile.specs.Lawful.{IsLawfulPhase, end_of, wait_end, work_end}
use Rattle.port_lease.specs.declared.view.View.{View}
use Rattle.guest_view.specs.Fits.{FitsView}
use Rattle.monitor_state.specs.declared.held.HeldPiece.{HeldPiece}
use Rattle.monitor_state.specs.State.{end_of_piece}

work_within : (form : Form) (count done : ℕ) → done < work_end form count → done ≤ count
work_within NoMove count done below = omega (arith, below)
work_within PioIn count done below = omega (arith, below)
work_within PioOut count done below = omega (arith, below)
work_within DmaIn count done below = omega (arith, below)
work_within DmaOut count done below = omega (arith, below)

wait_within : (form : Form) (count done : ℕ) → done < wait_end form count → done < count
wait_within NoMove count done below = absurd (omega (arith, below))
wait_within PioIn count done below = below
wait_within PioOut count done below = below
wait_within DmaIn count done below = absurd (omega (arith, below))
wait_within DmaOut count done below = absurd (omega (arith, below))

-- the sector that comes next of a command at work is the disk's, or the one behind its last
pub busy_within : (v : View) (order : Request) (done sectors : ℕ) → FitsView v sectors
    → v.file.phase ≡ Busy (Good order) done → order.first + done ≤ sectors
busy_within v order done sectors fits is =
    let lawful : IsLawfulPhase (Busy (Good order) done) = subst IsLawfulPhase is fits.lawful.goes_on in
    let within : order.first + order.count ≤ sectors = subst (λ phase. end_of phase ≤ sectors) is fits.within in
    omega (arith, within, work_within order.form order.count done lawful.goes_on)

-- the sector of a block that is offered is the disk's
pub ready_within : (v : View) (order : Request) (done left sectors : ℕ) → FitsView v sectors
    → v.file.phase ≡ Ready (Good order) done left → order.first + done < sectors
ready_within v order done left sectors fits is =
    let lawful : IsLawfulPhase (Ready (Good order) done left) = subst IsLawfulPhase is fits.lawful.goes_on in
    let within : order.first + order.count ≤ sectors = subst (λ phase. end_of phase ≤ sectors) is fits.within in
    omega (arith, within, wait_within order.form order.count done lawful.goes_on)

-- a piece that is held lies on the disk
pub piece_within : (piece : Option HeldPiece) (held : HeldPiece) (sectors : ℕ)
    → IfSome piece (λ held. end_of_piece held ≤ sectors) → piece ≡ Some held → end_of_piece held ≤ sectors
piece_within piece held sectors within is =
    subst (λ piece. IfSome piece (λ held. end_of_piece held ≤ sectors)) is within
