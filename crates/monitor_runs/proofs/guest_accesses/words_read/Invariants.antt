use Rattle.std.proofs.Common.{◌≡◌, ℕ, false, true}
use Rattle.drive_model.specs.Drive.{device_of}
use Rattle.dummy_read.specs.Flight.{IsInFlight}
use Rattle.guest_view.specs.Fits.{FitsView}
use Rattle.monitor_runs.proofs.guest_accesses.words_read.Given as goal

abbrev pub invariant-loop : goal.invariant-loop
invariant-loop l =
    (FitsView l.side.view 512)
    × (l.fn.side.view.file.pending ≡ false → l.side.view.file.pending ≡ false)
    × ((sector : ℕ) → l.fn.waits ≡ true → l.fn.side.view.file.pending ≡ false
    → IsInFlight sector false (device_of l.fn.machine.drive) → IsInFlight sector false (device_of l.machine.drive))
