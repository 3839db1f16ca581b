-- A redirected read that the monitor works on.
use Rattle.std.specs.Prelude.{ℕ, ◌≡◌, ◌+◌, Bool, true, false, nat_le, Some}
use Rattle.ata_taskfile.specs.declared.Taken.TheVariants.{Good}
use Rattle.ata_taskfile.specs.declared.Phase.TheVariants.{Busy}
use Rattle.own_pio.specs.declared.job.OwnJob.{OwnJob}
use Rattle.own_pio.specs.declared.job.OwnJob.TheVariants.{Read, Write, Flush}
use Rattle.port_lease.specs.declared.view.View.{View}
use Rattle.redirect.specs.declared.redirect.Redirect.{Redirect}
use Rattle.redirect.specs.Next.{request_of}
use Rattle.monitor_state.specs.declared.parts.Parts.{Parts}

-- a redirected read is in hand at a position, and nothing of the monitor's work for it has failed
pub record IsWorkedOn (v : View) (p : Parts) (redirect : Redirect) (done : ℕ) : Type 0 where
  pub phase : v.file.phase ≡ Busy (Good (request_of redirect)) done
  pub redirect_is : p.hand.redirect ≡ Some redirect
  pub unfailed : p.hand.failed ≡ false

-- the sectors that a job moves are those of a disk of so many
abbrev pub is_on_disk : OwnJob → ℕ → Bool
is_on_disk (Read first count) sectors = nat_le (first + count) sectors
is_on_disk (Write first count) sectors = nat_le (first + count) sectors
is_on_disk Flush sectors = true
