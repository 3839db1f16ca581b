use Rattle.std.proofs.Common.{◌≡◌, ◌≤◌, ◌+◌, ℕ, true, is_some, length}
use Rattle.ata_taskfile.specs.declared.Phase.TheVariants.{Busy}
use Rattle.ata_taskfile.specs.declared.Taken.TheVariants.{Good}
use Rattle.ata_taskfile.specs.Device.{Device}
use Rattle.ata_taskfile.specs.Lawful.{position_of}
use Rattle.plain_drive.specs.Plain.{plain}
use Rattle.plain_drive.specs.Step.{AllAct, went}
use Rattle.guest_view.specs.Fits.{FitsView}
use Rattle.guest_view.specs.Seen.{on_monitor_side}
use Rattle.redirect.specs.Scatter.{HoldsPiece}
use Rattle.redirect.proofs.scattering.move_sectors.Given as goal

-- the steps so far; while the walk goes on each of them has moved a sector
abbrev pub invariant-loop-sector : goal.invariant-loop-sector
invariant-loop-sector l = record {
  place : l.sector ≡ l.order.first + (l.done + l.moved);
  begun : l.moved ≡ 0 → l.view ≡ l.initial.view;
  walks : is_some l.view.bus.walk ≡ true → l.view.file.phase ≡ Busy (Good l.order) (l.done + l.moved);
  file : l.view.file ≡ record l.initial.view.file { phase = Busy (Good l.order) (position_of l.view.file.phase) };
  from : l.done ≤ position_of l.view.file.phase;
  within : position_of l.view.file.phase ≤ l.done + l.moved;
  steps : (d g : Device) → HoldsPiece l.bytes l.base (l.order.first + l.done) l.end g
      → plain (on_monitor_side l.view d g) l.memory
      ≡ went l.moved (plain (on_monitor_side l.initial.view d g) l.initial.memory);
  act : (d g : Device) → HoldsPiece l.bytes l.base (l.order.first + l.done) l.end g
      → AllAct l.moved (plain (on_monitor_side l.initial.view d g) l.initial.memory);
  fits : (sectors : ℕ) → FitsView l.initial.view sectors → FitsView l.view sectors;
  size : length l.memory ≡ length l.initial.memory;
}
