-- What the drive's steps make of the sectors of an own command.
use Rattle.std.proofs.Common.{◌≡◌, ℕ, ◌+◌, true, false, zero, suc, List, refl, sym, subst, arith}
use Rattle.ata_taskfile.specs.declared.Refused.{Refused}
use Rattle.ata_taskfile.specs.declared.Request.{Request}
use Rattle.ata_taskfile.specs.declared.Taken.TheVariants.{Good, Bad}
use Rattle.ata_taskfile.specs.declared.Phase.{Phase}
use Rattle.ata_taskfile.specs.declared.Phase.TheVariants.{Reset, Idle, Busy, Ready}
use Rattle.ata_taskfile.specs.declared.Step.{Step}
use Rattle.ata_taskfile.specs.declared.Step.TheVariants as step
use Rattle.ata_taskfile.specs.declared.Stepped.{Stepped}
use Rattle.ata_taskfile.specs.Device.{Device, Cell}
use Rattle.ata_taskfile.specs.Lawful.{IsLawful}
use Rattle.plain_drive.specs.Plain.{Plain, with_cells}
use Rattle.plain_drive.specs.Step.{step_made}
use Rattle.plain_drive.specs.Physical.{AreEndsOf}
use Rattle.plain_drive.specs.Seen.{HasStepped, HasLetGo}
use Rattle.plain_drive.proofs.CellEnds.{ends-current}
use Rattle.plain_drive.proofs.EndsOfEnds.{ends-same, ends-ends, ends-appended, ends-flushed}
use Rattle.own_pio.specs.declared.job.OwnJob.{OwnJob}
use Rattle.own_pio.specs.declared.job.OwnJob.TheVariants.{Read, Write, Flush}
use Rattle.own_pio.specs.Running.{IsBegun, IsRunning}
use Rattle.own_pio.specs.Kept.{IsDoneSoFar}
use Rattle.own_pio.proofs.Steps.{gave_up, gone, good_order, stands_at}

-- a job that has just begun
pub begun_kept : (job : OwnJob) (bytes : List ℕ) (old new : Device) → IsBegun true job old new
    → IsDoneSoFar job 0 bytes bytes old.cells new
begun_kept job bytes old new begun = grind (arith, ends-same)

module _ (bytes start : List ℕ) (origin : List Cell) where
  read_kept : (first count done : ℕ) (order : Request) (position : ℕ) (p : Plain)
      → p.device.file.phase ≡ Busy (Good order) position → IsRunning (Read first count) done p.device
      → IsDoneSoFar (Read first count) done bytes start origin p.device
      → IsDoneSoFar (Read first count) done bytes start origin (gone (Busy (Good order) position) p).device
  read_kept first count done order position p e r k =
      let s = stands_at (Read first count) done (Busy (Good order) position) p e r in
      let is = good_order (Read first count) order p.device.sectors s.order_is in
      let same = ends-current p.device.cells origin (first + done) k.cells in
      grind (arith, s, is, same)

  first_kept : (first count : ℕ) (order : Request) (position : ℕ) (p : Plain)
      → p.device.file.phase ≡ Busy (Good order) position → IsRunning (Write first count) zero p.device
      → IsDoneSoFar (Write first count) zero bytes start origin p.device
      → IsDoneSoFar (Write first count) zero bytes start origin (gone (Busy (Good order) position) p).device
  first_kept first count order position p e r k =
      let s = stands_at (Write first count) zero (Busy (Good order) position) p e r in
      let is = good_order (Write first count) order p.device.sectors s.order_is in
      grind (arith, s, is)

  more_kept : (first count m : ℕ) (order : Request) (position : ℕ) (p : Plain)
      → p.device.file.phase ≡ Busy (Good order) position → IsLawful p.device
      → IsRunning (Write first count) (suc m) p.device
      → IsDoneSoFar (Write first count) (suc m) bytes start origin p.device
      → IsDoneSoFar (Write first count) (suc m) bytes start origin (gone (Busy (Good order) position) p).device
  more_kept first count m order position p e l r k =
      let well : p.device.file.failed ≡ false = l.registers.not_failed (rw e refl) in
      let s = stands_at (Write first count) (suc m) (Busy (Good order) position) p e r in
      let is = good_order (Write first count) order p.device.sectors s.order_is in
      grind (arith, s, is, well, ends-appended)

  flush_kept : (done : ℕ) (order : Request) (position : ℕ) (p : Plain)
      → p.device.file.phase ≡ Busy (Good order) position → IsLawful p.device → IsRunning Flush done p.device
      → IsDoneSoFar Flush done bytes start origin p.device → IsDoneSoFar Flush done bytes start origin
      (gone (Busy (Good order) position) p).device
  flush_kept done order position p e l r k =
      let well : p.device.file.failed ≡ false = l.registers.not_failed (rw e refl) in
      let s = stands_at Flush done (Busy (Good order) position) p e r in
      let is = good_order Flush order p.device.sectors s.order_is in
      grind (arith, s, is, well, ends-flushed)

  failed_kept : (job : OwnJob) (done : ℕ) (order : Request) (position : ℕ) (p : Plain)
      → p.device.file.phase ≡ Busy (Good order) position
      → IsDoneSoFar job done bytes start origin p.device → IsDoneSoFar job done bytes start origin
      (gave_up (Busy (Good order) position) p).device
  failed_kept job done order position p e k = grind arith

  refused_kept : (job : OwnJob) (done : ℕ) (reason : Refused) (position : ℕ) (p : Plain)
      → p.device.file.phase ≡ Busy (Bad reason) position
      → IsDoneSoFar job done bytes start origin p.device → IsDoneSoFar job done bytes start origin
      (gave_up (Busy (Bad reason) position) p).device
  refused_kept job done reason position p e k = grind arith

  good_kept : (job : OwnJob) (done : ℕ) (phase : Phase) (p : Plain) → p.device.file.phase ≡ phase
      → IsLawful p.device → IsRunning job done p.device
      → IsDoneSoFar job done bytes start origin p.device → IsDoneSoFar job done bytes start origin (gone phase p).device
  good_kept job done Reset p e l r k = absurd (stands_at job done Reset p e r)
  good_kept job done Idle p e l r k = k
  good_kept job done (Ready taken position left) p e l r k = k
  good_kept job done (Busy (Bad reason) position) p e l r k = refused_kept job done reason position p e k
  good_kept (Read first count) done (Busy (Good order) position) p e l r k =
      read_kept first count done order position p e r k
  good_kept (Write first count) zero (Busy (Good order) position) p e l r k =
      first_kept first count order position p e r k
  good_kept (Write first count) (suc m) (Busy (Good order) position) p e l r k =
      more_kept first count m order position p e l r k
  good_kept Flush done (Busy (Good order) position) p e l r k = flush_kept done order position p e l r k

  bad_kept : (job : OwnJob) (done : ℕ) (phase : Phase) (p : Plain) → p.device.file.phase ≡ phase
      → IsDoneSoFar job done bytes start origin p.device → IsDoneSoFar job done bytes start origin
      (gave_up phase p).device
  bad_kept job done Reset p e k = k
  bad_kept job done Idle p e k = k
  bad_kept job done (Ready taken position left) p e k = k
  bad_kept job done (Busy (Bad reason) position) p e k = refused_kept job done reason position p e k
  bad_kept job done (Busy (Good order) position) p e k = failed_kept job done order position p e k

  -- older values that are let go
  cells_let_go : (job : OwnJob) (done : ℕ) (cells : List Cell) (p : Plain) → AreEndsOf cells p.device.cells
      → IsDoneSoFar job done bytes start origin p.device
      → IsDoneSoFar job done bytes start origin (with_cells cells p).device
  cells_let_go job done cells p ends k = record {
    cells = ends-ends cells p.device.cells _ ends k.cells;
    given = k.given;
    block = k.block;
    bytes_are = k.bytes_are;
  }

step_kept : (job : OwnJob) (done : ℕ) (bytes start : List ℕ) (origin : List Cell) (s : Step) (p : Plain)
    → IsLawful p.device → IsRunning job done p.device
    → IsDoneSoFar job done bytes start origin p.device → IsDoneSoFar job done bytes start origin (step_made s p).device
step_kept job done bytes start origin step.Good p l r k = good_kept bytes start origin job done
    p.device.file.phase p refl l r k
step_kept job done bytes start origin step.Bad p l r k = bad_kept bytes start origin job done p.device.file.phase
    p refl k

pub stepped_kept : (job : OwnJob) (done : ℕ) (bytes start : List ℕ) (origin : List Cell) (s : Step)
    (answer : Stepped) (old new : Plain) → IsLawful old.device → IsRunning job done old.device
    → IsDoneSoFar job done bytes start origin old.device → HasStepped s answer old new
    → IsDoneSoFar job done bytes start origin new.device
stepped_kept job done bytes start origin s answer old new l r k stepped =
    subst (λ (q : Plain). IsDoneSoFar job done bytes start origin q.device) (sym stepped.after)
    (cells_let_go bytes start origin job done new.device.cells (step_made s old) stepped.cells
    (step_kept job done bytes start origin s old l r k))

pub let_go_kept : (job : OwnJob) (done : ℕ) (bytes start : List ℕ) (origin : List Cell) (old new : Plain)
    → IsDoneSoFar job done bytes start origin old.device → HasLetGo old new
    → IsDoneSoFar job done bytes start origin new.device
let_go_kept job done bytes start origin old new k gone =
    subst (λ (q : Plain). IsDoneSoFar job done bytes start origin q.device) (sym gone.after)
    (cells_let_go bytes start origin job done new.device.cells old gone.cells k)
