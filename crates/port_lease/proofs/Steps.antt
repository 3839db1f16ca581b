-- What the drive's steps keep.
use Rattle.std.proofs.Common.{◌≡◌, ℕ, true, false, refl, arith}
use Rattle.ata_taskfile.specs.declared.Form.{Form}
use Rattle.ata_taskfile.specs.declared.Form.TheVariants.{NoMove, PioIn, PioOut, DmaIn, DmaOut}
use Rattle.ata_taskfile.specs.declared.Request.{Request}
use Rattle.ata_taskfile.specs.declared.Taken.TheVariants.{Good, Bad}
use Rattle.ata_taskfile.specs.declared.Phase.{Phase}
use Rattle.ata_taskfile.specs.declared.Phase.TheVariants.{Reset, Idle, Busy, Ready}
use Rattle.ata_taskfile.specs.declared.Step.{Step}
use Rattle.ata_taskfile.specs.declared.Step.TheVariants as step
use Rattle.ata_taskfile.specs.Data.{moves_by_bus}
use Rattle.ata_taskfile.specs.Device.{is_moving}
use Rattle.plain_drive.specs.Plain.{Plain}
use Rattle.plain_drive.specs.Step.{acts_in, proceeded, good_step_in, bad_step_in, step_made}
use Rattle.plain_drive.proofs.Steps.{step_made_no}
use Rattle.port_lease.specs.declared.view.View.{View}
use Rattle.port_lease.specs.View.{IsKept, IsGiven}
use Rattle.port_lease.specs.Free.{is_free}

module _ (v : View) where
  proceeded-kept : (form : Form) (order : Request) (done : ℕ) (p : Plain)
      → p.device.file.phase ≡ Busy (Good order) done → IsKept v p.device.file
      → IsKept v (proceeded form order done p).device.file
  proceeded-kept NoMove order done p e k = grind arith
  proceeded-kept PioIn order done p e k = grind arith
  proceeded-kept PioOut order done p e k = grind arith
  proceeded-kept DmaIn order done p e k = grind arith
  proceeded-kept DmaOut order done p e k = grind arith

  good_step_in-kept : (phase : Phase) (p : Plain) → p.device.file.phase ≡ phase → IsKept v p.device.file
      → IsKept v (good_step_in phase p).device.file
  good_step_in-kept Reset p e k = grind arith
  good_step_in-kept Idle p e k = k
  good_step_in-kept (Ready taken done left) p e k = k
  good_step_in-kept (Busy (Bad reason) done) p e k = grind arith
  good_step_in-kept (Busy (Good order) done) p e k = proceeded-kept order.form order done p e k

  failed-kept : (phase : Phase) (p : Plain) → p.device.file.phase ≡ phase → IsKept v p.device.file
      → IsKept v (bad_step_in phase p).device.file
  failed-kept Reset p e k = k
  failed-kept Idle p e k = k
  failed-kept (Ready taken done left) p e k = k
  failed-kept (Busy (Bad reason) done) p e k = grind arith
  failed-kept (Busy (Good order) done) p e k = grind arith

  pub step-kept : (s : Step) (p : Plain) → IsKept v p.device.file → IsKept v (step_made s p).device.file
  step-kept step.Good p k = good_step_in-kept p.device.file.phase p refl k
  step-kept step.Bad p k = failed-kept p.device.file.phase p refl k

-- a step begins no order of the bus master's
proceeded-moves : (form : Form) (order : Request) (done : ℕ) (p : Plain)
    → p.device.file.phase ≡ Busy (Good order) done → moves_by_bus order.form ≡ false
    → moves_by_bus form ≡ false → is_moving (proceeded form order done p).device.file.phase ≡ false
proceeded-moves NoMove order done p e calm is = refl
proceeded-moves PioIn order done p e calm is = refl
proceeded-moves PioOut order done p e calm is = grind arith
proceeded-moves DmaIn order done p e calm is = cc
proceeded-moves DmaOut order done p e calm is = cc

stepped-moves : (phase : Phase) (p : Plain) → p.device.file.phase ≡ phase → is_moving phase ≡ false
    → is_moving (good_step_in phase p).device.file.phase ≡ false
stepped-moves Reset p e calm = grind arith
stepped-moves Idle p e calm = rw e refl
stepped-moves (Ready taken done left) p e calm = rw e refl
stepped-moves (Busy (Bad reason) done) p e calm = refl
stepped-moves (Busy (Good order) done) p e calm = proceeded-moves order.form order done p e calm calm

failed-moves : (phase : Phase) (p : Plain) → p.device.file.phase ≡ phase → is_moving phase ≡ false
    → is_moving (bad_step_in phase p).device.file.phase ≡ false
failed-moves Reset p e calm = rw e refl
failed-moves Idle p e calm = rw e refl
failed-moves (Ready taken done left) p e calm = rw e refl
failed-moves (Busy (Bad reason) done) p e calm = refl
failed-moves (Busy (Good order) done) p e calm = refl

pub step-given : (v : View) (s : Step) (p : Plain) → IsGiven v p.device → IsGiven v (step_made s p).device
step-given v step.Good p given = λ calm. stepped-moves p.device.file.phase p refl (given calm)
step-given v step.Bad p given = λ calm. failed-moves p.device.file.phase p refl (given calm)

-- a free drive is in Idle
is_idle : (phase : Phase) (p : Plain) → p.device.file.phase ≡ phase → is_free p.device.file ≡ true → phase ≡ Idle
is_idle phase p e free = grind arith

idle-acts : (s : Step) (phase : Phase) (p : Plain) → phase ≡ Idle → acts_in s phase p ≡ false
idle-acts step.Good phase p e = rw e refl
idle-acts step.Bad phase p e = rw e refl

pub step-free : (s : Step) (p : Plain) → is_free p.device.file ≡ true → step_made s p ≡ p
step-free s p free = step_made_no s p (idle-acts s p.device.file.phase p (is_idle p.device.file.phase p refl free))
