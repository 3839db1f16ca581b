-- What the drive's steps make of a dummy read.
use Rattle.std.proofs.Common.{◌≡◌, ℕ, Bool, List, refl, sym, subst, arith}
use Rattle.ata_taskfile.specs.declared.Refused.{Refused}
use Rattle.ata_taskfile.specs.declared.Request.{Request}
use Rattle.ata_taskfile.specs.declared.Taken.TheVariants.{Good, Bad}
use Rattle.ata_taskfile.specs.declared.Phase.{Phase}
use Rattle.ata_taskfile.specs.declared.Phase.TheVariants.{Reset, Idle, Busy, Ready}
use Rattle.ata_taskfile.specs.declared.Step.{Step}
use Rattle.ata_taskfile.specs.declared.Step.TheVariants as step
use Rattle.ata_taskfile.specs.declared.Stepped.{Stepped}
use Rattle.ata_taskfile.specs.Device.{Cell}
use Rattle.plain_drive.specs.Plain.{Plain, with_cells}
use Rattle.plain_drive.specs.Step.{step_made}
use Rattle.plain_drive.specs.Seen.{HasStepped, HasLetGo}
use Rattle.own_pio.proofs.Steps.{dev_kept, gave_up, gone, good_order}
use Rattle.dummy_read.specs.Dummy.{job_on}
use Rattle.dummy_read.specs.Flight.{FliesIn, IsInFlight}

-- where the drive stands, by its phase
stands_at : (sector : ℕ) (cancelled : Bool) (phase : Phase) (p : Plain) → p.device.file.phase ≡ phase
    → IsInFlight sector cancelled p.device → FliesIn phase p.device.file.failed sector p.device.sectors
stands_at sector cancelled phase p e f = let P : Phase
    → Type 0 = λ x. FliesIn x p.device.file.failed sector p.device.sectors in subst P e f.stands

read_flies : (sector : ℕ) (cancelled : Bool) (order : Request) (position : ℕ) (p : Plain)
    → p.device.file.phase ≡ Busy (Good order) position
    → IsInFlight sector cancelled p.device → IsInFlight sector cancelled (gone (Busy (Good order) position) p).device
read_flies sector cancelled order position p e f =
    let s = stands_at sector cancelled (Busy (Good order) position) p e f in
    let is = good_order (job_on sector) order p.device.sectors s.order_is in
    grind (arith, s, is)

failed_flies : (sector : ℕ) (cancelled : Bool) (order : Request) (position : ℕ) (p : Plain)
    → IsInFlight sector cancelled p.device → IsInFlight sector cancelled (gave_up (Busy (Good order) position) p).device
failed_flies sector cancelled order position p f = grind (arith, dev_kept)

refused_flies : (sector : ℕ) (cancelled : Bool) (reason : Refused) (position : ℕ) (p : Plain)
    → IsInFlight sector cancelled p.device → IsInFlight sector cancelled (gave_up (Busy (Bad reason) position) p).device
refused_flies sector cancelled reason position p f = grind arith

good_flies : (sector : ℕ) (cancelled : Bool) (phase : Phase) (p : Plain) → p.device.file.phase ≡ phase
    → IsInFlight sector cancelled p.device → IsInFlight sector cancelled (gone phase p).device
good_flies sector cancelled Reset p e f = absurd (stands_at sector cancelled Reset p e f)
good_flies sector cancelled Idle p e f = f
good_flies sector cancelled (Ready taken position left) p e f = f
good_flies sector cancelled (Busy (Bad reason) position) p e f = refused_flies sector cancelled reason position p f
good_flies sector cancelled (Busy (Good order) position) p e f = read_flies sector cancelled order position p e f

bad_flies : (sector : ℕ) (cancelled : Bool) (phase : Phase) (p : Plain) → IsInFlight sector cancelled p.device
    → IsInFlight sector cancelled (gave_up phase p).device
bad_flies sector cancelled Reset p f = f
bad_flies sector cancelled Idle p f = f
bad_flies sector cancelled (Ready taken position left) p f = f
bad_flies sector cancelled (Busy (Bad reason) position) p f = refused_flies sector cancelled reason position p f
bad_flies sector cancelled (Busy (Good order) position) p f = failed_flies sector cancelled order position p f

-- other cells change nothing of where the drive stands
cells_let_go : (sector : ℕ) (cancelled : Bool) (cells : List Cell) (p : Plain) → IsInFlight sector cancelled p.device
    → IsInFlight sector cancelled (with_cells cells p).device
cells_let_go sector cancelled cells p f =
    record { selected = f.selected; stands = f.stands; pending = f.pending; masked = f.masked }

step_flies : (sector : ℕ) (cancelled : Bool) (s : Step) (p : Plain) → IsInFlight sector cancelled p.device
    → IsInFlight sector cancelled (step_made s p).device
step_flies sector cancelled step.Good p f = good_flies sector cancelled p.device.file.phase p refl f
step_flies sector cancelled step.Bad p f = bad_flies sector cancelled p.device.file.phase p f

pub stepped_flies : (sector : ℕ) (cancelled : Bool) (s : Step) (answer : Stepped) (old new : Plain)
    → IsInFlight sector cancelled old.device → HasStepped s answer old new → IsInFlight sector cancelled new.device
stepped_flies sector cancelled s answer old new f stepped =
    subst (λ (q : Plain). IsInFlight sector cancelled q.device) (sym stepped.after)
    (cells_let_go sector cancelled new.device.cells (step_made s old) (step_flies sector cancelled s old f))

pub let_go_flies : (sector : ℕ) (cancelled : Bool) (old new : Plain) → IsInFlight sector cancelled old.device
    → HasLetGo old new → IsInFlight sector cancelled new.device
let_go_flies sector cancelled old new f gone =
    subst (λ (q : Plain). IsInFlight sector cancelled q.device) (sym gone.after)
    (cells_let_go sector cancelled new.device.cells old f)
