-- The sectors that a step changes, by the phase and the order in hand.
use Rattle.std.proofs.Common.{◌≡◌, ℕ, ◌<◌, true, zero, suc, List, refl, ap, ◌∙◌, arith}
use Rattle.ata_taskfile.specs.declared.Phase.{Phase}
use Rattle.ata_taskfile.specs.declared.Step.{Step}
use Rattle.ata_taskfile.specs.declared.Step.TheVariants as step
use Rattle.ata_taskfile.specs.Lawful.{IsLawful, has_possible_order, position_of, position_end}
use Rattle.plain_drive.specs.Change.{Change, leaves, writes, flushes, cells_after, change_in, change_made}
use Rattle.plain_drive.specs.Plain.{Plain}
use Rattle.plain_drive.specs.Step.{bad_step_in, good_step_in, step_made, went}
use Rattle.overlay.specs.Steps.{leaves_sectors, WritesWithin, FlushesIn}

good_leaves : (phase : Phase) (p : Plain) → leaves_sectors phase ≡ true → change_in phase p ≡ leaves
good_leaves phase p still = grind arith

-- a step changes no sector where the order in hand gives data, or the drive is at work on none
pub step_leaves : (s : Step) (p : Plain) → leaves_sectors p.device.file.phase ≡ true
    → (step_made s p).device.cells ≡ p.device.cells
step_leaves step.Good p still =
    ap (λ (change : Change). cells_after change p.device.cells) (good_leaves p.device.file.phase p still)
step_leaves step.Bad p still = refl

good_stays : (phase : Phase) (p : Plain) → p.device.file.phase ≡ phase → leaves_sectors phase ≡ true
    → leaves_sectors (good_step_in phase p).device.file.phase ≡ true
good_stays phase p is still = grind arith

bad_stays : (phase : Phase) (p : Plain) → p.device.file.phase ≡ phase → leaves_sectors phase ≡ true
    → leaves_sectors (bad_step_in phase p).device.file.phase ≡ true
bad_stays phase p is still = grind arith

-- nor will the next step change one
pub step_stays : (s : Step) (p : Plain) → leaves_sectors p.device.file.phase ≡ true
    → leaves_sectors (step_made s p).device.file.phase ≡ true
step_stays step.Good p still = good_stays p.device.file.phase p refl still
step_stays step.Bad p still = bad_stays p.device.file.phase p refl still

went_stays : (n : ℕ) (p : Plain) → leaves_sectors p.device.file.phase ≡ true
    → leaves_sectors (went n p).device.file.phase ≡ true
went_stays zero p still = still
went_stays (suc n) p still = step_stays step.Good (went n p) (went_stays n p still)

-- good steps change no sector there, however many follow
pub went_leaves : (n : ℕ) (p : Plain) → leaves_sectors p.device.file.phase ≡ true
    → (went n p).device.cells ≡ p.device.cells
went_leaves zero p still = refl
went_leaves (suc n) p still = step_leaves step.Good (went n p) (went_stays n p still) ∙ went_leaves n p still

good_writes : (phase : Phase) (p : Plain) (sector : ℕ) (value : List ℕ) → has_possible_order phase ≡ true
    → position_of phase < position_end phase → change_in phase p ≡ writes sector value → WritesWithin phase sector
good_writes phase p sector value possible below is = grind arith

-- a step writes no sector but one in the range of an order whose data goes to the drive
pub step_writes : (s : Step) (p : Plain) (sector : ℕ) (value : List ℕ) → IsLawful p.device
    → change_made s p ≡ writes sector value → WritesWithin p.device.file.phase sector
step_writes step.Good p sector value lawful is =
    let phase = lawful.registers.goes_on in
    good_writes p.device.file.phase p sector value phase.possible phase.goes_on is
step_writes step.Bad p sector value lawful is = absurd cc

good_flushes : (phase : Phase) (p : Plain) → change_in phase p ≡ flushes → FlushesIn phase
good_flushes phase p is = grind arith

-- a step makes sectors durable for a flush alone
pub step_flushes : (s : Step) (p : Plain) → change_made s p ≡ flushes → FlushesIn p.device.file.phase
step_flushes step.Good p is = good_flushes p.device.file.phase p is
step_flushes step.Bad p is = absurd cc
