-- Work of a drive whose sectors have changed before.
use Rattle.std.proofs.Common.{◌≡◌, ℕ, ◌+◌, ◌<◌, ◌≤◌, Bool, true, false, List, [], is_some, Option, Result, refl, sym, ap, subst, ◌∙◌, arith}
use Rattle.std.specs.Prelude.{if◌then◌else◌, nat_lt, OnOk}
use Rattle.std.proofs.lemmas.Result.{on_ok_weaker}
use Rattle.ata_taskfile.specs.declared.Kind.{Kind}
use Rattle.ata_taskfile.specs.declared.Kind.TheVariants as kind
use Rattle.ata_taskfile.specs.declared.Form.{Form}
use Rattle.ata_taskfile.specs.declared.Form.TheVariants.{PioOut}
use Rattle.ata_taskfile.specs.declared.Request.{Request}
use Rattle.ata_taskfile.specs.declared.Refused.{Refused}
use Rattle.ata_taskfile.specs.declared.Taken.TheVariants.{Good, Bad}
use Rattle.ata_taskfile.specs.declared.Phase.TheVariants.{Busy}
use Rattle.ata_taskfile.specs.declared.Step.{Step}
use Rattle.ata_taskfile.specs.declared.Step.TheVariants as step
use Rattle.ata_taskfile.specs.declared.task_file.TaskFile.{TaskFile}
use Rattle.ata_taskfile.specs.declared.bus_master.Bus.{Bus}
use Rattle.ata_taskfile.specs.Data.{moves_by_bus, takes_words}
use Rattle.ata_taskfile.specs.Lawful.{IsLawfulState}
use Rattle.bm_dma.specs.declared.moves.Moved.{Moved}
use Rattle.bm_dma.specs.Move.{outcome, bus_next}
use Rattle.plain_drive.proofs.Ends.{walked_lawful}
use Rattle.ata_taskfile.specs.TaskFile.{refused}
use Rattle.ata_taskfile.specs.Device.{Cell, Device, powered_on}
use Rattle.plain_drive.specs.Plain.{Plain, with_cells, with_registers}
use Rattle.plain_drive.specs.Change.{Change, leaves, change_in, change_proceeded}
use Rattle.plain_drive.specs.Physical.{Kept, Physical, cells_of, kept_after, keeping, seen, physical_step}
use Rattle.plain_drive.specs.Step.{ended, transferred, offered, loaded, words_due, first_wanted, next_wanted, received, good_step_in, bad_step_in, proceeded, position_after}
use Rattle.drive_model.specs.CachedStore.{IfBothTold}
use Rattle.drive_model.specs.Drive.{worked}
use Rattle.drive_model.proofs.Told.{becomes_told, becomes_same, becomes_so}

-- a drive whose sectors alone have changed
pub kept_becomes : (p : Physical) (n : ℕ) (k new : Kept) (before after : Option (List (List ℕ)))
    → n ≡ p.sectors → IfBothTold (k ≡ new) before after
    → IfBothTold ((memory : List ℕ) → record p { sectors = n; memory = memory; kept = k } ≡ record p
    { memory = memory; kept = new }) before after
kept_becomes p n k new before after same kept = becomes_so (k ≡ new) _ before after
    (λ (kept : k ≡ new) (memory : List ℕ). λ i. record p { sectors = same i; memory = memory; kept = kept i }) kept

-- work for which the cells don't matter
abbrev pub IsBlind : (Plain → Plain) → Type 0
IsBlind work = (cells : List Cell) (p : Plain) (k : Kept) → keeping k (work (with_cells cells p)) ≡ keeping k (work p)

pub ended_blind : IsBlind ended
ended_blind cells p k = refl

pub next_blind : (order : Request) (done : ℕ) → IsBlind (next_wanted order done)
next_blind order done cells p k = either (nat_lt done order.count)
  where
    either : (more : Bool) → keeping k (if more then offered order done [] (with_cells cells p) else ended
        (with_cells cells p))
        ≡ keeping k (if more then offered order done [] p else ended p)
    either true = refl
    either false = refl

-- such work after the sectors have changed, which it leaves
pub worked_becomes : (work : Plain → Plain) → IsBlind work → (change : Change) (p : Physical) (n : ℕ)
    (k : Kept) (new : List ℕ → Physical)
    (before mid after : Option (List (List ℕ))) → n ≡ p.sectors → after ≡ mid
    → ((memory : List ℕ) → new memory ≡ worked leaves work (record p { sectors = n; memory = memory; kept = k }))
    → IfBothTold (k ≡ kept_after change p.kept) before mid
    → IfBothTold ((memory : List ℕ) → new memory ≡ worked change work (record p { memory = memory })) before after
worked_becomes work blind change p n k new before mid after same stays done kept =
    let Q : Type 0 = (memory : List ℕ) → new memory ≡ worked change work (record p { memory = memory }) in
    subst (λ told. IfBothTold (Q) before told) (sym stays)
    (becomes_so (k ≡ kept_after change p.kept) Q before mid
    (λ (kept : k ≡ kept_after change p.kept) (memory : List ℕ).
    done memory
    ∙ (λ i. worked leaves work (record p { sectors = same i; memory = memory; kept = kept i }))
    ∙ blind (cells_of (kept_after change p.kept)) (seen (record p { memory = memory })) (kept_after change p.kept))
    kept)

-- what holds for every memory holds for this one
pub ok_at : {R E : Type 0} (P : List ℕ → Type 0) (memory : List ℕ) (r : Result R E)
    (before after : Option (List (List ℕ)))
    → OnOk r (IfBothTold ((m : List ℕ) → P m) before after) → OnOk r (IfBothTold (P memory) before after)
ok_at P memory r before after ok = on_ok_weaker r (becomes_so ((m : List ℕ) → P m) (P memory) before after
    (λ all. all memory)) ok

-- an order's work, by its form
pub by_form : {R E : Type 0} (form is : Form) (order : Request) (done : ℕ) (old new : List ℕ → Physical)
    (memory : List ℕ) (r : Result R E)
    (before after : Option (List (List ℕ))) → form ≡ is
    → OnOk r (IfBothTold ((m : List ℕ) → new m ≡ worked (change_proceeded is order done (seen (old m)))
    (proceeded is order done) (old m)) before after)
    → OnOk r (IfBothTold (new memory ≡ worked (change_proceeded form order done (seen (old memory)))
    (proceeded form order done) (old memory)) before after)
by_form form is order done old new memory r before after e ok =
    let Q = λ (form : Form) (m : List ℕ). new m ≡ worked (change_proceeded form order done (seen (old m)))
    (proceeded form order done) (old m) in
    subst (λ form. OnOk r (IfBothTold (Q form memory) before after)) (sym e) (ok_at (Q is) memory r before after ok)

-- the words that are due don't depend on the registers
pub due_over : (k : Kind) (s : ℕ) (d : Device) → words_due k s (powered_on d.cells d.sectors) ≡ words_due k s d
due_over kind.Identify s d = refl
due_over kind.Read s d = refl
due_over kind.Write s d = refl
due_over kind.Verify s d = refl
due_over kind.Flush s d = refl
due_over kind.Features s d = refl

-- a block is given of sectors that are told, which stay
pub given_becomes : (order : Request) (done : ℕ) (p : Physical) (n : ℕ) (k : Kept) (words block : List ℕ)
    (new : List ℕ → Physical)
    (before mid after : Option (List (List ℕ))) → n ≡ p.sectors → k ≡ p.kept → mid ≡ before → after ≡ mid
    → block ≡ words
    → (is_some before ≡ true → words ≡ words_due order.kind (order.first + done)
    (powered_on (cells_of p.kept) p.sectors))
    → ((memory : List ℕ) → new memory ≡ worked leaves (offered order done block)
    (record p { sectors = n; memory = memory; kept = k }))
    → IfBothTold ((memory : List ℕ) → new memory ≡ worked leaves (loaded order done)
    (record p { memory = memory })) before after
given_becomes order done p n k words block new before mid after same kept stays stay all due given =
    becomes_told ((memory : List ℕ) → new memory ≡ worked leaves (loaded order done) (record p { memory = memory }))
    before after (stay ∙ stays)
    (λ (told : is_some before ≡ true) (memory : List ℕ).
    let d : Device = (seen (record p { memory = memory })).device in
    let is : block ≡ words_due order.kind (order.first + done) d = all ∙ due told
    ∙ due_over order.kind (order.first + done) d in
    given memory ∙ (λ i. worked leaves (offered order done (is i))
    (record p { sectors = same i; memory = memory; kept = kept i })))

-- the first block of a write is wanted, and the sectors stay
pub first_becomes : (order : Request) (done : ℕ) (p : Physical) (new : List ℕ → Physical)
    (before after : Option (List (List ℕ))) → done ≡ 0 → after ≡ before
    → ((memory : List ℕ) → new memory ≡ worked leaves (first_wanted order) (record p { memory = memory }))
    → IfBothTold ((memory : List ℕ) → new memory
    ≡ worked (change_proceeded PioOut order done (seen (record p { memory = memory }))) (received order done)
    (record p { memory = memory })) before after
first_becomes order done p new before after start stays wanted =
    let Q : Type 0 = (memory : List ℕ) → new memory
    ≡ worked (change_proceeded PioOut order done (seen (record p { memory = memory }))) (received order done)
    (record p { memory = memory }) in
    becomes_same Q before after stays (λ (memory : List ℕ). wanted memory ∙ first memory)
  where
    first : (memory : List ℕ) → worked leaves (first_wanted order) (record p { memory = memory })
        ≡ worked (change_proceeded PioOut order done (seen (record p { memory = memory }))) (received order done)
        (record p { memory = memory })
    first memory = rw start refl

-- a command whose sectors the bus master doesn't move ends without a walk of its own
pub ended_still : (order : Request) (p : Physical) → moves_by_bus order.form ≡ false
    → worked leaves (transferred order) p ≡ worked leaves ended p
ended_still order p still = rw still refl

-- a refused command ends in steps of both kinds
pub refused_ends : (s : Step) (reason : Refused) (done : ℕ) (p : Physical) → p.file.phase ≡ Busy (Bad reason) done
    → worked leaves (with_registers (refused reason p.file)) p ≡ physical_step s p
refused_ends step.Good reason done p e = ap (λ phase. keeping (kept_after (change_in phase (seen p)) p.kept)
    (good_step_in phase (seen p))) (sym e)
refused_ends step.Bad reason done p e = ap (λ phase. keeping p.kept (bad_step_in phase (seen p))) (sym e)

-- a command stands where a move of the bus master leaves it
pub put_walk_lawful : (f : TaskFile) (b bus : Bus) (words n count : ℕ) (order : Request) (done place : ℕ)
    (moved : Moved) (memory : List ℕ)
    → place ≡ position_after moved done → moved ≡ outcome b memory → bus ≡ bus_next b memory → count ≡ n
    → f.phase ≡ Busy (Good order) done → moves_by_bus order.form ≡ true → done < order.count → IsLawfulState f b words n
    → IsLawfulState (record f { phase = Busy (Good order) place }) bus words count
put_walk_lawful f b bus words n count order done place moved memory at is next same e moves more l =
    rw (at, is, next, same) (walked_lawful f b words n order done memory e moves more l)

-- the next block is wanted, or there is none
pub next_more : (order : Request) (done : ℕ) (p : Physical) → done < order.count
    → worked leaves (offered order done []) p ≡ worked leaves (next_wanted order done) p
next_more order done p more = grind arith

pub next_over : (order : Request) (done : ℕ) (p : Physical) → order.count ≤ done → takes_words order.form ≡ true
    → worked leaves (transferred order) p ≡ worked leaves (next_wanted order done) p
next_over order done p over takes =
    let still : moves_by_bus order.form ≡ false = grind arith in
    let past : worked leaves ended p ≡ worked leaves (next_wanted order done) p = grind arith in
    ended_still order p still ∙ past
