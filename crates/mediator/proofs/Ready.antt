-- What a call leaves of the helpful turns that stand before a monitor is ready.
use Rattle.std.proofs.Common.{◌≡◌, ◌≤◌, ◌<◌, ℕ, zero, suc, ◌+◌, ◌*◌, Bool, true, false, not, ◌&&◌, if◌then◌else◌, List, [], ◌∷◌, ◌++◌, Option, ◌⊎◌, inl, inr, refl, sym, ap, ◌∙◌, subst, arith}
use Rattle.std.proofs.lemmas.Bool.{true≢false}
use Rattle.ata_taskfile.specs.declared.registers.TheConstants.{BSY}
use Rattle.ata_taskfile.specs.declared.Step.{Step}
use Rattle.ata_taskfile.specs.declared.Step.TheVariants as step
use Rattle.ata_taskfile.specs.declared.Stepped.{Stepped}
use Rattle.ata_taskfile.specs.declared.Stepped.TheVariants.{Changed, Nothing}
use Rattle.ata_taskfile.specs.TaskFile.{has_bit, status}
use Rattle.ata_taskfile.specs.Device.{Device}
use Rattle.plain_drive.specs.Plain.{Plain}
use Rattle.plain_drive.specs.Seen.{HasLetGo, HasStepped}
use Rattle.plain_drive.specs.Step.{acts, stepped_if}
use Rattle.plain_drive.proofs.Steps.{step_made_no}
use Rattle.dummy_read.specs.Flight.{ended}
use Rattle.fill_bitmap.specs.declared.area.Area.{Area}
use Rattle.fill_bitmap.specs.Area.{bitmap_sectors_of}
use Rattle.fill_store.specs.Opening.{OpeningState}
use Rattle.schedule_text.specs.declared.Item.{Item}
use Rattle.streaming.specs.Helpful.{HasHelpful, IsHelpful, IsReadyInTime, SteppedWell, is_good_step, is_turn, ready_bound, sets_back}
use Rattle.streaming.specs.Lines.{Call, Line, line_of}
use Rattle.streaming.specs.Lines.Call.{of_access, of_turn, of_step, of_tick, of_frame, of_power_on}
use Rattle.streaming.specs.Monitor.{item_of}
use Rattle.streaming.specs.Open.{is_at_power_on}
use Rattle.streaming.specs.Sources.{is_power_on}
use Rattle.streaming.proofs.Helpful.{none_behind, none_more, stepped_before, turns_help, unready_before, untold_ready}
use Rattle.monitor_state.specs.declared.state.State.{State}
use Rattle.monitor_state.specs.declared.state.State.TheVariants.{Guest, Monitor, Running, Raising, Moving}
use Rattle.monitor_state.specs.declared.parts.Parts.{Parts}
use Rattle.monitor_state.specs.Fits.{FitsParts, FitsState}
use Rattle.monitor_state.specs.Opening.{OpeningStays, opening_left}
use Rattle.monitor_state.specs.Start.{IsBegun}
use Rattle.monitor_state.specs.State.{is_opened}
use Rattle.monitor_state.proofs.Begun.{closed}
use Rattle.monitor_state.proofs.OpeningLeft.{jobs_most, left_most, same_left}
use Rattle.monitor_access.specs.Parts.{KeepsOthers}
use Rattle.monitor_turn.specs.Opening.{OpeningFalls, OpeningHolds}
use Rattle.monitor_turn.specs.Turned.{KeepsImage, TellsReady}
use Rattle.monitor_events.specs.Shown.{HasComeTo}
use Rattle.monitor_events.specs.Stepping.{device_after_step, ends_dummy, parts_after_step}
use Rattle.mediator.specs.Mediator.{StartsWith}
use Rattle.mediator.specs.Ready.{BecomesReady, IsInTime, OpensInTime}
use Rattle.mediator.proofs.Stepped.{stepped_others}

same_in_time : (block most left after : ℕ) (was is : Bool) (lines : List Line) → after ≡ left → is ≡ was
    → IsInTime block most left was lines → IsInTime block most after is lines
same_in_time block most left after was is lines same shows has = record {
  below = λ n helped. omega (arith, same, has.below n helped);
  waits = λ works stepped n helped. omega (arith, same, has.waits (sym shows ∙ works) stepped n helped);
}

-- a line that is no turn and no good step
still_in_time : (block most left : ℕ) (at_work : Bool) (line : Line) (lines : List Line) → is_turn line.call ≡ false
    → is_good_step line.call ≡ false → IsInTime block most left at_work lines
    → IsInTime block most left at_work (line ∷ lines)
still_in_time block most left at_work line lines turn good has =
    let other = turns_help block line lines turn in record {
      below = λ n helped. has.below n (none_more block n line lines other helped);
      waits = λ works stepped n helped.
          has.waits works (stepped_before block line lines good stepped) n
          (none_more block n line lines other helped);
    }

-- one that is no turn, by which no more is left, and behind which the drive isn't at work
rested_in_time : (block most left after : ℕ) (was is : Bool) (line : Line) (lines : List Line)
    → is_turn line.call ≡ false → after ≤ left → is ≡ false → IsInTime block most left was lines
    → IsInTime block most after is (line ∷ lines)
rested_in_time block most left after was is line lines turn least rests has =
    let other = turns_help block line lines turn in record {
      below = λ n helped. omega (arith, least, has.below n (none_more block n line lines other helped));
      waits = λ works stepped n helped. absurd (true≢false (sym works ∙ rests));
    }

-- one that sets back
back_in_time : (block most left : ℕ) (at_work : Bool) (line : Line) (lines : List Line) → sets_back line.call ≡ true
    → suc left < most → IsInTime block most left at_work (line ∷ lines)
back_in_time block most left at_work line lines back few = record {
  below = λ n helped. omega (arith, few, none_behind block n line lines back helped);
  waits = λ works stepped n helped. omega (arith, few, none_behind block n line lines back helped);
}

-- no line yet, or the power's
powered : (call : Call) → is_power_on call ≡ true → sets_back call ≡ true
powered (of_access a) on = absurd cc
powered of_turn on = absurd cc
powered (of_step kind effect) on = absurd cc
powered of_tick on = absurd cc
powered (of_frame frame stray) on = absurd cc
powered of_power_on on = refl

none_yet : (block n : ℕ) → HasHelpful block n [] → n ≡ 0
none_yet block zero helped = refl
none_yet block (suc n) helped = absurd helped

started_in_time : (block most left : ℕ) (at_work : Bool) (lines : List Line) → is_at_power_on lines ≡ true
    → suc left < most → IsInTime block most left at_work lines
started_in_time block most left at_work [] on few = record {
  below = λ n helped. omega (arith, few, none_yet block n helped);
  waits = λ works stepped n helped. absurd stepped;
}
started_in_time block most left at_work (line ∷ lines) on few =
    back_in_time block most left at_work line lines (powered line.call on) few

-- a turn behind a good step lowers what is left, or the drive was at work all along
one_more : (block most left after n : ℕ) (was : Bool) (lines : List Line) → after ≤ left
    → (was ≡ false → after < left) → IsInTime block most left was lines → SteppedWell block lines
    → HasHelpful block n lines → suc n + after < most
one_more block most left after n true lines least falls has stepped helped =
    omega (arith, least, has.waits refl stepped n helped)
one_more block most left after n false lines least falls has stepped helped =
    omega (arith, falls refl, has.below n helped)

module _ (block most left after : ℕ) (was is : Bool) (line : Line) (lines : List Line)
    (good : is_good_step line.call ≡ false) (least : after ≤ left) (falls : was ≡ false → after < left)
    (has : IsInTime block most left was lines) where
  helped_turn : (n : ℕ)
      → (IsHelpful block line lines × HasHelpful block n lines) ⊎ HasHelpful block (suc n) lines
      → suc n + after < most
  helped_turn n (inl one) = one_more block most left after n was lines least falls has one.0.1 one.1
  helped_turn n (inr more) = omega (arith, least, has.below (suc n) more)

  below_turn : (n : ℕ) → HasHelpful block n (line ∷ lines) → n + after < most
  below_turn zero helped = omega (arith, least, has.below zero tt)
  below_turn (suc n) helped = helped_turn n helped.1

  waiting_turn : (n : ℕ) → SteppedWell block (line ∷ lines) → HasHelpful block n (line ∷ lines)
      → suc n + after < most
  waiting_turn n (inl stepped) helped = absurd (true≢false (sym stepped ∙ good))
  waiting_turn n (inr more) helped =
      one_more block most left after n was lines least falls has more.2
      (none_more block n line lines (λ helps. more.1 helps.0) helped)

  -- so a turn goes on in time
  turned_in_time : IsInTime block most after is (line ∷ lines)
  turned_in_time = record {
    below = below_turn;
    waits = λ works stepped n helped. waiting_turn n stepped helped;
  }

-- where all stands as it did, and the drive shows what it showed
pub stays_ready : (s t : State) (p r : Parts) (d e : Device) (lines : List Line) → r.area ≡ p.area
    → r.opening ≡ p.opening → OpeningStays s p d t r e → BecomesReady s p d lines → BecomesReady t r e lines
stays_ready s t p r d e lines area opening stays ready =
    let same : is_opened r ≡ is_opened p = ap (λ (o : OpeningState). is_opened (record p { opening = o })) opening in
    record {
      told = λ none. same ∙ ready.told none;
      in_time = λ still.
          let was = sym same ∙ still in
          subst (λ a. OpensInTime a t r e lines) (sym area)
          (same_in_time p.area.block (ready_bound (bitmap_sectors_of p.area)) (opening_left s p d)
          (opening_left t r e) (has_bit BSY (status d.file)) (has_bit BSY (status e.file)) lines (stays was).0
          (ap (has_bit BSY) (stays was).1) (ready.in_time was));
    }

-- and a line more, of no turn and no step
pub line_ready : (s : State) (p : Parts) (d : Device) (line : Line) (lines : List Line) → is_power_on line.call ≡ false
    → is_turn line.call ≡ false → is_good_step line.call ≡ false → BecomesReady s p d lines
    → BecomesReady s p d (line ∷ lines)
line_ready s p d line lines on turn good ready = record {
  told = λ none. ready.told (unready_before line lines on none).1;
  in_time = λ still.
      still_in_time p.area.block (ready_bound (bitmap_sectors_of p.area)) (opening_left s p d)
      (has_bit BSY (status d.file)) line lines turn good (ready.in_time still);
}

-- of the parts only what opening doesn't read has changed
pub others_ready : (s : State) (p r : Parts) (d : Device) (lines : List Line) → r.area ≡ p.area
    → r.opening ≡ p.opening → BecomesReady s p d lines → BecomesReady s r d lines
others_ready s p r d lines area opening ready =
    stays_ready s s p r d d lines area opening (λ still. (same_left s p r d d opening refl, refl)) ready

-- a destage
pub destaged_ready : (s : State) (p : Parts) (old new : Plain) (lines : List Line) → HasLetGo old new
    → BecomesReady s p old.device lines → BecomesReady s p new.device lines
destaged_ready s p old new lines gone ready =
    let shows = ap (λ (x : Plain). status x.device.file) gone.after in
    stays_ready s s p p old.device new.device lines refl refl
    (λ still. (same_left s p p old.device new.device refl shows, shows)) ready

-- an access
pub accessed_ready : (s t : State) (p r : Parts) (d e : Device) (line : Line) (lines : List Line)
    → is_power_on line.call ≡ false → is_turn line.call ≡ false → is_good_step line.call ≡ false → KeepsOthers p r
    → OpeningStays s p d t r e → BecomesReady s p d lines → BecomesReady t r e (line ∷ lines)
accessed_ready s t p r d e line lines on turn good others stays ready =
    line_ready t r e line lines on turn good
    (stays_ready s t p r d e lines (ap (λ (x : Parts). x.area) others) (ap (λ (x : Parts). x.opening) others) stays
    ready)

-- an opening that hasn't ended behind a turn hadn't before
closed_before : (opened : Bool) (p r : Parts) → is_opened p ≡ opened → KeepsImage p r → is_opened r ≡ false
    → is_opened p ≡ false
closed_before false p r is image still = is
closed_before true p r is image still =
    ap (λ (o : OpeningState). is_opened (record p { opening = o })) (sym (image.opening is)) ∙ still

-- a turn
pub turned_ready : (s t : State) (p r : Parts) (d e : Device) (told : Option Item) (items : List Item) (q : Plain)
    (lines : List Line) → KeepsImage p r → TellsReady p r told → OpeningFalls s p d t r e → OpeningHolds s p d t r e
    → BecomesReady s p d lines → BecomesReady t r e (line_of of_turn q (item_of told ++ items) ∷ lines)
turned_ready s t p r d e told items q lines image tells falls holds ready =
    let line = line_of of_turn q (item_of told ++ items) in record {
      told = λ none.
          let before = unready_before line lines refl none in
          sym (tells ∙ ap (λ b. not b && is_opened r) (ready.told before.1)) ∙ untold_ready told items before.0;
      in_time = λ still.
          let was = closed_before (is_opened p) p r refl image still in
          subst (λ a. OpensInTime a t r e (line ∷ lines)) (sym image.area)
          (turned_in_time p.area.block (ready_bound (bitmap_sectors_of p.area)) (opening_left s p d)
          (opening_left t r e) (has_bit BSY (status d.file)) (has_bit BSY (status e.file)) line lines refl (holds was)
          (falls was) (ready.in_time was));
    }

-- what is left at most is far below the bound
bounded : (p : Parts) (left : ℕ) → p.opening.area ≡ p.area → left ≤ 4 * bitmap_sectors_of p.opening.area + 17
    → suc left < ready_bound (bitmap_sectors_of p.area)
bounded p left area most =
    let same : bitmap_sectors_of p.opening.area ≡ bitmap_sectors_of p.area = ap bitmap_sectors_of area in
    omega (arith, most, same)

not_acting : (acting : Bool) → Nothing ≡ stepped_if acting → acting ≡ false
not_acting true is = absurd cc
not_acting false is = refl

-- a step without an effect leaves Status as it is
same_shown : (kind : Step) (old now : Plain) → HasStepped kind Nothing old now
    → status now.device.file ≡ status old.device.file
same_shown kind old now has =
    ap (λ (x : Plain). status x.device.file) has.after
    ∙ ap (λ (x : Plain). status x.device.file) (step_made_no kind old (not_acting (acts kind old) has.answer))

-- a step of the drive: a failing one that changed it sets back
step_in_time : (kind : Step) (effect : Stepped) (s : State) (p : Parts) (old now q : Plain) (given : List Item)
    (lines : List Line) → FitsParts s p → is_opened p ≡ false
    → (HasStepped step.Good effect old now → opening_left s p now.device ≤ opening_left s p old.device)
    → (HasStepped step.Good effect old now → has_bit BSY (status now.device.file) ≡ false)
    → HasStepped kind effect old now → OpensInTime p.area s p old.device lines
    → OpensInTime p.area s p now.device (line_of (of_step kind effect) q given ∷ lines)
step_in_time step.Good effect s p old now q given lines fits still least rests has in_time =
    rested_in_time p.area.block (ready_bound (bitmap_sectors_of p.area)) (opening_left s p old.device)
    (opening_left s p now.device) (has_bit BSY (status old.device.file)) (has_bit BSY (status now.device.file))
    (line_of (of_step step.Good effect) q given) lines refl (least has) (rests has) in_time
step_in_time step.Bad Changed s p old now q given lines fits still least rests has in_time =
    back_in_time p.area.block (ready_bound (bitmap_sectors_of p.area)) (opening_left s p now.device)
    (has_bit BSY (status now.device.file)) (line_of (of_step step.Bad Changed) q given) lines refl
    (bounded p (opening_left s p now.device) fits.area.opening (left_most s p now.device fits.state still))
step_in_time step.Bad Nothing s p old now q given lines fits still least rests has in_time =
    let shows = same_shown step.Bad old now has in
    still_in_time p.area.block (ready_bound (bitmap_sectors_of p.area)) (opening_left s p now.device)
    (has_bit BSY (status now.device.file)) (line_of (of_step step.Bad Nothing) q given) lines refl refl
    (same_in_time p.area.block (ready_bound (bitmap_sectors_of p.area)) (opening_left s p old.device)
    (opening_left s p now.device) (has_bit BSY (status old.device.file)) (has_bit BSY (status now.device.file)) lines
    (same_left s p p old.device now.device refl shows) (ap (has_bit BSY) shows) in_time)

-- until opening has ended no dummy read is in flight
none_ends : (s : State) (p : Parts) (d : Device) → FitsState s p → is_opened p ≡ false → ends_dummy s d ≡ false
none_ends (Guest side) p d fits still = refl
none_ends (Monitor side) p d fits still = refl
none_ends (Running side own why) p d fits still = refl
none_ends (Raising side dummy planned) p d fits still = absurd (true≢false (sym fits.4 ∙ still))
none_ends Moving p d fits still = refl

pub stepped_ready : (kind : Step) (effect : Stepped) (s t : State) (p r : Parts) (old now : Plain) (d e : Device)
    (q : Plain) (given : List Item) (lines : List Line) → now.device ≡ d → (ends_dummy s d ≡ false → t ≡ s)
    → r ≡ parts_after_step s d p → e ≡ device_after_step s d → HasComeTo s p kind effect old now
    → (is_opened p ≡ false → HasStepped step.Good effect old now
    → opening_left s p now.device ≤ opening_left s p old.device)
    → (is_opened p ≡ false → HasStepped step.Good effect old now → has_bit BSY (status now.device.file) ≡ false)
    → BecomesReady s p old.device lines → BecomesReady t r e (line_of (of_step kind effect) q given ∷ lines)
stepped_ready kind effect s t p r old now d e q given lines at stays parts device come least rests ready =
    let line = line_of (of_step kind effect) q given in
    let others : KeepsOthers p r = subst (KeepsOthers p) (sym parts) (stepped_others s d p) in
    let opening = ap (λ (x : Parts). x.opening) others in
    stays_ready s t p r now.device e (line ∷ lines) (ap (λ (x : Parts). x.area) others) opening
    (λ still.
    let none = none_ends s p d come.fits.parts.state still in
    let shows = ap (λ (x : Device). status x.file)
    (device ∙ ap (λ b. if b then ended false d else d) none ∙ sym at) in
    (ap (λ x. opening_left x r e) (stays none) ∙ same_left s p r now.device e opening shows, shows)) record {
      told = λ none. ready.told (unready_before line lines refl none).1;
      in_time = λ still.
          step_in_time kind effect s p old now q given lines come.fits.parts still (least still) (rests still)
          come.stepped (ready.in_time still);
    }

-- at power-on
pub started_ready : (area : Area) (id buffers : ℕ) (s : State) (p : Parts) (d : Device) (lines : List Line)
    → 0 < area.image → StartsWith s → IsBegun area id buffers p → is_at_power_on lines ≡ true
    → BecomesReady s p d lines
started_ready area id buffers (Guest side) p d lines some starts begun on = absurd starts
started_ready area id buffers (Running side own why) p d lines some starts begun on = absurd starts
started_ready area id buffers (Raising side dummy planned) p d lines some starts begun on = absurd starts
started_ready area id buffers Moving p d lines some starts begun on = absurd starts
started_ready area id buffers (Monitor side) p d lines some starts begun on = record {
  told = λ none. closed area id buffers p some begun;
  in_time = λ still.
      started_in_time p.area.block (ready_bound (bitmap_sectors_of p.area)) (opening_left (Monitor side) p d)
      (has_bit BSY (status d.file)) lines on
      (bounded p (opening_left (Monitor side) p d)
      (ap (λ (o : OpeningState). o.area) begun.opening ∙ sym begun.area_is)
      (omega (arith, jobs_most p.opening.area p.opening.step)));
}

pub in_time : (s : State) (p : Parts) (d : Device) (lines : List Line) → BecomesReady s p d lines
    → IsReadyInTime p.area.block (bitmap_sectors_of p.area) lines
in_time s p d lines ready = λ none n helped. omega (arith, (ready.in_time (ready.told none)).below n helped)
