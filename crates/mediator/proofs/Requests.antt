-- What a call leaves of the requests: what the client waits for, and how often turns asked for a tag.
use Rattle.std.proofs.Common.{◌≡◌, ◌≢◌, ◌≤◌, ◌<◌, ◌⊎◌, ◌∷◌, ◌++◌, ℕ, zero, suc, ◌+◌, ◌-◌, ◌*◌, Bool, true, false, if◌then◌else◌, List, [], length, replicate, slice_get, Option, Some, None, option_map, inl, inr, append-nil, refl, sym, ap, ◌∙◌, subst, arith}
use Rattle.std.specs.Prelude.{◌||◌, ◌↔◌}
use Rattle.std.specs.List.{range_with_len}
use Rattle.std.proofs.lemmas.Bool.{cases_lt, true≢false}
use Rattle.std.proofs.lemmas.List.{append_cancel_left}
use Rattle.ata_taskfile.specs.declared.Access.{Access}
use Rattle.ata_taskfile.specs.declared.Step.{Step}
use Rattle.ata_taskfile.specs.declared.Step.TheVariants as step
use Rattle.ata_taskfile.specs.declared.Stepped.{Stepped}
use Rattle.ata_taskfile.specs.declared.Stepped.TheVariants.{Changed, Nothing}
use Rattle.ata_taskfile.specs.declared.Taken.TheVariants.{Good, Bad}
use Rattle.ata_taskfile.specs.declared.Phase.{Phase}
use Rattle.ata_taskfile.specs.declared.Phase.TheVariants.{Reset, Idle, Busy, Ready}
use Rattle.ata_taskfile.specs.declared.task_file.TaskFile.{TaskFile}
use Rattle.ata_taskfile.specs.Device.{Device}
use Rattle.mon_pool.specs.Region.{Region}
use Rattle.aoe_client.specs.declared.client.Heard.{Heard}
use Rattle.aoe_client.specs.declared.client.Heard.TheVariants.{Took}
use Rattle.aoe_client.specs.Asking.{Asking, both_ticked, due_tags, first_due, heard, is_open_in, next_sent, nothing_asked, tags_in, then_sent}
use Rattle.aoe_client.specs.Fetching.{Fetching, asked_for, due_of, is_open, ticked}
use Rattle.aoe_client.specs.declared.tags.TagState.TheVariants.{Due}
use Rattle.aoe_client.proofs.DueTags.{due_asked}
use Rattle.plain_drive.specs.Alike.{gives_command}
use Rattle.plain_drive.specs.Plain.{Plain}
use Rattle.port_lease.specs.declared.view.View.{View}
use Rattle.port_lease.specs.Sides.{view_held}
use Rattle.guest_view.specs.View.{takes_command}
use Rattle.redirect.specs.declared.redirect.Redirect.{Redirect}
use Rattle.redirect.specs.Next.{request_of}
use Rattle.schedule_text.specs.declared.Item.{Item}
use Rattle.schedule_text.specs.declared.Item.TheVariants.{Answer, Go, Bad as BadStep, Command, Asked, Ready as ReadyNow, Left, Reserved, Forged}
use Rattle.streaming.specs.Asks.{AsksInTime, AsksSeldom, asked_in_turns, asks_for, asks_in_turn, counts_anew, turns_reset}
use Rattle.streaming.specs.Client.{ClientTurned, IsJustAsked, TakesFor}
use Rattle.streaming.specs.Lines.{Call, Line, line_of}
use Rattle.streaming.specs.Lines.Call.{of_access, of_turn, of_step, of_tick, of_frame}
use Rattle.streaming.specs.Monitor.{asked_items, item_of}
use Rattle.streaming.specs.Open.{Delivers, and_tick, is_at_power_on}
use Rattle.streaming.specs.Sources.{is_power_on, one_asks}
use Rattle.streaming.specs.Told.{MayTell}
use Rattle.streaming.proofs.AllSent.{both_empty}
use Rattle.streaming.proofs.AskCounts.{counted_anew, counted_on, row_beyond, row_once, told_beside, told_beside_one}
use Rattle.monitor_state.specs.declared.state.State.{State}
use Rattle.monitor_state.specs.declared.state.State.TheVariants.{Guest, Monitor, Running, Raising, Moving}
use Rattle.monitor_state.specs.declared.state.Plan.{Plan}
use Rattle.monitor_state.specs.declared.state.Plan.TheVariants as plan
use Rattle.monitor_state.specs.declared.held.HeldPiece.{HeldPiece}
use Rattle.monitor_state.specs.declared.parts.Parts.{Parts}
use Rattle.monitor_state.specs.Classes.{is_refused}
use Rattle.monitor_state.specs.Fits.{Fits, FitsPlan}
use Rattle.monitor_state.specs.Requests.{AccessKeepsRequests, AskedOnce, ComesBehind, HasRequests, IsBehind, IsPast, IsPastIn, KeepsRequests, SlotWaits, StaysBehind, obtained_to}
use Rattle.monitor_state.specs.SameAsks.{AsksTheSame, BothAskTheSame}
use Rattle.monitor_state.specs.Seen.{file_seen}
use Rattle.monitor_state.specs.State.{view_of}
use Rattle.monitor_state.proofs.Waiting.{due_asks, slot_again, slot_heard_waits, slot_on, slot_sent_waits, slot_ticked, waits_anew}
use Rattle.monitor_events.specs.Stepping.{ends_dummy, is_resting_state, item_planned, parts_after_step, parts_planned, plan_due_of, planned_in, view_after_step, view_planned}
use Rattle.monitor_access.specs.Marks.{mark_over, order_written}
use Rattle.mediator.specs.declared.mediator.Mediator.{Mediator}
use Rattle.mediator.specs.Couples.{AsksAlong, AsksRightly}
use Rattle.mediator.specs.Mediator.{parts_of, state_of}
use Rattle.mediator.proofs.Sources.{or_first, or_other}
use Rattle.mediator.proofs.Stepped.{stepped_client}

-- a call that asks for no tag under a turn: what was asked for once is counted on, or nothing is counted
pub once_beside : (s t : State) (p r : Parts) (line : Line) (lines : List Line)
    → ((tag : ℕ) → asks_in_turn tag line.call line.items ≡ 0)
    → (counts_anew line.call line.plain ≡ false → StaysBehind s p t r) → AskedOnce s p lines
    → AskedOnce t r (line ∷ lines)
once_beside s t p r line lines none stays once tag = by (counts_anew line.call line.plain) refl (once tag)
  where
    by : (b : Bool) → counts_anew line.call line.plain ≡ b
        → ((asked_in_turns tag lines ≡ 0) ⊎ ((asked_in_turns tag lines ≡ 1) × IsBehind s p tag))
        → (asked_in_turns tag (line ∷ lines) ≡ 0)
        ⊎ ((asked_in_turns tag (line ∷ lines) ≡ 1) × IsBehind t r tag)
    by true is before = inl (counted_anew tag line lines is)
    by false is (inl never) = inl (omega (arith, counted_on tag line lines is, none tag, never))
    by false is (inr once) =
        inr (omega (arith, counted_on tag line lines is, none tag, once.0), stays is tag once.1)

-- so no tag was asked for more than four times
pub asked_seldom : (s : State) (p : Parts) (lines : List Line) → AskedOnce s p lines → AsksSeldom lines
asked_seldom s p lines once tag = by (once tag)
  where
    by : (asked_in_turns tag lines ≡ 0) ⊎ ((asked_in_turns tag lines ≡ 1) × IsBehind s p tag)
        → asked_in_turns tag lines ≤ 4
    by (inl never) = omega (arith, never)
    by (inr once) = omega (arith, once.0)

-- at power-on nothing was asked for
pub none_counted : (tag : ℕ) (lines : List Line) → is_at_power_on lines ≡ true → asked_in_turns tag lines ≡ 0
none_counted tag [] on = refl
none_counted tag (line ∷ lines) on = counted_anew tag line lines (by line.call on)
  where
    by : (call : Call) → is_at_power_on (line_of call line.plain [] ∷ []) ≡ true → counts_anew call line.plain ≡ true
    by call on = grind (arith, on)

-- what is asked for on, in the same state: what was obtained stays
same_obtained : (block s : ℕ) (old new : Option Fetching) (held : Option HeldPiece) → AsksTheSame old new
    → obtained_to block new held s ≡ obtained_to block old held s
same_obtained block s None None held same = refl
same_obtained block s None (Some g) held same = absurd same
same_obtained block s (Some f) None held same = absurd same
same_obtained block s (Some f) (Some g) held same = ap (λ n. (n + 1) * block) same.0

-- parts whose client asks for this, and whose pool is this
abbrev pub asking : Asking → Region → Parts → Parts
asking c pool p = record p { client = c; pool = pool }

asking_past : (o : Option Redirect) (p : Parts) (c : Asking) (pool : Region) (done tag : ℕ) → BothAskTheSame p.client c
    → IsPast o p done tag → IsPast o (asking c pool p) done tag
asking_past None p c pool done tag same past = absurd past
asking_past (Some redirect) p c pool done tag same past =
    let kept = same_obtained p.area.block ((request_of redirect).first + done) p.client.demand c.demand p.held
    same.demand in
    omega (arith, past, kept)

asking_past_in : (phase : Phase) (p : Parts) (c : Asking) (pool : Region) (tag : ℕ) → BothAskTheSame p.client c
    → IsPastIn phase p tag → IsPastIn phase (asking c pool p) tag
asking_past_in Reset p c pool tag same past = tt
asking_past_in Idle p c pool tag same past = tt
asking_past_in (Busy order done) p c pool tag same past = asking_past p.hand.redirect p c pool done tag same past
asking_past_in (Ready order done left) p c pool tag same past =
    asking_past p.hand.redirect p c pool done tag same past

pub asking_behind : (s : State) (p : Parts) (c : Asking) (pool : Region) → BothAskTheSame p.client c
    → StaysBehind s p s (asking c pool p)
asking_behind (Guest side) p c pool same tag past = tt
asking_behind (Monitor side) p c pool same tag past =
    asking_past_in (view_held side).file.phase p c pool tag same past
asking_behind (Running side own why) p c pool same tag past =
    asking_past_in (view_held side).file.phase p c pool tag same past
asking_behind (Raising side dummy planned) p c pool same tag past =
    asking_past_in (view_held side).file.phase p c pool tag same past
asking_behind Moving p c pool same tag past = tt

-- the step that was planned for a view leaves what is past
planned_past : (planned : Plan) (phase : Phase) (v : View) (p : Parts) (tag : ℕ) → v.file.phase ≡ phase
    → FitsPlan planned phase p → IsPastIn phase p tag
    → IsPastIn (planned_in planned phase v).file.phase (parts_planned planned p) tag
planned_past plan.Serve (Busy (Good order) done) v p tag at fits past = past
planned_past plan.End (Busy (Good order) done) v p tag at fits past = tt
planned_past plan.Fail (Busy (Good order) done) v p tag at fits past = tt
planned_past plan.Reserved (Busy (Good order) done) v p tag at fits past = tt
planned_past plan.Reserved (Busy (Bad reason) done) v p tag at fits past = tt
planned_past plan.Serve (Busy (Bad reason) done) v p tag at fits past = absurd fits
planned_past plan.End (Busy (Bad reason) done) v p tag at fits past = absurd fits
planned_past plan.Fail (Busy (Bad reason) done) v p tag at fits past = absurd fits
planned_past plan.Serve Reset v p tag at fits past = absurd fits
planned_past plan.End Reset v p tag at fits past = absurd fits
planned_past plan.Fail Reset v p tag at fits past = absurd fits
planned_past plan.Reserved Reset v p tag at fits past = absurd fits
planned_past plan.Serve Idle v p tag at fits past = absurd fits
planned_past plan.End Idle v p tag at fits past = absurd fits
planned_past plan.Fail Idle v p tag at fits past = absurd fits
planned_past plan.Reserved Idle v p tag at fits past = absurd fits
planned_past plan.Serve (Ready order done left) v p tag at fits past = absurd fits
planned_past plan.End (Ready order done left) v p tag at fits past = absurd fits
planned_past plan.Fail (Ready order done left) v p tag at fits past = absurd fits
planned_past plan.Reserved (Ready order done left) v p tag at fits past = absurd fits

-- what is past in the view of a state in which the monitor has the drive at rest is behind
at_rest : (t : State) (r : Parts) (tag : ℕ) → is_resting_state t ≡ true → IsPastIn (view_of t).file.phase r tag
    → IsBehind t r tag
at_rest (Guest side) r tag rests past = tt
at_rest (Monitor side) r tag rests past = past
at_rest (Running side own why) r tag rests past = cc
at_rest (Raising side dummy planned) r tag rests past = cc
at_rest Moving r tag rests past = tt

raised_behind : (pends : Bool) (s t : State) (v : View) (planned : Plan) (p r : Parts) (tag : ℕ)
    → (pends ≡ false → t ≡ s) → (pends ≡ true → is_resting_state t ≡ true)
    → view_of t ≡ (if pends then view_planned planned v else v) → r ≡ (if pends then parts_planned planned p else p)
    → FitsPlan planned v.file.phase p → (IsBehind s p tag → IsPastIn v.file.phase p tag) → IsBehind s p tag
    → IsBehind t r tag
raised_behind false s t v planned p r tag stays rests view parts fits at behind =
    subst (λ x. IsBehind x r tag) (sym (stays refl)) (subst (λ x. IsBehind s x tag) (sym parts) behind)
raised_behind true s t v planned p r tag stays rests view parts fits at behind =
    at_rest t r tag (rests refl)
    (subst (λ (w : View). IsPastIn w.file.phase r tag) (sym view)
    (subst (λ x. IsPastIn (view_planned planned v).file.phase x tag) (sym parts)
    (planned_past planned v.file.phase v p tag refl fits (at behind))))

-- behind a step of the drive
pub stepped_behind : (s t : State) (p r : Parts) (d before : Device) → (ends_dummy s d ≡ false → t ≡ s)
    → (ends_dummy s d ≡ true → is_resting_state t ≡ true) → view_of t ≡ view_after_step s d
    → r ≡ parts_after_step s d p → Fits s p before → StaysBehind s p t r
stepped_behind (Guest side) t p r d before stays rests view parts fits tag behind =
    subst (λ x. IsBehind x r tag) (sym (stays refl)) tt
stepped_behind (Monitor side) t p r d before stays rests view parts fits tag behind =
    subst (λ x. IsBehind x r tag) (sym (stays refl)) (subst (λ x. IsBehind (Monitor side) x tag) (sym parts) behind)
stepped_behind (Running side own why) t p r d before stays rests view parts fits tag behind =
    subst (λ x. IsBehind x r tag) (sym (stays refl))
    (subst (λ x. IsBehind (Running side own why) x tag) (sym parts) behind)
stepped_behind (Raising side dummy planned) t p r d before stays rests view parts fits tag behind =
    raised_behind d.file.pending (Raising side dummy planned) t (view_held side) planned p r tag stays rests view parts
    fits.parts.state.7 (λ past. past) behind
stepped_behind Moving t p r d before stays rests view parts fits tag behind =
    subst (λ x. IsBehind x r tag) (sym (stays refl)) tt

-- a turn that asks for nothing
unasked_turn : (s t : State) (p r : Parts) (told : Option Item) (q : Plain) (lines : List Line) → MayTell told
    → due_tags r.client ≡ [] → SlotWaits r.client.demand lines → SlotWaits r.client.background lines
    → StaysBehind s p t r → AskedOnce s p lines
    → HasRequests t r (line_of of_turn q (item_of told ++ asked_items (due_tags r.client)) ∷ lines)
unasked_turn s t p r told q lines may none demand background stays once =
    let items = item_of told ++ asked_items (due_tags r.client) in
    let line = line_of of_turn q items in
    let asks : (tag : ℕ) → one_asks tag items ≡ false = λ tag.
    told_beside_one tag told (due_tags r.client) may ∙ ap (λ tags. one_asks tag (asked_items tags)) none in
    record {
      demand = slot_on r.client.demand line lines asks refl (λ tag no. no) (λ n. refl) demand;
      background = slot_on r.client.background line lines asks refl (λ tag no. no) (λ n. refl) background;
      once = once_beside s t p r line lines (λ tag. told_beside tag told (due_tags r.client) may
          ∙ ap (λ tags. asks_for tag (asked_items tags)) none) (λ on. stays) once;
    }

-- a block that was just asked for is waited for
due_in_row : (count i : ℕ) → is_open (slice_get (replicate count Due) i) ≡ true
    → slice_get (replicate count Due) i ≡ Some Due
due_in_row zero i is = cc
due_in_row (suc count) zero is = refl
due_in_row (suc count) (suc i) is = due_in_row count i is

fresh_waits : (f : Fetching) (count : ℕ) (line : Line) (lines : List Line) → f ≡ asked_for count f.block f.lease
    → ((tag : ℕ) → one_asks tag line.items ≡ one_asks tag (asked_items (due_of (Some f))))
    → SlotWaits (Some f) (line ∷ lines)
fresh_waits f count line lines is asks =
    let g = asked_for count f.block f.lease in
    let first = g.block * length g.tags in
    subst (λ x. SlotWaits (Some x) (line ∷ lines)) (sym is) (λ i yet.
    waits_anew (first + i) line lines
    (asks (first + i) ∙ ap (λ x. one_asks (first + i) (asked_items (due_of (Some x)))) is
    ∙ due_asks first (replicate count Due) i (due_in_row count i yet)))

-- and each of its tags was asked for once, for which none was before
once_asked : (s t : State) (p r : Parts) (f : Fetching) (count : ℕ) (line : Line) (lines : List Line)
    → line.call ≡ of_turn
    → ((tag : ℕ) → asks_for tag line.items ≡ asks_for tag (asked_items (range_with_len (f.block * count) count)))
    → StaysBehind s p t r → ComesBehind count (Some f) s p t r → AskedOnce s p lines → AskedOnce t r (line ∷ lines)
once_asked s t p r f count line lines turn asks stays comes once tag =
    by (cases_lt tag (f.block * count)) (cases_lt tag (f.block * count + count)) (once tag)
  where
    first : ℕ
    first = f.block * count

    counted : asked_in_turns tag (line ∷ lines) ≡ asks_for tag line.items + asked_in_turns tag lines
    counted = counted_on tag line lines (ap (λ call. counts_anew call line.plain) turn)
        ∙ ap (λ call. asks_in_turn tag call line.items + asked_in_turns tag lines) turn

    beyond : (tag < first) ⊎ (first + count ≤ tag)
        → ((asked_in_turns tag lines ≡ 0) ⊎ ((asked_in_turns tag lines ≡ 1) × IsBehind s p tag))
        → (asked_in_turns tag (line ∷ lines) ≡ 0)
        ⊎ ((asked_in_turns tag (line ∷ lines) ≡ 1) × IsBehind t r tag)
    beyond out (inl never) = inl (omega (arith, counted, asks tag ∙ row_beyond first count tag out, never))
    beyond out (inr once) =
        inr (omega (arith, counted, asks tag ∙ row_beyond first count tag out, once.0), stays tag once.1)

    within : (i : ℕ) → i < count → first + i ≡ tag
        → ((asked_in_turns tag lines ≡ 0) ⊎ ((asked_in_turns tag lines ≡ 1) × IsBehind s p tag))
        → (asked_in_turns tag (line ∷ lines) ≡ 0)
        ⊎ ((asked_in_turns tag (line ∷ lines) ≡ 1) × IsBehind t r tag)
    within i below is (inl never) =
        let one : asks_for tag line.items ≡ 1 = asks tag
        ∙ subst (λ n. asks_for n (asked_items (range_with_len first count)) ≡ 1) is (row_once first count i below) in
        inr (omega (arith, counted, one, never), subst (IsBehind t r) is (comes i below).1)
    within i below is (inr once) = absurd ((comes i below).0 (subst (IsBehind s p) (sym is) once.1))

    by : (tag < first) ⊎ (first ≤ tag) → (tag < first + count) ⊎ (first + count ≤ tag)
        → ((asked_in_turns tag lines ≡ 0) ⊎ ((asked_in_turns tag lines ≡ 1) × IsBehind s p tag))
        → (asked_in_turns tag (line ∷ lines) ≡ 0)
        ⊎ ((asked_in_turns tag (line ∷ lines) ≡ 1) × IsBehind t r tag)
    by (inl below) end before = beyond (inl below) before
    by (inr from) (inr above) before = beyond (inr above) before
    by (inr from) (inl below) before =
        within (tag - first) (omega (arith, from, below)) (omega (arith, from)) before

ticked_dues : (c : Asking) → c.background ≡ None → due_tags (both_ticked c) ≡ due_of (option_map ticked c.demand)
ticked_dues c free =
    ap (λ o. due_of (option_map ticked c.demand) ++ due_of (option_map ticked o)) free
    ∙ append-nil (due_of (option_map ticked c.demand))

asked_turn : (s t : State) (p r : Parts) (told : Option Item) (q : Plain) (lines : List Line) (o : Option Fetching)
    → MayTell told → r.client.demand ≡ o → due_tags r.client ≡ due_of o → r.client.background ≡ None
    → IsJustAsked (tags_in p.client.block) o → StaysBehind s p t r → ComesBehind (tags_in p.client.block) o s p t r
    → AskedOnce s p lines
    → HasRequests t r (line_of of_turn q (item_of told ++ asked_items (due_tags r.client)) ∷ lines)
asked_turn s t p r told q lines None may is dues free asked stays comes once = absurd asked
asked_turn s t p r told q lines (Some f) may is dues free asked stays comes once =
    let count = tags_in p.client.block in
    let items = item_of told ++ asked_items (due_tags r.client) in
    let line = line_of of_turn q items in
    let row : due_of (Some f) ≡ range_with_len (f.block * count) count =
    ap (λ x. due_of (Some x)) asked ∙ due_asked count f.block f.lease in
    record {
      demand = subst (λ o. SlotWaits o (line ∷ lines)) (sym is)
          (fresh_waits f count line lines asked (λ tag. told_beside_one tag told (due_tags r.client) may
          ∙ ap (λ tags. one_asks tag (asked_items tags)) dues));
      background = subst (λ o. SlotWaits o (line ∷ lines)) (sym free) tt;
      once = once_asked s t p r f count line lines refl
          (λ tag. told_beside tag told (due_tags r.client) may
          ∙ ap (λ tags. asks_for tag (asked_items tags)) (dues ∙ row)) stays comes once;
    }

-- behind a turn
pub turned_requests : (s t : State) (p r : Parts) (told : Option Item) (q : Plain) (lines : List Line) → MayTell told
    → p.client.background ≡ None → due_tags p.client ≡ [] → ClientTurned p.client r.client → KeepsRequests s p t r
    → HasRequests s p lines
    → HasRequests t r (line_of of_turn q (item_of told ++ asked_items (due_tags r.client)) ∷ lines)
turned_requests s t p r told q lines may free sent (inl same) keeps has =
    unasked_turn s t p r told q lines may (ap due_tags same ∙ sent)
    (subst (λ (c : Asking). SlotWaits c.demand lines) (sym same) has.demand)
    (subst (λ (c : Asking). SlotWaits c.background lines) (sym same) has.background) keeps.behind has.once
turned_requests s t p r told q lines may free sent (inr (inl asked)) keeps has =
    let background : r.client.background ≡ None = ap (λ (c : Asking). c.background) asked.others ∙ free in
    asked_turn s t p r told q lines r.client.demand may refl
    (ap (λ o. due_of r.client.demand ++ due_of o) background ∙ append-nil (due_of r.client.demand)) background
    asked.asked keeps.behind (keeps.asked asked.free) has.once
turned_requests s t p r told q lines may free sent (inr (inr came)) keeps has =
    let none = both_empty (due_of p.client.demand) (due_of p.client.background) sent in
    unasked_turn s t p r told q lines may (ap due_tags came.freed ∙ none.1)
    (subst (λ (c : Asking). SlotWaits c.demand lines) (sym came.freed) tt)
    (subst (λ (c : Asking). SlotWaits c.background lines) (sym came.freed) has.background) keeps.behind has.once

-- behind a call that asks for nothing, is no tick and delivers nothing
pub other_requests : (s t : State) (p r : Parts) (line : Line) (lines : List Line) → r.client ≡ p.client
    → ((tag : ℕ) → one_asks tag line.items ≡ false) → ((tag : ℕ) → asks_in_turn tag line.call line.items ≡ 0)
    → is_power_on line.call ≡ false → ((tag : ℕ) → Delivers tag line.call → ⊥)
    → ((n : ℕ) → and_tick line.call n ≡ n) → (counts_anew line.call line.plain ≡ false → StaysBehind s p t r)
    → HasRequests s p lines → HasRequests t r (line ∷ lines)
other_requests s t p r line lines client asks turns on silent still stays has = record {
  demand = subst (λ (c : Asking). SlotWaits c.demand (line ∷ lines)) (sym client)
      (slot_on p.client.demand line lines asks on silent still has.demand);
  background = subst (λ (c : Asking). SlotWaits c.background (line ∷ lines)) (sym client)
      (slot_on p.client.background line lines asks on silent still has.background);
  once = once_beside s t p r line lines turns stays has.once;
}

either_false : (x y : Bool) → (x || y) ≡ false → x ≡ false
either_false false y is = refl
either_false true y is = cc

-- behind an access
pub accessed_requests : (a : Access) (s t : State) (p r : Parts) (d : Device) (q : Plain) (given : List Item)
    (lines : List Line) → ((tag : ℕ) → one_asks tag given ≡ false) → r.client ≡ p.client
    → gives_command a q.device.file ≡ gives_command a (file_seen s d)
    → AccessKeepsRequests a s p d t r → HasRequests s p lines
    → HasRequests t r (line_of (of_access a) q given ∷ lines)
accessed_requests a s t p r d q given lines none client gives keeps has =
    other_requests s t p r (line_of (of_access a) q given) lines client none (λ tag. refl) refl (λ tag no. no)
    (λ n. refl)
    (λ on. keeps (sym gives ∙ either_false (gives_command a q.device.file) (turns_reset a q.device.file) on)) has

-- the mark of an access asks for nothing
mark_where : (takes refuses : Bool) (tag : ℕ)
    → one_asks tag (item_of (if takes then (if refuses then Some Reserved else None) else None)) ≡ false
mark_where true true tag = refl
mark_where true false tag = refl
mark_where false refuses tag = refl

pub mark_asks_none : (f : TaskFile) (p : Parts) (a : Access) (tag : ℕ) → one_asks tag (item_of (mark_over f p a)) ≡ false
mark_asks_none f p a tag = mark_where (takes_command a f) (is_refused (order_written a f p.area.sectors) p) tag

-- nor does that of a frame
pub heard_asks_none : (told : Option Item) → (told ≢ Some Forged → told ≡ None) → (tag : ℕ)
    → one_asks tag (item_of told) ≡ false
heard_asks_none None unmarked tag = refl
heard_asks_none (Some Forged) unmarked tag = refl
heard_asks_none (Some Answer) unmarked tag = refl
heard_asks_none (Some (Go n)) unmarked tag = refl
heard_asks_none (Some BadStep) unmarked tag = refl
heard_asks_none (Some (Command byte first count)) unmarked tag = refl
heard_asks_none (Some (Asked other)) unmarked tag = let none = unmarked (λ is. cc) in absurd cc
heard_asks_none (Some ReadyNow) unmarked tag = refl
heard_asks_none (Some Left) unmarked tag = refl
heard_asks_none (Some Reserved) unmarked tag = refl

-- nor does the line of a step
pub step_asks_none : (s : State) (kind : Step) (effect : Stepped) (d : Device) (tag : ℕ)
    → one_asks tag (item_of (plan_due_of s kind effect d)) ≡ false
step_asks_none (Guest side) step.Good Changed d tag = refl
step_asks_none (Guest side) step.Bad Changed d tag = refl
step_asks_none (Guest side) kind Nothing d tag = refl
step_asks_none (Monitor side) kind effect d tag = refl
step_asks_none (Running side own why) kind effect d tag = refl
step_asks_none (Raising side dummy planned) kind effect d tag = by planned d.file.pending
  where
    by : (planned : Plan) (pends : Bool)
        → one_asks tag (item_of (if pends then Some (item_planned planned) else None)) ≡ false
    by plan.Serve true = refl
    by plan.End true = refl
    by plan.Fail true = refl
    by plan.Reserved true = refl
    by planned false = refl
step_asks_none Moving kind effect d tag = refl

-- behind a step of the drive
pub stepped_requests : (kind : Step) (effect : Stepped) (s t : State) (p r : Parts) (d before : Device) (q : Plain)
    (lines : List Line) → (ends_dummy s d ≡ false → t ≡ s) → (ends_dummy s d ≡ true → is_resting_state t ≡ true)
    → view_of t ≡ view_after_step s d → r ≡ parts_after_step s d p → Fits s p before → HasRequests s p lines
    → HasRequests t r (line_of (of_step kind effect) q (item_of (plan_due_of s kind effect d)) ∷ lines)
stepped_requests kind effect s t p r d before q lines stays rests view parts fits has =
    other_requests s t p r (line_of (of_step kind effect) q (item_of (plan_due_of s kind effect d))) lines
    (ap (λ (x : Parts). x.client) parts ∙ stepped_client s d p) (step_asks_none s kind effect d) (λ tag. refl) refl
    (λ tag no. no) (λ n. refl) (λ on. stepped_behind s t p r d before stays rests view parts fits) has

-- behind a tick
pub ticked_requests : (s : State) (p : Parts) (q : Plain) (lines : List Line) → p.client.background ≡ None
    → due_tags p.client ≡ [] → BothAskTheSame p.client (both_ticked p.client) → HasRequests s p lines
    → HasRequests s (record p { client = both_ticked p.client })
    (line_of of_tick q (asked_items (due_tags (both_ticked p.client))) ∷ lines)
ticked_requests s p q lines free sent same has =
    let c = both_ticked p.client in
    let line = line_of of_tick q (asked_items (due_tags c)) in
    let none = both_empty (due_of p.client.demand) (due_of p.client.background) sent in
    record {
      demand = slot_ticked p.client.demand line lines
          (λ tag. ap (λ tags. one_asks tag (asked_items tags)) (ticked_dues p.client free)) none.0 refl (λ tag no. no)
          (λ n. refl) has.demand;
      background = subst (λ o. SlotWaits (option_map ticked o) (line ∷ lines)) (sym free) tt;
      once = once_beside s s p (record p { client = c }) line lines (λ tag. refl)
          (λ on. asking_behind s p c p.pool same) has.once;
    }

-- and it asks for what it may
pub ticked_in_time : (s : State) (p : Parts) (lines : List Line) → p.client.background ≡ None
    → due_tags p.client ≡ [] → HasRequests s p lines
    → AsksInTime of_tick (asked_items (due_tags (both_ticked p.client))) lines
ticked_in_time s p lines free sent has tag asks =
    let none = both_empty (due_of p.client.demand) (due_of p.client.background) sent in
    slot_again p.client.demand tag lines none.0 has.demand
    (sym (ap (λ tags. one_asks tag (asked_items tags)) (ticked_dues p.client free)) ∙ asks)

-- behind a frame
pub heard_requests : (what : Heard) (frame : List ℕ) (stray : Bool) (s : State) (p : Parts) (pool : Region) (q : Plain)
    (given : List Item) (lines : List Line) → ((tag : ℕ) → one_asks tag given ≡ false)
    → ((tag : ℕ) → (what ≡ Took tag) ↔ TakesFor tag frame p.client)
    → BothAskTheSame p.client (heard what p.client) → HasRequests s p lines
    → HasRequests s (asking (heard what p.client) pool p) (line_of (of_frame frame stray) q given ∷ lines)
heard_requests what frame stray s p pool q given lines none took same has =
    let line = line_of (of_frame frame stray) q given in
    let waits = slot_heard_waits what frame line lines none refl (λ tag answers. answers) (λ n. refl) in
    record {
      demand = waits p.client.demand (λ tag answers yet.
          (took tag).1 (answers, or_first (is_open_in tag p.client.demand) (is_open_in tag p.client.background) yet))
          has.demand;
      background = waits p.client.background (λ tag answers yet.
          (took tag).1 (answers, or_other (is_open_in tag p.client.demand) (is_open_in tag p.client.background) yet))
          has.background;
      once = once_beside s s p (asking (heard what p.client) pool p) line lines (λ tag. refl)
          (λ on. asking_behind s p (heard what p.client) pool same) has.once;
    }

-- once the next tag is sent
pub sent_requests : (s : State) (p : Parts) (lines : List Line) → BothAskTheSame p.client (next_sent p.client)
    → HasRequests s p lines → HasRequests s (record p { client = next_sent p.client }) lines
sent_requests s p lines same has = record {
  demand = slot_sent_waits p.client.demand lines has.demand;
  background = by (first_due p.client.demand);
  once = λ tag. once_on tag (has.once tag);
}
  where
    once_on : (tag : ℕ) → (asked_in_turns tag lines ≡ 0) ⊎ ((asked_in_turns tag lines ≡ 1) × IsBehind s p tag)
        → (asked_in_turns tag lines ≡ 0)
        ⊎ ((asked_in_turns tag lines ≡ 1) × IsBehind s (record p { client = next_sent p.client }) tag)
    once_on tag (inl never) = inl never
    once_on tag (inr once) = inr (once.0, asking_behind s p (next_sent p.client) p.pool same tag once.1)

    by : (o : Option ℕ) → SlotWaits (then_sent o p.client.background) lines
    by None = slot_sent_waits p.client.background lines has.background
    by (Some tag) = has.background

-- at power-on
pub started_requests : (s : State) (p : Parts) (block : ℕ) (lines : List Line) → is_at_power_on lines ≡ true
    → p.client ≡ nothing_asked block → HasRequests s p lines
started_requests s p block lines on client = record {
  demand = subst (λ (c : Asking). SlotWaits c.demand lines) (sym client) tt;
  background = subst (λ (c : Asking). SlotWaits c.background lines) (sym client) tt;
  once = λ tag. inl (none_counted tag lines on);
}

-- one that asks for nothing asks for it in time
pub none_in_time : (call : Call) (given : List Item) (lines : List Line) → ((tag : ℕ) → one_asks tag given ≡ false)
    → AsksInTime call given lines
none_in_time call given lines none tag asks = absurd (true≢false (sym asks ∙ none tag))

-- a call that asks where it may, and leaves the requests as they should be, asks rightly
pub asks_rightly : (call : Call) (s : State) (p : Parts) (given : List Item) (q : Plain) (lines : List Line)
    → AsksInTime call given lines → HasRequests s p (line_of call q given ∷ lines) → AsksRightly call given q lines
asks_rightly call s p given q lines in_time has = record {
  in_time = in_time;
  seldom = asked_seldom s p (line_of call q given ∷ lines) has.once;
}

pub asks_along : (call : Call) (m n : Mediator) (gave before after : List Item) → after ≡ before ++ gave
    → ((lines : List Line) → HasRequests (state_of m) (parts_of m) lines → AsksInTime call gave lines)
    → ((q : Plain) (lines : List Line) → HasRequests (state_of m) (parts_of m) lines
    → HasRequests (state_of n) (parts_of n) (line_of call q gave ∷ lines))
    → AsksAlong call before after m
asks_along call m n gave before after items in_time requests = λ k d memory q lines given is couples.
    let same : given ≡ gave = append_cancel_left before given gave (sym is ∙ items) in
    subst (λ xs. AsksRightly call xs q lines) (sym same)
    (asks_rightly call (state_of n) (parts_of n) gave q lines (in_time lines couples.requests)
    (requests q lines couples.requests))
