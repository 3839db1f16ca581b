-- What a slot waits for, one line later.
use Rattle.std.proofs.Common.{◌≡◌, ◌<◌, ◌⊎◌, ◌∷◌, ℕ, zero, suc, ◌+◌, ◌-◌, ◌*◌, Bool, true, false, if◌then◌else◌, List, [], length, map, slice_get, slice_set, Option, Some, None, option_map, inl, inr, ap, ◌∙◌, refl, sym, subst, arith}
use Rattle.std.specs.Prelude.{◌==◌, ◌||◌, nat_lt}
use Rattle.std.proofs.Math.ListN.{length-set}
use Rattle.std.proofs.lemmas.List.{length-map}
use Rattle.std.proofs.lemmas.Bool.{eq-eqb, true≢false}
use Rattle.aoe_client.specs.declared.client.Heard.{Heard}
use Rattle.aoe_client.specs.declared.client.Heard.TheVariants.{Took, Ignored}
use Rattle.aoe_client.specs.declared.tags.TagState.{TagState}
use Rattle.aoe_client.specs.declared.tags.TagState.TheVariants.{Due, Unanswered, Answered}
use Rattle.aoe_client.specs.declared.tags.TheConstants.{RESEND_AGE}
use Rattle.aoe_client.specs.Asking.{first_due, is_open_in, slot_heard, slot_sent}
use Rattle.aoe_client.specs.Fetching.{Fetching, due_again, due_from, due_of, first_tag, is_open, state_of, tag_sent, ticked, with_tag}
use Rattle.aoe_client.specs.Messages.{Answers}
use Rattle.streaming.specs.Asks.{IsAskedAgain}
use Rattle.streaming.specs.Lines.{Line}
use Rattle.streaming.specs.Monitor.{asked_items}
use Rattle.streaming.specs.Open.{Delivers, and_tick, ticks_since}
use Rattle.streaming.specs.Sources.{is_power_on, one_asks}
use Rattle.streaming.proofs.OpenTags.{opens, stays_open, ticks_anew, ticks_on}
use Rattle.monitor_state.specs.Requests.{SlotWaits, WaitsFor}

-- a tag that a line doesn't ask for is waited for on, where no tick goes by
waits_on : (age tag : ℕ) (line : Line) (lines : List Line) → one_asks tag line.items ≡ false
    → is_power_on line.call ≡ false → (Delivers tag line.call → ⊥) → ((n : ℕ) → and_tick line.call n ≡ n)
    → WaitsFor age tag lines → WaitsFor age tag (line ∷ lines)
waits_on age tag line lines none on silent still waits =
    let same = still (ticks_since tag lines) in record {
      awaited = stays_open tag line lines none on silent (omega (arith, same, waits.awaited.young)) waits.awaited;
      aged = ticks_on tag line lines none ∙ same ∙ waits.aged;
    }

-- and where one does
waits_older : (age tag : ℕ) (line : Line) (lines : List Line) → one_asks tag line.items ≡ false
    → is_power_on line.call ≡ false → (Delivers tag line.call → ⊥) → ((n : ℕ) → and_tick line.call n ≡ suc n)
    → age + 1 < 4 → WaitsFor age tag lines → WaitsFor (age + 1) tag (line ∷ lines)
waits_older age tag line lines none on silent older young waits =
    let next = older (ticks_since tag lines) in record {
      awaited = stays_open tag line lines none on silent (omega (arith, next, waits.aged, young)) waits.awaited;
      aged = omega (arith, ticks_on tag line lines none, next, waits.aged);
    }

-- one that it asks for is waited for anew
pub waits_anew : (tag : ℕ) (line : Line) (lines : List Line) → one_asks tag line.items ≡ true
    → WaitsFor 0 tag (line ∷ lines)
waits_anew tag line lines asks =
    record { awaited = opens tag line lines asks; aged = ticks_anew tag line lines asks }

-- a slot waits on under a call that asks for none, is no tick and delivers nothing
pub slot_on : (slot : Option Fetching) (line : Line) (lines : List Line) → ((tag : ℕ) → one_asks tag line.items ≡ false)
    → is_power_on line.call ≡ false → ((tag : ℕ) → Delivers tag line.call → ⊥)
    → ((n : ℕ) → and_tick line.call n ≡ n) → SlotWaits slot lines → SlotWaits slot (line ∷ lines)
slot_on None line lines none on silent still waits = tt
slot_on (Some f) line lines none on silent still waits = λ i is.
    let tag = first_tag f + i in waits_on f.age tag line lines (none tag) on (silent tag) still (waits i is)

-- the first due tag is there
due_there : (first : ℕ) (tags : List TagState) (tag : ℕ) → slice_get (due_from first tags) 0 ≡ Some tag
    → (k : ℕ) × (tag ≡ first + k) × (slice_get tags k ≡ Some Due)
due_there first [] tag is = cc
due_there first (Due ∷ tags) tag is = let same : first ≡ tag = cc in (0, omega (arith, same), refl)
due_there first (Unanswered ∷ tags) tag is =
    let there = due_there (first + 1) tags tag is in (suc there.0, omega (arith, there.1), there.2)
due_there first (Answered ∷ tags) tag is =
    let there = due_there (first + 1) tags tag is in (suc there.0, omega (arith, there.1), there.2)

open_sent : (tags : List TagState) (k i : ℕ) → slice_get tags k ≡ Some Due
    → is_open (slice_get (slice_set tags k Unanswered) i) ≡ true → is_open (slice_get tags i) ≡ true
open_sent [] k i there is = is
open_sent (x ∷ tags) zero zero there is = ap is_open there
open_sent (x ∷ tags) zero (suc i) there is = is
open_sent (x ∷ tags) (suc k) zero there is = is
open_sent (x ∷ tags) (suc k) (suc i) there is = open_sent tags k i there is

-- tags in another state, of which none is open that wasn't
kept_open : (f : Fetching) (k : ℕ) (state : TagState) (lines : List Line)
    → ((i : ℕ) → is_open (slice_get (slice_set f.tags k state) i) ≡ true → WaitsFor f.age (first_tag f + i) lines)
    → SlotWaits (Some (record f { tags = slice_set f.tags k state })) lines
kept_open f k state lines waits = λ i is.
    subst (λ n. WaitsFor f.age (f.block * n + i) lines) (sym (length-set f.tags k state)) (waits i is)

sent_where : (f : Fetching) (first : Option ℕ) (lines : List Line) → first_due (Some f) ≡ first
    → SlotWaits (Some f) lines → SlotWaits (Some (tag_sent first f)) lines
sent_where f None lines is waits = waits
sent_where f (Some tag) lines is waits =
    let there = due_there (first_tag f) f.tags tag is in
    let place : tag - first_tag f ≡ there.0 = omega (arith, there.1) in
    kept_open f (tag - first_tag f) Unanswered lines (λ i yet_due.
    waits i (open_sent f.tags (tag - first_tag f) i (ap (slice_get f.tags) place ∙ there.2) yet_due))

-- a slot waits on once its first due tag was sent
pub slot_sent_waits : (slot : Option Fetching) (lines : List Line) → SlotWaits slot lines
    → SlotWaits (slot_sent slot) lines
slot_sent_waits None lines waits = tt
slot_sent_waits (Some f) lines waits = sent_where f (first_due (Some f)) lines refl waits

either : (x y : Bool) → (x || y) ≡ true → (x ≡ true) ⊎ (y ≡ true)
either true y is = inl refl
either false y is = inr is

-- a tag that is due is asked for, and a tag that is asked for is due
pub due_asks : (first : ℕ) (tags : List TagState) (i : ℕ) → slice_get tags i ≡ Some Due
    → one_asks (first + i) (asked_items (due_from first tags)) ≡ true
due_asks first [] i is = cc
due_asks first (Due ∷ tags) zero is =
    ap (λ b. b || one_asks (first + 0) (asked_items (due_from (first + 1) tags)))
    (eq-eqb first (first + 0) (omega arith))
due_asks first (Due ∷ tags) (suc i) is = later (first == first + suc i) _ (next (due_asks (first + 1) tags i is))
  where
    later : (x y : Bool) → y ≡ true → (x || y) ≡ true
    later true y is = refl
    later false y is = is

    next : one_asks (first + 1 + i) (asked_items (due_from (first + 1) tags)) ≡ true
        → one_asks (first + suc i) (asked_items (due_from (first + 1) tags)) ≡ true
    next asks =
        let same : first + 1 + i ≡ first + suc i = omega arith in
        subst (λ n. one_asks n (asked_items (due_from (first + 1) tags)) ≡ true) same asks
due_asks first (Unanswered ∷ tags) zero is = cc
due_asks first (Unanswered ∷ tags) (suc i) is =
    let same : first + 1 + i ≡ first + suc i = omega arith in
    subst (λ n. one_asks n (asked_items (due_from (first + 1) tags)) ≡ true) same (due_asks (first + 1) tags i is)
due_asks first (Answered ∷ tags) zero is = cc
due_asks first (Answered ∷ tags) (suc i) is =
    let same : first + 1 + i ≡ first + suc i = omega arith in
    subst (λ n. one_asks n (asked_items (due_from (first + 1) tags)) ≡ true) same (due_asks (first + 1) tags i is)

asked_first : (first tag : ℕ) (tags : List TagState)
    → ((first == tag) ≡ true) ⊎ (one_asks tag (asked_items (due_from (first + 1) tags)) ≡ true)
    → (one_asks tag (asked_items (due_from (first + 1) tags)) ≡ true
    → (i : ℕ) × (tag ≡ first + 1 + i) × (slice_get tags i ≡ Some Due))
    → (i : ℕ) × (tag ≡ first + i) × (slice_get (Due ∷ tags) i ≡ Some Due)
asked_first first tag tags (inl here) later = (0, grind (arith, here), refl)
asked_first first tag tags (inr behind) later =
    let there = later behind in (suc there.0, omega (arith, there.1), there.2)

asked_where : (first : ℕ) (tags : List TagState) (tag : ℕ)
    → one_asks tag (asked_items (due_from first tags)) ≡ true
    → (i : ℕ) × (tag ≡ first + i) × (slice_get tags i ≡ Some Due)
asked_where first [] tag is = cc
asked_where first (Due ∷ tags) tag is =
    asked_first first tag tags (either (first == tag) _ is) (asked_where (first + 1) tags tag)
asked_where first (Unanswered ∷ tags) tag is =
    let there = asked_where (first + 1) tags tag is in (suc there.0, omega (arith, there.1), there.2)
asked_where first (Answered ∷ tags) tag is =
    let there = asked_where (first + 1) tags tag is in (suc there.0, omega (arith, there.1), there.2)

open_again : (tags : List TagState) (i : ℕ) → is_open (slice_get (map due_again tags) i) ≡ true
    → slice_get (map due_again tags) i ≡ Some Due
open_again [] i is = cc
open_again (Due ∷ tags) zero is = refl
open_again (Unanswered ∷ tags) zero is = refl
open_again (Answered ∷ tags) zero is = cc
open_again (Due ∷ tags) (suc i) is = open_again tags i is
open_again (Unanswered ∷ tags) (suc i) is = open_again tags i is
open_again (Answered ∷ tags) (suc i) is = open_again tags i is

open_before : (tags : List TagState) (i : ℕ) → slice_get (map due_again tags) i ≡ Some Due
    → is_open (slice_get tags i) ≡ true
open_before [] i is = cc
open_before (Due ∷ tags) zero is = refl
open_before (Unanswered ∷ tags) zero is = refl
open_before (Answered ∷ tags) zero is = cc
open_before (Due ∷ tags) (suc i) is = open_before tags i is
open_before (Unanswered ∷ tags) (suc i) is = open_before tags i is
open_before (Answered ∷ tags) (suc i) is = open_before tags i is

-- a slot once it is older, where this says whether it is old enough
abbrev older : Bool → Fetching → Fetching
older old f = if old then record f { age = 0; tags = map due_again f.tags } else record f { age = f.age + 1 }

-- a tick: what isn't answered is asked for again, or waited for on
ticked_where : (old : Bool) (f : Fetching) (line : Line) (lines : List Line) → (f.age + 1 == RESEND_AGE) ≡ old
    → ((tag : ℕ) → one_asks tag line.items ≡ one_asks tag (asked_items (due_of (Some (older old f)))))
    → due_of (Some f) ≡ [] → is_power_on line.call ≡ false → ((tag : ℕ) → Delivers tag line.call → ⊥)
    → ((n : ℕ) → and_tick line.call n ≡ suc n) → SlotWaits (Some f) lines
    → SlotWaits (Some (older old f)) (line ∷ lines)
ticked_where true f line lines old asks none on silent next waits = λ i is.
    let first = f.block * length (map due_again f.tags) in
    waits_anew (first + i) line lines
    (asks (first + i) ∙ due_asks first (map due_again f.tags) i (open_again f.tags i is))
ticked_where false f line lines old asks none on silent next waits = λ i is.
    let tag = first_tag f + i in
    let was = waits i is in
    let young : f.age + 1 < 4 = grind (arith, was.aged, was.awaited.young, old) in
    waits_older f.age tag line lines (asks tag ∙ ap (λ tags. one_asks tag (asked_items tags)) none) on (silent tag) next
    young was

pub slot_ticked : (slot : Option Fetching) (line : Line) (lines : List Line)
    → ((tag : ℕ) → one_asks tag line.items ≡ one_asks tag (asked_items (due_of (option_map ticked slot))))
    → due_of slot ≡ [] → is_power_on line.call ≡ false → ((tag : ℕ) → Delivers tag line.call → ⊥)
    → ((n : ℕ) → and_tick line.call n ≡ suc n) → SlotWaits slot lines
    → SlotWaits (option_map ticked slot) (line ∷ lines)
slot_ticked None line lines asks none on silent next waits = tt
slot_ticked (Some f) line lines asks none on silent next waits =
    ticked_where (f.age + 1 == RESEND_AGE) f line lines refl asks none on silent next waits

-- what a tick asks for is asked for again
again_where : (old : Bool) (f : Fetching) (tag : ℕ) (lines : List Line) → (f.age + 1 == RESEND_AGE) ≡ old
    → due_of (Some f) ≡ [] → SlotWaits (Some f) lines
    → one_asks tag (asked_items (due_of (Some (older old f)))) ≡ true → IsAskedAgain tag lines
again_where true f tag lines old none waits asks =
    let there = asked_where (f.block * length (map due_again f.tags)) (map due_again f.tags) tag asks in
    let was = waits there.0 (open_before f.tags there.0 there.2) in
    let same : first_tag f + there.0 ≡ tag =
    ap (λ n. f.block * n + there.0) (sym (length-map f.tags due_again)) ∙ sym there.1 in
    let aged : f.age ≡ 3 = grind (arith, old) in
    subst (λ n. IsAskedAgain n lines) same (record { fourth = was.aged ∙ aged; awaited = was.awaited })
again_where false f tag lines old none waits asks =
    let no = ap (λ tags. one_asks tag (asked_items tags)) none in absurd (true≢false (sym asks ∙ no))

pub slot_again : (slot : Option Fetching) (tag : ℕ) (lines : List Line) → due_of slot ≡ [] → SlotWaits slot lines
    → one_asks tag (asked_items (due_of (option_map ticked slot))) ≡ true → IsAskedAgain tag lines
slot_again None tag lines none waits asks = cc
slot_again (Some f) tag lines none waits asks =
    again_where (f.age + 1 == RESEND_AGE) f tag lines refl none waits asks

-- a frame that is heard
open_answered : (tags : List TagState) (k i : ℕ) → is_open (slice_get (slice_set tags k Answered) i) ≡ true
    → is_open (slice_get tags i) ≡ true
open_answered [] k i is = is
open_answered (x ∷ tags) zero zero is = cc
open_answered (x ∷ tags) zero (suc i) is = is
open_answered (x ∷ tags) (suc k) zero is = is
open_answered (x ∷ tags) (suc k) (suc i) is = open_answered tags k i is

answered_shut : (tags : List TagState) (k : ℕ) → is_open (slice_get (slice_set tags k Answered) k) ≡ true → ⊥
answered_shut [] k is = cc
answered_shut (x ∷ tags) zero is = cc
answered_shut (x ∷ tags) (suc k) is = answered_shut tags k is

state_at : (f : Fetching) (i : ℕ) → state_of (first_tag f + i) f ≡ slice_get f.tags i
state_at f i = by (nat_lt (first_tag f + i) (first_tag f)) refl
  where
    by : (b : Bool) → nat_lt (first_tag f + i) (first_tag f) ≡ b → state_of (first_tag f + i) f ≡ slice_get f.tags i
    by true is = absurd (grind (arith, is))
    by false is =
        let place : first_tag f + i - first_tag f ≡ i = omega arith in
        ap (λ b. if b then None else slice_get f.tags (first_tag f + i - first_tag f)) is ∙ ap (slice_get f.tags) place

module _ (what : Heard) (frame : List ℕ) (line : Line) (lines : List Line)
    (none : (tag : ℕ) → one_asks tag line.items ≡ false) (on : is_power_on line.call ≡ false)
    (heard : (tag : ℕ) → Delivers tag line.call → Answers frame tag)
    (still : (n : ℕ) → and_tick line.call n ≡ n) where
  answered_where : (yet : Bool) (t : ℕ) (f : Fetching) → is_open (state_of t f) ≡ yet
      → ((tag : ℕ) → Answers frame tag → is_open_in tag (Some f) ≡ true → tag ≡ t)
      → SlotWaits (Some f) lines → SlotWaits (Some (if yet then with_tag Answered t f else f)) (line ∷ lines)
  answered_where true t f is took waits =
      let k = t - first_tag f in
      kept_open f k Answered (line ∷ lines) (λ i yet_due.
      let tag = first_tag f + i in
      let before = open_answered f.tags k i yet_due in
      waits_on f.age tag line lines (none tag) on (λ delivers.
      let same = took tag (heard tag delivers) (ap is_open (state_at f i) ∙ before) in
      let here : i ≡ k = omega (arith, same) in
      answered_shut f.tags k (subst (λ i. is_open (slice_get (slice_set f.tags k Answered) i) ≡ true) here yet_due)
      ) still (waits i before))
  answered_where false t f is took waits = λ i yet_due.
      let tag = first_tag f + i in
      waits_on f.age tag line lines (none tag) on (λ delivers.
      let yet = ap is_open (state_at f i) ∙ yet_due in
      let same = took tag (heard tag delivers) yet in
      true≢false (sym yet ∙ ap (λ n. is_open (state_of n f)) same ∙ is)) still (waits i yet_due)

  -- a slot waits on once it heard one, whose tag is answered where it waited for it
  pub slot_heard_waits : (slot : Option Fetching)
      → ((tag : ℕ) → Answers frame tag → is_open_in tag slot ≡ true → what ≡ Took tag) → SlotWaits slot lines
      → SlotWaits (slot_heard what slot) (line ∷ lines)
  slot_heard_waits slot took waits = by what slot took waits
    where
      by : (w : Heard) (slot : Option Fetching)
          → ((tag : ℕ) → Answers frame tag → is_open_in tag slot ≡ true → w ≡ Took tag) → SlotWaits slot lines
          → SlotWaits (slot_heard w slot) (line ∷ lines)
      by Ignored None took waits = tt
      by Ignored (Some f) took waits = λ i yet_due.
          let tag = first_tag f + i in
          waits_on f.age tag line lines (none tag) on (λ delivers.
          let no = took tag (heard tag delivers) (ap is_open (state_at f i) ∙ yet_due) in cc) still (waits i yet_due)
      by (Took t) None took waits = tt
      by (Took t) (Some f) took waits =
          answered_where (is_open (state_of t f)) t f refl
          (λ tag answers yet_due. let same = took tag answers yet_due in cc) waits
