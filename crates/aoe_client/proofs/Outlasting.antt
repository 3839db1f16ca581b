-- What the buffers hold while no frame is heard.
use Rattle.std.proofs.Common.{◌≡◌, ℕ, zero, suc, ◌+◌, ◌-◌, ◌*◌, Bool, true, false, List, [], ◌∷◌, map, replicate, slice_get, slice_set, Option, Some, None, cond, refl, sym, ap, ◌∙◌}
use Rattle.std.specs.Prelude.{◌==◌, option_map}
use Rattle.std.proofs.Math.ListN.{length-set}
use Rattle.std.proofs.lemmas.List.{length-map}
use Rattle.mon_pool.specs.Region.{Held, Region}
use Rattle.aoe_client.specs.declared.tags.TagState.{TagState}
use Rattle.aoe_client.specs.declared.tags.TagState.TheVariants.{Due, Unanswered, Answered}
use Rattle.aoe_client.specs.declared.tags.TheConstants.{RESEND_AGE}
use Rattle.aoe_client.specs.declared.client.Slot.{Slot}
use Rattle.aoe_client.specs.declared.client.Slot.TheVariants.{Demand, Background}
use Rattle.aoe_client.specs.Fetching.{Fetching, asked_for, due_again, first_tag, tag_sent, ticked}
use Rattle.aoe_client.specs.Asking.{Asking, first_due, then_sent, next_sent, both_ticked, with_slot}
use Rattle.aoe_client.specs.Buffers.{AsksOn, BothAskOn, BothHold, Holds}

get_sent : (tags : List TagState) (k i : ℕ) → slice_get (slice_set tags k Unanswered) i ≡ Some Answered
    → slice_get tags i ≡ Some Answered
get_sent [] k i is = is
get_sent (x ∷ tags) zero zero is = cc
get_sent (x ∷ tags) zero (suc i) is = is
get_sent (x ∷ tags) (suc k) zero is = is
get_sent (x ∷ tags) (suc k) (suc i) is = get_sent tags k i is

get_again : (tags : List TagState) (i : ℕ) → slice_get (map due_again tags) i ≡ Some Answered
    → slice_get tags i ≡ Some Answered
get_again [] i is = is
get_again (Due ∷ tags) zero is = cc
get_again (Unanswered ∷ tags) zero is = cc
get_again (Answered ∷ tags) zero is = refl
get_again (Due ∷ tags) (suc i) is = get_again tags i is
get_again (Unanswered ∷ tags) (suc i) is = get_again tags i is
get_again (Answered ∷ tags) (suc i) is = get_again tags i is

get_due : (count i : ℕ) → slice_get (replicate count Due) i ≡ Some Answered → ⊥
get_due zero i is = cc
get_due (suc count) zero is = cc
get_due (suc count) (suc i) is = get_due count i is

sent_on : (tag : Option ℕ) (s : Option Fetching) → AsksOn s (option_map (tag_sent tag) s)
sent_on tag None = refl
sent_on None (Some f) = (refl, refl, λ i is. is)
sent_on (Some tag) (Some f) = (
  ap (λ n. f.block * n) (length-set f.tags (tag - first_tag f) Unanswered),
  length-set f.tags (tag - first_tag f) Unanswered,
  get_sent f.tags (tag - first_tag f),
)

again_on : (f : Fetching) (old : Bool) → AsksOn (Some f)
    (Some (cond old (record f { age = 0; tags = map due_again f.tags }) (record f { age = f.age + 1 })))
again_on f true = (
  ap (λ n. f.block * n) (length-map f.tags due_again),
  length-map f.tags due_again,
  get_again f.tags,
)
again_on f false = (refl, refl, λ i is. is)

ticked_on : (s : Option Fetching) → AsksOn s (option_map ticked s)
ticked_on None = refl
ticked_on (Some f) = again_on f (f.age + 1 == RESEND_AGE)

on_itself : (s : Option Fetching) → AsksOn s s
on_itself None = refl
on_itself (Some f) = (refl, refl, λ i is. is)

then_on : (tag : Option ℕ) (s : Option Fetching) → AsksOn s (then_sent tag s)
then_on None s = sent_on (first_due s) s
then_on (Some tag) s = on_itself s

-- a tag that is sent is not answered by that
pub on_sending : (c : Asking) → BothAskOn c (next_sent c)
on_sending c = (sent_on (first_due c.demand) c.demand, then_on (first_due c.demand) c.background)

-- nor is one by a tick
pub on_ticks : (c : Asking) → BothAskOn c (both_ticked c)
on_ticks c = (ticked_on c.demand, ticked_on c.background)

module _ (source : ℕ → List ℕ) (pool : Region) where
  sent_holds : (tag : Option ℕ) (s : Option Fetching) → Holds source s pool
      → Holds source (option_map (tag_sent tag) s) pool
  sent_holds tag None holds = tt
  sent_holds None (Some f) holds = holds
  sent_holds (Some tag) (Some f) holds = λ i is.
      holds i (get_sent f.tags (tag - first_tag f) i is)
      ∙ ap (λ n. source (f.block * n + i)) (sym (length-set f.tags (tag - first_tag f) Unanswered))

  again_holds : (f : Fetching) (old : Bool) → Holds source (Some f) pool
      → Holds source (Some (cond old (record f { age = 0; tags = map due_again f.tags })
      (record f { age = f.age + 1 }))) pool
  again_holds f true holds = λ i is.
      holds i (get_again f.tags i is) ∙ ap (λ n. source (f.block * n + i)) (sym (length-map f.tags due_again))
  again_holds f false holds = holds

  ticked_holds : (s : Option Fetching) → Holds source s pool → Holds source (option_map ticked s) pool
  ticked_holds None holds = tt
  ticked_holds (Some f) holds = again_holds f (f.age + 1 == RESEND_AGE) holds

  then_holds : (tag : Option ℕ) (s : Option Fetching) → Holds source s pool → Holds source (then_sent tag s) pool
  then_holds None s holds = sent_holds (first_due s) s holds
  then_holds (Some tag) s holds = holds

  -- a tag that is sent leaves what the buffers hold
  pub outlasts_sending : (c : Asking) → BothHold source c pool → BothHold source (next_sent c) pool
  outlasts_sending c holds = (
    sent_holds (first_due c.demand) c.demand holds.0,
    then_holds
        (first_due c.demand) c.background holds.1,
  )

  -- a tick leaves what the buffers hold
  pub outlasts_ticks : (c : Asking) → BothHold source c pool → BothHold source (both_ticked c) pool
  outlasts_ticks c holds = (ticked_holds c.demand holds.0, ticked_holds c.background holds.1)

  fresh : (count block : ℕ) (lease : Held) → Holds source (Some (asked_for count block lease)) pool
  fresh count block lease = λ i is. absurd (get_due count i is)

  -- a block that is asked for has no answered tag yet
  pub outlasts_asking : (slot : Slot) (count block : ℕ) (lease : Held) (c : Asking) → BothHold source c pool
      → BothHold source (with_slot slot (Some (asked_for count block lease)) c) pool
  outlasts_asking Demand count block lease c holds = (fresh count block lease, holds.1)
  outlasts_asking Background count block lease c holds = (holds.0, fresh count block lease)

  -- a slot that is freed has no buffer
  pub outlasts_freeing : (slot : Slot) (c : Asking) → BothHold source c pool
      → BothHold source (with_slot slot None c) pool
  outlasts_freeing Demand c holds = (tt, holds.1)
  outlasts_freeing Background c holds = (holds.0, tt)
