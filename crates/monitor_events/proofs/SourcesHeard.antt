-- What came of the image has its source once a frame was heard.
use Rattle.std.proofs.Common.{◌≡◌, ℕ, zero, suc, ◌+◌, ◌-◌, ◌*◌, ◌≤◌, ◌⊎◌, Bool, true, false, if◌then◌else◌, List, [], ◌∷◌, slice_get, slice_set, Option, Some, None}
use Rattle.std.proofs.Common.{inl, inr, refl, sym, ap, subst, arith}
use Rattle.std.proofs.Math.ListN.{length-set}
use Rattle.ata_taskfile.specs.Device.{Device}
use Rattle.mon_pool.specs.Region.{Region}
use Rattle.aoe_client.specs.declared.client.Heard.{Heard}
use Rattle.aoe_client.specs.declared.client.Heard.TheVariants.{Took, Ignored}
use Rattle.aoe_client.specs.declared.tags.TagState.{TagState}
use Rattle.aoe_client.specs.declared.tags.TagState.TheVariants.{Answered}
use Rattle.aoe_client.specs.Asking.{Asking, heard, slot_heard}
use Rattle.aoe_client.specs.Fetching.{Fetching, first_tag, is_open, state_of, with_tag}
use Rattle.streaming.specs.Lines.{Line}
use Rattle.streaming.specs.Sources.{HasCome}
use Rattle.monitor_state.specs.declared.parts.Parts.{Parts}
use Rattle.monitor_state.specs.declared.state.State.{State}
use Rattle.monitor_state.specs.Sourced.{HasSources, SlotCame}

-- a tag that is answered once one was set so is that one, or was answered before
answered_set : (tags : List TagState) (k i : ℕ) → slice_get (slice_set tags k Answered) i ≡ Some Answered
    → (i ≡ k) ⊎ (slice_get tags i ≡ Some Answered)
answered_set [] k i is = inr is
answered_set (x ∷ tags) zero zero is = inl refl
answered_set (x ∷ tags) zero (suc i) is = inr is
answered_set (x ∷ tags) (suc k) zero is = inr is
answered_set (x ∷ tags) (suc k) (suc i) is = elim (answered_set tags k i is) [
  | inl same ↦ inl (ap suc same)
  | inr was ↦ inr was
]

-- a tag that is open is none before the block's first
open_above : (tag : ℕ) (f : Fetching) → is_open (state_of tag f) ≡ true → first_tag f ≤ tag
open_above tag f opens = grind arith

set_came : (tag : ℕ) (f : Fetching) (lines : List Line) → first_tag f ≤ tag → HasCome tag lines
    → SlotCame (Some f) lines → SlotCame (Some (with_tag Answered tag f)) lines
set_came tag f lines above come came i is =
    let k = tag - first_tag f in
    let same : first_tag (with_tag Answered tag f) ≡ first_tag f = ap (λ n. f.block * n)
    (length-set f.tags k Answered) in
    elim (answered_set f.tags k i is) [
      | inl at ↦
          let sum : tag ≡ first_tag (with_tag Answered tag f) + i = omega (arith, same, above, at) in
          subst (λ n. HasCome n lines) sum come
      | inr was ↦ subst (λ n. HasCome (n + i) lines) (sym same) (came i was)
    ]

answered_came : (opens : Bool) (tag : ℕ) (f : Fetching) (lines : List Line) → (opens ≡ true → first_tag f ≤ tag)
    → HasCome tag lines → SlotCame (Some f) lines
    → SlotCame (Some (if opens then with_tag Answered tag f else f)) lines
answered_came true tag f lines above come came = set_came tag f lines (above refl) come came
answered_came false tag f lines above come came = came

-- what is answered in a slot has come, where the tag that was taken has
slot_came : (what : Heard) (slot : Option Fetching) (lines : List Line)
    → ((tag : ℕ) → what ≡ Took tag → HasCome tag lines) → SlotCame slot lines → SlotCame (slot_heard what slot) lines
slot_came Ignored slot lines comes came = came
slot_came (Took tag) None lines comes came = tt
slot_came (Took tag) (Some f) lines comes came =
    answered_came (is_open (state_of tag f)) tag f lines (open_above tag f) (comes tag refl) came

-- and so it is in both; nothing else has to do with it
pub heard_sources : (s : State) (p : Parts) (c : Asking) (pool : Region) (what : Heard) (d : Device)
    (lines : List Line) → c ≡ heard what p.client → ((tag : ℕ) → what ≡ Took tag → HasCome tag lines)
    → HasSources s p d lines → HasSources s (record p { client = c; pool = pool }) d lines
heard_sources s p c pool what d lines is comes has = record {
  held = has.held;
  demand = subst (λ (c : Asking). SlotCame c.demand lines) (sym is)
      (slot_came what p.client.demand lines comes has.demand);
  background = subst (λ (c : Asking). SlotCame c.background lines) (sym is)
      (slot_came what p.client.background lines comes has.background);
  read = has.read;
}
