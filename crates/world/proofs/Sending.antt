-- Requests that are sent one after the other.
use Rattle.std.proofs.Common.{◌≡◌, ℕ, suc, ◌<◌, List, [], ◌∷◌, length, drop, Some, None, refl, sym, ap, ◌∙◌, arith}
use Rattle.std.specs.Prelude.{map, option_map, slice_get}
use Rattle.aoe_net.specs.Wire.{Wire, sent}
use Rattle.aoe_net.specs.declared.way.Way.TheVariants.{ToServer}
use Rattle.aoe_client.specs.Asking.{Asking, due_tags, next_sent}
use Rattle.aoe_client.specs.Messages.{request_frame}
use Rattle.aoe_client.proofs.DueTags.{all_left}
use Rattle.streaming.specs.Client.{all_sent}
use Rattle.streaming.specs.Network.{requests_sent}
use Rattle.streaming.proofs.AllSent.{none_due_all_sent, nothing_sent, sent_next}

-- the frames of the tags that are due, sent
abbrev pub due_sent : Asking → Wire → Wire
due_sent c wire = requests_sent (map request_frame (due_tags c)) wire

-- where there is a first one, one fewer is left behind it
fewer : (tags : List ℕ) (frame : List ℕ) → Some frame ≡ option_map request_frame (slice_get tags 0)
    → length tags ≡ suc (length (drop 1 tags))
fewer [] frame is = absurd cc
fewer (tag ∷ tags) frame is = refl

first_frame : (tags : List ℕ) (frame : List ℕ) (wire : Wire)
    → Some frame ≡ option_map request_frame (slice_get tags 0)
    → requests_sent (map request_frame (drop 1 tags)) (sent ToServer frame wire)
    ≡ requests_sent (map request_frame tags) wire
first_frame [] frame wire is = absurd cc
first_frame (tag ∷ tags) frame wire is =
    let same : frame ≡ request_frame tag = cc in
    ap (λ f. requests_sent (map request_frame tags) (sent ToServer f wire)) same

module _ (c : Asking) (frame : List ℕ)
    (is : Some frame ≡ option_map request_frame (slice_get (due_tags c) 0)) where
  left_count : length (due_tags c) ≡ suc (length (due_tags (next_sent c)))
  left_count = fewer (due_tags c) frame is ∙ ap (λ tags. suc (length tags)) (sym (all_left c))

  -- it is sent, and then the others
  pub wire_first : (wire : Wire) → due_sent (next_sent c) (sent ToServer frame wire) ≡ due_sent c wire
  wire_first wire = ap (λ tags. requests_sent (map request_frame tags) (sent ToServer frame wire)) (all_left c)
      ∙ first_frame (due_tags c) frame wire is

  pub sent_fewer : length (due_tags (next_sent c)) < length (due_tags c)
  sent_fewer = omega (left_count, arith)

-- where there is none, no tag is due, and nothing is sent
none_first : (tags : List ℕ) → None ≡ option_map request_frame (slice_get tags 0) → tags ≡ []
none_first [] is = refl
none_first (tag ∷ tags) is = absurd cc

module _ (c : Asking) (is : None ≡ option_map request_frame (slice_get (due_tags c) 0)) where
  pub none_due : due_tags c ≡ []
  none_due = none_first (due_tags c) is

  pub none_sent : next_sent c ≡ c
  none_sent = nothing_sent c none_due

  pub all_were : all_sent c ≡ c
  all_were = none_due_all_sent c none_due

  pub wire_stays : (wire : Wire) → due_sent c wire ≡ wire
  wire_stays wire = ap (λ tags. requests_sent (map request_frame tags) wire) none_due

pub ruleset sendings = (sent_next, wire_first, sent_fewer, none_sent, all_were, wire_stays)
