-- A text has one first line that a run refuses, or is a schedule that it takes.
use Rattle.std.proofs.Common.{◌≡◌, ◌≤◌, ◌++◌, ℕ, List, [], ◌∷◌, length, true, false, sym, ap, ◌∙◌, subst, arith, inl, inr}
use Rattle.std.proofs.lemmas.Bool.{cases_lt}
use Rattle.schedule_text.specs.declared.Event.{Event}
use Rattle.schedule_text.specs.declared.LineFault.{LineFault}
use Rattle.schedule_text.specs.BadLine.{FailsAt}
use Rattle.schedule_text.proofs.Readings.{Follows, bad_line_once, both_read, fails_here, no_bad_line, schedule_within}
use Rattle.bmcast.specs.Known.{IsRefused, IsTaken, IsUnknown, KnowsAll, knows}

module _ (image : ℕ) where
  -- the earlier ones of known events are known
  known_earlier : (newer events : List Event) → KnowsAll image (newer ++ events) → KnowsAll image events
  known_earlier [] events known = known
  known_earlier (one ∷ newer) events known = known_earlier newer events known.1

  -- all but the newest are known
  abbrev KnowsOlder : List Event → Type 0
  KnowsOlder [] = Unit {0}
  KnowsOlder (one ∷ events) = KnowsAll image events

  known_older : (events : List Event) → KnowsAll image events → KnowsOlder events
  known_older [] known = tt
  known_older (one ∷ events) known = known.1

  -- so an event behind the newest is known
  older_known : (newer : List Event) (said e : Event) (events more : List Event) → more ≡ newer ++ said ∷ e ∷ events
      → KnowsOlder more → knows image e ≡ true
  older_known [] said e events more is known = (subst KnowsOlder is known).0
  older_known (one ∷ newer) said e events more is known =
      (known_earlier newer (said ∷ e ∷ events) (subst KnowsOlder is known)).1.0

  -- and no reading goes on behind one that isn't
  goes_no_further : (e : Event) (events more : List Event) (left : List ℕ) → knows image e ≡ false → KnowsOlder more
      → ¬ Follows left (e ∷ events) more
  goes_no_further e events more left unknown known on =
      let is = older_known on.newer on.said e events more on.more_is known in cc (is, unknown)

  known_unknown : (e : Event) (a b : List Event) → a ≡ e ∷ b → KnowsAll image a → knows image e ≡ false → ⊥
  known_unknown e a b is known unknown = let there = (subst (KnowsAll image) is known).0 in cc (there, unknown)

module _ (image : ℕ) (text : List ℕ) where
  -- two events that aren't known stand at one place, where all before them are
  unknown_within : (a b : List Event) (m n : ℕ) → length a ≤ length b → KnowsAll image b → IsUnknown image text a m
      → IsUnknown image text b n → m ≡ n
  unknown_within a b m n few known first second =
      elim (both_read text first.left second.left (first.one ∷ a) (second.one ∷ b) (omega arith)
      first.read second.read) [
        | inl same ↦ let many = ap (λ (events : List Event). length events) same.0 in
            let here = first.next in let there = second.next in omega arith
        | inr on ↦ absurd (goes_no_further image first.one a (second.one ∷ b) first.left first.unknown known on)
      ]

  unknown_once : (a b : List Event) (m n : ℕ) → KnowsAll image a → KnowsAll image b → IsUnknown image text a m
      → IsUnknown image text b n → m ≡ n
  unknown_once a b m n known_a known_b first second = elim (cases_lt (length b) (length a)) [
    | inl fewer ↦ sym (unknown_within b a n m (omega arith) known_a second first)
    | inr few ↦ unknown_within a b m n few known_b first second
  ]

  -- a text with a bad line behind known events has none before it
  fails_known : (a b : List Event) (m n : ℕ) (kind : LineFault) → FailsAt text a m kind → KnowsAll image a
      → ¬ IsUnknown image text b n
  fails_known a b m n kind fails known unknown =
      let e = unknown.one in
      elim (cases_lt (length b) (length a)) [
        | inl fewer ↦
            elim (both_read text unknown.left fails.left (e ∷ b) a (omega arith) unknown.read fails.read) [
              | inl same ↦ known_unknown image e a b (sym same.0) known unknown.unknown
              | inr on ↦ goes_no_further image e b a unknown.left unknown.unknown (known_older image a known) on
            ]
        | inr few ↦
            elim (both_read text fails.left unknown.left a (e ∷ b) (omega arith) fails.read unknown.read) [
              | inl same ↦ known_unknown image e a b same.0 known unknown.unknown
              | inr on ↦ fails_here kind m a (e ∷ b) fails.left fails.fails fails.next (inr unknown.goes_on) on
            ]
      ]

  -- and a schedule of known events has none
  schedule_known : (a b : List Event) (n : ℕ) → IsTaken image text a → ¬ IsUnknown image text b n
  schedule_known a b n whole unknown =
      let within = schedule_within text unknown.left a (unknown.one ∷ b) whole.0 unknown.read
      (λ few on. goes_no_further image unknown.one b a unknown.left unknown.unknown (known_older image a whole.1) on) in
      known_unknown image unknown.one a b (sym within.0) whole.1 unknown.unknown

  -- so the first line that is refused is one, for one fault
  pub refused_once : (a b : List Event) (m n : ℕ) (k l : LineFault) → IsRefused image text a m k
      → IsRefused image text b n l → (m ≡ n) × (k ≡ l)
  refused_once a b m n k l (known_a, inl first) (known_b, inl second) =
      let once = bad_line_once text a b m n k l first second in (once.0, once.1)
  refused_once a b m n k l (known_a, inl first) (known_b, inr (is, second)) =
      absurd (fails_known a b m n k first known_a second)
  refused_once a b m n k l (known_a, inr (is, first)) (known_b, inl second) =
      absurd (fails_known b a n m l second known_b first)
  refused_once a b m n k l (known_a, inr (is, first)) (known_b, inr (was, second)) =
      (unknown_once a b m n known_a known_b first second, is ∙ sym was)

  pub none_refused : (a b : List Event) (n : ℕ) (kind : LineFault) → IsTaken image text a
      → ¬ IsRefused image text b n kind
  none_refused a b n kind whole (known, inl fails) = no_bad_line text a b n kind whole.0 fails
  none_refused a b n kind whole (known, inr (is, unknown)) = schedule_known a b n whole unknown
