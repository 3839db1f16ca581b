-- A text has one reading at most: as a whole schedule, or up to its first bad line.
use Rattle.std.proofs.Common.{◌≡◌, ◌≢◌, ◌≤◌, ◌+◌, ◌++◌, ◌⊎◌, ℕ, List, [], ◌∷◌, length, refl, sym, ap, ◌∙◌, subst, arith, inl, inr, append_assoc, append-nil}
use Rattle.std.proofs.lemmas.Bool.{cases_lt}
use Rattle.schedule_text.specs.declared.Event.{Event}
use Rattle.schedule_text.specs.declared.Event.TheVariants as event
use Rattle.schedule_text.specs.declared.LineFault.{LineFault}
use Rattle.schedule_text.specs.declared.LineFault.TheVariants as fault
use Rattle.schedule_text.specs.Line.{Says}
use Rattle.schedule_text.specs.Schedule.{IsOneLine, HasLines, IsCutOff, HasRead, MayGoOn, IsEnded, IsSchedule}
use Rattle.schedule_text.specs.BadLine.{first_line, FailsWith, FailsAt}
use Rattle.schedule_text.proofs.Grammar.{says_once, says_short, says_in_range}
use Rattle.schedule_text.proofs.Lines.{some_bytes, first_line-line, first_line-feed}

-- a line and what follows it are found by the first line feed
line_once : (l m x y : List ℕ) → IsOneLine l → IsOneLine m → l ++ 10 ∷ x ≡ m ++ 10 ∷ y → (l ≡ m) × (x ≡ y)
line_once [] [] x y one other e = (refl, cc)
line_once [] (d ∷ m) x y one other e = absurd (other.0 cc)
line_once (c ∷ l) [] x y one other e = absurd (one.0 cc)
line_once (c ∷ l) (d ∷ m) x y one other e = let rest = line_once l m x y one.1 other.1 cc in (cc, rest.1)

-- what follows the lines before a line and the line
joined : (before line x : List ℕ) → (before ++ line ++ 10 ∷ []) ++ x ≡ before ++ (line ++ 10 ∷ x)
joined before line x = simp append_assoc

-- as many lines of one text are the same, and the same is left
same : (a b : List Event) (s t x y : List ℕ) → length a ≡ length b → HasLines s a → HasLines t b
    → s ++ x ≡ t ++ y → (a ≡ b) × (x ≡ y)
same [] [] s t x y long here there e = (refl, rw (here, there) at e)
same [] (q ∷ b) s t x y long here there e = absurd (omega arith)
same (p ∷ a) [] s t x y long here there e = absurd (omega arith)
same (p ∷ a) (q ∷ b) s t x y long (before, l, lines, one, says, is) (front, m, others, other, said, was) e =
    let text : before ++ (l ++ 10 ∷ x) ≡ front ++ (m ++ 10 ∷ y) = sym (joined before l x) ∙ sym (ap (λ z. z ++ x) is)
    ∙ e ∙
    ap (λ z. z ++ y) was ∙ joined front m y in
    let back = same a b before front (l ++ 10 ∷ x) (m ++ 10 ∷ y) (omega arith) lines others text in
    let line = line_once l m x y one other back.1 in
    let event = says_once m p q (subst (λ z. Says z p) line.0 says) said in
    (rw (event, back.0) refl, line.1)

-- behind the lines of these events the text goes on with a line, whose event follows them among more
record GoesOn (left : List ℕ) (events more : List Event) : Type 0 where
  line : List ℕ
  rest : List ℕ
  said : Event
  newer : List Event
  one : IsOneLine line
  says : Says line said
  left_is : left ≡ line ++ 10 ∷ rest
  more_is : more ≡ newer ++ said ∷ events

one_more : (a b : List Event) (q : Event) (m x y : List ℕ) → IsOneLine m → Says m q
    → ((a ≡ b) × (x ≡ m ++ 10 ∷ y)) ⊎ GoesOn x a b
    → GoesOn x a (q ∷ b)
one_more a b q m x y one says (inl (is, left)) = record {
  line = m;
  rest = y;
  said = q;
  newer = [];
  one = one;
  says = says;
  left_is = left;
  more_is = ap (λ z. q ∷ z) (sym is);
}
one_more a b q m x y one says (inr on) = record {
  line = on.line;
  rest = on.rest;
  said = on.said;
  newer = q ∷ on.newer;
  one = on.one;
  says = on.says;
  left_is = on.left_is;
  more_is = ap (λ z. q ∷ z) on.more_is;
}

-- the lines of one text, no more of them here than there
lines_meet : (a b : List Event) (s t x y : List ℕ) → length a ≤ length b → HasLines s a → HasLines t b → s ++ x ≡ t ++ y
    → ((a ≡ b) × (x ≡ y)) ⊎ GoesOn x a b
lines_meet a [] s t x y few here there e = inl (same a [] s t x y (omega arith) here there e)
lines_meet a (q ∷ b) s t x y few here (front, m, others, other, said, was) e = elim (cases_lt (length b) (length a)) [
  | inl all ↦ inl (same a (q ∷ b) s t x y (omega arith) here (front, m, others, other, said, was) e)
  | inr fewer ↦ inr (one_more a b q m x y other said (lines_meet a b s front x (m ++ 10 ∷ y) fewer here others
      (e ∙ ap (λ z. z ++ y) was ∙ joined front m y)))
]

-- what is left begins with a line, whose event follows these events among more
pub record Follows (left : List ℕ) (events more : List Event) : Type 0 where
  pub said : Event
  pub newer : List Event
  pub some : left ≢ []
  pub says : Says (first_line left) said
  pub more_is : more ≡ newer ++ said ∷ events

follows : (left : List ℕ) (events more : List Event) → GoesOn left events more → Follows left events more
follows left events more on = record {
  said = on.said;
  newer = on.newer;
  some = λ none. some_bytes on.line on.rest 10 (sym on.left_is ∙ none);
  says = subst (λ z. Says z on.said) (sym (ap first_line on.left_is ∙ first_line-line on.line on.rest on.one)) on.says;
  more_is = on.more_is;
}

-- texts with one last byte
last_byte : (xs ys : List ℕ) (x y : ℕ) → xs ++ x ∷ [] ≡ ys ++ y ∷ [] → x ≡ y
last_byte [] [] x y e = cc
last_byte [] (d ∷ ys) x y e = absurd (some_bytes ys [] y cc)
last_byte (c ∷ xs) [] x y e = absurd (some_bytes xs [] x cc)
last_byte (c ∷ xs) (d ∷ ys) x y e = last_byte xs ys x y cc

-- whole lines don't end in a line without its line feed
whole_lines : (events : List Event) (text : List ℕ) → HasLines text events → ¬ IsCutOff text
whole_lines [] text lines (front, last, other, is) = some_bytes front [] last (sym is ∙ lines)
whole_lines (one ∷ earlier) text (before, line, lines, single, says, whole) (front, last, other, is) =
    other (last_byte front (before ++ line) last 10 (sym is ∙ whole))

-- the same with a line feed at the end of the text
follows_cut : (text s left : List ℕ) (events more : List Event) → HasLines s events → text ≡ s ++ left → IsCutOff text
    → GoesOn (left ++ 10 ∷ []) events more → Follows left events more
follows_cut text s left events more lines is cut on = record {
  said = on.said;
  newer = on.newer;
  some = λ none. whole_lines events s lines (subst IsCutOff (is ∙ ap (λ z. s ++ z) none ∙ append-nil s) cut);
  says = subst (λ z. Says z on.said) (sym (sym (first_line-feed left) ∙ ap first_line on.left_is ∙
      first_line-line on.line on.rest on.one)) on.says;
  more_is = on.more_is;
}

-- two readings of one text, with no more events here than there
pub both_read : (text x y : List ℕ) (a b : List Event) → length a ≤ length b → HasRead text x a → HasRead text y b
    → ((a ≡ b) × (x ≡ y)) ⊎ Follows x a b
both_read text x y a b few (s, here, inl is) (t, there, inl was) =
    elim (lines_meet a b s t x y few here there (sym is ∙ was)) [
      | inl all ↦ inl all
      | inr on ↦ inr (follows x a b on)
    ]
both_read text x y a b few (s, here, inl is) (t, there, inr (none, was, cut)) =
    let e : s ++ (x ++ 10 ∷ []) ≡ t ++ [] = sym (append_assoc s x (10 ∷ [])) ∙ ap (λ z. z ++ 10 ∷ []) (sym is)
    ∙ sym was ∙
    sym (append-nil t) in
    elim (lines_meet a b s t (x ++ 10 ∷ []) [] few here there e) [
      | inl all ↦ absurd (some_bytes x [] 10 all.1)
      | inr on ↦ inr (follows_cut text s x a b here is cut on)
    ]
both_read text x y a b few (s, here, inr (none, is, cut)) (t, there, inl was) =
    let e : s ++ [] ≡ t ++ (y ++ 10 ∷ []) = append-nil s ∙ is ∙ ap (λ z. z ++ 10 ∷ []) was
    ∙ append_assoc t y (10 ∷ []) in
    elim (lines_meet a b s t [] (y ++ 10 ∷ []) few here there e) [
      | inl all ↦ absurd (some_bytes y [] 10 (sym all.1))
      | inr on ↦ absurd (some_bytes on.line on.rest 10 (sym on.left_is))
    ]
both_read text x y a b few (s, here, inr (none, is, cut)) (t, there, inr (nothing, was, ends)) =
    elim (lines_meet a b s t [] [] few here there (ap (λ z. z ++ []) (is ∙ sym was))) [
      | inl all ↦ inl (all.0, none ∙ sym nothing)
      | inr on ↦ absurd (some_bytes on.line on.rest 10 (sym on.left_is))
    ]

-- events that are a schedule's, from its start
abbrev pub Begins : List Event → Type 0
Begins events = IsEnded events ⊎ MayGoOn events

-- behind an `end` no line is due
ended : (events : List Event) → IsEnded events → ¬ MayGoOn events
ended [] end goes_on = end
ended (last ∷ earlier) end goes_on = goes_on.0.0 end.0

-- a line was due behind all events but the newest
due_before : (newer events : List Event) → MayGoOn (newer ++ events) → MayGoOn events
due_before [] events goes_on = goes_on
due_before (one ∷ newer) events goes_on = due_before newer events (goes_on.0.1, omega (arith, goes_on.1))

due_behind : (newer : List Event) (said : Event) (events : List Event) → Begins (newer ++ said ∷ events)
    → MayGoOn events
due_behind [] said events (inl end) = end.1
due_behind [] said events (inr goes_on) = (goes_on.0.1, omega (arith, goes_on.1))
due_behind (one ∷ newer) said events (inl end) = due_before (said ∷ []) events (due_before newer (said ∷ events) end.1)
due_behind (one ∷ newer) said events (inr goes_on) = due_before (said ∷ []) events
    (due_before (one ∷ newer) (said ∷ events) goes_on)

-- and behind one that isn't `end`
due_still : (newer : List Event) (said : Event) (events : List Event) → said ≢ event.End
    → Begins (newer ++ said ∷ events)
    → MayGoOn (said ∷ events)
due_still [] said events other (inl end) = absurd (other end.0)
due_still [] said events other (inr goes_on) = goes_on
due_still (one ∷ newer) said events other (inl end) = due_before newer (said ∷ events) end.1
due_still (one ∷ newer) said events other (inr goes_on) = due_before (one ∷ newer) (said ∷ events) goes_on

fails_begins : (kind : LineFault) (number : ℕ) (events : List Event) (left : List ℕ)
    → FailsWith kind number events left → Begins events
fails_begins fault.NoEnd number events left fails = inr fails.0
fails_begins fault.Trailing number events left fails = inl fails.0
fails_begins fault.LongLine number events left fails = inr fails.goes_on
fails_begins fault.Form number events left fails = inr fails.goes_on
fails_begins fault.Number number events left fails = inr fails.goes_on
fails_begins fault.TooMany number events left fails = inr fails.goes_on

-- where a schedule fails, it doesn't go on
pub fails_here : (kind : LineFault) (number : ℕ) (events more : List Event) (left : List ℕ)
    → FailsWith kind number events left
    → length events + 1 ≡ number → Begins more → ¬ Follows left events more
fails_here fault.NoEnd number events more left fails next begins on = on.some fails.1
fails_here fault.Trailing number events more left fails next begins on =
    ended events fails.0 (due_behind on.newer on.said events (subst Begins on.more_is begins))
fails_here fault.LongLine number events more left fails next begins on =
    let short = says_short (first_line left) on.said on.says in let long = fails.fails in omega arith
fails_here fault.Form number events more left fails next begins on = fails.fails.1 on.said on.says
fails_here fault.Number number events more left fails next begins on =
    says_in_range (first_line left) on.said on.says fails.fails
fails_here fault.TooMany number events more left fails next begins on =
    let (last, (said, says, other)) = fails.fails in
    let one = says_once (first_line left) on.said said on.says says in
    let still = due_still on.newer on.said events (λ end. other (sym one ∙ end)) (subst Begins on.more_is begins) in
    omega (arith, still.1)

-- behind the same events, with the same bytes left, there is one fault
one_fault : (k l : LineFault) (number : ℕ) (events : List Event) (left : List ℕ) → FailsWith k number events left
    → FailsWith l number events left → k ≡ l
one_fault fault.Form fault.Number number events left first second = absurd (first.fails.2 second.fails)
one_fault fault.Number fault.Form number events left first second = absurd (second.fails.2 first.fails)
one_fault k l number events left first second =
    grind (arith, ended events, says_short (first_line left), says_in_range (first_line left))

-- two first bad lines, with no more events before the one than before the other
fails_once : (text : List ℕ) (a b : List Event) (m n : ℕ) (k l : LineFault) → length a ≤ length b → FailsAt text a m k
    → FailsAt text b n l → (m ≡ n) × (k ≡ l) × (a ≡ b)
fails_once text a b m n k l few first second =
    elim (both_read text first.left second.left a b few first.read second.read) [
      | inl (events, left) ↦
          let number : m ≡ n = sym first.next ∙ ap (λ z. length z + 1) events ∙ second.next in
          let fails : FailsWith l m a first.left = rw (events, left, number) second.fails in
          (number, one_fault k l m a first.left first.fails fails, events)
      | inr on ↦ absurd (fails_here k m a b first.left first.fails first.next
          (fails_begins l n b second.left second.fails) on)
    ]

-- a text has one first bad line at most
pub bad_line_once : (text : List ℕ) (a b : List Event) (m n : ℕ) (k l : LineFault) → FailsAt text a m k
    → FailsAt text b n l
    → (m ≡ n) × (k ≡ l) × (a ≡ b)
bad_line_once text a b m n k l first second = elim (cases_lt (length b) (length a)) [
  | inl fewer ↦ let once = fails_once text b a n m l k (omega arith) second first in
      (sym once.0, sym once.1, sym once.2)
  | inr few ↦ fails_once text a b m n k l few first second
]

-- nothing is left behind a whole schedule, so no reading of its text goes on
pub schedule_within : (text left : List ℕ) (events earlier : List Event) → IsSchedule text events
    → HasRead text left earlier
    → (length earlier ≤ length events → Follows left earlier events → ⊥) → (earlier ≡ events) × (left ≡ [])
schedule_within text left events earlier whole read stays = elim (cases_lt (length events) (length earlier)) [
  | inl fewer ↦ elim (both_read text [] left events earlier (omega arith) whole.1 read) [
    | inl all ↦ (sym all.0, sym all.1)
    | inr on ↦ absurd (on.some refl)
  ]
  | inr few ↦ elim (both_read text left [] earlier events few read whole.1) [
    | inl all ↦ all
    | inr on ↦ absurd (stays few on)
  ]
]

-- a text is one schedule at most
pub schedule_once : (text : List ℕ) (a b : List Event) → IsSchedule text a → IsSchedule text b → a ≡ b
schedule_once text a b whole other = (schedule_within text [] b a other whole.1 (λ few on. on.some refl)).0

-- a schedule's end with nothing left is no fault
done : (kind : LineFault) (number : ℕ) (events : List Event) → IsEnded events → ¬ FailsWith kind number events []
done fault.NoEnd number events end fails = ended events end fails.0
done fault.Trailing number events end fails = fails.1 refl
done fault.LongLine number events end fails = fails.some refl
done fault.Form number events end fails = fails.some refl
done fault.Number number events end fails = fails.some refl
done fault.TooMany number events end fails = fails.some refl

-- a whole schedule has no bad line
pub no_bad_line : (text : List ℕ) (events earlier : List Event) (number : ℕ) (kind : LineFault) → IsSchedule text events
    → ¬ FailsAt text earlier number kind
no_bad_line text events earlier number kind whole bad =
    let within = schedule_within text bad.left events earlier whole bad.read
    (λ few. fails_here kind number earlier events bad.left bad.fails bad.next (inl whole.0)) in
    done kind number events whole.0 (subst (λ z. FailsWith kind number z []) within.0
    (subst (λ z. FailsWith kind number earlier z) within.1 bad.fails))
