-- What a line says: one event at most.
use Rattle.std.proofs.Common.{ℕ, ◌≡◌, ◌<◌, ◌≤◌, ◌^◌, ◌++◌, ◌==◌, if◌then◌else◌, Bool, true, false, List, [], ◌∷◌, length, length-append, codes, decimal, get_or, drop, ap, ap₂, sym, ◌∙◌, subst, refl, arith, append-nil, Result, Ok, Err, MatchResult, inl, inr}
use Rattle.std.specs.Str.Parse.{digits_value}
use Rattle.std.proofs.lemmas.Fmt.{length-decimal-le}
use Rattle.ata_taskfile.specs.declared.Reg.{Reg}
use Rattle.ata_taskfile.specs.declared.Reg.TheVariants as reg
use Rattle.ata_taskfile.specs.declared.Step.TheVariants as step
use Rattle.aoe_frame.specs.declared.frame.TheConstants.{MOST_BYTES}
use Rattle.aoe_net.specs.declared.way.Way.{Way}
use Rattle.aoe_net.specs.declared.way.Way.TheVariants.{ToServer, ToClient}
use Rattle.decimal_text.specs.Decimal.{IsDecimal}
use Rattle.decimal_text.proofs.Decimals.{decimal_told}
use Rattle.schedule_text.specs.declared.Event.{Event}
use Rattle.schedule_text.specs.declared.Event.TheVariants as event
use Rattle.schedule_text.specs.declared.LineFault.{LineFault}
use Rattle.schedule_text.specs.declared.LineFault.TheVariants as fault
use Rattle.schedule_text.specs.declared.TheConstants.{LINE_BYTES}
use Rattle.schedule_text.specs.Line.{register_text, way_text, stray_text, keep_text, hex_byte, hex_text, hex_long, IsInRange, IsTextOf, Says, HasFault, IsOutOfRange}
use Rattle.schedule_text.proofs.Hex.{told_bytes, told_bytes-hex_text, told_long, told_long-hex_long, byte_value, byte_value-hex_byte, length-hex_text}
use Rattle.schedule_text.proofs.Places.{first_word, has_space, place_told}

-- the register that two bytes name
abbrev named : ℕ → ℕ → Reg
named first last = if first == 101 then reg.Error else if first == 100 then reg.Device else if first
    == 97 then reg.Alternate
    else if first == 115 then (if last == 99 then reg.Count else reg.Status)
    else if first == 108 then (if last == 108 then reg.Low else if last == 109 then reg.Mid else reg.High)
    else if last == 99 then reg.BusCommand else reg.BusStatus

-- the event of a line that reads
abbrev told_read : List ℕ → Event
told_read line = if get_or line 3 0 == 56 then event.Read8 (named (get_or line 5 0) (get_or line 6 0))
    else if get_or line 3 0 == 100 then event.ReadWords (digits_value 10 (drop 5 line)) else event.ReadPointer

-- and of one that writes a register
abbrev told_write_byte : List ℕ → Event
told_write_byte line =
    event.Write8 (named (get_or line 5 0) (get_or line 6 0)) (byte_value (get_or line 8 0) (get_or line 9 0))

-- and of one that writes
abbrev told_write : List ℕ → Event
told_write line =
    if get_or line 3 0 == 56 then told_write_byte line
    else if get_or line 3 0 == 100 then event.WriteWords (told_bytes (drop 5 line)) else event.WritePointer
    (told_long (drop 6 line))

-- and of one about the guest's memory
abbrev told_memory : List ℕ → Event
told_memory line = if get_or line 3 0 == 114 then event.ReadMemory (told_long (drop 5 line))
    (digits_value 10 (drop 14 line))
    else event.WriteMemory (told_long (drop 5 line)) (told_bytes (drop 14 line))

abbrev told_access : List ℕ → Event
told_access line = if get_or line 2 0 == 114 then told_read line else if get_or line 2 0 == 119 then told_write line
    else if get_or line 2 0 == 109 then told_memory line else event.Line

abbrev told_act : List ℕ → Event
told_act line = if get_or line 2 0 == 111 then event.Drive step.Good else if get_or line 2 0 == 98
    then event.Drive step.Bad
    else event.Destage (digits_value 10 (drop 6 line))

-- the way that a byte names
abbrev way_of : ℕ → Way
way_of c = if c == 115 then ToServer else ToClient

abbrev told_network : List ℕ → Event
told_network line = if get_or line 2 0 == 108 then event.Lose (way_of (get_or line 3 0))
    (digits_value 10 (drop 5 line))
    else if get_or line 2 0 == 120 then event.Stray ToClient (told_bytes (drop 4 line))
    else if get_or line 2 0 == 121 then event.Stray ToServer (told_bytes (drop 4 line))
    else event.Deliver (way_of (get_or line 2 0)) (digits_value 10 (first_word (drop 4 line)))
    (has_space (drop 4 line))

-- the event of a line, where it says one
abbrev pub told : List ℕ → Event
told line = if get_or line 0 0 == 103 then told_access line else if get_or line 0 0 == 100 then told_act line
    else if get_or line 0 0 == 110 then told_network line else if get_or line 0 0 == 116 then event.Turn
    else if get_or line 0 0 == 107 then event.Tick
    else if get_or line 0 0 == 99 then event.Cut else if get_or line 0 0 == 101 then event.End else event.Remark

-- a register's name has two bytes, and they tell it
name_is : (r : Reg) → register_text r ≡ get_or (register_text r) 0 0 ∷ get_or (register_text r) 1 0 ∷ []
name_is r = grind arith

named-register_text : (r : Reg) → named (get_or (register_text r) 0 0) (get_or (register_text r) 1 0) ≡ r
named-register_text r = grind arith

told_write8 : (r : Reg) (v : ℕ) → v < 256 → told (codes "g w8 " ++ register_text r ++ 32 ∷ hex_byte v) ≡ event.Write8
    r v
told_write8 r v small = ap (λ (name : List ℕ). told (codes "g w8 " ++ name ++ 32 ∷ hex_byte v)) (name_is r) ∙
    ap (λ (q : Reg). event.Write8 q (byte_value (get_or (hex_byte v) 0 0) (get_or (hex_byte v) 1 0)))
    (named-register_text r) ∙
    ap (event.Write8 r) (byte_value-hex_byte v small)

told_remark : (line : List ℕ) → IsTextOf event.Remark line → told line ≡ event.Remark
told_remark [] (note, short) = refl
told_remark (c ∷ rest) (note, short) = ap (λ (d : ℕ). told (d ∷ rest)) note

told_pointer : (v : ℕ) → v < 2 ^ 32 → told_long (hex_long v) ≡ v
told_pointer v small = ap told_long (sym (append-nil (hex_long v))) ∙ told_long-hex_long v [] small

told_delivered : (way : Way) (t : List ℕ) (keep : Bool) → IsDecimal t
    → told (codes "n " ++ way_text way ++ 32 ∷ t ++ keep_text keep) ≡ event.Deliver way (digits_value 10 t) keep
told_delivered ToServer t keep whole = let place = place_told t keep whole in
    ap₂ (λ (u : List ℕ) (k : Bool). event.Deliver ToServer (digits_value 10 u) k) place.0 place.1
told_delivered ToClient t keep whole = let place = place_told t keep whole in
    ap₂ (λ (u : List ℕ) (k : Bool). event.Deliver ToClient (digits_value 10 u) k) place.0 place.1

told_lost : (way : Way) (t : List ℕ)
    → told (codes "n l" ++ way_text way ++ 32 ∷ t) ≡ event.Lose way (digits_value 10 t)
told_lost ToServer t = refl
told_lost ToClient t = refl

told_stray : (way : Way) (t : List ℕ)
    → told (codes "n " ++ stray_text way ++ 32 ∷ t) ≡ event.Stray way (told_bytes t)
told_stray ToServer t = refl
told_stray ToClient t = refl

-- a line tells the event that it says
pub told_said : (line : List ℕ) (e : Event) → Says line e → told line ≡ e
told_said line (event.Read8 r) (range, is) = ap told is ∙ ap event.Read8 (named-register_text r)
told_said line (event.Write8 r v) (small, is) = ap told is ∙ told_write8 r v small
told_said line (event.ReadWords n) (range, is) = ap told is ∙ ap event.ReadWords (decimal_told n (omega arith)).1
told_said line (event.WriteWords bytes) (range, is) = ap told is ∙ ap event.WriteWords
    (told_bytes-hex_text bytes range.0.0)
told_said line event.ReadPointer (range, is) = ap told is
told_said line (event.WritePointer v) (small, is) = ap told is ∙ ap event.WritePointer (told_pointer v small)
told_said line (event.ReadMemory a n) (range, is) = ap told is ∙
    ap (λ (b : ℕ). event.ReadMemory b (digits_value 10 (decimal n))) (told_long-hex_long a (32 ∷ decimal n) range.0) ∙
    ap (event.ReadMemory a) (decimal_told n (omega arith)).1
told_said line (event.WriteMemory a bytes) (range, is) = ap told is ∙
    ap (λ (b : ℕ). event.WriteMemory b (told_bytes (hex_text bytes)))
    (told_long-hex_long a (32 ∷ hex_text bytes) range.0) ∙
    ap (event.WriteMemory a) (told_bytes-hex_text bytes range.1.0)
told_said line event.Line (range, is) = ap told is
told_said line (event.Deliver way k keep) (range, is) =
    let number = decimal_told k (omega arith) in
    ap told is ∙ told_delivered way (decimal k) keep number.0 ∙
    ap (λ (n : ℕ). event.Deliver way n keep) number.1
told_said line (event.Lose way k) (range, is) =
    ap told is ∙ told_lost way (decimal k) ∙ ap (event.Lose way) (decimal_told k (omega arith)).1
told_said line (event.Stray way frame) (range, is) =
    ap told is ∙ told_stray way (hex_text frame) ∙ ap (event.Stray way) (told_bytes-hex_text frame range.0)
told_said line (event.Drive step.Good) (range, is) = ap told is
told_said line (event.Drive step.Bad) (range, is) = ap told is
told_said line (event.Destage k) (range, is) = ap told is ∙ ap event.Destage (decimal_told k (omega arith)).1
told_said line event.Turn (range, is) = ap told is
told_said line event.Tick (range, is) = ap told is
told_said line event.Cut (range, is) = ap told is
told_said line event.Remark (range, is) = told_remark line is
told_said line event.End (range, is) = ap told is

-- a line says one event at most
pub says_once : (line : List ℕ) (a b : Event) → Says line a → Says line b → a ≡ b
says_once line a b said other = sym (told_said line a said) ∙ told_said line b other

length-keep_text : (keep : Bool) → length (keep_text keep) ≤ 5
length-keep_text true = omega arith
length-keep_text false = omega arith

-- the lines of the network are short
delivered_short : (way : Way) (t : List ℕ) (keep : Bool) → length t ≤ 2
    → length (codes "n " ++ way_text way ++ 32 ∷ t ++ keep_text keep) ≤ LINE_BYTES
delivered_short ToServer t keep short = omega (arith, length-append t (keep_text keep), length-keep_text keep)
delivered_short ToClient t keep short = omega (arith, length-append t (keep_text keep), length-keep_text keep)

lost_short : (way : Way) (t : List ℕ) → length t ≤ 2 → length (codes "n l" ++ way_text way ++ 32 ∷ t) ≤ LINE_BYTES
lost_short ToServer t short = omega arith
lost_short ToClient t short = omega arith

stray_short : (way : Way) (frame : List ℕ) → length frame ≤ MOST_BYTES
    → length (codes "n " ++ stray_text way ++ 32 ∷ hex_text frame) ≤ LINE_BYTES
stray_short ToServer frame short = omega (arith, length-hex_text frame)
stray_short ToClient frame short = omega (arith, length-hex_text frame)

-- a line that says an event isn't long
pub says_short : (line : List ℕ) (e : Event) → Says line e → length line ≤ LINE_BYTES
says_short line (event.Read8 r) (range, is) = omega (arith, ap length is, ap length (name_is r))
says_short line (event.Write8 r v) (range, is) = omega (
  arith,
  ap length is,
  length-append (register_text r) (32 ∷ hex_byte v),
  ap length (name_is r),
)
says_short line (event.ReadWords n) (range, is) = omega (
  arith,
  ap length is,
  length-decimal-le 3 n (omega arith) (omega arith) (omega arith),
)
says_short line (event.WriteWords bytes) (range, is) = omega (arith, ap length is, length-hex_text bytes)
says_short line event.ReadPointer (range, is) = omega (arith, ap length is)
says_short line (event.WritePointer v) (range, is) = omega (arith, ap length is)
says_short line (event.ReadMemory a n) (range, is) = omega (
  arith,
  ap length is,
  length-decimal-le 4 n (omega arith) (omega arith) (omega arith),
)
says_short line (event.WriteMemory a bytes) (range, is) = omega (arith, ap length is, length-hex_text bytes)
says_short line event.Line (range, is) = omega (arith, ap length is)
says_short line (event.Deliver way k keep) (range, is) = subst (λ z. length z ≤ LINE_BYTES) (sym is)
    (delivered_short way (decimal k) keep (length-decimal-le 2 k (omega arith) (omega arith) (omega arith)))
says_short line (event.Lose way k) (range, is) = subst (λ z. length z ≤ LINE_BYTES) (sym is)
    (lost_short way (decimal k) (length-decimal-le 2 k (omega arith) (omega arith) (omega arith)))
says_short line (event.Stray way frame) (range, is) = subst (λ z. length z ≤ LINE_BYTES) (sym is)
    (stray_short way frame range.2)
says_short line (event.Drive step.Good) (range, is) = omega (arith, ap length is)
says_short line (event.Drive step.Bad) (range, is) = omega (arith, ap length is)
says_short line (event.Destage k) (range, is) =
    omega (arith, ap length is, length-decimal-le 2 k (omega arith) (omega arith) (omega arith))
says_short line event.Turn (range, is) = omega (arith, ap length is)
says_short line event.Tick (range, is) = omega (arith, ap length is)
says_short line event.Cut (range, is) = omega (arith, ap length is)
says_short line event.Remark (range, is) = is.1
says_short line event.End (range, is) = omega (arith, ap length is)

-- the event that a text tells is in range where the text says one
range_told : (line : List ℕ) (e : Event) (text : List ℕ) → Says line e → line ≡ text → IsInRange (told text)
range_told line e text said is = subst IsInRange (sym (told_said line e said) ∙ ap told is) said.0

-- a line that says an event isn't out of range
pub says_in_range : (line : List ℕ) (e : Event) → Says line e → ¬ IsOutOfRange line
says_in_range line e said (short, inl (text, is, beyond)) = beyond.1 (range_told line e (codes "g rd " ++ text) said is)
says_in_range line e said (short, inr (inl (a, text, small, is, beyond))) = let range =
    range_told line e (codes "g mr " ++ hex_long a ++ 32 ∷ text) said is in beyond.1 (range.1, range.2)
says_in_range line e said (short, inr (inr (inl (way, keep, text, is, beyond)))) =
    let range = range_told line e (codes "n " ++ way_text way ++ 32 ∷ text ++ keep_text keep) said is in
    beyond.1 (omega arith, subst IsInRange (told_delivered way text keep beyond.0) range)
says_in_range line e said (short, inr (inr (inr (inl (way, text, is, beyond))))) =
    let range = range_told line e (codes "n l" ++ way_text way ++ 32 ∷ text) said is in
    beyond.1 (omega arith, subst IsInRange (told_lost way text) range)
says_in_range line e said (short, inr (inr (inr (inr (text, is, beyond))))) =
    beyond.1 (omega arith, range_told line e (codes "d put " ++ text) said is)

-- the answer to a line: what it says, or its fault
abbrev Reads : List ℕ → Result Event LineFault → Type 0
Reads line answer = MatchResult answer (Says line) (HasFault line)

-- the answer to a line that says an event is that event
pub only_said : (line : List ℕ) (answer : Result Event LineFault) → Reads line answer → (e : Event)
    → Says line e → answer ≡ Ok e
only_said line (Ok a) reads e said = ap Ok (says_once line a e reads said)
only_said line (Err fault.Form) reads e said = absurd (reads.1 e said)
only_said line (Err fault.Number) reads e said = absurd (says_in_range line e said reads)
only_said line (Err fault.LongLine) reads e said = absurd (omega (arith, says_short line e said))
only_said line (Err fault.NoEnd) reads e said = absurd reads
only_said line (Err fault.TooMany) reads e said = absurd reads
only_said line (Err fault.Trailing) reads e said = absurd reads

-- the answer to a line whose number is out of range is Number
pub only_number : (line : List ℕ) (answer : Result Event LineFault) → Reads line answer → IsOutOfRange line
    → answer ≡ Err fault.Number
only_number line (Ok a) reads beyond = absurd (says_in_range line a reads beyond)
only_number line (Err fault.Form) reads beyond = absurd (reads.2 beyond)
only_number line (Err fault.Number) reads beyond = refl
only_number line (Err fault.LongLine) reads beyond = absurd (omega (arith, beyond.0))
only_number line (Err fault.NoEnd) reads beyond = absurd reads
only_number line (Err fault.TooMany) reads beyond = absurd reads
only_number line (Err fault.Trailing) reads beyond = absurd reads

-- a line has one answer
pub ruleset one_answer = (says_short, only_said, only_number)
