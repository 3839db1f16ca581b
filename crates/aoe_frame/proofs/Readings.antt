-- A frame has one reading.
use Rattle.std.proofs.Common.{◌≡◌, ℕ, ◌+◌, ◌<◌, ◌≤◌, List, length, drop, Result, Ok, Err, arith, refl, sym, ap, ◌∙◌, subst, length-drop}
use Rattle.aoe_frame.specs.declared.message.TheConstants.{HEADER_BYTES, VERSION}
use Rattle.aoe_frame.specs.declared.message.Header.{Header}
use Rattle.aoe_frame.specs.declared.message.Argument.{Argument}
use Rattle.aoe_frame.specs.declared.message.Aoe.{Aoe}
use Rattle.aoe_frame.specs.declared.message.FrameFault.{FrameFault}
use Rattle.aoe_frame.specs.declared.message.FrameFault.TheVariants.{Short, NotAoe, Version}
use Rattle.aoe_frame.specs.Layout.{HasFrameHeader, HasArgument, ArgumentFits, IsArgumentOf, SaysMessage}
use Rattle.aoe_frame.specs.Reading.{IsReading, IsMessage, IsOfOtherType, IsShort, bytes_needed}
use Rattle.aoe_frame.specs.Reading.IsShort.{BeforeType, InHeader, InArgument}
use Rattle.aoe_frame.proofs.Layouts.{one_header, one_message, header_long, header_type, argument_long}

-- bytes with a header whose argument isn't cut aren't too short
not_short : (bytes : List ℕ) (h : Header) → HasFrameHeader bytes h
    → (h.version ≡ VERSION → bytes_needed h.command ≤ length bytes)
    → IsShort bytes → ⊥
not_short bytes h has whole (BeforeType below) = let long = header_long bytes h has in omega arith
not_short bytes h has whole (InHeader aoe below) = let long = header_long bytes h has in omega arith
not_short bytes h has whole (InArgument cut has_cut version below) =
    let same : cut ≡ h = one_header bytes cut h has_cut has in
    let spoken : h.version ≡ VERSION = sym (ap (λ x. x.version) same) ∙ version in
    let needed = whole spoken in
    let commands : cut.command ≡ h.command = ap (λ x. x.command) same in
    let few : length bytes < bytes_needed h.command = subst (λ (n : ℕ). length bytes < bytes_needed n) commands below in
    omega arith

message_long : (bytes : List ℕ) (m : Aoe) → SaysMessage bytes m → bytes_needed m.header.command ≤ length bytes
message_long bytes m says =
    let long = header_long bytes m.header says.header in
    let behind = argument_long (drop HEADER_BYTES bytes) m.header.command m.argument says.kind says.argument in
    omega (arith, length-drop HEADER_BYTES bytes)

-- a message is no other answer's
not_fault : (bytes : List ℕ) (m : Aoe) (fault : FrameFault) → IsMessage bytes m → IsReading bytes (Err fault) → ⊥
not_fault bytes m Short is cut = not_short bytes m.header is.says.header (λ spoken. message_long bytes m is.says) cut
not_fault bytes m NotAoe is foreign = foreign.other (header_type bytes m.header is.says.header)
not_fault bytes m (Version h) is strange =
    strange.other (ap (λ x. x.version) (one_header bytes h m.header strange.header is.says.header) ∙ is.version)

-- a frame that is cut is of the type, or shorter than it
not_foreign : (bytes : List ℕ) → IsOfOtherType bytes → IsShort bytes → ⊥
not_foreign bytes foreign (BeforeType below) = let long = foreign.long in omega arith
not_foreign bytes foreign (InHeader aoe below) = foreign.other aoe
not_foreign bytes foreign (InArgument h has version below) = foreign.other (header_type bytes h has)

one_fault : (bytes : List ℕ) (a b : FrameFault) → IsReading bytes (Err a) → IsReading bytes (Err b) → a ≡ b
one_fault bytes Short Short reads_a reads_b = refl
one_fault bytes Short NotAoe reads_a reads_b = absurd (not_foreign bytes reads_b reads_a)
one_fault bytes Short (Version h) reads_a reads_b =
    absurd (not_short bytes h reads_b.header (λ spoken. absurd (reads_b.other spoken)) reads_a)
one_fault bytes NotAoe Short reads_a reads_b = absurd (not_foreign bytes reads_a reads_b)
one_fault bytes NotAoe NotAoe reads_a reads_b = refl
one_fault bytes NotAoe (Version h) reads_a reads_b = absurd (reads_a.other (header_type bytes h reads_b.header))
one_fault bytes (Version h) Short reads_a reads_b =
    absurd (not_short bytes h reads_a.header (λ spoken. absurd (reads_a.other spoken)) reads_b)
one_fault bytes (Version h) NotAoe reads_a reads_b = absurd (reads_b.other (header_type bytes h reads_a.header))
one_fault bytes (Version h) (Version k) reads_a reads_b =
    ap Version (one_header bytes h k reads_a.header reads_b.header)

-- a frame has one reading
pub one_reading : (bytes : List ℕ) (a b : Result Aoe FrameFault) → IsReading bytes a → IsReading bytes b → a ≡ b
one_reading bytes (Ok m) (Ok n) reads_a reads_b = ap Ok (one_message bytes m n reads_a.says reads_b.says)
one_reading bytes (Ok m) (Err fault) reads_a reads_b = absurd (not_fault bytes m fault reads_a reads_b)
one_reading bytes (Err fault) (Ok m) reads_a reads_b = absurd (not_fault bytes m fault reads_b reads_a)
one_reading bytes (Err f) (Err g) reads_a reads_b = ap Err (one_fault bytes f g reads_a reads_b)

-- reading answers this exactly where this is what it has to answer
pub reads_exactly : (bytes : List ℕ) (answer a : Result Aoe FrameFault) → IsReading bytes answer
    → (answer ≡ a → IsReading bytes a) × (IsReading bytes a → answer ≡ a)
reads_exactly bytes answer a reads = (λ is. subst (IsReading bytes) is reads, one_reading bytes answer a reads)

-- a header and an argument are a message
pub read_whole : (bytes : List ℕ) (h : Header) (a : Argument) → HasFrameHeader bytes h → h.version ≡ VERSION
    → IsArgumentOf h.command a × HasArgument (drop HEADER_BYTES bytes) a × ArgumentFits a
    → IsMessage bytes (record { header = h; argument = a })
read_whole bytes h a has spoken parts = record {
  says = record { header = has; kind = parts.0; argument = parts.1; fits = parts.2 };
  version = spoken;
}

-- a header with a part of its argument is too short
pub read_cut : (bytes : List ℕ) (h : Header) → HasFrameHeader bytes h → h.version ≡ VERSION
    → HEADER_BYTES + length (drop HEADER_BYTES bytes) < bytes_needed h.command → IsShort bytes
read_cut bytes h has spoken few = InArgument h has spoken (omega (arith, length-drop HEADER_BYTES bytes))
