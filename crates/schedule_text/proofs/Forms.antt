-- What no line says: the texts that are no event's, each by its first words.
use Rattle.std.proofs.Common.{ℕ, ◌≡◌, ◌≢◌, ◌<◌, ◌≤◌, ◌+◌, ◌%◌, ◌^◌, ◌++◌, ◌==◌, Bool, List, ◌∷◌, length, codes, decimal, get_or, ap, sym, ◌∙◌, subst, refl, arith, Err, inl, inr}
use Rattle.std.specs.Bool.{MatchBool}
use Rattle.std.specs.Str.Parse.{digits_value}
use Rattle.std.proofs.lemmas.List.{append_cancel_left}
use Rattle.ata_taskfile.specs.declared.Reg.{Reg}
use Rattle.aoe_frame.specs.declared.frame.TheConstants.{MOST_BYTES}
use Rattle.aoe_net.specs.declared.way.Way.{Way}
use Rattle.aoe_net.specs.declared.way.Way.TheVariants.{ToServer, ToClient}
use Rattle.decimal_text.specs.Decimal.{IsDecimal}
use Rattle.decimal_text.proofs.Decimals.{decimal_told}
use Rattle.schedule_text.specs.declared.Event.{Event}
use Rattle.schedule_text.specs.declared.LineFault.{LineFault}
use Rattle.schedule_text.specs.declared.LineFault.TheVariants as fault
use Rattle.schedule_text.specs.declared.TheConstants.{LINE_BYTES}
use Rattle.schedule_text.specs.Line.{register_text, way_text, stray_text, keep_text, hex_byte, hex_text, hex_long, AreSomeBytes, IsBeyond, HasWordsBeyond, HasBytesBeyond, HasDeliveredBeyond, HasLostBeyond, HasEntryBeyond, HasBeyond, ReadsNumber, Says, IsFormless, HasFault}
use Rattle.schedule_text.proofs.Hex.{byte_at}
use Rattle.schedule_text.proofs.Places.{first_word, has_space}
use Rattle.schedule_text.proofs.Grammar.{told, told_said}

-- a line that doesn't say the event that it tells says none
pub formless : (line : List ℕ) → length line ≤ LINE_BYTES → ¬ Says line (told line) → ¬ HasBeyond line → IsFormless line
formless line short other within = (
  short,
  (λ e said. other (subst (λ (z : Event). Says line z) (sym (told_said line e said))
      said)),
  (λ beyond. within beyond.1),
)

-- which number of a line is out of range, by the line's first bytes
abbrev Shaped : List ℕ → Type 0
Shaped line = MatchBool (get_or line 0 0 == 110) (MatchBool (get_or line 2 0 == 108) (HasLostBeyond line)
    (MatchBool (get_or line 2 0 == 115) (HasDeliveredBeyond line)
    (MatchBool (get_or line 2 0 == 99) (HasDeliveredBeyond line) ⊥)))
    (MatchBool (get_or line 2 0 == 114) (MatchBool (get_or line 3 0 == 100) (HasWordsBeyond line) ⊥)
    (MatchBool (get_or line 2 0 == 109) (MatchBool (get_or line 3 0 == 114) (HasBytesBeyond line) ⊥)
    (MatchBool (get_or line 2 0 == 112) (HasEntryBeyond line) ⊥)))

shaped : (line : List ℕ) → HasBeyond line → Shaped line
shaped line (inl (text, is, beyond)) = subst Shaped (sym is) (text, refl, beyond)
shaped line (inr (inl (a, text, small, is, beyond))) = subst Shaped (sym is) (a, text, small, refl, beyond)
shaped line (inr (inr (inl (ToServer, keep, text, is, beyond)))) =
    subst Shaped (sym is) (ToServer, keep, text, refl, beyond)
shaped line (inr (inr (inl (ToClient, keep, text, is, beyond)))) =
    subst Shaped (sym is) (ToClient, keep, text, refl, beyond)
shaped line (inr (inr (inr (inl (ToServer, text, is, beyond))))) = subst Shaped (sym is) (ToServer, text, refl, beyond)
shaped line (inr (inr (inr (inl (ToClient, text, is, beyond))))) = subst Shaped (sym is) (ToClient, text, refl, beyond)
shaped line (inr (inr (inr (inr (text, is, beyond))))) = subst Shaped (sym is) (text, refl, beyond)

pub no_read8 : (t : List ℕ) → 5 + length t ≤ LINE_BYTES → ((r : Reg) → t ≢ register_text r)
    → IsFormless (codes "g r8 " ++ t)
no_read8 t short refused = formless (codes "g r8 " ++ t) (omega arith)
    (λ said. refused _ (append_cancel_left (codes "g r8 ") t _ said.1))
    (shaped (codes "g r8 " ++ t))

pub no_write8 : (t : List ℕ) → 5 + length t ≤ LINE_BYTES
    → ((r : Reg) (v : ℕ) → v < 256 → t ≢ register_text r ++ 32 ∷ hex_byte v)
    → IsFormless (codes "g w8 " ++ t)
no_write8 t short refused = formless (codes "g w8 " ++ t) (omega arith)
    (λ said. refused _ _ said.0 (append_cancel_left (codes "g w8 ") t _ said.1))
    (shaped (codes "g w8 " ++ t))

pub no_write_words : (t : List ℕ) → 5 + length t ≤ LINE_BYTES
    → ((bytes : List ℕ) → AreSomeBytes 512 bytes → length bytes % 2 ≡ 0
    → t ≢ hex_text bytes) → IsFormless (codes "g wd " ++ t)
no_write_words t short refused = formless (codes "g wd " ++ t) (omega arith)
    (λ said. refused _ said.0.0 said.0.1 (append_cancel_left (codes "g wd ") t _ said.1))
    (shaped (codes "g wd " ++ t))

pub no_write_pointer : (t : List ℕ) → 6 + length t ≤ LINE_BYTES → ((v : ℕ) → v < 2 ^ 32 → t ≢ hex_long v)
    → IsFormless (codes "g w32 " ++ t)
no_write_pointer t short refused = formless (codes "g w32 " ++ t) (omega arith)
    (λ said. refused _ said.0 (append_cancel_left (codes "g w32 ") t _ said.1))
    (shaped (codes "g w32 " ++ t))

no_memory_beyond : (t : List ℕ) → ((v : ℕ) (rest : List ℕ) → v < 2 ^ 32 → t ≢ hex_long v ++ 32 ∷ rest)
    → ¬ HasBeyond (codes "g mr " ++ t)
no_memory_beyond t refused beyond = let (a, u, small, is, other) = shaped (codes "g mr " ++ t) beyond in
    refused a u small (append_cancel_left (codes "g mr ") t _ is)

pub no_memory : (t : List ℕ) → 5 + length t ≤ LINE_BYTES
    → ((v : ℕ) (rest : List ℕ) → v < 2 ^ 32 → t ≢ hex_long v ++ 32 ∷ rest)
    → IsFormless (codes "g mr " ++ t)
no_memory t short refused = formless (codes "g mr " ++ t) (omega arith)
    (λ said. refused _ _ said.0.0 (append_cancel_left (codes "g mr ") t _ said.1))
    (no_memory_beyond t refused)

pub no_write_memory : (t : List ℕ) → 5 + length t ≤ LINE_BYTES → ((v : ℕ) (rest : List ℕ) → v < 2 ^ 32
    → t ≢ hex_long v ++ 32 ∷ rest) → IsFormless (codes "g mw " ++ t)
no_write_memory t short refused = formless (codes "g mw " ++ t) (omega arith)
    (λ said. refused _ _ said.0.0 (append_cancel_left (codes "g mw ") t _ said.1))
    (shaped (codes "g mw " ++ t))

-- the same number's text stands in front of the same text
behind : (a b : ℕ) (t u : List ℕ) → codes "g mw " ++ hex_long a ++ 32 ∷ t ≡ codes "g mw " ++ hex_long b ++ 32 ∷ u
    → t ≡ u
behind a b t u e = cc

pub no_bytes_written : (a : ℕ) (t : List ℕ) → 14 + length t ≤ LINE_BYTES → a < 2 ^ 32
    → ((bytes : List ℕ) → AreSomeBytes 2000 bytes → t ≢ hex_text bytes)
    → IsFormless (codes "g mw " ++ hex_long a ++ 32 ∷ t)
no_bytes_written a t short small refused = formless (codes "g mw " ++ hex_long a ++ 32 ∷ t) (omega arith)
    (λ said. refused _ said.0.1 (behind a _ t _ said.1))
    (shaped (codes "g mw " ++ hex_long a ++ 32 ∷ t))

-- the fault of a number is that of its line
number_fault : (low high : ℕ) (line t : List ℕ) (f : LineFault) → length line ≤ LINE_BYTES
    → (¬ IsDecimal t → IsFormless line)
    → (IsBeyond low high t → HasBeyond line) → ReadsNumber low high t (Err f) → HasFault line f
number_fault low high line t fault.Form short form number reads = form reads
number_fault low high line t fault.Number short form number reads = (short, number reads)
number_fault low high line t fault.LongLine short form number reads = absurd reads
number_fault low high line t fault.NoEnd short form number reads = absurd reads
number_fault low high line t fault.TooMany short form number reads = absurd reads
number_fault low high line t fault.Trailing short form number reads = absurd reads

-- a decimal is that of its number alone
no_decimal : (low high : ℕ) (t u : List ℕ) → ¬ IsDecimal t → t ≡ u → IsBeyond low high u → ⊥
no_decimal low high t u refused is beyond = refused (subst IsDecimal (sym is) beyond.0)

no_words_beyond : (t : List ℕ) → ¬ IsDecimal t → ¬ HasBeyond (codes "g rd " ++ t)
no_words_beyond t refused beyond = let (u, is, other) = shaped (codes "g rd " ++ t) beyond in
    no_decimal 1 256 t u refused (append_cancel_left (codes "g rd ") t u is) other

no_words : (t : List ℕ) → 5 + length t ≤ LINE_BYTES → ¬ IsDecimal t → IsFormless (codes "g rd " ++ t)
no_words t short refused = formless (codes "g rd " ++ t) (omega arith)
    (λ said. refused (subst IsDecimal (sym (append_cancel_left (codes "g rd ") t (decimal (digits_value 10 t)) said.1))
    (decimal_told (digits_value 10 t) (omega (arith, said.0))).0))
    (no_words_beyond t refused)

pub words_fault : (t : List ℕ) (f : LineFault) → 5 + length t ≤ LINE_BYTES → ReadsNumber 1 256 t (Err f)
    → HasFault (codes "g rd " ++ t) f
words_fault t f short reads = number_fault 1 256 (codes "g rd " ++ t) t f (omega arith) (no_words t short)
    (λ beyond. inl (t, refl, beyond)) reads

behind_read : (a b : ℕ) (t u : List ℕ) → codes "g mr " ++ hex_long a ++ 32 ∷ t ≡ codes "g mr " ++ hex_long b ++ 32 ∷ u
    → t ≡ u
behind_read a b t u e = cc

no_count_beyond : (a : ℕ) (t : List ℕ) → ¬ IsDecimal t → ¬ HasBeyond (codes "g mr " ++ hex_long a ++ 32 ∷ t)
no_count_beyond a t refused beyond =
    let (b, u, small, is, other) = shaped (codes "g mr " ++ hex_long a ++ 32 ∷ t) beyond in
    no_decimal 1 2000 t u refused (behind_read a b t u is) other

no_count : (a : ℕ) (t : List ℕ) → 14 + length t ≤ LINE_BYTES → ¬ IsDecimal t
    → IsFormless (codes "g mr " ++ hex_long a ++ 32 ∷ t)
no_count a t short refused = formless (codes "g mr " ++ hex_long a ++ 32 ∷ t) (omega arith)
    (λ said. refused (subst IsDecimal (sym (behind_read a _ t (decimal (digits_value 10 t)) said.1))
    (decimal_told (digits_value 10 t) (omega (arith, said.0))).0))
    (no_count_beyond a t refused)

pub count_fault : (a : ℕ) (t : List ℕ) (f : LineFault) → a < 2 ^ 32 → 14 + length t ≤ LINE_BYTES
    → ReadsNumber 1 2000 t (Err f)
    → HasFault (codes "g mr " ++ hex_long a ++ 32 ∷ t) f
count_fault a t f small short reads = number_fault 1 2000 (codes "g mr " ++ hex_long a ++ 32 ∷ t) t f (omega arith)
    (no_count a t short) (λ beyond. inr (inl (a, t, small, refl, beyond))) reads

no_destage_beyond : (t : List ℕ) → ¬ IsDecimal t → ¬ HasBeyond (codes "d put " ++ t)
no_destage_beyond t refused beyond = let (u, is, other) = shaped (codes "d put " ++ t) beyond in
    no_decimal 0 63 t u refused (append_cancel_left (codes "d put ") t u is) other

no_destage : (t : List ℕ) → 6 + length t ≤ LINE_BYTES → ¬ IsDecimal t → IsFormless (codes "d put " ++ t)
no_destage t short refused = formless (codes "d put " ++ t) (omega arith)
    (λ said. refused (subst IsDecimal (sym (append_cancel_left (codes "d put ") t (decimal (digits_value 10 t)) said.1))
    (decimal_told (digits_value 10 t) (omega (arith, said.0))).0))
    (no_destage_beyond t refused)

pub destage_fault : (t : List ℕ) (f : LineFault) → 6 + length t ≤ LINE_BYTES → ReadsNumber 0 63 t (Err f)
    → HasFault (codes "d put " ++ t) f
destage_fault t f short reads = number_fault 0 63 (codes "d put " ++ t) t f (omega arith) (no_destage t short)
    (λ beyond. inr (inr (inr (inr (t, refl, beyond))))) reads

-- the same word stands in front of the same text
behind_way : (v w : Way) (t u : List ℕ) → codes "n " ++ way_text v ++ 32 ∷ t ≡ codes "n " ++ way_text w ++ 32 ∷ u
    → t ≡ u
behind_way ToServer ToServer t u is = append_cancel_left (codes "n s ") t u is
behind_way ToServer ToClient t u is = absurd (let e : 115 ≡ 99 = byte_at 2 is in omega arith)
behind_way ToClient ToServer t u is = absurd (let e : 99 ≡ 115 = byte_at 2 is in omega arith)
behind_way ToClient ToClient t u is = append_cancel_left (codes "n c ") t u is

behind_lost : (v w : Way) (t u : List ℕ) → codes "n l" ++ way_text v ++ 32 ∷ t ≡ codes "n l" ++ way_text w ++ 32 ∷ u
    → t ≡ u
behind_lost ToServer ToServer t u is = append_cancel_left (codes "n ls ") t u is
behind_lost ToServer ToClient t u is = absurd (let e : 115 ≡ 99 = byte_at 3 is in omega arith)
behind_lost ToClient ToServer t u is = absurd (let e : 99 ≡ 115 = byte_at 3 is in omega arith)
behind_lost ToClient ToClient t u is = append_cancel_left (codes "n lc ") t u is

-- a line that is a frame's place is out of range by the digits alone
delivered_beyond : (way : Way) (t : List ℕ) → HasBeyond (codes "n " ++ way_text way ++ 32 ∷ t)
    → HasDeliveredBeyond (codes "n " ++ way_text way ++ 32 ∷ t)
delivered_beyond ToServer t = shaped (codes "n s " ++ t)
delivered_beyond ToClient t = shaped (codes "n c " ++ t)

lost_beyond : (way : Way) (t : List ℕ) → HasBeyond (codes "n l" ++ way_text way ++ 32 ∷ t)
    → HasLostBeyond (codes "n l" ++ way_text way ++ 32 ∷ t)
lost_beyond ToServer t = shaped (codes "n ls " ++ t)
lost_beyond ToClient t = shaped (codes "n lc " ++ t)

-- a line is as long as what stands behind its words, and these
length_delivered : (way : Way) (t : List ℕ) → 4 + length t ≤ LINE_BYTES
    → length (codes "n " ++ way_text way ++ 32 ∷ t) ≤ LINE_BYTES
length_delivered ToServer t short = omega arith
length_delivered ToClient t short = omega arith

length_lost : (way : Way) (t : List ℕ) → 5 + length t ≤ LINE_BYTES
    → length (codes "n l" ++ way_text way ++ 32 ∷ t) ≤ LINE_BYTES
length_lost ToServer t short = omega arith
length_lost ToClient t short = omega arith

-- ` keep` stands behind the place
grouped : (way : Way) (t rest : List ℕ)
    → codes "n " ++ way_text way ++ 32 ∷ t ++ rest ≡ codes "n " ++ way_text way ++ 32 ∷ (t ++ rest)
grouped ToServer t rest = refl
grouped ToClient t rest = refl

-- the digits of a text that is a place are these
abbrev AreDigits : List ℕ → List ℕ → Type 0
AreDigits digits t = (u : List ℕ) (keep : Bool) → IsDecimal u → t ≡ u ++ keep_text keep → digits ≡ u

no_delivered_beyond : (way : Way) (t digits : List ℕ) → ¬ IsDecimal digits → AreDigits digits t
    → ¬ HasBeyond (codes "n " ++ way_text way ++ 32 ∷ t)
no_delivered_beyond way t digits refused only beyond =
    let (w, keep, u, is, other) = delivered_beyond way t beyond in
    refused (subst IsDecimal (sym (only u keep other.0 (behind_way way w t (u ++ keep_text keep)
    (is ∙ grouped w u (keep_text keep))))) other.0)

no_delivered : (way : Way) (t digits : List ℕ) → 4 + length t ≤ LINE_BYTES → ¬ IsDecimal digits → AreDigits digits t
    → IsFormless (codes "n " ++ way_text way ++ 32 ∷ t)
no_delivered ToServer t digits short refused only = formless (codes "n s " ++ t) (omega arith)
    (λ said. let number = (decimal_told (digits_value 10 (first_word t)) (omega (arith, said.0))).0 in
    refused (subst IsDecimal (sym (only _ (has_space t) number (append_cancel_left (codes "n s ") t _ said.1))) number))
    (no_delivered_beyond ToServer t digits refused only)
no_delivered ToClient t digits short refused only = formless (codes "n c " ++ t) (omega arith)
    (λ said. let number = (decimal_told (digits_value 10 (first_word t)) (omega (arith, said.0))).0 in
    refused (subst IsDecimal (sym (only _ (has_space t) number (append_cancel_left (codes "n c ") t _ said.1))) number))
    (no_delivered_beyond ToClient t digits refused only)

pub delivered_fault : (way : Way) (t digits : List ℕ) (keep : Bool) (f : LineFault) → 4 + length t ≤ LINE_BYTES
    → t ≡ digits ++ keep_text keep → AreDigits digits t
    → ReadsNumber 0 63 digits (Err f) → HasFault (codes "n " ++ way_text way ++ 32 ∷ t) f
delivered_fault way t digits keep f short is only reads = number_fault 0 63 (codes "n " ++ way_text way ++ 32 ∷ t)
    digits f (length_delivered way t short) (λ refused. no_delivered way t digits short refused only)
    (λ beyond. inr (inr (inl (
      way,
      keep,
      digits,
      ap (λ z. codes "n " ++ way_text way ++ 32 ∷ z) is
          ∙ sym (grouped way digits (keep_text keep)),
      beyond,
    )))) reads

no_lost_beyond : (way : Way) (t : List ℕ) → ¬ IsDecimal t → ¬ HasBeyond (codes "n l" ++ way_text way ++ 32 ∷ t)
no_lost_beyond way t refused beyond = let (w, u, is, other) = lost_beyond way t beyond in
    no_decimal 0 63 t u refused (behind_lost way w t u is) other

no_lost : (way : Way) (t : List ℕ) → 5 + length t ≤ LINE_BYTES → ¬ IsDecimal t
    → IsFormless (codes "n l" ++ way_text way ++ 32 ∷ t)
no_lost ToServer t short refused = formless (codes "n ls " ++ t) (omega arith)
    (λ said. refused (subst IsDecimal (sym (append_cancel_left (codes "n ls ") t (decimal (digits_value 10 t)) said.1))
    (decimal_told (digits_value 10 t) (omega (arith, said.0))).0))
    (no_lost_beyond ToServer t refused)
no_lost ToClient t short refused = formless (codes "n lc " ++ t) (omega arith)
    (λ said. refused (subst IsDecimal (sym (append_cancel_left (codes "n lc ") t (decimal (digits_value 10 t)) said.1))
    (decimal_told (digits_value 10 t) (omega (arith, said.0))).0))
    (no_lost_beyond ToClient t refused)

pub lost_fault : (way : Way) (t : List ℕ) (f : LineFault) → 5 + length t ≤ LINE_BYTES → ReadsNumber 0 63 t (Err f)
    → HasFault (codes "n l" ++ way_text way ++ 32 ∷ t) f
lost_fault way t f short reads = number_fault 0 63 (codes "n l" ++ way_text way ++ 32 ∷ t) t f
    (length_lost way t short) (no_lost way t short)
    (λ beyond. inr (inr (inr (inl (way, t, refl, beyond))))) reads

pub no_stray : (way : Way) (t : List ℕ) → 4 + length t ≤ LINE_BYTES
    → ((bytes : List ℕ) → AreSomeBytes MOST_BYTES bytes → t ≢ hex_text bytes)
    → IsFormless (codes "n " ++ stray_text way ++ 32 ∷ t)
no_stray ToServer t short refused = formless (codes "n y " ++ t) (omega arith)
    (λ said. refused _ said.0 (append_cancel_left (codes "n y ") t _ said.1))
    (shaped (codes "n y " ++ t))
no_stray ToClient t short refused = formless (codes "n x " ++ t) (omega arith)
    (λ said. refused _ said.0 (append_cancel_left (codes "n x ") t _ said.1))
    (shaped (codes "n x " ++ t))
