-- The bytes of lines: the first of a text, and the last where it lacks its line feed.
use Rattle.std.proofs.Common.{◌≡◌, ◌≢◌, ◌<◌, ◌++◌, ℕ, List, [], ◌∷◌, length, refl, sym, ap, ◌∙◌, append_assoc, arith}
use Rattle.schedule_text.specs.Schedule.{IsOneLine, IsCutOff}
use Rattle.schedule_text.specs.BadLine.{first_line}

-- a text with a byte isn't empty
pub some_bytes : (xs ys : List ℕ) (y : ℕ) → xs ++ y ∷ ys ≢ []
some_bytes [] ys y e = cc
some_bytes (x ∷ xs) ys y e = cc

-- a line with a byte more that isn't a line feed
pub IsOneLine-push : (line : List ℕ) (byte : ℕ) → IsOneLine line → byte ≢ 10 → IsOneLine (line ++ byte ∷ [])
IsOneLine-push [] byte one differs = (differs, tt)
IsOneLine-push (c ∷ line) byte one differs = (one.0, IsOneLine-push line byte one.1 differs)

-- a line with more bytes that have no line feed
pub IsOneLine-more : (line more : List ℕ) → IsOneLine line → IsOneLine more → IsOneLine (line ++ more)
IsOneLine-more [] more one other = other
IsOneLine-more (c ∷ line) more one other = (one.0, IsOneLine-more line more one.1 other)

-- the first line, up to its line feed
pub first_line-line : (line rest : List ℕ) → IsOneLine line → first_line (line ++ 10 ∷ rest) ≡ line
first_line-line [] rest one = refl
first_line-line (byte ∷ line) rest one = let tail = first_line-line line rest one.1 in let no = one.0 in grind arith

-- without one
pub first_line-last : (line : List ℕ) → IsOneLine line → first_line line ≡ line
first_line-last [] one = refl
first_line-last (byte ∷ line) one = let tail = first_line-last line one.1 in let no = one.0 in grind arith

-- longer than its start
pub first_line-long : (line rest : List ℕ) (byte : ℕ) → IsOneLine line → byte ≢ 10
    → length line < length (first_line (line ++ byte ∷ rest))
first_line-long [] rest byte one other = grind arith
first_line-long (c ∷ line) rest byte one other = let tail = first_line-long line rest byte one.1 other in
    let no = one.0 in grind arith

-- a line feed at the end of a text changes nothing
pub first_line-feed : (text : List ℕ) → first_line (text ++ 10 ∷ []) ≡ first_line text
first_line-feed [] = refl
first_line-feed (byte ∷ text) = let tail = first_line-feed text in grind arith

-- a text whose last line has bytes and no line feed is cut off
ends_cut_off : (line : List ℕ) → line ≢ [] → IsOneLine line → IsCutOff line
ends_cut_off [] some one = absurd (some refl)
ends_cut_off (byte ∷ []) some one = ([], byte, one.0, refl)
ends_cut_off (byte ∷ next ∷ line) some one =
    let (front, last, other, is) = ends_cut_off (next ∷ line) (λ e. cc) one.1 in
    (byte ∷ front, last, other, ap (λ z. byte ∷ z) is)

pub cut_off : (before line : List ℕ) → line ≢ [] → IsOneLine line → IsCutOff (before ++ line)
cut_off before line some one =
    let (front, last, other, is) = ends_cut_off line some one in
    (before ++ front, last, other, ap (λ z. before ++ z) is ∙ sym (append_assoc before front (last ∷ [])))
