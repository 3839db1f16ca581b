-- What an own command makes of one sector of its own, and of those beside.
use Rattle.std.proofs.Common.{◌≡◌, ℕ, ◌+◌, ◌-◌, ◌*◌, ◌<◌, ◌≤◌, ◌≢◌, zero, suc, List, [], ◌∷◌, length, take, drop, refl, sym, ap, ◌∙◌, subst, arith}
use Rattle.ata_taskfile.specs.Device.{Cell}
use Rattle.ata_taskfile.specs.Sectors.{IsSector}
use Rattle.plain_drive.specs.Plain.{current, words_of}
use Rattle.plain_drive.specs.Cells.{cell_at, value_at}
use Rattle.plain_drive.specs.Words.{bytes_of}
use Rattle.plain_drive.proofs.Cells.{length-appended, appended-current, appended-others}
use Rattle.plain_drive.proofs.SectorValues.{sector_back}
use Rattle.own_pio.specs.Moving.{put_over, words_at}
use Rattle.own_pio.specs.Kept.{read_over, written_over, words_at_sector}

-- bytes put over others leave their number
length-over : (n : ℕ) (xs ys : List ℕ) → length (put_over n xs ys) ≡ length ys
length-over n xs [] = refl
length-over zero [] (y ∷ ys) = refl
length-over zero (x ∷ xs) (y ∷ ys) = ap suc (length-over zero xs ys)
length-over (suc n) xs (y ∷ ys) = ap suc (length-over n xs ys)

-- what stands before the place stays
over-before : (m p start : ℕ) (xs ys : List ℕ) → p + m ≤ start
    → take m (drop p (put_over start xs ys)) ≡ take m (drop p ys)
over-before m p start xs [] apart = refl
over-before zero p start xs (y ∷ ys) apart = refl
over-before (suc m) p zero xs (y ∷ ys) apart = absurd (omega arith)
over-before (suc m) zero (suc start) xs (y ∷ ys) apart =
    ap (λ l. y ∷ l) (over-before m zero start xs ys (omega arith))
over-before (suc m) (suc p) (suc start) xs (y ∷ ys) apart = over-before (suc m) p start xs ys (omega arith)

-- what was put stands at its place
over-at : (start : ℕ) (xs ys : List ℕ) → start + length xs ≤ length ys
    → take (length xs) (drop start (put_over start xs ys)) ≡ xs
over-at zero [] ys room = refl
over-at zero (x ∷ xs) [] room = absurd (omega arith)
over-at zero (x ∷ xs) (y ∷ ys) room = ap (λ l. x ∷ l) (over-at zero xs ys (omega arith))
over-at (suc start) xs [] room = absurd (omega arith)
over-at (suc start) xs (y ∷ ys) room = over-at start xs ys (omega arith)

length-read : (first n : ℕ) (cells : List Cell) (start : List ℕ) → length (read_over first n cells start) ≡ length start
length-read first zero cells start = refl
length-read first (suc n) cells start =
    length-over (512 * n) (bytes_of (words_at_sector (first + n) cells)) (read_over first n cells start)
    ∙ length-read first n cells start

-- the last sector that was read stands at its place
read-last : (first i : ℕ) (cells : List Cell) (start : List ℕ) → 512 * i + 512 ≤ length start
    → IsSector (value_at (first + i) cells)
    → take 512 (drop (512 * i) (read_over first (suc i) cells start)) ≡ value_at (first + i) cells
read-last first i cells start room is =
    let value = value_at (first + i) cells in
    let front = read_over first i cells start in
    let back : bytes_of (words_of value) ≡ value = sector_back value is in
    let long = length-read first i cells start in
    let size = is.size in
    let at = over-at (512 * i) value front (omega (arith, long, size, room)) in
    let put : take 512 (drop (512 * i) (put_over (512 * i) value front)) ≡ value =
    subst (λ (n : ℕ). take n (drop (512 * i) (put_over (512 * i) value front)) ≡ value) size at in
    subst (λ (bytes : List ℕ). take 512 (drop (512 * i) (put_over (512 * i) bytes front)) ≡ value) (sym back) put

-- a sector behind which `k` others were read stands at its place
pub read-sector : (k first i n : ℕ) (cells : List Cell) (start : List ℕ) → n ≡ k + i + 1 → 512 * n ≤ length start
    → IsSector (value_at (first + i) cells)
    → take 512 (drop (512 * i) (read_over first n cells start)) ≡ value_at (first + i) cells
read-sector k first i zero cells start many room is = absurd (omega arith)
read-sector zero first i (suc n) cells start many room is =
    let same : i ≡ n = omega arith in
    subst (λ (m : ℕ). take 512 (drop (512 * i) (read_over first (suc m) cells start)) ≡ value_at (first + i) cells) same
    (read-last first i cells start (omega arith) is)
read-sector (suc k) first i (suc n) cells start many room is =
    over-before 512 (512 * i) (512 * n) (bytes_of (words_at_sector (first + n) cells)) (read_over first n cells start)
    (omega arith)
    ∙ read-sector k first i n cells start (omega arith) (omega arith) is

-- the first words of bytes are those of the first bytes
words-taken : (n m : ℕ) (bytes : List ℕ) → m ≡ n + n → take n (words_of bytes) ≡ words_of (take m bytes)
words-taken zero zero bytes twice = refl
words-taken zero (suc m) bytes twice = absurd (omega arith)
words-taken (suc n) zero bytes twice = absurd (omega arith)
words-taken (suc n) (suc zero) bytes twice = absurd (omega arith)
words-taken (suc n) (suc (suc m)) [] twice = refl
words-taken (suc n) (suc (suc m)) (x ∷ []) twice = refl
words-taken (suc n) (suc (suc m)) (low ∷ high ∷ rest) twice =
    ap (λ l. (low + 256 * high) ∷ l) (words-taken n m rest (omega arith))

-- a block of the bytes, as bytes again
pub block-back : (p : ℕ) (bytes : List ℕ) → IsSector (take 512 (drop p bytes))
    → bytes_of (words_at 256 p bytes) ≡ take 512 (drop p bytes)
block-back p bytes is =
    ap bytes_of (words-taken 256 512 (drop p bytes) refl) ∙ sector_back (take 512 (drop p bytes)) is

length-written : (first n : ℕ) (bytes : List ℕ) (cells : List Cell)
    → length (written_over first n bytes cells) ≡ length cells
length-written first zero bytes cells = refl
length-written first (suc n) bytes cells =
    length-appended (first + n) (bytes_of (words_at 256 (512 * n) bytes)) (written_over first n bytes cells)
    ∙ length-written first n bytes cells

-- the last sector that was written has its block
written-last : (first i : ℕ) (bytes : List ℕ) (cells : List Cell) → first + i < length cells
    → IsSector (take 512 (drop (512 * i) bytes))
    → value_at (first + i) (written_over first (suc i) bytes cells) ≡ take 512 (drop (512 * i) bytes)
written-last first i bytes cells room is =
    let long = length-written first i bytes cells in
    appended-current (first + i) (bytes_of (words_at 256 (512 * i) bytes)) (written_over first i bytes cells)
    (omega (arith, long, room))
    ∙ block-back (512 * i) bytes is

-- a sector behind which `k` others were written has its block
pub written-sector : (k first i n : ℕ) (bytes : List ℕ) (cells : List Cell) → n ≡ k + i + 1
    → first + i < length cells → IsSector (take 512 (drop (512 * i) bytes))
    → value_at (first + i) (written_over first n bytes cells) ≡ take 512 (drop (512 * i) bytes)
written-sector k first i zero bytes cells many room is = absurd (omega arith)
written-sector zero first i (suc n) bytes cells many room is =
    let same : i ≡ n = omega arith in
    subst (λ (m : ℕ). value_at (first + i) (written_over first (suc m) bytes cells) ≡ take 512 (drop (512 * i) bytes))
    same (written-last first i bytes cells room is)
written-sector (suc k) first i (suc n) bytes cells many room is =
    let apart : first + i ≢ first + n = λ e. absurd (omega arith) in
    ap (λ (cell : Cell). current cell) (appended-others (first + n) (first + i)
    (bytes_of (words_at 256 (512 * n) bytes)) (written_over first n bytes cells) apart)
    ∙ written-sector k first i n bytes cells (omega arith) room is

-- the sectors before the first that was written, and behind the last, stay
pub written-before : (first n s : ℕ) (bytes : List ℕ) (cells : List Cell) → s < first
    → cell_at s (written_over first n bytes cells) ≡ cell_at s cells
written-before first zero s bytes cells apart = refl
written-before first (suc n) s bytes cells apart =
    appended-others (first + n) s (bytes_of (words_at 256 (512 * n) bytes)) (written_over first n bytes cells)
    (λ e. absurd (omega arith))
    ∙ written-before first n s bytes cells apart

pub written-behind : (first n s : ℕ) (bytes : List ℕ) (cells : List Cell) → first + n ≤ s
    → cell_at s (written_over first n bytes cells) ≡ cell_at s cells
written-behind first zero s bytes cells apart = refl
written-behind first (suc n) s bytes cells apart =
    appended-others (first + n) s (bytes_of (words_at 256 (512 * n) bytes)) (written_over first n bytes cells)
    (λ e. absurd (omega arith))
    ∙ written-behind first n s bytes cells (omega arith)

pub read_each : (first count i : ℕ) (cells : List Cell) (start : List ℕ) → i < count → length start ≡ 512 * count
    → IsSector (value_at (first + i) cells)
    → take 512 (drop (512 * i) (read_over first count cells start)) ≡ value_at (first + i) cells
read_each first count i cells start below whole is =
    read-sector (count - 1 - i) first i count cells start (omega arith) (omega arith) is

pub written_each : (first count i : ℕ) (bytes : List ℕ) (cells : List Cell) → i < count
    → first + i < length cells → IsSector (take 512 (drop (512 * i) bytes))
    → value_at (first + i) (written_over first count bytes cells) ≡ take 512 (drop (512 * i) bytes)
written_each first count i bytes cells below room is =
    written-sector (count - 1 - i) first i count bytes cells (omega arith) room is
