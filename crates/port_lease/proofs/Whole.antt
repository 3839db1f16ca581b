-- Two bytes that are read are both.
use Rattle.std.proofs.Common.{◌≡◌, ℕ, List, [], ◌∷◌, length, slice_index, refl, ap, ◌∙◌, arith}
use Rattle.ata_taskfile.specs.declared.task_file.TaskFile.{TaskFile}
use Rattle.ata_taskfile.specs.Lawful.{HasTwoBytes}

-- a two-byte register as it is read
abbrev pub both_bytes : List ℕ → List ℕ
both_bytes bytes = slice_index bytes 0 ∷ slice_index bytes 1 ∷ []

both : (bytes : List ℕ) → length bytes ≡ 2 → both_bytes bytes ≡ bytes
both [] two = absurd (omega arith)
both (x ∷ []) two = absurd (omega arith)
both (x ∷ y ∷ []) two = refl
both (x ∷ y ∷ z ∷ rest) two = absurd (omega arith)

-- registers as they are read
abbrev pub as_read : TaskFile → TaskFile
as_read f = record f {
  count = both_bytes f.count;
  low = both_bytes f.low;
  mid = both_bytes f.mid;
  high = both_bytes f.high;
}

whole : (f : TaskFile) → HasTwoBytes f → as_read f ≡ f
whole f two =
    let count = both f.count two.count in
    let low = both f.low two.low in
    let mid = both f.mid two.mid in
    let high = both f.high two.high in
    rw (count, low, mid, high) refl

-- registers that were read are the drive's, but for the byte of the last command
pub read_whole : (f g : TaskFile) (command : ℕ) → HasTwoBytes f → g ≡ record (as_read f) { command = command }
    → g ≡ record f { command = command }
read_whole f g command two read = read ∙ ap (λ (h : TaskFile). record h { command = command }) (whole f two)
