-- The plain drive's newest values, after writes and flushes, and where a block is filled.
use Rattle.std.proofs.Common.{◌≡◌, ◌≢◌, ℕ, ◌<◌, ◌≤◌, Bool, true, false, not, ◌&&◌, nat_lt, List, length, slice_set, arith, refl, ap, sym, ◌∙◌, inl, inr}
use Rattle.std.specs.Prelude.{if◌then◌else◌}
use Rattle.std.proofs.lemmas.Bool.{cases_lt, le-ltb}
use Rattle.std.proofs.lemmas.Bool.Decides.{eqb_tells}
use Rattle.std.proofs.lemmas.List.{get_or-set_other}
use Rattle.ata_taskfile.specs.Device.{Cell}
use Rattle.plain_drive.specs.Plain.{appended, all_flushed}
use Rattle.plain_drive.specs.Cells.{value_at, ForgetsOld}
use Rattle.plain_drive.specs.Physical.{AreEndsOf}
use Rattle.plain_drive.proofs.Cells.{appended-current}
use Rattle.plain_drive.proofs.EndsOfEnds.{ends-forget}
use Rattle.fill_bitmap.specs.declared.area.Area.{Area}
use Rattle.fill_bitmap.specs.Area.{block_at, reserved_of}
use Rattle.fill_bitmap.specs.BlockSet.{has}
use Rattle.fill_bitmap.specs.Disk.{is_empty_at, sector_at}
use Rattle.fill_store.proofs.Values.{other_written, newest_flushed}
use Rattle.overlay.specs.Overlay.{HasValues}

-- in no empty block it is the drive's
pub of_drive : (area : Area) (filled : List Bool) (image : List (List ℕ)) (cells plain : List Cell) (s : ℕ)
    → HasValues area filled image cells plain → s < reserved_of area → is_empty_at area filled s ≡ false
    → value_at s plain ≡ value_at s cells
of_drive area filled image cells plain s values below full =
    values s below ∙ ap (λ empty. if empty then sector_at s image else value_at s cells) full

-- in an empty block it is the image's
pub of_image : (area : Area) (filled : List Bool) (image : List (List ℕ)) (cells plain : List Cell) (s : ℕ)
    → HasValues area filled image cells plain → s < reserved_of area → is_empty_at area filled s ≡ true
    → value_at s plain ≡ sector_at s image
of_image area filled image cells plain s values below empty =
    values s below ∙ ap (λ test. if test then sector_at s image else value_at s cells) empty

-- where the drive's is as before, so is whose it is
still : (area : Area) (filled : List Bool) (image : List (List ℕ)) (old new plain : List Cell) (s : ℕ)
    → HasValues area filled image old plain → s < reserved_of area → value_at s new ≡ value_at s old
    → value_at s plain ≡ (if is_empty_at area filled s then sector_at s image else value_at s new)
still area filled image old new plain s values below same =
    values s below ∙ ap (λ value. if is_empty_at area filled s then sector_at s image else value) (sym same)

pub values_written : (area : Area) (filled : List Bool) (image : List (List ℕ)) (cells plain : List Cell)
    (sector : ℕ) (bytes : List ℕ) → HasValues area filled image cells plain
    → is_empty_at area filled sector ≡ false → sector < length cells → sector < length plain
    → HasValues area filled image (appended sector bytes cells) (appended sector bytes plain)
values_written area filled image cells plain sector bytes values full here there s below =
    elim (eqb_tells s sector) [
      | inl (test, same) ↦
          let written : List Cell → List Cell = appended sector bytes in
          let in_full : is_empty_at area filled s ≡ false = ap (is_empty_at area filled) same ∙ full in
          ap (λ place. value_at place (written plain)) same ∙ appended-current sector bytes plain there
          ∙ sym (appended-current sector bytes cells here)
          ∙ ap (λ place. value_at place (written cells)) (sym same)
          ∙ ap (λ empty. if empty then sector_at s image else value_at s (written cells)) (sym in_full)
      | inr (test, apart) ↦ other_written sector s bytes plain apart
          ∙ still area filled image cells (appended sector bytes cells) plain s values below
          (other_written sector s bytes cells apart)
    ]

pub values_under_image : (area : Area) (filled : List Bool) (image : List (List ℕ)) (cells plain : List Cell)
    (sector : ℕ) (bytes : List ℕ) → HasValues area filled image cells plain
    → is_empty_at area filled sector ≡ true → HasValues area filled image (appended sector bytes cells) plain
values_under_image area filled image cells plain sector bytes values empty s below =
    elim (eqb_tells s sector) [
      | inl (test, same) ↦
          let in_empty : is_empty_at area filled s ≡ true = ap (is_empty_at area filled) same ∙ empty in
          of_image area filled image cells plain s values below in_empty
          ∙ ap (λ test. if test then sector_at s image else value_at s (appended sector bytes cells)) (sym in_empty)
      | inr (test, apart) ↦ still area filled image cells (appended sector bytes cells) plain s values below
          (other_written sector s bytes cells apart)
    ]

pub values_above : (area : Area) (filled : List Bool) (image : List (List ℕ)) (cells plain : List Cell)
    (sector : ℕ) (bytes : List ℕ) → HasValues area filled image cells plain → reserved_of area ≤ sector
    → HasValues area filled image (appended sector bytes cells) plain
values_above area filled image cells plain sector bytes values above s below =
    still area filled image cells (appended sector bytes cells) plain s values below
    (other_written sector s bytes cells (λ e. omega arith))

pub values_flushed : (area : Area) (filled : List Bool) (image : List (List ℕ)) (cells plain : List Cell)
    → HasValues area filled image cells plain
    → HasValues area filled image (all_flushed cells) (all_flushed plain)
values_flushed area filled image cells plain values s below =
    newest_flushed s plain
    ∙ still area filled image cells (all_flushed cells) plain s values below (newest_flushed s cells)

pub values_forget : (area : Area) (filled : List Bool) (image : List (List ℕ)) (old new plain : List Cell)
    → HasValues area filled image old plain → ForgetsOld old new → HasValues area filled image new plain
values_forget area filled image old new plain values forgets s below =
    still area filled image old new plain s values below (forgets.newest s)

pub values_of_ends : (area : Area) (filled : List Bool) (image : List (List ℕ)) (old new plain : List Cell)
    → HasValues area filled image old plain → AreEndsOf new old → HasValues area filled image new plain
values_of_ends area filled image old new plain values ends =
    values_forget area filled image old new plain values (ends-forget old new ends)

-- one of two values that are the same
either_way : (test : Bool) (one other : List ℕ) → other ≡ one → (if test then one else other) ≡ one
either_way true one other same = refl
either_way false one other same = same

-- whether a sector is in an empty block stays where another block is filled, and behind the image
other_block : (area : Area) (filled : List Bool) (b s : ℕ) → block_at area s ≢ b
    → is_empty_at area (slice_set filled b true) s ≡ is_empty_at area filled s
other_block area filled b s apart =
    ap (λ held. nat_lt s area.image && not held) (get_or-set_other filled b (block_at area s) true false apart)

behind_image : (area : Area) (one other : List Bool) (s : ℕ) → area.image ≤ s
    → is_empty_at area one s ≡ is_empty_at area other s
behind_image area one other s past =
    let test = le-ltb s area.image past in
    ap (λ inside. inside && not (has one (block_at area s))) test
    ∙ sym (ap (λ inside. inside && not (has other (block_at area s))) test)

pub values_filled : (area : Area) (filled : List Bool) (image : List (List ℕ)) (cells plain : List Cell) (b : ℕ)
    → HasValues area filled image cells plain
    → ((s : ℕ) → s < area.image → block_at area s ≡ b → value_at s cells ≡ sector_at s image)
    → HasValues area (slice_set filled b true) image cells plain
values_filled area filled image cells plain b values copied s below = elim (eqb_tells (block_at area s) b) [
  | inl (test, same) ↦ elim (cases_lt s area.image) [
    | inl inside ↦
        let there = copied s inside same in
        values s below ∙ either_way (is_empty_at area filled s) (sector_at s image) (value_at s cells) there
        ∙ sym (either_way (is_empty_at area (slice_set filled b true) s) (sector_at s image) (value_at s cells) there)
    | inr past ↦ as_before (behind_image area (slice_set filled b true) filled s past)
  ]
  | inr (test, apart) ↦ as_before (other_block area filled b s apart)
]
  where
    as_before : is_empty_at area (slice_set filled b true) s ≡ is_empty_at area filled s
        → value_at s plain
        ≡ (if is_empty_at area (slice_set filled b true) s then sector_at s image else value_at s cells)
    as_before same = values s below ∙ ap (λ test. if test then sector_at s image else value_at s cells) (sym same)
