-- The disk as it is read sector by sector, and out as it is written in pieces.
use Rattle.std.proofs.Common.{◌≡◌, ◌≤◌, ◌<◌, ◌++◌, ℕ, List, [], ◌∷◌, length, take, drop, Option, Some, None, Result, Ok, Err, OnOk, subst, sym, ap, ◌∙◌, ◌+◌, ◌*◌, append_assoc, append-nil}
use Rattle.std.specs.List.{concat}
use Rattle.std.specs.Prelude.{slice_set, slice_index_or}
use Rattle.std.proofs.lemmas.List.{take_all, take_more, take_more_set}
use Rattle.std.proofs.lemmas.List.Folds.{concat-append}
use Rattle.bm_host.specs.declared.Role.{Role}
use Rattle.bm_host.specs.declared.Role.TheVariants.{Disk, Out}
use Rattle.bm_host.specs.Outside.{Outside, Side, Becomes, Counted, IfTold, SameCounts, SameBytes, bytes_at}
use Rattle.bm_host.proofs.OutsideLaws.{only_rose_after, same_counts_trans}
use Rattle.plain_drive.specs.Physical.{Physical}
use Rattle.plain_drive.specs.Plain.{sectors_in}
use Rattle.plain_drive.proofs.Sectors.{sectors_in-more}
use Rattle.block_writes.specs.Kept.{KeepsFilesBut, KeepsLooked}
use Rattle.block_writes.specs.Waiting.{KeepsWaiting, Waits}
use Rattle.block_writes.proofs.WaitingLaws.{Waits-appended}

-- so many sectors of the disk were read into a store, and nothing else happened
pub record ReadsFront (old new : Outside) (size : ℕ) (list : List (List ℕ)) (sectors : ℕ) : Type 0 where
  pub counts : SameCounts old new
  pub same : SameBytes old new
  pub looked : KeepsLooked old new
  pub count : length list ≡ size
  pub front : IfTold (old.told Disk) (λ disk. take sectors list ≡ sectors_in sectors disk)

-- so many sectors were written or wait, and nothing else happened
pub record WritesFront (old new : Outside) (before now : Physical) (waiting : List ℕ) (sectors : ℕ) : Type 0 where
  pub counts : SameCounts old new
  pub files : KeepsFilesBut Out old new
  pub looked : KeepsLooked old new
  pub drive : now ≡ before
  pub waits : (text : List ℕ) → Waits Out [] old text
      → Waits Out waiting new (text ++ concat (take sectors before.kept.durable))

-- the bytes of one sector more
concat-more : (list : List (List ℕ)) (i : ℕ) → i < length list
    → concat (take (i + 1) list) ≡ concat (take i list) ++ slice_index_or list i []
concat-more list i below = rw (take_more list i []) (concat-append (take i list) (slice_index_or list i [] ∷ [])
    ∙ ap (λ xs. concat (take i list) ++ xs) (append-nil (slice_index_or list i [])))

pub WritesFront-more : (old now new : Outside) (before mid after : Physical) (waiting more : List ℕ) (i : ℕ)
    → i < length before.kept.durable
    → WritesFront old now before mid waiting i → SameCounts now new → KeepsFilesBut Out now new
    → KeepsLooked now new → after ≡ mid
    → ((text : List ℕ) → Waits Out waiting now text → Waits Out more new (text ++ slice_index_or mid.kept.durable i []))
    → WritesFront old new before after more (i + 1)
WritesFront-more old now new before mid after waiting more i below so counts files looked same waits = record {
  counts = same_counts_trans old now new so.counts counts;
  looked = looked ∙ so.looked;
  files = λ role other. files role other ∙ so.files role other;
  drive = same ∙ so.drive;
  waits = λ text was. subst (Waits Out more new)
      (append_assoc text (concat (take i before.kept.durable)) (slice_index_or mid.kept.durable i [])
      ∙ ap (λ xs. text ++ xs)
      (ap (λ (d : Physical). concat (take i before.kept.durable) ++ slice_index_or d.kept.durable i []) so.drive
      ∙ sym (concat-more before.kept.durable i below)))
      (waits (text ++ concat (take i before.kept.durable)) (so.waits text was));
}

-- nothing waits any more: Out holds all sectors behind what it held
module _ (old now new : Outside) (before mid : Physical) (waiting rest : List ℕ) (i : ℕ)
    (all : length before.kept.durable ≤ i) (so : WritesFront old now before mid waiting i) where
  WritesFront-all : rest ≡ [] → KeepsWaiting Out waiting rest now new
      → Becomes (λ before_run after. after ≡ before_run ++ concat before.kept.durable) (old.told Out) (new.told Out)
  WritesFront-all none waits = Waits-appended Out old new (concat before.kept.durable) rest none
      (λ text was. subst (λ list. Waits Out rest new (text ++ concat list)) (take_all i before.kept.durable all)
      (waits (text ++ concat (take i before.kept.durable)) (so.waits text was)))

  -- where the last write went well
  pub WritesFront-done : {T E : Type 0} (result : Result T E) → OnOk result (rest ≡ [])
      → OnOk result (KeepsWaiting Out waiting rest now new)
      → OnOk result (Becomes (λ before_run after. after ≡ before_run ++ concat before.kept.durable)
      (old.told Out) (new.told Out))
  WritesFront-done (Ok x) none waits = WritesFront-all none waits
  WritesFront-done (Err e) none waits = tt

-- a call behind others that raised no count
pub counted_after : {T E : Type 0} (side : Side) (role : Role) (a b c : Outside) (result : Result T E)
    → SameCounts a b → Counted side role b c result → Counted side role a c result
counted_after side role a b c (Ok x) = same_counts_trans a b c
counted_after side role a b c (Err e) = only_rose_after side role a b c

-- a sector that was read stands behind those before it
sector_read : (list : List (List ℕ)) (disk bytes : List ℕ) (s : ℕ) → s < length list
    → bytes ≡ take 512 (drop (s * 512) disk)
    → take s list ≡ sectors_in s disk → take (s + 1) (slice_set list s bytes) ≡ sectors_in (s + 1) disk
sector_read list disk bytes s below read front =
    rw (read, sectors_in-more s disk, ← front) (take_more_set list s (take 512 (drop (s * 512) disk)) below)

-- the same of a disk that may be told
pub sector_read_if_told : (told : Option (List ℕ)) (old new : List (List ℕ)) (bytes : List ℕ) (s : ℕ)
    → s < length old → new ≡ slice_set old s bytes
    → IfTold told (λ disk. bytes ≡ bytes_at (s * 512) 512 disk)
    → IfTold told (λ disk. take s old ≡ sectors_in s disk → take (s + 1) new ≡ sectors_in (s + 1) disk)
sector_read_if_told None old new bytes s below set read = tt
sector_read_if_told (Some disk) old new bytes s below set read = λ front. rw set
    (sector_read old disk bytes s below read front)
