-- What a cut leaves to the guest is what it may leave of the plain drive.
use Rattle.std.proofs.Common.{◌≡◌, ℕ, suc, ◌<◌, Bool, true, false, List, [], ◌∷◌, length, arith, refl, sym, ◌∙◌, subst}
use Rattle.std.specs.Prelude.{Contains, if◌then◌else◌}
use Rattle.std.proofs.lemmas.List.FromFn.{length-map-range_with_len, get_or-map-range_with_len}
use Rattle.ata_taskfile.specs.Device.{Cell}
use Rattle.plain_drive.specs.Plain.{values}
use Rattle.plain_drive.specs.Cells.{cell_at}
use Rattle.plain_drive.specs.Cut.{IsOutcome}
use Rattle.fill_bitmap.specs.declared.area.Area.{Area}
use Rattle.fill_bitmap.specs.Area.{reserved_of}
use Rattle.fill_bitmap.specs.BlockSet.{IsWithin}
use Rattle.fill_bitmap.specs.Disk.{sector_at, is_empty_at, sector_seen, stored_blocks, guest_view}
use Rattle.fill_store.specs.Cells.{KeepsBits}
use Rattle.fill_store.proofs.Values.{left_by_cut}
use Rattle.fill_store.proofs.Stored.{cut_stores, cut_stores_no_other}
use Rattle.overlay.specs.Overlay.{Survives}
use Rattle.overlay.proofs.Sets.{empty_in, full_in}

-- a value of each cell makes an outcome
outcome_of : (plain : List Cell) (outcome : List (List ℕ)) → length outcome ≡ length plain
    → ((s : ℕ) → s < length plain → Contains (values (cell_at s plain)) (sector_at s outcome))
    → IsOutcome plain outcome
outcome_of [] [] long each = tt
outcome_of [] (value ∷ outcome) long each = absurd (omega arith)
outcome_of (cell ∷ plain) [] long each = absurd (omega arith)
outcome_of (cell ∷ plain) (value ∷ outcome) long each =
    (each 0 (omega arith), outcome_of plain outcome (omega arith) (λ s below. each (suc s) (omega arith)))

-- what the guest reads of a sector, where a cut left stored blocks between the two sets
seen_survives : (area : Area) (set stored durable : List Bool) (image outcome : List (List ℕ))
    (cells plain : List Cell) (s : ℕ) → s < reserved_of area → s < length cells → IsWithin stored set
    → IsWithin set durable → Survives area stored durable image cells plain → IsOutcome cells outcome
    → Contains (values (cell_at s plain)) (sector_seen area set image outcome s)
seen_survives area set stored durable image outcome cells plain s below there least most survives left =
    by (is_empty_at area set s) refl
  where
    by : (empty : Bool) → is_empty_at area set s ≡ empty
        → Contains (values (cell_at s plain)) (if empty then sector_at s image else sector_at s outcome)
    by true e = survives.old s below (empty_in area stored set s least e)
    by false e = left_by_cut (Contains (values (cell_at s plain))) s cells outcome there
        (survives.kept s below (full_in area set durable s most e)) left

pub view_survives : (area : Area) (id : ℕ) (stored durable : List Bool) (image outcome : List (List ℕ))
    (cells plain : List Cell) → KeepsBits area id stored durable cells
    → Survives area stored durable image cells plain → IsOutcome cells outcome
    → IsOutcome plain (guest_view area id image outcome)
view_survives area id stored durable image outcome cells plain kept survives left =
    let set = stored_blocks area id outcome in
    let seen : ℕ → List ℕ = sector_seen area set image outcome in
    let least = cut_stores area id stored durable cells outcome kept left in
    let most = cut_stores_no_other area id stored durable cells outcome kept left in
    outcome_of plain (guest_view area id image outcome)
    (length-map-range_with_len seen 0 (reserved_of area) ∙ sym survives.count)
    (λ s below.
    let inside : s < reserved_of area = omega (arith, survives.count) in
    subst (Contains (values (cell_at s plain)))
    (sym (get_or-map-range_with_len seen 0 (reserved_of area) s s [] inside (omega arith)))
    (seen_survives area set stored durable image outcome cells plain s inside (omega (arith, kept.reserved)) least most
    survives left))
