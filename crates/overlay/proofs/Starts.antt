-- What holds where the plain drive has the sectors that a guest finds on a disk.
use Rattle.std.proofs.Common.{◌≡◌, ℕ, ◌<◌, List, [], arith, ap, sym, ◌∙◌}
use Rattle.std.specs.Prelude.{Contains, if◌then◌else◌}
use Rattle.std.proofs.Math.ListN.{get_or-map}
use Rattle.std.proofs.lemmas.List.{length-map}
use Rattle.std.proofs.lemmas.List.FromFn.{length-map-range_with_len, get_or-map-range_with_len}
use Rattle.ata_taskfile.specs.Device.{Cell}
use Rattle.plain_drive.specs.Plain.{current, settled, stored, values}
use Rattle.plain_drive.specs.Cells.{cell_at, value_at, Each}
use Rattle.fill_bitmap.specs.declared.area.Area.{Area}
use Rattle.fill_bitmap.specs.Area.{reserved_of}
use Rattle.fill_bitmap.specs.Disk.{guest_view, is_empty_at, sector_at, sector_seen, stored_blocks}
use Rattle.fill_store.proofs.Values.{newest, each_map}
use Rattle.overlay.specs.Overlay.{HasValues, Survives}
use Rattle.overlay.proofs.Held.{newest_held}
use Rattle.overlay.proofs.Values.{of_drive, of_image}

-- each sector of the plain drive has the value that the guest finds
first_value : (area : Area) (id : ℕ) (image disk : List (List ℕ)) (s : ℕ) → s < reserved_of area
    → value_at s (stored (guest_view area id image disk))
    ≡ sector_seen area (stored_blocks area id disk) image disk s
first_value area id image disk s below =
    let seen : ℕ → List ℕ = sector_seen area (stored_blocks area id disk) image disk in
    ap current (get_or-map settled (guest_view area id image disk) s [])
    ∙ get_or-map-range_with_len seen 0 (reserved_of area) s s [] below (omega arith)

pub values_begin : (area : Area) (id : ℕ) (image disk : List (List ℕ)) (cells : List Cell)
    → ((s : ℕ) → s < reserved_of area → Each (λ value. value ≡ sector_at s disk) s cells)
    → HasValues area (stored_blocks area id disk) image cells (stored (guest_view area id image disk))
values_begin area id image disk cells each s below =
    let set = stored_blocks area id disk in
    let here = newest (λ value. value ≡ sector_at s disk) s cells (each s below) in
    first_value area id image disk s below
    ∙ ap (λ value. if is_empty_at area set s then sector_at s image else value) (sym here)

pub survives_begins : (area : Area) (id : ℕ) (image disk : List (List ℕ)) (cells : List Cell)
    → ((s : ℕ) → s < reserved_of area → Each (λ value. value ≡ sector_at s disk) s cells)
    → Survives area (stored_blocks area id disk) (stored_blocks area id disk) image cells
    (stored (guest_view area id image disk))
survives_begins area id image disk cells each =
    let set = stored_blocks area id disk in
    let plain : List Cell = stored (guest_view area id image disk) in
    let begun = values_begin area id image disk cells each in
    record {
      count = length-map (guest_view area id image disk) settled
          ∙ length-map-range_with_len (sector_seen area set image disk) 0 (reserved_of area);
      kept = λ s below full.
          let here = newest (λ value. value ≡ sector_at s disk) s cells (each s below) in
          each_map (λ value. value ≡ sector_at s disk) (λ value. Contains (values (cell_at s plain)) value) s cells
          (λ value e. newest_held s value plain
          (e ∙ sym here ∙ sym (of_drive area set image cells plain s begun below full)))
          (each s below);
      old = λ s below empty. newest_held s (sector_at s image) plain
          (sym (of_image area set image cells plain s begun below empty));
    }
