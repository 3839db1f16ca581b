-- What a cut leaves to the guest, after writes and flushes, and where more blocks are durable or stored.
use Rattle.std.proofs.Common.{◌≡◌, ℕ, ◌≤◌, Bool, true, List, length, arith, ap, sym, ◌∙◌}
use Rattle.std.specs.Prelude.{Contains}
use Rattle.ata_taskfile.specs.Device.{Cell}
use Rattle.plain_drive.specs.Plain.{values, appended, all_flushed}
use Rattle.plain_drive.specs.Cells.{cell_at, value_at, ForgetsOld}
use Rattle.plain_drive.specs.Physical.{AreEndsOf}
use Rattle.plain_drive.proofs.Cells.{length-appended}
use Rattle.plain_drive.proofs.EndsOfEnds.{ends-forget}
use Rattle.fill_bitmap.specs.declared.area.Area.{Area}
use Rattle.fill_bitmap.specs.Area.{reserved_of}
use Rattle.fill_bitmap.specs.BlockSet.{IsWithin}
use Rattle.fill_bitmap.specs.Disk.{is_empty_at, sector_at}
use Rattle.fill_store.proofs.Values.{each_map, each_written, each_flushed, each_forgets, length-all_flushed, newest_flushed}
use Rattle.overlay.specs.Overlay.{HasValues, Survives}
use Rattle.overlay.proofs.Sets.{empty_in, full_in}
use Rattle.overlay.proofs.Held.{held_still, written_held, newest_held}
use Rattle.overlay.proofs.Values.{of_drive, of_image}

-- a value is one that the plain drive may have in a sector
abbrev MayHave : ℕ → List Cell → List ℕ → Type 0
MayHave s plain value = Contains (values (cell_at s plain)) value

pub survives_written : (area : Area) (stored durable : List Bool) (image : List (List ℕ)) (cells plain : List Cell)
    (sector : ℕ) (bytes : List ℕ) → Survives area stored durable image cells plain
    → Survives area stored durable image (appended sector bytes cells) (appended sector bytes plain)
survives_written area stored durable image cells plain sector bytes survives =
    let new : List Cell = appended sector bytes plain in
    let count = survives.count in
    record {
      count = length-appended sector bytes plain ∙ count;
      kept = λ s below full. each_written (MayHave s new) sector s bytes cells
          (λ same. written_held s sector bytes plain (omega arith) same)
          (each_map (MayHave s plain) (MayHave s new) s cells
          (λ value held. held_still s sector bytes value plain held) (survives.kept s below full));
      old = λ s below empty. held_still s sector bytes (sector_at s image) plain (survives.old s below empty);
    }

pub survives_under_image : (area : Area) (stored durable : List Bool) (image : List (List ℕ))
    (cells plain : List Cell) (sector : ℕ) (bytes : List ℕ) → Survives area stored durable image cells plain
    → is_empty_at area durable sector ≡ true
    → Survives area stored durable image (appended sector bytes cells) plain
survives_under_image area stored durable image cells plain sector bytes survives empty = record {
  count = survives.count;
  kept = λ s below full. each_written (MayHave s plain) sector s bytes cells
      (λ same. absurd (let there = ap (is_empty_at area durable) same in cc)) (survives.kept s below full);
  old = survives.old;
}

pub survives_above : (area : Area) (stored durable : List Bool) (image : List (List ℕ)) (cells plain : List Cell)
    (sector : ℕ) (bytes : List ℕ) → Survives area stored durable image cells plain → reserved_of area ≤ sector
    → Survives area stored durable image (appended sector bytes cells) plain
survives_above area stored durable image cells plain sector bytes survives above = record {
  count = survives.count;
  kept = λ s below full. each_written (MayHave s plain) sector s bytes cells (λ same. absurd (omega arith))
      (survives.kept s below full);
  old = survives.old;
}

pub survives_flushed : (area : Area) (stored durable filled : List Bool) (image : List (List ℕ))
    (cells plain : List Cell) → HasValues area filled image cells plain → length plain ≡ reserved_of area
    → IsWithin durable filled → IsWithin filled stored
    → Survives area stored durable image (all_flushed cells) (all_flushed plain)
survives_flushed area stored durable filled image cells plain values count most least = record {
  count = length-all_flushed plain ∙ count;
  kept = λ s below full. each_flushed (MayHave s (all_flushed plain)) s cells
      (newest_held s (value_at s cells) (all_flushed plain)
      (sym (newest_flushed s plain
      ∙ of_drive area filled image cells plain s values below (full_in area durable filled s most full))));
  old = λ s below empty. newest_held s (sector_at s image) (all_flushed plain)
      (sym (newest_flushed s plain
      ∙ of_image area filled image cells plain s values below (empty_in area filled stored s least empty)));
}

pub survives_forget : (area : Area) (stored durable : List Bool) (image : List (List ℕ)) (old new plain : List Cell)
    → Survives area stored durable image old plain → ForgetsOld old new
    → Survives area stored durable image new plain
survives_forget area stored durable image old new plain survives forgets = record {
  count = survives.count;
  kept = λ s below full. each_forgets (MayHave s plain) s old new forgets (survives.kept s below full);
  old = survives.old;
}

pub survives_of_ends : (area : Area) (stored durable : List Bool) (image : List (List ℕ)) (old new plain : List Cell)
    → Survives area stored durable image old plain → AreEndsOf new old
    → Survives area stored durable image new plain
survives_of_ends area stored durable image old new plain survives ends =
    survives_forget area stored durable image old new plain survives (ends-forget old new ends)

pub frozen_durable : (area : Area) (stored durable frozen filled : List Bool) (image : List (List ℕ))
    (cells plain : List Cell) → HasValues area filled image cells plain
    → Survives area stored durable image cells plain → IsWithin frozen filled
    → Survives area stored frozen image (all_flushed cells) plain
frozen_durable area stored durable frozen filled image cells plain values survives within = record {
  count = survives.count;
  kept = λ s below full. each_flushed (MayHave s plain) s cells
      (newest_held s (value_at s cells) plain
      (sym (of_drive area filled image cells plain s values below (full_in area frozen filled s within full))));
  old = survives.old;
}

pub frozen_stored : (area : Area) (stored durable frozen : List Bool) (image : List (List ℕ))
    (cells plain : List Cell) → Survives area stored durable image cells plain → IsWithin stored frozen
    → Survives area frozen durable image cells plain
frozen_stored area stored durable frozen image cells plain survives within = record {
  count = survives.count;
  kept = survives.kept;
  old = λ s below empty. survives.old s below (empty_in area stored frozen s within empty);
}
