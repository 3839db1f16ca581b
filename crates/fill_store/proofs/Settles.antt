-- What stands on the drive while a settling goes on.
use Rattle.std.proofs.Common.{◌≡◌, ℕ, ◌+◌, ◌<◌, Bool, true, false, Option, Some, None, unwrap_or, List, [], arith, refl, sym, ◌∙◌, inl, inr}
use Rattle.std.proofs.Math.Path.{subst}
use Rattle.std.proofs.lemmas.List.{length-set}
use Rattle.ata_taskfile.specs.Device.{Cell}
use Rattle.plain_drive.specs.Plain.{appended, all_flushed}
use Rattle.own_pio.specs.declared.job.OwnJob.{OwnJob}
use Rattle.own_pio.specs.declared.job.OwnJob.TheVariants.{Write}
use Rattle.fill_bitmap.specs.declared.area.Area.{Area}
use Rattle.fill_bitmap.specs.Area.{blocks_of, bitmap_sectors_of, reserved_of, sector_of_bits}
use Rattle.fill_bitmap.specs.Bits.{sector_of}
use Rattle.fill_bitmap.specs.Bitmap.{Sets, IsNested, blocks_in, with_filled, frozen_now, frozen_stored}
use Rattle.fill_bitmap.specs.BlockSet.{IsWithin}
use Rattle.fill_store.specs.declared.settle.SettleStep.{SettleStep}
use Rattle.fill_store.specs.declared.settle.SettleStep.TheVariants.{FlushData, WriteBits, FlushBits, Nothing}
use Rattle.plain_drive.specs.Cells.{ForgetsOld}
use Rattle.fill_store.specs.Cells.{MadeBy, KeepsBits}
use Rattle.fill_store.specs.Settle.{SettleState, settle_of, IsReached, job_at, bytes_at, next_in_settling, bytes_to_settle, bits_from, step_after, sets_behind, settle_after, sets_after_settling}
use Rattle.fill_store.specs.SettleCells.{HasFrozen, HoldsAt, MadeBySettling, Settles, durable_behind, durable_after}
use Rattle.fill_bitmap.proofs.Nested.{filled_nested}
use Rattle.fill_store.proofs.Values.{flush_forgets, on_test}
use Rattle.fill_store.proofs.Keeps.{bits_forget, bits_elsewhere, bits_stand, one_more, keeps_forgets, keeps_elsewhere, keeps_written, keeps_frozen, keeps_more}

-- a settling stands where older values were forgotten
holds_forgets : (area : Area) (durable : List Bool) (step : SettleStep) (sets : Sets) (old new : List Cell)
    → ForgetsOld old new
    → HoldsAt area durable step sets old → HoldsAt area durable step sets new
holds_forgets area durable FlushData sets old new forgets within = within
holds_forgets area durable (WriteBits k) sets old new forgets (all, bits) =
    (all, bits_forget k (λ i. sector_of i sets.frozen) area old new forgets bits)
holds_forgets area durable FlushBits sets old new forgets (all, bits) =
    (all, bits_forget (bitmap_sectors_of area) (λ i. sector_of i sets.frozen) area old new forgets bits)
holds_forgets area durable Nothing sets old new forgets within = within

pub settles_forgets : (id : ℕ) (durable : List Bool) (s : SettleState) (sets : Sets) (old new : List Cell)
    → ForgetsOld old new
    → Settles id durable s sets old → Settles id durable s sets new
settles_forgets id durable s sets old new forgets settles = record {
  nested = settles.nested;
  blocks = settles.blocks;
  kept = keeps_forgets s.area id sets.stored durable old new forgets settles.kept;
  step = holds_forgets s.area durable s.step sets old new forgets settles.step;
}

-- a settling stands where a sector elsewhere is written
holds_elsewhere : (area : Area) (durable : List Bool) (step : SettleStep) (sets : Sets) (sector : ℕ)
    (bytes : List ℕ) (cells : List Cell)
    → sector < reserved_of area → HoldsAt area durable step sets cells
    → HoldsAt area durable step sets (appended sector bytes cells)
holds_elsewhere area durable FlushData sets sector bytes cells elsewhere within = within
holds_elsewhere area durable (WriteBits k) sets sector bytes cells elsewhere (all, bits) =
    (all, bits_elsewhere k (λ i. sector_of i sets.frozen) area sector bytes cells elsewhere bits)
holds_elsewhere area durable FlushBits sets sector bytes cells elsewhere (all, bits) =
    (all, bits_elsewhere (bitmap_sectors_of area) (λ i. sector_of i sets.frozen) area sector bytes cells elsewhere bits)
holds_elsewhere area durable Nothing sets sector bytes cells elsewhere within = within

pub settles_elsewhere : (id : ℕ) (durable : List Bool) (s : SettleState) (sets : Sets) (sector : ℕ)
    (bytes : List ℕ) (cells : List Cell)
    → Settles id durable s sets cells → sector < reserved_of s.area
    → Settles id durable s sets (appended sector bytes cells)
settles_elsewhere id durable s sets sector bytes cells settles elsewhere = record {
  nested = settles.nested;
  blocks = settles.blocks;
  kept = keeps_elsewhere s.area id sets.stored durable sector bytes cells settles.kept elsewhere;
  step = holds_elsewhere s.area durable s.step sets sector bytes cells elsewhere settles.step;
}

-- bits are written from one sector of the bitmap on, once those before it are
bits_on : (area : Area) (durable : List Bool) (k : ℕ) (sets : Sets) (cells : List Cell) → durable ≡ sets.frozen
    → HasFrozen k area sets cells
    → HoldsAt area durable (bits_from area k) sets cells
bits_on area durable k sets cells all bits =
    on_test (λ step. HoldsAt area durable step sets cells) k (bitmap_sectors_of area) FlushBits (WriteBits k)
    (λ end. (all, subst (λ n. HasFrozen n area sets cells) end bits)) (all, bits)

stored_nested : (sets : Sets) → IsNested sets → IsNested (frozen_stored sets)
stored_nested sets nested = record {
  stored_blocks = nested.frozen_blocks;
  frozen_blocks = nested.frozen_blocks;
  stored_frozen = λ b held. held;
  frozen_filled = nested.frozen_filled;
}

-- what a cut may leave, with the frozen set for the durable one
kept_frozen : (area : Area) (id : ℕ) (durable : List Bool) (sets : Sets) (cells : List Cell) → durable ≡ sets.frozen
    → KeepsBits area id sets.stored durable cells → KeepsBits area id sets.stored sets.frozen cells
kept_frozen area id durable sets cells all kept = subst (λ most. KeepsBits area id sets.stored most cells) all kept

-- a settling at a step that was done
step_done : (id : ℕ) (area : Area) (durable : List Bool) (step : SettleStep) (bytes : List ℕ) (sets : Sets)
    (old new : List Cell)
    → IsReached (bitmap_sectors_of area) step → IsNested sets → blocks_in sets ≡ blocks_of area
    → KeepsBits area id sets.stored durable old → HoldsAt area durable step sets old
    → MadeBy true (job_at area step) (unwrap_or (bytes_at step sets) bytes) old new
    → KeepsBits area id (sets_behind step sets).stored (durable_behind step sets durable) new
    × HoldsAt area (durable_behind step sets durable) (step_after area step) (sets_behind step sets) new
step_done id area durable FlushData bytes sets old new reached nested blocks kept within made =
    rw made (
      keeps_more area id sets.stored durable sets.frozen (all_flushed old) within
          (keeps_forgets area id sets.stored durable old (all_flushed old) (flush_forgets old) kept),
      bits_on area sets.frozen 0 sets (all_flushed old) refl (λ j below. absurd (omega arith)),
    )
step_done id area durable (WriteBits k) bytes sets old new reached nested blocks kept (all, bits) made =
    let reserved = kept.reserved in
    rw made (
      subst (λ most. KeepsBits area id sets.stored most
          (appended (sector_of_bits area k) (sector_of k sets.frozen) old)) (sym all)
          (keeps_written area id sets.stored sets.frozen k old nested.stored_frozen
          (kept_frozen area id durable sets old all kept)),
      bits_on area durable (k + 1) sets (appended (sector_of_bits area k) (sector_of k sets.frozen) old) all
          (one_more k (λ i. sector_of i sets.frozen) area old (omega arith) bits),
    )
step_done id area durable FlushBits bytes sets old new reached nested blocks kept (all, bits) made =
    rw made (
      subst (λ most. KeepsBits area id sets.frozen most (all_flushed old)) (sym all)
          (keeps_frozen area id sets.stored durable sets.frozen old (nested.frozen_blocks ∙ blocks) bits kept),
      subst (λ set. IsWithin set sets.frozen) (sym all) (λ b held. held),
    )
step_done id area durable Nothing bytes sets old new reached nested blocks kept within made = rw made (kept, within)

-- a job in hand, made or not
step_in_hand : (id : ℕ) (area : Area) (durable : List Bool) (step : SettleStep) (bytes : List ℕ)
    (sets : Sets) (old new : List Cell)
    → IsNested sets → KeepsBits area id sets.stored durable old → HoldsAt area durable step sets old
    → MadeBy true (job_at area step) (unwrap_or (bytes_at step sets) bytes) old new
    → KeepsBits area id sets.stored durable new × HoldsAt area durable step sets new
step_in_hand id area durable FlushData bytes sets old new nested kept within made =
    rw made (keeps_forgets area id sets.stored durable old (all_flushed old) (flush_forgets old) kept, within)
step_in_hand id area durable (WriteBits k) bytes sets old new nested kept (all, bits) made =
    rw made (
      subst (λ most. KeepsBits area id sets.stored most
          (appended (sector_of_bits area k) (sector_of k sets.frozen) old)) (sym all)
          (keeps_written area id sets.stored sets.frozen k old nested.stored_frozen
          (kept_frozen area id durable sets old all kept)),
      (all, bits_stand k (λ i. sector_of i sets.frozen) area old bits),
    )
step_in_hand id area durable FlushBits bytes sets old new nested kept holds made =
    rw made (
      keeps_forgets area id sets.stored durable old (all_flushed old) (flush_forgets old) kept,
      holds_forgets area durable FlushBits sets old (all_flushed old) (flush_forgets old) holds,
    )
step_in_hand id area durable Nothing bytes sets old new nested kept within made = rw made (kept, within)

step_failed : (id : ℕ) (area : Area) (durable : List Bool) (step : SettleStep) (job : Option OwnJob)
    (bytes : List ℕ) (sets : Sets) (old new : List Cell)
    → job_at area step ≡ job → IsNested sets → KeepsBits area id sets.stored durable old
    → HoldsAt area durable step sets old
    → MadeBy false job (unwrap_or (bytes_at step sets) bytes) old new
    → KeepsBits area id sets.stored durable new × HoldsAt area durable step sets new
step_failed id area durable step None bytes sets old new next nested kept holds made = rw made (kept, holds)
step_failed id area durable step (Some job) bytes sets old new next nested kept holds (inl same) = rw same (kept, holds)
step_failed id area durable step (Some job) bytes sets old new next nested kept holds (inr done) =
    step_in_hand id area durable step bytes sets old new nested kept holds
    (subst (λ it. MadeBy true it (unwrap_or (bytes_at step sets) bytes) old new) (sym next) done)

-- a settling stands while its job is in hand
pub settles_in_hand : (id : ℕ) (durable : List Bool) (s : SettleState) (bytes : List ℕ) (sets : Sets)
    (old new : List Cell)
    → Settles id durable s sets old
    → MadeBy false (next_in_settling s) (unwrap_or (bytes_to_settle s sets) bytes) old new
    → Settles id durable s sets new
settles_in_hand id durable s bytes sets old new settles made =
    let left = step_failed id s.area durable s.step (next_in_settling s) bytes sets old new refl
    settles.nested settles.kept settles.step made in
    record { nested = settles.nested; blocks = settles.blocks; kept = left.0; step = left.1 }

-- the data of the frozen blocks is durable, or will be
within_frozen : (area : Area) (durable : List Bool) (step : SettleStep) (sets : Sets) (cells : List Cell)
    → HoldsAt area durable step sets cells
    → IsWithin durable sets.frozen
within_frozen area durable FlushData sets cells within = within
within_frozen area durable (WriteBits k) sets cells (all, bits) = subst (λ set. IsWithin set sets.frozen)
    (sym all) (λ b held. held)
within_frozen area durable FlushBits sets cells (all, bits) = subst (λ set. IsWithin set sets.frozen)
    (sym all) (λ b held. held)
within_frozen area durable Nothing sets cells within = within

behind_nested : (step : SettleStep) (sets : Sets) → IsNested sets → IsNested (sets_behind step sets)
behind_nested FlushData sets nested = nested
behind_nested (WriteBits k) sets nested = nested
behind_nested FlushBits sets nested = stored_nested sets nested
behind_nested Nothing sets nested = nested

behind_blocks : (step : SettleStep) (sets : Sets) → blocks_in (sets_behind step sets) ≡ blocks_in sets
behind_blocks FlushData sets = refl
behind_blocks (WriteBits k) sets = refl
behind_blocks FlushBits sets = refl
behind_blocks Nothing sets = refl

-- a settling goes on, or ends, where its job ended
pub settles_after : (ok : Bool) (id : ℕ) (durable : List Bool) (s : SettleState) (bytes : List ℕ)
    (sets : Sets) (old new : List Cell)
    → IsReached (bitmap_sectors_of s.area) s.step → Settles id durable s sets old
    → MadeBy ok (next_in_settling s) (unwrap_or (bytes_to_settle s sets) bytes) old new
    → Settles id (durable_after ok s sets durable) (settle_after ok s) (sets_after_settling ok s sets) new
settles_after true id durable s bytes sets old new reached settles made =
    let left = step_done id s.area durable s.step bytes sets old new reached settles.nested settles.blocks
    settles.kept settles.step made in
    record {
      nested = behind_nested s.step sets settles.nested;
      blocks = behind_blocks s.step sets ∙ settles.blocks;
      kept = left.0;
      step = left.1;
    }
settles_after false id durable s bytes sets old new reached settles made =
    let left = step_failed id s.area durable s.step (next_in_settling s) bytes sets old new refl
    settles.nested settles.kept settles.step made in
    record {
      nested = settles.nested;
      blocks = settles.blocks;
      kept = left.0;
      step =
          within_frozen s.area durable s.step sets new left.1;
    }

-- a settling begins with the blocks that are filled
pub settles_at_first : (area : Area) (id : ℕ) (durable : List Bool) (sets : Sets) (cells : List Cell)
    → IsNested sets → blocks_in sets ≡ blocks_of area
    → IsWithin durable sets.filled → KeepsBits area id sets.stored durable cells
    → Settles id durable (settle_of area) (frozen_now sets) cells
settles_at_first area id durable sets cells nested blocks within kept = record {
  nested = record {
    stored_blocks = nested.stored_blocks;
    frozen_blocks = refl;
    stored_frozen = λ b held. nested.frozen_filled b (nested.stored_frozen b held);
    frozen_filled = λ b held. held;
  };
  blocks = blocks;
  kept = kept;
  step = within;
}

-- a settling goes on, or ends, where its job ended, said of its states before and after
pub settles_ended : (ok : Bool) (id : ℕ) (durable : List Bool) (s after : SettleState) (sets sets_after : Sets)
    (old new : List Cell)
    → IsReached (bitmap_sectors_of s.area) s.step → after ≡ settle_after ok s
    → sets_after ≡ sets_after_settling ok s sets
    → Settles id durable s sets old → MadeBySettling ok s sets old new
    → Settles id (durable_after ok s sets durable) after sets_after new
settles_ended ok id durable s after sets sets_after old new reached state bitmap settles made =
    rw (state, bitmap) (settles_after ok id durable s [] sets old new reached settles made)

bits_written : (area : Area) (durable : List Bool) (step : SettleStep) (sets : Sets) (cells : List Cell)
    (sector count : ℕ)
    → HoldsAt area durable step sets cells → job_at area step ≡ Some (Write sector count) → durable ≡ sets.frozen
bits_written area durable FlushData sets cells sector count holds next = absurd (cc)
bits_written area durable (WriteBits k) sets cells sector count (all, bits) next = all
bits_written area durable FlushBits sets cells sector count holds next = absurd (cc)
bits_written area durable Nothing sets cells sector count holds next = absurd (cc)

-- bits are written behind durable data
pub settles_bits : (id : ℕ) (durable : List Bool) (s : SettleState) (sets : Sets) (cells : List Cell) (sector count : ℕ)
    → Settles id durable s sets cells → next_in_settling s ≡ Some (Write sector count) → durable ≡ sets.frozen
settles_bits id durable s sets cells sector count settles next =
    bits_written s.area durable s.step sets cells sector count settles.step next

-- a settling's step looks at the frozen blocks, and not at the filled ones
holds_filled : (area : Area) (durable : List Bool) (step : SettleStep) (sets : Sets) (cells : List Cell) (b : ℕ)
    → HoldsAt area durable step sets cells → HoldsAt area durable step (with_filled b sets) cells
holds_filled area durable FlushData sets cells b holds = holds
holds_filled area durable (WriteBits k) sets cells b holds = holds
holds_filled area durable FlushBits sets cells b holds = holds
holds_filled area durable Nothing sets cells b holds = holds

-- a settling stands where a block is filled
pub settles_filled : (id : ℕ) (durable : List Bool) (s : SettleState) (sets : Sets) (cells : List Cell) (b : ℕ)
    → b < blocks_in sets → Settles id durable s sets cells → Settles id durable s (with_filled b sets) cells
settles_filled id durable s sets cells b inside settles = record {
  nested = filled_nested b sets inside settles.nested;
  blocks = length-set sets.filled b true ∙ settles.blocks;
  kept = settles.kept;
  step = holds_filled s.area durable s.step sets cells b settles.step;
}

-- a settling's durable blocks are filled
pub settles_within : (id : ℕ) (durable : List Bool) (s : SettleState) (sets : Sets) (cells : List Cell)
    → Settles id durable s sets cells → IsWithin durable sets.filled
settles_within id durable s sets cells settles b held =
    settles.nested.frozen_filled b (within_frozen s.area durable s.step sets cells settles.step b held)
