-- Opening, bitmap and area once a job of the opening has ended.
use Rattle.std.proofs.Common.{◌≡◌, ℕ, Bool, true, false, List, refl, sym, ap, ◌∙◌, subst}
use Rattle.fill_bitmap.specs.Bitmap.{IsNested, Sets, blocks_in}
use Rattle.fill_bitmap.proofs.Nested.{loaded_nested}
use Rattle.fill_store.specs.declared.opening.OpeningStep.{OpeningStep}
use Rattle.fill_store.specs.declared.opening.OpeningStep.TheVariants.{ReadHeader, ReadBits, WriteZeros, FlushZeros, WriteHeader, FlushHeader, Nothing}
use Rattle.fill_store.specs.Opening.{OpeningState, opening_after, sets_after_opening, sets_behind}
use Rattle.monitor_state.specs.declared.parts.Parts.{Parts}
use Rattle.monitor_state.specs.Fits.{FitsArea}

behind_nested : (bytes : List ℕ) (step : OpeningStep) (sets : Sets) → IsNested sets
    → IsNested (sets_behind bytes step sets)
behind_nested bytes ReadHeader sets nested = nested
behind_nested bytes (ReadBits k) sets nested = loaded_nested k bytes sets nested
behind_nested bytes (WriteZeros k) sets nested = nested
behind_nested bytes FlushZeros sets nested = nested
behind_nested bytes WriteHeader sets nested = nested
behind_nested bytes FlushHeader sets nested = nested
behind_nested bytes Nothing sets nested = nested

after_nested : (ok : Bool) (bytes : List ℕ) (o : OpeningState) (sets : Sets) → IsNested sets
    → IsNested (sets_after_opening ok bytes o sets)
after_nested true bytes o sets nested = behind_nested bytes o.step sets nested
after_nested false bytes o sets nested = nested

after_id : (ok : Bool) (bytes : List ℕ) (o : OpeningState) → (opening_after ok bytes o).id ≡ o.id
after_id true bytes o = refl
after_id false bytes o = refl

after_area : (ok : Bool) (bytes : List ℕ) (o : OpeningState) → (opening_after ok bytes o).area ≡ o.area
after_area true bytes o = refl
after_area false bytes o = refl

-- the parts stay those of the area
pub opening_area : (ok : Bool) (bytes sector : List ℕ) (o : OpeningState) (sets : Sets) (p : Parts) → FitsArea p
    → o ≡ opening_after ok bytes p.opening → sets ≡ sets_after_opening ok bytes p.opening p.bitmap
    → blocks_in sets ≡ blocks_in p.bitmap
    → FitsArea (record p { opening = o; bitmap = sets; sector = sector })
opening_area ok bytes sector o sets p area after behind count = record {
  suitable = area.suitable;
  image = area.image;
  bitmap = count ∙ area.bitmap;
  nested = subst IsNested (sym behind) (after_nested ok bytes p.opening p.bitmap area.nested);
  opening = ap (λ (o : OpeningState). o.area) after ∙ after_area ok bytes p.opening ∙ area.opening;
  run = ap (λ (o : OpeningState). o.id) after ∙ after_id ok bytes p.opening ∙ area.run;
  client = area.client;
  room = area.room;
  buffers = area.buffers;
  background = area.background;
}
