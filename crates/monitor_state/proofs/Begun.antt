-- Parts of which nothing is done yet.
use Rattle.std.proofs.Common.{◌≡◌, ℕ, ◌<◌, ◌≤◌, ◌==◌, ◌*◌, ◌++◌, [], Bool, false, not, if◌then◌else◌, refl, sym, ap, ◌∙◌, subst, arith}
use Rattle.std.specs.Prelude.{is_some}
use Rattle.std.proofs.lemmas.List.{length-replicate}
use Rattle.ata_taskfile.specs.Lawful.{is_in_reset}
use Rattle.ata_taskfile.specs.declared.registers.TheConstants.{SECTOR_BYTES}
use Rattle.aoe_client.specs.Asking.{Asking, leases_of}
use Rattle.fill_bitmap.specs.declared.area.Area.{Area}
use Rattle.fill_bitmap.specs.Area.{IsSuitable, blocks_of}
use Rattle.fill_bitmap.specs.Bitmap.{IsNested, blocks_in, empty_sets}
use Rattle.fill_store.specs.Opening.{OpeningState, next_in_opening, opening_at}
use Rattle.fill_store.specs.declared.opening.OpeningStep.TheVariants.{ReadHeader, Nothing}
use Rattle.guest_view.specs.Fits.{FitsView}
use Rattle.port_lease.specs.declared.view.View.{View}
use Rattle.port_lease.specs.declared.monitor_side.MonitorSide.{MonitorSide}
use Rattle.port_lease.specs.Sides.{view_at_power_on}
use Rattle.monitor_state.specs.declared.setup.TheConstants.{LEAST_POOL}
use Rattle.monitor_state.specs.declared.state.State.TheVariants.{Monitor}
use Rattle.monitor_state.specs.declared.held.Hand.{Hand}
use Rattle.monitor_state.specs.declared.parts.Parts.{Parts}
use Rattle.monitor_state.specs.State.{is_opened}
use Rattle.monitor_state.specs.Leases.{AreLeased, leases_held, leases_in}
use Rattle.monitor_state.specs.Hand.{HasInHand, IsEmptyHanded}
use Rattle.monitor_state.specs.Fits.{FitsArea}
use Rattle.monitor_state.specs.Start.{FitAtPowerOn, IsBegun}

is_not_empty : (image : ℕ) → 0 < image → (image == 0) ≡ false
is_not_empty image some = grind arith

-- opening hasn't ended
pub closed : (area : Area) (id buffers : ℕ) (p : Parts) → 0 < area.image → IsBegun area id buffers p
    → is_opened p ≡ false
closed area id buffers p some begun =
    ap (λ (o : OpeningState). not (is_some (next_in_opening o))) begun.opening
    ∙ ap (λ (empty : Bool).
    not (is_some (next_in_opening (opening_at area id (if empty then Nothing else ReadHeader)))))
    (is_not_empty area.image some)

empty_nested : (blocks : ℕ) → IsNested (empty_sets blocks)
empty_nested blocks = record {
  stored_blocks = refl;
  frozen_blocks = refl;
  stored_frozen = λ b has. has;
  frozen_filled = λ b has. has;
}

begun_area : (area : Area) (id buffers : ℕ) (p : Parts) → IsSuitable area → 0 < area.image → LEAST_POOL ≤ buffers
    → IsBegun area id buffers p → FitsArea p
begun_area area id buffers p suitable some least begun = record {
  suitable = subst IsSuitable (sym begun.area_is) suitable;
  image = subst (λ (a : Area). 0 < a.image) (sym begun.area_is) some;
  bitmap =
      ap blocks_in begun.bitmap
      ∙ length-replicate (blocks_of area) false
      ∙ ap blocks_of (sym begun.area_is);
  nested = subst IsNested (sym begun.bitmap) (empty_nested (blocks_of area));
  opening = ap (λ (o : OpeningState). o.area) begun.opening ∙ sym begun.area_is;
  run = ap (λ (o : OpeningState). o.id) begun.opening ∙ sym begun.id_is;
  client = ap (λ (c : Asking). c.block) begun.client ∙ ap (λ (a : Area). a.block) (sym begun.area_is);
  room = begun.room ∙ ap (λ (a : Area). SECTOR_BYTES * a.block) (sym begun.area_is);
  buffers = omega (arith, least, begun.buffers_are);
  background = ap (λ (c : Asking). c.background) begun.client;
}

begun_leased : (area : Area) (id buffers : ℕ) (p : Parts) (side : MonitorSide) → IsBegun area id buffers p
    → AreLeased (leases_in (Monitor side) p) p
begun_leased area id buffers p side begun =
    let none : leases_in (Monitor side) p ≡ [] =
    ap (λ piece. leases_held piece ++ leases_of p.client) begun.held ∙ ap leases_of begun.client in
    subst (λ leases. AreLeased leases p) (sym none) record { held = tt; counted = begun.out }

begun_empty : (area : Area) (id buffers : ℕ) (p : Parts) → IsBegun area id buffers p → IsEmptyHanded p
begun_empty area id buffers p begun = record {
  redirect = ap (λ (h : Hand). h.redirect) begun.hand;
  failed = ap (λ (h : Hand). h.failed) begun.hand;
  held = begun.held;
  asked = ap (λ (c : Asking). c.demand) begun.client;
}

view_fits : (sectors : ℕ) → FitsView view_at_power_on sectors
view_fits sectors = grind arith

-- such parts fit
pub begun_fit : (area : Area) (id buffers : ℕ) (p : Parts) → IsSuitable area → 0 < area.image → LEAST_POOL ≤ buffers
    → IsBegun area id buffers p → FitAtPowerOn p
begun_fit area id buffers p suitable some least begun side is = record {
  area = begun_area area id buffers p suitable some least begun;
  leased = begun_leased area id buffers p side begun;
  state = (
    is.own,
    subst (λ (v : View). FitsView v p.area.sectors) (sym is.view) (view_fits p.area.sectors),
    subst (λ (v : View). HasInHand v.file.phase v p) (sym is.view) (begun_empty area id buffers p begun, refl),
    record { opened = λ _. ap (λ (v : View). is_in_reset v.file.phase) is.view },
  );
}
