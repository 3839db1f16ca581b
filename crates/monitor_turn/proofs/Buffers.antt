-- What the buffers hold while a read is redirected.
use Rattle.std.proofs.Common.{◌≡◌, ◌+◌, ℕ, true, List, Option, Some, None, refl, sym, ap, ◌∙◌, subst}
use Rattle.std.specs.Prelude.{IfSome}
use Rattle.ata_taskfile.specs.declared.Request.{Request}
use Rattle.ata_taskfile.specs.declared.Taken.TheVariants.{Good}
use Rattle.ata_taskfile.specs.declared.Phase.{Phase}
use Rattle.ata_taskfile.specs.declared.Phase.TheVariants.{Busy}
use Rattle.ata_taskfile.specs.Device.{Device}
use Rattle.mon_pool.specs.Region.{HasWholeBuffers, Held, Region, leased}
use Rattle.aoe_client.specs.declared.client.Slot.TheVariants.{Demand}
use Rattle.aoe_client.specs.Asking.{HasTags, done_in, with_slot}
use Rattle.aoe_client.specs.Buffers.{Holds}
use Rattle.aoe_client.specs.Fetching.{Fetching, asked_for}
use Rattle.aoe_client.proofs.Outlasting.{outlasts_asking}
use Rattle.port_lease.specs.declared.guest_side.GuestSide.{GuestSide}
use Rattle.port_lease.specs.declared.monitor_side.MonitorSide.{MonitorSide}
use Rattle.port_lease.specs.Sides.{view_held}
use Rattle.redirect.specs.declared.redirect.Redirect.{Redirect}
use Rattle.redirect.specs.Next.{end_of_read, request_of}
use Rattle.monitor_state.specs.declared.state.State.{State}
use Rattle.monitor_state.specs.declared.state.State.TheVariants.{Guest, Monitor}
use Rattle.monitor_state.specs.declared.held.HeldPiece.{HeldPiece}
use Rattle.monitor_state.specs.declared.parts.Parts.{Parts}
use Rattle.monitor_state.specs.State.{is_opened}
use Rattle.monitor_state.specs.Buffered.{HasBuffers, KeepsBuffers, image_part}
use Rattle.monitor_state.specs.Fits.{Fits}
use Rattle.monitor_state.specs.Hand.{HasInHand, IsRedirected, IsWanted}
use Rattle.monitor_state.specs.Overlaid.{HasSectors, IsOverlaid, Known}
use Rattle.monitor_state.specs.Sectors.{IsBlockOf, IsPieceOf}
use Rattle.monitor_state.proofs.Overlaid.{registered_sectors}
use Rattle.monitor_turn.specs.Collected.{collected, holding}
use Rattle.monitor_turn.proofs.CameBlock.{block_came}
use Rattle.monitor_turn.proofs.Collecting.{asked_leased, came_of, holds_came, piece_in_block}
use Rattle.monitor_turn.proofs.Fresh.{with_redirect}
use Rattle.monitor_turn.proofs.InHand.{order_by, redirected_by}

-- from the monitor's side they go on as from the guest's
pub taken_buffers : (old : GuestSide) (new : MonitorSide) (t : State) (p r : Parts) (d took e : Device)
    → is_opened p ≡ true → took.cells ≡ d.cells → KeepsBuffers (Monitor new) p took t r e
    → KeepsBuffers (Guest old) p d t r e
taken_buffers old new t p r d took e opened cells keeps = λ k g sectors has.
    keeps k g
    (registered_sectors k (Guest old) (Monitor new) p p d took g.cells opened refl refl refl refl cells sectors)
    record { held = has.held; asked = has.asked; read = _; whole = has.whole }

-- and over parts with a redirect as over those without
pub redirect_buffers : (redirect : Redirect) (side : MonitorSide) (t : State) (p r : Parts) (d e : Device)
    → is_opened p ≡ true → KeepsBuffers (Monitor side) (with_redirect redirect p) d t r e
    → KeepsBuffers (Monitor side) p d t r e
redirect_buffers redirect side t p r d e opened keeps = λ k g sectors has.
    keeps k g
    (registered_sectors k (Monitor side) (Monitor side) p (with_redirect redirect p) d d g.cells opened refl refl refl
    refl refl sectors)
    record { held = has.held; asked = has.asked; read = _; whole = has.whole }

piece_leased : (free : Option ℕ) (g : Device) (pool : Region) (held : Option HeldPiece) → IsPieceOf g pool held
    → IsPieceOf g (leased free pool) held
piece_leased None g pool held has = has
piece_leased (Some buffer) g pool None has = has
piece_leased (Some buffer) g pool (Some held) has = has

slot_leased : (free : Option ℕ) (source : ℕ → List ℕ) (pool : Region) (f : Option Fetching) → Holds source f pool
    → Holds source f (leased free pool)
slot_leased None source pool f holds = holds
slot_leased (Some buffer) source pool None holds = holds
slot_leased (Some buffer) source pool (Some f) holds = holds

-- a block that is asked has no answered tag yet, whichever buffer is leased for it
pub asked_buffers : (free : Option ℕ) (count block : ℕ) (lease : Held) (side : MonitorSide) (p : Parts) (d : Device)
    → KeepsBuffers (Monitor side) p d (Monitor side) (record p {
      pool = leased free p.pool;
      client = with_slot Demand (Some (asked_for count block lease)) p.client;
    }) d
asked_buffers free count block lease side p d = λ k g sectors has.
    let source = image_part k.image in record {
      held = piece_leased free g p.pool p.held has.held;
      asked = outlasts_asking source (leased free p.pool) Demand count block lease p.client (
        slot_leased free source p.pool p.client.demand has.asked.0,
        slot_leased free source p.pool p.client.background has.asked.1,
      );
      read = _;
      whole = has.whole;
    }

some_buffers : (side : MonitorSide) (redirect : Redirect) (done : ℕ) (came : Option (ℕ × Held)) (p : Parts) (d : Device)
    → Fits (Monitor side) p d → (view_held side).file.phase ≡ Busy (Good (request_of redirect)) done
    → p.hand.redirect ≡ Some redirect → is_opened p ≡ true → HasWholeBuffers p.pool
    → HasTags p.client.block p.client.demand → done_in p.client.demand ≡ came
    → let request = request_of redirect in
    let r = holding came (request.first + done) (end_of_read request) p in
    (k : Known) (g : Device) → HasSectors k (Monitor side) p d g.cells → HasBuffers k.image (Monitor side) p d g
    → HasSectors k (Monitor side) r d g.cells × HasBuffers k.image (Monitor side) r d g
some_buffers side redirect done None p d fits at redirected opened whole tags is k g sectors has = (sectors, has)
some_buffers side redirect done (Some came) p d fits at redirected opened whole tags is k g sectors has =
    let v = view_held side in
    let request = request_of redirect in
    let s = request.first + done in
    let end = end_of_read request in
    let r = holding (Some came) s end p in
    let area = fits.parts.area in
    let over : IsOverlaid k p d.cells g.cells = sectors.overlaid opened in
    let hand : IsRedirected v p request done =
    redirected_by v p redirect request done at redirected fits.parts.state.2 in
    let of = came_of p.client.demand came is in
    let f = of.0 in
    let wanted : IsWanted p request s f =
    subst (λ (o : Option Fetching). IfSome o (IsWanted p request s)) of.1 hand.asked in
    let its_tags : HasTags p.area.block (Some f) =
    subst (λ (n : ℕ). HasTags n (Some f)) area.client
    (subst (λ (o : Option Fetching). HasTags p.client.block o) of.1 tags) in
    let holds : Holds (image_part k.image) (Some f) p.pool =
    subst (λ (o : Option Fetching). Holds (image_part k.image) o p.pool) of.1 has.asked.0 in
    let block = block_came k.image p.area p.bitmap.filled d.cells g p.pool f s has.whole over.values area.suitable
    area.room whole (asked_leased f p wanted.unheld of.1 fits.parts.leased).held.0 its_tags holds of.3 wanted.block in
    let here : IsBlockOf g p.pool p.client.block (Some came) =
    subst (λ (n : ℕ). IsBlockOf g p.pool n (Some came)) (sym area.client)
    (subst (λ (came : ℕ × Held). IsBlockOf g p.pool p.area.block (Some came)) (sym of.2) block) in (
      registered_sectors k (Monitor side) (Monitor side) p r d d g.cells opened refl refl refl refl refl sectors,
      record {
        held = piece_in_block g s end came p request area (holds_came request s f came p area wanted of.2) here;
        asked = (_, has.asked.1);
        read = _;
        whole = has.whole;
      },
    )

-- and they go on over the parts that hold what has come as over those before
pub collected_buffers : (side : MonitorSide) (redirect : Redirect) (order : Request) (done : ℕ) (t : State)
    (p q : Parts) (d e : Device) → Fits (Monitor side) p d → (view_held side).file.phase ≡ Busy (Good order) done
    → p.hand.redirect ≡ Some redirect → is_opened p ≡ true → HasWholeBuffers p.pool
    → HasTags p.client.block p.client.demand
    → KeepsBuffers (Monitor side) (collected (order.first + done) (end_of_read order) p) d t q e
    → KeepsBuffers (Monitor side) p d t q e
collected_buffers side redirect order done t p q d e fits at redirected opened whole tags keeps = λ k g sectors has.
    let v = view_held side in
    let same : order ≡ request_of redirect =
    order_by p.hand.redirect v p redirect order done redirected
    (subst (λ (phase : Phase). HasInHand phase v p) at fits.parts.state.2) in
    let keeps_it =
    subst (λ (order : Request). KeepsBuffers (Monitor side) (collected (order.first + done) (end_of_read order) p) d t q
    e) same keeps in
    let made = some_buffers side redirect done (done_in p.client.demand) p d fits
    (at ∙ ap (λ (order : Request). Busy (Good order) done) same) redirected opened whole tags refl k g sectors has in
    keeps_it k g made.0 made.1
