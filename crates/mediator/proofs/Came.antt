-- A block that has come for the guest has the plain drive's sectors.
use Rattle.std.proofs.Common.{◌≡◌, ℕ, ◌+◌, Bool, true, false, if◌then◌else◌, ◌++◌, Option, Some, None, refl, sym, ◌∙◌, subst}
use Rattle.std.specs.Prelude.{IfSome}
use Rattle.std.specs.List.{list_all}
use Rattle.std.proofs.lemmas.Bool.{true≢false}
use Rattle.ata_taskfile.specs.declared.Request.{Request}
use Rattle.ata_taskfile.specs.declared.Taken.{Taken}
use Rattle.ata_taskfile.specs.declared.Phase.{Phase}
use Rattle.ata_taskfile.specs.declared.Phase.TheVariants.{Reset, Idle, Busy, Ready}
use Rattle.ata_taskfile.specs.Device.{Device}
use Rattle.ata_taskfile.specs.Lawful.{is_in_reset}
use Rattle.mon_pool.specs.Region.{AreOf, HasWholeBuffers, IsOf}
use Rattle.aoe_client.specs.Asking.{HasTags, done_in, lease_in, leases_of}
use Rattle.aoe_client.specs.Buffers.{Holds}
use Rattle.aoe_client.specs.Fetching.{Fetching, is_answered}
use Rattle.plain_drive.specs.Plain.{Plain}
use Rattle.port_lease.specs.declared.view.View.{View}
use Rattle.port_lease.specs.Sides.{view_held}
use Rattle.own_pio.specs.declared.own.Own.{Own}
use Rattle.io_interpret.specs.Blocks.{empty_block}
use Rattle.redirect.specs.declared.redirect.Redirect.{Redirect}
use Rattle.redirect.specs.Next.{request_of}
use Rattle.monitor_state.specs.declared.state.State.{State}
use Rattle.monitor_state.specs.declared.state.State.TheVariants.{Guest, Monitor, Running, Raising, Moving}
use Rattle.monitor_state.specs.declared.state.Purpose.TheVariants as purpose
use Rattle.monitor_state.specs.declared.parts.Parts.{Parts}
use Rattle.monitor_state.specs.State.{is_opened}
use Rattle.monitor_state.specs.Buffered.{HasBuffers, image_part}
use Rattle.monitor_state.specs.Fits.{Fits, FitsState, ReadsIn}
use Rattle.monitor_state.specs.Hand.{HasInHand, IsWanted, Serves, WorksOn}
use Rattle.monitor_state.specs.Overlaid.{HasSectors, Known}
use Rattle.monitor_state.specs.Sectors.{IsBlockOf}
use Rattle.monitor_state.specs.Leases.{leases_held, leases_of_parts, leases_of_state}
use Rattle.monitor_events.proofs.Buffers.{behind}
use Rattle.monitor_turn.proofs.CameBlock.{block_came}

-- what is asked is asked once opening has ended, and is an empty block
abbrev IsAskedEmpty : Parts → Fetching → Type 0
IsAskedEmpty p f = (is_opened p ≡ true) × (sector : ℕ) × (empty_block p.area p.bitmap.filled sector ≡ Some f.block)

if_none : (p : Parts) (asked : Option Fetching) → asked ≡ None → IfSome asked (IsAskedEmpty p)
if_none p None none = tt
if_none p (Some f) none = absurd cc

wanted : (p : Parts) (request : Request) (sector : ℕ) (asked : Option Fetching) → is_opened p ≡ true
    → IfSome asked (IsWanted p request sector) → IfSome asked (IsAskedEmpty p)
wanted p request sector None opened is = tt
wanted p request sector (Some f) opened is = (opened, sector, is.block)

worked : (redirect : Option Redirect) (v : View) (p : Parts) (order : Taken) (done : ℕ) → is_opened p ≡ true
    → WorksOn redirect v p order done → IfSome p.client.demand (IsAskedEmpty p)
worked None v p order done opened works = if_none p p.client.demand works.0.asked
worked (Some redirect) v p order done opened works =
    wanted p (request_of redirect) ((request_of redirect).first + done) p.client.demand opened works.1.asked

served : (redirect : Option Redirect) (p : Parts) (order : Taken) (done : ℕ) → Serves redirect p order done
    → IfSome p.client.demand (IsAskedEmpty p)
served None p order done serves = absurd serves
served (Some redirect) p order done serves = if_none p p.client.demand serves.1.unasked

out_of_reset : (opened : Bool) → (opened ≡ false → false ≡ true) → opened ≡ true
out_of_reset true resets = refl
out_of_reset false resets = absurd (true≢false (sym (resets refl)))

in_hand : (phase : Phase) (v : View) (p : Parts) → (is_opened p ≡ false → is_in_reset phase ≡ true)
    → HasInHand phase v p → IfSome p.client.demand (IsAskedEmpty p)
in_hand Reset v p resets has = if_none p p.client.demand has.0.asked
in_hand Idle v p resets has = if_none p p.client.demand has.asked
in_hand (Busy order done) v p resets has =
    worked p.hand.redirect v p order done (out_of_reset (is_opened p) resets) has
in_hand (Ready order done left) v p resets has = served p.hand.redirect p order done has

reading : (phase : Phase) (own : Own) (first count : ℕ) (v : View) (p : Parts) → ReadsIn phase own first count v p
    → p.client.demand ≡ None
reading Reset own first count v p reads = absurd reads
reading Idle own first count v p reads = absurd reads
reading (Busy order done) own first count v p reads = reads.unasked
reading (Ready order done left) own first count v p reads = absurd reads

asked_empty : (s : State) (p : Parts) → FitsState s p → IfSome p.client.demand (IsAskedEmpty p)
asked_empty (Guest side) p fits = if_none p p.client.demand fits.0.asked
asked_empty (Monitor side) p fits = in_hand (view_held side).file.phase (view_held side) p fits.3.opened fits.2
asked_empty (Running side own purpose.Opening) p fits =
    in_hand (view_held side).file.phase (view_held side) p (λ closed. fits.5.1) fits.2
asked_empty (Running side own (purpose.Piece first count lease)) p fits =
    if_none p p.client.demand (reading (view_held side).file.phase own first count (view_held side) p fits.5)
asked_empty (Raising side dummy kind) p fits =
    in_hand (view_held side).file.phase (view_held side) p (λ closed. absurd (true≢false (sym fits.4 ∙ closed))) fits.2
asked_empty Moving p fits = absurd fits

-- so where all of it is answered it has the plain drive's sectors
all_came : (k : Known) (s : State) (p : Parts) (d : Device) (q : Plain) (f : Fetching) (all : Bool)
    → Fits s p d → HasSectors k s p d q.device.cells → HasBuffers k.image s p d q.device → IsAskedEmpty p f
    → IsOf f.lease p.pool → HasTags p.area.block (Some f) → HasWholeBuffers p.pool
    → Holds (image_part k.image) (Some f) p.pool → list_all is_answered f.tags ≡ all
    → IsBlockOf q.device p.pool p.area.block (if all then Some (f.block, f.lease) else None)
all_came k s p d q f true fits has buffers empty leased tags whole holds all =
    block_came k.image p.area p.bitmap.filled d.cells q.device p.pool f empty.1 buffers.whole
    (has.overlaid empty.0).values fits.parts.area.suitable fits.parts.area.room whole leased tags holds all empty.2
all_came k s p d q f false fits has buffers empty leased tags whole holds all = tt

demand_came : (k : Known) (s : State) (p : Parts) (d : Device) (q : Plain) (asked : Option Fetching)
    → Fits s p d → HasSectors k s p d q.device.cells → HasBuffers k.image s p d q.device
    → IfSome asked (IsAskedEmpty p) → AreOf (lease_in asked ++ lease_in p.client.background) p.pool
    → HasTags p.area.block asked → HasWholeBuffers p.pool → Holds (image_part k.image) asked p.pool
    → IsBlockOf q.device p.pool p.area.block (done_in asked)
demand_came k s p d q None fits has buffers empty leased tags whole holds = tt
demand_came k s p d q (Some f) fits has buffers empty leased tags whole holds =
    all_came k s p d q f (list_all is_answered f.tags) fits has buffers empty leased.0 tags whole holds refl

pub came_agrees : (k : Known) (s : State) (p : Parts) (d : Device) (q : Plain) → Fits s p d
    → HasSectors k s p d q.device.cells → HasBuffers k.image s p d q.device
    → HasTags p.client.block p.client.demand → HasWholeBuffers p.pool
    → IsBlockOf q.device p.pool p.client.block (done_in p.client.demand)
came_agrees k s p d q fits has buffers tags whole =
    let same = fits.parts.area.client in
    subst (λ block. IsBlockOf q.device p.pool block (done_in p.client.demand)) (sym same)
    (demand_came k s p d q p.client.demand fits has buffers (asked_empty s p fits.parts.state)
    (behind (leases_held p.held) (leases_of p.client) p.pool
    (behind (leases_of_state s) (leases_of_parts p) p.pool fits.parts.leased.held))
    (subst (λ block. HasTags block p.client.demand) same tags) whole buffers.asked.0)
