-- A block that has come for a redirected read, and is held.
use Rattle.std.proofs.Common.{◌≡◌, ◌+◌, ◌-◌, ◌*◌, ◌/◌, ◌≤◌, ◌<◌, ◌++◌, ◌∷◌, ℕ, Bool, true, false, if◌then◌else◌, List, Option, Some, None, min, inr, refl, sym, ap, ◌∙◌, subst, arith}
use Rattle.std.specs.Prelude.{IfSome, is_some}
use Rattle.std.specs.List.{list_all}
use Rattle.std.proofs.Math.Nat.{div-mul-le_self}
use Rattle.ata_taskfile.specs.declared.registers.TheConstants.{SECTOR_BYTES}
use Rattle.ata_taskfile.specs.declared.Request.{Request}
use Rattle.ata_taskfile.specs.declared.Taken.TheVariants.{Good}
use Rattle.ata_taskfile.specs.declared.Phase.{Phase}
use Rattle.ata_taskfile.specs.declared.Phase.TheVariants.{Busy}
use Rattle.ata_taskfile.specs.Device.{Device}
use Rattle.aoe_client.specs.Asking.{done_in, lease_in, leases_of}
use Rattle.aoe_client.specs.Fetching.{Fetching, is_answered}
use Rattle.fill_bitmap.specs.declared.area.Area.{Area}
use Rattle.fill_bitmap.specs.Area.{block_at}
use Rattle.fill_bitmap.specs.Disk.{is_empty_at}
use Rattle.io_interpret.specs.Blocks.{empty_block}
use Rattle.io_interpret.proofs.Ranges.{some_sectors}
use Rattle.mon_pool.specs.Region.{Held}
use Rattle.plain_drive.specs.Plain.{Plain}
use Rattle.port_lease.specs.declared.monitor_side.MonitorSide.{MonitorSide}
use Rattle.port_lease.specs.Sides.{view_held}
use Rattle.redirect.specs.declared.redirect.Redirect.{Redirect}
use Rattle.redirect.specs.Next.{end_of_read, request_of}
use Rattle.schedule_text.specs.declared.Item.{Item}
use Rattle.monitor_state.specs.declared.state.State.{State}
use Rattle.monitor_state.specs.declared.state.State.TheVariants.{Monitor}
use Rattle.monitor_state.specs.declared.held.HeldPiece.{HeldPiece}
use Rattle.monitor_state.specs.declared.parts.Parts.{Parts}
use Rattle.monitor_state.specs.Leases.{AreLeased, leases_held, leases_of_parts}
use Rattle.monitor_state.specs.Hand.{HasInHand, HoldsSector, IsRedirected, IsWanted}
use Rattle.monitor_state.specs.Fits.{Fits, FitsArea}
use Rattle.monitor_state.specs.Sectors.{IsBlockOf, IsPieceOf, SectorsAgree}
use Rattle.monitor_state.specs.Seen.{Shows}
use Rattle.monitor_state.proofs.Shown.{same_refused, same_seen}
use Rattle.streaming.specs.Client.{ClientTurned}
use Rattle.monitor_turn.specs.Collected.{collected, holding, piece_of}
use Rattle.monitor_turn.specs.Turned.{HasTurned}
use Rattle.monitor_turn.proofs.InHand.{in_hand_by, order_by, read_unmattered, redirected_by}

some_if : {A : Type 0} (test : Bool) (x y : A) → (if test then Some x else None) ≡ Some y → (y ≡ x) × (test ≡ true)
some_if true x y is = (cc, refl)
some_if false x y is = absurd cc

-- what has come was asked, and all of it is answered
pub came_of : (demand : Option Fetching) (came : ℕ × Held) → done_in demand ≡ Some came
    → (f : Fetching) × (demand ≡ Some f) × (came ≡ (f.block, f.lease)) × (list_all is_answered f.tags ≡ true)
came_of None came is = absurd cc
came_of (Some f) came is =
    let made = some_if (list_all is_answered f.tags) (f.block, f.lease) came is in
    (f, refl, made.0, made.1)

-- the block of a sector in an empty one
pub block_if : (area : Area) (filled : List Bool) (sector b : ℕ) → empty_block area filled sector ≡ Some b
    → (b ≡ block_at area sector) × (is_empty_at area filled sector ≡ true)
block_if area filled sector b is = some_if (is_empty_at area filled sector) (block_at area sector) b is

-- parts that hold the block of what was asked
abbrev holding_block : ℕ → ℕ → Fetching → Parts → Parts
holding_block sector end f p = holding (Some (f.block, f.lease)) sector end p

area_holding : (sector end : ℕ) (f : Fetching) (p : Parts) → FitsArea p → FitsArea (holding_block sector end f p)
area_holding sector end f p area = record {
  suitable = area.suitable;
  image = area.image;
  bitmap = area.bitmap;
  nested = area.nested;
  opening = area.opening;
  run = area.run;
  client = area.client;
  room = area.room;
  buffers = area.buffers;
  background = area.background;
}

-- the lease of what was asked is the first one of the parts
pub asked_leased : (f : Fetching) (p : Parts) → p.held ≡ None → p.client.demand ≡ Some f
    → AreLeased (leases_of_parts p) p → AreLeased (f.lease ∷ lease_in p.client.background) p
asked_leased f p unheld is leased =
    let same : leases_of_parts p ≡ f.lease ∷ lease_in p.client.background =
    ap (λ (held : Option HeldPiece). leases_held held ++ leases_of p.client) unheld
    ∙ ap (λ (o : Option Fetching). lease_in o ++ lease_in p.client.background) is in
    subst (λ (leases : List Held). AreLeased leases p) same leased

leases_holding : (sector end : ℕ) (f : Fetching) (p : Parts) → p.held ≡ None → p.client.demand ≡ Some f
    → AreLeased (leases_of_parts p) p
    → AreLeased (leases_of_parts (holding_block sector end f p)) (holding_block sector end f p)
leases_holding sector end f p unheld is leased =
    let all = asked_leased f p unheld is leased in record { held = all.held; counted = all.counted }

-- the first piece from a sector on has it, and lies in its block
in_block : (sector end block room first : ℕ) → 0 < block → sector < end → first ≡ sector / block
    → room ≡ SECTOR_BYTES * block → let count = min ((sector / block + 1) * block) end - sector in
    (sector < sector + count) × (sector + count ≤ end) × (first * block ≤ sector)
    × (SECTOR_BYTES * (sector + count - first * block) ≤ room)
in_block sector end block room first some ahead is whole =
    let split : (sector / block + 1) * block ≡ sector / block * block + block = omega arith in
    let below : sector / block * block ≤ sector = div-mul-le_self sector block in
    let next : sector < (sector / block + 1) * block = omega (arith, split) in
    let same : first * block ≡ sector / block * block = ap (λ (n : ℕ). n * block) is in
    (omega (arith, next), omega (arith, next), omega (arith, same, below), omega (arith, same, below, next, split))

holds_block : (request : Request) (sector : ℕ) (f : Fetching) (p : Parts) → FitsArea p → IsWanted p request sector f
    → HoldsSector (holding_block sector (end_of_read request) f p) request sector
    (piece_of sector (end_of_read request) p (f.block, f.lease))
holds_block request sector f p area wanted =
    let is = (block_if p.area p.bitmap.filled sector f.block wanted.block).0 in
    let holds = in_block sector (end_of_read request) p.area.block p.pool.room f.block
    (some_sectors p.area.block area.suitable.blocked) wanted.within is area.room in
    record { from = omega arith; ahead = holds.0; within = holds.1; base = holds.2; room = holds.3 }

-- so the piece of a block that has come has the sector that comes next
pub holds_came : (request : Request) (sector : ℕ) (f : Fetching) (came : ℕ × Held) (p : Parts) → FitsArea p
    → IsWanted p request sector f → came ≡ (f.block, f.lease)
    → let end = end_of_read request in
    HoldsSector (holding (Some came) sector end p) request sector (piece_of sector end p came)
holds_came request sector f came p area wanted is =
    let end = end_of_read request in
    subst
    (λ (came : ℕ × Held). HoldsSector (holding (Some came) sector end p) request sector (piece_of sector end p came))
    (sym is) (holds_block request sector f p area wanted)

block_fits : (side : MonitorSide) (redirect : Redirect) (done : ℕ) (f : Fetching) (p : Parts) (d : Device)
    → Fits (Monitor side) p d → (view_held side).file.phase ≡ Busy (Good (request_of redirect)) done
    → p.hand.redirect ≡ Some redirect → p.client.demand ≡ Some f
    → let request = request_of redirect in
    Fits (Monitor side) (holding_block (request.first + done) (end_of_read request) f p) d
block_fits side redirect done f p d fits at redirected is =
    let state = fits.parts.state in
    let v = view_held side in
    let request = request_of redirect in
    let s = request.first + done in
    let end = end_of_read request in
    let q = holding_block s end f p in
    let r : IsRedirected v p request done = redirected_by v p redirect request done at redirected state.2 in
    let wanted : IsWanted p request s f = subst (λ (o : Option Fetching). IfSome o (IsWanted p request s)) is r.asked in
    record {
      parts = record {
        area = area_holding s end f p fits.parts.area;
        leased = leases_holding s end f p wanted.unheld is fits.parts.leased;
        state = (
          state.0,
          state.1,
          in_hand_by v q redirect done at redirected (record {
            read = r.read;
            unreserved = r.unreserved;
            position = r.position;
            last = r.last;
            calm = r.calm;
            held = holds_block request s f p fits.parts.area wanted;
            asked = _;
            failed = λ failed. absurd (let no = wanted.unfailed in cc);
          }),
          record { opened = state.3.opened },
        );
      };
      device = fits.device;
      sectors = fits.sectors;
    }

some_fits : (side : MonitorSide) (redirect : Redirect) (done : ℕ) (came : Option (ℕ × Held)) (p : Parts) (d : Device)
    → Fits (Monitor side) p d → (view_held side).file.phase ≡ Busy (Good (request_of redirect)) done
    → p.hand.redirect ≡ Some redirect → done_in p.client.demand ≡ came
    → let request = request_of redirect in
    Fits (Monitor side) (holding came (request.first + done) (end_of_read request) p) d
some_fits side redirect done None p d fits at redirected is = fits
some_fits side redirect done (Some came) p d fits at redirected is =
    let request = request_of redirect in
    let of = came_of p.client.demand came is in
    subst
    (λ (came : ℕ × Held). Fits (Monitor side) (holding (Some came) (request.first + done) (end_of_read request) p) d)
    (sym of.2) (block_fits side redirect done of.0 p d fits at redirected of.1)

-- view, parts and drive fit once what has come is held
pub collected_fits : (side : MonitorSide) (redirect : Redirect) (order : Request) (done : ℕ) (p : Parts) (d : Device)
    → Fits (Monitor side) p d → (view_held side).file.phase ≡ Busy (Good order) done
    → p.hand.redirect ≡ Some redirect → Fits (Monitor side) (collected (order.first + done) (end_of_read order) p) d
collected_fits side redirect order done p d fits at redirected =
    let v = view_held side in
    let same : order ≡ request_of redirect =
    order_by p.hand.redirect v p redirect order done redirected
    (subst (λ (phase : Phase). HasInHand phase v p) at fits.parts.state.2) in
    subst (λ (order : Request). Fits (Monitor side) (collected (order.first + done) (end_of_read order) p) d) (sym same)
    (some_fits side redirect done (done_in p.client.demand) p d fits
    (at ∙ ap (λ (order : Request). Busy (Good order) done) same) redirected refl)

-- a turn over the parts that hold it is one over those before
pub turned_before : (came : Option (ℕ × Held)) (sector end : ℕ) (p q : Parts) (d e : Device) (s : State)
    (told : Option Item) → HasTurned (holding came sector end p) d s told q e → HasTurned p d s told q e
turned_before None sector end p q d e s told turned = turned
turned_before (Some came) sector end p q d e s told turned = record {
  fits = turned.fits;
  between = turned.between;
  commands = turned.commands;
  ready = turned.ready;
  may = turned.may;
  image = record {
    area = turned.image.area;
    id = turned.image.id;
    opening = turned.image.opening;
    bitmap = turned.image.bitmap;
  };
}

-- and what becomes of the client is one of what a turn may make of it
pub client_before : (came : Option (ℕ × Held)) (sector end : ℕ) (p q : Parts) → done_in p.client.demand ≡ came
    → let held = holding came sector end p in ClientTurned held.client q.client
    → (is_some held.held ≡ true → q.client ≡ held.client) → ClientTurned p.client q.client
client_before None sector end p q is turned unasked = turned
client_before (Some came) sector end p q is turned unasked =
    inr (inr (record { done = ap is_some is; freed = unasked refl }))

-- the piece that is held lies in the block that has come
pub piece_in_block : (g : Device) (sector end : ℕ) (came : ℕ × Held) (p : Parts) (request : Request) → FitsArea p
    → HoldsSector (holding (Some came) sector end p) request sector (piece_of sector end p came)
    → IsBlockOf g p.pool p.client.block (Some came) → IsPieceOf g p.pool (Some (piece_of sector end p came))
piece_in_block g sector end came p request area holds block = λ s from before.
    let of : IsBlockOf g p.pool p.area.block (Some came) =
    subst (λ (n : ℕ). IsBlockOf g p.pool n (Some came)) area.client block in
    of s (omega (arith, holds.base, from)) (omega (arith, holds.base, holds.room, area.room, before))

-- the guest sees the same plain drive once what has come is held
pub some_shows : (side : MonitorSide) (redirect : Redirect) (done : ℕ) (came : Option (ℕ × Held)) (p : Parts)
    (d : Device) (memory : List ℕ) (q : Plain) → Fits (Monitor side) p d
    → (view_held side).file.phase ≡ Busy (Good (request_of redirect)) done → p.hand.redirect ≡ Some redirect
    → Shows (Monitor side) p d memory q
    → let r = holding came ((request_of redirect).first + done) (end_of_read (request_of redirect)) p in
    Shows (Monitor side) r d memory q
some_shows side redirect done None p d memory q fits at redirected shows = shows
some_shows side redirect done (Some came) p d memory q fits at redirected shows =
    let v = view_held side in
    let request = request_of redirect in
    let r = holding (Some came) (request.first + done) (end_of_read request) p in
    let hand : IsRedirected v p request done =
    redirected_by v p redirect request done at redirected fits.parts.state.2 in
    same_seen (Monitor side) (Monitor side) p r d d memory q refl refl
    (λ matters. absurd (let no = read_unmattered v.file.phase request done at hand.read in cc)) refl
    (same_refused v.file.phase p r refl refl ∙ shows.served) shows

some_seen : (side : MonitorSide) (redirect : Redirect) (done : ℕ) (came : Option (ℕ × Held)) (p : Parts) (d : Device)
    (memory : List ℕ) (q : Plain) → Fits (Monitor side) p d
    → (view_held side).file.phase ≡ Busy (Good (request_of redirect)) done
    → p.hand.redirect ≡ Some redirect → done_in p.client.demand ≡ came
    → Shows (Monitor side) p d memory q → SectorsAgree (Monitor side) p d q
    → let r = holding came ((request_of redirect).first + done) (end_of_read (request_of redirect)) p in
    Shows (Monitor side) r d memory q × SectorsAgree (Monitor side) r d q
some_seen side redirect done None p d memory q fits at redirected is shows agree = (shows, agree)
some_seen side redirect done (Some came) p d memory q fits at redirected is shows agree =
    let v = view_held side in
    let request = request_of redirect in
    let s = request.first + done in
    let end = end_of_read request in
    let hand : IsRedirected v p request done =
    redirected_by v p redirect request done at redirected fits.parts.state.2 in
    let of = came_of p.client.demand came is in
    let wanted : IsWanted p request s of.0 =
    subst (λ (o : Option Fetching). IfSome o (IsWanted p request s)) of.1 hand.asked in
    let holds = holds_came request s of.0 came p fits.parts.area wanted of.2 in (
      some_shows side redirect done (Some came) p d memory q fits at redirected shows,
      record {
        drives = λ no. absurd cc;
        held = piece_in_block q.device s end came p request fits.parts.area holds
            (subst (IsBlockOf q.device p.pool p.client.block) is agree.came);
        came = _;
      },
    )

-- and its sectors agree
pub collected_seen : (side : MonitorSide) (redirect : Redirect) (order : Request) (done : ℕ) (p : Parts) (d : Device)
    (memory : List ℕ) (q : Plain) → Fits (Monitor side) p d → (view_held side).file.phase ≡ Busy (Good order) done
    → p.hand.redirect ≡ Some redirect → Shows (Monitor side) p d memory q → SectorsAgree (Monitor side) p d q
    → let r = collected (order.first + done) (end_of_read order) p in
    Shows (Monitor side) r d memory q × SectorsAgree (Monitor side) r d q
collected_seen side redirect order done p d memory q fits at redirected shows agree =
    let v = view_held side in
    let same : order ≡ request_of redirect =
    order_by p.hand.redirect v p redirect order done redirected
    (subst (λ (phase : Phase). HasInHand phase v p) at fits.parts.state.2) in
    subst (λ (order : Request). let r = collected (order.first + done) (end_of_read order) p in
    Shows (Monitor side) r d memory q × SectorsAgree (Monitor side) r d q) (sym same)
    (some_seen side redirect done (done_in p.client.demand) p d memory q fits
    (at ∙ ap (λ (order : Request). Busy (Good order) done) same) redirected refl shows agree)
