-- A block that is asked for a redirected read.
use Rattle.std.proofs.Common.{◌≡◌, ◌+◌, ◌<◌, ℕ, Bool, true, false, if◌then◌else◌, nat_le, List, Option, Some, None, refl, sym, ap, ◌∙◌, arith}
use Rattle.std.specs.Prelude.{IfSome}
use Rattle.ata_taskfile.specs.declared.Request.{Request}
use Rattle.ata_taskfile.specs.declared.Taken.TheVariants.{Good}
use Rattle.ata_taskfile.specs.declared.Phase.{Phase}
use Rattle.ata_taskfile.specs.declared.Phase.TheVariants.{Busy}
use Rattle.ata_taskfile.specs.Device.{Device}
use Rattle.aoe_client.specs.Asking.{Asking}
use Rattle.aoe_client.specs.Fetching.{Fetching}
use Rattle.fill_bitmap.specs.declared.area.Area.{Area}
use Rattle.io_interpret.specs.Blocks.{empty_block}
use Rattle.mon_pool.specs.Region.{Region, buffers_in}
use Rattle.port_lease.specs.declared.view.View.{View}
use Rattle.port_lease.specs.declared.monitor_side.MonitorSide.{MonitorSide}
use Rattle.port_lease.specs.Sides.{view_held}
use Rattle.redirect.specs.declared.next.Next.{Next}
use Rattle.redirect.specs.declared.next.Next.TheVariants.{Nothing, Ask, Read, End}
use Rattle.redirect.specs.declared.redirect.Redirect.{Redirect}
use Rattle.redirect.specs.Meaning.{IsAsked}
use Rattle.redirect.specs.Next.{fetched, has_sector, next_in, next_of, next_piece, request_of, served}
use Rattle.redirect.specs.Read.{sector_in}
use Rattle.monitor_state.specs.declared.state.State.TheVariants.{Monitor}
use Rattle.monitor_state.specs.declared.parts.Parts.{Parts}
use Rattle.monitor_state.specs.State.{is_opened, range_of}
use Rattle.monitor_state.specs.Leases.{AreLeased, leases_of_parts}
use Rattle.monitor_state.specs.Hand.{HoldsSector, IsRedirected, IsWanted}
use Rattle.monitor_state.specs.Fits.{Fits, FitsArea}
use Rattle.monitor_state.proofs.Served.{if_none}
use Rattle.streaming.specs.Client.{HasAsked}
use Rattle.monitor_turn.specs.Turned.{HasTurned}
use Rattle.monitor_turn.specs.Work.{IsWorkedOn}
use Rattle.monitor_turn.proofs.InHand.{in_hand_by, none_held, redirected_by}
use Rattle.streaming.proofs.Untold.{never_both}
use Rattle.monitor_turn.proofs.Told.{none_anew}

not_asked : (pends : Bool) (first count b : ℕ) → Ask b ≡ (if pends then Nothing else Read first count) → ⊥
not_asked true first count b is = cc
not_asked false first count b is = cc

fetched_empty : (o : Option ℕ) (first count b : ℕ) (v : View) (waiting : Bool)
    → Ask b ≡ fetched o first count v waiting → o ≡ Some b
fetched_empty None first count b v waiting is = absurd (not_asked v.file.pending first count b is)
fetched_empty (Some other) first count b v true is = absurd cc
fetched_empty (Some other) first count b v false is = cc

asked_last : (ends here : Bool) (b : ℕ) (offer next : Next) → ends ≡ false → here ≡ false
    → Ask b ≡ (if ends then End else if here then offer else next) → Ask b ≡ next
asked_last true here b offer next goes lacks is = absurd cc
asked_last false true b offer next goes lacks is = absurd cc
asked_last false false b offer next goes lacks is = is

-- the block that is asked is the empty one of the sector that comes next
asked_empty : (request : Request) (v : View) (area : Area) (filled : List Bool) (held : Option (ℕ × ℕ)) (waiting : Bool)
    (done b : ℕ) → v.file.phase ≡ Busy (Good request) done → Ask b ≡ next_of request v area filled held waiting
    → done < request.count → has_sector held (request.first + done) ≡ false
    → empty_block area filled (request.first + done) ≡ Some b
asked_empty request v area filled held waiting done b at is below lacks =
    let s = request.first + done in
    fetched_empty (empty_block area filled s) s _ b v waiting
    (asked_last (nat_le request.count done) (has_sector held s) b (served request.form v)
    (next_piece s request v area filled waiting) (grind (arith, below)) lacks
    (is ∙ ap (λ (phase : Phase). next_in phase request v area filled held waiting) at))

-- parts with another pool and client
abbrev pub with_asking : Region → Asking → Parts → Parts
with_asking pool client p = record p { pool = pool; client = client }

area_asking : (pool : Region) (client : Asking) (p : Parts) → HasAsked p.client client → pool.room ≡ p.pool.room
    → buffers_in pool ≡ buffers_in p.pool → FitsArea p → FitsArea (with_asking pool client p)
area_asking pool client p asked room buffers area = record {
  suitable = area.suitable;
  image = area.image;
  bitmap = area.bitmap;
  nested = area.nested;
  opening = area.opening;
  run = area.run;
  client = ap (λ (c : Asking). c.block) asked.others ∙ area.client;
  room = room ∙ area.room;
  buffers = omega (arith, buffers, area.buffers);
  background = ap (λ (c : Asking). c.background) asked.others ∙ area.background;
}

wanted : (q : Parts) (request : Request) (sector b : ℕ) (demand : Option Fetching)
    → empty_block q.area q.bitmap.filled sector ≡ Some b → sector < request.first + request.count → q.held ≡ None
    → q.hand.failed ≡ false → IfSome demand (λ f. f.block ≡ b) → IfSome demand (IsWanted q request sector)
wanted q request sector b None empty within unheld unfailed is = _
wanted q request sector b (Some f) empty within unheld unfailed is = record {
  block = empty ∙ ap Some (sym is);
  within = within;
  unheld = unheld;
  unfailed = unfailed;
}

-- a block has been asked
pub asked_turned : (side : MonitorSide) (redirect : Redirect) (done b : ℕ) (waiting : Bool) (pool : Region)
    (client : Asking) (p : Parts) (d : Device) → Fits (Monitor side) p d
    → IsWorkedOn (view_held side) p redirect done
    → Ask b ≡ next_of (request_of redirect) (view_held side) p.area p.bitmap.filled (range_of p.held) waiting
    → IsAsked (request_of redirect) (view_held side) p.area p.bitmap.filled (range_of p.held) waiting b
    → HasAsked p.client client → IfSome client.demand (λ f. f.block ≡ b) → pool.room ≡ p.pool.room
    → buffers_in pool ≡ buffers_in p.pool
    → (AreLeased (leases_of_parts p) p
    → AreLeased (leases_of_parts (with_asking pool client p)) (with_asking pool client p))
    → HasTurned p d (Monitor side) None (with_asking pool client p) d
asked_turned side redirect done b waiting pool client p d fits works next asks asked block room buffers leases =
    let state = fits.parts.state in
    let v = view_held side in
    let q = with_asking pool client p in
    let request = request_of redirect in
    let s = request.first + done in
    let r : IsRedirected v p request done =
    redirected_by v p redirect request done works.phase works.redirect_is state.2 in
    let below : done < request.count = grind (arith, asks.due.below, works.phase) in
    let lacks : has_sector (range_of p.held) s ≡ false =
    ap (λ (phase : Phase). has_sector (range_of p.held) (sector_in phase)) (sym works.phase) ∙ asks.unheld in
    let unheld = none_held p request s p.held r.held lacks in
    let empty =
    asked_empty request v p.area p.bitmap.filled (range_of p.held) waiting done b works.phase next below lacks in
    record {
      fits = record {
        parts = record {
          area = area_asking pool client p asked room buffers fits.parts.area;
          leased = leases fits.parts.leased;
          state = (
            state.0,
            state.1,
            in_hand_by v q redirect done works.phase works.redirect_is (record {
              read = r.read;
              unreserved = r.unreserved;
              position = r.position;
              last = r.last;
              calm = r.calm;
              held = if_none (HoldsSector q request s) p.held unheld;
              asked = wanted q request s b client.demand empty (omega (arith, below)) unheld works.unfailed block;
              failed = λ failed. absurd (let no = works.unfailed in cc);
            }),
            record { opened = state.3.opened },
          );
        };
        device = fits.device;
        sectors = fits.sectors;
      };
      between = _;
      commands = none_anew d.file;
      ready = never_both (is_opened p);
      may = _;
      image = record { area = refl; id = refl; opening = λ _. refl; bitmap = λ _. refl };
    }
