-- A guest's command in hand, and what the monitor may make of it.
use Rattle.std.proofs.Common.{◌≡◌, ◌+◌, ◌<◌, ◌&&◌, ◌==◌, ℕ, true, false, not, List, Option, Some, None, refl, sym, ap, ◌∙◌, subst, arith}
use Rattle.ata_taskfile.specs.declared.Kind.{Kind}
use Rattle.ata_taskfile.specs.declared.Kind.TheVariants as kind
use Rattle.ata_taskfile.specs.declared.Form.{Form}
use Rattle.ata_taskfile.specs.declared.Request.{Request}
use Rattle.ata_taskfile.specs.declared.Taken.{Taken}
use Rattle.ata_taskfile.specs.declared.Taken.TheVariants.{Good}
use Rattle.ata_taskfile.specs.declared.Phase.TheVariants.{Busy}
use Rattle.ata_taskfile.specs.Order.{Inputs, Row, inputs, order_in, order_of, row_of, taken}
use Rattle.ata_taskfile.specs.Lawful.{has_count, has_possible_order, is_just_taken, is_possible, moves_in}
use Rattle.ata_taskfile.specs.Device.{Device}
use Rattle.schedule_text.specs.declared.Item.{Item}
use Rattle.monitor_state.specs.declared.state.State.{State}
use Rattle.monitor_state.specs.declared.state.State.TheVariants.{Monitor}
use Rattle.monitor_turn.specs.Turned.{HasTurned}
use Rattle.fill_bitmap.specs.declared.area.Area.{Area}
use Rattle.fill_bitmap.specs.Bitmap.{Sets}
use Rattle.io_interpret.specs.declared.class.Class.{Class}
use Rattle.io_interpret.specs.declared.class.Class.TheVariants.{Local, Redirected, FillFirst, Settle, Reserved, Other}
use Rattle.io_interpret.specs.Class.{class_of_kind, class_of_request, reaches_reserved}
use Rattle.plain_drive.specs.Plain.{Plain}
use Rattle.port_lease.specs.declared.view.View.{View}
use Rattle.port_lease.specs.declared.monitor_side.MonitorSide.{MonitorSide}
use Rattle.port_lease.specs.Sides.{view_held}
use Rattle.guest_view.specs.Fits.{FitsView}
use Rattle.redirect.specs.declared.redirect.Redirect.{Redirect}
use Rattle.redirect.specs.Next.{request_of}
use Rattle.redirect.specs.Read.{IsRead, goes_inward}
use Rattle.monitor_state.specs.declared.parts.Parts.{Parts}
use Rattle.monitor_state.specs.Classes.{is_drives_class}
use Rattle.monitor_state.specs.Fits.{Fits, FitsArea}
use Rattle.monitor_state.specs.GoesOn.{GoesOn}
use Rattle.monitor_state.specs.Seen.{Shows}
use Rattle.monitor_state.specs.Hand.{HasInHand, HoldsSector, IsEmptyHanded, IsWanted, WorksOn}
use Rattle.monitor_state.proofs.Served.{if_none}
use Rattle.monitor_state.proofs.Shown.{same_refused, same_seen}
use Rattle.monitor_turn.proofs.Rows.{row_by}

-- the forms of the table's reads are inward
row_inward : (byte : ℕ) (row : Row) → row_of byte ≡ Some row → row.kind ≡ kind.Read → goes_inward row.form ≡ true
row_inward byte row is reads = grind arith

order_inward : (byte n : ℕ) (i : Inputs) (request : Request) → taken (order_in (row_of byte) i n) ≡ Good request
    → request.kind ≡ kind.Read → goes_inward request.form ≡ true
order_inward byte n i request order reads =
    let by = row_by (row_of byte) i n request order in
    ap (λ (r : Request). goes_inward r.form) (sym by.2)
    ∙ row_inward byte by.0 by.1 (ap (λ (r : Request). r.kind) by.2 ∙ reads)

-- a class of Redirected is a read's that is on no reserved sector
redirected_kind : (k : Kind) (request : Request) (area : Area) (sets : Sets)
    → class_of_kind k request area sets ≡ Redirected → (k ≡ kind.Read) × (reaches_reserved request area ≡ false)
redirected_kind kind.Read request area sets is = (refl, grind (arith, is))
redirected_kind kind.Write request area sets is = absurd (grind (arith, is))
redirected_kind kind.Verify request area sets is = absurd (grind (arith, is))
redirected_kind kind.Flush request area sets is = absurd (grind (arith, is))
redirected_kind kind.Identify request area sets is = absurd cc
redirected_kind kind.Features request area sets is = absurd cc

-- the drive gets the commands of each class but three
pub drives_others : (class : Class) → (class ≡ Redirected → ⊥) → (class ≡ FillFirst → ⊥) → (class ≡ Reserved → ⊥)
    → is_drives_class class ≡ true
drives_others Local redirected fills reserved = refl
drives_others Redirected redirected fills reserved = absurd (redirected refl)
drives_others FillFirst redirected fills reserved = absurd (fills refl)
drives_others Settle redirected fills reserved = refl
drives_others Reserved redirected fills reserved = absurd (reserved refl)
drives_others Other redirected fills reserved = refl

-- nothing pends where nothing is done of the command
pub fresh_calm : (v : View) (order : Taken) (sectors : ℕ) → FitsView v sectors → v.file.phase ≡ Busy order 0
    → v.file.pending ≡ false
fresh_calm v order sectors fits at = fits.lawful.acknowledged (ap is_just_taken at)

fresh_works : (o : Option Redirect) (v : View) (p : Parts) (order : Taken) (done : ℕ) → o ≡ None
    → WorksOn o v p order done → IsEmptyHanded p × (done ≡ 0)
fresh_works None v p order done is works = works
fresh_works (Some redirect) v p order done is works = absurd cc

-- where no read is redirected nothing is in hand of the command
pub fresh : (v : View) (p : Parts) (order : Taken) (done : ℕ) → v.file.phase ≡ Busy order done
    → p.hand.redirect ≡ None → HasInHand v.file.phase v p → IsEmptyHanded p × (done ≡ 0)
fresh v p order done at is has =
    fresh_works p.hand.redirect v p order done is (subst (λ phase. HasInHand phase v p) at has)

possible_some : (k : Kind) (form : Form) (count : ℕ) → k ≡ kind.Read → (moves_in k form && has_count k count) ≡ true
    → 0 < count
possible_some k form count is possible =
    let some : (moves_in kind.Read form && not (count == 0)) ≡ true =
    subst (λ (k : Kind). (moves_in k form && has_count k count) ≡ true) is possible in
    grind (arith, some)

-- a read of the class Redirected is one that may be redirected
pub may_redirect : (v : View) (request : Request) (area : Area) (sets : Sets) (sectors : ℕ) → FitsView v sectors
    → v.file.phase ≡ Busy (Good request) 0 → class_of_request request area sets ≡ Redirected
    → IsRead request × (reaches_reserved request area ≡ false)
may_redirect v request area sets sectors fits at class =
    let k = redirected_kind request.kind request area sets class in
    let ordered = fits.ordered (ap is_just_taken at) in
    let possible : is_possible (Good request) ≡ true = sym (ap has_possible_order at) ∙ fits.lawful.goes_on.possible in
    let same : taken (order_of v.file.command (inputs v.file) sectors) ≡ Good request =
    let both : Busy (taken (order_of v.file.command (inputs v.file) sectors)) 0 ≡ Busy (Good request) 0 =
    sym ordered ∙ at in
    cc in (
      record {
        kind = k.0;
        inward = order_inward v.file.command sectors (inputs v.file) request same k.0;
        some = possible_some request.kind request.form request.count k.0 possible;
      },
      k.1,
    )

-- parts with a redirect in hand
abbrev pub with_redirect : Redirect → Parts → Parts
with_redirect redirect p = record p { hand = record p.hand { redirect = Some redirect } }

-- a read whose redirect has begun is in hand
pub redirect_begun : (v : View) (p : Parts) (redirect : Redirect) (sectors : ℕ) → FitsView v sectors
    → v.file.phase ≡ Busy (Good (request_of redirect)) 0 → IsEmptyHanded p → IsRead (request_of redirect)
    → reaches_reserved (request_of redirect) p.area ≡ false → HasInHand v.file.phase v (with_redirect redirect p)
redirect_begun v p redirect sectors fits at empty reads unreserved =
    let q = with_redirect redirect p in
    let request = request_of redirect in
    subst (λ phase. HasInHand phase v q) (sym at) (
      refl,
      record {
        read = reads;
        unreserved = unreserved;
        position = omega arith;
        last = λ none. absurd (omega (arith, none, reads.some));
        calm = λ _. fresh_calm v (Good request) sectors fits at;
        held = if_none (HoldsSector q request (request.first + 0)) p.held empty.held;
        asked = if_none (IsWanted q request (request.first + 0)) p.client.demand empty.asked;
        failed = λ failed. absurd (let no = empty.failed in cc);
      },
    )

area_redirected : (redirect : Redirect) (p : Parts) → FitsArea p → FitsArea (with_redirect redirect p)
area_redirected redirect p area = record {
  suitable = area.suitable;
  image = area.image;
  bitmap = area.bitmap;
  nested = area.nested;
  opening = area.opening;
  run = area.run;
  client = area.client;
  room = area.room;
  buffers = area.buffers;
  background = area.background;
}

-- monitor and drive fit once the redirect of a read has begun, whose class is Redirected
pub redirect_fits : (side : MonitorSide) (request : Request) (redirect : Redirect) (p : Parts) (d : Device)
    → Fits (Monitor side) p d → (view_held side).file.phase ≡ Busy (Good request) 0 → p.hand.redirect ≡ None
    → class_of_request request p.area p.bitmap ≡ Redirected → request_of redirect ≡ request
    → Fits (Monitor side) (with_redirect redirect p) d
redirect_fits side request redirect p d fits at none class is =
    let state = fits.parts.state in
    let v = view_held side in
    let now : v.file.phase ≡ Busy (Good (request_of redirect)) 0 = at ∙ ap (λ r. Busy (Good r) 0) (sym is) in
    let empty = (fresh v p (Good request) 0 at none state.2).0 in
    let may = may_redirect v (request_of redirect) p.area p.bitmap p.area.sectors state.1 now
    (ap (λ r. class_of_request r p.area p.bitmap) is ∙ class) in
    record {
      parts = record {
        area = area_redirected redirect p fits.parts.area;
        leased = record { held = fits.parts.leased.held; counted = fits.parts.leased.counted };
        state = (
          state.0,
          state.1,
          redirect_begun v p redirect p.area.sectors state.1 now empty may.0 may.1,
          record { opened = state.3.opened },
        );
      };
      device = fits.device;
      sectors = fits.sectors;
    }

-- what a turn over parts with a redirect leaves it leaves over them without
pub turned_over : (redirect : Redirect) (p q : Parts) (d e : Device) (s : State) (told : Option Item)
    → HasTurned (with_redirect redirect p) d s told q e → HasTurned p d s told q e
turned_over redirect p q d e s told turned = record {
  fits = turned.fits;
  between = turned.between;
  commands = turned.commands;
  ready = turned.ready;
  may = turned.may;
  image = record {
    area = turned.image.area;
    id = turned.image.id;
    opening = turned.image.opening;
    bitmap = turned.image.bitmap;
  };
}

-- what the guest sees over parts without a redirect it sees over them with one
pub redirect_shows : (redirect : Redirect) (side : MonitorSide) (p : Parts) (d : Device) (memory : List ℕ) (q : Plain)
    → Shows (Monitor side) p d memory q → Shows (Monitor side) (with_redirect redirect p) d memory q
redirect_shows redirect side p d memory q shows =
    let r = with_redirect redirect p in
    same_seen (Monitor side) (Monitor side) p r d d memory q refl refl (λ _. refl) refl
    (same_refused (view_held side).file.phase p r refl refl ∙ shows.served) shows

-- and it goes on over them as over those without
pub goes_on_over : (redirect : Redirect) (side : MonitorSide) (p r : Parts) (d e : Device) (memory left : List ℕ)
    (items : List Item) (t : State) → GoesOn (Monitor side) (with_redirect redirect p) d memory items t r e left
    → GoesOn (Monitor side) p d memory items t r e left
goes_on_over redirect side p r d e memory left items t goes = λ g shows agrees.
    goes g (redirect_shows redirect side p d memory g shows)
    record { drives = λ no. absurd cc; held = agrees.held; came = agrees.came }
