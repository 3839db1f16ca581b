-- While the client asks for the same, monitor and drive that fit go on to fit.
use Rattle.std.proofs.Common.{◌≡◌, ℕ, ◌+◌, true, List, [], ◌∷◌, ◌++◌, Option, Some, None, refl, sym, ap, ◌∙◌, subst}
use Rattle.std.specs.Prelude.{IfSome, IsSomeAnd}
use Rattle.ata_taskfile.specs.declared.Request.{Request}
use Rattle.ata_taskfile.specs.declared.Taken.{Taken}
use Rattle.ata_taskfile.specs.declared.Taken.TheVariants.{Good, Bad}
use Rattle.ata_taskfile.specs.declared.Phase.{Phase}
use Rattle.ata_taskfile.specs.declared.Phase.TheVariants.{Reset, Idle, Busy, Ready}
use Rattle.ata_taskfile.specs.Device.{Device}
use Rattle.mon_pool.specs.Region.{Held, Region, AreOf, given}
use Rattle.aoe_client.specs.Fetching.{Fetching}
use Rattle.aoe_client.specs.Asking.{Asking, lease_in, leases_of}
use Rattle.port_lease.specs.declared.view.View.{View}
use Rattle.port_lease.specs.Sides.{view_held}
use Rattle.own_pio.specs.declared.own.Own.{Own}
use Rattle.redirect.specs.declared.redirect.Redirect.{Redirect}
use Rattle.redirect.specs.Next.{request_of}
use Rattle.monitor_state.specs.declared.held.HeldPiece.{HeldPiece}
use Rattle.monitor_state.specs.declared.parts.Parts.{Parts}
use Rattle.monitor_state.specs.declared.state.State.{State}
use Rattle.monitor_state.specs.declared.state.State.TheVariants.{Guest, Monitor, Running, Raising, Moving}
use Rattle.monitor_state.specs.declared.state.Purpose.{Purpose}
use Rattle.monitor_state.specs.declared.state.Purpose.TheVariants as purpose
use Rattle.monitor_state.specs.declared.state.Plan.{Plan}
use Rattle.monitor_state.specs.declared.state.Plan.TheVariants as plan
use Rattle.monitor_state.specs.Classes.{class_of_order, is_drives_class, is_drives_in}
use Rattle.monitor_state.specs.Leases.{AreLeased, leases_held, leases_in, leases_of_state}
use Rattle.monitor_state.specs.Hand.{HasInHand, HoldsSector, IsEmptyHanded, IsWanted, Serves, WorksOn}
use Rattle.monitor_state.specs.Fits.{Fits, FitsArea, FitsDevice, FitsParts, FitsPlan, FitsPurpose, FitsState, ReadsIn}
use Rattle.monitor_state.specs.SameAsks.{AsksTheSame, BothAskTheSame, HaveSameAsks}

none_asked : (old new : Option Fetching) → AsksTheSame old new → old ≡ None → new ≡ None
none_asked None None same none = refl
none_asked None (Some new) same none = absurd same
none_asked (Some old) None same none = refl
none_asked (Some old) (Some new) same none = cc

same_lease : (old new : Option Fetching) → AsksTheSame old new → lease_in new ≡ lease_in old
same_lease None None same = refl
same_lease None (Some new) same = absurd same
same_lease (Some old) None same = absurd same
same_lease (Some old) (Some new) same = ap (λ lease. lease ∷ []) same.1

-- the client has the same leases
same_leases : (old new : Asking) → BothAskTheSame old new → leases_of new ≡ leases_of old
same_leases old new same =
    ap (λ leases. leases ++ lease_in new.background) (same_lease old.demand new.demand same.demand)
    ∙ ap (λ leases. lease_in old.demand ++ leases) (same_lease old.background new.background same.background)

-- leases are of a pool whatever its bytes are
are_of_bytes : (leases : List Held) (pool : Region) (block : List ℕ) → AreOf leases pool
    → AreOf leases (record pool { block = block })
are_of_bytes [] pool block are = tt
are_of_bytes (lease ∷ leases) pool block are =
    (record { base = are.0.base; out = are.0.out }, are_of_bytes leases (given lease pool) block are.1)

module _ (p : Parts) (c : Asking) (block : List ℕ) (same : BothAskTheSame p.client c) where
  -- the parts with the client as it is now, and other bytes in the pool
  abbrev q : Parts
  q = record p { client = c; pool = record p.pool { block = block } }

  unasked : p.client.demand ≡ None → c.demand ≡ None
  unasked none = none_asked p.client.demand c.demand same.demand none

  empty : IsEmptyHanded p → IsEmptyHanded q
  empty hand = record {
    redirect = hand.redirect;
    failed = hand.failed;
    held = hand.held;
    asked = unasked hand.asked;
  }

  holds : (request : Request) (sector : ℕ) (held : HeldPiece) → HoldsSector p request sector held
      → HoldsSector q request sector held
  holds request sector held has = record {
    from = has.from;
    ahead = has.ahead;
    within = has.within;
    base = has.base;
    room = has.room;
  }

  if_holds : (request : Request) (sector : ℕ) (piece : Option HeldPiece) → IfSome piece (HoldsSector p request sector)
      → IfSome piece (HoldsSector q request sector)
  if_holds request sector None has = tt
  if_holds request sector (Some held) has = holds request sector held has

  some_holds : (request : Request) (sector : ℕ) (piece : Option HeldPiece)
      → IsSomeAnd piece (HoldsSector p request sector) → IsSomeAnd piece (HoldsSector q request sector)
  some_holds request sector None has = absurd has
  some_holds request sector (Some held) has = holds request sector held has

  wanted : (request : Request) (sector : ℕ) (old new : Option Fetching) → AsksTheSame old new
      → IfSome old (IsWanted p request sector) → IfSome new (IsWanted q request sector)
  wanted request sector None None asks has = tt
  wanted request sector None (Some new) asks has = absurd asks
  wanted request sector (Some old) None asks has = absurd asks
  wanted request sector (Some old) (Some new) asks has = record {
    block = has.block ∙ ap Some (sym asks.0);
    within = has.within;
    unheld = has.unheld;
    unfailed = has.unfailed;
  }

  works : (redirect : Option Redirect) (v : View) (order : Taken) (done : ℕ) → WorksOn redirect v p order done
      → WorksOn redirect v q order done
  works None v order done on = (empty on.0, on.1)
  works (Some redirect) v order done on =
      let request = request_of redirect in (
        on.0,
        record {
          read = on.1.read;
          unreserved = on.1.unreserved;
          position = on.1.position;
          last = on.1.last;
          calm = on.1.calm;
          held = if_holds request (request.first + done) p.held on.1.held;
          asked = wanted request (request.first + done) p.client.demand c.demand same.demand on.1.asked;
          failed = on.1.failed;
        },
      )

  serves : (redirect : Option Redirect) (order : Taken) (done : ℕ) → Serves redirect p order done
      → Serves redirect q order done
  serves None order done on = absurd on
  serves (Some redirect) order done on =
      let request = request_of redirect in (
        on.0,
        record {
          read = on.1.read;
          unreserved = on.1.unreserved;
          form = on.1.form;
          below = on.1.below;
          unfailed = on.1.unfailed;
          unasked = unasked on.1.unasked;
          held = some_holds request (request.first + done) p.held on.1.held;
        },
      )

  in_hand : (phase : Phase) (v : View) → HasInHand phase v p → HasInHand phase v q
  in_hand Reset v has = (empty has.0, has.1)
  in_hand Idle v has = empty has
  in_hand (Busy order done) v has = works p.hand.redirect v order done has
  in_hand (Ready order done left) v has = serves p.hand.redirect order done has

  reads : (phase : Phase) (own : Own) (first count : ℕ) (v : View) → ReadsIn phase own first count v p
      → ReadsIn phase own first count v q
  reads Reset own first count v on = absurd on
  reads Idle own first count v on = absurd on
  reads (Ready order done left) own first count v on = absurd on
  reads (Busy order done) own first count v on = record {
    job = on.job;
    opened = on.opened;
    calm = on.calm;
    unheld = on.unheld;
    unasked = unasked on.unasked;
    unfailed = on.unfailed;
    redirected = on.redirected;
    on_disk = on.on_disk;
    some = on.some;
    room = on.room;
  }

  for_purpose : (why : Purpose) (own : Own) (v : View) → FitsPurpose why own v p → FitsPurpose why own v q
  for_purpose purpose.Opening own v fits = fits
  for_purpose (purpose.Piece first count lease) own v fits = reads v.file.phase own first count v fits

  for_plan : (planned : Plan) (phase : Phase) → FitsPlan planned phase p → FitsPlan planned phase q
  for_plan plan.Serve (Busy (Good order) done) fits = fits
  for_plan plan.End (Busy (Good order) done) fits = fits
  for_plan plan.Fail (Busy (Good order) done) fits = fits
  for_plan plan.Reserved (Busy (Good order) done) fits = fits
  for_plan plan.Reserved (Busy (Bad reason) done) fits = fits
  for_plan plan.Serve (Busy (Bad reason) done) fits = absurd fits
  for_plan plan.Serve Reset fits = absurd fits
  for_plan plan.Serve Idle fits = absurd fits
  for_plan plan.Serve (Ready order done left) fits = absurd fits
  for_plan plan.End (Busy (Bad reason) done) fits = absurd fits
  for_plan plan.End Reset fits = absurd fits
  for_plan plan.End Idle fits = absurd fits
  for_plan plan.End (Ready order done left) fits = absurd fits
  for_plan plan.Fail (Busy (Bad reason) done) fits = absurd fits
  for_plan plan.Fail Reset fits = absurd fits
  for_plan plan.Fail Idle fits = absurd fits
  for_plan plan.Fail (Ready order done left) fits = absurd fits
  for_plan plan.Reserved Reset fits = absurd fits
  for_plan plan.Reserved Idle fits = absurd fits
  for_plan plan.Reserved (Ready order done left) fits = absurd fits

  state_fits : (s : State) → FitsState s p → FitsState s q
  state_fits (Guest side) fits = (empty fits.0, fits.1)
  state_fits (Monitor side) fits = (
    fits.0,
    fits.1,
    in_hand (view_held side).file.phase (view_held side) fits.2,
    record { opened = fits.3.opened },
  )
  state_fits (Running side own why) fits = (
    fits.0,
    fits.1,
    in_hand (view_held side).file.phase (view_held side) fits.2,
    fits.3,
    fits.4,
    for_purpose why own (view_held side) fits.5,
  )
  state_fits (Raising side dummy planned) fits = (
    fits.0,
    fits.1,
    in_hand (view_held side).file.phase (view_held side) fits.2,
    fits.3,
    fits.4,
    fits.5,
    fits.6,
    for_plan planned (view_held side).file.phase fits.7,
  )
  state_fits Moving fits = absurd fits

  area_fits : FitsArea p → FitsArea q
  area_fits fits = record {
    suitable = fits.suitable;
    image = fits.image;
    bitmap = fits.bitmap;
    nested = fits.nested;
    opening = fits.opening;
    run = fits.run;
    client = same.block ∙ fits.client;
    room = fits.room;
    buffers = fits.buffers;
    background = none_asked p.client.background c.background same.background fits.background;
  }

  leases_stay : (s : State) → AreLeased (leases_in s p) p → AreLeased (leases_in s q) q
  leases_stay s leased =
      let now : leases_in s q ≡ leases_in s p =
      ap (λ leases. leases_of_state s ++ (leases_held p.held ++ leases)) (same_leases p.client c same) in
      subst (λ leases. AreLeased leases q) (sym now) record {
        held = are_of_bytes (leases_in s p) p.pool block leased.held;
        counted = leased.counted;
      }

  parts_fit : (s : State) → FitsParts s p → FitsParts s q
  parts_fit s fits = record {
    area = area_fits fits.area;
    leased = leases_stay s fits.leased;
    state = state_fits s fits.state;
  }

  same_class : (order : Taken) → is_drives_class (class_of_order order q) ≡ is_drives_class (class_of_order order p)
  same_class (Good request) = refl
  same_class (Bad reason) = refl

  same_drives : (phase : Phase) → is_drives_in phase p ≡ true → is_drives_in phase q ≡ true
  same_drives Reset gets = refl
  same_drives Idle gets = refl
  same_drives (Busy order done) gets = same_class order ∙ gets
  same_drives (Ready order done left) gets = same_class order ∙ gets

  device_fits : (s : State) (d : Device) → FitsDevice s p d → FitsDevice s q d
  device_fits (Guest side) d fits = (fits.0, fits.1, same_drives d.file.phase fits.2)
  device_fits (Monitor side) d fits = fits
  device_fits (Running side own why) d fits = fits
  device_fits (Raising side dummy planned) d fits = fits
  device_fits Moving d fits = absurd fits

-- the parts as they are now are those with client and bytes as they are now
now_is : (old new : Parts) → HaveSameAsks old new
    → new ≡ record old { client = new.client; pool = record old.pool { block = new.pool.block } }
now_is old new same = same.others ∙ ap (λ pool. record old { client = new.client; pool = pool }) same.pool

pub asks_keep_parts : (s : State) (old new : Parts) → HaveSameAsks old new → FitsParts s old → FitsParts s new
asks_keep_parts s old new same fits =
    subst (FitsParts s) (sym (now_is old new same)) (parts_fit old new.client new.pool.block same.asks s fits)

pub asks_keep_fit : (s : State) (old new : Parts) (d : Device) → HaveSameAsks old new → Fits s old d → Fits s new d
asks_keep_fit s old new d same fits = subst (λ p. Fits s p d) (sym (now_is old new same)) record {
  parts = parts_fit old new.client new.pool.block same.asks s fits.parts;
  device = device_fits old new.client new.pool.block same.asks s d fits.device;
  sectors = fits.sectors;
}
