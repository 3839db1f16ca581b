-- Where the sectors come from of a block that was asked, and of one that has come.
use Rattle.std.proofs.Common.{◌≡◌, ◌+◌, ◌-◌, ◌*◌, ◌/◌, ◌<◌, ◌≤◌, ℕ, Bool, true, List, length, replicate, slice_get, Option, Some, None, inr, refl, sym, ap, ◌∙◌, subst, arith}
use Rattle.std.specs.Prelude.{IfSome}
use Rattle.std.specs.List.{list_all}
use Rattle.std.proofs.lemmas.List.{get_or-replicate, length-replicate}
use Rattle.std.proofs.lemmas.Option.{get_or_from_slice_get, slice_get_within}
use Rattle.ata_taskfile.specs.declared.Request.{Request}
use Rattle.ata_taskfile.specs.declared.Taken.TheVariants.{Good}
use Rattle.ata_taskfile.specs.declared.Phase.{Phase}
use Rattle.ata_taskfile.specs.declared.Phase.TheVariants.{Busy}
use Rattle.ata_taskfile.specs.Device.{Device}
use Rattle.aoe_client.specs.declared.client.Slot.TheVariants.{Demand}
use Rattle.aoe_client.specs.declared.tags.TagState.TheVariants.{Due, Answered}
use Rattle.aoe_client.specs.Asking.{HasTags, done_in, with_slot}
use Rattle.aoe_client.specs.Fetching.{Fetching, asked_for, is_answered}
use Rattle.fill_bitmap.specs.declared.area.Area.{Area}
use Rattle.fill_bitmap.specs.Area.{IsSuitable}
use Rattle.io_interpret.specs.Blocks.{empty_block}
use Rattle.mon_pool.specs.Region.{Held, leased}
use Rattle.port_lease.specs.declared.monitor_side.MonitorSide.{MonitorSide}
use Rattle.port_lease.specs.Sides.{view_held}
use Rattle.redirect.specs.declared.redirect.Redirect.{Redirect}
use Rattle.redirect.specs.Next.{end_of_read, request_of}
use Rattle.schedule_text.specs.declared.Item.{Item}
use Rattle.streaming.specs.Lines.{Line}
use Rattle.streaming.specs.Sources.{HasCome, IsSourced}
use Rattle.monitor_state.specs.declared.state.State.{State}
use Rattle.monitor_state.specs.declared.state.State.TheVariants.{Monitor}
use Rattle.monitor_state.specs.declared.parts.Parts.{Parts}
use Rattle.monitor_state.specs.Fits.{Fits}
use Rattle.monitor_state.specs.Hand.{HasInHand, IsRedirected, IsWanted}
use Rattle.monitor_state.specs.Sourced.{HasSources, KeepsSources, SlotCame}
use Rattle.monitor_turn.specs.Collected.{collected, holding}
use Rattle.monitor_turn.proofs.CameBlock.{all_answered, emptiness, in_empty_block, tags_place}
use Rattle.monitor_turn.proofs.Collecting.{came_of, holds_came, some_shows}
use Rattle.monitor_turn.proofs.InHand.{order_by, redirected_by}
use Rattle.monitor_turn.proofs.Sources.{untold}

-- of a block that was just asked no tag is answered
none_answered : (count i : ℕ) → slice_get (replicate count Due) i ≡ Some Answered → ⊥
none_answered count i is =
    let tags = replicate count Due in
    let within : i < count = omega (arith, slice_get_within tags i Answered is, length-replicate count Due) in
    let due = get_or-replicate count i Due Due within in
    let answered = get_or_from_slice_get tags i Answered Due is in
    cc

-- a block that is asked has brought nothing yet
pub asked_sources : (free : Option ℕ) (count block : ℕ) (lease : Held) (side : MonitorSide) (p : Parts) (d : Device)
    → KeepsSources (Monitor side) p d None (Monitor side) (record p {
      pool = leased free p.pool;
      client = with_slot Demand (Some (asked_for count block lease)) p.client;
    }) d
asked_sources free count block lease side p d =
    let r : Parts = record p {
      pool = leased free p.pool;
      client = with_slot Demand (Some (asked_for count block lease)) p.client;
    } in
    untold (Monitor side) (Monitor side) p r d d (λ lines has. record {
      held = has.held;
      demand = λ i is. absurd (none_answered count i is);
      background = has.background;
      read = tt;
    })

-- each sector of a block of which all tags are answered has come
block_sourced : (area : Area) (filled : List Bool) (f : Fetching) (sector : ℕ) (lines : List Line) → IsSuitable area
    → HasTags area.block (Some f) → list_all is_answered f.tags ≡ true → empty_block area filled sector ≡ Some f.block
    → SlotCame (Some f) lines → (s : ℕ) → f.block * area.block ≤ s → s < f.block * area.block + area.block
    → IsSourced area.image s lines
block_sourced area filled f sector lines suitable count all empty came = λ s above below.
    let block = area.block in
    let tags = length f.tags in
    let two : block ≡ 2 * tags = omega (arith, suitable.blocked, count) in
    let first = tags_place f.block block tags two in
    let i = s / 2 - f.block * tags in
    let within : i < tags = omega (arith, first, two, above, below) in
    let place : f.block * tags + i ≡ s / 2 = omega (arith, first, above) in
    inr (
      (emptiness area filled s (in_empty_block area filled sector f.block s suitable empty above below)).0,
      subst (λ (tag : ℕ). HasCome tag lines) place (came i (all_answered f.tags i all within)),
    )

-- what has come is held, with its sources
came_sourced : (side : MonitorSide) (redirect : Redirect) (done : ℕ) (came : ℕ × Held) (p : Parts) (d : Device)
    (lines : List Line) → Fits (Monitor side) p d
    → (view_held side).file.phase ≡ Busy (Good (request_of redirect)) done → p.hand.redirect ≡ Some redirect
    → HasTags p.client.block p.client.demand → done_in p.client.demand ≡ Some came
    → HasSources (Monitor side) p d lines
    → let request = request_of redirect in
    HasSources (Monitor side) (holding (Some came) (request.first + done) (end_of_read request) p) d lines
came_sourced side redirect done came p d lines fits at redirected tags is has =
    let request = request_of redirect in
    let s = request.first + done in
    let area = fits.parts.area in
    let hand : IsRedirected (view_held side) p request done =
    redirected_by (view_held side) p redirect request done at redirected fits.parts.state.2 in
    let of = came_of p.client.demand came is in
    let f = of.0 in
    let wanted : IsWanted p request s f =
    subst (λ (o : Option Fetching). IfSome o (IsWanted p request s)) of.1 hand.asked in
    let its_tags : HasTags p.area.block (Some f) =
    subst (λ (n : ℕ). HasTags n (Some f)) area.client
    (subst (λ (o : Option Fetching). HasTags p.client.block o) of.1 tags) in
    let slot : SlotCame (Some f) lines = subst (λ (o : Option Fetching). SlotCame o lines) of.1 has.demand in
    let block : (t : ℕ) → came.0 * p.area.block ≤ t → t < came.0 * p.area.block + p.area.block
    → IsSourced p.area.image t lines =
    subst (λ (came : ℕ × Held). (t : ℕ) → came.0 * p.area.block ≤ t → t < came.0 * p.area.block + p.area.block
    → IsSourced p.area.image t lines) (sym of.2)
    (block_sourced p.area p.bitmap.filled f s lines area.suitable its_tags of.3 wanted.block slot) in
    let holds = holds_came request s f came p area wanted of.2 in
    record {
      held = λ t above below.
          block t (omega (arith, holds.base, above)) (omega (arith, holds.base, holds.room, area.room, below));
      demand = tt;
      background = has.background;
      read = tt;
    }

held_came : (side : MonitorSide) (redirect : Redirect) (done : ℕ) (came : Option (ℕ × Held)) (t : State) (p q : Parts)
    (d e : Device) (told : Option Item) → Fits (Monitor side) p d
    → (view_held side).file.phase ≡ Busy (Good (request_of redirect)) done → p.hand.redirect ≡ Some redirect
    → HasTags p.client.block p.client.demand → done_in p.client.demand ≡ came
    → let request = request_of redirect in
    KeepsSources (Monitor side) (holding came (request.first + done) (end_of_read request) p) d told t q e
    → KeepsSources (Monitor side) p d told t q e
held_came side redirect done None t p q d e told fits at redirected tags is keeps = keeps
held_came side redirect done (Some came) t p q d e told fits at redirected tags is keeps = record {
  loads = λ lines memory g shows has.
      keeps.loads lines memory g (some_shows side redirect done (Some came) p d memory g fits at redirected shows)
      (came_sourced side redirect done came p d lines fits at redirected tags is has);
  keeps = λ lines told_in has.
      keeps.keeps lines told_in (came_sourced side redirect done came p d lines fits at redirected tags is has);
  spares = keeps.spares;
}

-- so the sources stay over the parts that hold what has come as over those before
pub collected_sources : (side : MonitorSide) (redirect : Redirect) (order : Request) (done : ℕ) (t : State)
    (p q : Parts) (d e : Device) (told : Option Item) → Fits (Monitor side) p d
    → (view_held side).file.phase ≡ Busy (Good order) done → p.hand.redirect ≡ Some redirect
    → HasTags p.client.block p.client.demand
    → KeepsSources (Monitor side) (collected (order.first + done) (end_of_read order) p) d told t q e
    → KeepsSources (Monitor side) p d told t q e
collected_sources side redirect order done t p q d e told fits at redirected tags keeps =
    let v = view_held side in
    let same : order ≡ request_of redirect =
    order_by p.hand.redirect v p redirect order done redirected
    (subst (λ (phase : Phase). HasInHand phase v p) at fits.parts.state.2) in
    held_came side redirect done (done_in p.client.demand) t p q d e told fits
    (at ∙ ap (λ (order : Request). Busy (Good order) done) same) redirected tags refl
    (subst (λ (order : Request). KeepsSources (Monitor side)
    (collected (order.first + done) (end_of_read order) p) d told t q e) same keeps)
