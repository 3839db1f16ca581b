-- A turn asks for no tag again.
use Rattle.std.proofs.Common.{◌≡◌, ◌+◌, ◌-◌, ◌*◌, ◌/◌, ◌≤◌, ◌<◌, ℕ, Bool, false, Option, Some, None, inl, inr, min, refl, sym, ap, ◌∙◌, subst, arith}
use Rattle.std.specs.Prelude.{IfSome}
use Rattle.std.proofs.Math.Nat.{div-mul-le_self}
use Rattle.ata_taskfile.specs.declared.Request.{Request}
use Rattle.ata_taskfile.specs.declared.Taken.{Taken}
use Rattle.ata_taskfile.specs.declared.Taken.TheVariants.{Good}
use Rattle.ata_taskfile.specs.declared.Phase.{Phase}
use Rattle.ata_taskfile.specs.declared.Phase.TheVariants.{Idle, Busy}
use Rattle.ata_taskfile.specs.Device.{Device}
use Rattle.aoe_client.specs.Asking.{Asking, done_in, tags_in}
use Rattle.aoe_client.specs.Fetching.{Fetching}
use Rattle.fill_bitmap.specs.Area.{IsBlock, block_at}
use Rattle.io_interpret.proofs.Ranges.{some_sectors}
use Rattle.mon_pool.specs.Region.{Held, Region}
use Rattle.port_lease.specs.declared.view.View.{View}
use Rattle.port_lease.specs.declared.monitor_side.MonitorSide.{MonitorSide}
use Rattle.port_lease.specs.declared.guest_side.GuestSide.{GuestSide}
use Rattle.port_lease.specs.Sides.{view_held}
use Rattle.redirect.specs.declared.redirect.Redirect.{Redirect}
use Rattle.redirect.specs.Meaning.{IsAsked}
use Rattle.redirect.specs.Next.{end_of_read, has_sector, request_of}
use Rattle.redirect.specs.Read.{sector_in}
use Rattle.streaming.specs.Client.{HasAsked, IsJustAsked}
use Rattle.monitor_state.specs.declared.state.State.{State}
use Rattle.monitor_state.specs.declared.state.State.TheVariants.{Guest, Monitor}
use Rattle.monitor_state.specs.declared.parts.Parts.{Parts}
use Rattle.monitor_state.specs.Hand.{HasInHand, IsRedirected, IsWanted}
use Rattle.monitor_state.specs.Fits.{Fits}
use Rattle.monitor_state.specs.Requests.{ComesBehind, IsBehind, IsObtained, IsPast, IsPastIn, KeepsRequests, obtained_to}
use Rattle.monitor_state.specs.State.{range_of}
use Rattle.monitor_turn.specs.Collected.{collected, holding}
use Rattle.monitor_turn.specs.Work.{IsWorkedOn}
use Rattle.monitor_turn.proofs.Asked.{with_asking}
use Rattle.monitor_turn.proofs.Collecting.{block_if, came_of}
use Rattle.monitor_turn.proofs.InHand.{none_held, order_by, redirected_by}

-- an idle view asks for nothing again, and so for nothing
none_in : (count : ℕ) (o : Option Fetching) (s t : State) (p r : Parts) → ((tag : ℕ) → IsBehind s p tag)
    → 0 < count → ComesBehind count o s p t r → o ≡ None
none_in count None s t p r behind some comes = refl
none_in count (Some f) s t p r behind some comes = absurd ((comes 0 some).0 (behind (f.block * count + 0)))

some_tags : (block : ℕ) → IsBlock block → 0 < tags_in block
some_tags block sizes = omega (arith, sizes)

-- the drive is taken, and the view is idle
pub taken_requests : (old : GuestSide) (new : MonitorSide) (t : State) (p r : Parts) (d : Device)
    → Fits (Guest old) p d → (view_held new).file.phase ≡ Idle → KeepsRequests (Monitor new) p t r
    → KeepsRequests (Guest old) p t r
taken_requests old new t p r d fits idle keeps =
    let count = tags_in p.client.block in
    let some : 0 < count =
    subst (λ n. 0 < tags_in n) (sym fits.parts.area.client) (some_tags p.area.block fits.parts.area.suitable.blocked) in
    let past : (tag : ℕ) → IsBehind (Monitor new) p tag = λ tag. subst (λ phase. IsPastIn phase p tag) (sym idle) tt in
    record {
      behind = λ tag was. keeps.behind tag (past tag);
      asked = λ none.
          subst (λ o. ComesBehind count o (Guest old) p t r)
          (sym (none_in count r.client.demand (Monitor new) t p r past some (keeps.asked none))) tt;
    }

begun_comes : (count : ℕ) (o : Option Fetching) (s t : State) (p q r : Parts) → ((tag : ℕ) → IsBehind s p tag → ⊥)
    → ComesBehind count o s q t r → ComesBehind count o s p t r
begun_comes count None s t p q r never comes = tt
begun_comes count (Some f) s t p q r never comes = λ i below. (never (f.block * count + i), (comes i below).1)

-- the first work for a read, of which nothing was asked for yet
pub begun_requests : (side : MonitorSide) (t : State) (p q r : Parts) (order : Taken)
    → (view_held side).file.phase ≡ Busy order 0 → p.hand.redirect ≡ None → q.client ≡ p.client
    → KeepsRequests (Monitor side) q t r → KeepsRequests (Monitor side) p t r
begun_requests side t p q r order at fresh client keeps =
    let never : (tag : ℕ) → IsBehind (Monitor side) p tag → ⊥ = λ tag past.
    subst (λ o. IsPast o p 0 tag) fresh (subst (λ phase. IsPastIn phase p tag) at past) in
    record {
      behind = λ tag past. absurd (never tag past);
      asked = λ none.
          begun_comes (tags_in p.client.block) r.client.demand (Monitor side) t p q r never
          (subst (λ (c : Asking). ComesBehind (tags_in c.block) r.client.demand (Monitor side) q t r) client
          (keeps.asked (ap (λ (c : Asking). c.demand) client ∙ none)));
    }

-- of a redirected read in hand nothing is asked for again of which that was obtained
to_obtained : (v : View) (p : Parts) (redirect : Redirect) (order : Taken) (done tag : ℕ)
    → v.file.phase ≡ Busy order done → p.hand.redirect ≡ Some redirect → IsPastIn v.file.phase p tag
    → IsObtained p (request_of redirect) done tag
to_obtained v p redirect order done tag at is past =
    subst (λ o. IsPast o p done tag) is (subst (λ phase. IsPastIn phase p tag) at past)

from_obtained : (v : View) (p : Parts) (redirect : Redirect) (order : Taken) (done tag : ℕ)
    → v.file.phase ≡ Busy order done → p.hand.redirect ≡ Some redirect → IsObtained p (request_of redirect) done tag
    → IsPastIn v.file.phase p tag
from_obtained v p redirect order done tag at is past =
    subst (λ phase. IsPastIn phase p tag) (sym at) (subst (λ o. IsPast o p done tag) (sym is) past)

-- the block of a tag's sectors
abbrev InPlace : ℕ → ℕ → ℕ → Type 0
InPlace b i block = i < block / 2 → 2 * (b * (block / 2) + i) / block ≡ b

tag_place : (block b i : ℕ) → IsBlock block → InPlace b i block
tag_place block b i (inl is) = subst (InPlace b i) (sym is) (λ below. omega (arith, below))
tag_place block b i (inr (inl is)) = subst (InPlace b i) (sym is) (λ below. omega (arith, below))
tag_place block b i (inr (inr (inl is))) = subst (InPlace b i) (sym is) (λ below. omega (arith, below))
tag_place block b i (inr (inr (inr is))) = subst (InPlace b i) (sym is) (λ below. omega (arith, below))

next_beyond : (s block : ℕ) → 0 < block → s < (s / block + 1) * block
next_beyond s block some =
    let split : (s / block + 1) * block ≡ s / block * block + block = omega arith in
    let below : s / block * block ≤ s = div-mul-le_self s block in omega (arith, split)

-- a block that is asked: none of its tags was past at its sector, and all are behind it
asked_comes : (s end block b i : ℕ) → IsBlock block → b ≡ s / block → i < block / 2 → s < end
    → let next = (2 * (b * (block / 2) + i) / block + 1) * block in
    (min next end ≤ s → ⊥) × (min next end ≤ (b + 1) * block)
asked_comes s end block b i sizes is below ahead =
    let place = tag_place block b i sizes below in
    let next : (2 * (b * (block / 2) + i) / block + 1) * block ≡ (b + 1) * block = ap (λ n. (n + 1) * block) place in
    let beyond : s < (b + 1) * block =
    subst (λ n. s < (n + 1) * block) (sym is) (next_beyond s block (some_sectors block sizes)) in
    (λ past. omega (arith, past, next, beyond, ahead), omega (arith, next))

just_asked : (count b : ℕ) (o : Option Fetching) → IsJustAsked count o → IfSome o (λ f. f.block ≡ b)
    → (f : Fetching) × (o ≡ Some f) × (f.block ≡ b)
just_asked count b None is block = absurd is
just_asked count b (Some f) is block = (f, refl, block)

-- a block is asked
pub asked_requests : (side : MonitorSide) (redirect : Redirect) (done b : ℕ) (waiting : Bool) (pool : Region)
    (client : Asking) (p : Parts) (d : Device) → Fits (Monitor side) p d
    → IsWorkedOn (view_held side) p redirect done
    → IsAsked (request_of redirect) (view_held side) p.area p.bitmap.filled (range_of p.held) waiting b
    → HasAsked p.client client → IfSome client.demand (λ f. f.block ≡ b)
    → KeepsRequests (Monitor side) p (Monitor side) (with_asking pool client p)
asked_requests side redirect done b waiting pool client p d fits works asks asked block =
    let v = view_held side in
    let q = with_asking pool client p in
    let request = request_of redirect in
    let s = request.first + done in
    let end = end_of_read request in
    let area = fits.parts.area in
    let sizes = area.suitable.blocked in
    let r : IsRedirected v p request done =
    redirected_by v p redirect request done works.phase works.redirect_is fits.parts.state.2 in
    let below : done < request.count = grind (arith, asks.due.below, works.phase) in
    let lacks : has_sector (range_of p.held) s ≡ false =
    ap (λ (phase : Phase). has_sector (range_of p.held) (sector_in phase)) (sym works.phase) ∙ asks.unheld in
    let unheld = none_held p request s p.held r.held lacks in
    let is : b ≡ block_at p.area s = asks.block ∙ ap (λ (phase : Phase). block_at p.area (sector_in phase)) works.phase in
    let new = just_asked (tags_in p.client.block) b client.demand asked.asked block in
    let from : obtained_to p.area.block p.client.demand p.held s ≡ s =
    ap (λ o. obtained_to p.area.block o p.held s) asked.free ∙ ap (λ o. obtained_to p.area.block None o s) unheld in
    let to : obtained_to p.area.block client.demand p.held s ≡ (b + 1) * p.area.block =
    ap (λ o. obtained_to p.area.block o p.held s) new.1 ∙ ap (λ n. (n + 1) * p.area.block) new.2 in
    let beyond : s < (b + 1) * p.area.block =
    subst (λ n. s < (n + 1) * p.area.block) (sym is)
    (next_beyond s p.area.block (some_sectors p.area.block sizes)) in
    record {
      behind = λ tag past.
          let before = to_obtained v p redirect (Good request) done tag works.phase works.redirect_is past in
          from_obtained v q redirect (Good request) done tag works.phase works.redirect_is
          (omega (arith, before, from, to, beyond));
      asked = λ none.
          subst (λ o. ComesBehind (tags_in p.client.block) o (Monitor side) p (Monitor side) q) (sym new.1)
          (λ i few.
          let tag = new.0.block * tags_in p.client.block + i in
          let less : i < p.area.block / 2 = subst (λ n. i < tags_in n) area.client few in
          let at : tag ≡ b * (p.area.block / 2) + i =
          ap (λ n. n * tags_in p.client.block + i) new.2 ∙ ap (λ n. b * tags_in n + i) area.client in
          let comes = asked_comes s end p.area.block b i sizes is less (omega (arith, below)) in (
            λ past.
                let before = to_obtained v p redirect (Good request) done tag works.phase works.redirect_is past in
                let there : IsObtained p request done (b * (p.area.block / 2) + i) =
                subst (IsObtained p request done) at before in
                comes.0 (omega (arith, there, from)),
            subst (λ tag. IsPastIn v.file.phase q tag) (sym at)
                (from_obtained v q redirect (Good request) done (b * (p.area.block / 2) + i) works.phase works.redirect_is
                (omega (arith, comes.1, to))),
          ));
    }

-- what was asked has come, and is held
held_past : (n s end block b : ℕ) → IsBlock block → b ≡ s / block → s < end → min n end ≤ (b + 1) * block
    → min n end ≤ s + (min ((s / block + 1) * block) end - s)
held_past n s end block b sizes is ahead past =
    let same : (b + 1) * block ≡ (s / block + 1) * block = ap (λ n. (n + 1) * block) is in
    omega (arith, past, same, next_beyond s block (some_sectors block sizes), ahead)

came_requests : (side : MonitorSide) (redirect : Redirect) (done : ℕ) (came : Option (ℕ × Held)) (t : State)
    (p q : Parts) (d : Device) → Fits (Monitor side) p d
    → (view_held side).file.phase ≡ Busy (Good (request_of redirect)) done → p.hand.redirect ≡ Some redirect
    → done_in p.client.demand ≡ came
    → let request = request_of redirect in
    KeepsRequests (Monitor side) (holding came (request.first + done) (end_of_read request) p) t q
    → KeepsRequests (Monitor side) p t q
came_requests side redirect done None t p q d fits at redirected is keeps = keeps
came_requests side redirect done (Some came) t p q d fits at redirected is keeps =
    let v = view_held side in
    let request = request_of redirect in
    let s = request.first + done in
    let end = end_of_read request in
    let area = fits.parts.area in
    let sizes = area.suitable.blocked in
    let hand : IsRedirected v p request done =
    redirected_by v p redirect request done at redirected fits.parts.state.2 in
    let of = came_of p.client.demand came is in
    let f = of.0 in
    let wanted : IsWanted p request s f =
    subst (λ (o : Option Fetching). IfSome o (IsWanted p request s)) of.1 hand.asked in
    let block = (block_if p.area p.bitmap.filled s f.block wanted.block).0 in
    let from : obtained_to p.area.block p.client.demand p.held s ≡ (f.block + 1) * p.area.block =
    ap (λ o. obtained_to p.area.block o p.held s) of.1 in
    record {
      behind = λ tag past.
          let before = to_obtained v p redirect (Good request) done tag at redirected past in
          keeps.behind tag
          (from_obtained v (holding (Some came) s end p) redirect (Good request) done tag at redirected
          (held_past ((2 * tag / p.area.block + 1) * p.area.block) s end p.area.block f.block sizes block wanted.within
          (omega (arith, before, from))));
      asked = λ none. absurd (let no = sym none ∙ of.1 in cc);
    }

pub collected_requests : (side : MonitorSide) (redirect : Redirect) (order : Request) (done : ℕ) (t : State)
    (p q : Parts) (d : Device) → Fits (Monitor side) p d → (view_held side).file.phase ≡ Busy (Good order) done
    → p.hand.redirect ≡ Some redirect
    → KeepsRequests (Monitor side) (collected (order.first + done) (end_of_read order) p) t q
    → KeepsRequests (Monitor side) p t q
collected_requests side redirect order done t p q d fits at redirected keeps =
    let v = view_held side in
    let same : order ≡ request_of redirect =
    order_by p.hand.redirect v p redirect order done redirected
    (subst (λ (phase : Phase). HasInHand phase v p) at fits.parts.state.2) in
    came_requests side redirect done (done_in p.client.demand) t p q d fits
    (at ∙ ap (λ (order : Request). Busy (Good order) done) same) redirected refl
    (subst (λ (order : Request). KeepsRequests (Monitor side) (collected (order.first + done) (end_of_read order) p) t q)
    same keeps)
