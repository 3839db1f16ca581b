-- What is in hand of a redirected read.
use Rattle.std.proofs.Common.{◌≡◌, ℕ, false, Option, Some, None, refl, sym, ap, ◌∙◌, subst, arith}
use Rattle.std.specs.Prelude.{IfSome}
use Rattle.ata_taskfile.specs.declared.Request.{Request}
use Rattle.ata_taskfile.specs.declared.Taken.TheVariants.{Good}
use Rattle.ata_taskfile.specs.declared.Phase.{Phase}
use Rattle.ata_taskfile.specs.declared.Phase.TheVariants.{Busy}
use Rattle.aoe_client.specs.Fetching.{Fetching}
use Rattle.fill_bitmap.specs.Disk.{is_empty_at}
use Rattle.plain_drive.specs.Alike.{block_matters}
use Rattle.port_lease.specs.declared.view.View.{View}
use Rattle.redirect.specs.declared.redirect.Redirect.{Redirect}
use Rattle.redirect.specs.Next.{has_sector, request_of}
use Rattle.redirect.specs.Read.{IsRead}
use Rattle.monitor_state.specs.declared.held.HeldPiece.{HeldPiece}
use Rattle.monitor_state.specs.declared.parts.Parts.{Parts}
use Rattle.monitor_state.specs.State.{range_of}
use Rattle.monitor_state.specs.Hand.{HasInHand, HoldsSector, IsRedirected, IsWanted, WorksOn}

works_redirected : (o : Option Redirect) (v : View) (p : Parts) (redirect : Redirect) (request : Request) (done : ℕ)
    → o ≡ Some redirect → WorksOn o v p (Good request) done → IsRedirected v p (request_of redirect) done
works_redirected None v p redirect request done is works = absurd cc
works_redirected (Some other) v p redirect request done is works =
    let same : other ≡ redirect = cc in
    subst (λ (r : Redirect). IsRedirected v p (request_of r) done) same works.1

-- the order in hand is the read that is redirected
pub order_by : (o : Option Redirect) (v : View) (p : Parts) (redirect : Redirect) (request : Request) (done : ℕ)
    → o ≡ Some redirect → WorksOn o v p (Good request) done → request ≡ request_of redirect
order_by None v p redirect request done is works = absurd cc
order_by (Some other) v p redirect request done is works =
    let same : other ≡ redirect = cc in
    let order : Good request ≡ Good (request_of other) = works.0 in
    let named : request ≡ request_of other = cc in
    named ∙ ap request_of same

-- a redirected read in hand, by its redirect
pub redirected_by : (v : View) (p : Parts) (redirect : Redirect) (request : Request) (done : ℕ)
    → v.file.phase ≡ Busy (Good request) done → p.hand.redirect ≡ Some redirect → HasInHand v.file.phase v p
    → IsRedirected v p (request_of redirect) done
redirected_by v p redirect request done at is has =
    works_redirected p.hand.redirect v p redirect request done is (subst (λ phase. HasInHand phase v p) at has)

-- and back
pub in_hand_by : (v : View) (p : Parts) (redirect : Redirect) (done : ℕ)
    → v.file.phase ≡ Busy (Good (request_of redirect)) done → p.hand.redirect ≡ Some redirect
    → IsRedirected v p (request_of redirect) done → HasInHand v.file.phase v p
in_hand_by v p redirect done at is redirected =
    subst (λ phase. HasInHand phase v p) (sym at)
    (subst (λ o. WorksOn o v p (Good (request_of redirect)) done) (sym is) (refl, redirected))

-- no block matters of a read that is at work
pub read_unmattered : (phase : Phase) (request : Request) (done : ℕ) → phase ≡ Busy (Good request) done
    → IsRead request → block_matters phase ≡ false
read_unmattered phase request done at read = grind (arith, at, read.inward)

-- a held piece has the sector that comes next, so where it hasn't none is held
pub none_held : (p : Parts) (request : Request) (sector : ℕ) (piece : Option HeldPiece)
    → IfSome piece (HoldsSector p request sector) → has_sector (range_of piece) sector ≡ false → piece ≡ None
none_held p request sector None holds lacks = refl
none_held p request sector (Some held) holds lacks = absurd (grind (arith, holds.from, holds.ahead, lacks))

-- a block is asked for an empty sector alone
pub none_asked : (p : Parts) (request : Request) (sector : ℕ) (demand : Option Fetching)
    → IfSome demand (IsWanted p request sector) → is_empty_at p.area p.bitmap.filled sector ≡ false → demand ≡ None
none_asked p request sector None wanted filled = refl
none_asked p request sector (Some f) wanted filled = absurd (grind (arith, wanted.block, filled))

-- where something is held nothing is asked
pub held_unasked : (p : Parts) (request : Request) (sector : ℕ) (demand : Option Fetching) (held : HeldPiece)
    → IfSome demand (IsWanted p request sector) → p.held ≡ Some held → demand ≡ None
held_unasked p request sector None held wanted is = refl
held_unasked p request sector (Some f) held wanted is = absurd (let no = wanted.unheld in cc)
