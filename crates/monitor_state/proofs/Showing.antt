-- There is a plain drive that the guest sees, with the sectors that it gets.
use Rattle.std.proofs.Common.{◌≡◌, ◌⊎◌, ℕ, ◌+◌, ◌*◌, ◌/◌, ◌%◌, ◌<◌, ◌≤◌, Bool, true, false, if◌then◌else◌, List, [], map, Option, Some, None, inl, inr, refl, sym, ap, ◌∙◌, subst, arith}
use Rattle.std.specs.Prelude.{IfSome, slice_index_or}
use Rattle.std.proofs.lemmas.Bool.{true≢false}
use Rattle.std.proofs.lemmas.Bool.Decides.{nat_tests}
use Rattle.std.specs.List.{list_all, range_with_len}
use Rattle.std.proofs.lemmas.List.FromFn.{get_or-map-range_with_len}
use Rattle.ata_taskfile.specs.declared.Request.{Request}
use Rattle.ata_taskfile.specs.declared.Taken.{Taken}
use Rattle.ata_taskfile.specs.declared.Phase.{Phase}
use Rattle.ata_taskfile.specs.declared.Phase.TheVariants.{Reset, Idle, Busy, Ready}
use Rattle.ata_taskfile.specs.Device.{Cell, Device}
use Rattle.fill_bitmap.specs.declared.area.Area.{Area}
use Rattle.fill_bitmap.specs.Area.{IsBlock, IsSuitable}
use Rattle.mon_pool.specs.Region.{Held, Region, leased_bytes}
use Rattle.aoe_client.specs.Asking.{done_in}
use Rattle.aoe_client.specs.Fetching.{Fetching, is_answered}
use Rattle.plain_drive.specs.Plain.{Plain, current, settled}
use Rattle.port_lease.specs.declared.view.View.{View}
use Rattle.port_lease.specs.Sides.{view_held}
use Rattle.redirect.specs.declared.redirect.Redirect.{Redirect}
use Rattle.redirect.specs.Next.{request_of}
use Rattle.redirect.specs.Piece.{piece_bytes}
use Rattle.redirect.specs.Scatter.{HoldsPiece}
use Rattle.io_interpret.specs.Blocks.{empty_block}
use Rattle.monitor_state.specs.declared.state.State.{State}
use Rattle.monitor_state.specs.declared.state.State.TheVariants.{Guest, Monitor, Running, Raising, Moving}
use Rattle.monitor_state.specs.declared.held.HeldPiece.{HeldPiece}
use Rattle.monitor_state.specs.declared.parts.Parts.{Parts}
use Rattle.monitor_state.specs.State.{end_of_piece, is_guests}
use Rattle.monitor_state.specs.Hand.{HasInHand, IsWanted, Serves, WorksOn}
use Rattle.monitor_state.specs.Fits.{Fits, FitsState}
use Rattle.monitor_state.specs.Seen.{Shows, block_seen, bus_seen, file_seen, refuses}
use Rattle.monitor_state.specs.Sectors.{IsBlockOf, IsPieceOf, SectorsAgree}
use Rattle.monitor_state.proofs.HeldPieces.{piece_on_disk}
use Rattle.monitor_state.proofs.Served.{if_none}

-- a piece that is held, and a block that was asked, never stand both
abbrev OneAtMost : Parts → Type 0
OneAtMost p = (p.held ≡ None) ⊎ (p.client.demand ≡ None)

unheld_or_unasked : (p : Parts) (request : Request) (sector : ℕ) (asked : Option Fetching) → p.client.demand ≡ asked
    → IfSome asked (IsWanted p request sector) → OneAtMost p
unheld_or_unasked p request sector None is wanted = inr is
unheld_or_unasked p request sector (Some fetching) is wanted = inl wanted.unheld

one_worked : (redirect : Option Redirect) (v : View) (p : Parts) (order : Taken) (done : ℕ)
    → WorksOn redirect v p order done → OneAtMost p
one_worked None v p order done works = inl works.0.held
one_worked (Some redirect) v p order done works =
    unheld_or_unasked p (request_of redirect) ((request_of redirect).first + done) p.client.demand refl works.1.asked

one_served : (redirect : Option Redirect) (p : Parts) (order : Taken) (done : ℕ) → Serves redirect p order done
    → OneAtMost p
one_served None p order done serves = absurd serves
one_served (Some redirect) p order done serves = inr serves.1.unasked

one_in_hand : (phase : Phase) (v : View) (p : Parts) → HasInHand phase v p → OneAtMost p
one_in_hand Reset v p has = inl has.0.held
one_in_hand Idle v p has = inl has.held
one_in_hand (Busy order done) v p has = one_worked p.hand.redirect v p order done has
one_in_hand (Ready order done left) v p has = one_served p.hand.redirect p order done has

one_at_most : (s : State) (p : Parts) → FitsState s p → OneAtMost p
one_at_most (Guest side) p fits = inl fits.0.held
one_at_most (Monitor side) p fits = one_in_hand (view_held side).file.phase (view_held side) p fits.2
one_at_most (Running side own why) p fits = one_in_hand (view_held side).file.phase (view_held side) p fits.2
one_at_most (Raising side dummy planned) p fits = one_in_hand (view_held side).file.phase (view_held side) p fits.2
one_at_most Moving p fits = absurd fits

-- so many cells, each with a sector's bytes of a piece
abbrev cells_with : ℕ → List ℕ → ℕ → List Cell
cells_with n bytes base = map (λ s. settled (piece_bytes bytes base s)) (range_with_len 0 n)

cells_hold : (n : ℕ) (bytes : List ℕ) (base from end : ℕ) (g : Device) → g.cells ≡ cells_with n bytes base → end ≤ n
    → HoldsPiece bytes base from end g
cells_hold n bytes base from end g is within = λ s above before.
    ap (λ cells. current (slice_index_or cells s (settled []))) is
    ∙ ap current (get_or-map-range_with_len (λ s. settled (piece_bytes bytes base s)) 0 n s s (settled [])
    (omega (arith, before, within)) (omega arith))

-- the cells of a drive with so many sectors, whose sectors are those of a piece or of a block
abbrev cells_got : ℕ → ℕ → Region → Option HeldPiece → Option (ℕ × Held) → List Cell
cells_got n block pool None None = []
cells_got n block pool None (Some came) = cells_with n (leased_bytes came.1 pool) (came.0 * block)
cells_got n block pool (Some held) came = cells_with n (leased_bytes held.lease pool) held.base

piece_got : (n block : ℕ) (pool : Region) (held : Option HeldPiece) (came : Option (ℕ × Held)) (g : Device)
    → g.cells ≡ cells_got n block pool held came → IfSome held (λ held. end_of_piece held ≤ n) → IsPieceOf g pool held
piece_got n block pool None came g is within = tt
piece_got n block pool (Some held) came g is within =
    cells_hold n (leased_bytes held.lease pool) held.base held.first (end_of_piece held) g is within

block_got : (n block : ℕ) (pool : Region) (came : Option (ℕ × Held)) (g : Device)
    → g.cells ≡ cells_got n block pool None came → IfSome came (λ came. came.0 * block + block ≤ n)
    → IsBlockOf g pool block came
block_got n block pool None g is within = tt
block_got n block pool (Some came) g is within =
    cells_hold n (leased_bytes came.1 pool) (came.0 * block) (came.0 * block) (came.0 * block + block) g is within

-- a block of the image ends with it at the latest
block_ends : (block image s : ℕ) → IsBlock block → image % block ≡ 0 → s < image → s / block * block + block ≤ image
block_ends block image s is whole inside = grind (arith, whole, inside)

empty_inside : (area : Area) (filled : List Bool) (s b : ℕ) → empty_block area filled s ≡ Some b
    → (s < area.image) × (b ≡ s / area.block)
empty_inside area filled s b is = grind (arith, nat_tests)

image_on_disk : (area : Area) → IsSuitable area → area.image ≤ area.sectors
image_on_disk area suitable = grind arith

empty_ends : (area : Area) (filled : List Bool) (s b : ℕ) → IsSuitable area → empty_block area filled s ≡ Some b
    → b * area.block + area.block ≤ area.sectors
empty_ends area filled s b suitable is =
    let inside = empty_inside area filled s b is in
    let ends = block_ends area.block area.image s suitable.blocked suitable.whole inside.0 in
    let on_disk = image_on_disk area suitable in
    subst (λ b. b * area.block + area.block ≤ area.sectors) (sym inside.1) (omega (arith, ends, on_disk))

-- the block that was asked lies on the disk
abbrev AskedEnds : Parts → Fetching → Type 0
AskedEnds p fetching = fetching.block * p.area.block + p.area.block ≤ p.area.sectors

asked_ends : (p : Parts) (request : Request) (sector : ℕ) (asked : Option Fetching) → IsSuitable p.area
    → IfSome asked (IsWanted p request sector) → IfSome asked (AskedEnds p)
asked_ends p request sector None suitable wanted = tt
asked_ends p request sector (Some fetching) suitable wanted =
    empty_ends p.area p.bitmap.filled sector fetching.block suitable wanted.block

worked_ends : (redirect : Option Redirect) (v : View) (p : Parts) (order : Taken) (done : ℕ) → IsSuitable p.area
    → WorksOn redirect v p order done → IfSome p.client.demand (AskedEnds p)
worked_ends None v p order done suitable works = if_none (AskedEnds p) p.client.demand works.0.asked
worked_ends (Some redirect) v p order done suitable works =
    asked_ends p (request_of redirect) ((request_of redirect).first + done) p.client.demand suitable works.1.asked

served_ends : (redirect : Option Redirect) (p : Parts) (order : Taken) (done : ℕ) → Serves redirect p order done
    → IfSome p.client.demand (AskedEnds p)
served_ends None p order done serves = absurd serves
served_ends (Some redirect) p order done serves = if_none (AskedEnds p) p.client.demand serves.1.unasked

in_hand_ends : (phase : Phase) (v : View) (p : Parts) → IsSuitable p.area → HasInHand phase v p
    → IfSome p.client.demand (AskedEnds p)
in_hand_ends Reset v p suitable has = if_none (AskedEnds p) p.client.demand has.0.asked
in_hand_ends Idle v p suitable has = if_none (AskedEnds p) p.client.demand has.asked
in_hand_ends (Busy order done) v p suitable has = worked_ends p.hand.redirect v p order done suitable has
in_hand_ends (Ready order done left) v p suitable has = served_ends p.hand.redirect p order done has

demand_ends : (s : State) (p : Parts) → IsSuitable p.area → FitsState s p → IfSome p.client.demand (AskedEnds p)
demand_ends (Guest side) p suitable fits = if_none (AskedEnds p) p.client.demand fits.0.asked
demand_ends (Monitor side) p suitable fits =
    in_hand_ends (view_held side).file.phase (view_held side) p suitable fits.2
demand_ends (Running side own why) p suitable fits =
    in_hand_ends (view_held side).file.phase (view_held side) p suitable fits.2
demand_ends (Raising side dummy planned) p suitable fits =
    in_hand_ends (view_held side).file.phase (view_held side) p suitable fits.2
demand_ends Moving p suitable fits = absurd fits

came_ends : (all : Bool) (fetching : Fetching) (block n : ℕ) → fetching.block * block + block ≤ n
    → IfSome (if all then Some (fetching.block, fetching.lease) else None)
    (λ (came : ℕ × Held). came.0 * block + block ≤ n)
came_ends true fetching block n ends = ends
came_ends false fetching block n ends = tt

done_ends : (asked : Option Fetching) (block n : ℕ) → IfSome asked (λ f. f.block * block + block ≤ n)
    → IfSome (done_in asked) (λ came. came.0 * block + block ≤ n)
done_ends None block n ends = tt
done_ends (Some fetching) block n ends = came_ends (list_all is_answered fetching.tags) fetching block n ends

-- the cells of the drive that the guest sees: its own drive's, or those of what it gets
abbrev cells_seen : State → Parts → Device → List Cell
cells_seen (Guest side) p d = d.cells
cells_seen (Monitor side) p d = cells_got p.area.sectors p.client.block p.pool p.held (done_in p.client.demand)
cells_seen (Running side own why) p d =
    cells_got p.area.sectors p.client.block p.pool p.held (done_in p.client.demand)
cells_seen (Raising side dummy planned) p d =
    cells_got p.area.sectors p.client.block p.pool p.held (done_in p.client.demand)
cells_seen Moving p d = d.cells

-- a drive that the guest sees
abbrev drive_seen : State → Parts → Device → List ℕ → Plain
drive_seen s p d memory = record {
  device = record {
    file = file_seen s d;
    bus = bus_seen s d;
    block = block_seen s p d;
    cells = cells_seen s p d;
    sectors = p.area.sectors;
  };
  memory = memory;
}

block_of_one : (n block : ℕ) (pool : Region) (held : Option HeldPiece) (asked : Option Fetching) (g : Device)
    → g.cells ≡ cells_got n block pool held (done_in asked) → (held ≡ None) ⊎ (asked ≡ None)
    → IfSome asked (λ f. f.block * block + block ≤ n) → IsBlockOf g pool block (done_in asked)
block_of_one n block pool held asked g is (inl none) ends =
    block_got n block pool (done_in asked) g (is ∙ ap (λ held. cells_got n block pool held (done_in asked)) none)
    (done_ends asked block n ends)
block_of_one n block pool held asked g is (inr none) ends =
    subst (λ asked. IsBlockOf g pool block (done_in asked)) (sym none) tt

got_agrees : (s : State) (p : Parts) (d : Device) (q : Plain) → Fits s p d → is_guests s ≡ false
    → q.device.cells ≡ cells_got p.area.sectors p.client.block p.pool p.held (done_in p.client.demand)
    → SectorsAgree s p d q
got_agrees s p d q fits apart is = record {
  drives = λ guests. absurd (true≢false (sym guests ∙ apart));
  held = piece_got p.area.sectors p.client.block p.pool p.held (done_in p.client.demand) q.device is
      (piece_on_disk s p fits.parts);
  came = block_of_one p.area.sectors p.client.block p.pool p.held p.client.demand q.device is
      (one_at_most s p fits.parts.state)
      (subst (λ block. IfSome p.client.demand (λ f. f.block * block + block ≤ p.area.sectors))
      (sym fits.parts.area.client) (demand_ends s p fits.parts.area.suitable fits.parts.state));
}

seen_agrees : (s : State) (p : Parts) (d : Device) (memory : List ℕ) → Fits s p d
    → SectorsAgree s p d (drive_seen s p d memory)
seen_agrees (Guest side) p d memory fits =
    let g = (drive_seen (Guest side) p d memory).device in record {
      drives = λ guests t read. refl;
      held = subst (IsPieceOf g p.pool) (sym fits.parts.state.0.held) tt;
      came = subst (λ asked. IsBlockOf g p.pool p.client.block (done_in asked)) (sym fits.parts.state.0.asked) tt;
    }
seen_agrees (Monitor side) p d memory fits =
    got_agrees (Monitor side) p d (drive_seen (Monitor side) p d memory) fits refl refl
seen_agrees (Running side own why) p d memory fits =
    got_agrees (Running side own why) p d (drive_seen (Running side own why) p d memory) fits refl refl
seen_agrees (Raising side dummy planned) p d memory fits =
    got_agrees (Raising side dummy planned) p d (drive_seen (Raising side dummy planned) p d memory) fits refl refl
seen_agrees Moving p d memory fits = absurd fits.device

-- so there is one, with the sectors that it gets
pub one_is_seen : (s : State) (p : Parts) (d : Device) (memory : List ℕ) → Fits s p d → refuses s p ≡ false
    → (q : Plain) × Shows s p d memory q × SectorsAgree s p d q
one_is_seen s p d memory fits served = (
  drive_seen s p d memory,
  record {
    file = refl;
    bus = refl;
    block = λ matters. refl;
    sectors = refl;
    memory_is = refl;
    served = served;
  },
  seen_agrees s p d memory fits,
)
