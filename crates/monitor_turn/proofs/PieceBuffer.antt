-- What the buffers hold while an own command reads a piece, and once it has.
use Rattle.std.proofs.Common.{◌≡◌, ℕ, ◌+◌, ◌-◌, ◌*◌, ◌<◌, ◌≤◌, ◌++◌, ◌∷◌, ◌⊎◌, true, List, length, take, drop, Option, Some, None, sym, ap, ◌∙◌, subst, arith}
use Rattle.std.specs.Prelude.{IsSomeAnd}
use Rattle.std.proofs.lemmas.List.{length-take-le, length-append, length-drop, take-append-le, drop-append-le, take_at}
use Rattle.ata_taskfile.specs.declared.Taken.{Taken}
use Rattle.ata_taskfile.specs.declared.Phase.{Phase}
use Rattle.ata_taskfile.specs.declared.Phase.TheVariants.{Reset, Idle, Busy, Ready}
use Rattle.ata_taskfile.specs.Device.{Cell, Device}
use Rattle.ata_taskfile.specs.Lawful.{position_of}
use Rattle.ata_taskfile.specs.Sectors.{HoldsSectors, IsSector}
use Rattle.plain_drive.specs.Cells.{value_at}
use Rattle.plain_drive.proofs.EndsOfEnds.{ends-forget}
use Rattle.plain_drive.proofs.SectorValues.{current_held}
use Rattle.fill_bitmap.specs.Disk.{sector_at}
use Rattle.mon_pool.specs.Region.{HasWholeBuffers, Held, Region, leased_bytes, with_bytes}
use Rattle.mon_pool.proofs.Parts.{length_bytes, own_bytes}
use Rattle.aoe_client.specs.Asking.{Asking}
use Rattle.aoe_client.specs.Buffers.{BothHold, Holds}
use Rattle.aoe_client.specs.Fetching.{Fetching}
use Rattle.fill_bitmap.specs.Area.{reserved_of}
use Rattle.overlay.proofs.Values.{of_drive}
use Rattle.own_pio.specs.declared.job.OwnJob.TheVariants as job
use Rattle.own_pio.specs.declared.own.Own.{Own}
use Rattle.own_pio.specs.declared.Poll.{Poll}
use Rattle.own_pio.specs.declared.Poll.TheVariants.{Waiting, Moved, Done}
use Rattle.own_pio.specs.Kept.{IsDoneSoFar, IsJobDone, Leaves}
use Rattle.own_pio.specs.Own.{done_of, job_of, polls_left}
use Rattle.own_pio.specs.Poll.{done_by, left_after}
use Rattle.own_pio.proofs.SectorBySector.{read_each}
use Rattle.port_lease.specs.declared.view.View.{View}
use Rattle.port_lease.specs.declared.monitor_side.MonitorSide.{MonitorSide}
use Rattle.port_lease.specs.Sides.{view_held}
use Rattle.redirect.specs.declared.redirect.Redirect.{Redirect}
use Rattle.redirect.specs.Meaning.{IsReadable}
use Rattle.redirect.specs.Next.{request_of}
use Rattle.monitor_state.specs.declared.state.State.{State}
use Rattle.monitor_state.specs.declared.state.State.TheVariants.{Monitor, Running}
use Rattle.monitor_state.specs.declared.state.Purpose.TheVariants as purpose
use Rattle.monitor_state.specs.declared.held.HeldPiece.{HeldPiece}
use Rattle.monitor_state.specs.declared.parts.Parts.{Parts}
use Rattle.monitor_state.specs.State.{is_opened, range_of}
use Rattle.monitor_state.specs.Leases.{AreLeased, leases_of_parts}
use Rattle.monitor_state.specs.Buffered.{HasBuffers, KeepsBuffers, PieceRead, ReadsSoFar, image_part}
use Rattle.monitor_state.specs.Fits.{ComesNext, Fits, ReadsIn, ReadsPiece}
use Rattle.monitor_state.specs.Hand.{HasInHand, WorksOn}
use Rattle.monitor_state.specs.Overlaid.{IsOverlaid}
use Rattle.monitor_state.specs.Sectors.{IsPieceOf}
use Rattle.monitor_turn.specs.Work.{IsWorkedOn}
use Rattle.monitor_turn.proofs.OpeningEnds.{still_so_far}
use Rattle.monitor_turn.proofs.Piece.{piece_read, reads_in, with_piece}
use Rattle.monitor_turn.proofs.Read.{piece_due, with_pool}

slot_unasked : (source : ℕ → List ℕ) (f : Option Fetching) (pool : Region) → f ≡ None → Holds source f pool
slot_unasked source None pool none = tt
slot_unasked source (Some f) pool none = absurd cc

-- where no block is asked the client's buffers hold what they are to
both_unasked : (source : ℕ → List ℕ) (c : Asking) (pool : Region) → c.demand ≡ None → c.background ≡ None
    → BothHold source c pool
both_unasked source c pool demand background =
    (slot_unasked source c.demand pool demand, slot_unasked source c.background pool background)

piece_unheld : (g : Device) (pool : Region) (held : Option HeldPiece) → held ≡ None → IsPieceOf g pool held
piece_unheld g pool None none = tt
piece_unheld g pool (Some held) none = absurd cc

-- with nothing held and nothing asked the own command's buffer alone matters
own_buffer_alone : (image : List (List ℕ)) (s : State) (p : Parts) (d g : Device) → p.held ≡ None
    → p.client.demand ≡ None → p.client.background ≡ None
    → ((s : ℕ) → s < length image → length (sector_at s image) ≡ 512) → ReadsSoFar s p d → HasBuffers image s p d g
own_buffer_alone image s p d g unheld unasked background whole reads = record {
  whole = whole;
  held = piece_unheld g p.pool p.held unheld;
  asked = both_unasked (image_part image) p.client p.pool unasked background;
  read = reads;
}

-- a read that has begun has put nothing into its buffer yet
pub begun_buffers : (side after : MonitorSide) (own : Own) (lease : Held) (first count : ℕ) (pool : Region)
    (redirect : Redirect) (p : Parts) (d e : Device) → Fits (Monitor side) p d → is_opened p ≡ true
    → IsWorkedOn (view_held side) p redirect (position_of (view_held side).file.phase)
    → IsReadable (request_of redirect) (view_held side) p.area p.bitmap.filled (range_of p.held) first count
    → pool.room ≡ p.pool.room → HasWholeBuffers pool
    → (AreLeased (leases_of_parts p) p → AreLeased (lease ∷ leases_of_parts p) (with_pool pool p))
    → job_of own ≡ job.Read first count → polls_left own ≡ count
    → ((bytes : List ℕ) → IsDoneSoFar (job.Read first count) 0 bytes bytes d.cells e)
    → KeepsBuffers (Monitor side) p d (Running after own (purpose.Piece first count lease)) (with_pool pool p) e
begun_buffers side after own lease first count pool redirect p d e fits opened works reads room whole leases job_is left
    begun k g sectors has =
    let due = piece_due side own first count redirect p d fits opened works reads job_is in
    let start = take (512 * count) (leased_bytes lease pool) in
    let long = length_bytes pool lease whole (leases fits.parts.leased).held.0 in
    let wide = due.room in
    let none : done_of own ≡ 0 = grind (arith, job_is, left) in
    own_buffer_alone k.image (Running after own (purpose.Piece first count lease)) (with_pool pool p) e g due.unheld
    due.unasked fits.parts.area.background has.whole (record {
      origin = d.cells;
      start = start;
      whole = length-take-le (512 * count) (leased_bytes lease pool) (omega (arith, long, wide, room));
      done = subst (λ n. IsDoneSoFar (job_of own) n start start d.cells e) (sym none)
          (subst (λ j. IsDoneSoFar j 0 start start d.cells e) (sym job_is) (begun start));
    })

-- a piece ends below the reserved sectors
piece_below : (o : Option Redirect) (v : View) (p : Parts) (order : Taken) (done first count : ℕ)
    → IsSomeAnd o (ComesNext first count done) → WorksOn o v p order done → first + count ≤ reserved_of p.area
piece_below None v p order done first count next works = absurd next
piece_below (Some redirect) v p order done first count next works =
    grind (arith, next.within, works.1.unreserved)

below_reserved : (phase : Phase) (own : Own) (first count : ℕ) (v : View) (p : Parts)
    → ReadsIn phase own first count v p → HasInHand phase v p → first + count ≤ reserved_of p.area
below_reserved Reset own first count v p reads has = absurd reads
below_reserved Idle own first count v p reads has = absurd reads
below_reserved (Busy order done) own first count v p reads has =
    piece_below p.hand.redirect v p order done first count reads.redirected has
below_reserved (Ready order done left) own first count v p reads has = absurd reads

-- a sector among bytes stands at its place where others follow
sector_before : (i count : ℕ) (bytes rest : List ℕ) → i < count → length bytes ≡ 512 * count
    → take 512 (drop (512 * i) (bytes ++ rest)) ≡ take 512 (drop (512 * i) bytes)
sector_before i count bytes rest below sized =
    ap (take 512) (drop-append-le (512 * i) bytes rest (omega (arith, sized, below)))
    ∙ take-append-le 512 (drop (512 * i) bytes) rest (omega (arith, length-drop (512 * i) bytes, sized, below))

-- each sector of a read that is done has the drive's value
sector_read : (first count i : ℕ) (bytes start : List ℕ) (origin : List Cell) (e : Device) → i < count
    → length start ≡ 512 * count → HoldsSectors e → first + i < length e.cells
    → IsJobDone (job.Read first count) bytes start origin e
    → value_at (first + i) e.cells ≡ take 512 (drop (512 * i) bytes)
sector_read first count i bytes start origin e below whole holds inside done =
    let newest = (ends-forget origin e.cells done.cells).newest (first + i) in
    let is : IsSector (value_at (first + i) origin) =
    subst IsSector newest (current_held (first + i) e holds inside) in
    newest ∙ sym (read_each first count i origin start below whole is)
    ∙ ap (λ xs. take 512 (drop (512 * i) xs)) (sym done.bytes_are)

-- a read that failed leaves nothing held, and nothing asked
pub failed_buffers : (image : List (List ℕ)) (side after : MonitorSide) (own : Own) (first count : ℕ) (lease : Held)
    (p q : Parts) (d e g : Device) → Fits (Running side own (purpose.Piece first count lease)) p d → q.held ≡ p.held
    → q.client ≡ p.client → HasBuffers image (Running side own (purpose.Piece first count lease)) p d g
    → HasBuffers image (Monitor after) q e g
failed_buffers image side after own first count lease p q d e g fits held client has =
    let v = view_held side in
    let reads = reads_in v.file.phase own first count v p fits.parts.state.5 in
    own_buffer_alone image (Monitor after) q e g (held ∙ reads.unheld)
    (ap (λ (c : Asking). c.demand) client ∙ reads.unasked)
    (ap (λ (c : Asking). c.background) client ∙ fits.parts.area.background) has.whole tt

-- an own command that reads a piece and is polled, with the front of its buffer
module _ (side after : MonitorSide) (own : Own) (first count : ℕ) (lease : Held) (p : Parts) (d e : Device)
    (front rest bytes : List ℕ) (result : Poll) (fits : Fits (Running side own (purpose.Piece first count lease)) p d)
    (whole : HasWholeBuffers p.pool) (parted : leased_bytes lease p.pool ≡ front ++ rest)
    (most : length front ≡ 512 * count) (same : length bytes ≡ length front) (cells : e.cells ≡ d.cells)
    (leaves : (start : List ℕ) (origin : List Cell) → IsDoneSoFar (job_of own) (done_of own) front start origin d
    → Leaves result (job_of own) (polls_left own) bytes start origin e) where
  reads : ReadsPiece own first count (view_held side) p (position_of (view_held side).file.phase)
  reads = reads_in (view_held side).file.phase own first count (view_held side) p fits.parts.state.5

  sized : length bytes ≡ 512 * count
  sized = same ∙ most

  shows : leased_bytes lease (with_bytes lease p.pool (bytes ++ rest)) ≡ bytes ++ rest
  shows =
      let all : length (front ++ rest) ≡ p.pool.room =
      sym (ap length parted) ∙ length_bytes p.pool lease whole fits.parts.leased.held.0 in
      own_bytes p.pool lease (bytes ++ rest) whole fits.parts.leased.held.0
      (length-append bytes rest ∙ omega (arith, length-append front rest, all, same))

  left_now : (r : PieceRead own count lease p d) → Leaves result (job_of own) (polls_left own) bytes r.start r.origin e
  left_now r = leaves r.start r.origin
      (subst (λ xs. IsDoneSoFar (job_of own) (done_of own) xs r.start r.origin d)
      (ap (take (512 * count)) parted ∙ take_at front rest (512 * count) most) r.done)

  -- it goes on
  pub goes_buffers : (left : Own) → job_of left ≡ job_of own → polls_left left ≡ left_after result (polls_left own)
      → (result ≡ Waiting) ⊎ (result ≡ Moved)
      → KeepsBuffers (Running side own (purpose.Piece first count lease)) p d
      (Running after left (purpose.Piece first count lease)) (with_pool (with_bytes lease p.pool (bytes ++ rest)) p) e
  goes_buffers left job_is left_is goes k g sectors has =
      let r = has.read in
      let so_far = still_so_far result (job_of own) (polls_left own) bytes r.start r.origin e goes (left_now r) in
      let here = subst (λ n. IsDoneSoFar (job_of own) (done_by (job_of own) n) bytes r.start r.origin e) (sym left_is)
      so_far in
      let there = subst (λ j. IsDoneSoFar j (done_by j (polls_left left)) bytes r.start r.origin e) (sym job_is) here in
      let in_front : take (512 * count) (leased_bytes lease (with_bytes lease p.pool (bytes ++ rest))) ≡ bytes =
      ap (take (512 * count)) shows ∙ take_at bytes rest (512 * count) sized in
      own_buffer_alone k.image (Running after left (purpose.Piece first count lease))
      (with_pool (with_bytes lease p.pool (bytes ++ rest)) p) e g reads.unheld reads.unasked fits.parts.area.background
      has.whole (record {
        origin = r.origin;
        start = r.start;
        whole = r.whole;
        done = subst (λ xs. IsDoneSoFar (job_of left) (done_of left) xs r.start r.origin e) (sym in_front) there;
      })

  -- it is done: the piece that is held has its sectors
  pub done_buffers : result ≡ Done → HoldsSectors e
      → KeepsBuffers (Running side own (purpose.Piece first count lease)) p d (Monitor after)
      (with_piece (piece_read first count lease) (with_pool (with_bytes lease p.pool (bytes ++ rest)) p)) e
  done_buffers done holds k g sectors has =
      let r = has.read in
      let made = subst (λ a. Leaves a (job_of own) (polls_left own) bytes r.start r.origin e) done (left_now r) in
      let ended = subst (λ j. IsJobDone j bytes r.start r.origin e) reads.job made in
      let over : IsOverlaid k p d.cells g.cells = sectors.overlaid reads.opened in
      let v = view_held side in
      let end = below_reserved v.file.phase own first count v p fits.parts.state.5 fits.parts.state.2 in
      let many = ap length cells in
      record {
        whole = has.whole;
        held = λ s above below.
            let i = s - first in
            let place : first + i ≡ s = omega (arith, above) in
            let within : i < count = omega (arith, above, below) in
            let inside : first + i < length e.cells = omega (arith, place, below, end, over.kept.reserved, many) in
            of_drive p.area p.bitmap.filled k.image d.cells g.cells s over.values (omega (arith, below, end))
            (reads.on_disk s above below)
            ∙ ap (value_at s) (sym cells) ∙ ap (λ n. value_at n e.cells) (sym place)
            ∙ sector_read first count i bytes r.start r.origin e within r.whole holds inside ended
            ∙ sym (sector_before i count bytes rest within sized)
            ∙ ap (λ xs. take 512 (drop (512 * i) xs)) (sym shows);
        asked = both_unasked (image_part k.image) p.client (with_bytes lease p.pool (bytes ++ rest)) reads.unasked
            fits.parts.area.background;
        read = tt;
      }
