-- An own read of a piece.
use Rattle.std.proofs.Common.{◌≡◌, ◌+◌, ◌*◌, ◌/◌, ◌≤◌, List, [], ◌∷◌, ℕ, true, false, Option, Some, None, refl, sym, ap, ◌∙◌, subst, arith}
use Rattle.std.specs.Prelude.{IsSomeAnd}
use Rattle.std.proofs.Math.Nat.{div-mul-le_self}
use Rattle.std.proofs.lemmas.List.{length-set}
use Rattle.ata_taskfile.specs.declared.Taken.TheVariants.{Good}
use Rattle.ata_taskfile.specs.declared.Phase.TheVariants.{Busy}
use Rattle.ata_taskfile.specs.Lawful.{position_of}
use Rattle.ata_taskfile.specs.Device.{Device}
use Rattle.fill_bitmap.specs.Disk.{is_empty_at}
use Rattle.mon_pool.specs.Region.{Held, Region, buffers_in, leased}
use Rattle.plain_drive.specs.Alike.{block_matters, without_command}
use Rattle.plain_run.specs.Plan.{ActsAlong, planned}
use Rattle.port_lease.specs.declared.view.View.{View}
use Rattle.port_lease.specs.declared.monitor_side.MonitorSide.{MonitorSide}
use Rattle.port_lease.specs.Seen.{bus_beside}
use Rattle.port_lease.specs.Sides.{has_own, view_held}
use Rattle.own_pio.specs.declared.job.OwnJob.TheVariants as job
use Rattle.own_pio.specs.declared.own.Own.{Own}
use Rattle.own_pio.specs.Job.{IsFit, job_order}
use Rattle.own_pio.specs.Own.{done_of, job_of, polls_left}
use Rattle.own_pio.specs.Running.{IsRunning}
use Rattle.redirect.specs.declared.redirect.Redirect.{Redirect}
use Rattle.redirect.specs.Meaning.{IsReadable}
use Rattle.redirect.specs.Next.{end_of_read, request_of}
use Rattle.schedule_text.specs.declared.Item.{Item}
use Rattle.schedule_text.specs.Taken.{command_item}
use Rattle.monitor_state.specs.declared.state.State.TheVariants.{Monitor, Running}
use Rattle.monitor_state.specs.declared.state.Purpose.{Purpose}
use Rattle.monitor_state.specs.declared.state.Purpose.TheVariants as purpose
use Rattle.monitor_state.specs.declared.parts.Parts.{Parts}
use Rattle.monitor_state.specs.State.{is_opened, range_of}
use Rattle.monitor_state.specs.Leases.{AreLeased, leases_of_parts}
use Rattle.monitor_state.specs.Hand.{IsRedirected, IsWanted, HoldsSector}
use Rattle.monitor_state.specs.Fits.{ComesNext, Fits, FitsArea, ReadsIn, ReadsPiece}
use Rattle.monitor_state.specs.GoesOn.{GoesOn}
use Rattle.monitor_state.specs.Seen.{Shows, is_refused_in}
use Rattle.monitor_state.proofs.Served.{if_none}
use Rattle.monitor_state.proofs.Shown.{same_refused, same_seen}
use Rattle.monitor_state.proofs.Standing.{opened_free}
use Rattle.streaming.specs.Told.{MayTell, command_told, tells_ready}
use Rattle.monitor_turn.specs.Turned.{HasTurned}
use Rattle.monitor_turn.specs.Work.{IsWorkedOn, is_on_disk}
use Rattle.monitor_turn.proofs.Begun.{told_alone, told_idle, told_may, told_unready}
use Rattle.monitor_turn.proofs.InHand.{in_hand_by, none_asked, none_held, read_unmattered, redirected_by}
use Rattle.streaming.proofs.Untold.{never_both}
use Rattle.monitor_turn.proofs.Told.{free_idle, given_due}

-- parts with another pool
abbrev pub with_pool : Region → Parts → Parts
with_pool pool p = record p { pool = pool }

-- the area's parts stay so, over a pool of as many buffers of the same length
pub area_over : (pool : Region) (p : Parts) → pool.room ≡ p.pool.room → buffers_in pool ≡ buffers_in p.pool
    → FitsArea p → FitsArea (with_pool pool p)
area_over pool p room buffers area = record {
  suitable = area.suitable;
  image = area.image;
  bitmap = area.bitmap;
  nested = area.nested;
  opening = area.opening;
  run = area.run;
  client = area.client;
  room = room ∙ area.room;
  buffers = omega (arith, buffers, area.buffers);
  background = area.background;
}

pub leased_room : (buffer : Option ℕ) (pool : Region) → (leased buffer pool).room ≡ pool.room
leased_room None pool = refl
leased_room (Some buffer) pool = refl

pub leased_buffers : (buffer : Option ℕ) (pool : Region) → buffers_in (leased buffer pool) ≡ buffers_in pool
leased_buffers None pool = refl
leased_buffers (Some buffer) pool = length-set pool.free buffer false

-- a read in hand of which nothing is held and nothing asked is so over another pool
pub redirected_over : (pool : Region) (v : View) (p : Parts) (redirect : Redirect) (done : ℕ) → p.held ≡ None
    → p.client.demand ≡ None → IsRedirected v p (request_of redirect) done
    → IsRedirected v (with_pool pool p) (request_of redirect) done
redirected_over pool v p redirect done unheld unasked r = record {
  read = r.read;
  unreserved = r.unreserved;
  position = r.position;
  last = r.last;
  calm = r.calm;
  held = if_none (HoldsSector (with_pool pool p) (request_of redirect) ((request_of redirect).first + done)) p.held
      unheld;
  asked = if_none (IsWanted (with_pool pool p) (request_of redirect) ((request_of redirect).first + done))
      p.client.demand unasked;
  failed = r.failed;
}

-- sectors within one block are no more than a block's
pub within_block : (first count block : ℕ) → first + count ≤ (first / block + 1) * block → count ≤ block
within_block first count block within =
    let below : first / block * block ≤ first = div-mul-le_self first block in
    let split : (first / block + 1) * block ≡ first / block * block + block = omega arith in
    omega (arith, within, below, split)

some_and : {T : Type 0} (P : T → Type 0) (o : Option T) (x : T) → o ≡ Some x → P x → IsSomeAnd o P
some_and P o x is holds = subst (λ o. IsSomeAnd o P) (sym is) holds

-- what an own read of a piece rests on
reads_piece : (own : Own) (first count : ℕ) (v : View) (p : Parts) (redirect : Redirect) (done : ℕ)
    → FitsArea p → is_opened p ≡ true → job_of own ≡ job.Read first count → p.hand.redirect ≡ Some redirect
    → p.hand.failed ≡ false → p.held ≡ None → p.client.demand ≡ None
    → v.file.phase ≡ Busy (Good (request_of redirect)) done
    → IsReadable (request_of redirect) v p.area p.bitmap.filled (range_of p.held) first count
    → ReadsPiece own first count v p done
reads_piece own first count v p redirect done area opened job_is is unfailed unheld unasked at reads = record {
  job = job_is;
  opened = opened;
  calm = reads.quiet;
  unheld = unheld;
  unasked = unasked;
  unfailed = unfailed;
  redirected = some_and (ComesNext first count done) p.hand.redirect redirect is (record {
    from = grind (arith, reads.from, at);
    within = reads.within;
  });
  on_disk = reads.on_disk;
  some = (reads.fit.named refl).some;
  room = omega (arith, within_block first count p.area.block reads.one_block, area.room);
}

-- a read of so many sectors on the disk is told by them
readable_on_disk : (request_end first count sectors : ℕ) → first + count ≤ request_end → request_end ≤ sectors
    → is_on_disk (job.Read first count) sectors ≡ true
readable_on_disk request_end first count sectors within below = grind (arith, within, below)

-- and it is of sectors on the disk
pub read_on_disk : (side : MonitorSide) (redirect : Redirect) (first count : ℕ) (p : Parts) (d : Device)
    → Fits (Monitor side) p d → IsWorkedOn (view_held side) p redirect (position_of (view_held side).file.phase)
    → IsReadable (request_of redirect) (view_held side) p.area p.bitmap.filled (range_of p.held) first count
    → is_on_disk (job.Read first count) d.sectors ≡ true
read_on_disk side redirect first count p d fits works reads =
    let inside : end_of_read (request_of redirect) ≤ p.area.sectors =
    grind (arith, fits.parts.state.1.within, works.phase) in
    rw fits.sectors
    (readable_on_disk (end_of_read (request_of redirect)) first count p.area.sectors reads.within inside)

-- of a read that is worked on nothing is held and nothing asked where a piece may be read
pub piece_due : (side : MonitorSide) (own : Own) (first count : ℕ) (redirect : Redirect) (p : Parts) (d : Device)
    → Fits (Monitor side) p d → is_opened p ≡ true
    → IsWorkedOn (view_held side) p redirect (position_of (view_held side).file.phase)
    → IsReadable (request_of redirect) (view_held side) p.area p.bitmap.filled (range_of p.held) first count
    → job_of own ≡ job.Read first count
    → ReadsPiece own first count (view_held side) p (position_of (view_held side).file.phase)
piece_due side own first count redirect p d fits opened works reads job_is =
    let v = view_held side in
    let done = position_of v.file.phase in
    let request = request_of redirect in
    let sector = request.first + done in
    let r : IsRedirected v p request done =
    redirected_by v p redirect request done works.phase works.redirect_is fits.parts.state.2 in
    let here : first ≡ sector = grind (arith, reads.from, works.phase) in
    let filled : is_empty_at p.area p.bitmap.filled sector ≡ false =
    reads.on_disk sector (omega (arith, here)) (omega (arith, here, (reads.fit.named refl).some)) in
    let unheld = none_held p request sector p.held r.held (grind (arith, reads.unheld, works.phase)) in
    let unasked = none_asked p request sector p.client.demand r.asked filled in
    reads_piece own first count v p redirect done fits.parts.area opened job_is works.redirect_is works.unfailed unheld
    unasked works.phase reads

-- an own read of a piece has begun
pub piece_begun : (side after : MonitorSide) (own : Own) (lease : Held) (first count : ℕ) (told : Item) (pool : Region)
    (redirect : Redirect) (p : Parts) (d e : Device) → Fits (Monitor side) p d → is_opened p ≡ true
    → IsWorkedOn (view_held side) p redirect (position_of (view_held side).file.phase)
    → IsReadable (request_of redirect) (view_held side) p.area p.bitmap.filled (range_of p.held) first count
    → pool.room ≡ p.pool.room → buffers_in pool ≡ buffers_in p.pool
    → (AreLeased (leases_of_parts p) p → AreLeased (lease ∷ leases_of_parts p) (with_pool pool p))
    → has_own after ≡ true → view_held after ≡ view_held side → job_of own ≡ job.Read first count
    → polls_left own ≡ count → IsRunning (job.Read first count) 0 e
    → e.file.phase ≡ Busy (job_order (job.Read first count) d.sectors) 0 → e.file.command ≡ 32
    → e.sectors ≡ d.sectors
    → ((sectors : ℕ) → is_on_disk (job.Read first count) sectors ≡ true
    → told ≡ command_item 32 (job_order (job.Read first count) sectors))
    → HasTurned p d (Running after own (purpose.Piece first count lease)) (Some told) (with_pool pool p) e
piece_begun side after own lease first count told pool redirect p d e fits opened works reads room buffers leases
    own_stands view job_is left runs at byte sectors told_is =
    let state = fits.parts.state in
    let area = fits.parts.area in
    let v = view_held side in
    let q = with_pool pool p in
    let done = position_of v.file.phase in
    let request = request_of redirect in
    let r : IsRedirected v p request done =
    redirected_by v p redirect request done works.phase works.redirect_is state.2 in
    let due = piece_due side own first count redirect p d fits opened works reads job_is in
    let free = opened_free side p d fits.device opened reads.quiet in
    let none : done_of own ≡ 0 = grind (arith, job_is, left) in
    let on_disk = read_on_disk side redirect first count p d fits works reads in
    let order = job_order (job.Read first count) d.sectors in
    record {
      fits = record {
        parts = record {
          area = area_over pool p room buffers area;
          leased = leases fits.parts.leased;
          state = rw view (
            own_stands,
            state.1,
            in_hand_by v q redirect done works.phase works.redirect_is
                (redirected_over pool v p redirect done due.unheld due.unasked r),
            subst IsFit (sym job_is) reads.fit,
            omega (arith, left, (reads.fit.named refl).some),
            subst (λ phase. ReadsIn phase own first count v q) (sym works.phase)
                (reads_piece own first count v q redirect done (area_over pool p room buffers area) opened job_is
                works.redirect_is works.unfailed due.unheld due.unasked works.phase reads),
          );
        };
        device = subst (λ n. IsRunning (job_of own) n e) (sym none)
            (subst (λ j. IsRunning j 0 e) (sym job_is) runs);
        sectors = sectors ∙ fits.sectors;
      };
      between = _;
      commands =
          ap (λ i. command_told (Some i)) (told_is d.sectors on_disk)
          ∙ told_alone 32 order
          ∙ sym (given_due d.file e.file 32 order (free_idle d.file free) at byte);
      ready =
          ap (λ i. tells_ready (Some i)) (told_is d.sectors on_disk)
          ∙ told_unready 32 order ∙ never_both (is_opened p);
      may = subst (λ i. MayTell (Some i)) (sym (told_is d.sectors on_disk)) (told_may 32 order);
      image = record { area = refl; id = refl; opening = λ opened. refl; bitmap = λ opened. refl };
    }

-- the guest sees the same plain drive, since no block of a read that is at work matters
pub read_goes : (side after : MonitorSide) (own : Own) (why : Purpose) (first count : ℕ) (told : Item) (pool : Region)
    (redirect : Redirect) (p : Parts) (d e : Device) (memory : List ℕ) → Fits (Monitor side) p d
    → IsWorkedOn (view_held side) p redirect (position_of (view_held side).file.phase)
    → IsReadable (request_of redirect) (view_held side) p.area p.bitmap.filled (range_of p.held) first count
    → view_held after ≡ view_held side → e.bus ≡ d.bus
    → ((sectors : ℕ) → is_on_disk (job.Read first count) sectors ≡ true
    → told ≡ command_item 32 (job_order (job.Read first count) sectors))
    → GoesOn (Monitor side) p d memory (told ∷ []) (Running after own why) (with_pool pool p) e memory
read_goes side after own why first count told pool redirect p d e memory fits works reads view bus told_is =
    λ q shows agree.
    let v = view_held side in
    let r = with_pool pool p in
    let request = request_of redirect in
    let done = position_of v.file.phase in
    let unmattered : block_matters (view_held after).file.phase ≡ false =
    ap (λ (w : View). block_matters w.file.phase) view
    ∙ read_unmattered v.file.phase request done works.phase
    (redirected_by v p redirect request done works.phase works.redirect_is fits.parts.state.2).read in
    let idle : ActsAlong (told ∷ []) q × (planned (told ∷ []) q ≡ q) =
    rw (told_is d.sectors (read_on_disk side redirect first count p d fits works reads))
    (told_idle 32 (job_order (job.Read first count) d.sectors) q) in (
      idle.0,
      subst (Shows (Running after own why) r e memory) (sym idle.1)
          (same_seen (Monitor side) (Running after own why) p r d e memory q
          (ap (λ (w : View). without_command w.file) view) (λ i. bus_beside (view i).bus (bus i))
          (λ matters. absurd (let no = unmattered in cc)) refl
          (ap (λ (w : View). is_refused_in w.file.phase r) view
          ∙ same_refused v.file.phase p r refl refl ∙ shows.served) shows),
    )
