-- An own read of a piece that was polled.
use Rattle.std.proofs.Common.{◌≡◌, ◌+◌, ◌-◌, ◌<◌, ◌∷◌, ◌++◌, ℕ, true, false, Option, Some, None, refl, sym, ap, ◌∙◌, subst, arith}
use Rattle.std.specs.Prelude.{IsSomeAnd}
use Rattle.std.proofs.lemmas.List.{length-set}
use Rattle.ata_taskfile.specs.declared.Taken.{Taken}
use Rattle.ata_taskfile.specs.declared.Phase.{Phase}
use Rattle.ata_taskfile.specs.declared.Phase.TheVariants.{Reset, Idle, Busy, Ready}
use Rattle.ata_taskfile.specs.Lawful.{is_in_reset, is_just_taken, position_of}
use Rattle.ata_taskfile.specs.Device.{Device}
use Rattle.aoe_client.specs.Asking.{leases_of}
use Rattle.mon_pool.specs.Region.{Held, Region, buffers_in, given}
use Rattle.mon_pool.proofs.Held.{one_fewer_out}
use Rattle.port_lease.specs.declared.view.View.{View}
use Rattle.port_lease.specs.declared.monitor_side.MonitorSide.{MonitorSide}
use Rattle.port_lease.specs.Free.{is_free}
use Rattle.port_lease.specs.Sides.{has_own, view_held}
use Rattle.own_pio.specs.declared.own.Own.{Own}
use Rattle.own_pio.specs.Job.{IsFit}
use Rattle.own_pio.specs.Own.{done_of, job_of, polls_left}
use Rattle.own_pio.specs.Running.{IsRunning}
use Rattle.redirect.specs.declared.redirect.Redirect.{Redirect}
use Rattle.redirect.specs.Next.{request_of}
use Rattle.monitor_state.specs.declared.state.State.TheVariants.{Monitor, Running}
use Rattle.monitor_state.specs.declared.state.Purpose.TheVariants as purpose
use Rattle.monitor_state.specs.declared.held.HeldPiece.{HeldPiece}
use Rattle.monitor_state.specs.declared.parts.Parts.{Parts}
use Rattle.monitor_state.specs.State.{is_opened}
use Rattle.monitor_state.specs.Leases.{AreLeased, leases_held, leases_of_parts}
use Rattle.monitor_state.specs.Drive.{IsResting, RestsIn}
use Rattle.monitor_state.specs.Hand.{HasInHand, HoldsSector, IsWanted, WorksOn}
use Rattle.monitor_state.specs.Fits.{ComesNext, Fits, FitsArea, FitsDevice, ReadsIn, ReadsPiece}
use Rattle.monitor_state.proofs.Served.{if_none}
use Rattle.monitor_turn.specs.Turned.{HasTurned}
use Rattle.monitor_turn.proofs.Read.{area_over, redirected_over, with_pool}
use Rattle.streaming.proofs.Untold.{never_both, none_due}
use Rattle.monitor_turn.proofs.Told.{free_idle}

reads_over : (own after : Own) (first count : ℕ) (v : View) (pool : Region) (p : Parts) (done : ℕ)
    → job_of after ≡ job_of own → pool.room ≡ p.pool.room → ReadsPiece own first count v p done
    → ReadsPiece after first count v (with_pool pool p) done
reads_over own after first count v pool p done job room reads = record {
  job = job ∙ reads.job;
  opened = reads.opened;
  calm = reads.calm;
  unheld = reads.unheld;
  unasked = reads.unasked;
  unfailed = reads.unfailed;
  redirected = reads.redirected;
  on_disk = reads.on_disk;
  some = reads.some;
  room = omega (arith, reads.room, room);
}

works_over : (o : Option Redirect) (own : Own) (first count : ℕ) (v : View) (pool : Region) (p : Parts) (order : Taken)
    (done : ℕ) → IsSomeAnd o (ComesNext first count done) → ReadsPiece own first count v p done
    → WorksOn o v p order done → WorksOn o v (with_pool pool p) order done
works_over None own first count v pool p order done next reads works = absurd next
works_over (Some redirect) own first count v pool p order done next reads works =
    (works.0, redirected_over pool v p redirect done reads.unheld reads.unasked works.1)

-- what is in hand stays so over another pool
hand_over : (phase : Phase) (own : Own) (first count : ℕ) (v : View) (pool : Region) (p : Parts)
    → ReadsIn phase own first count v p → HasInHand phase v p → HasInHand phase v (with_pool pool p)
hand_over Reset own first count v pool p reads has = absurd reads
hand_over Idle own first count v pool p reads has = absurd reads
hand_over (Busy order done) own first count v pool p reads has =
    works_over p.hand.redirect own first count v pool p order done reads.redirected reads has
hand_over (Ready order done left) own first count v pool p reads has = absurd reads

read_over : (phase : Phase) (own after : Own) (first count : ℕ) (v : View) (pool : Region) (p : Parts)
    → job_of after ≡ job_of own → pool.room ≡ p.pool.room → ReadsIn phase own first count v p
    → ReadsIn phase after first count v (with_pool pool p)
read_over Reset own after first count v pool p job room reads = absurd reads
read_over Idle own after first count v pool p job room reads = absurd reads
read_over (Busy order done) own after first count v pool p job room reads =
    reads_over own after first count v pool p done job room reads
read_over (Ready order done left) own after first count v pool p job room reads = absurd reads

-- what the read of a piece rests on while it stands
pub reads_in : (phase : Phase) (own : Own) (first count : ℕ) (v : View) (p : Parts) → ReadsIn phase own first count v p
    → ReadsPiece own first count v p (position_of phase)
reads_in Reset own first count v p reads = absurd reads
reads_in Idle own first count v p reads = absurd reads
reads_in (Busy order done) own first count v p reads = reads
reads_in (Ready order done left) own first count v p reads = absurd reads

-- the read goes on
pub piece_goes : (side after : MonitorSide) (own left : Own) (first count : ℕ) (lease : Held) (pool : Region)
    (p : Parts) (d e : Device) → Fits (Running side own (purpose.Piece first count lease)) p d
    → pool.room ≡ p.pool.room → buffers_in pool ≡ buffers_in p.pool
    → (AreLeased (lease ∷ leases_of_parts p) p → AreLeased (lease ∷ leases_of_parts p) (with_pool pool p))
    → has_own after ≡ true → view_held after ≡ view_held side → job_of left ≡ job_of own → 0 < polls_left left
    → IsRunning (job_of left) (done_of left) e → e.sectors ≡ d.sectors
    → (is_just_taken e.file.phase ≡ true → is_just_taken d.file.phase ≡ true)
    → HasTurned p d (Running after left (purpose.Piece first count lease)) None (with_pool pool p) e
piece_goes side after own left first count lease pool p d e fits room buffers leases own_stands view job some runs
    sectors taken =
    let state = fits.parts.state in
    let v = view_held side in
    record {
      fits = record {
        parts = record {
          area = area_over pool p room buffers fits.parts.area;
          leased = leases fits.parts.leased;
          state = rw view (
            own_stands,
            state.1,
            hand_over v.file.phase own first count v pool p state.5 state.2,
            subst IsFit (sym job) state.3,
            some,
            read_over v.file.phase own left first count v pool p job room state.5,
          );
        };
        device = runs;
        sectors = sectors ∙ fits.sectors;
      };
      between = _;
      commands = none_due d.file e.file taken;
      ready = never_both (is_opened p);
      may = _;
      image = record { area = refl; id = refl; opening = λ _. refl; bitmap = λ _. refl };
    }

-- a drive that is free rests where nothing pends in the view
rests_free : (v : View) (d : Device) → is_free d.file ≡ true → v.file.pending ≡ false → IsResting v d
rests_free v d free calm = record {
  rests = grind (arith, free);
  pending = let quiet : d.file.pending ≡ false = grind (arith, free) in quiet ∙ sym calm;
  masked = λ pends. absurd (let no = calm in cc);
}

-- how a drive that is free fits the monitor's side
pub free_fits : (side : MonitorSide) (p : Parts) (d : Device) → is_free d.file ≡ true
    → (view_held side).file.pending ≡ false → FitsDevice (Monitor side) p d
free_fits side p d free calm =
    let idle = free_idle d.file free in (
      subst (λ phase. RestsIn phase (view_held side) d) (sym idle) (rests_free (view_held side) d free calm),
      λ resets. absurd (let no = ap is_in_reset idle in cc),
    )

pub none_taken_free : (d e : Device) → is_free e.file ≡ true → is_just_taken e.file.phase ≡ true
    → is_just_taken d.file.phase ≡ true
none_taken_free d e free just = absurd (let no = ap is_just_taken (free_idle e.file free) in cc)

-- the piece that was read
abbrev pub piece_read : ℕ → ℕ → Held → HeldPiece
piece_read first count lease = record { first = first; count = count; base = first; lease = lease; block = None }

-- parts that hold a piece
abbrev pub with_piece : HeldPiece → Parts → Parts
with_piece held p = record p { held = Some held }

-- parts of whose work something has failed
abbrev pub with_failure : Parts → Parts
with_failure p = record p { hand = record p.hand { failed = true } }

works_held : (o : Option Redirect) (own : Own) (first count : ℕ) (lease : Held) (v : View) (p : Parts) (order : Taken)
    (done : ℕ) → IsSomeAnd o (ComesNext first count done) → ReadsPiece own first count v p done
    → WorksOn o v p order done → WorksOn o v (with_piece (piece_read first count lease) p) order done
works_held None own first count lease v p order done next reads works = absurd next
works_held (Some redirect) own first count lease v p order done next reads works =
    let r = works.1 in
    let q = with_piece (piece_read first count lease) p in (
      works.0,
      record {
        read = r.read;
        unreserved = r.unreserved;
        position = r.position;
        last = r.last;
        calm = r.calm;
        held = record {
          from = omega (arith, next.from);
          ahead = omega (arith, next.from, reads.some);
          within = next.within;
          base = omega arith;
          room = let all : first + count - first ≡ count = omega arith in rw all reads.room;
        };
        asked = if_none (IsWanted q (request_of redirect) ((request_of redirect).first + done)) p.client.demand
            reads.unasked;
        failed = λ failed. absurd (let no = reads.unfailed in cc);
      },
    )

works_failed : (o : Option Redirect) (own : Own) (first count : ℕ) (v : View) (p : Parts) (order : Taken)
    (done : ℕ) → IsSomeAnd o (ComesNext first count done) → ReadsPiece own first count v p done
    → WorksOn o v p order done → WorksOn o v (with_failure p) order done
works_failed None own first count v p order done next reads works = absurd next
works_failed (Some redirect) own first count v p order done next reads works =
    let r = works.1 in
    let q = with_failure p in (
      works.0,
      record {
        read = r.read;
        unreserved = r.unreserved;
        position = r.position;
        last = r.last;
        calm = r.calm;
        held = if_none (HoldsSector q (request_of redirect) ((request_of redirect).first + done)) p.held reads.unheld;
        asked = if_none (IsWanted q (request_of redirect) ((request_of redirect).first + done)) p.client.demand
            reads.unasked;
        failed = λ _. (reads.calm, reads.unheld);
      },
    )

hand_held : (phase : Phase) (own : Own) (first count : ℕ) (lease : Held) (v : View) (p : Parts)
    → ReadsIn phase own first count v p → HasInHand phase v p
    → HasInHand phase v (with_piece (piece_read first count lease) p)
hand_held Reset own first count lease v p reads has = absurd reads
hand_held Idle own first count lease v p reads has = absurd reads
hand_held (Busy order done) own first count lease v p reads has =
    works_held p.hand.redirect own first count lease v p order done reads.redirected reads has
hand_held (Ready order done left) own first count lease v p reads has = absurd reads

hand_failed : (phase : Phase) (own : Own) (first count : ℕ) (v : View) (p : Parts)
    → ReadsIn phase own first count v p → HasInHand phase v p → HasInHand phase v (with_failure p)
hand_failed Reset own first count v p reads has = absurd reads
hand_failed Idle own first count v p reads has = absurd reads
hand_failed (Busy order done) own first count v p reads has =
    works_failed p.hand.redirect own first count v p order done reads.redirected reads has
hand_failed (Ready order done left) own first count v p reads has = absurd reads

area_held : (held : HeldPiece) (p : Parts) → FitsArea p → FitsArea (with_piece held p)
area_held held p area = record {
  suitable = area.suitable;
  image = area.image;
  bitmap = area.bitmap;
  nested = area.nested;
  opening = area.opening;
  run = area.run;
  client = area.client;
  room = area.room;
  buffers = area.buffers;
  background = area.background;
}

area_failed : (p : Parts) → FitsArea p → FitsArea (with_failure p)
area_failed p area = record {
  suitable = area.suitable;
  image = area.image;
  bitmap = area.bitmap;
  nested = area.nested;
  opening = area.opening;
  run = area.run;
  client = area.client;
  room = area.room;
  buffers = area.buffers;
  background = area.background;
}

held_leased : (held : Option HeldPiece) (lease : Held) (first count : ℕ) (p : Parts)
    → let q = with_piece (piece_read first count lease) p in p.held ≡ held → held ≡ None
    → AreLeased (lease ∷ leases_of_parts p) p → AreLeased (leases_of_parts q) q
held_leased held lease first count p is none leased =
    let bare : AreLeased (lease ∷ leases_of p.client) p =
    subst (λ held. AreLeased (lease ∷ (leases_held held ++ leases_of p.client)) p) (is ∙ none) leased in
    record { held = bare.held; counted = bare.counted }

-- the piece is held
pub piece_done : (side after : MonitorSide) (own : Own) (first count : ℕ) (lease : Held) (pool : Region) (p : Parts)
    (d e : Device) → Fits (Running side own (purpose.Piece first count lease)) p d → pool.room ≡ p.pool.room
    → buffers_in pool ≡ buffers_in p.pool
    → (AreLeased (lease ∷ leases_of_parts p) p → AreLeased (lease ∷ leases_of_parts p) (with_pool pool p))
    → has_own after ≡ false → view_held after ≡ view_held side → is_free e.file ≡ true → e.sectors ≡ d.sectors
    → HasTurned p d (Monitor after) None (with_piece (piece_read first count lease) (with_pool pool p)) e
piece_done side after own first count lease pool p d e fits room buffers leases alone view free sectors =
    let state = fits.parts.state in
    let v = view_held side in
    let over = with_pool pool p in
    let reads = read_over v.file.phase own own first count v pool p refl room state.5 in
    let stands = reads_in v.file.phase own first count v p state.5 in
    record {
      fits = record {
        parts = record {
          area = area_held (piece_read first count lease) over (area_over pool p room buffers fits.parts.area);
          leased = held_leased p.held lease first count over refl stands.unheld
              (leases fits.parts.leased);
          state = rw view (
            alone,
            state.1,
            hand_held v.file.phase own first count lease v over reads
                (hand_over v.file.phase own first count v pool p state.5 state.2),
            record { opened = λ closed. absurd (let yes = stands.opened in cc) },
          );
        };
        device = free_fits after (with_piece (piece_read first count lease) over) e free (rw view stands.calm);
        sectors = sectors ∙ fits.sectors;
      };
      between = _;
      commands = none_due d.file e.file (none_taken_free d e free);
      ready = never_both (is_opened p);
      may = _;
      image = record { area = refl; id = refl; opening = λ _. refl; bitmap = λ _. refl };
    }

-- the read has failed
pub piece_failed : (side after : MonitorSide) (own : Own) (first count : ℕ) (lease : Held) (pool : Region) (p : Parts)
    (d e : Device) → Fits (Running side own (purpose.Piece first count lease)) p d → pool.room ≡ p.pool.room
    → buffers_in pool ≡ buffers_in p.pool
    → (AreLeased (lease ∷ leases_of_parts p) p → AreLeased (lease ∷ leases_of_parts p) (with_pool pool p))
    → has_own after ≡ false → view_held after ≡ view_held side → is_free e.file ≡ true → e.sectors ≡ d.sectors
    → HasTurned p d (Monitor after) None (with_failure (with_pool (given lease pool) p)) e
piece_failed side after own first count lease pool p d e fits room buffers leases alone view free sectors =
    let state = fits.parts.state in
    let v = view_held side in
    let less = given lease pool in
    let over = with_pool less p in
    let reads = read_over v.file.phase own own first count v less p refl room state.5 in
    let stands = reads_in v.file.phase own first count v p state.5 in
    let many : buffers_in less ≡ buffers_in p.pool = length-set pool.free lease.buffer true ∙ buffers in
    let leased = leases fits.parts.leased in
    record {
      fits = record {
        parts = record {
          area = area_failed over (area_over less p room many fits.parts.area);
          leased = record {
            held = leased.held.1;
            counted = omega (arith, one_fewer_out pool lease leased.held.0, leased.counted);
          };
          state = rw view (
            alone,
            state.1,
            hand_failed v.file.phase own first count v over reads
                (hand_over v.file.phase own first count v less p state.5 state.2),
            record { opened = λ closed. absurd (let yes = stands.opened in cc) },
          );
        };
        device = free_fits after (with_failure over) e free (rw view stands.calm);
        sectors = sectors ∙ fits.sectors;
      };
      between = _;
      commands = none_due d.file e.file (none_taken_free d e free);
      ready = never_both (is_opened p);
      may = _;
      image = record { area = refl; id = refl; opening = λ _. refl; bitmap = λ _. refl };
    }
