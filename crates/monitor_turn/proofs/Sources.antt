-- Where the sectors come from that a turn which makes no step leaves for the guest.
use Rattle.std.proofs.Common.{◌≡◌, ◌+◌, ◌<◌, ◌≤◌, ℕ, Bool, true, false, if◌then◌else◌, List, [], ◌∷◌, Option, Some, None, inl, refl, sym, ap, ◌∙◌, subst, arith}
use Rattle.ata_taskfile.specs.declared.Taken.{Taken}
use Rattle.ata_taskfile.specs.declared.Taken.TheVariants.{Good, Bad}
use Rattle.ata_taskfile.specs.declared.Phase.{Phase}
use Rattle.ata_taskfile.specs.declared.Phase.TheVariants.{Reset, Idle, Busy, Ready}
use Rattle.ata_taskfile.specs.declared.task_file.TaskFile.{TaskFile}
use Rattle.ata_taskfile.specs.Device.{Device}
use Rattle.ata_taskfile.specs.Lawful.{is_in_reset, position_of}
use Rattle.ata_taskfile.specs.Order.{has_range, inputs, order_of, taken}
use Rattle.fill_bitmap.specs.declared.area.Area.{Area}
use Rattle.fill_store.specs.Sectors.{IsOnKept}
use Rattle.mon_pool.specs.Region.{Held, Region}
use Rattle.own_pio.specs.declared.job.OwnJob.{OwnJob}
use Rattle.own_pio.specs.declared.job.OwnJob.TheVariants as job
use Rattle.own_pio.specs.declared.own.Own.{Own}
use Rattle.own_pio.specs.Job.{command_of, job_order}
use Rattle.dummy_read.specs.declared.dummy.Dummy.{Dummy}
use Rattle.plain_drive.specs.Alike.{reads, reads_sector}
use Rattle.plain_drive.specs.Plain.{Plain}
use Rattle.port_lease.specs.declared.guest_side.GuestSide.{GuestSide}
use Rattle.port_lease.specs.declared.monitor_side.MonitorSide.{MonitorSide}
use Rattle.port_lease.specs.Handover.{IsOrdered}
use Rattle.port_lease.specs.Sides.{view_held}
use Rattle.redirect.specs.declared.redirect.Redirect.{Redirect}
use Rattle.redirect.specs.Meaning.{IsReadable}
use Rattle.redirect.specs.Next.{request_of}
use Rattle.schedule_text.specs.declared.Item.{Item}
use Rattle.schedule_text.specs.declared.Item.TheVariants as item
use Rattle.schedule_text.specs.Taken.{command_item}
use Rattle.streaming.specs.Lines.{Line}
use Rattle.streaming.specs.Sources.{HasSourcesAlong, has_read, one_reads, tells_write, was_read}
use Rattle.monitor_state.specs.declared.state.State.{State}
use Rattle.monitor_state.specs.declared.state.State.TheVariants.{Guest, Monitor, Running, Raising}
use Rattle.monitor_state.specs.declared.state.Plan.{Plan}
use Rattle.monitor_state.specs.declared.state.Purpose.TheVariants as purpose
use Rattle.monitor_state.specs.declared.parts.Parts.{Parts}
use Rattle.monitor_state.specs.Fits.{Fits}
use Rattle.monitor_state.specs.Seen.{file_seen}
use Rattle.monitor_state.specs.Sourced.{HasSources, IsToldIn, KeepsSources, ReadsFor}
use Rattle.monitor_state.specs.State.{is_opened, range_of}
use Rattle.monitor_turn.specs.Work.{IsWorkedOn, is_on_disk}
use Rattle.monitor_turn.proofs.Begun.{kept_on_disk}
use Rattle.monitor_turn.proofs.Fresh.{redirect_shows, with_redirect}
use Rattle.monitor_turn.proofs.Piece.{piece_read, with_piece}
use Rattle.monitor_turn.proofs.Read.{read_on_disk, with_pool}
use Rattle.monitor_turn.proofs.Told.{read_told}
use Rattle.monitor_turn.proofs.Rows.{reads_told, reads_unwritten}

-- over parts with the same image, held piece and client all that is held and asked has the same sources
got_over : (s t : State) (p r : Parts) (d e : Device) (lines : List Line) → r.area ≡ p.area → r.held ≡ p.held
    → r.client ≡ p.client → ReadsFor t e lines → HasSources s p d lines → HasSources t r e lines
got_over s t p r d e lines area held client read has = record {
  held = rw (area, held) has.held;
  demand = rw client has.demand;
  background = rw client has.background;
  read = read;
}

-- a turn that tells nothing
pub untold : (s t : State) (p r : Parts) (d e : Device)
    → ((lines : List Line) → HasSources s p d lines → HasSources t r e lines) → KeepsSources s p d None t r e
untold s t p r d e keeps = record {
  loads = λ lines memory q shows has. tt;
  keeps = λ lines told has. keeps lines has;
  spares = λ read. refl;
}

-- a turn that tells nothing, over parts with the same image, held piece and client
pub untold_over : (s t : State) (p r : Parts) (d e : Device) → r.area ≡ p.area → r.held ≡ p.held → r.client ≡ p.client
    → ((lines : List Line) → ReadsFor s d lines → ReadsFor t e lines) → KeepsSources s p d None t r e
untold_over s t p r d e area held client reads =
    untold s t p r d e (λ lines has. got_over s t p r d e lines area held client (reads lines has.read) has)

loads_by : (named : Bool) (image byte first count : ℕ) (q : Plain) (lines : List Line)
    → let told = if named then item.Command byte first count else item.Command byte 0 0 in
    HasSourcesAlong image (told ∷ []) q lines
loads_by true image byte first count q lines = tt
loads_by false image byte first count q lines = tt

-- the line of a command tells of no step
loads_none : (image byte : ℕ) (order : Taken) (q : Plain) (lines : List Line)
    → HasSourcesAlong image (command_item byte order ∷ []) q lines
loads_none image byte (Good order) q lines =
    loads_by (has_range order.kind) image byte order.first order.count q lines
loads_none image byte (Bad reason) q lines = tt

-- a turn that tells of a command
commanded : (s t : State) (p r : Parts) (d e : Device) (byte : ℕ) (order : Taken)
    → (has_read (file_seen s d).phase ≡ true → tells_write (command_item byte order) ≡ false)
    → ((lines : List Line) → IsToldIn (Some (command_item byte order)) lines → HasSources s p d lines
    → HasSources t r e lines)
    → KeepsSources s p d (Some (command_item byte order)) t r e
commanded s t p r d e byte order spares keeps = record {
  loads = λ lines memory q shows has. loads_none p.area.image byte order q lines;
  keeps = keeps;
  spares = λ read. rw (spares read) refl;
}

spares_write : (byte n : ℕ) (f : TaskFile) (order : Taken) → taken (order_of byte (inputs f) n) ≡ order
    → has_read (Busy order 0) ≡ true → tells_write (command_item byte order) ≡ false
spares_write byte n f (Good request) is read = reads_unwritten byte n (inputs f) request is read
spares_write byte n f (Bad reason) is read = absurd cc

reads_by : (byte n : ℕ) (f : TaskFile) (order : Taken) (lines : List Line) → taken (order_of byte (inputs f) n) ≡ order
    → IsToldIn (Some (command_item byte order)) lines → (s : ℕ) → reads order s ≡ true → was_read s lines ≡ true
reads_by byte n f (Good request) lines is told s gives = told s (reads_told byte n s (inputs f) request is gives)
reads_by byte n f (Bad reason) lines is told s gives = absurd cc

-- the guest's command is given: the drive reads what is told of it
pub given_sources : (side : MonitorSide) (after : GuestSide) (order : Taken) (n : ℕ) (p : Parts) (d e : Device)
    → (view_held side).file.phase ≡ Busy order 0 → IsOrdered (view_held side) (view_held side).file.command n
    → e.file.phase ≡ (view_held side).file.phase
    → KeepsSources (Monitor side) p d (Some (command_item (view_held side).file.command order)) (Guest after) p e
given_sources side after order n p d e at ordered is =
    let f = (view_held side).file in
    let both : Busy (taken (order_of f.command (inputs f) n)) 0 ≡ Busy order 0 = sym ordered ∙ at in
    let order_is : taken (order_of f.command (inputs f) n) ≡ order = cc in
    commanded (Monitor side) (Guest after) p p d e f.command order
    (λ read. spares_write f.command n f order order_is (sym (ap has_read at) ∙ read)) (λ lines told has. record {
      held = has.held;
      demand = has.demand;
      background = has.background;
      read = λ s gives.
          reads_by f.command n f order lines order_is told s (sym (ap (λ (phase : Phase). reads_sector phase s)
          (is ∙ at)) ∙ gives);
    })

-- a dummy read is told, which reads one sector
pub raised_sources : (side after : MonitorSide) (dummy : Dummy) (planned : Plan) (sector : ℕ) (p : Parts) (d e : Device)
    → KeepsSources (Monitor side) p d (Some (item.Command 32 sector 1)) (Raising after dummy planned) p e
raised_sources side after dummy planned sector p d e = record {
  loads = λ lines memory q shows has. tt;
  keeps = λ lines told has.
      record { held = has.held; demand = has.demand; background = has.background; read = tt };
  spares = λ read. refl;
}

-- what is told over parts with a redirect is told over those without
pub redirect_sources : (redirect : Redirect) (side : MonitorSide) (t : State) (p r : Parts) (d e : Device)
    (told : Option Item) → KeepsSources (Monitor side) (with_redirect redirect p) d told t r e
    → KeepsSources (Monitor side) p d told t r e
redirect_sources redirect side t p r d e told keeps =
    let over : (lines : List Line) → HasSources (Monitor side) p d lines
    → HasSources (Monitor side) (with_redirect redirect p) d lines =
    λ lines has. record { held = has.held; demand = has.demand; background = has.background; read = tt } in
    record {
      loads = λ lines memory q shows has.
          keeps.loads lines memory q (redirect_shows redirect side p d memory q shows) (over lines has);
      keeps = λ lines told_in has. keeps.keeps lines told_in (over lines has);
      spares = keeps.spares;
    }

piece_told : (first count s : ℕ) → first ≤ s → s < first + count
    → one_reads s (item.Command 32 first count ∷ []) ≡ true
piece_told first count s above below = grind (arith, above, below)

-- an own read of a piece is told: the drive reads the piece
pub begun_sources : (side after : MonitorSide) (own : Own) (lease : Held) (first count : ℕ) (pool : Region)
    (redirect : Redirect) (told : Item) (p : Parts) (d e : Device) → Fits (Monitor side) p d
    → IsWorkedOn (view_held side) p redirect (position_of (view_held side).file.phase)
    → IsReadable (request_of redirect) (view_held side) p.area p.bitmap.filled (range_of p.held) first count
    → ((sectors : ℕ) → is_on_disk (job.Read first count) sectors ≡ true
    → told ≡ command_item 32 (job_order (job.Read first count) sectors))
    → KeepsSources (Monitor side) p d (Some told) (Running after own (purpose.Piece first count lease))
    (with_pool pool p) e
begun_sources side after own lease first count pool redirect told p d e fits works reads told_is =
    let on_disk = read_on_disk side redirect first count p d fits works reads in
    let within : first + count ≤ d.sectors = grind (arith, on_disk) in
    let is : told ≡ item.Command 32 first count =
    told_is d.sectors on_disk ∙ read_told first count d.sectors within in
    let t = Running after own (purpose.Piece first count lease) in
    subst (λ (told : Item). KeepsSources (Monitor side) p d (Some told) t (with_pool pool p) e) (sym is) (record {
      loads = λ lines memory q shows has. tt;
      keeps = λ lines told_in has. record {
        held = has.held;
        demand = has.demand;
        background = has.background;
        read = λ s above below. told_in s (piece_told first count s above below);
      };
      spares = λ read. refl;
    })

-- an own read of a piece is done: the drive read each sector of the piece that is held
pub done_sources : (side after : MonitorSide) (own : Own) (first count : ℕ) (lease other : Held) (pool : Region)
    (p : Parts) (d e : Device)
    → KeepsSources (Running side own (purpose.Piece first count lease)) p d None (Monitor after)
    (with_piece (piece_read first count other) (with_pool pool p)) e
done_sources side after own first count lease other pool p d e =
    untold (Running side own (purpose.Piece first count lease)) (Monitor after) p
    (with_piece (piece_read first count other) (with_pool pool p)) d e (λ lines has. record {
      held = λ s above below. inl (has.read s above below);
      demand = has.demand;
      background = has.background;
      read = tt;
    })

reset_unread : (phase : Phase) → is_in_reset phase ≡ true → has_read phase ≡ false
reset_unread Reset resets = refl
reset_unread Idle resets = absurd cc
reset_unread (Busy order done) resets = absurd cc
reset_unread (Ready order done left) resets = absurd cc

-- a command of opening is told, while the guest's drive is in its reset
pub opening_sources : (side after : MonitorSide) (own : Own) (job : OwnJob) (told : Item) (p : Parts) (d e : Device)
    → Fits (Monitor side) p d → is_opened p ≡ false → IsOnKept p.opening.area job
    → ((sectors : ℕ) → is_on_disk job sectors ≡ true → told ≡ command_item (command_of job) (job_order job sectors))
    → KeepsSources (Monitor side) p d (Some told) (Running after own purpose.Opening) p e
opening_sources side after own job told p d e fits closed kept told_is =
    let resets = fits.parts.state.3.opened closed in
    let on : IsOnKept p.area job = subst (λ (area : Area). IsOnKept area job) fits.parts.area.opening kept in
    let is = told_is p.area.sectors (kept_on_disk p.area job on) in
    subst (λ (told : Item). KeepsSources (Monitor side) p d (Some told) (Running after own purpose.Opening) p e)
    (sym is)
    (commanded (Monitor side) (Running after own purpose.Opening) p p d e (command_of job)
    (job_order job p.area.sectors)
    (λ read. absurd (let no = reset_unread (view_held side).file.phase resets in cc)) (λ lines told_in has.
    record { held = has.held; demand = has.demand; background = has.background; read = tt }))

ready_sources : (opened : Bool) (s t : State) (p r : Parts) (d e : Device)
    → ((lines : List Line) → HasSources s p d lines → HasSources t r e lines)
    → KeepsSources s p d (if opened then Some item.Ready else None) t r e
ready_sources true s t p r d e keeps = record {
  loads = λ lines memory q shows has. tt;
  keeps = λ lines told has. keeps lines has;
  spares = λ read. refl;
}
ready_sources false s t p r d e keeps = untold s t p r d e keeps

-- a command of opening ends, well or not: at most that opening has ended is told
pub opening_ends_sources : (side after : MonitorSide) (own : Own) (told : Option Item) (p r : Parts) (d e : Device)
    → r.area ≡ p.area → r.held ≡ p.held → r.client ≡ p.client
    → told ≡ (if is_opened r then Some item.Ready else None)
    → KeepsSources (Running side own purpose.Opening) p d told (Monitor after) r e
opening_ends_sources side after own told p r d e area held client told_is =
    subst (λ (told : Option Item). KeepsSources (Running side own purpose.Opening) p d told (Monitor after) r e)
    (sym told_is)
    (ready_sources (is_opened r) (Running side own purpose.Opening) (Monitor after) p r d e (λ lines has.
    got_over (Running side own purpose.Opening) (Monitor after) p r d e lines area held client tt has))
