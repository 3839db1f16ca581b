-- What happens between two calls keeps the plain drives for which a mediator stands.
use Rattle.std.proofs.Common.{ℕ, ◌*◌, List, take, refl, sym, ap, subst}
use Rattle.ata_taskfile.specs.declared.task_file.TaskFile.{TaskFile}
use Rattle.ata_taskfile.specs.Device.{Device}
use Rattle.own_pio.specs.Own.{done_of, job_of}
use Rattle.own_pio.proofs.Stored.{let_go_kept}
use Rattle.mon_pool.specs.Region.{leased_bytes}
use Rattle.plain_drive.specs.Plain.{Plain}
use Rattle.plain_drive.specs.Seen.{HasLetGo}
use Rattle.fill_bitmap.specs.Area.{bitmap_sectors_of}
use Rattle.streaming.specs.Helpful.{IsReadyInTime}
use Rattle.streaming.specs.Lines.{IsTold, Line}
use Rattle.monitor_state.specs.declared.state.State.{State}
use Rattle.monitor_state.specs.declared.state.State.TheVariants.{Guest, Monitor, Running, Raising, Moving}
use Rattle.monitor_state.specs.declared.state.Purpose.TheVariants as purpose
use Rattle.monitor_state.specs.declared.parts.Parts.{Parts}
use Rattle.monitor_state.specs.Buffered.{ReadsSoFar}
use Rattle.monitor_state.specs.Overlaid.{Known}
use Rattle.monitor_state.proofs.OverlaidSteps.{let_go_sectors}
use Rattle.monitor_state.proofs.SeenSteps.{destage_unseen}
use Rattle.monitor_state.proofs.SourcesStay.{let_go_keeps}
use Rattle.mediator.specs.declared.mediator.Mediator.{Mediator}
use Rattle.mediator.specs.Couples.{Couples}
use Rattle.mediator.specs.Mediator.{parts_of, state_of}
use Rattle.mediator.proofs.Ready.{destaged_ready, in_time}

-- what an own read has read stays, as the sectors at its begin do
let_go_reads : (s : State) (p : Parts) (old new : Plain) → HasLetGo old new → ReadsSoFar s p old.device
    → ReadsSoFar s p new.device
let_go_reads (Guest side) p old new gone reads = tt
let_go_reads (Monitor side) p old new gone reads = tt
let_go_reads (Running side own purpose.Opening) p old new gone reads = tt
let_go_reads (Running side own (purpose.Piece first count lease)) p old new gone reads = record {
  origin = reads.origin;
  start = reads.start;
  whole = reads.whole;
  done = let_go_kept (job_of own) (done_of own) (take (512 * count) (leased_bytes lease p.pool)) reads.start
      reads.origin old new reads.done gone;
}
let_go_reads (Raising side dummy kind) p old new gone reads = tt
let_go_reads Moving p old new gone reads = tt

pub destaged_couples : (k : Known) (m : Mediator) (old new q : Plain) (lines : List Line) → HasLetGo old new
    → Couples k m old.device old.memory q lines → Couples k m new.device new.memory q lines
destaged_couples k m old new q lines gone couples = record {
  shows = destage_unseen (state_of m) (parts_of m) old new q couples.shows gone;
  sectors = let_go_sectors k (state_of m) (parts_of m) old new q.device.cells gone couples.sectors;
  buffers = record {
    whole = couples.buffers.whole;
    held = couples.buffers.held;
    asked = couples.buffers.asked;
    read = let_go_reads (state_of m) (parts_of m) old new gone couples.buffers.read;
  };
  sources = let_go_keeps (state_of m) (parts_of m) old new lines gone couples.sources;
  asked = couples.asked;
  requests = couples.requests;
  told = subst (λ (f : TaskFile). IsTold f lines) (sym (ap (λ (x : Plain). x.device.file) gone.after)) couples.told;
  ready = destaged_ready (state_of m) (parts_of m) old new lines gone couples.ready;
}

pub remembered_couples : (k : Known) (m : Mediator) (d : Device) (memory left : List ℕ) (q : Plain)
    (lines : List Line) → Couples k m d memory q lines → Couples k m d left (record q { memory = left }) lines
remembered_couples k m d memory left q lines couples = record {
  shows = record {
    file = couples.shows.file;
    bus = couples.shows.bus;
    block = couples.shows.block;
    sectors = couples.shows.sectors;
    memory_is = refl;
    served = couples.shows.served;
  };
  sectors = couples.sectors;
  buffers = couples.buffers;
  sources = couples.sources;
  asked = couples.asked;
  requests = couples.requests;
  told = couples.told;
  ready = couples.ready;
}

-- a monitor for which a plain drive stands is ready in time
pub ready_in_time : (k : Known) (m : Mediator) (d : Device) (memory : List ℕ) (q : Plain) (lines : List Line)
    → Couples k m d memory q lines
    → IsReadyInTime (parts_of m).area.block (bitmap_sectors_of (parts_of m).area) lines
ready_in_time k m d memory q lines couples = in_time (state_of m) (parts_of m) d lines couples.ready
