-- Steps of the drive, and destages, keep the sectors of a plain drive those that a deployment gives its guest.
use Rattle.std.proofs.Common.{◌≡◌, ℕ, Bool, true, false, not, List, refl, sym, ap, ◌∙◌, subst, arith}
use Rattle.std.specs.Prelude.{is_some}
use Rattle.std.proofs.lemmas.Bool.{true≢false}
use Rattle.ata_taskfile.specs.declared.Step.{Step}
use Rattle.ata_taskfile.specs.declared.Stepped.{Stepped}
use Rattle.ata_taskfile.specs.declared.Taken.{Taken}
use Rattle.ata_taskfile.specs.declared.Taken.TheVariants.{Good, Bad}
use Rattle.ata_taskfile.specs.declared.Phase.{Phase}
use Rattle.ata_taskfile.specs.declared.Phase.TheVariants.{Reset, Idle, Busy, Ready}
use Rattle.ata_taskfile.specs.Device.{Cell, Device}
use Rattle.ata_taskfile.specs.Lawful.{IsLawful}
use Rattle.plain_drive.specs.Change.{Change, cells_after, change_made, flushes, leaves, writes}
use Rattle.plain_drive.specs.Physical.{AreEndsOf}
use Rattle.plain_drive.specs.Plain.{Plain, appended}
use Rattle.plain_drive.specs.Seen.{HasLetGo, HasStepped}
use Rattle.plain_drive.specs.Step.{step_made}
use Rattle.plain_drive.proofs.EndsOfEnds.{ends-forget}
use Rattle.plain_drive.proofs.Likeness.{changes_alike}
use Rattle.port_lease.specs.declared.guest_side.GuestSide.{GuestSide}
use Rattle.port_lease.specs.declared.view.View.{View}
use Rattle.port_lease.specs.Seen.{drive_on_guest_side}
use Rattle.port_lease.specs.Sides.{view_held, view_kept}
use Rattle.port_lease.proofs.GuestSteps.{step_seen}
use Rattle.own_pio.specs.declared.job.OwnJob.{OwnJob}
use Rattle.own_pio.specs.declared.job.OwnJob.TheVariants as job
use Rattle.own_pio.specs.declared.own.Own.{Own}
use Rattle.own_pio.specs.Job.{job_order}
use Rattle.own_pio.specs.Own.{done_of, job_of}
use Rattle.own_pio.specs.Running.{StandsIn}
use Rattle.own_pio.proofs.Steps.{good_order}
use Rattle.own_pio.proofs.Stored.{let_go_kept, stepped_kept}
use Rattle.dummy_read.specs.Dummy.{sector_of}
use Rattle.dummy_read.specs.Flight.{FliesIn}
use Rattle.fill_store.proofs.Keeps.{keeps_elsewhere, keeps_forgets}
use Rattle.fill_store.proofs.Opens.{opens_forgets}
use Rattle.fill_store.proofs.Values.{flush_forgets}
use Rattle.overlay.specs.Steps.{leaves_sectors}
use Rattle.overlay.proofs.StepChanges.{step_leaves, step_writes}
use Rattle.overlay.proofs.Survivals.{survives_flushed, survives_forget, survives_written}
use Rattle.overlay.proofs.Values.{values_flushed, values_forget, values_written}
use Rattle.monitor_state.specs.declared.state.State.{State}
use Rattle.monitor_state.specs.declared.state.State.TheVariants.{Guest, Monitor, Running, Raising, Moving}
use Rattle.monitor_state.specs.declared.state.Purpose.TheVariants as purpose
use Rattle.monitor_state.specs.declared.parts.Parts.{Parts}
use Rattle.monitor_state.specs.State.{is_guests}
use Rattle.monitor_state.specs.Drive.{RestsIn}
use Rattle.monitor_state.specs.Fits.{Fits, ReadsIn}
use Rattle.monitor_state.specs.Overlaid.{HasSectors, IsBeingOpened, IsOverlaid, Known, OpensOver, job_bytes}
use Rattle.monitor_state.specs.Seen.{Shows}
use Rattle.monitor_state.proofs.Overlaid.{IsDrives, guests_reads, written_sectors}
use Rattle.monitor_state.proofs.Shown.{lawful_there, shown_alike}

-- older values of the drive's sectors may go
forgot_overlaid : (k : Known) (p : Parts) (old new plain : List Cell) → AreEndsOf new old → IsOverlaid k p old plain
    → IsOverlaid k p new plain
forgot_overlaid k p old new plain ends over =
    let forgets = ends-forget old new ends in record {
      values = values_forget p.area p.bitmap.filled k.image old new plain over.values forgets;
      survives = survives_forget p.area p.bitmap.stored k.durable k.image old new plain over.survives forgets;
      kept = keeps_forgets p.area p.id p.bitmap.stored k.durable old new forgets over.kept;
      durable = over.durable;
      settled = over.settled;
    }

-- both drives get the same value of a sector in no empty block
wrote_overlaid : (k : Known) (p : Parts) (cells plain : List Cell) (s : ℕ) (value : List ℕ)
    → IsDrives p s → IsOverlaid k p cells plain
    → IsOverlaid k p (appended s value cells) (appended s value plain)
wrote_overlaid k p cells plain s value drives over =
    let below = drives.1 in
    let there = over.kept.reserved in
    let count = over.survives.count in record {
      values = values_written p.area p.bitmap.filled k.image cells plain s value over.values drives.0
          (omega (arith, below, there)) (omega (arith, below, count));
      survives = survives_written p.area p.bitmap.stored k.durable k.image cells plain s value over.survives;
      kept = keeps_elsewhere p.area p.id p.bitmap.stored k.durable s value cells over.kept below;
      durable = over.durable;
      settled = over.settled;
    }

-- both make all durable
flushed_overlaid : (k : Known) (p : Parts) (cells plain : List Cell) → IsOverlaid k p cells plain
    → IsOverlaid k p (cells_after flushes cells) (cells_after flushes plain)
flushed_overlaid k p cells plain over = record {
  values = values_flushed p.area p.bitmap.filled k.image cells plain over.values;
  survives = survives_flushed p.area p.bitmap.stored k.durable p.bitmap.filled k.image cells plain over.values
      over.survives.count over.durable over.settled;
  kept = keeps_forgets p.area p.id p.bitmap.stored k.durable cells (cells_after flushes cells) (flush_forgets cells)
      over.kept;
  durable = over.durable;
  settled = over.settled;
}

changed_overlaid : (change : Change) (k : Known) (p : Parts) (cells plain : List Cell)
    → ((s : ℕ) (value : List ℕ) → change ≡ writes s value → IsDrives p s) → IsOverlaid k p cells plain
    → IsOverlaid k p (cells_after change cells) (cells_after change plain)
changed_overlaid leaves k p cells plain drives over = over
changed_overlaid (writes s value) k p cells plain drives over =
    wrote_overlaid k p cells plain s value (drives s value refl) over
changed_overlaid flushes k p cells plain drives over = flushed_overlaid k p cells plain over

-- on the guest's side both drives make the same step
pub guests_step_sectors : (k : Known) (side : GuestSide) (p : Parts) (kind : Step) (effect : Stepped)
    (old new q : Plain) → IsLawful old.device → Fits (Guest side) p old.device
    → Shows (Guest side) p old.device old.memory q → HasStepped kind effect old new
    → HasSectors k (Guest side) p old.device q.device.cells
    → HasSectors k (Guest side) p new.device (step_made kind q).device.cells
guests_step_sectors k side p kind effect old new q lawful fits shows stepped has =
    let v = view_kept side in
    let there = drive_on_guest_side v old in
    let change = change_made kind there in
    let opened = fits.parts.state.1 in
    let over = has.overlaid opened in
    let alike = shown_alike side p old.device old.memory q fits.sectors shows
    (guests_reads k side p old.device q lawful fits has) in
    let drives : (s : ℕ) (value : List ℕ) → change ≡ writes s value → IsDrives p s = λ s value is.
    written_sectors old.device.file.phase p s fits.device.2
    (step_writes kind there s value (lawful_there side old.device lawful) is) in
    let both = changed_overlaid change k p old.device.cells q.device.cells drives over in
    let made : cells_after change old.device.cells ≡ (step_made kind old).device.cells =
    ap (λ (x : Plain). x.device.cells) (sym (step_seen v kind old fits.device.1)) in
    let same : cells_after change q.device.cells ≡ (step_made kind q).device.cells =
    ap (λ c. cells_after c q.device.cells) (sym (changes_alike there q alike kind)) in record {
      opens = λ closed. absurd (true≢false (sym opened ∙ closed));
      overlaid = λ still. subst (IsOverlaid k p new.device.cells) same
          (forgot_overlaid k p (cells_after change old.device.cells) new.device.cells (cells_after change
          q.device.cells)
          (subst (AreEndsOf new.device.cells) (sym made) stepped.cells) both);
    }

-- where an opening goes on standing, the rest stays
still_being_opened : (k : Known) (s : State) (p : Parts) (d e : Device) (plain : List Cell) → OpensOver k.disk s p e
    → IsBeingOpened k s p d plain → IsBeingOpened k s p e plain
still_being_opened k s p d e plain opens is =
    record { opens = opens; buffer = is.buffer; view = is.view; durable = is.durable }

-- a drive whose sectors lost older values, beside which no command of an opening stands
abbrev ForgetsFor : State → Type 0
ForgetsFor (Guest side) = Unit {0}
ForgetsFor (Monitor side) = Unit {0}
ForgetsFor (Running side own purpose.Opening) = ⊥
ForgetsFor (Running side own (purpose.Piece first count lease)) = Unit {0}
ForgetsFor (Raising side dummy planned) = Unit {0}
ForgetsFor Moving = Unit {0}

forgot_over : (disk : List (List ℕ)) (s : State) (p : Parts) (d e : Device) → ForgetsFor s
    → AreEndsOf e.cells d.cells → OpensOver disk s p d → OpensOver disk s p e
forgot_over disk (Guest side) p d e may ends opens =
    opens_forgets disk p.opening p.bitmap d.cells e.cells (ends-forget d.cells e.cells ends) opens
forgot_over disk (Monitor side) p d e may ends opens =
    opens_forgets disk p.opening p.bitmap d.cells e.cells (ends-forget d.cells e.cells ends) opens
forgot_over disk (Running side own purpose.Opening) p d e may ends opens = absurd may
forgot_over disk (Running side own (purpose.Piece first count lease)) p d e may ends opens =
    opens_forgets disk p.opening p.bitmap d.cells e.cells (ends-forget d.cells e.cells ends) opens
forgot_over disk (Raising side dummy planned) p d e may ends opens =
    opens_forgets disk p.opening p.bitmap d.cells e.cells (ends-forget d.cells e.cells ends) opens
forgot_over disk Moving p d e may ends opens =
    opens_forgets disk p.opening p.bitmap d.cells e.cells (ends-forget d.cells e.cells ends) opens

forgot_sectors : (k : Known) (s : State) (p : Parts) (d e : Device) (plain : List Cell) → ForgetsFor s
    → AreEndsOf e.cells d.cells → HasSectors k s p d plain → HasSectors k s p e plain
forgot_sectors k s p d e plain may ends has = record {
  opens = λ closed.
      let is = has.opens closed in
      still_being_opened k s p d e plain (forgot_over k.disk s p d e may ends is.opens) is;
  overlaid = λ opened. forgot_overlaid k p d.cells e.cells plain ends (has.overlaid opened);
}

-- a destage lets older values go alone
pub let_go_sectors : (k : Known) (s : State) (p : Parts) (old new : Plain) (plain : List Cell) → HasLetGo old new
    → HasSectors k s p old.device plain → HasSectors k s p new.device plain
let_go_sectors k (Guest side) p old new plain gone has =
    forgot_sectors k (Guest side) p old.device new.device plain tt gone.cells has
let_go_sectors k (Monitor side) p old new plain gone has =
    forgot_sectors k (Monitor side) p old.device new.device plain tt gone.cells has
let_go_sectors k (Running side own purpose.Opening) p old new plain gone has = record {
  opens = λ closed.
      let is = has.opens closed in
      let o = is.opens in
      still_being_opened k (Running side own purpose.Opening) p old.device new.device plain record {
        origin = o.origin;
        start = o.start;
        stood = o.stood;
        whole = o.whole;
        done = let_go_kept (job_of own) (done_of own) (job_bytes (job_of own) p.sector) o.start o.origin old new o.done
            gone;
      } is;
  overlaid = λ opened. forgot_overlaid k p old.device.cells new.device.cells plain gone.cells (has.overlaid opened);
}
let_go_sectors k (Running side own (purpose.Piece first count lease)) p old new plain gone has =
    forgot_sectors k (Running side own (purpose.Piece first count lease)) p old.device new.device plain tt gone.cells
    has
let_go_sectors k (Raising side dummy planned) p old new plain gone has =
    forgot_sectors k (Raising side dummy planned) p old.device new.device plain tt gone.cells has
let_go_sectors k Moving p old new plain gone has =
    forgot_sectors k Moving p old.device new.device plain tt gone.cells has

-- a drive at rest has no command that changes a sector
rest_leaves : (phase : Phase) (v : View) (d : Device) → RestsIn phase v d → leaves_sectors phase ≡ true
rest_leaves Reset v d rests = refl
rest_leaves Idle v d rests = refl
rest_leaves (Busy order done) v d rests = absurd rests
rest_leaves (Ready order done left) v d rests = absurd rests

-- and a read of the monitor's changes none
order_leaves : (order : Taken) (first count sectors done : ℕ) → order ≡ job_order (job.Read first count) sectors
    → leaves_sectors (Busy order done) ≡ true
order_leaves (Good order) first count sectors done is =
    ap (λ taken. leaves_sectors (Busy taken done)) (good_order (job.Read first count) order sectors is)
order_leaves (Bad reason) first count sectors done is = refl

own_leaves : (phase : Phase) (failed : Bool) (first count done sectors : ℕ)
    → StandsIn phase failed (job.Read first count) done sectors → leaves_sectors phase ≡ true
own_leaves Reset failed first count done sectors stands = refl
own_leaves Idle failed first count done sectors stands = refl
own_leaves (Busy order position) failed first count done sectors stands =
    order_leaves order first count sectors position stands.order_is
own_leaves (Ready order position left) failed first count done sectors stands = refl

dummy_leaves : (phase : Phase) (failed : Bool) (sector sectors : ℕ) → FliesIn phase failed sector sectors
    → leaves_sectors phase ≡ true
dummy_leaves Reset failed sector sectors flies = refl
dummy_leaves Idle failed sector sectors flies = refl
dummy_leaves (Busy order position) failed sector sectors flies =
    order_leaves order sector 1 sectors position flies.order_is
dummy_leaves (Ready order position left) failed sector sectors flies = refl

-- so its steps let older values go at most
left_sectors : (k : Known) (s : State) (p : Parts) (kind : Step) (effect : Stepped) (old new : Plain)
    (plain : List Cell) → ForgetsFor s → leaves_sectors old.device.file.phase ≡ true → HasStepped kind effect old new
    → HasSectors k s p old.device plain → HasSectors k s p new.device plain
left_sectors k s p kind effect old new plain may reads stepped has =
    forgot_sectors k s p old.device new.device plain may
    (subst (AreEndsOf new.device.cells) (step_leaves kind old reads) stepped.cells) has

-- an own command that reads a piece
piece_job : (phase : Phase) (own : Own) (first count : ℕ) (v : View) (p : Parts) → ReadsIn phase own first count v p
    → job_of own ≡ job.Read first count
piece_job Reset own first count v p reads = absurd reads
piece_job Idle own first count v p reads = absurd reads
piece_job (Busy order done) own first count v p reads = reads.job
piece_job (Ready order done left) own first count v p reads = absurd reads

-- on the monitor's side no step changes a sector of the plain drive's
pub monitors_step_sectors : (k : Known) (s : State) (p : Parts) (kind : Step) (effect : Stepped) (old new : Plain)
    (plain : List Cell) → is_guests s ≡ false → IsLawful old.device → Fits s p old.device
    → HasStepped kind effect old new → HasSectors k s p old.device plain → HasSectors k s p new.device plain
monitors_step_sectors k (Guest side) p kind effect old new plain apart lawful fits stepped has =
    absurd (true≢false apart)
monitors_step_sectors k (Monitor side) p kind effect old new plain apart lawful fits stepped has =
    left_sectors k (Monitor side) p kind effect old new plain tt
    (rest_leaves old.device.file.phase (view_held side) old.device fits.device.0) stepped has
monitors_step_sectors k (Running side own purpose.Opening) p kind effect old new plain apart lawful fits stepped has =
    record {
      opens = λ closed.
          let is = has.opens closed in
          let o = is.opens in
          still_being_opened k (Running side own purpose.Opening) p old.device new.device plain record {
            origin = o.origin;
            start = o.start;
            stood = o.stood;
            whole = o.whole;
            done = stepped_kept (job_of own) (done_of own) (job_bytes (job_of own) p.sector) o.start o.origin kind
                effect
                old new lawful fits.device o.done stepped;
          } is;
      overlaid = λ opened. absurd (true≢false (sym opened
          ∙ ap (λ next. not (is_some next)) fits.parts.state.5.0));
    }
monitors_step_sectors k (Running side own (purpose.Piece first count lease)) p kind effect old new plain apart lawful
    fits stepped has =
    left_sectors k (Running side own (purpose.Piece first count lease)) p kind effect old new plain tt
    (own_leaves old.device.file.phase old.device.file.failed first count (done_of own) old.device.sectors
    (subst (λ (j : OwnJob). StandsIn old.device.file.phase old.device.file.failed j (done_of own) old.device.sectors)
    (piece_job (view_held side).file.phase own first count (view_held side) p fits.parts.state.5) fits.device.stands))
    stepped has
monitors_step_sectors k (Raising side dummy planned) p kind effect old new plain apart lawful fits stepped has =
    left_sectors k (Raising side dummy planned) p kind effect old new plain tt
    (dummy_leaves old.device.file.phase old.device.file.failed (sector_of dummy) old.device.sectors
    fits.device.0.stands) stepped has
monitors_step_sectors k Moving p kind effect old new plain apart lawful fits stepped has = absurd fits.device
