-- What a call leaves of the sectors that the plain drive has.
use Rattle.std.proofs.Common.{◌≡◌, ℕ, Bool, true, false, List, [], ◌∷◌, Option, Some, None, if◌then◌else◌, refl, sym, ap, ◌∙◌, subst}
use Rattle.std.proofs.lemmas.Bool.{true≢false}
use Rattle.ata_taskfile.specs.declared.Access.{Access}
use Rattle.ata_taskfile.specs.declared.Taken.TheVariants.{Good, Bad}
use Rattle.ata_taskfile.specs.declared.Phase.{Phase}
use Rattle.ata_taskfile.specs.declared.Phase.TheVariants.{Reset, Idle, Busy, Ready}
use Rattle.ata_taskfile.specs.declared.Step.{Step}
use Rattle.ata_taskfile.specs.declared.Stepped.{Stepped}
use Rattle.ata_taskfile.specs.declared.task_file.TaskFile.{TaskFile}
use Rattle.ata_taskfile.specs.Accesses.{Reaches, all_accessed}
use Rattle.ata_taskfile.specs.Access.{accessed}
use Rattle.ata_taskfile.specs.Device.{Cell, Device}
use Rattle.ata_taskfile.specs.Lawful.{IsLawful}
use Rattle.ata_taskfile.proofs.Cells.{accessed-cells}
use Rattle.aoe_client.specs.Asking.{Asking, HasTags}
use Rattle.mon_pool.specs.Region.{HasWholeBuffers, Region}
use Rattle.dummy_read.specs.Flight.{ended}
use Rattle.plain_drive.specs.Alike.{ReadAlike, gives_data}
use Rattle.plain_drive.specs.Plain.{Plain}
use Rattle.plain_drive.specs.Step.{acts, step_made}
use Rattle.plain_drive.proofs.Likeness.{acts_alike}
use Rattle.overlay.specs.Steps.{leaves_sectors}
use Rattle.overlay.proofs.StepChanges.{went_leaves}
use Rattle.port_lease.specs.declared.guest_side.GuestSide.{GuestSide}
use Rattle.port_lease.specs.declared.monitor_side.MonitorSide.{MonitorSide}
use Rattle.dummy_read.specs.declared.dummy.Dummy.{Dummy}
use Rattle.port_lease.specs.Sides.{view_held, view_kept}
use Rattle.port_lease.specs.Seen.{drive_on_guest_side}
use Rattle.port_lease.proofs.GuestSteps.{acts_seen}
use Rattle.schedule_text.specs.declared.Item.{Item}
use Rattle.schedule_text.specs.declared.Item.TheVariants.{Answer, Go, Bad as BadStep, Command, Asked, Ready as IsReady, Left, Reserved, Forged}
use Rattle.plain_run.specs.Plan.{planned}
use Rattle.streaming.specs.Monitor.{item_of}
use Rattle.streaming.specs.Told.{MayTell}
use Rattle.monitor_state.specs.declared.state.State.{State}
use Rattle.monitor_state.specs.declared.state.State.TheVariants.{Guest, Monitor, Running, Raising, Moving}
use Rattle.monitor_state.specs.declared.state.Purpose.TheVariants as purpose
use Rattle.monitor_state.specs.declared.state.Plan.{Plan}
use Rattle.monitor_state.specs.declared.state.Plan.TheVariants as plan
use Rattle.monitor_state.specs.declared.parts.Parts.{Parts}
use Rattle.monitor_state.specs.State.{is_guests, is_opened}
use Rattle.monitor_state.specs.Fits.{Fits, FitsPlan}
use Rattle.monitor_state.specs.Overlaid.{HasSectors, Known, OpeningGoesOn, OpensOver}
use Rattle.monitor_state.specs.Buffered.{HasBuffers}
use Rattle.monitor_state.specs.Sectors.{SectorsAgree}
use Rattle.mediator.proofs.Came.{came_agrees}
use Rattle.monitor_state.specs.Seen.{Shows, file_seen, is_refused_in}
use Rattle.monitor_state.proofs.Shown.{shown_alike}
use Rattle.monitor_state.proofs.Overlaid.{guests_reads, registered_sectors}
use Rattle.monitor_state.proofs.OverlaidSteps.{guests_step_sectors, monitors_step_sectors}
use Rattle.monitor_access.specs.Parts.{KeepsOthers}
use Rattle.monitor_turn.specs.Told.{tells_steps}
use Rattle.monitor_turn.specs.Turned.{KeepsImage}
use Rattle.monitor_events.specs.Shown.{HasComeTo}
use Rattle.monitor_events.specs.Stepping.{device_after_step, ends_dummy, item_planned, parts_after_step, parts_planned, plan_due_of, plan_of_step}
use Rattle.monitor_events.proofs.GuestsSteps.{effect_told}

-- register accesses change no cell
all_cells : (accesses : List Access) (d : Device) → (all_accessed accesses d).cells ≡ d.cells
all_cells [] d = refl
all_cells (first ∷ accesses) d = all_cells accesses (accessed first d) ∙ accessed-cells first d

reached_cells : (d e : Device) → ((origin : Device) → Reaches origin d → Reaches origin e) → e.cells ≡ d.cells
reached_cells d e reached =
    let reaches = reached d (record { accesses = []; leads = refl }) in
    ap (λ (x : Device). x.cells) reaches.leads ∙ all_cells reaches.accesses d

-- a call that reached the drive by register accesses alone, and the bitmap in an opening alone
called_sectors : (opened : Bool) (k : Known) (s t : State) (p r : Parts) (d e : Device) (plain : List Cell)
    → is_opened p ≡ opened → KeepsImage p r → e.cells ≡ d.cells → OpeningGoesOn s p d t r e
    → HasSectors k s p d plain → HasSectors k t r e plain
called_sectors true k s t p r d e plain is image cells goes_on has =
    registered_sectors k s t p r d e plain is image.area image.id (image.opening is) (image.bitmap is) cells has
called_sectors false k s t p r d e plain is image cells goes_on has = goes_on is k plain has

-- an access keeps the sectors
pub accessed_sectors : (k : Known) (s t : State) (p r : Parts) (d e : Device) (plain : List Cell) → KeepsOthers p r
    → ((origin : Device) → Reaches origin d → Reaches origin e) → OpeningGoesOn s p d t r e
    → HasSectors k s p d plain → HasSectors k t r e plain
accessed_sectors k s t p r d e plain others reached goes_on has =
    called_sectors (is_opened p) k s t p r d e plain refl record {
      area = ap (λ (q : Parts). q.area) others;
      id = ap (λ (q : Parts). q.id) others;
      opening = λ opened. ap (λ (q : Parts). q.opening) others;
      bitmap = λ opened. ap (λ (q : Parts). q.bitmap) others;
    } (reached_cells d e reached) goes_on has

-- steps that are told where they leave the sectors do so
told_cells : (told : Option Item) (q : Plain) → MayTell told
    → (tells_steps told ≡ true → leaves_sectors q.device.file.phase ≡ true)
    → (planned (item_of told) q).device.cells ≡ q.device.cells
told_cells None q may leaves = refl
told_cells (Some Answer) q may leaves = absurd may
told_cells (Some (Go n)) q may leaves = went_leaves n q (leaves refl)
told_cells (Some BadStep) q may leaves = absurd may
told_cells (Some (Command byte first count)) q may leaves = refl
told_cells (Some (Asked tag)) q may leaves = absurd may
told_cells (Some IsReady) q may leaves = refl
told_cells (Some Left) q may leaves = absurd may
told_cells (Some Reserved) q may leaves = absurd may
told_cells (Some Forged) q may leaves = absurd may

phase_seen : (s : State) (p : Parts) (d : Device) (memory : List ℕ) (q : Plain) → Shows s p d memory q
    → q.device.file.phase ≡ (file_seen s d).phase
phase_seen s p d memory q shows = ap (λ (f : TaskFile). f.phase) shows.file

-- a turn's steps change no sector of the plain drive
pub turned_cells : (s : State) (p : Parts) (d : Device) (memory : List ℕ) (told : Option Item) (q : Plain)
    → MayTell told → (tells_steps told ≡ true → leaves_sectors (file_seen s d).phase ≡ true) → Shows s p d memory q
    → (planned (item_of told) q).device.cells ≡ q.device.cells
turned_cells s p d memory told q may steps shows =
    told_cells told q may (λ tells. ap leaves_sectors (phase_seen s p d memory q shows) ∙ steps tells)

-- so a turn keeps the sectors
pub turned_sectors : (k : Known) (s t : State) (p r : Parts) (d e : Device) (memory : List ℕ) (told : Option Item)
    (q : Plain) → KeepsImage p r → ((origin : Device) → Reaches origin d → Reaches origin e)
    → OpeningGoesOn s p d t r e → MayTell told
    → (tells_steps told ≡ true → leaves_sectors (file_seen s d).phase ≡ true)
    → Shows s p d memory q → HasSectors k s p d q.device.cells
    → HasSectors k t r e (planned (item_of told) q).device.cells
turned_sectors k s t p r d e memory told q image reached goes_on may steps shows has =
    subst (HasSectors k t r e) (sym (turned_cells s p d memory told q may steps shows))
    (called_sectors (is_opened p) k s t p r d e q.device.cells refl image (reached_cells d e reached) goes_on has)

-- the step that was planned for the view changes no sector of the plain drive
planned_cells : (planned_step : Plan) (phase : Phase) (p : Parts) (q : Plain) → q.device.file.phase ≡ phase
    → FitsPlan planned_step phase p → (is_refused_in phase p ≡ false)
    → (planned (item_planned planned_step ∷ []) q).device.cells ≡ q.device.cells
planned_cells plan.Serve (Busy (Good order) done) p q is fits served =
    went_leaves 1 q (ap leaves_sectors is ∙ ap gives_data fits.0)
planned_cells plan.End (Busy (Good order) done) p q is fits served =
    went_leaves 1 q (ap leaves_sectors is ∙ ap gives_data fits.0)
planned_cells plan.Fail phase p q is fits served = refl
planned_cells plan.Reserved (Busy order done) p q is fits served = absurd (true≢false (sym fits.1 ∙ served))
planned_cells plan.Serve Reset p q is fits served = absurd fits
planned_cells plan.Serve Idle p q is fits served = absurd fits
planned_cells plan.Serve (Busy (Bad reason) done) p q is fits served = absurd fits
planned_cells plan.Serve (Ready order done left) p q is fits served = absurd fits
planned_cells plan.End Reset p q is fits served = absurd fits
planned_cells plan.End Idle p q is fits served = absurd fits
planned_cells plan.End (Busy (Bad reason) done) p q is fits served = absurd fits
planned_cells plan.End (Ready order done left) p q is fits served = absurd fits
planned_cells plan.Reserved Reset p q is fits served = absurd fits
planned_cells plan.Reserved Idle p q is fits served = absurd fits
planned_cells plan.Reserved (Ready order done left) p q is fits served = absurd fits

-- the effect of a step on the guest's side is told, and the plain drive makes it
effect_cells : (kind : Step) (effect : Stepped) (side : GuestSide) (p : Parts) (old now : Plain) (q : Plain)
    → HasComeTo (Guest side) p kind effect old now → Shows (Guest side) p old.device old.memory q
    → ReadAlike old.device.file.phase old.device q.device
    → (step_made kind q).device.cells ≡ (planned (item_of (plan_of_step kind effect)) q).device.cells
effect_cells kind effect side p old now q come shows reads =
    let v = view_kept side in
    let alike = shown_alike side p old.device old.memory q come.fits.sectors shows reads in
    ap (λ (x : Plain). x.device.cells)
    (effect_told kind effect (acts kind old) q
    (acts_alike (drive_on_guest_side v old) q alike kind ∙ acts_seen v kind old come.fits.device.1)
    come.stepped.answer).1

-- a dummy read goes on, or its end brings the step that was planned for the view
raised_sectors : (pends : Bool) (k : Known) (side : MonitorSide) (dummy : Dummy) (kind : Plan) (t : State) (p : Parts)
    (d : Device) (q : Plain) → is_opened p ≡ true → q.device.file.phase ≡ (view_held side).file.phase
    → FitsPlan kind (view_held side).file.phase p → is_refused_in (view_held side).file.phase p ≡ false
    → (pends ≡ false → t ≡ Raising side dummy kind) → HasSectors k (Raising side dummy kind) p d q.device.cells
    → HasSectors k t (if pends then parts_planned kind p else p) (if pends then ended false d else d)
    (planned (item_of (if pends then Some (item_planned kind) else None)) q).device.cells
raised_sectors true k side dummy kind t p d q opened is fits served stays has =
    subst (HasSectors k t (parts_planned kind p) (ended false d))
    (sym (planned_cells kind (view_held side).file.phase p q is fits served))
    (registered_sectors k (Raising side dummy kind) t p (parts_planned kind p) d (ended false d) q.device.cells opened
    refl refl refl refl refl has)
raised_sectors false k side dummy kind t p d q opened is fits served stays has =
    subst (λ t. HasSectors k t p d q.device.cells) (sym (stays refl)) has

-- a step of the drive keeps the sectors
pub stepped_sectors : (k : Known) (s t : State) (p : Parts) (kind : Step) (effect : Stepped) (old now : Plain)
    (q : Plain) → HasComeTo s p kind effect old now → (ends_dummy s now.device ≡ false → t ≡ s)
    → Shows s p old.device old.memory q → HasSectors k s p old.device q.device.cells
    → HasSectors k t (parts_after_step s now.device p) (device_after_step s now.device)
    (planned (item_of (plan_due_of s kind effect now.device)) q).device.cells
stepped_sectors k (Guest side) t p kind effect old now q come stays shows has =
    subst (λ t. HasSectors k t p now.device (planned (item_of (plan_of_step kind effect)) q).device.cells)
    (sym (stays refl))
    (subst (HasSectors k (Guest side) p now.device)
    (effect_cells kind effect side p old now q come shows (guests_reads k side p old.device q come.lawful come.fits
    has))
    (guests_step_sectors k side p kind effect old now q come.lawful come.fits shows come.stepped has))
stepped_sectors k (Monitor side) t p kind effect old now q come stays shows has =
    subst (λ t. HasSectors k t p now.device q.device.cells) (sym (stays refl))
    (monitors_step_sectors k (Monitor side) p kind effect old now q.device.cells refl come.lawful come.fits come.stepped
    has)
stepped_sectors k (Running side own why) t p kind effect old now q come stays shows has =
    subst (λ t. HasSectors k t p now.device q.device.cells) (sym (stays refl))
    (monitors_step_sectors k (Running side own why) p kind effect old now q.device.cells refl come.lawful come.fits
    come.stepped has)
stepped_sectors k (Raising side dummy planned_step) t p kind effect old now q come stays shows has =
    raised_sectors now.device.file.pending k side dummy planned_step t p now.device q come.fits.parts.state.4
    (phase_seen (Raising side dummy planned_step) p old.device old.memory q shows) come.fits.parts.state.7 shows.served
    stays
    (monitors_step_sectors k (Raising side dummy planned_step) p kind effect old now q.device.cells refl come.lawful
    come.fits come.stepped has)
stepped_sectors k Moving t p kind effect old now q come stays shows has = absurd come.fits.device

-- while the monitor has the drive no step of the drive changes a sector of the plain one
raised_cells : (pends : Bool) (kind : Plan) (phase : Phase) (p : Parts) (q : Plain) → q.device.file.phase ≡ phase
    → FitsPlan kind phase p → is_refused_in phase p ≡ false
    → (planned (item_of (if pends then Some (item_planned kind) else None)) q).device.cells ≡ q.device.cells
raised_cells true kind phase p q is fits served = planned_cells kind phase p q is fits served
raised_cells false kind phase p q is fits served = refl

pub unseen_cells : (s : State) (p : Parts) (kind : Step) (effect : Stepped) (old now q : Plain)
    → HasComeTo s p kind effect old now → Shows s p old.device old.memory q → is_guests s ≡ false
    → (planned (item_of (plan_due_of s kind effect now.device)) q).device.cells ≡ q.device.cells
unseen_cells (Guest side) p kind effect old now q come shows apart = absurd (true≢false apart)
unseen_cells (Monitor side) p kind effect old now q come shows apart = refl
unseen_cells (Running side own why) p kind effect old now q come shows apart = refl
unseen_cells (Raising side dummy planned_step) p kind effect old now q come shows apart =
    raised_cells now.device.file.pending planned_step (view_held side).file.phase p q
    (phase_seen (Raising side dummy planned_step) p old.device old.memory q shows) come.fits.parts.state.7 shows.served
unseen_cells Moving p kind effect old now q come shows apart = absurd come.fits.device

-- and so it is where the call found the drive, and what it made of that
pub stepped_sectors_at : (k : Known) (s t : State) (p r : Parts) (kind : Step) (effect : Stepped) (old now : Plain)
    (d e : Device) (told : Option Item) (q : Plain) → now.device ≡ d → (ends_dummy s d ≡ false → t ≡ s)
    → r ≡ parts_after_step s d p → e ≡ device_after_step s d → told ≡ plan_due_of s kind effect d
    → HasComeTo s p kind effect old now → Shows s p old.device old.memory q
    → HasSectors k s p old.device q.device.cells → HasSectors k t r e (planned (item_of told) q).device.cells
stepped_sectors_at k s t p r kind effect old now d e told q at stays parts device plan come shows has =
    let from = stepped_sectors k s t p kind effect old now q come
    (λ apart. stays (ap (ends_dummy s) (sym at) ∙ apart)) shows has in
    let there = subst (λ (d : Device). HasSectors k t (parts_after_step s d p) (device_after_step s d)
    (planned (item_of (plan_due_of s kind effect d)) q).device.cells) at from in
    subst (λ r. HasSectors k t r e (planned (item_of told) q).device.cells) (sym parts)
    (subst (λ (e : Device). HasSectors k t (parts_after_step s d p) e (planned (item_of told) q).device.cells) (sym
    device)
    (subst (λ told. HasSectors k t (parts_after_step s d p) (device_after_step s d) (planned (item_of told)
    q).device.cells)
    (sym plan) there))

-- what the client asks for, and the bytes of the pool's buffers, are nothing of the sectors
client_opens : (disk : List (List ℕ)) (s : State) (p : Parts) (c : Asking) (pool : Region) (d : Device)
    → OpensOver disk s p d → OpensOver disk s (record p { client = c; pool = pool }) d
client_opens disk (Guest side) p c pool d opens = opens
client_opens disk (Monitor side) p c pool d opens = opens
client_opens disk (Running side own purpose.Opening) p c pool d opens = record {
  origin = opens.origin;
  start = opens.start;
  stood = opens.stood;
  whole = opens.whole;
  done = opens.done;
}
client_opens disk (Running side own (purpose.Piece first count lease)) p c pool d opens = opens
client_opens disk (Raising side dummy kind) p c pool d opens = opens
client_opens disk Moving p c pool d opens = opens

pub client_sectors : (k : Known) (s : State) (p : Parts) (c : Asking) (pool : Region) (d : Device)
    (plain : List Cell) → HasSectors k s p d plain → HasSectors k s (record p { client = c; pool = pool }) d plain
client_sectors k s p c pool d plain has = record {
  opens = λ closed.
      let is = has.opens closed in record {
        opens = client_opens k.disk s p c pool d is.opens;
        buffer = is.buffer;
        view = is.view;
        durable = is.durable;
      };
  overlaid = λ opened.
      let is = has.overlaid opened in record {
        values = is.values;
        survives = is.survives;
        kept = is.kept;
        durable = is.durable;
        settled = is.settled;
      };
}

-- what the guest gets of sectors is the plain drive's
pub sectors_agree : (k : Known) (s : State) (p : Parts) (d : Device) (q : Plain) → IsLawful d → Fits s p d
    → HasSectors k s p d q.device.cells → HasBuffers k.image s p d q.device
    → HasTags p.client.block p.client.demand → HasWholeBuffers p.pool → SectorsAgree s p d q
sectors_agree k (Guest side) p d q lawful fits has buffers tags whole = record {
  drives = λ guests. guests_reads k side p d q lawful fits has;
  held = buffers.held;
  came = came_agrees k (Guest side) p d q fits has buffers tags whole;
}
sectors_agree k (Monitor side) p d q lawful fits has buffers tags whole = record {
  drives = λ guests. cc;
  held = buffers.held;
  came = came_agrees k (Monitor side) p d q fits has buffers tags whole;
}
sectors_agree k (Running side own why) p d q lawful fits has buffers tags whole = record {
  drives = λ guests. cc;
  held = buffers.held;
  came = came_agrees k (Running side own why) p d q fits has buffers tags whole;
}
sectors_agree k (Raising side dummy kind) p d q lawful fits has buffers tags whole = record {
  drives = λ guests. cc;
  held = buffers.held;
  came = came_agrees k (Raising side dummy kind) p d q fits has buffers tags whole;
}
sectors_agree k Moving p d q lawful fits has buffers tags whole = absurd fits.device
