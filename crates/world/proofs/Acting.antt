-- What an event makes of a drive and its monitor.
use Rattle.std.proofs.Common.{◌≡◌, Bool, true, false, List, [], ◌∷◌, ◌++◌, Option, Some, None, length, refl, sym, ap, ◌∙◌, subst, append-nil}
use Rattle.std.specs.Prelude.{◌&&◌, not, ℕ, if◌then◌else◌, slice_get}
use Rattle.ata_taskfile.specs.declared.Access.TheVariants as access
use Rattle.ata_taskfile.specs.declared.Reg.{Reg}
use Rattle.ata_taskfile.specs.declared.Reg.TheVariants.{Error, Count, Low, Mid, High, Device, Status, Alternate, BusCommand, BusStatus}
use Rattle.ata_taskfile.specs.declared.Step.{Step}
use Rattle.ata_taskfile.specs.declared.Step.TheVariants as step
use Rattle.ata_taskfile.specs.declared.Stepped.{Stepped}
use Rattle.ata_taskfile.specs.declared.Stepped.TheVariants.{Changed, Nothing}
use Rattle.ata_taskfile.specs.declared.task_file.TaskFile.{TaskFile}
use Rattle.ata_taskfile.specs.Accesses.{Reaches}
use Rattle.ata_taskfile.specs.Device as device
use Rattle.ata_taskfile.specs.Lawful.{is_just_taken}
use Rattle.aoe_net.specs.Wire.{Wire}
use Rattle.aoe_net.specs.declared.way.Way.TheVariants.{ToClient}
use Rattle.aoe_client.specs.declared.client.Heard.{Heard}
use Rattle.aoe_client.specs.declared.client.Heard.TheVariants.{Took, Ignored}
use Rattle.aoe_client.specs.Asking.{both_ticked, due_tags}
use Rattle.plain_drive.specs.Physical.{Physical, physical_step, seen}
use Rattle.schedule_text.specs.declared.Event.{Event}
use Rattle.schedule_text.specs.declared.Item.{Item}
use Rattle.schedule_text.specs.declared.Event.TheVariants as event
use Rattle.schedule_text.specs.declared.Item.TheVariants.{Bad, Forged, Go, Reserved}
use Rattle.schedule_text.specs.Taken.{commands_due}
use Rattle.guest_view.specs.View.{takes_command}
use Rattle.monitor_state.specs.declared.state.State.{State}
use Rattle.monitor_state.specs.declared.state.State.TheVariants.{Guest, Monitor, Running, Raising, Moving}
use Rattle.monitor_state.specs.declared.state.Plan.{Plan}
use Rattle.monitor_state.specs.declared.state.Plan.TheVariants as plan
use Rattle.monitor_state.specs.declared.parts.Parts.{Parts}
use Rattle.monitor_state.specs.Classes.{is_refused}
use Rattle.monitor_access.specs.Marks.{mark_over, order_written}
use Rattle.monitor_events.specs.Stepping.{item_planned, plan_due_of}
use Rattle.streaming.specs.Client.{ActsOnClient, ClientTurned, Hears, HearsIfAny, TakesFrame}
use Rattle.streaming.specs.Monitor.{MayTellUnder, TakesStray, Watched, answer_if, asked_items, item_of, reads}
use Rattle.streaming.specs.Told.{MayTell, command_told, tells_ready}
use Rattle.streaming.specs.Trace.{IsTraced, MemoryGoes, moved_by}
use Rattle.streaming.proofs.AtWork.{begins_none, steps_take_none}
use Rattle.streaming.proofs.Untold.{never_both, none_due}
use Rattle.world.specs.Acting.{HasAccessed, HasActed}

-- a device is reached by no access
pub reached_itself : (d : device.Device) → Reaches d d
reached_itself d = record { accesses = []; leads = refl }

-- no access was made
pub none_accessed : (p : Physical) (w : Watched) → HasAccessed p p w w
none_accessed p w = record {
  reached = λ origin was. was;
  kept = refl;
  memory = refl;
  takes = λ fresh. fresh;
  watched = refl;
}

-- accesses and then others
pub more_accessed : (p q r : Physical) (u v w : Watched) → HasAccessed p q u v → HasAccessed q r v w
    → HasAccessed p r u w
more_accessed p q r u v w first next = record {
  reached = λ origin was. next.reached origin (first.reached origin was);
  kept = next.kept ∙ first.kept;
  memory = next.memory ∙ first.memory;
  takes = λ fresh. first.takes (next.takes fresh);
  watched = next.watched ∙ first.watched;
}

-- what an event tells that is no command, no end of opening and no stray frame
pub record TellsOther (one : Event) (told : Option Item) : Type 0 where
  pub may : MayTellUnder one told
  pub commands : command_told told ≡ []
  pub readies : tells_ready told ≡ false
  pub unforged : ¬ (told ≡ Some Forged)

-- nothing
pub tells_nothing : (one : Event) → TellsOther one None
tells_nothing one = record { may = tt; commands = refl; readies = refl; unforged = λ is. cc }

mark_tells : (v : ℕ) (refused : Bool)
    → TellsOther (event.Write8 Status v) (if refused then Some Reserved else None)
mark_tells v true = record { may = tt; commands = refl; readies = refl; unforged = λ is. cc }
mark_tells v false = tells_nothing (event.Write8 Status v)

written_tells : (v : ℕ) (takes refused : Bool)
    → TellsOther (event.Write8 Status v) (if takes then (if refused then Some Reserved else None) else None)
written_tells v true refused = mark_tells v refused
written_tells v false refused = tells_nothing (event.Write8 Status v)

-- a write of the guest's may be marked
pub write_tells : (r : Reg) (v : ℕ) (f : TaskFile) (p : Parts)
    → TellsOther (event.Write8 r v) (mark_over f p (access.Write8 r v))
write_tells Status v f p = written_tells v (takes_command (access.Write8 Status v) f)
    (is_refused (order_written (access.Write8 Status v) f p.area.sectors) p)
write_tells Error v f p = tells_nothing (event.Write8 Error v)
write_tells Count v f p = tells_nothing (event.Write8 Count v)
write_tells Low v f p = tells_nothing (event.Write8 Low v)
write_tells Mid v f p = tells_nothing (event.Write8 Mid v)
write_tells High v f p = tells_nothing (event.Write8 High v)
write_tells Device v f p = tells_nothing (event.Write8 Device v)
write_tells Alternate v f p = tells_nothing (event.Write8 Alternate v)
write_tells BusCommand v f p = tells_nothing (event.Write8 BusCommand v)
write_tells BusStatus v f p = tells_nothing (event.Write8 BusStatus v)

go_tells : (s : Step) → TellsOther (event.Drive s) (Some (Go 1))
go_tells s = record { may = refl; commands = refl; readies = refl; unforged = λ is. cc }

bad_tells : (s : Step) → TellsOther (event.Drive s) (Some Bad)
bad_tells s = record { may = tt; commands = refl; readies = refl; unforged = λ is. cc }

planned_tells : (s : Step) (planned : Plan) (pends : Bool)
    → TellsOther (event.Drive s) (if pends then Some (item_planned planned) else None)
planned_tells s plan.Serve true = go_tells s
planned_tells s plan.End true = go_tells s
planned_tells s plan.Fail true = bad_tells s
planned_tells s plan.Reserved true = go_tells s
planned_tells s planned false = tells_nothing (event.Drive s)

-- a step of the drive tells a step of the guest's drive, if any
pub step_tells : (state : State) (s : Step) (effect : Stepped) (d : device.Device)
    → TellsOther (event.Drive s) (plan_due_of state s effect d)
step_tells (Guest side) step.Good Changed d = go_tells step.Good
step_tells (Guest side) step.Bad Changed d = bad_tells step.Bad
step_tells (Guest side) s Nothing d = tells_nothing (event.Drive s)
step_tells (Monitor side) s effect d = tells_nothing (event.Drive s)
step_tells (Running side own why) s effect d = tells_nothing (event.Drive s)
step_tells (Raising side dummy planned) s effect d = planned_tells s planned d.file.pending
step_tells Moving s effect d = tells_nothing (event.Drive s)

-- of a client of which nothing is due an event's items are its answer and what it tells
nothing_due : (one : Event) (told : Option Item) (tags : List ℕ) (items : List Item) → tags ≡ []
    → items ≡ answer_if (reads one) ++ item_of told
    → items ≡ answer_if (reads one) ++ item_of told ++ asked_items tags
nothing_due one told tags items none are =
    are ∙ sym (ap (λ some. answer_if (reads one) ++ item_of told ++ asked_items some) none
    ∙ append-nil (answer_if (reads one) ++ item_of told))

-- an event of which no request and no stray frame comes, and in which no command is taken
pub other_acts : (one : Event) (wire : Wire) (p q : Physical) (old new : Watched) (items : List Item)
    (told : Option Item) → TellsOther one told → new ≡ old → due_tags new.asking ≡ []
    → items ≡ answer_if (reads one) ++ item_of told → IsTraced one [] p q
    → ActsOnClient one wire old.asking old.asking → ¬ TakesStray one old.asking
    → HasActed one wire p q old new items
other_acts one wire p q old new items told tells same none are traced acts unstray = record {
  told = told;
  traced = subst (λ commands. IsTraced one commands p q) (sym tells.commands) traced;
  items_are = nothing_due one told (due_tags new.asking) items none are;
  may = tells.may;
  acts = subst (ActsOnClient one wire old.asking) (ap (λ (w : Watched). w.asking) (sym same)) acts;
  ready = subst (λ (w : Watched). tells_ready told ≡ (not old.opened && w.opened)) (sym same)
      (tells.readies ∙ never_both old.opened);
  stays = λ was. ap (λ (w : Watched). w.opened) same ∙ was;
  forged = (λ is. absurd (tells.unforged is), λ takes. absurd (unstray takes));
}

-- an event that doesn't move the drive, and whose accesses were made
pub accesses_trace : (one : Event) (p q : Physical) (old new : Watched) → HasAccessed p q old new
    → moved_by one p ≡ p → MemoryGoes one p.memory p.memory → IsTraced one [] p q
accesses_trace one p q old new accessed still stays =
    let reached = accessed.reached (seen p).device (reached_itself (seen p).device) in
    record {
      reached = subst (λ (m : Physical). Reaches (seen m).device (seen q).device) (sym still) reached;
      kept = accessed.kept ∙ ap (λ (m : Physical). m.kept) (sym still);
      memory = subst (λ (m : Physical). MemoryGoes one m.memory q.memory) (sym still)
          (subst (MemoryGoes one p.memory) (sym accessed.memory) stays);
      commands_are = none_due p.file q.file accessed.takes;
      begins = begins_none (seen p).device (seen q).device reached;
      stood = λ was fresh. ap (λ (m : Physical). is_just_taken m.file.phase) still ∙ was;
    }

pub accessed_acts : (one : Event) (wire : Wire) (p q : Physical) (old new : Watched) (items : List Item)
    (told : Option Item) → TellsOther one told → HasAccessed p q old new → due_tags new.asking ≡ []
    → items ≡ answer_if (reads one) ++ item_of told → moved_by one p ≡ p → MemoryGoes one p.memory p.memory
    → ActsOnClient one wire old.asking old.asking → ¬ TakesStray one old.asking
    → HasActed one wire p q old new items
accessed_acts one wire p q old new items told tells accessed none are still stays acts unstray =
    other_acts one wire p q old new items told tells accessed.watched none are
    (accesses_trace one p q old new accessed still stays) acts unstray

-- an event that reaches no register
pub quiet_trace : (one : Event) (p q : Physical) → Reaches (seen (moved_by one p)).device (seen q).device
    → q.kept ≡ (moved_by one p).kept → MemoryGoes one (moved_by one p).memory q.memory → q.file ≡ p.file
    → (moved_by one p).file ≡ p.file → IsTraced one [] p q
quiet_trace one p q reached kept memory same stays = record {
  reached = reached;
  kept = kept;
  memory = memory;
  commands_are = none_due p.file q.file (λ fresh. ap (λ (f : TaskFile). is_just_taken f.phase) (sym same) ∙ fresh);
  begins = λ was fresh. ap (λ (f : TaskFile). f.phase) same;
  stood = λ was fresh. ap (λ (f : TaskFile). is_just_taken f.phase) stays ∙ was;
}

-- a step of the drive, and then what the monitor made of its end
pub step_trace : (s : Step) (p q : Physical) → Reaches (seen (physical_step s p)).device (seen q).device
    → q.kept ≡ (physical_step s p).kept → q.memory ≡ (physical_step s p).memory
    → (is_just_taken q.file.phase ≡ true → q.file.phase ≡ (physical_step s p).file.phase)
    → IsTraced (event.Drive s) [] p q
step_trace s p q reached kept memory ends =
    let stays : is_just_taken q.file.phase ≡ true → q.file.phase ≡ p.file.phase = λ fresh.
    ends fresh ∙ steps_take_none s p (ap is_just_taken (sym (ends fresh)) ∙ fresh) in
    record {
      reached = reached;
      kept = kept;
      memory = memory;
      commands_are = none_due p.file q.file (λ fresh. ap is_just_taken (sym (stays fresh)) ∙ fresh);
      begins = λ was. stays;
      stood = λ was fresh. ap is_just_taken (sym (ends fresh)) ∙ fresh;
    }

-- a turn
turn_may : (told : Option Item) → MayTell told → MayTellUnder event.Turn told
turn_may None may = tt
turn_may (Some one) may = may

pub turn_acts : (wire : Wire) (p q : Physical) (old new : Watched) (items : List Item) (told : Option Item)
    → ((origin : device.Device) → Reaches origin (seen p).device → Reaches origin (seen q).device)
    → q.kept ≡ p.kept → length q.memory ≡ length p.memory
    → items ≡ item_of told ++ asked_items (due_tags new.asking) → MayTell told
    → command_told told ≡ commands_due p.file q.file → ClientTurned old.asking new.asking
    → tells_ready told ≡ (not old.opened && new.opened) → (old.opened ≡ true → new.opened ≡ true)
    → HasActed event.Turn wire p q old new items
turn_acts wire p q old new items told reaches kept memory are may commands turned ready stays =
    let reached = reaches (seen p).device (reached_itself (seen p).device) in
    record {
      told = told;
      traced = record {
        reached = reached;
        kept = kept;
        memory = memory;
        commands_are = commands;
        begins = begins_none (seen p).device (seen q).device reached;
        stood = λ was fresh. was;
      };
      items_are = are;
      may = turn_may told may;
      acts = turned;
      ready = ready;
      stays = stays;
      forged = (λ is. absurd (subst MayTell is may), λ takes. absurd takes);
    }

-- nothing is done to a drive
pub still_trace : (one : Event) (p : Physical) → moved_by one p ≡ p → MemoryGoes one p.memory p.memory
    → IsTraced one [] p p
still_trace one p still stays =
    quiet_trace one p p (subst (λ (m : Physical). Reaches (seen m).device (seen p).device) (sym still)
    (reached_itself (seen p).device)) (ap (λ (m : Physical). m.kept) (sym still))
    (subst (λ (m : Physical). MemoryGoes one m.memory p.memory) (sym still) stays) refl
    (ap (λ (m : Physical). m.file) still)

-- a tick
pub tick_acts : (wire : Wire) (p : Physical) (old new : Watched) (items : List Item)
    → new.asking ≡ both_ticked old.asking → new.opened ≡ old.opened → items ≡ asked_items (due_tags new.asking)
    → HasActed event.Tick wire p p old new items
tick_acts wire p old new items ticked same are = record {
  told = None;
  traced = still_trace event.Tick p refl refl;
  items_are = are;
  may = tt;
  acts = ticked;
  ready = subst (λ now. false ≡ (not old.opened && now)) (sym same) (never_both old.opened);
  stays = λ was. same ∙ was;
  forged = (λ is. cc, λ takes. absurd takes);
}

-- a reply of the network comes to the client
pub reply_acts : (k : ℕ) (keep : Bool) (wire : Wire) (p : Physical) (old new : Watched) (items : List Item)
    → HearsIfAny (slice_get wire.to_client k) old.asking new.asking → new.opened ≡ old.opened
    → due_tags new.asking ≡ [] → items ≡ [] → HasActed (event.Deliver ToClient k keep) wire p p old new items
reply_acts k keep wire p old new items heard same none are = record {
  told = None;
  traced = still_trace (event.Deliver ToClient k keep) p refl refl;
  items_are = nothing_due (event.Deliver ToClient k keep) None (due_tags new.asking) items none are;
  may = tt;
  acts = heard;
  ready = subst (λ now. false ≡ (not old.opened && now)) (sym same) (never_both old.opened);
  stays = λ was. same ∙ was;
  forged = (λ is. cc, λ takes. absurd takes);
}

-- a stray frame comes to it, and is marked where it is taken
module _ (frame : List ℕ) (wire : Wire) (p : Physical) (old new : Watched) (items : List Item)
    (same : new.opened ≡ old.opened) (none : due_tags new.asking ≡ [])
    (marked : TakesFrame frame old.asking → items ≡ Forged ∷ [])
    (unmarked : ¬ TakesFrame frame old.asking → items ≡ []) (heard : Hears frame old.asking new.asking) where
  stray_by : (what : Heard) → heard.what ≡ what
      → HasActed (event.Stray ToClient frame) wire p p old new items
  stray_by (Took tag) is =
      let takes : TakesFrame frame old.asking = (tag, (heard.took tag).0 is) in
      record {
        told = Some Forged;
        traced = still_trace (event.Stray ToClient frame) p refl refl;
        items_are = nothing_due (event.Stray ToClient frame) (Some Forged) (due_tags new.asking) items none
            (marked takes);
        may = tt;
        acts = heard;
        ready = subst (λ now. false ≡ (not old.opened && now)) (sym same) (never_both old.opened);
        stays = λ was. same ∙ was;
        forged = (λ told. takes, λ takes. refl);
      }
  stray_by Ignored is =
      let ignores : ¬ TakesFrame frame old.asking = λ takes.
      (let took = (heard.took takes.0).1 takes.1 in absurd cc) in
      record {
        told = None;
        traced = still_trace (event.Stray ToClient frame) p refl refl;
        items_are = nothing_due (event.Stray ToClient frame) None (due_tags new.asking) items none (unmarked ignores);
        may = tt;
        acts = heard;
        ready = subst (λ now. false ≡ (not old.opened && now)) (sym same) (never_both old.opened);
        stays = λ was. same ∙ was;
        forged = (λ told. cc, λ takes. absurd (ignores takes));
      }

  pub stray_acts : HasActed (event.Stray ToClient frame) wire p p old new items
  stray_acts = stray_by heard.what refl

-- a step, after which the monitor made of a dummy read's end what it makes of it
pub stepped_acts : (s : Step) (wire : Wire) (p m q : Physical) (old new : Watched) (items : List Item)
    (told : Option Item) → TellsOther (event.Drive s) told → m ≡ physical_step s p
    → ((origin : device.Device) → Reaches origin (seen m).device → Reaches origin (seen q).device)
    → q.kept ≡ m.kept → q.memory ≡ m.memory
    → (is_just_taken q.file.phase ≡ true → q.file.phase ≡ m.file.phase)
    → new ≡ old → due_tags new.asking ≡ [] → items ≡ item_of told
    → HasActed (event.Drive s) wire p q old new items
stepped_acts s wire p m q old new items told tells is reaches kept memory ends same none are =
    other_acts (event.Drive s) wire p q old new items told tells same none are
    (step_trace s p q
    (subst (λ (n : Physical). Reaches (seen n).device (seen q).device) is
    (reaches (seen m).device (reached_itself (seen m).device)))
    (kept ∙ ap (λ (n : Physical). n.kept) is) (memory ∙ ap (λ (n : Physical). n.memory) is)
    (λ fresh. ends fresh ∙ ap (λ (n : Physical). n.file.phase) is)) refl (λ takes. takes)
