-- What an event keeps of the plain drives for which a monitor and its drive stand.
use Rattle.std.proofs.Common.{◌≡◌, ℕ, Bool, true, false, List, [], ◌∷◌, Some, None, if◌then◌else◌, refl, sym, ap, ◌∙◌, subst, append-nil}
use Rattle.std.proofs.lemmas.Bool.{true≢false}
use Rattle.ata_taskfile.specs.declared.Access.{Access}
use Rattle.ata_taskfile.specs.declared.Step.{Step}
use Rattle.ata_taskfile.specs.declared.Stepped.{Stepped}
use Rattle.ata_taskfile.specs.declared.task_file.TaskFile.{TaskFile}
use Rattle.ata_taskfile.specs.Device.{Device}
use Rattle.aoe_net.specs.declared.way.Way.{Way}
use Rattle.aoe_net.specs.declared.way.Way.TheVariants.{ToClient, ToServer}
use Rattle.aoe_net.specs.Wire.{Wire}
use Rattle.plain_drive.specs.Physical.{Physical, seen}
use Rattle.plain_drive.specs.Plain.{Plain}
use Rattle.schedule_text.specs.declared.Event.{Event}
use Rattle.schedule_text.specs.declared.Event.TheVariants as event
use Rattle.schedule_text.specs.declared.Item.{Item}
use Rattle.schedule_text.specs.declared.Item.TheVariants.{Answer, Go, Bad, Command, Asked, Ready, Left, Reserved, Forged}
use Rattle.plain_run.specs.Guest.{after_guest, event_reads}
use Rattle.plain_run.specs.Plan.{ActsAlong, planned}
use Rattle.guest_view.specs.View.{takes_command}
use Rattle.streaming.specs.Client.{TakesFrame}
use Rattle.streaming.specs.Lines.{Line, line_of, lines_after, with_frame}
use Rattle.streaming.specs.Lines.Call.{of_step, of_tick}
use Rattle.streaming.specs.Asks.{IsAskedAgain}
use Rattle.streaming.specs.Monitor.{asked_items, item_of}
use Rattle.streaming.specs.Sources.{HasSourcesAlong, one_asks, one_writes}
use Rattle.monitor_state.specs.declared.parts.Parts.{Parts}
use Rattle.monitor_state.specs.Classes.{is_refused}
use Rattle.monitor_state.specs.Overlaid.{Known}
use Rattle.monitor_state.specs.Seen.{file_seen}
use Rattle.monitor_access.specs.Marks.{mark_due, mark_over, order_written}
use Rattle.monitor_access.proofs.Seen.{marked_alike}
use Rattle.mediator.specs.declared.mediator.Mediator.{Mediator}
use Rattle.mediator.specs.Couples.{Couples, GoesAlong, KeepsHeard}
use Rattle.mediator.specs.Mediator.{client_of, parts_of, state_of}
use Rattle.world.specs.Acting.{delivered}
use Rattle.world.specs.Coupled.{effect_in, closes}
use Rattle.world.specs.Keeping.{HasKept, IsHonestIfAny, KeepsEvent, StandBy}

-- items that tell of no step, of no command and of no request
abbrev pub is_quiet : List Item → Bool
is_quiet [] = true
is_quiet (Answer ∷ items) = is_quiet items
is_quiet (Go n ∷ items) = false
is_quiet (Bad ∷ items) = false
is_quiet (Command byte first count ∷ items) = false
is_quiet (Asked tag ∷ items) = false
is_quiet (Ready ∷ items) = is_quiet items
is_quiet (Left ∷ items) = is_quiet items
is_quiet (Reserved ∷ items) = is_quiet items
is_quiet (Forged ∷ items) = is_quiet items

-- they move no plain drive
quiet_planned : (items : List Item) (q : Plain) → is_quiet items ≡ true → planned items q ≡ q
quiet_planned [] q quiet = refl
quiet_planned (Answer ∷ items) q quiet = quiet_planned items q quiet
quiet_planned (Go n ∷ items) q quiet = absurd cc
quiet_planned (Bad ∷ items) q quiet = absurd cc
quiet_planned (Command byte first count ∷ items) q quiet = absurd cc
quiet_planned (Asked tag ∷ items) q quiet = absurd cc
quiet_planned (Ready ∷ items) q quiet = quiet_planned items q quiet
quiet_planned (Left ∷ items) q quiet = quiet_planned items q quiet
quiet_planned (Reserved ∷ items) q quiet = quiet_planned items q quiet
quiet_planned (Forged ∷ items) q quiet = quiet_planned items q quiet

-- and go along with each
quiet_goes : (image : ℕ) (items : List Item) (q : Plain) (lines : List Line) → is_quiet items ≡ true
    → ActsAlong items q × HasSourcesAlong image items q lines × (one_writes items ≡ false)
quiet_goes image [] q lines quiet = (tt, tt, refl)
quiet_goes image (Answer ∷ items) q lines quiet = quiet_goes image items q lines quiet
quiet_goes image (Go n ∷ items) q lines quiet = absurd cc
quiet_goes image (Bad ∷ items) q lines quiet = absurd cc
quiet_goes image (Command byte first count ∷ items) q lines quiet = absurd cc
quiet_goes image (Asked tag ∷ items) q lines quiet = absurd cc
quiet_goes image (Ready ∷ items) q lines quiet = quiet_goes image items q lines quiet
quiet_goes image (Left ∷ items) q lines quiet = quiet_goes image items q lines quiet
quiet_goes image (Reserved ∷ items) q lines quiet = quiet_goes image items q lines quiet
quiet_goes image (Forged ∷ items) q lines quiet = quiet_goes image items q lines quiet

-- and ask for no tag
quiet_asks : (tag : ℕ) (items : List Item) → is_quiet items ≡ true → one_asks tag items ≡ false
quiet_asks tag [] quiet = refl
quiet_asks tag (Answer ∷ items) quiet = quiet_asks tag items quiet
quiet_asks tag (Go n ∷ items) quiet = absurd cc
quiet_asks tag (Bad ∷ items) quiet = absurd cc
quiet_asks tag (Command byte first count ∷ items) quiet = absurd cc
quiet_asks tag (Asked one ∷ items) quiet = absurd cc
quiet_asks tag (Ready ∷ items) quiet = quiet_asks tag items quiet
quiet_asks tag (Left ∷ items) quiet = quiet_asks tag items quiet
quiet_asks tag (Reserved ∷ items) quiet = quiet_asks tag items quiet
quiet_asks tag (Forged ∷ items) quiet = quiet_asks tag items quiet

-- requests move no plain drive, and go along with each
asked_planned : (tags : List ℕ) (q : Plain) → planned (asked_items tags) q ≡ q
asked_planned [] q = refl
asked_planned (tag ∷ tags) q = asked_planned tags q

asked_goes : (image : ℕ) (tags : List ℕ) (q : Plain) (lines : List Line)
    → ActsAlong (asked_items tags) q × HasSourcesAlong image (asked_items tags) q lines
    × (one_writes (asked_items tags) ≡ false)
asked_goes image [] q lines = (tt, tt, refl)
asked_goes image (tag ∷ tags) q lines = asked_goes image tags q lines

-- a tick keeps a plain drive
pub tick_kept : (wire : Wire) (k : Known) (m n : Mediator) (p : Physical) (items : List Item) (bytes tags : List ℕ)
    (q : Plain) (lines : List Line) → items ≡ asked_items tags → bytes ≡ []
    → ((tag : ℕ) → one_asks tag items ≡ true → IsAskedAgain tag lines)
    → StandBy k n p q (line_of of_tick q items ∷ lines)
    → HasKept event.Tick wire k m p items bytes n p q lines
tick_kept wire k m n p items bytes tags q lines are silent asks stand =
    let image = (parts_of m).area.image in
    let goes = asked_goes image tags q lines in
    record {
      answered = silent;
      goes = subst (λ list. GoesAlong image list q lines) (sym are)
          (record { acts = goes.0; sources = goes.1; spares = λ reading. goes.2 });
      asks = asks;
      stand = subst (λ (x : Plain). StandBy k n p x (line_of of_tick q items ∷ lines))
          (sym (ap (λ list. planned list q) are ∙ asked_planned tags q)) stand;
    }

-- an event that tells none keeps a plain drive where what the guest does in it does
pub quiet_kept : (one : Event) (wire : Wire) (k : Known) (m n : Mediator) (p r : Physical) (items : List Item)
    (bytes : List ℕ) (q : Plain) (lines : List Line) → is_quiet items ≡ true → bytes ≡ event_reads one q
    → StandBy k n r (after_guest one q) (lines_after one wire (effect_in one p) q items lines)
    → HasKept one wire k m p items bytes n r q lines
quiet_kept one wire k m n p r items bytes q lines quiet answered stand =
    let goes = quiet_goes (parts_of m).area.image items (after_guest one q) lines quiet in
    record {
      answered = answered;
      goes = record { acts = goes.0; sources = goes.1; spares = λ reading. goes.2 };
      asks = λ tag asked. absurd (true≢false (sym asked ∙ quiet_asks tag items quiet));
      stand = subst (λ (x : Plain). StandBy k n r x (lines_after one wire (effect_in one p) q items lines))
          (sym (quiet_planned items (after_guest one q) quiet)) stand;
    }

-- a stray frame keeps each where it isn't marked: the client didn't take it
pub stray_kept : (frame : List ℕ) (wire : Wire) (m n : Mediator) (p : Physical) (items : List Item)
    → (TakesFrame frame (client_of m) → items ≡ Forged ∷ []) → (¬ TakesFrame frame (client_of m) → items ≡ [])
    → KeepsHeard frame true [] items m n → KeepsEvent (event.Stray ToClient frame) wire m p items [] n p
stray_kept frame wire m n p items marked unmarked heard not k q lines honest stand =
    let ignores : ¬ TakesFrame frame (client_of m) = λ takes.
    true≢false (sym (ap closes (marked takes)) ∙ not) in
    quiet_kept (event.Stray ToClient frame) wire k m n p p items [] q lines (ap is_quiet (unmarked ignores)) refl
    (heard k (seen p).device p.memory q lines items refl (λ tag takes. absurd (ignores (tag, takes))) stand)

-- a reply keeps each
pub reply_kept : (way : Way) (place : ℕ) (keep : Bool) (wire : Wire) (frame : List ℕ) (m n : Mediator) (p : Physical)
    (before after : List Item) → delivered (event.Deliver way place keep) wire ≡ Some frame → after ≡ before
    → KeepsHeard frame false before after m n → KeepsEvent (event.Deliver way place keep) wire m p [] [] n p
reply_kept ToServer place keep wire frame m n p before after is same heard = absurd cc
reply_kept ToClient place keep wire frame m n p before after is same heard = λ not k q lines honest stand.
    quiet_kept (event.Deliver ToClient place keep) wire k m n p p [] [] q lines refl refl
    (subst (λ o. StandBy k n p q (with_frame o false q [] lines)) (sym is)
    (heard k (seen p).device p.memory q lines [] (same ∙ sym (append-nil before))
    (subst (IsHonestIfAny k.image m) is honest) stand))

-- and so does none
pub silence_kept : (way : Way) (place : ℕ) (keep : Bool) (wire : Wire) (m : Mediator) (p : Physical)
    → delivered (event.Deliver way place keep) wire ≡ None
    → KeepsEvent (event.Deliver way place keep) wire m p [] [] m p
silence_kept ToServer place keep wire m p is = λ not k q lines honest stand.
    quiet_kept (event.Deliver ToServer place keep) wire k m m p p [] [] q lines refl refl stand
silence_kept ToClient place keep wire m p is = λ not k q lines honest stand.
    quiet_kept (event.Deliver ToClient place keep) wire k m m p p [] [] q lines refl refl
    (subst (λ o. StandBy k m p q (with_frame o false q [] lines)) (sym is) stand)

-- an event of which nothing is told
pub none_told : (one : Event) (wire : Wire) (k : Known) (m n : Mediator) (p r : Physical) (items : List Item)
    (bytes : List ℕ) (q : Plain) (lines : List Line) → items ≡ [] → bytes ≡ []
    → HasKept one wire k m p [] [] n r q lines → HasKept one wire k m p items bytes n r q lines
none_told one wire k m n p r items bytes q lines none silent kept =
    subst (λ list. HasKept one wire k m p list bytes n r q lines) (sym none)
    (subst (λ list. HasKept one wire k m p [] list n r q lines) (sym silent) kept)

-- a step that is told by its effect
pub step_told : (k : Known) (m : Mediator) (d : Device) (memory : List ℕ) (next q : Plain) (lines : List Line)
    (s : Step)
    (told effect : Stepped) (items : List Item) → told ≡ effect
    → Couples k m d memory next (line_of (of_step s told) q items ∷ lines)
    → Couples k m d memory next (line_of (of_step s effect) q items ∷ lines)
step_told k m d memory next q lines s told effect items is =
    subst (λ had. Couples k m d memory next (line_of (of_step s had) q items ∷ lines)) is

-- where an access isn't marked in the items, it isn't for the plain drive that the guest sees
unmarked : (takes refused : Bool)
    → closes (item_of (if takes then (if refused then Some Reserved else None) else None)) ≡ false
    → (if takes then (if refused then Some Reserved else None) else None) ≡ None
unmarked true true not = absurd cc
unmarked true false not = refl
unmarked false refused not = refl

-- the items of an access that isn't marked are none
pub unmarked_none : (f : TaskFile) (p : Parts) (a : Access) → closes (item_of (mark_over f p a)) ≡ false
    → mark_over f p a ≡ None
unmarked_none f p a not = unmarked (takes_command a f) (is_refused (order_written a f p.area.sectors) p) not

-- an access that takes no command has no mark
pub untaken_none : (f : TaskFile) (p : Parts) (a : Access) → takes_command a f ≡ false → mark_over f p a ≡ None
untaken_none f p a untaken =
    ap (λ takes. if takes then (if is_refused (order_written a f p.area.sectors) p then Some Reserved else None)
    else None)
    untaken

-- an access that isn't marked over the registers that the guest sees isn't for the plain drive
pub seen_unmarked : (k : Known) (m : Mediator) (p : Physical) (q : Plain) (lines : List Line) (a : Access)
    → StandBy k m p q lines → mark_due (state_of m) (parts_of m) (seen p).device a ≡ None
    → mark_over q.device.file (parts_of m) a ≡ None
seen_unmarked k m p q lines a stand none =
    sym (marked_alike q.device.file (file_seen (state_of m) (seen p).device) (parts_of m) a stand.shows.file) ∙ none

-- a mark is no step and no command
mark_quiet : (takes refused : Bool)
    → is_quiet (item_of (if takes then (if refused then Some Reserved else None) else None)) ≡ true
mark_quiet true true = refl
mark_quiet true false = refl
mark_quiet false refused = refl

pub marked_quiet : (f : TaskFile) (p : Parts) (a : Access) → is_quiet (item_of (mark_over f p a)) ≡ true
marked_quiet f p a = mark_quiet (takes_command a f) (is_refused (order_written a f p.area.sectors) p)
