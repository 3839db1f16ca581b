-- The command in hand stays the one that was told last.
use Rattle.std.proofs.Common.{◌≡◌, ℕ, zero, suc, Bool, true, false, if◌then◌else◌, List, [], ◌∷◌, Option, Some, None, refl, sym, ap, ◌∙◌, subst, arith}
use Rattle.std.specs.Prelude.{IfSome}
use Rattle.ata_taskfile.specs.declared.Access.{Access}
use Rattle.ata_taskfile.specs.declared.Step.{Step}
use Rattle.ata_taskfile.specs.declared.Stepped.{Stepped}
use Rattle.ata_taskfile.specs.declared.Taken.{Taken}
use Rattle.ata_taskfile.specs.declared.Phase.{Phase}
use Rattle.ata_taskfile.specs.declared.Phase.TheVariants.{Reset, Idle, Busy, Ready}
use Rattle.ata_taskfile.specs.declared.task_file.TaskFile.{TaskFile}
use Rattle.ata_taskfile.specs.Access.{accessed}
use Rattle.ata_taskfile.specs.Accesses.{Reaches, all_accessed}
use Rattle.ata_taskfile.specs.Device.{Device}
use Rattle.ata_taskfile.specs.Lawful.{is_just_taken}
use Rattle.plain_drive.specs.Plain.{Plain}
use Rattle.plain_drive.specs.Seen.{HasLetGo, HasStepped}
use Rattle.plain_drive.specs.Step.{step_made}
use Rattle.schedule_text.specs.declared.Item.{Item}
use Rattle.schedule_text.specs.Taken.{command_item, commands_due, just_taken}
use Rattle.plain_run.specs.Entry.{commands_in}
use Rattle.streaming.specs.Lines.{IsTold, Line, last_command, newest_of, order_in_hand}
use Rattle.streaming.proofs.AtWork.{just_busy, stays_begun}

-- an access that gives no command leaves the one in hand, its byte and that something is done of it, or ends it
order_accessed : (a : Access) (d : Device) (order : Taken) → is_just_taken (accessed a d).file.phase ≡ false
    → order_in_hand (accessed a d).file.phase ≡ Some order → order_in_hand d.file.phase ≡ Some order
order_accessed a d order worked has = grind arith

byte_accessed : (a : Access) (d : Device) (order : Taken) → is_just_taken (accessed a d).file.phase ≡ false
    → order_in_hand (accessed a d).file.phase ≡ Some order → (accessed a d).file.command ≡ d.file.command
byte_accessed a d order worked has = grind arith

worked_accessed : (a : Access) (d : Device) (order : Taken) → is_just_taken (accessed a d).file.phase ≡ false
    → order_in_hand (accessed a d).file.phase ≡ Some order → is_just_taken d.file.phase ≡ false
worked_accessed a d order worked has = grind arith

-- and so does a step
order_stepped : (k : Step) (p : Plain) (order : Taken) → order_in_hand (step_made k p).device.file.phase ≡ Some order
    → order_in_hand p.device.file.phase ≡ Some order
order_stepped k p order has = grind arith

byte_stepped : (k : Step) (p : Plain) (order : Taken) → order_in_hand (step_made k p).device.file.phase ≡ Some order
    → (step_made k p).device.file.command ≡ p.device.file.command
byte_stepped k p order has = grind arith

-- the command in hand, if there is one, is this one
abbrev Told : TaskFile → Option Item → Type 0
Told f last = IfSome (order_in_hand f.phase) (λ order. last ≡ Some (command_item f.command order))

told_by : (f : TaskFile) (last : Option Item) (hand : Option Taken) → order_in_hand f.phase ≡ hand
    → ((order : Taken) → hand ≡ Some order → last ≡ Some (command_item f.command order)) → Told f last
told_by f last None is same =
    subst (λ hand. IfSome hand (λ order. last ≡ Some (command_item f.command order))) (sym is) tt
told_by f last (Some order) is same =
    subst (λ hand. IfSome hand (λ order. last ≡ Some (command_item f.command order))) (sym is) (same order refl)

told_at : (f : TaskFile) (last : Option Item) (order : Taken) → order_in_hand f.phase ≡ Some order → Told f last
    → last ≡ Some (command_item f.command order)
told_at f last order is told = subst (λ hand. IfSome hand (λ order. last ≡ Some (command_item f.command order))) is told

-- it stays this one where the command that is in hand was, with its byte
stays_told : (f g : TaskFile) (last : Option Item)
    → ((order : Taken) → order_in_hand g.phase ≡ Some order → order_in_hand f.phase ≡ Some order)
    → ((order : Taken) → order_in_hand g.phase ≡ Some order → g.command ≡ f.command) → Told f last → Told g last
stays_told f g last same byte told = told_by g last (order_in_hand g.phase) refl
    (λ order is. told_at f last order (same order is) told
    ∙ ap (λ byte. Some (command_item byte order)) (sym (byte order is)))

-- a command of which something is done after accesses was in hand before them
record WasInHand (order : Taken) (old new : TaskFile) : Type 0 where
  pub hand : order_in_hand old.phase ≡ Some order
  pub byte : new.command ≡ old.command
  pub worked : is_just_taken old.phase ≡ false

was_in_hand : (order : Taken) (accesses : List Access) (d : Device)
    → is_just_taken (all_accessed accesses d).file.phase ≡ false
    → order_in_hand (all_accessed accesses d).file.phase ≡ Some order
    → WasInHand order d.file (all_accessed accesses d).file
was_in_hand order [] d worked has = record { hand = has; byte = refl; worked = worked }
was_in_hand order (first ∷ accesses) d worked has =
    let behind = was_in_hand order accesses (accessed first d) worked has in record {
      hand = order_accessed first d order behind.worked behind.hand;
      byte = behind.byte ∙ byte_accessed first d order behind.worked behind.hand;
      worked = worked_accessed first d order behind.worked behind.hand;
    }

was_there : (order : Taken) (d e : Device) → Reaches d e → is_just_taken e.file.phase ≡ false
    → order_in_hand e.file.phase ≡ Some order → WasInHand order d.file e.file
was_there order d e reached worked has =
    subst (λ (f : Device). WasInHand order d.file f.file) (sym reached.leads)
    (was_in_hand order reached.accesses d
    (subst (λ (f : Device). is_just_taken f.file.phase ≡ false) reached.leads worked)
    (subst (λ (f : Device). order_in_hand f.file.phase ≡ Some order) reached.leads has))

-- no command is due of one of which something is done, or was in hand
none_taken : (byte : ℕ) (phase : Phase) → is_just_taken phase ≡ false → just_taken byte phase ≡ []
none_taken byte Reset worked = refl
none_taken byte Idle worked = refl
none_taken byte (Busy order zero) worked = absurd cc
none_taken byte (Busy order (suc done)) worked = refl
none_taken byte (Ready order done left) worked = refl

due_if : (was : Bool) (f g : TaskFile) → is_just_taken f.phase ≡ was
    → commands_due f g ≡ (if was then [] else just_taken g.command g.phase)
due_if was f g is = ap (λ was. if was then [] else just_taken g.command g.phase) is

none_either : {A : Type 0} (was : Bool) (xs : List A) → xs ≡ [] → (if was then [] else xs) ≡ []
none_either true xs none = refl
none_either false xs none = none

module _ (d e : Device) (last : Option Item) (reached : Reaches d e) (told : Told d.file last) where
  worked_told : is_just_taken e.file.phase ≡ false → Told e.file (newest_of (commands_due d.file e.file) last)
  worked_told worked =
      let none = none_either (is_just_taken d.file.phase) (just_taken e.file.command e.file.phase)
      (none_taken e.file.command e.file.phase worked) in
      subst (λ commands. Told e.file (newest_of commands last)) (sym none)
      (stays_told d.file e.file last (λ order has. (was_there order d e reached worked has).hand)
      (λ order has. (was_there order d e reached worked has).byte) told)

  still_told : is_just_taken d.file.phase ≡ true → is_just_taken e.file.phase ≡ true
      → Told e.file (newest_of (commands_due d.file e.file) last)
  still_told was fresh =
      let same = stays_begun d e reached was fresh in
      subst (λ commands. Told e.file (newest_of commands last)) (sym (due_if true d.file e.file was))
      (stays_told d.file e.file last (λ order has. ap order_in_hand (sym same.0) ∙ has) (λ order has. same.1) told)

  newly_told : is_just_taken d.file.phase ≡ false → is_just_taken e.file.phase ≡ true
      → Told e.file (newest_of (commands_due d.file e.file) last)
  newly_told was fresh =
      let busy = just_busy e.file.phase fresh in
      subst (λ commands. Told e.file (newest_of commands last)) (sym (due_if false d.file e.file was))
      (subst (λ phase. IfSome (order_in_hand phase) (λ order.
      newest_of (just_taken e.file.command phase) last ≡ Some (command_item e.file.command order))) (sym busy.1) refl)

  either_told : (was is : Bool) → is_just_taken d.file.phase ≡ was → is_just_taken e.file.phase ≡ is
      → Told e.file (newest_of (commands_due d.file e.file) last)
  either_told was false before now = worked_told now
  either_told true true before now = still_told before now
  either_told false true before now = newly_told before now

-- by accesses, where a line tells of the command that they gave
pub accessed_told : (old new : Device) (lines : List Line) (line : Line) → Reaches old new
    → commands_in line.items ≡ commands_due old.file new.file → IsTold old.file lines → IsTold new.file (line ∷ lines)
accessed_told old new lines line reached is told =
    subst (λ commands. Told new.file (newest_of commands (last_command lines))) (sym is)
    (either_told old new (last_command lines) reached told (is_just_taken old.file.phase) (is_just_taken new.file.phase)
    refl refl)

-- by a step of the drive
pub stepped_told : (k : Step) (answer : Stepped) (old new : Plain) (lines : List Line) → HasStepped k answer old new
    → IsTold old.device.file lines → IsTold new.device.file lines
stepped_told k answer old new lines stepped told =
    subst (λ (q : Plain). IsTold q.device.file lines) (sym stepped.after)
    (stays_told old.device.file (step_made k old).device.file (last_command lines) (order_stepped k old)
    (byte_stepped k old) told)

-- and by a destage
pub let_go_told : (old new : Plain) (lines : List Line) → HasLetGo old new → IsTold old.device.file lines
    → IsTold new.device.file lines
let_go_told old new lines went told = subst (λ (q : Plain). IsTold q.device.file lines) (sym went.after) told
