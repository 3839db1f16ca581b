-- What the items of a call make of a plain drive, and which commands they tell of.
use Rattle.std.proofs.Common.{◌≡◌, ◌≢◌, ℕ, Bool, true, false, List, [], ◌∷◌, ◌++◌, Option, Some, None, if◌then◌else◌, refl, ap}
use Rattle.ata_taskfile.specs.declared.Step.{Step}
use Rattle.ata_taskfile.specs.declared.Step.TheVariants as step
use Rattle.ata_taskfile.specs.declared.Stepped.{Stepped}
use Rattle.ata_taskfile.specs.declared.Stepped.TheVariants.{Changed, Nothing}
use Rattle.ata_taskfile.specs.Device.{Device}
use Rattle.plain_drive.specs.Plain.{Plain}
use Rattle.plain_drive.specs.Step.{bad_step, went}
use Rattle.schedule_text.specs.declared.Item.{Item}
use Rattle.schedule_text.specs.declared.Item.TheVariants.{Answer, Go, Bad, Command, Asked, Ready, Left, Reserved, Forged}
use Rattle.plain_run.specs.Entry.{commands_in}
use Rattle.plain_run.specs.Plan.{ActsAlong, planned}
use Rattle.streaming.specs.Monitor.{asked_items, item_of}
use Rattle.streaming.specs.Told.{command_told}
use Rattle.monitor_state.specs.declared.state.State.{State}
use Rattle.monitor_state.specs.declared.state.State.TheVariants.{Guest, Monitor, Running, Raising, Moving}
use Rattle.monitor_state.specs.declared.state.Plan.{Plan}
use Rattle.monitor_state.specs.declared.state.Plan.TheVariants as plan
use Rattle.monitor_events.specs.Stepping.{item_planned, plan_due_of}

-- a request is no command and no step
pub asked_commands : (tags : List ℕ) → commands_in (asked_items tags) ≡ []
asked_commands [] = refl
asked_commands (tag ∷ tags) = asked_commands tags

asked_planned : (tags : List ℕ) (q : Plain) → planned (asked_items tags) q ≡ q
asked_planned [] q = refl
asked_planned (tag ∷ tags) q = asked_planned tags q

asked_acts : (tags : List ℕ) (q : Plain) → ActsAlong (asked_items tags) q
asked_acts [] q = tt
asked_acts (tag ∷ tags) q = asked_acts tags q

-- so of what a call tells, and the requests behind it, the one item alone counts
pub told_commands : (told : Option Item) (tags : List ℕ)
    → commands_in (item_of told ++ asked_items tags) ≡ command_told told
told_commands None tags = asked_commands tags
told_commands (Some Answer) tags = asked_commands tags
told_commands (Some (Go n)) tags = asked_commands tags
told_commands (Some Bad) tags = asked_commands tags
told_commands (Some (Command byte first count)) tags =
    ap (λ items. Command byte first count ∷ items) (asked_commands tags)
told_commands (Some (Asked tag)) tags = asked_commands tags
told_commands (Some Ready) tags = asked_commands tags
told_commands (Some Left) tags = asked_commands tags
told_commands (Some Reserved) tags = asked_commands tags
told_commands (Some Forged) tags = asked_commands tags

pub told_planned : (told : Option Item) (tags : List ℕ) (q : Plain)
    → planned (item_of told ++ asked_items tags) q ≡ planned (item_of told) q
told_planned None tags q = asked_planned tags q
told_planned (Some Answer) tags q = asked_planned tags q
told_planned (Some (Go n)) tags q = asked_planned tags (went n q)
told_planned (Some Bad) tags q = asked_planned tags (bad_step q)
told_planned (Some (Command byte first count)) tags q = asked_planned tags q
told_planned (Some (Asked tag)) tags q = asked_planned tags q
told_planned (Some Ready) tags q = asked_planned tags q
told_planned (Some Left) tags q = asked_planned tags q
told_planned (Some Reserved) tags q = asked_planned tags q
told_planned (Some Forged) tags q = asked_planned tags q

pub told_acts : (told : Option Item) (tags : List ℕ) (q : Plain) → ActsAlong (item_of told) q
    → ActsAlong (item_of told ++ asked_items tags) q
told_acts None tags q acts = asked_acts tags q
told_acts (Some Answer) tags q acts = asked_acts tags q
told_acts (Some (Go n)) tags q acts = (acts.0, acts.1, asked_acts tags (went n q))
told_acts (Some Bad) tags q acts = (acts.0, asked_acts tags (bad_step q))
told_acts (Some (Command byte first count)) tags q acts = asked_acts tags q
told_acts (Some (Asked tag)) tags q acts = asked_acts tags q
told_acts (Some Ready) tags q acts = asked_acts tags q
told_acts (Some Left) tags q acts = asked_acts tags q
told_acts (Some Reserved) tags q acts = asked_acts tags q
told_acts (Some Forged) tags q acts = asked_acts tags q

-- a step of the drive tells of no command
raised_untold : (pends : Bool) (kind : Plan) → command_told (if pends then Some (item_planned kind) else None) ≡ []
raised_untold true plan.Serve = refl
raised_untold true plan.End = refl
raised_untold true plan.Fail = refl
raised_untold true plan.Reserved = refl
raised_untold false kind = refl

pub step_untold : (s : State) (k : Step) (effect : Stepped) (d : Device)
    → command_told (plan_due_of s k effect d) ≡ []
step_untold (Guest side) step.Good Changed d = refl
step_untold (Guest side) step.Bad Changed d = refl
step_untold (Guest side) k Nothing d = refl
step_untold (Monitor side) k effect d = refl
step_untold (Running side own why) k effect d = refl
step_untold (Raising side dummy kind) k effect d = raised_untold d.file.pending kind
step_untold Moving k effect d = refl

-- nor does a frame
pub heard_untold : (told : Option Item) → (told ≢ Some Forged → told ≡ None) → commands_in (item_of told) ≡ []
heard_untold None unmarked = refl
heard_untold (Some Forged) unmarked = refl
heard_untold (Some Answer) unmarked = let none = unmarked (λ is. cc) in absurd cc
heard_untold (Some (Go n)) unmarked = let none = unmarked (λ is. cc) in absurd cc
heard_untold (Some Bad) unmarked = let none = unmarked (λ is. cc) in absurd cc
heard_untold (Some (Command byte first count)) unmarked = let none = unmarked (λ is. cc) in absurd cc
heard_untold (Some (Asked tag)) unmarked = let none = unmarked (λ is. cc) in absurd cc
heard_untold (Some Ready) unmarked = let none = unmarked (λ is. cc) in absurd cc
heard_untold (Some Left) unmarked = let none = unmarked (λ is. cc) in absurd cc
heard_untold (Some Reserved) unmarked = let none = unmarked (λ is. cc) in absurd cc
