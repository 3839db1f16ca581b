-- A step of the view's own is one of the drive that the guest sees.
use Rattle.std.proofs.Common.{◌≡◌, ℕ, Bool, true, false, not, ◌+◌, ◌≤◌, if◌then◌else◌, refl, sym, ap, ◌∙◌, arith}
use Rattle.ata_taskfile.specs.declared.Kind.{Kind}
use Rattle.ata_taskfile.specs.declared.Kind.TheVariants as kind
use Rattle.ata_taskfile.specs.declared.Form.{Form}
use Rattle.ata_taskfile.specs.declared.Form.TheVariants.{NoMove, PioIn}
use Rattle.ata_taskfile.specs.declared.Refused.{Refused}
use Rattle.ata_taskfile.specs.declared.Request.{Request}
use Rattle.ata_taskfile.specs.declared.Taken.TheVariants.{Good, Bad}
use Rattle.ata_taskfile.specs.declared.Phase.{Phase}
use Rattle.ata_taskfile.specs.declared.Phase.TheVariants.{Reset, Idle, Busy, Ready}
use Rattle.ata_taskfile.specs.declared.Step.{Step}
use Rattle.ata_taskfile.specs.declared.Step.TheVariants as step
use Rattle.ata_taskfile.specs.declared.registers.TheConstants.{BLOCK_WORDS}
use Rattle.ata_taskfile.specs.declared.task_file.TaskFile.{TaskFile}
use Rattle.ata_taskfile.specs.TaskFile.{holds_reset, reset_ended, interrupted_in, refused, ended_failed}
use Rattle.ata_taskfile.specs.Data.{gives_words, moves_by_bus}
use Rattle.ata_taskfile.specs.Bus.{walk_ended}
use Rattle.ata_taskfile.specs.Lawful.{is_in_reset, moves_nothing}
use Rattle.ata_taskfile.specs.Device.{Device, with_bus, is_moving}
use Rattle.plain_drive.specs.Plain.{Plain, with_registers, with_block, with_cells}
use Rattle.plain_drive.specs.Change.{cells_after, change_in, change_proceeded, change_without_data}
use Rattle.plain_drive.specs.Step.{acts, acts_in, bad_step_in, ended, failure_bit, failure_shown, good_step_in, proceeded, proceeds, step_made, transferred, without_walk, words_due}
use Rattle.port_lease.specs.declared.view.View.{View}
use Rattle.guest_view.specs.Seen.{on_monitor_side, drive_on_monitor_side}
use Rattle.guest_view.specs.View.{view_with_file}
use Rattle.guest_view.specs.Steps.{FollowsLine, after_reset, after_offer, after_refusal, view_without_walk, after_finish, after_failure}
use Rattle.guest_view.proofs.OneDevice.{file_beside}

-- a step, where the phase is known
good-in : (q : Plain) (phase : Phase) → q.device.file.phase ≡ phase
    → step_made step.Good q ≡ with_cells (cells_after (change_in phase q) q.device.cells) (good_step_in phase q)
good-in q phase is = ap (λ at. with_cells (cells_after (change_in at q) q.device.cells) (good_step_in at q)) is

bad-in : (q : Plain) (phase : Phase) → q.device.file.phase ≡ phase
    → step_made step.Bad q ≡ with_cells q.device.cells (bad_step_in phase q)
bad-in q phase is = ap (λ at. with_cells q.device.cells (bad_step_in at q)) is

acts-in : (s : Step) (q : Plain) (phase : Phase) → q.device.file.phase ≡ phase → acts s q ≡ acts_in s phase q
acts-in s q phase is = ap (λ at. acts_in s at q) is

in-reset : (phase : Phase) → is_in_reset phase ≡ true → phase ≡ Reset
in-reset phase resets = grind arith

gives-only : (form : Form) → gives_words form ≡ true → form ≡ PioIn
gives-only form gives = grind arith

nothing-only : (form : Form) → moves_nothing form ≡ true → form ≡ NoMove
nothing-only form nothing = grind arith

-- other registers of the view, while the drive's line goes as the view's does
registers-stepped : (v : View) (d e : Device) (p : Plain) (f : TaskFile) → FollowsLine v (view_with_file f v) d e
    → with_registers f (drive_on_monitor_side v d p) ≡ drive_on_monitor_side (view_with_file f v) e p
registers-stepped v d e p f follows =
    ap (λ g. record p { device = g }) (file_beside v d e p.device f follows.before follows.after follows.bus)

-- the end of a reset
pub reset_stepped : (v : View) (d e : Device) (p : Plain) → is_in_reset v.file.phase ≡ true
    → holds_reset v.file ≡ false → FollowsLine v (after_reset v) d e
    → step_made step.Good (drive_on_monitor_side v d p) ≡ drive_on_monitor_side (after_reset v) e p
reset_stepped v d e p resets free follows =
    let q = drive_on_monitor_side v d p in
    good-in q Reset (in-reset v.file.phase resets)
    ∙ ap (λ held. with_cells p.device.cells (if held then q else with_registers (reset_ended v.file) q)) free
    ∙ registers-stepped v d e p (reset_ended v.file) follows

pub reset_acts : (v : View) (d : Device) (p : Plain) → is_in_reset v.file.phase ≡ true
    → holds_reset v.file ≡ false → acts step.Good (drive_on_monitor_side v d p) ≡ true
reset_acts v d p resets free =
    acts-in step.Good (drive_on_monitor_side v d p) Reset (in-reset v.file.phase resets) ∙ ap not free

-- the words that are due are the device's, whatever its registers
due-beside : (v : View) (d g : Device) (k : Kind) (s : ℕ) → words_due k s (on_monitor_side v d g) ≡ words_due k s g
due-beside v d g kind.Identify s = refl
due-beside v d g kind.Read s = refl
due-beside v d g kind.Write s = refl
due-beside v d g kind.Verify s = refl
due-beside v d g kind.Flush s = refl
due-beside v d g kind.Features s = refl

-- a block is offered
pub offer_stepped : (v : View) (order : Request) (done : ℕ) (d e : Device) (p : Plain)
    → v.file.phase ≡ Busy (Good order) done → gives_words order.form ≡ true
    → FollowsLine v (after_offer order done v) d e
    → step_made step.Good (drive_on_monitor_side v d p)
    ≡ drive_on_monitor_side (after_offer order done v) e
    (with_block (words_due order.kind (order.first + done) p.device) p)
offer_stepped v order done d e p at gives follows =
    let q = drive_on_monitor_side v d p in
    let f = interrupted_in (Ready (Good order) done BLOCK_WORDS) v.file in
    good-in q (Busy (Good order) done) at
    ∙ ap (λ form. with_cells (cells_after (change_proceeded form order done q) p.device.cells)
    (proceeded form order done q)) (gives-only order.form gives)
    ∙ ap (λ block. with_registers f (with_block block q)) (due-beside v d p.device order.kind (order.first + done))
    ∙ registers-stepped v d e (with_block (words_due order.kind (order.first + done) p.device) p) f follows

pub offer_acts : (v : View) (order : Request) (done : ℕ) (d : Device) (p : Plain)
    → v.file.phase ≡ Busy (Good order) done → gives_words order.form ≡ true
    → acts step.Good (drive_on_monitor_side v d p) ≡ true
offer_acts v order done d p at gives =
    acts-in step.Good (drive_on_monitor_side v d p) (Busy (Good order) done) at
    ∙ ap (λ form. proceeds form order done (on_monitor_side v d p.device)) (gives-only order.form gives)

-- a refused command ends
pub refusal_stepped : (s : Step) (v : View) (reason : Refused) (done : ℕ) (d e : Device) (p : Plain)
    → v.file.phase ≡ Busy (Bad reason) done → FollowsLine v (after_refusal reason v) d e
    → step_made s (drive_on_monitor_side v d p) ≡ drive_on_monitor_side (after_refusal reason v) e p
refusal_stepped step.Good v reason done d e p at follows =
    good-in (drive_on_monitor_side v d p) (Busy (Bad reason) done) at
    ∙ registers-stepped v d e p (refused reason v.file) follows
refusal_stepped step.Bad v reason done d e p at follows =
    bad-in (drive_on_monitor_side v d p) (Busy (Bad reason) done) at
    ∙ registers-stepped v d e p (refused reason v.file) follows

pub refusal_acts : (s : Step) (v : View) (reason : Refused) (done : ℕ) (d : Device) (p : Plain)
    → v.file.phase ≡ Busy (Bad reason) done → acts s (drive_on_monitor_side v d p) ≡ true
refusal_acts step.Good v reason done d p at =
    acts-in step.Good (drive_on_monitor_side v d p) (Busy (Bad reason) done) at
refusal_acts step.Bad v reason done d p at =
    acts-in step.Bad (drive_on_monitor_side v d p) (Busy (Bad reason) done) at

-- the walk of the command ends with it
walk-ended : (m : Bool) (v : View) (d : Device) (p : Plain)
    → (let q = drive_on_monitor_side v d p in
    if m then record q { device = with_bus (walk_ended q.device.bus) q.device } else q)
    ≡ drive_on_monitor_side (record v { bus = if m then walk_ended v.bus else v.bus }) d p
walk-ended true v d p = refl
walk-ended false v d p = refl

without-beside : (v : View) (order : Request) (done : ℕ) (d : Device) (p : Plain)
    → v.file.phase ≡ Busy (Good order) done
    → without_walk order.form (drive_on_monitor_side v d p) ≡ drive_on_monitor_side (view_without_walk v) d p
without-beside v order done d p at =
    walk-ended (moves_by_bus order.form) v d p
    ∙ ap (λ m. drive_on_monitor_side (record v { bus = if m then walk_ended v.bus else v.bus }) d p)
    (sym (ap is_moving at))

-- a transfer by the bus master ends, all sectors of which have moved
transfer-made : (form : Form) (order : Request) (done : ℕ) (q : Plain) → moves_by_bus form ≡ true
    → order.count ≤ done
    → with_cells (cells_after (change_proceeded form order done q) q.device.cells) (proceeded form order done q)
    ≡ transferred order q
transfer-made form order done q moves past = grind arith

transfer-proceeds : (form : Form) (order : Request) (done : ℕ) (d : Device) → moves_by_bus form ≡ true
    → order.count ≤ done → proceeds form order done d ≡ true
transfer-proceeds form order done d moves past = grind arith

pub transfer_stepped : (v : View) (order : Request) (done : ℕ) (d e : Device) (p : Plain)
    → v.file.phase ≡ Busy (Good order) done → moves_by_bus order.form ≡ true → order.count ≤ done
    → FollowsLine v (after_finish v) d e
    → step_made step.Good (drive_on_monitor_side v d p) ≡ drive_on_monitor_side (after_finish v) e p
transfer_stepped v order done d e p at moves past follows =
    let q = drive_on_monitor_side v d p in
    good-in q (Busy (Good order) done) at
    ∙ transfer-made order.form order done q moves past
    ∙ ap ended (without-beside v order done d p at)
    ∙ registers-stepped (view_without_walk v) d e p (interrupted_in Idle v.file)
    (record { before = follows.before; after = follows.after; bus = follows.bus })

pub transfer_acts : (v : View) (order : Request) (done : ℕ) (d : Device) (p : Plain)
    → v.file.phase ≡ Busy (Good order) done → moves_by_bus order.form ≡ true → order.count ≤ done
    → acts step.Good (drive_on_monitor_side v d p) ≡ true
transfer_acts v order done d p at moves past =
    acts-in step.Good (drive_on_monitor_side v d p) (Busy (Good order) done) at
    ∙ transfer-proceeds order.form order done (on_monitor_side v d p.device) moves past

-- a command without data ends
pub end_stepped : (v : View) (order : Request) (done : ℕ) (d e : Device) (p : Plain)
    → v.file.phase ≡ Busy (Good order) done → moves_nothing order.form ≡ true
    → FollowsLine v (after_finish v) d e
    → step_made step.Good (drive_on_monitor_side v d p)
    ≡ drive_on_monitor_side (after_finish v) e
    (with_cells (cells_after (change_without_data order.kind) p.device.cells) p)
end_stepped v order done d e p at nothing follows =
    let q = drive_on_monitor_side v d p in
    let cells = cells_after (change_without_data order.kind) p.device.cells in
    let form = nothing-only order.form nothing in
    good-in q (Busy (Good order) done) at
    ∙ ap (λ form. with_cells (cells_after (change_proceeded form order done q) p.device.cells)
    (proceeded form order done q)) form
    ∙ ap (λ r. with_cells cells (ended r))
    (ap (λ form. without_walk form q) (sym form) ∙ without-beside v order done d p at)
    ∙ registers-stepped (view_without_walk v) d e (with_cells cells p) (interrupted_in Idle v.file)
    (record { before = follows.before; after = follows.after; bus = follows.bus })

pub end_acts : (v : View) (order : Request) (done : ℕ) (d : Device) (p : Plain)
    → v.file.phase ≡ Busy (Good order) done → moves_nothing order.form ≡ true
    → acts step.Good (drive_on_monitor_side v d p) ≡ true
end_acts v order done d p at nothing =
    acts-in step.Good (drive_on_monitor_side v d p) (Busy (Good order) done) at
    ∙ ap (λ form. proceeds form order done (on_monitor_side v d p.device)) (nothing-only order.form nothing)

-- an order fails
pub failure_stepped : (v : View) (order : Request) (done : ℕ) (d e : Device) (p : Plain)
    → v.file.phase ≡ Busy (Good order) done → FollowsLine v (after_failure order done v) d e
    → step_made step.Bad (drive_on_monitor_side v d p) ≡ drive_on_monitor_side (after_failure order done v) e p
failure_stepped v order done d e p at follows =
    let q = drive_on_monitor_side v d p in
    let f = ended_failed (failure_bit order.kind) (failure_shown order done v.file) in
    bad-in q (Busy (Good order) done) at
    ∙ ap (λ r. with_cells p.device.cells (with_registers f r)) (without-beside v order done d p at)
    ∙ registers-stepped (view_without_walk v) d e p f
    (record { before = follows.before; after = follows.after; bus = follows.bus })

pub failure_acts : (v : View) (order : Request) (done : ℕ) (d : Device) (p : Plain)
    → v.file.phase ≡ Busy (Good order) done → acts step.Bad (drive_on_monitor_side v d p) ≡ true
failure_acts v order done d p at = acts-in step.Bad (drive_on_monitor_side v d p) (Busy (Good order) done) at
