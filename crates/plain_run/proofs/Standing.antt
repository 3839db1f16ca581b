-- A run of a physical drive without a monitor is one of the plain drive for which it stands.
use Rattle.std.proofs.Common.{◌≡◌, ℕ, Bool, true, false, List, [], ◌∷◌, refl, sym, ap, ◌∙◌, subst, arith}
use Rattle.std.specs.Prelude.{if◌then◌else◌}
use Rattle.std.specs.List.{flat_map}
use Rattle.ata_taskfile.specs.declared.Access.{Access}
use Rattle.ata_taskfile.specs.declared.Step.{Step}
use Rattle.ata_taskfile.specs.declared.Step.TheVariants as step
use Rattle.ata_taskfile.specs.Access.{accessed}
use Rattle.ata_taskfile.specs.Accesses.{all_accessed, all_answered}
use Rattle.ata_taskfile.specs.Device.{Cell, Device}
use Rattle.ata_taskfile.proofs.Cells.{accessed-cells}
use Rattle.plain_drive.specs.Plain.{Plain, with_cells}
use Rattle.plain_drive.specs.Step.{step_made, bad_step, acts, went}
use Rattle.plain_drive.specs.Cut.{drive_at_power_on}
use Rattle.plain_drive.specs.Physical.{Physical, StandsFor, seen, cells_of, keeping, physical_accessed}
use Rattle.plain_drive.proofs.Shared.{celled, accessed_shared, answer_shared}
use Rattle.plain_drive.proofs.Standing.{seen_as, same_acts, durable_are_outcome, access_stands, step_stands, destage_stands, cut_stands}
use Rattle.plain_drive.proofs.Steps.{step_made_no}
use Rattle.schedule_text.specs.declared.Event.{Event}
use Rattle.schedule_text.specs.declared.Event.TheVariants as event
use Rattle.schedule_text.specs.declared.Item.{Item}
use Rattle.schedule_text.specs.declared.Item.TheVariants as item
use Rattle.plain_run.specs.Entry.{Entry, answer_bytes, answer_items, answers_in, plan_in}
use Rattle.plain_run.specs.Guest.{accesses_of, after_guest, answer_due, answer_of, bytes_answered, event_reads, memory_written, with_device}
use Rattle.plain_run.specs.Event.{FollowsPlan, LeadsTo, is_cut, may_step, restarted, zeroed}
use Rattle.plain_run.specs.Run.{DriveEvent, DirectEvent, HasPlainRun, IsDriveRun, drives, physical_event, plan_due, reached_by, step_item}
use Rattle.plain_run.proofs.Told.{answers_told, plan_told}

-- accesses answer the same over other cells
answered_shared : (cells : List Cell) (accesses : List Access) (d : Device)
    → all_answered accesses (celled cells d) ≡ all_answered accesses d
answered_shared cells [] d = refl
answered_shared cells (a ∷ accesses) d = λ i. answer_shared cells a d i
    ∷ (ap (all_answered accesses) (accessed_shared cells a d) ∙ answered_shared cells accesses (accessed a d)) i

-- so does each event
reads_shared : (cells : List Cell) (one : Event) (p : Plain) → event_reads one (with_cells cells p) ≡ event_reads one p
reads_shared cells (event.ReadMemory address n) p = refl
reads_shared cells one p = ap (flat_map bytes_answered) (answered_shared cells (accesses_of one) p.device)

-- a physical drive is seen after an access as it was seen, with another device
seen_accessed : (a : Access) (q : Physical)
    → seen (physical_accessed a q) ≡ with_device (accessed a (seen q).device) (seen q)
seen_accessed a q = ap (λ cells. with_device (celled cells (accessed a (seen q).device)) (seen q))
    (sym (accessed-cells a (seen q).device))

-- and stands after all of a guest's accesses
accesses_stand : (accesses : List Access) (q : Physical) (p : Plain) → StandsFor q p
    → StandsFor (keeping q.kept (with_device (all_accessed accesses (seen q).device) (seen q)))
    (with_device (all_accessed accesses p.device) p)
accesses_stand [] q p stands = stands
accesses_stand (a ∷ accesses) q p stands =
    subst (λ (r : Plain). StandsFor (keeping q.kept (with_device (all_accessed accesses r.device) r))
    (with_device (all_accessed accesses (accessed a p.device)) p)) (seen_accessed a q)
    (accesses_stand accesses (physical_accessed a q) (with_device (accessed a p.device) p) (access_stands q p stands a))

memory_stands : (address : ℕ) (bytes : List ℕ) (q : Physical) (p : Plain) → StandsFor q p
    → StandsFor (reached_by (event.WriteMemory address bytes) q) (after_guest (event.WriteMemory address bytes) p)
memory_stands address bytes q p stands = record {
  file = stands.file;
  bus = stands.bus;
  block = stands.block;
  sectors = stands.sectors;
  memory = ap (memory_written address bytes) stands.memory;
  cells = stands.cells;
}

-- where an event leads the plain drive before its step: to power-on over the sectors that are then durable, or behind
-- its access
between : Event → Physical → Plain → Plain
between event.Cut new p = restarted new.kept.durable p
between one new p = after_guest one p

-- and where it leaves it
next : Event → Physical → Plain → Plain
next (event.Drive s) new p = step_made s p
next one new p = between one new p

-- the physical drive stands for it
next_stands : (one : Event) (q : Physical) (p : Plain) → StandsFor q p
    → StandsFor (physical_event one q) (next one (physical_event one q) p)
unfolding between next
next_stands (event.WriteMemory address bytes) q p stands = memory_stands address bytes q p stands
next_stands (event.Drive s) q p stands = step_stands q p stands s
next_stands (event.Destage k) q p stands = destage_stands q p stands k
next_stands event.Cut q p stands = subst (λ memory. StandsFor (physical_event event.Cut q)
    (drive_at_power_on q.kept.durable p.device.sectors (zeroed memory))) stands.memory
    (cut_stands q p stands (zeroed q.memory))
next_stands one q p stands = accesses_stand (accesses_of one) q p stands

-- answers and commands are no part of a plan
follows : (items : List Item) (old new : Plain) → FollowsPlan (plan_in items) old new → FollowsPlan items old new
follows [] old new goes = goes
follows (item.Go n ∷ items) old new goes = (goes.0, goes.1, follows items (went n old) new goes.2)
follows (item.Bad ∷ items) old new goes = (goes.0, follows items (bad_step old) new goes.1)
follows (one ∷ items) old new goes = follows items old new goes

-- a step's plan leads to where the step does
step_follows : (s : Step) (p : Plain) (acting : Bool) → acts s p ≡ acting
    → FollowsPlan (if acting then step_item s ∷ [] else []) p (step_made s p)
step_follows step.Good p true acting = (omega arith, (tt, acting), refl)
step_follows step.Bad p true acting = (acting, refl)
step_follows s p false idle = step_made_no s p idle

-- only the drive's steps have a plan
placed : (one : Event) (p : Plain) → may_step one ≡ false → plan_due one p ≡ []
placed (event.Drive s) p still = absurd cc
placed one p still = refl

module _ (q : Physical) (p : Plain) (stands : StandsFor q p) where
  reached : (one : Event) → LeadsTo one p (between one (physical_event one q) p)
  unfolding between
  reached event.Cut = (q.kept.durable, durable_are_outcome q p stands, refl)
  reached one = refl

  followed : (one : Event) → FollowsPlan (plan_due one p) (between one (physical_event one q) p)
      (next one (physical_event one q) p)
  unfolding between next
  followed (event.Drive s) = step_follows s p (acts s p) refl
  followed one = refl

  -- the same plan is due on both drives
  same_plan : (one : Event) → plan_due one (seen q) ≡ plan_due one p
  same_plan (event.Drive s) = ap (λ acting. if acting then step_item s ∷ [] else []) (same_acts q p stands s)
  same_plan one = refl

  -- and the same answer
  same_answer_due : (one : Event) → answer_due one (seen q) ≡ answer_due one p
  same_answer_due one = ap (λ (r : Plain). answer_due one r) (seen_as q p stands)
      ∙ ap answer_of (reads_shared (cells_of q.kept) one p)

  -- after a cut the plain drive goes on with what is durable
  cut_next : (one : Event) → is_cut one ≡ true → next one (physical_event one q) p ≡ restarted
      (physical_event one q).kept.durable p
  unfolding between next
  cut_next event.Cut cuts = refl
  cut_next one cuts = absurd cc

  -- one event of the physical drive is one of both
  direct_event : (entry : Entry) → DriveEvent q entry (physical_event entry.event q)
      → DirectEvent (drives p q) entry (drives (next entry.event (physical_event entry.event q) p)
      (physical_event entry.event q))
  direct_event entry one =
      let plan : plan_in entry.items ≡ plan_due entry.event p = ap plan_in one.items
      ∙ plan_told entry.event q (physical_event entry.event q) ∙ same_plan entry.event in
      record {
        plain = record {
          between = between entry.event (physical_event entry.event q) p;
          answered = ap answers_in one.items ∙ answers_told entry.event q (physical_event entry.event q)
              ∙ ap answer_items (same_answer_due entry.event);
          bytes = one.bytes ∙ ap answer_bytes (same_answer_due entry.event);
          reached = reached entry.event;
          placed = λ still. plan ∙ placed entry.event p still;
          followed = follows entry.items _ _ (subst (λ items. FollowsPlan items
              (between entry.event (physical_event entry.event q) p)
              (next entry.event (physical_event entry.event q) p))
              (sym plan) (followed entry.event));
        };
        physical = one;
        cut = cut_next entry.event;
      }

-- a plain drive after it, for which the physical one stands
record HasPlainEvent (q : Physical) (p : Plain) (entry : Entry) (new : Physical) : Type 0 where
  after : Plain
  both : DirectEvent (drives p q) entry (drives after new)
  stands : StandsFor new after

plain_event : (entry : Entry) (q new : Physical) (p : Plain) → StandsFor q p → DriveEvent q entry new
    → HasPlainEvent q p entry new
plain_event entry q new p stands one =
    subst (HasPlainEvent q p entry) (sym one.after) (record {
      after = next entry.event (physical_event entry.event q) p;
      both = direct_event q p stands entry (subst (DriveEvent q entry) one.after one);
      stands = next_stands entry.event q p stands;
    })

-- a whole run
pub drives_run : (start : Plain) (physical now : Physical) (entries : List Entry) → StandsFor physical start
    → IsDriveRun physical entries now
    → HasPlainRun start physical entries now
drives_run start physical now [] stands run =
    let e : now ≡ physical = run in
    record { plain = start; run = ap (drives start) e; stands = subst (λ q. StandsFor q start) (sym e) stands }
drives_run start physical now (entry ∷ earlier) stands (before, run, last) =
    let was = drives_run start physical before earlier stands run in
    let one = plain_event entry before now was.plain was.stands last in
    record { plain = one.after; run = (drives was.plain before, was.run, one.both); stands = one.stands }
