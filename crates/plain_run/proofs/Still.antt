-- Events that leave a drive as it is.
use Rattle.std.proofs.Common.{◌≡◌, ℕ, zero, suc, List, [], ◌∷◌, true, false, None, refl, ap, ◌∙◌, subst, arith}
use Rattle.std.specs.Prelude.{if◌then◌else◌}
use Rattle.ata_taskfile.specs.declared.Phase.{Phase}
use Rattle.ata_taskfile.specs.declared.Phase.TheVariants.{Reset, Idle, Busy, Ready}
use Rattle.ata_taskfile.specs.Lawful.{is_just_taken}
use Rattle.plain_drive.specs.Plain.{Plain}
use Rattle.plain_drive.specs.Physical.{Physical, keeping, seen}
use Rattle.schedule_text.specs.declared.Event.{Event}
use Rattle.schedule_text.specs.declared.Event.TheVariants as event
use Rattle.schedule_text.specs.declared.Item.{Item}
use Rattle.schedule_text.specs.declared.Item.TheVariants as item
use Rattle.plain_run.specs.Entry.{Entry, answer_items, answers_in, entry_of, plan_in}
use Rattle.plain_run.specs.Guest.{after_guest, answer_due, is_guests}
use Rattle.plain_run.specs.Event.{FollowsPlan, LeadsTo, PlainEvent, is_cut, is_drives, may_step}
use Rattle.plain_run.specs.Run.{DriveEvent, physical_event, plan_due}
use Rattle.schedule_text.specs.Taken.{just_taken}

-- without a plan item the plain drive stays
unplanned : (items : List Item) (old new : Plain) → plan_in items ≡ [] → FollowsPlan items old new → new ≡ old
unplanned [] old new none followed = followed
unplanned (item.Go n ∷ items) old new none followed = cc
unplanned (item.Bad ∷ items) old new none followed = cc
unplanned (other ∷ items) old new none followed = unplanned items old new none followed

-- what isn't the guest's makes no access, and has no answer
still_guest : (one : Event) (p : Plain) → is_guests one ≡ false → after_guest one p ≡ p
still_guest one p other = grind arith

unanswered : (one : Event) (p : Plain) → is_guests one ≡ false → answer_due one p ≡ None
unanswered one p other = grind arith

-- so only a cut leads a plain drive elsewhere
still_reached : (one : Event) (old new : Plain) → is_guests one ≡ false → is_cut one ≡ false → LeadsTo one old new
    → new ≡ old
still_reached event.Cut old new other uncut reached = cc
still_reached one old new other uncut reached = reached ∙ still_guest one old other

pub still_unmoved : (old new : Plain) (entry : Entry) → PlainEvent old entry new → is_guests entry.event ≡ false
    → is_cut entry.event ≡ false → may_step entry.event ≡ false → new ≡ old
still_unmoved old new entry one other uncut unstepped =
    unplanned entry.items one.between new (one.placed unstepped) one.followed
    ∙ still_reached entry.event old one.between other uncut one.reached

pub still_tick : (old new : Plain) (entry : Entry) → PlainEvent old entry new → entry.event ≡ event.Tick → new ≡ old
still_tick old new entry one is =
    still_unmoved old new entry one (ap is_guests is) (ap is_cut is) (ap may_step is)

pub still_unanswered : (old new : Plain) (entry : Entry) → PlainEvent old entry new → is_guests entry.event ≡ false
    → answers_in entry.items ≡ []
still_unanswered old new entry one other = one.answered ∙ ap answer_items (unanswered entry.event old other)

-- nor does it move a drive without a monitor, unless it is the drive's
still_physical : (one : Event) (p : Physical) → is_guests one ≡ false → is_drives one ≡ false
    → physical_event one p ≡ p
still_physical (event.Drive s) p other alone = cc
still_physical (event.Destage k) p other alone = cc
still_physical event.Cut p other alone = cc
still_physical one p other alone = ap (keeping p.kept) (still_guest one (seen p) other)

pub still_alone : (old new : Physical) (entry : Entry) → DriveEvent old entry new → is_guests entry.event ≡ false
    → is_drives entry.event ≡ false → new ≡ old
still_alone old new entry one other alone = one.after ∙ still_physical entry.event old other alone

-- a drive that stays takes no command
just_once : (byte : ℕ) (phase : Phase) → (if is_just_taken phase then [] else just_taken byte phase) ≡ []
just_once byte Reset = refl
just_once byte Idle = refl
just_once byte (Ready order done left) = refl
just_once byte (Busy order zero) = refl
just_once byte (Busy order (suc done)) = grind arith

still_unplanned : (one : Event) (p : Plain) → is_drives one ≡ false → plan_due one p ≡ []
still_unplanned (event.Drive s) p alone = cc
still_unplanned one p alone = refl

pub still_untold : (old new : Physical) (entry : Entry) → DriveEvent old entry new → is_guests entry.event ≡ false
    → is_drives entry.event ≡ false → entry.items ≡ []
still_untold old new entry one other alone =
    let same = still_alone old new entry one other alone in
    one.items
    ∙ rw (unanswered entry.event (seen old) other, still_unplanned entry.event (seen old) alone, same)
    (just_once old.file.command old.file.phase)

-- a step of the drive and a turn begin their plan where the drive stands
stepped_reached : (one : Event) (old new : Plain) → may_step one ≡ true → LeadsTo one old new → new ≡ old
stepped_reached (event.Drive s) old new steps reached = reached
stepped_reached event.Turn old new steps reached = reached
stepped_reached event.Cut old new steps reached = cc
stepped_reached one old new steps reached = cc

pub stepped_follows : (old new : Plain) (entry : Entry) → PlainEvent old entry new → may_step entry.event ≡ true
    → FollowsPlan entry.items old new
stepped_follows old new entry one steps =
    subst (λ start. FollowsPlan entry.items start new) (stepped_reached entry.event old one.between steps one.reached)
    one.followed

-- and a turn may have any plan that the drive can follow
pub turn_planned : (items : List Item) (old new : Plain) → answers_in items ≡ [] → FollowsPlan items old new
    → PlainEvent old (entry_of event.Turn items []) new
turn_planned items old new unanswered follows = record {
  answered = unanswered;
  bytes = refl;
  between = old;
  reached = refl;
  placed = λ still. cc;
  followed = follows;
}
