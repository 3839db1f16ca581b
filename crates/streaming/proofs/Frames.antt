-- An event of the network, as a drive sees it.
use Rattle.std.proofs.Common.{◌≡◌, [], true, false, arith}
use Rattle.plain_drive.specs.Plain.{Plain}
use Rattle.plain_drive.specs.Physical.{Physical}
use Rattle.schedule_text.specs.declared.Event.{Event}
use Rattle.plain_run.specs.Entry.{Entry}
use Rattle.plain_run.specs.Guest.{is_guests}
use Rattle.plain_run.specs.Event.{PlainEvent, is_cut, is_drives, may_step}
use Rattle.plain_run.specs.Run.{DriveEvent}
use Rattle.plain_run.proofs.Still.{still_alone, still_unmoved, still_untold}
use Rattle.streaming.specs.Lists.{is_of_network}

-- it is neither the guest's nor the drive's, and has no plan
no_guests : (one : Event) → is_of_network one ≡ true → is_guests one ≡ false
no_guests one its = grind arith

no_cut : (one : Event) → is_of_network one ≡ true → is_cut one ≡ false
no_cut one its = grind arith

no_step : (one : Event) → is_of_network one ≡ true → may_step one ≡ false
no_step one its = grind arith

no_drives : (one : Event) → is_of_network one ≡ true → is_drives one ≡ false
no_drives one its = grind arith

pub frame_unmoved : (old new : Plain) (entry : Entry) → PlainEvent old entry new → is_of_network entry.event ≡ true
    → new ≡ old
frame_unmoved old new entry one its =
    still_unmoved old new entry one (no_guests entry.event its) (no_cut entry.event its) (no_step entry.event its)

pub frame_alone : (old new : Physical) (entry : Entry) → DriveEvent old entry new → is_of_network entry.event ≡ true
    → new ≡ old
frame_alone old new entry one its =
    still_alone old new entry one (no_guests entry.event its) (no_drives entry.event its)

pub frame_untold : (old new : Physical) (entry : Entry) → DriveEvent old entry new → is_of_network entry.event ≡ true
    → entry.items ≡ []
frame_untold old new entry one its =
    still_untold old new entry one (no_guests entry.event its) (no_drives entry.event its)
