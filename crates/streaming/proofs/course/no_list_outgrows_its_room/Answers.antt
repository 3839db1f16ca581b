use Rattle.streaming.proofs.Lists.{event_fits}
use Rattle.streaming.proofs.Courses.{course_fits}
use Rattle.streaming.proofs.course.no_list_outgrows_its_room.Goals as goal

pub returns-clause-event : goal.returns-clause-event
returns-clause-event c = event_fits

pub returns-clause-course : goal.returns-clause-course
returns-clause-course c = course_fits
