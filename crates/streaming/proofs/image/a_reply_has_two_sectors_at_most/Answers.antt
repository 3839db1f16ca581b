use Rattle.streaming.proofs.Serving.{sent_most}
use Rattle.streaming.proofs.Courses.{course_most}
use Rattle.streaming.proofs.image.a_reply_has_two_sectors_at_most.Goals as goal

pub returns-clause-sent : goal.returns-clause-sent
returns-clause-sent c = sent_most

pub returns-clause-course : goal.returns-clause-course
returns-clause-course c = course_most
