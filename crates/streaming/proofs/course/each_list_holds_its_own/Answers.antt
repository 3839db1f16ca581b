use Rattle.streaming.proofs.Lists.{event_replies, event_requests}
use Rattle.streaming.proofs.Courses.{course_replies, course_requests}
use Rattle.streaming.proofs.course.each_list_holds_its_own.Goals as goal

pub returns-clause-requests_kept : goal.returns-clause-requests_kept
returns-clause-requests_kept c = event_requests

pub returns-clause-replies_kept : goal.returns-clause-replies_kept
returns-clause-replies_kept c = event_replies

pub returns-clause-requests : goal.returns-clause-requests
returns-clause-requests c = course_requests

pub returns-clause-replies : goal.returns-clause-replies
returns-clause-replies c = course_replies
