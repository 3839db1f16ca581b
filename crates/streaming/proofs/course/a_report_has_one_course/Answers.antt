use Rattle.streaming.proofs.Courses.{course_once}
use Rattle.streaming.proofs.course.a_report_has_one_course.Goals as goal

pub returns-clause-network : goal.returns-clause-network
returns-clause-network c = λ sectors image entries one other m n course also.
    (course_once sectors image entries one other m n course also).0

pub returns-clause-count : goal.returns-clause-count
returns-clause-count c = λ sectors image entries one other m n course also.
    (course_once sectors image entries one other m n course also).1
