use Rattle.streaming.proofs.Empty.{sent_empty, course_empty, hands_empty}
use Rattle.streaming.proofs.image.an_empty_image_is_never_looked_at.Goals as goal

pub returns-clause-sent : goal.returns-clause-sent
returns-clause-sent c = sent_empty

pub returns-clause-course : goal.returns-clause-course
returns-clause-course c = course_empty

pub returns-clause-hands : goal.returns-clause-hands
returns-clause-hands c = hands_empty
