use Rattle.streaming.proofs.Scenes.{scene_course, scene_image}
use Rattle.streaming.proofs.runs.a_run_has_its_course.Goals as goal

pub returns-clause-course : goal.returns-clause-course
returns-clause-course c = scene_course

pub returns-clause-image : goal.returns-clause-image
returns-clause-image c = scene_image
