use Rattle.streaming.proofs.Looks.{looked_hands, looked_most}
use Rattle.streaming.proofs.image.only_a_served_frame_has_the_image_looked_at.Goals as goal

pub returns-clause-only : goal.returns-clause-only
returns-clause-only c = looked_hands

pub returns-clause-most : goal.returns-clause-most
returns-clause-most c = looked_most
