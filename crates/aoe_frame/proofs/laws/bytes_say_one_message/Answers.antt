use Rattle.aoe_frame.proofs.Layouts.{one_message}
use Rattle.aoe_frame.proofs.laws.bytes_say_one_message.Goals as goal

pub returns : goal.returns
returns c = record { once = one_message }
