use Rattle.streaming.proofs.Requests.{drive_asks_none}
use Rattle.streaming.proofs.events.a_drive_alone_sends_no_request.Goals as goal

pub returns : goal.returns
returns c = drive_asks_none
