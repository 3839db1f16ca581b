use Rattle.streaming.proofs.OneEvent.{stray_client, stray_uncounted, stray_server}
use Rattle.streaming.proofs.events.a_stray_frame_joins_no_list.Goals as goal

pub returns-clause-client : goal.returns-clause-client
returns-clause-client c = λ sectors told old new entry count one. stray_client one

pub returns-clause-unserved : goal.returns-clause-unserved
returns-clause-unserved c = λ sectors told old new entry count one. stray_uncounted one

pub returns-clause-server : goal.returns-clause-server
returns-clause-server c = λ sectors told old new entry count one. stray_server one
