use Rattle.aoe_frame.proofs.Written.{written_says, written_shortest, written_other}
use Rattle.aoe_frame.proofs.writing.write.Goals as goal

pub returns-clause-read_back : goal.returns-clause-read_back
returns-clause-read_back c = λ of. rw c.write_all.ensures.frame (written_says c.args.message.now c.requires.fits of)

pub returns-clause-shortest : goal.returns-clause-shortest
returns-clause-shortest c = λ bytes says. rw c.write_all.ensures.frame (written_shortest bytes c.args.message.now says)

pub returns-clause-other : goal.returns-clause-other
returns-clause-other c = λ none. rw c.write_all.ensures.frame (written_other c.args.message.now c.requires.fits none)
