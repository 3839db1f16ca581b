use Rattle.std.proofs.Common.{[]}
use Rattle.fill_store.proofs.Settles.{settles_in_hand, settles_forgets, settles_elsewhere}
use Rattle.fill_store.proofs.laws.a_settling_stands_between_its_jobs.Goals as goal

pub returns : goal.returns
returns c = record {
  in_hand = λ id durable s sets old new settles made. settles_in_hand id durable s [] sets old new settles made;
  forgotten = λ id durable s sets old new settles forgets. settles_forgets id durable s sets old new forgets settles;
  ends = λ id durable s sets old new settles ends. settles_forgets id durable s sets old new
      (c.ends_forget_older_values.ensures old new ends) settles;
  elsewhere = settles_elsewhere;
}
