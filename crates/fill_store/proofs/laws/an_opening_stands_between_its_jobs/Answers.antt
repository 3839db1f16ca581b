use Rattle.std.proofs.Common.{take}
use Rattle.fill_store.proofs.Opens.{opens_in_hand, opens_forgets}
use Rattle.fill_store.proofs.laws.an_opening_stands_between_its_jobs.Goals as goal

pub returns : goal.returns
returns c = record {
  in_hand = λ disk o buffer sets old new opens made. opens_in_hand disk o (take 512 buffer) sets old new opens made;
  forgotten = λ disk o sets old new opens forgets. opens_forgets disk o sets old new forgets opens;
  ends = λ disk o sets old new opens ends. opens_forgets disk o sets old new
      (c.ends_forget_older_values.ensures old new ends) opens;
}
