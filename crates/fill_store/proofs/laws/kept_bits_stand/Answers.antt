use Rattle.fill_store.proofs.Keeps.{keeps_forgets, keeps_elsewhere}
use Rattle.fill_store.proofs.laws.kept_bits_stand.Goals as goal

pub returns : goal.returns
returns c = record {
  forgotten = λ area id least most old new kept forgets. keeps_forgets area id least most old new forgets kept;
  ends = λ area id least most old new kept ends. keeps_forgets area id least most old new
      (c.ends_forget_older_values.ensures old new ends) kept;
  elsewhere = keeps_elsewhere;
}
