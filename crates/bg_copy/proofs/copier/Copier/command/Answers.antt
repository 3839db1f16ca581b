use Rattle.bg_copy.specs.Copier.{StandsFor}
use Rattle.bg_copy.specs.contracts.copier.Copier.{the_view}
use Rattle.bg_copy.proofs.copier.Copier.command.Goals as goal

pub returns : goal.returns
returns c = record {
  happened = λ m happened stands.
      let held : StandsFor m (the_view c.self.inside) happened = rw c.self.view_is stands in
      record {
        gap = held.gap;
        wait = held.wait;
        counts = c.command.ensures m happened held.counts;
        cursor = held.cursor;
      };
}
