use Rattle.std.proofs.Common.{refl}
use Rattle.bg_copy.specs.Copier.{StandsFor}
use Rattle.bg_copy.specs.contracts.copier.Copier.{the_view}
use Rattle.bg_copy.proofs.copier.Copier.power_on.Goals as goal

pub returns : goal.returns
returns c = record {
  forgotten = λ m happened stands.
      let held : StandsFor m (the_view c.self.inside) happened = rw c.self.view_is stands in
      record {
        gap = held.gap;
        wait = refl;
        counts = c.clear.ensures m happened held.counts;
        cursor = refl;
      };
}
