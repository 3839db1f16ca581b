use Rattle.std.proofs.Common.{◌-◌, ap, ◌∙◌}
use Rattle.std.specs.Option.{option_map}
use Rattle.bg_copy.specs.Happened.{ticks_since}
use Rattle.bg_copy.specs.Copier.{StandsFor}
use Rattle.bg_copy.proofs.Waiting.{one_less}
use Rattle.bg_copy.specs.contracts.copier.Copier.{the_view}
use Rattle.bg_copy.proofs.copier.Copier.tick.Goals as goal

pub returns : goal.returns
returns c = record {
  happened = λ m happened stands.
      let held : StandsFor m (the_view c.self.inside) happened = rw c.self.view_is stands in
      record {
        gap = held.gap;
        wait = c.one_tick_on-self-inside.ensures ∙ ap (option_map (λ ticks. ticks - 1)) held.wait
            ∙ one_less m.gap (ticks_since happened);
        counts = c.tick.ensures m happened held.counts;
        cursor = held.cursor;
      };
}
