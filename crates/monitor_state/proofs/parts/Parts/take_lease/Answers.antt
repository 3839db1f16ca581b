use Rattle.std.proofs.Common.{refl, sym, ◌∙◌}
use Rattle.mon_pool.specs.Region.{first_free}
use Rattle.monitor_state.proofs.Leased.{new_leased}
use Rattle.monitor_state.proofs.parts.Parts.take_lease.Goals as goal

pub returns-clause-leased : goal.returns-clause-leased
returns-clause-leased c before behind leased =
    new_leased c.args.self.now (first_free c.args.self.now.pool) c.in-Some.lease c.take.new.self before behind
    refl (sym c.in-Some.is ∙ c.take.ensures.lease) c.take.ensures.after leased
