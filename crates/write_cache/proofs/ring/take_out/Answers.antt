use Rattle.std.proofs.Common.{◌≡◌, slice_get, Some, sym, ◌∙◌}
use Rattle.write_cache.proofs.Taking.{entry_first, ring_taken}
use Rattle.write_cache.proofs.ring.take_out.Goals as goal

pub returns-clause-after : goal.returns-clause-after
returns-clause-after c =
    let there : slice_get c.args.ring.now.items c.args.k ≡ Some c.in_ok-sector.field-0.now =
    sym c.in_ok-sector.ensures in
    ring_taken c.args.ring.now _ _ _ there c.pass_older-passed.ensures.passed _ _ _ c.pass_older-passed.ensures.number
    c.pop_front-taken.ensures.items c.bring_back.ensures

pub returns-clause-entry : goal.returns-clause-entry
returns-clause-entry c =
    let there : slice_get c.args.ring.now.items c.args.k ≡ Some c.in_ok-sector.field-0.now =
    sym c.in_ok-sector.ensures in
    c.pop_front-taken.ensures.value ∙ entry_first c.args.ring.now _ _ _ there c.pass_older-passed.ensures.passed
    ∙ sym there
