use Rattle.fill_bitmap.specs.Bitmap.{these_sets}
use Rattle.fill_bitmap.proofs.Nested.{loaded_nested}
use Rattle.fill_bitmap.proofs.bitmap.Bitmap.load.Goals as goal

pub invariant_of-self : goal.invariant_of-self
invariant_of-self c =
    rw (c.add_to_each.ensures.stored, c.add_to_each.ensures.frozen, c.add_to_each.ensures.filled)
    (loaded_nested c.args.k c.args.sector.now
    (these_sets c.self.inside.stored c.self.inside.frozen c.self.inside.filled) c.self.invariant)

pub returns-clause-nested : goal.returns-clause-nested
returns-clause-nested c =
    rw (c.add_to_each.ensures.stored, c.add_to_each.ensures.frozen, c.add_to_each.ensures.filled)
    (loaded_nested c.args.k c.args.sector.now
    (these_sets c.self.inside.stored c.self.inside.frozen c.self.inside.filled) c.self.invariant)
