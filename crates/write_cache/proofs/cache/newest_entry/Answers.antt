use Rattle.std.proofs.Common.{rules, tests, ◌∙◌}
use Rattle.std.proofs.lemmas.Iterator.Search.{find_from_yields_List}
use Rattle.write_cache.specs.Cache.{is_of}
use Rattle.write_cache.proofs.Reverse.{yields_reversed}
use Rattle.write_cache.proofs.cache.newest_entry.Goals as goal

pub returns : goal.returns
returns c =
    find_from_yields_List (is_of c.args.sector) _ _ c.find.result c.find.ensures.ran (yields_reversed c.rev.result)
    (λ x b q k. search (rules, tests))
    ∙ (cc)
