use Rattle.std.proofs.Common.{arith}
use Rattle.run_words.proofs.Splits.{splits_nowhere, splits_at_first, pairs_joined}
use Rattle.run_words.proofs.pairs.cut.Goals as goal

pub cut_apart-requires : goal.cut_apart-requires
cut_apart-requires c = splits_nowhere _ c.in-None.ensures.cases

pub returns-in-Some-clause-pair : goal.returns-in-Some-clause-pair
returns-in-Some-clause-pair c =
    let parts = splits_at_first c.args.word.now c.in-Some.name c.in-Some.value c.in-Some.ensures.cases in
    grind (arith, parts, pairs_joined)
