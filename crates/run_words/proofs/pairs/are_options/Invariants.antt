use Rattle.std.proofs.Common.{◌≡◌, length}
use Rattle.run_words.specs.Pairs.{texts, pairs, are_options}
use Rattle.run_words.proofs.pairs.are_options.Given as goal

abbrev pub invariant-loop-name : goal.invariant-loop-name
invariant-loop-name l = are_options (pairs (texts l.words)) ≡ are_options (pairs (texts l.rest))

abbrev pub decreases-loop-name : goal.decreases-loop-name
decreases-loop-name l = length l.rest
