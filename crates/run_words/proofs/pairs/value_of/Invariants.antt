use Rattle.std.proofs.Common.{◌≡◌, length}
use Rattle.run_words.specs.Pairs.{texts, pairs, value_of}
use Rattle.run_words.proofs.pairs.value_of.Given as goal

abbrev pub invariant-loop-name : goal.invariant-loop-name
invariant-loop-name l = value_of (pairs (texts l.words)) l.wanted ≡ value_of (pairs (texts l.rest)) l.wanted

abbrev pub decreases-loop-name : goal.decreases-loop-name
decreases-loop-name l = length l.rest
