-- A ring that is walked from its back.
use Rattle.std.proofs.Common.{List, [], ◌∷◌, length, reverse, ap, ◌∙◌}
use Rattle.std.specs.declared.iter.Rev.{Rev}
use Rattle.std.specs.Iterator.Adapters.{rev_source, rev_steps}
use Rattle.std.specs.Map.Iter.{TakesLast, deref}
use Rattle.std.proofs.lemmas.List.{length-reverse, reverse-append}
use Rattle.std.proofs.lemmas.Iterator.{YieldsList}
use Rattle.std.proofs.lemmas.Iterator.Consumers.{YieldsList-from_shown}

-- the items come in reverse
pub yields_reversed : {X : Type 0} (s : Rev (List X)) → YieldsList (rev_steps (TakesLast (deref {X = X}))) deref s
    (reverse (rev_source s))
yields_reversed {X} s =
    YieldsList-from_shown (rev_steps (TakesLast (deref {X = X}))) deref (λ u. reverse (rev_source u))
    (λ u t p. length-reverse _ ∙ ap length p.0)
    (λ u x t p. ap reverse p ∙ reverse-append (rev_source t) (x.now ∷ []))
    s
