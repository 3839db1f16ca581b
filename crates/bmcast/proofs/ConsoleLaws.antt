-- The line on Console.
use Rattle.std.proofs.Common.{◌≡◌, ◌++◌, List, ℕ, inl, inr}
use Rattle.std.specs.Prelude.{Result, Ok, Err, OnOk, OnErr}
use Rattle.bm_host.specs.declared.Role.TheVariants.{Console}
use Rattle.bm_host.specs.Outside.{Outside, Counted, Writes, Becomes, AppendsPrefix}
use Rattle.bmcast.specs.Status.{ConsoleSays}

-- a write to Console tells its text, or a prefix where it fails
pub told_by : {T E : Type 0} (text : List ℕ) (old new : Outside) (result : Result T E)
    → Counted Writes Console old new result
    → OnOk result (Becomes (λ before after. after ≡ before ++ text) (old.told Console) (new.told Console))
    → OnErr result (Becomes (AppendsPrefix text) (old.told Console) (new.told Console)) → ConsoleSays text old new
told_by text old new (Ok x) counted all part = inl all
told_by text old new (Err e) counted all part = inr (counted.rose, part)
