-- Bytes that wait to be written to a role.
use Rattle.std.specs.Prelude.{ℕ, ◌≡◌, ◌++◌, List}
use Rattle.bm_host.specs.declared.Role.{Role}
use Rattle.bm_host.specs.Outside.{Outside, IfTold}

-- what the role holds and the bytes that wait for it are this text
abbrev pub Waits : Role → List ℕ → Outside → List ℕ → Type 0
Waits role waiting outside text = IfTold (outside.told role) (λ written. written ++ waiting ≡ text)

-- that text stays the same
abbrev pub KeepsWaiting : Role → List ℕ → List ℕ → Outside → Outside → Type 0
KeepsWaiting role waiting left old new =
    (text : List ℕ) → Waits role waiting old text → Waits role left new text
