-- One more named file.
use Rattle.std.proofs.Common.{◌≡◌, ℕ, List, [], ◌∷◌, ◌++◌, refl, ap, arith}
use Rattle.std.specs.Global.{Vec}
use Rattle.bm_host.specs.declared.Role.{Role}
use Rattle.bm_host.specs.declared.by_role.ByRole.{ByRole}
use Rattle.bm_host.specs.ByRole.{value_of, with_value}
use Rattle.bm_host.specs.NamedFiles.{named_onto, files_named, all_empty}

named_onto-push : (all : ByRole (List ℕ)) (files : List (Role × Vec ℕ)) (file : Role × Vec ℕ) →
    named_onto all (files ++ file ∷ []) ≡ with_value (named_onto all files) file.0 file.1.items
named_onto-push all [] file = refl
named_onto-push all (f ∷ files) file = named_onto-push (with_value all f.0 f.1.items) files file

-- the new file stands in place of what its role had, and every other role keeps its own
pub files_named-push : (files : List (Role × Vec ℕ)) (role : Role) (bytes : Vec ℕ) (r : Role) →
    value_of (files_named (files ++ (role, bytes) ∷ [])) r ≡ value_of
    (with_value (files_named files) role bytes.items) r
files_named-push files role bytes r = ap (λ all. value_of all r) (named_onto-push all_empty files (role, bytes))

-- a role's vector that has the role's bytes still has them where some role gets a new file
pub named-set : (named : ByRole (Vec ℕ)) (held : ByRole (List ℕ)) (role : Role) (bytes : Vec ℕ) (r : Role) →
    (value_of named r).items ≡ value_of held r →
    (value_of (with_value named role bytes) r).items ≡ value_of (with_value held role bytes.items) r
named-set named held role bytes r e = grind arith
