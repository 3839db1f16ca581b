-- A frame that is heard.
use Rattle.std.proofs.Common.{◌≡◌, ℕ, Bool, true, false, Some, None, sym, ap, ◌∙◌}
use Rattle.std.specs.Prelude.{◌↔◌}
use Rattle.std.proofs.lemmas.Bool.{true≢false}
use Rattle.aoe_client.specs.declared.client.Heard.TheVariants.{Took, Ignored}

-- the frame answers the found tag, where there is one, and no other; it is taken where that one is awaited
module _ {P : ℕ → Type 0} (awaited : ℕ → Bool) where
  pub took_none : ((tag : ℕ) → (None ≡ Some tag) ↔ P tag) → (tag : ℕ)
      → (Ignored ≡ Took tag) ↔ (P tag × (awaited tag ≡ true))
  took_none answers tag = (
    λ same. cc,
    λ a. let none = (answers tag).1 a.0 in cc,
  )

  pub took_one : (one : ℕ) → ((tag : ℕ) → (Some one ≡ Some tag) ↔ P tag) → awaited one ≡ true
      → (tag : ℕ) → (Took one ≡ Took tag) ↔ (P tag × (awaited tag ≡ true))
  took_one one answers is_awaited tag = (
    λ same.
        let it : one ≡ tag = cc in
        ((answers tag).0 (ap Some it), ap awaited (sym it) ∙ is_awaited),
    λ a.
        let it = (answers tag).1 a.0 in
        let same : one ≡ tag = cc in
        ap Took same,
  )

  pub took_other : (one : ℕ) → ((tag : ℕ) → (Some one ≡ Some tag) ↔ P tag) → awaited one ≡ false
      → (tag : ℕ) → (Ignored ≡ Took tag) ↔ (P tag × (awaited tag ≡ true))
  took_other one answers unawaited tag = (
    λ same. cc,
    λ a.
        let it = (answers tag).1 a.0 in
        let same : one ≡ tag = cc in
        absurd (true≢false (sym a.1 ∙ ap awaited (sym same) ∙ unawaited)),
  )
