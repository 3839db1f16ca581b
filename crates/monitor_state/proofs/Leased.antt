-- Leases of the parts' pool.
use Rattle.std.proofs.Common.{◌≡◌, ℕ, ◌∷◌, ◌++◌, List, Option, Some, None, sym, subst, arith}
use Rattle.std.specs.Option.{option_map}
use Rattle.std.proofs.lemmas.List.{length-append}
use Rattle.mon_pool.specs.Region.{Held, Region, first_free, lease_of, leased}
use Rattle.mon_pool.proofs.Held.{is_added, one_more_out}
use Rattle.monitor_state.specs.declared.parts.Parts.{Parts}
use Rattle.monitor_state.specs.Leases.{AreLeased}

-- a new lease is one more of the pool's
pub one_more_leased : (p : Parts) (buffer : ℕ) (before behind : List Held) → first_free p.pool ≡ Some buffer
    → AreLeased (before ++ behind) p
    → AreLeased (before ++ lease_of p.pool buffer ∷ behind) (record p { pool = leased (Some buffer) p.pool })
one_more_leased p buffer before behind first leased = record {
  held = is_added before behind p.pool buffer first leased.held;
  counted = omega (
    arith,
    one_more_out p.pool buffer first,
    leased.counted,
    length-append before behind,
    length-append before (lease_of p.pool buffer ∷ behind),
  );
}

-- and so it is of the one that a take gave, where the first free one was taken
pub new_leased : (p : Parts) (first : Option ℕ) (lease : Held) (pool : Region) (before behind : List Held)
    → first_free p.pool ≡ first → Some lease ≡ option_map (lease_of p.pool) first → pool ≡ leased first p.pool
    → AreLeased (before ++ behind) p → AreLeased (before ++ lease ∷ behind) (record p { pool = pool })
new_leased p None lease pool before behind is one after are = absurd cc
new_leased p (Some buffer) lease pool before behind is one after are =
    let same : lease ≡ lease_of p.pool buffer = cc in
    subst (λ lease. AreLeased (before ++ lease ∷ behind) (record p { pool = pool })) (sym same) (
    subst (λ pool. AreLeased (before ++ lease_of p.pool buffer ∷ behind) (record p { pool = pool })) (sym after)
    (one_more_leased p buffer before behind is are)
    )
