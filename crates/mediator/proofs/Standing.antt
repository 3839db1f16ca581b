-- What fits goes on to fit: behind a call that left another state, and while the client asks for the same.
use Rattle.std.proofs.Common.{◌≡◌, refl, sym, ap, ◌∙◌, subst}
use Rattle.mon_pool.specs.Region.{Region, all_given}
use Rattle.aoe_client.specs.Asking.{Asking}
use Rattle.monitor_state.specs.declared.state.State.{State}
use Rattle.monitor_state.specs.declared.state.State.TheVariants.{Moving}
use Rattle.monitor_state.specs.declared.parts.Parts.{Parts}
use Rattle.monitor_state.specs.Leases.{leases_of_state}
use Rattle.monitor_state.specs.SameAsks.{BothAskTheSame, HaveSameAsks}

-- the state that a call left takes the place of the one that stood meanwhile, which had no lease: what holds of it
-- holds then
pub left_as : (P : State → Parts → Type 0) (s left moved : State) (p : Parts) (pool : Region) → s ≡ left
    → moved ≡ Moving → pool ≡ all_given (leases_of_state moved) p.pool → P left p → P s (record p { pool = pool })
left_as P s left moved p pool is meanwhile given holds =
    let same : pool ≡ p.pool = given ∙ ap (λ t. all_given (leases_of_state t) p.pool) meanwhile in
    subst (λ t. P t (record p { pool = pool })) (sym is) (subst (λ r. P left (record p { pool = r })) (sym same) holds)

-- of the parts the client alone has changed, and asks for the same
pub same_asks : (p : Parts) (new asks : Asking) → new ≡ asks → BothAskTheSame p.client asks
    → HaveSameAsks p (record p { client = new })
same_asks p new asks is same = record {
  asks = subst (λ c. BothAskTheSame p.client c) (sym is) same;
  pool = refl;
  others = refl;
}
