-- What the ticks since the ready or the last copy write come to over time.
use Rattle.std.proofs.Common.{◌≡◌, ◌≢◌, ℕ, zero, suc, ◌+◌, ◌-◌, ◌≤◌, List, [], ◌∷◌, ◌++◌, replicate, Option, Some, None, IsSome, option_map, refl, ap, arith}
use Rattle.std.specs.List.{All}
use Rattle.std.specs.Option.{IfSome, IsSomeAnd}
use Rattle.std.proofs.lemmas.List.Elements.{All-head, All-tail}
use Rattle.bg_copy.specs.Moderation.{Moderation}
use Rattle.bg_copy.specs.Happened.{Happened, ticks_since, ticks_in, commands_in, IsAllowed}
use Rattle.bg_copy.specs.Happened.Happened.{Ticked, Commanded, Wrote, Ready}

-- one more tick since is one less to wait
pub one_less : (gap : ℕ) (since : Option ℕ) → option_map (λ ticks. ticks - 1) (option_map (λ ticks. gap - ticks) since)
    ≡ option_map (λ ticks. gap - ticks) (option_map (λ ticks. ticks + 1) since)
one_less gap None = refl
one_less gap (Some ticks) = ap Some (omega arith)

-- the ticks since, one for each of the steps of a list
a_tick_more : (since : Option ℕ) (most : ℕ) → IfSome since (λ ticks. ticks ≤ most)
    → IfSome (option_map (λ ticks. ticks + 1) since) (λ ticks. ticks ≤ most + 1)
a_tick_more None most within = within
a_tick_more (Some ticks) most within = omega arith

begun_anew : (since : Option ℕ) (most : ℕ) → IfSome (option_map (λ ticks. 0) since) (λ ticks. ticks ≤ most)
begun_anew None most = tt
begun_anew (Some ticks) most = omega arith

a_tick_less : (since : Option ℕ) (least : ℕ) → IsSomeAnd since (λ ticks. least ≤ ticks)
    → IsSomeAnd (option_map (λ ticks. ticks + 1) since) (λ ticks. suc least ≤ ticks)
a_tick_less None least within = within
a_tick_less (Some ticks) least within = omega arith

between : (since : Option ℕ) (least most : ℕ) → IsSomeAnd since (λ ticks. least ≤ ticks)
    → IfSome since (λ ticks. ticks ≤ most) → least ≤ most
between None least most above below = absurd above
between (Some ticks) least most above below = omega arith

no_fewer : (since : Option ℕ) (least more : ℕ) → least ≤ more → IsSomeAnd since (λ ticks. more ≤ ticks)
    → IsSomeAnd since (λ ticks. least ≤ ticks)
no_fewer None least more within above = above
no_fewer (Some ticks) least more within above = omega arith

from_none : (since : Option ℕ) → IsSome since → IsSomeAnd since (λ ticks. 0 ≤ ticks)
from_none None some = absurd (cc)
from_none (Some ticks) some = omega arith

-- after what begins the count there are no more ticks since than ticks
since_most : (since before : List Happened) → IfSome (ticks_since before) (λ ticks. ticks ≤ 0)
    → IfSome (ticks_since (since ++ before)) (λ ticks. ticks ≤ ticks_in since)
since_most [] before start = start
since_most (Ticked ∷ since) before start =
    a_tick_more (ticks_since (since ++ before)) (ticks_in since) (since_most since before start)
since_most (Commanded ∷ since) before start = since_most since before start
since_most (Wrote b ∷ since) before start = begun_anew (ticks_since (since ++ before)) (ticks_in since)
since_most (Ready ∷ since) before start = omega arith

gap_passed : (m : Moderation) (since before : List Happened) → IfSome (ticks_since before) (λ ticks. ticks ≤ 0)
    → IsAllowed m (since ++ before) → m.gap ≤ ticks_in since
gap_passed m since before start allowed =
    between (ticks_since (since ++ before)) m.gap (ticks_in since) allowed.waited (since_most since before start)

pub gap_since_ready : (m : Moderation) (since before : List Happened) → IsAllowed m (since ++ Ready ∷ before)
    → m.gap ≤ ticks_in since
gap_since_ready m since before = gap_passed m since (Ready ∷ before) (omega arith)

pub gap_since_copy : (m : Moderation) (b : ℕ) (since before : List Happened) → IsAllowed m (since ++ Wrote b ∷ before)
    → m.gap ≤ ticks_in since
gap_since_copy m b since before = gap_passed m since (Wrote b ∷ before) (begun_anew (ticks_since before) 0)

-- none of what happened is the ready
abbrev IsBeforeReady : List Happened → Type 0
IsBeforeReady happened = All (λ one. one ≢ Ready) happened

earlier : (one : Happened) (happened : List Happened) → IsBeforeReady (one ∷ happened) → IsBeforeReady happened
earlier one happened none = All-tail (λ other. other ≢ Ready) one happened none

unready : (happened : List Happened) → IsBeforeReady happened → ticks_since happened ≡ None
unready [] none = refl
unready (Ticked ∷ happened) none =
    ap (option_map (λ ticks. ticks + 1)) (unready happened (earlier Ticked happened none))
unready (Commanded ∷ happened) none = unready happened (earlier Commanded happened none)
unready (Wrote b ∷ happened) none = ap (option_map (λ ticks. 0)) (unready happened (earlier (Wrote b) happened none))
unready (Ready ∷ happened) none = absurd (All-head (λ one. one ≢ Ready) Ready happened none refl)

pub not_ready : (m : Moderation) (happened : List Happened) → IsBeforeReady happened → ¬ IsAllowed m happened
not_ready m happened none allowed = rw (unready happened none) at allowed.waited

quiet_since : (ticks : ℕ) (happened : List Happened) → IsSome (ticks_since happened)
    → IsSomeAnd (ticks_since (replicate ticks Ticked ++ happened)) (λ since. ticks ≤ since)
quiet_since zero happened ready = from_none (ticks_since happened) ready
quiet_since (suc ticks) happened ready =
    a_tick_less (ticks_since (replicate ticks Ticked ++ happened)) ticks (quiet_since ticks happened ready)

quiet_in : (window ticks : ℕ) (happened : List Happened) → window ≤ ticks
    → commands_in window (replicate ticks Ticked ++ happened) ≡ 0
quiet_in zero ticks happened within = refl
quiet_in (suc window) zero happened within = absurd (omega arith)
quiet_in (suc window) (suc ticks) happened within = quiet_in window ticks happened (omega arith)

pub quiet_allows : (m : Moderation) (ticks : ℕ) (happened : List Happened) → IsSome (ticks_since happened)
    → m.gap ≤ ticks → m.window ≤ ticks → IsAllowed m (replicate ticks Ticked ++ happened)
quiet_allows m ticks happened ready gap window = record {
  waited = no_fewer (ticks_since (replicate ticks Ticked ++ happened)) m.gap ticks gap
      (quiet_since ticks happened ready);
  quiet = omega (arith, quiet_in m.window ticks happened window);
}
