-- The mediator at power-on fits every drive at power-on.
use Rattle.std.proofs.Common.{◌≡◌, ℕ, ◌<◌, ◌≤◌, [], refl, sym, ap, ◌∙◌, subst}
use Rattle.fill_bitmap.specs.declared.area.Area.{Area}
use Rattle.fill_bitmap.specs.Area.{IsBlock, IsSuitable}
use Rattle.mon_pool.specs.Region.{Region, all_given, buffers_in}
use Rattle.port_lease.specs.declared.monitor_side.MonitorSide.{MonitorSide}
use Rattle.monitor_state.specs.declared.setup.TheConstants.{LEAST_POOL}
use Rattle.monitor_state.specs.declared.state.State.{State}
use Rattle.monitor_state.specs.declared.state.State.TheVariants.{Guest, Monitor, Running, Raising, Moving}
use Rattle.monitor_state.specs.declared.parts.Parts.{Parts}
use Rattle.monitor_state.specs.Fits.{FitsParts}
use Rattle.monitor_state.specs.Leases.{leases_of_state}
use Rattle.monitor_state.specs.Start.{IsBegun, IsSideAtPowerOn}
use Rattle.monitor_state.proofs.Begun.{begun_fit, closed}
use Rattle.monitor_state.proofs.Standing.{cut_fits, power_on_fits}
use Rattle.mediator.proofs.Restart.{given_count}
use Rattle.mediator.specs.declared.mediator.Mediator.{Mediator}
use Rattle.mediator.specs.Mediator.{FitsAtPowerOn, IsAtPowerOn, IsFit, StartsWith}

module _ (area : Area) (id buffers : ℕ) (suitable : IsSuitable area) (some : 0 < area.image)
    (least : LEAST_POOL ≤ buffers) where
  fits_from : (s : State) (p : Parts) → StartsWith s → IsBegun area id buffers p
      → FitsAtPowerOn (record { state = s; parts = p })
  fits_from (Guest side) p starts begun = absurd starts
  fits_from (Running side own why) p starts begun = absurd starts
  fits_from (Raising side dummy planned) p starts begun = absurd starts
  fits_from Moving p starts begun = absurd starts
  fits_from (Monitor side) p starts begun =
      let parts = begun_fit area id buffers p suitable some least begun side starts in
      let opening = closed area id buffers p some begun in record {
        first = λ cells. record {
          parts = parts;
          device = power_on_fits side p cells p.area.sectors starts opening;
          sectors = refl;
        };
        cut = λ old new has same. record {
          parts = parts;
          device = cut_fits side p old new starts opening has;
          sectors = same;
        };
        still = λ d. tt;
        closed = opening;
      }

  pub starts_fit : (m : Mediator) → IsAtPowerOn area id buffers m → FitsAtPowerOn m
  starts_fit m begun = fits_from m.state m.parts begun.state begun.parts

-- what fits a drive fits itself
pub fit_itself : (m : Mediator) → FitsAtPowerOn m → IsFit m
fit_itself m fits = (fits.first []).parts

-- and so does one that begins anew, once what it had leased is back
pub begun_again : (m : Mediator) (spent s : State) (side : MonitorSide) (p : Parts) (pool : Region) → IsFit m
    → pool ≡ all_given (leases_of_state spent) m.parts.pool → s ≡ Monitor side → IsSideAtPowerOn side
    → IsBegun m.parts.area m.parts.id (buffers_in pool) p
    → FitsAtPowerOn (record { state = s; parts = p })
begun_again m spent s side p pool fit given is starts begun =
    let count : buffers_in pool ≡ buffers_in m.parts.pool =
    ap buffers_in given ∙ given_count (leases_of_state spent) m.parts.pool in
    starts_fit m.parts.area m.parts.id (buffers_in pool) fit.area.suitable fit.area.image
    (subst (λ n. LEAST_POOL ≤ n) (sym count) fit.area.buffers) (record { state = s; parts = p })
    (record { state = subst StartsWith (sym is) starts; parts = begun })

-- the client asks for blocks of the area
pub asks_blocks : (s : State) (p : Parts) → FitsParts s p → IsBlock p.client.block
asks_blocks s p fits = subst IsBlock (sym fits.area.client) fits.area.suitable.blocked
