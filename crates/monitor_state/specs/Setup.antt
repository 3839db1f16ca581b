-- Which numbers a deployment can be set up with.
use Rattle.std.specs.Prelude.{◌≤◌}
use Rattle.fill_bitmap.specs.Area.{IsSuitable}
use Rattle.bg_copy.specs.Moderation.{IsInRange, moderation}
use Rattle.monitor_state.specs.declared.setup.Setup.{Setup}
use Rattle.monitor_state.specs.declared.setup.TheConstants.{LEAST_POOL, MOST_POOL}

-- the area is suitable, and each number is within its bounds (own)
pub record IsSetup (s : Setup) : Type 0 where
  pub area : IsSuitable s.area
  pub moderation : IsInRange (moderation s.gap s.window s.limit)
  pub some_leases : LEAST_POOL ≤ s.pool
  pub pool : s.pool ≤ MOST_POOL
