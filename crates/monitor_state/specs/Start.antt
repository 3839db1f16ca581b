-- The parts at power-on.
use Rattle.std.specs.Prelude.{ℕ, ◌≡◌, ◌*◌, false, None}
use Rattle.fill_bitmap.specs.declared.area.Area.{Area}
use Rattle.fill_bitmap.specs.Area.{blocks_of}
use Rattle.fill_bitmap.specs.Bitmap.{empty_sets}
use Rattle.fill_store.specs.Opening.{opening_of}
use Rattle.aoe_client.specs.Asking.{nothing_asked}
use Rattle.mon_pool.specs.Region.{buffers_in, out_of}
use Rattle.port_lease.specs.declared.monitor_side.MonitorSide.{MonitorSide}
use Rattle.port_lease.specs.Sides.{has_own, view_at_power_on, view_held}
use Rattle.ata_taskfile.specs.declared.registers.TheConstants.{SECTOR_BYTES}
use Rattle.monitor_state.specs.declared.state.State.TheVariants.{Monitor}
use Rattle.monitor_state.specs.declared.parts.Parts.{Parts}
use Rattle.monitor_state.specs.Pieces.{no_hand}
use Rattle.monitor_state.specs.Fits.{FitsParts}

-- the parts of which nothing is done yet, over an area, for a run, with so many buffers: opening begins, no block is
-- in a set, and nothing is asked, leased or in hand
pub record IsBegun (area : Area) (id buffers : ℕ) (p : Parts) : Type 0 where
  pub area_is : p.area ≡ area
  pub id_is : p.id ≡ id
  pub bitmap : p.bitmap ≡ empty_sets (blocks_of area)
  pub opening : p.opening ≡ opening_of area id
  pub client : p.client ≡ nothing_asked area.block
  pub room : p.pool.room ≡ SECTOR_BYTES * area.block
  pub buffers_are : buffers_in p.pool ≡ buffers
  pub out : out_of p.pool ≡ 0
  pub held : p.held ≡ None
  pub hand : p.hand ≡ no_hand

-- the monitor's side as power-on gives it
pub record IsSideAtPowerOn (side : MonitorSide) : Type 0 where
  pub view : view_held side ≡ view_at_power_on
  pub own : has_own side ≡ false

-- the parts fit whatever side of the monitor's power-on gives
abbrev pub FitAtPowerOn : Parts → Type 0
FitAtPowerOn p = (side : MonitorSide) → IsSideAtPowerOn side → FitsParts (Monitor side) p
