-- What a guest finds on the disk at power-on, with which the plain drive begins, and what a power cut would leave.
use Rattle.std.proofs.Common.{◌≡◌, ℕ, ◌<◌, ◌==◌, Bool, true, false, List, length, if◌then◌else◌, sym, ap, ◌∙◌, subst}
use Rattle.std.specs.Prelude.{IfSome, take}
use Rattle.std.proofs.lemmas.Bool.{true≢false}
use Rattle.ata_taskfile.specs.Device.{Cell, Device, powered_on}
use Rattle.fill_bitmap.specs.declared.area.Area.{Area}
use Rattle.fill_bitmap.specs.Area.{IsSuitable}
use Rattle.fill_bitmap.specs.Bitmap.{Sets}
use Rattle.fill_bitmap.specs.Disk.{HasHeader, guest_view, stored_blocks}
use Rattle.fill_store.specs.declared.opening.OpeningStep.TheVariants.{Nothing, ReadHeader}
use Rattle.fill_store.specs.Opening.{OpeningState, bytes_at, bytes_to_open, opening_of}
use Rattle.fill_store.specs.OpeningCells.{Opens}
use Rattle.fill_store.proofs.Opens.{opens_at_power_on}
use Rattle.fill_store.proofs.Stored.{cut_header}
use Rattle.plain_drive.specs.Cut.{IsOutcome}
use Rattle.plain_drive.specs.Plain.{stored}
use Rattle.port_lease.specs.declared.monitor_side.MonitorSide.{MonitorSide}
use Rattle.monitor_state.specs.declared.state.State.{State}
use Rattle.monitor_state.specs.declared.state.State.TheVariants.{Monitor}
use Rattle.monitor_state.specs.declared.parts.Parts.{Parts}
use Rattle.monitor_state.specs.State.{is_opened}
use Rattle.monitor_state.specs.Start.{IsBegun}
use Rattle.monitor_state.specs.Overlaid.{HasSectors, Known}
use Rattle.monitor_state.proofs.Begun.{closed}

-- nothing is to be written first
none_written : (area : Area) (id : ℕ) (sector : List ℕ) (empty : Bool)
    → IfSome (bytes_at area id (if empty then Nothing else ReadHeader)) (λ bytes. take 512 sector ≡ bytes)
none_written area id sector true = tt
none_written area id sector false = tt

-- at power-on the plain drive has what a guest finds on the disk
pub begun_sectors : (image disk : List (List ℕ)) (area : Area) (id buffers : ℕ) (p : Parts) (side : MonitorSide)
    → IsSuitable area → 0 < area.image → length disk ≡ area.sectors → IsBegun area id buffers p
    → HasSectors (record { image = image; disk = disk; durable = stored_blocks area id disk }) (Monitor side) p
    (powered_on (stored disk) area.sectors) (stored (guest_view area id image disk))
begun_sectors image disk area id buffers p side suitable some long begun = record {
  opens = λ still. record {
    opens = subst (λ (o : OpeningState). Opens disk o p.bitmap (stored disk)) (sym begun.opening)
        (subst (λ (sets : Sets). Opens disk (opening_of area id) sets (stored disk)) (sym begun.bitmap)
        (opens_at_power_on area id disk suitable some long));
    buffer = subst (λ (o : OpeningState). IfSome (bytes_to_open o) (λ bytes. take 512 p.sector ≡ bytes))
        (sym begun.opening) (none_written area id p.sector (area.image == 0));
    view = ap (λ (a : Area). stored (guest_view a id image disk)) (sym begun.area_is)
        ∙ ap (λ (i : ℕ). stored (guest_view p.area i image disk)) (sym begun.id_is);
    durable = ap (λ (a : Area). stored_blocks a id disk) (sym begun.area_is)
        ∙ ap (λ (i : ℕ). stored_blocks p.area i disk) (sym begun.id_is);
  };
  overlaid = λ opened. absurd (true≢false (sym opened ∙ closed area id buffers p some begun));
}

-- once opening has ended a cut leaves the run's header
pub opened_header : (k : Known) (s : State) (p : Parts) (d : Device) (plain : List Cell) (outcome : List (List ℕ))
    → is_opened p ≡ true → HasSectors k s p d plain → IsOutcome d.cells outcome → HasHeader p.area p.id outcome
opened_header k s p d plain outcome opened has left =
    cut_header p.area p.id p.bitmap.stored k.durable d.cells outcome (has.overlaid opened).kept left
