-- What a power cut leaves of the drive of a world.
use Rattle.std.proofs.Common.{ℕ, List, [], Option, Some, None, sym, ap, ◌∙◌, subst}
use Rattle.fill_bitmap.specs.declared.area.Area.{Area}
use Rattle.fill_bitmap.specs.Disk.{guest_view}
use Rattle.plain_drive.specs.Cut.{IsOutcome}
use Rattle.plain_drive.specs.Physical.{Physical, seen}
use Rattle.plain_drive.specs.Plain.{Plain, sectors_in, stored}
use Rattle.plain_drive.proofs.CellEnds.{durable_alone_ends, ends-outcome}
use Rattle.plain_drive.proofs.EndsOfEnds.{ends-same}
use Rattle.streaming.specs.Lines.{Line}
use Rattle.streaming.specs.World.{Scene}
use Rattle.monitor_state.specs.Overlaid.{Known}
use Rattle.monitor_state.proofs.CutSectors.{cut_left}
use Rattle.mediator.specs.declared.mediator.Mediator.{Mediator}
use Rattle.mediator.specs.Mediator.{parts_of, state_of}
use Rattle.world.specs.Coupled.{Deployment, StandsIn}

-- a cut may leave sectors without writes as they are
stays : (values : List (List ℕ)) → IsOutcome (stored values) values
stays values = ends-outcome 0 [] values (stored values) (durable_alone_ends values)

-- the drive's durable sectors are what a cut leaves of its cells
pub durable_left : (p : Physical) → IsOutcome (seen p).device.cells p.kept.durable
durable_left p =
    let cells = (seen p).device.cells in ends-outcome 0 p.kept.cache.entries p.kept.durable cells (ends-same cells)

-- what a guest finds on the drive's durable sectors is what a cut may leave of the plain drive
pub found_outcome : (deployed : Deployment) (k : Known) (own : Option Mediator) (scene : Scene) (q : Plain)
    (lines : List Line) → StandsIn deployed k own scene q lines
    → IsOutcome q.device.cells (guest_view deployed.area deployed.id (sectors_in deployed.area.image deployed.image)
    scene.drive.kept.durable)
found_outcome deployed k None scene q lines stands = absurd stands
found_outcome deployed k (Some m) scene q lines stands =
    let durable = scene.drive.kept.durable in
    let d = (seen scene.drive).device in
    let own = parts_of m in
    let image = stands.image_is ∙ ap (λ n. sectors_in n deployed.image) (sym stands.sectors) in
    subst (λ (list : List (List ℕ)). IsOutcome q.device.cells (guest_view deployed.area deployed.id list durable)) image
    (subst (λ (id : ℕ). IsOutcome q.device.cells (guest_view deployed.area id k.image durable)) stands.id
    (subst (λ (a : Area). IsOutcome q.device.cells (guest_view a own.id k.image durable)) stands.area
    (cut_left stays k (state_of m) own d q.device.cells durable stands.fits stands.coupled.sectors
    (durable_left scene.drive))))
