-- What a power cut leaves, before and after opening has ended.
use Rattle.std.proofs.Common.{◌≡◌, ℕ, Bool, true, false, List, refl, sym, subst}
use Rattle.ata_taskfile.specs.Device.{Cell, Device}
use Rattle.plain_drive.specs.Cut.{IsOutcome}
use Rattle.plain_drive.specs.Plain.{stored}
use Rattle.fill_bitmap.specs.Disk.{guest_view}
use Rattle.fill_store.specs.Opening.{OpeningState, opening_at}
use Rattle.fill_store.proofs.OpeningCuts.{opening_view}
use Rattle.overlay.proofs.Cuts.{view_survives}
use Rattle.monitor_state.specs.declared.state.State.{State}
use Rattle.monitor_state.specs.declared.parts.Parts.{Parts}
use Rattle.monitor_state.specs.State.{is_opened}
use Rattle.monitor_state.specs.Fits.{Fits}
use Rattle.monitor_state.specs.Overlaid.{HasSectors, IsBeingOpened, Known}
use Rattle.monitor_state.proofs.OpeningJobs.{opens_in}

-- a cut may leave the values of sectors without writes
abbrev pub MayStay : Type 0
MayStay = (values : List (List ℕ)) → IsOutcome (stored values) values

-- until opening has ended, a guest finds what it finds on the disk at power-on
cut_before : MayStay → (k : Known) (s : State) (p : Parts) (d : Device) (plain : List Cell)
    (outcome : List (List ℕ)) → Fits s p d → IsBeingOpened k s p d plain → IsOutcome d.cells outcome
    → IsOutcome plain (guest_view p.area p.id k.image outcome)
cut_before stay k s p d plain outcome fits is left =
    let opens = opens_in k.disk s p d fits.parts.state is.buffer is.opens in
    let at : (o : OpeningState) → Type 0 = λ o.
    guest_view o.area o.id k.image outcome ≡ guest_view o.area o.id k.image k.disk in
    let here : opening_at p.opening.area p.opening.id p.opening.step ≡ opening_at p.area p.id p.opening.step =
    λ i. opening_at (fits.parts.area.opening i) (fits.parts.area.run i) p.opening.step in
    let same : guest_view p.area p.id k.image outcome ≡ guest_view p.area p.id k.image k.disk =
    subst at here (opening_view k.disk p.opening p.bitmap d.cells k.image outcome opens left) in
    let found = guest_view p.area p.id k.image k.disk in
    subst (λ cells. IsOutcome cells (guest_view p.area p.id k.image outcome)) (sym is.view)
    (subst (IsOutcome (stored found)) (sym same) (stay found))

cut_by : MayStay → (opened : Bool) (k : Known) (s : State) (p : Parts) (d : Device) (plain : List Cell)
    (outcome : List (List ℕ)) → is_opened p ≡ opened → Fits s p d → HasSectors k s p d plain
    → IsOutcome d.cells outcome → IsOutcome plain (guest_view p.area p.id k.image outcome)
cut_by stay false k s p d plain outcome is fits has left =
    cut_before stay k s p d plain outcome fits (has.opens is) left
cut_by stay true k s p d plain outcome is fits has left =
    let over = has.overlaid is in
    view_survives p.area p.id p.bitmap.stored k.durable k.image outcome d.cells plain over.kept over.survives left

-- and whenever the cut comes, what it may leave of the plain drive
pub cut_left : MayStay → (k : Known) (s : State) (p : Parts) (d : Device) (plain : List Cell)
    (outcome : List (List ℕ)) → Fits s p d → HasSectors k s p d plain → IsOutcome d.cells outcome
    → IsOutcome plain (guest_view p.area p.id k.image outcome)
cut_left stay k s p d plain outcome = cut_by stay (is_opened p) k s p d plain outcome refl
