-- The sectors of a plain drive that a deployment gives its guest: what they rest on, and which a command reads.
use Rattle.std.proofs.Common.{◌≡◌, ℕ, ◌+◌, ◌<◌, ◌≤◌, Bool, true, false, not, ◌&&◌, if◌then◌else◌, List, refl, sym, ap, ◌∙◌, subst, arith}
use Rattle.std.specs.Prelude.{nat_lt}
use Rattle.std.proofs.lemmas.Bool.{true≢false}
use Rattle.std.proofs.lemmas.Bool.Decides.{nat_tests}
use Rattle.ata_taskfile.specs.declared.Form.{Form}
use Rattle.ata_taskfile.specs.declared.Form.TheVariants.{NoMove, PioIn, PioOut, DmaIn, DmaOut}
use Rattle.ata_taskfile.specs.declared.Kind.{Kind}
use Rattle.ata_taskfile.specs.declared.Kind.TheVariants.{Read, Write, Verify, Flush, Identify, Features}
use Rattle.ata_taskfile.specs.declared.Request.{Request}
use Rattle.ata_taskfile.specs.declared.Taken.TheVariants.{Good, Bad}
use Rattle.ata_taskfile.specs.declared.Phase.{Phase}
use Rattle.ata_taskfile.specs.declared.Phase.TheVariants.{Reset, Idle, Busy, Ready}
use Rattle.ata_taskfile.specs.Device.{Cell, Device}
use Rattle.ata_taskfile.specs.Lawful.{IsLawful, has_possible_order, is_possible, moves_in, moves_nothing}
use Rattle.plain_drive.specs.Alike.{ReadAlike, gives_data, gives_identity, has_sector, reads_sector}
use Rattle.plain_drive.specs.Plain.{Plain}
use Rattle.port_lease.specs.declared.guest_side.GuestSide.{GuestSide}
use Rattle.fill_bitmap.specs.Area.{reserved_of}
use Rattle.fill_bitmap.specs.Disk.{is_empty_at}
use Rattle.io_interpret.specs.declared.class.Class.TheVariants.{Local, Redirected, FillFirst, Reserved}
use Rattle.io_interpret.specs.Class.{class_of_kind, reaches_reserved, touches}
use Rattle.io_interpret.proofs.Ranges.{none_empty}
use Rattle.overlay.specs.Steps.{WritesWithin, moves_sectors}
use Rattle.overlay.proofs.Values.{of_drive}
use Rattle.monitor_state.specs.declared.state.State.{State}
use Rattle.monitor_state.specs.declared.state.State.TheVariants.{Guest}
use Rattle.monitor_state.specs.declared.parts.Parts.{Parts}
use Rattle.monitor_state.specs.State.{is_opened}
use Rattle.monitor_state.specs.Classes.{is_drives_class, is_drives_in}
use Rattle.monitor_state.specs.Fits.{Fits}
use Rattle.monitor_state.specs.Overlaid.{HasSectors, IsOverlaid, Known}

-- where the bitmap and what it speaks of are the same, and so are the drive's sectors
same_overlaid : (k : Known) (p r : Parts) (d e : Device) (plain : List Cell) → r.area ≡ p.area → r.id ≡ p.id
    → r.bitmap ≡ p.bitmap → e.cells ≡ d.cells → IsOverlaid k p d.cells plain → IsOverlaid k r e.cells plain
same_overlaid k p r d e plain area id bitmap cells over =
    let same : record p { area = r.area; id = r.id; bitmap = r.bitmap } ≡ p =
    λ i. record p { area = area i; id = id i; bitmap = bitmap i } in
    let there = subst (λ (q : Parts). IsOverlaid k q e.cells plain) (sym same)
    (subst (λ cells. IsOverlaid k p cells plain) (sym cells) over) in record {
      values = there.values;
      survives = there.survives;
      kept = there.kept;
      durable = there.durable;
      settled = there.settled;
    }

-- once opening has ended the sectors stay so whatever else changes
pub registered_sectors : (k : Known) (s t : State) (p r : Parts) (d e : Device) (plain : List Cell)
    → is_opened p ≡ true → r.area ≡ p.area → r.id ≡ p.id → r.opening ≡ p.opening → r.bitmap ≡ p.bitmap
    → e.cells ≡ d.cells → HasSectors k s p d plain → HasSectors k t r e plain
registered_sectors k s t p r d e plain opened area id opening bitmap cells has = record {
  opens = λ closed. absurd (true≢false
      (sym opened ∙ ap (λ o. is_opened (record p { opening = o })) (sym opening) ∙ closed));
  overlaid = λ still. same_overlaid k p r d e plain area id bitmap cells (has.overlaid opened);
}

-- a read or write that the drive gets reaches no reserved sector and touches no empty block
read_class : (reserved touched : Bool)
    → is_drives_class (if reserved then Reserved else if touched then Redirected else Local) ≡ true
    → (reserved ≡ false) × (touched ≡ false)
read_class true touched gets = absurd (true≢false (sym gets))
read_class false true gets = absurd (true≢false (sym gets))
read_class false false gets = (refl, refl)

write_class : (reserved touched : Bool)
    → is_drives_class (if reserved then Reserved else if touched then FillFirst else Local) ≡ true
    → (reserved ≡ false) × (touched ≡ false)
write_class true touched gets = absurd (true≢false (sym gets))
write_class false true gets = absurd (true≢false (sym gets))
write_class false false gets = (refl, refl)

moved_class : (kind : Kind) (r : Request) (p : Parts) → moves_sectors kind ≡ true
    → is_drives_class (class_of_kind kind r p.area p.bitmap) ≡ true
    → (reaches_reserved r p.area ≡ false) × (touches r p.area p.bitmap ≡ false)
moved_class Read r p moves gets = read_class (reaches_reserved r p.area) (touches r p.area p.bitmap) gets
moved_class Write r p moves gets = write_class (reaches_reserved r p.area) (touches r p.area p.bitmap) gets
moved_class Verify r p moves gets = absurd (true≢false (sym moves))
moved_class Flush r p moves gets = absurd (true≢false (sym moves))
moved_class Identify r p moves gets = absurd (true≢false (sym moves))
moved_class Features r p moves gets = absurd (true≢false (sym moves))

-- so its sectors are the drive's own, of the image or behind it
abbrev pub IsDrives : Parts → ℕ → Type 0
IsDrives p s = (is_empty_at p.area p.bitmap.filled s ≡ false) × (s < reserved_of p.area)

unreached : (reserved end s : ℕ) → nat_lt reserved end ≡ false → s < end → s < reserved
unreached reserved end s reaches below = grind (arith, nat_tests)

moved_sectors : (kind : Kind) (r : Request) (p : Parts) (s : ℕ) → moves_sectors kind ≡ true
    → is_drives_class (class_of_kind kind r p.area p.bitmap) ≡ true → r.first ≤ s → s < r.first + r.count
    → IsDrives p s
moved_sectors kind r p s moves gets above below =
    let class = moved_class kind r p moves gets in (
      none_empty p.area p.bitmap.filled r.first r.count class.1 s above below,
      unreached (reserved_of p.area) (r.first + r.count) s class.0 below,
    )

-- the sectors that a command on the guest's side writes
pub written_sectors : (phase : Phase) (p : Parts) (s : ℕ) → is_drives_in phase p ≡ true → WritesWithin phase s
    → IsDrives p s
written_sectors Reset p s gets writes = absurd writes
written_sectors Idle p s gets writes = absurd writes
written_sectors (Busy (Good order) done) p s gets writes =
    moved_sectors order.kind order p s writes.1 gets writes.2 writes.3
written_sectors (Busy (Bad reason) done) p s gets writes = absurd writes
written_sectors (Ready order done left) p s gets writes = absurd writes

both : (a b : Bool) → (a && b) ≡ true → (a ≡ true) × (b ≡ true)
both true b holds = (refl, holds)
both false b holds = absurd (true≢false (sym holds))

-- data that is no identity comes from sectors
nothing_given : (form : Form) → moves_nothing form ≡ true → gives_data form ≡ true → ⊥
nothing_given NoMove none gives = true≢false (sym gives)
nothing_given PioIn none gives = true≢false (sym none)
nothing_given PioOut none gives = true≢false (sym none)
nothing_given DmaIn none gives = true≢false (sym none)
nothing_given DmaOut none gives = true≢false (sym none)

given_moves : (kind : Kind) (form : Form) → moves_in kind form ≡ true → gives_data form ≡ true
    → not (gives_identity kind) ≡ true → moves_sectors kind ≡ true
given_moves Read form moves gives other = refl
given_moves Write form moves gives other = refl
given_moves Verify form moves gives other = absurd (nothing_given form moves gives)
given_moves Flush form moves gives other = absurd (nothing_given form moves gives)
given_moves Identify form moves gives other = absurd (true≢false (sym other))
given_moves Features form moves gives other = absurd (nothing_given form moves gives)

in_range : (order : Request) (s : ℕ) → has_sector order s ≡ true → (order.first ≤ s) × (s < order.first + order.count)
in_range order s has = grind (arith, nat_tests)

-- the sectors that an order reads
order_sectors : (order : Request) (p : Parts) (s : ℕ) → is_possible (Good order) ≡ true
    → is_drives_class (class_of_kind order.kind order p.area p.bitmap) ≡ true
    → (gives_data order.form && not (gives_identity order.kind) && has_sector order s) ≡ true → IsDrives p s
order_sectors order p s possible gets reads =
    let here = both (gives_data order.form && not (gives_identity order.kind)) (has_sector order s) reads in
    let there = both (gives_data order.form) (not (gives_identity order.kind)) here.0 in
    let range = in_range order s here.1 in
    moved_sectors order.kind order p s
    (given_moves order.kind order.form (both (moves_in order.kind order.form) _ possible).0 there.0 there.1) gets
    range.0 range.1

read_sectors : (phase : Phase) (p : Parts) (s : ℕ) → has_possible_order phase ≡ true → is_drives_in phase p ≡ true
    → reads_sector phase s ≡ true → IsDrives p s
read_sectors Reset p s possible gets reads = absurd (true≢false (sym reads))
read_sectors Idle p s possible gets reads = absurd (true≢false (sym reads))
read_sectors (Busy (Good order) done) p s possible gets reads = order_sectors order p s possible gets reads
read_sectors (Busy (Bad reason) done) p s possible gets reads = absurd (true≢false (sym reads))
read_sectors (Ready (Good order) done left) p s possible gets reads = order_sectors order p s possible gets reads
read_sectors (Ready (Bad reason) done left) p s possible gets reads = absurd (true≢false (sym reads))

-- each sector that a command on the guest's side reads has the plain drive's value
pub guests_reads : (k : Known) (side : GuestSide) (p : Parts) (d : Device) (q : Plain) → IsLawful d
    → Fits (Guest side) p d → HasSectors k (Guest side) p d q.device.cells → ReadAlike d.file.phase d q.device
guests_reads k side p d q lawful fits has s reads =
    let over = has.overlaid fits.parts.state.1 in
    let drives = read_sectors d.file.phase p s lawful.registers.goes_on.possible fits.device.2 reads in
    of_drive p.area p.bitmap.filled k.image d.cells q.device.cells s over.values drives.1 drives.0
