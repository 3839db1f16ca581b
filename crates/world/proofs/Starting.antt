-- The world that begins stands for a plain drive.
use Rattle.std.proofs.Common.{◌≡◌, ◌<◌, ◌≤◌, ◌*◌, ℕ, zero, suc, List, [], length, drop, Option, Some, None, refl, sym, ap, ◌∙◌, subst, arith}
use Rattle.std.specs.Prelude.{IfSome}
use Rattle.std.proofs.lemmas.List.{length-drop, length-take}
use Rattle.ata_taskfile.specs.Device.{Cell, Device, powered_on}
use Rattle.aoe_net.specs.Wire.{Wire, nothing_sent}
use Rattle.fill_bitmap.specs.declared.area.Area.{Area}
use Rattle.fill_bitmap.specs.Disk.{guest_view, sector_at, stored_blocks}
use Rattle.plain_drive.specs.Cut.{drive_at_power_on}
use Rattle.plain_drive.specs.Plain.{sectors_in, stored}
use Rattle.plain_drive.specs.Physical.{Physical, seen}
use Rattle.plain_drive.proofs.CellEnds.{no_entries-stored}
use Rattle.streaming.specs.World.{drive_over, watched_over}
use Rattle.mediator.specs.declared.mediator.Mediator.{Mediator}
use Rattle.mediator.specs.Couples.{Couples, StandsAtPowerOn}
use Rattle.mediator.specs.Mediator.{FitsDrive, parts_of}
use Rattle.world.specs.Coupled.{Deployment, StandsIn, known_of, plain_found}
use Rattle.world.specs.Deployed.{IsReady, IsSound, watched_in}

-- the sectors of bytes of which there are enough are whole
whole_sectors : (n : ℕ) (bytes : List ℕ) → 512 * n ≤ length bytes → (s : ℕ) → s < length (sectors_in n bytes)
    → length (sector_at s (sectors_in n bytes)) ≡ 512
whole_sectors zero bytes enough s below = absurd (omega arith)
whole_sectors (suc n) bytes enough zero below = let first = length-take 512 bytes in omega arith
whole_sectors (suc n) bytes enough (suc s) below =
    let rest = length-drop 512 bytes in
    whole_sectors n (drop 512 bytes) (omega arith) s (omega (arith, below))

-- a drive that begins over these sectors is at power-on over them
begins_powered : (memory : ℕ) (p : Physical) → p ≡ drive_over memory p.kept.durable
    → (seen p).device ≡ powered_on (stored p.kept.durable) (length p.kept.durable)
begins_powered memory p is =
    ap (λ (x : Physical). (seen x).device) is
    ∙ ap (λ (cells : List Cell). powered_on cells (length p.kept.durable)) (no_entries-stored 0 p.kept.durable)

-- a run over an area of the drive, with this number and this image
module _ (deployed : Deployment) (memory : ℕ) (p : Physical)
    (enough : 512 * deployed.area.image ≤ length deployed.image) (is : p ≡ drive_over memory p.kept.durable)
    (long : length p.kept.durable ≡ deployed.area.sectors) where
  -- a monitor over it
  couples_at_start : (m : Mediator) → (parts_of m).area ≡ deployed.area → (parts_of m).id ≡ deployed.id
      → StandsAtPowerOn m
      → Couples (known_of deployed p.kept.durable) m (seen p).device p.memory (plain_found deployed p) []
  couples_at_start m area_is id_is stands =
      let disk = p.kept.durable in
      let own = parts_of m in
      let area = deployed.area in
      let sectors = sectors_in area.image deployed.image in
      let many : length disk ≡ own.area.sectors = long ∙ sym (ap (λ (a : Area). a.sectors) area_is) in
      let there = subst (λ (d : Device). Couples (record {
        image = sectors;
        disk = disk;
        durable = stored_blocks own.area own.id disk;
      }) m d p.memory (drive_at_power_on (guest_view own.area own.id sectors disk) own.area.sectors p.memory) [])
      (sym (begins_powered memory p is ∙ ap (powered_on (stored disk)) many))
      (stands sectors disk p.memory [] refl (whole_sectors area.image deployed.image enough) many) in
      subst (λ (i : ℕ). Couples (record { image = sectors; disk = disk; durable = stored_blocks area i disk }) m
      (seen p).device p.memory (drive_at_power_on (guest_view area i sectors disk) area.sectors p.memory) []) id_is
      (subst (λ (a : Area). Couples (record {
        image = sectors;
        disk = disk;
        durable = stored_blocks a own.id disk;
      }) m (seen p).device p.memory (drive_at_power_on (guest_view a own.id sectors disk) a.sectors p.memory) [])
      area_is there)

  -- fits the drive
  fits_at_start : (m : Mediator) → ((cells : List Cell) → IsReady m (powered_on cells deployed.area.sectors))
      → FitsDrive m (seen p).device
  fits_at_start m sound =
      let disk = p.kept.durable in
      subst (λ (d : Device). FitsDrive m d)
      (sym (begins_powered memory p is ∙ ap (powered_on (stored disk)) long)) ((sound (stored disk)).fits)

  -- so the world that has it stands for what a guest finds
  pub begins_as_plain : (m : Option Mediator)
      → IfSome m (λ n. ((parts_of n).area ≡ deployed.area) × ((parts_of n).id ≡ deployed.id) × StandsAtPowerOn n)
      → ((cells : List Cell) → IsSound m (powered_on cells deployed.area.sectors))
      → watched_in m ≡ watched_over deployed.area.block deployed.area.image → (wire : Wire) → wire ≡ nothing_sent
      → 0 < deployed.area.image
      → StandsIn deployed (known_of deployed p.kept.durable) m
      (record { drive = p; wire = wire; image = deployed.area.image; watched = watched_in m })
      (plain_found deployed p) []
  begins_as_plain None stands sound watched wire empty some = none_watched deployed.area.image watched some
    where
      none_watched : (n : ℕ) → None ≡ watched_over deployed.area.block n → 0 < n → ⊥
      none_watched zero none below = omega arith
      none_watched (suc n) none below = cc
  begins_as_plain (Some m) stands sound watched wire empty some = record {
    coupled = couples_at_start m stands.0 stands.1 stands.2;
    area = stands.0;
    id = stands.1;
    fits = fits_at_start m sound;
    watched = refl;
    sectors = refl;
    image_is = refl;
    replies = λ k d below. absurd (omega (arith, ap (λ (w : Wire). length w.to_client) empty, below));
  }
