-- What is found in image and disk.
use Rattle.std.proofs.Common.{◌≡◌, ◌*◌, ◌/◌, ◌<◌, ◌==◌, ◌≢◌, ℕ, Bool, false, List, [], slice_index_or, take, drop, Option, Some, None, refl, sym, ap, ◌∙◌, subst, arith}
use Rattle.std.proofs.lemmas.Bool.{ne_eqb}
use Rattle.std.proofs.lemmas.Bool.Decides.{nat_tests}
use Rattle.std.specs.Str.{bytes_eq}
use Rattle.bm_host.specs.declared.Role.TheVariants.{Image, Disk}
use Rattle.bm_host.specs.Outside.{Outside, IfTold, bytes_at}
use Rattle.block_writes.proofs.Told.{IfTold-weaker}
use Rattle.plain_drive.specs.Plain.{sectors_in}
use Rattle.plain_drive.proofs.Sectors.{sector_of_bytes}
use Rattle.fill_bitmap.specs.declared.area.Area.{Area}
use Rattle.fill_bitmap.specs.declared.lengths.Unsuitable.{Unsuitable}
use Rattle.fill_bitmap.specs.Area.{IsBlock, IsSuitable, reserved_of}
use Rattle.fill_bitmap.specs.Disk.{has_header, header_of}
use Rattle.fill_bitmap.specs.Lengths.{area_on, refusal_of}
use Rattle.run_words.specs.Options.{Choice}
use Rattle.bmcast.specs.declared.Why.{Why}
use Rattle.bmcast.specs.Lengths.{CanRun, Finds, Found, HasLength, IsAreaOf, IsFound, IsUnsuitable, area_in, refusal_by, refusal_in, why_of}

-- lengths that aren't refused are whole sectors
whole_sectors : (image disk block : ℕ) → IsBlock block → refusal_of image disk block ≡ None
    → (image ≡ 512 * (image / 512)) × (disk ≡ 512 * (disk / 512))
whole_sectors image disk block blocked taken = grind (arith, nat_tests)

-- their area is the one of both files
pub area_found : (choice : Choice) (area : Area) (o : Outside) (image disk : ℕ) → IsBlock choice.sizes.block
    → area ≡ area_on image disk choice.sizes.block → IsSuitable area
    → refusal_of image disk choice.sizes.block ≡ None → HasLength Image o image → HasLength Disk o disk
    → IsAreaOf choice area o
area_found choice area o image disk blocked is suitable taken image_told disk_told =
    let whole = whole_sectors image disk choice.sizes.block blocked taken in
    let of_image : image ≡ 512 * area.image = whole.0 ∙ ap (λ (a : Area). 512 * a.image) (sym is) in
    let of_disk : disk ≡ 512 * area.sectors = whole.1 ∙ ap (λ (a : Area). 512 * a.sectors) (sym is) in
    record {
      suitable = suitable;
      block = ap (λ (a : Area). a.block) is;
      taken = rw (← of_image, ← of_disk, ap (λ (a : Area). a.block) is) taken;
      disk = subst (HasLength Disk o) of_disk disk_told;
      image = subst (HasLength Image o) of_image image_told;
    }

-- whether the disk has a header, where it is told; else it is said to have none
module _ (choice : Choice) (area : Area) where
  abbrev begun_in : Option (List ℕ) → Bool
  begun_in None = false
  begun_in (Some bytes) = has_header area choice.id (sectors_in area.sectors bytes)

  is_begun : (told : Option (List ℕ))
      → IfTold told (λ bytes. begun_in told ≡ has_header area choice.id (sectors_in area.sectors bytes))
  is_begun None = tt
  is_begun (Some bytes) = refl

-- image and disk are refused for a reason of their lengths
pub refused_found : (choice : Choice) (o : Outside) (image disk : ℕ) (reason : Unsuitable)
    → refusal_of image disk choice.sizes.block ≡ Some reason → HasLength Image o image → HasLength Disk o disk
    → Finds choice o (IsUnsuitable (why_of reason) choice)
refused_found choice o image disk reason refused image_told disk_told =
    let area = area_on image disk choice.sizes.block in
    record {
      found = record { image = image; disk = disk; begun = begun_in choice area (o.told Disk) };
      is = record { image = image_told; disk = disk_told; begun = is_begun choice area (o.told Disk) };
      holds = rw refused refl;
    }

-- what is found over this area
module _ (choice : Choice) (area : Area) (o : Outside) (of : IsAreaOf choice area o) where
  abbrev found_over : Bool → Found
  found_over begun = record { image = 512 * area.image; disk = 512 * area.sectors; begun = begun }

  area_over : (begun : Bool) → area_in choice (found_over begun) ≡ area
  area_over begun =
      let image : (512 * area.image) / 512 ≡ area.image = omega arith in
      let sectors : (512 * area.sectors) / 512 ≡ area.sectors = omega arith in
      rw (image, sectors, sym of.block) refl

  found_there : (begun : Bool)
      → IfTold (o.told Disk) (λ bytes. begun ≡ has_header area choice.id (sectors_in area.sectors bytes))
      → IsFound choice o (found_over begun)
  found_there begun read = record {
    image = of.image;
    disk = of.disk;
    begun = subst (λ (a : Area). IfTold (o.told Disk)
        (λ bytes. begun ≡ has_header a choice.id (sectors_in a.sectors bytes))) (sym (area_over begun)) read;
  }

  taken_there : refusal_of (512 * area.image) (512 * area.sectors) choice.sizes.block ≡ None
  taken_there = rw (sym of.block) of.taken

  -- without an image a run can stand on the disk
  pub empty_found : area.image ≡ 0 → Finds choice o (CanRun choice)
  empty_found empty = record {
    found = found_over (begun_in choice area (o.told Disk));
    is = found_there (begun_in choice area (o.told Disk)) (is_begun choice area (o.told Disk));
    holds = rw taken_there (rw empty refl);
  }

  -- with one it is as the header says
  pub header_found : (begun : Bool) (refusal : Option Why) → area.image ≢ 0
      → IfTold (o.told Disk) (λ bytes. begun ≡ has_header area choice.id (sectors_in area.sectors bytes))
      → refusal ≡ refusal_by choice.mode begun → Finds choice o (λ found. refusal_in choice found ≡ refusal)
  header_found begun refusal some read is = record {
    found = found_over begun;
    is = found_there begun read;
    holds =
        let other : (512 * area.image == 0) ≡ false = ne_eqb (512 * area.image) 0 (λ e. some (omega arith)) in
        rw taken_there (rw other (sym is));
  }

-- the header's sector lies within the disk
pub header_inside : (area : Area) → IsSuitable area → 0 < area.image → reserved_of area < area.sectors
header_inside area suitable some = grind (arith, nat_tests)

-- the bytes at its place are the header where the disk has it
pub header_read : (area : Area) (id place : ℕ) (told : Option (List ℕ)) (found wanted : List ℕ) → IsSuitable area
    → 0 < area.image → place ≡ reserved_of area → IfTold told (λ bytes. found ≡ bytes_at (place * 512) 512 bytes)
    → wanted ≡ header_of area id
    → IfTold told (λ bytes. bytes_eq found wanted ≡ has_header area id (sectors_in area.sectors bytes))
header_read area id place told found wanted suitable some at read is =
    IfTold-weaker told _ _
    (λ bytes got.
    let start : place * 512 ≡ 512 * reserved_of area = omega (arith, at) in
    let sector : found ≡ slice_index_or (sectors_in area.sectors bytes) (reserved_of area) []
    = got ∙ ap (λ n. take 512 (drop n bytes)) start
    ∙ sym (sector_of_bytes area.sectors (reserved_of area) bytes (header_inside area suitable some)) in
    ap (λ first. bytes_eq first wanted) sector
    ∙ ap (bytes_eq (slice_index_or (sectors_in area.sectors bytes) (reserved_of area) [])) is)
    read
