-- What a run finds in image and disk, and why it can't stand on them.
use Rattle.std.specs.Prelude.{ℕ, ◌≡◌, ◌*◌, ◌==◌, Bool, true, false, if◌then◌else◌, length, Option, Some, None}
use Rattle.std.specs.Option.{option_map, option_or}
use Rattle.bm_host.specs.declared.Role.{Role}
use Rattle.bm_host.specs.declared.Role.TheVariants.{Image, Disk}
use Rattle.bm_host.specs.Outside.{Outside, IfTold}
use Rattle.ata_taskfile.specs.declared.registers.TheConstants.{SECTOR_BYTES}
use Rattle.plain_drive.specs.Plain.{sectors_in}
use Rattle.fill_bitmap.specs.declared.area.Area.{Area}
use Rattle.fill_bitmap.specs.declared.lengths.Unsuitable.{Unsuitable}
use Rattle.fill_bitmap.specs.declared.lengths.Unsuitable.TheVariants as unsuitable
use Rattle.fill_bitmap.specs.Area.{IsSuitable}
use Rattle.fill_bitmap.specs.Disk.{has_header}
use Rattle.fill_bitmap.specs.Lengths.{area_on, refusal_of}
use Rattle.run_words.specs.declared.Mode.{Mode}
use Rattle.run_words.specs.declared.Mode.TheVariants as mode
use Rattle.run_words.specs.Options.{Choice}
use Rattle.bmcast.specs.declared.Why.{Why}
use Rattle.bmcast.specs.declared.Why.TheVariants as why

-- what a run finds: how many bytes image and disk have, and whether the disk has the header of the run
pub record Found : Type 0 where
  pub image : ℕ
  pub disk : ℕ
  pub begun : Bool

-- the area of what is found, in the blocks of a choice
abbrev pub area_in : Choice → Found → Area
area_in choice found = area_on found.image found.disk choice.sizes.block

-- a reason of the lengths, as a status tells it
abbrev pub why_of : Unsuitable → Why
why_of unsuitable.ImageLength = why.ImageLength
why_of unsuitable.DiskLength = why.DiskLength
why_of unsuitable.TooSmall = why.TooSmall
why_of unsuitable.TooLarge = why.TooLarge

-- what a header says against a mode: a deployment begins where it isn't there, and goes on where it is
abbrev pub refusal_by : Mode → Bool → Option Why
refusal_by mode.Fresh true = Some why.AlreadyBegun
refusal_by mode.Fresh false = None
refusal_by mode.Resume true = None
refusal_by mode.Resume false = Some why.NotBegun

-- the same for an image that isn't empty; without an image no header is looked at (own)
abbrev pub header_refusal : Choice → Found → Option Why
header_refusal choice found =
    if found.image == 0 then None else refusal_by choice.mode found.begun

-- why a run can't stand on image and disk, the first that holds: their lengths, and then the header (own)
abbrev pub refusal_in : Choice → Found → Option Why
refusal_in choice found =
    option_or (option_map why_of (refusal_of found.image found.disk choice.sizes.block))
    (header_refusal choice found)

-- image and disk are unsuitable for this reason
abbrev pub IsUnsuitable : Why → Choice → Found → Type 0
IsUnsuitable reason choice found = refusal_in choice found ≡ Some reason

-- a run can stand on image and disk
abbrev pub CanRun : Choice → Found → Type 0
CanRun choice found = refusal_in choice found ≡ None

-- a role, where it is told, has so many bytes
abbrev pub HasLength : Role → Outside → ℕ → Type 0
HasLength role o n = IfTold (o.told role) (λ bytes. length bytes ≡ n)

-- so much is found, of each of the two what is told, where it is told; the header is the one of the choice's run
pub record IsFound (choice : Choice) (o : Outside) (found : Found) : Type 0 where
  pub image : HasLength Image o found.image
  pub disk : HasLength Disk o found.disk
  pub begun : IfTold (o.told Disk) (λ bytes.
      found.begun ≡ has_header (area_in choice found) choice.id
      (sectors_in (area_in choice found).sectors bytes))

-- image and disk are found so that this holds of what is found
pub record Finds (choice : Choice) (o : Outside) (P : Found → Type 0) : Type 0 where
  pub found : Found
  pub is : IsFound choice o found
  pub holds : P found

-- a suitable area in the blocks of a choice, whose lengths aren't refused and are those of disk and image, each where
-- it is told
pub record IsAreaOf (choice : Choice) (area : Area) (o : Outside) : Type 0 where
  pub suitable : IsSuitable area
  pub block : area.block ≡ choice.sizes.block
  pub taken : refusal_of (SECTOR_BYTES * area.image) (SECTOR_BYTES * area.sectors) area.block ≡ None
  pub disk : HasLength Disk o (SECTOR_BYTES * area.sectors)
  pub image : HasLength Image o (SECTOR_BYTES * area.image)
