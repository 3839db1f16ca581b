-- The bus master that the view keeps on the guest's side.
use Rattle.std.specs.Prelude.{◌≡◌, ◌%◌, true, is_some}
use Rattle.ata_taskfile.specs.declared.bus_master.Bus.{Bus}
use Rattle.ata_taskfile.specs.Lawful.{moved_by}

-- a bus master as every device has it, whose walk moved no sector (own)
pub record IsQuiet (b : Bus) : Type 0 where
  pub pointer : b.pointer % 4 ≡ 0
  pub active : b.active ≡ true → b.start ≡ true
  pub walking : is_some b.walk ≡ true → b.active ≡ true
  pub unmoved : moved_by b.walk ≡ 0
