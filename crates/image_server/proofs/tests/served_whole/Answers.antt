use Rattle.std.proofs.Common.{◌≡◌, ◌≤◌, ◌*◌, ◌/◌, ℕ, List, length, Option, Some, None, arith}
use Rattle.ata_taskfile.specs.declared.registers.TheConstants.{SECTOR_BYTES}
use Rattle.bm_host.specs.declared.Role.TheVariants.{Image}
use Rattle.bm_host.specs.Outside.{IfTold}
use Rattle.image_server.proofs.tests.served_whole.Goals as goal

-- as many whole sectors as the bytes have are there
whole_sectors : (told after : Option (List ℕ)) (n : ℕ) → after ≡ told → IfTold told (λ bytes. n ≡ length bytes)
    → IfTold after (λ bytes. SECTOR_BYTES * (n / SECTOR_BYTES) ≤ length bytes)
whole_sectors None None n same many = tt
whole_sectors None (Some bytes) n same many = cc
whole_sectors (Some bytes) None n same many = tt
whole_sectors (Some bytes) (Some later) n same many = let is : later ≡ bytes = cc in rw is (omega (arith, many))

pub serve-requires : goal.serve-requires
serve-requires g c = record {
  image = whole_sectors _ _ _ (c.in_ok-bytes.ensures.bytes.told Image)
      c.in_ok-bytes.ensures.length;
}
