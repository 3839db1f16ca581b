use Rattle.std.proofs.Common.{◌≡◌, ℕ, List, ◌++◌, replicate, codes, refl, ap, ◌∙◌}
use Rattle.std.specs.Int.{w32, w64, to_be_bytes}
use Rattle.fill_bitmap.specs.Disk.{header_of}
use borrow.Rule.Slice.PartMut.{post_of}
use Rattle.fill_store.proofs.Fronts.{begun, filled_on}
use Rattle.fill_store.proofs.header_bytes.header.Goals as goal

pub returns : goal.returns
unfolding header_of
returns c = record {
  bytes =
      let zeros : List ℕ = replicate 512 0 in
      let mark : List ℕ = codes "BMCFILL1" in
      let numbers : List ℕ = to_be_bytes w64 c.args.id ++ to_be_bytes w64 c.args.area.now.image ++ to_be_bytes
      w32 c.args.area.now.block in
      let old : List ℕ = c.copy_from_slice.new.self ++ post_of 0 8 zeros in
      let with_mark : old ≡ mark ++ replicate 504 0 =
      ap (λ xs. xs ++ post_of 0 8 zeros) c.copy_from_slice.ensures.after ∙ begun 8 512 504 mark zeros refl refl in
      filled_on 8 504 20 484 mark numbers old c.put_numbers.new.bytes refl refl with_mark c.put_numbers.ensures.numbers;
}
