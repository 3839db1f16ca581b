use Rattle.std.proofs.Common.{◌≡◌, ℕ, ◌+◌, ◌*◌, ◌/◌, ◌≤◌, arith}
use Rattle.std.proofs.Math.Nat.{mul-le-mul_right, div-mul-le_self}
use Rattle.fill_bitmap.proofs.laws.blocks_lie_in_the_image.Goals as goal

-- the block's end is that of the next one's begin
next : (b block : ℕ) → b * block + block ≡ (b + 1) * block
next b block = grind arith

pub returns : goal.returns
returns c area b inside =
    let here : (b + 1) * area.block ≤ area.image / area.block * area.block
    = mul-le-mul_right area.block (omega arith) in
    omega (arith, here, next b area.block, div-mul-le_self area.image area.block)
