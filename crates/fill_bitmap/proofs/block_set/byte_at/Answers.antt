use Rattle.std.proofs.Common.{◌≡◌, ℕ, ◌<◌, ◌+◌, ◌-◌, Bool, List, arith, drop, take}
use Rattle.fill_bitmap.specs.Bits.{byte_of}
use Rattle.fill_bitmap.proofs.Bytes.{byte_of-lt, byte_more}
use Rattle.fill_bitmap.proofs.block_set.byte_at.Goals as goal

-- a byte that lacks a bit is below 128
below : (blocks : List Bool) (b i byte : ℕ) → 0 < i → byte ≡ byte_of (take (8 - i) (drop (b + i) blocks)) → byte < 128
below blocks b i byte some so_far =
    let most = byte_of-lt (8 - i) (drop (b + i) blocks) (omega arith) in omega arith

pub overflow_mul-byte : goal.overflow_mul-byte
overflow_mul-byte c =
    let low = below c.args.blocks.now c.args.b c.loop-i.i c.loop-i.byte (omega arith) c.loop-i.invariant in omega arith

pub overflow_add-byte : goal.overflow_add-byte
overflow_add-byte c =
    let low = below c.args.blocks.now c.args.b c.loop-i.i c.loop-i.byte (omega arith) c.loop-i.invariant in grind arith

pub loop-i-preserved : goal.loop-i-preserved
loop-i-preserved c =
    let more = byte_more c.args.blocks.now (c.args.b + (c.loop-i.i - 1)) (c.args.b + c.loop-i.i)
    (8 - c.loop-i.i) (8 - (c.loop-i.i - 1)) (omega arith) (omega arith) in
    let so_far : c.loop-i.byte ≡ byte_of (take (8 - c.loop-i.i) (drop (c.args.b + c.loop-i.i) c.args.blocks.now)) =
    c.loop-i.invariant in
    grind arith
