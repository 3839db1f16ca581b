use Rattle.std.proofs.Common.{◌≡◌, ◌+◌, ◌-◌, ◌/◌, ◌<◌, ◌≤◌, true, false, min, arith, inl, inr, sym, ◌∙◌}
use Rattle.std.proofs.lemmas.Bool.{cases_lt}
use Rattle.fill_bitmap.specs.BlockSet.{has}
use Rattle.io_interpret.proofs.Ranges.{some_sectors, touched_past, all_filled, one_empty}
use Rattle.io_interpret.proofs.blocks.touches_empty.Goals as goal

pub returns-then-first-end : goal.returns-then-first-end
returns-then-first-end c =
    let past : min c.args.area.now.image (c.args.first + c.args.count) ≤ c.args.first = omega arith in
    record { touched = sym (touched_past c.args.area.now c.args.bitmap.now.filled c.args.first c.args.count past) }

pub returns-then-not-is_filled : goal.returns-then-not-is_filled
returns-then-not-is_filled c =
    let end : c.min-end.result ≡ min c.args.area.now.image (c.args.first + c.args.count) = omega arith in
    let any : c.args.first < c.min-end.result = omega arith in
    let low : c.args.first / c.args.area.now.block ≤ c.loop-b.b = omega arith in
    let high : c.loop-b.b ≤ (c.min-end.result - 1) / c.args.area.now.block = omega arith in
    let lacks : has c.args.bitmap.now.filled c.loop-b.b ≡ false = sym c.is_filled.ensures.answer
    ∙ c.if-not-is_filled.true in
    record {
      touched = sym (one_empty c.args.area.now c.args.bitmap.now.filled c.args.first c.args.count
          c.min-end.result c.loop-b.b
          (some_sectors c.args.area.now.block c.requires.suitable.blocked) end any low high lacks);
    }

pub returns-else-not-is_filled : goal.returns-else-not-is_filled
returns-else-not-is_filled c =
    let end : c.min-end.result ≡ min c.args.area.now.image (c.args.first + c.args.count) = omega arith in
    let last : (c.min-end.result - 1) / c.args.area.now.block ≤ c.loop-b.b = omega arith in
    let held : has c.args.bitmap.now.filled c.loop-b.b ≡ true = sym c.is_filled.ensures.answer
    ∙ c.if-not-is_filled.false in
    record {
      touched = sym (all_filled c.args.area.now c.args.bitmap.now.filled c.args.first c.args.count c.min-end.result
          (some_sectors c.args.area.now.block c.requires.suitable.blocked) end
          (λ k low high. elim (cases_lt k c.loop-b.b) [
            | inl before ↦ c.loop-b.invariant k low before
            | inr behind ↦ let same : k ≡ c.loop-b.b = omega arith in rw same held
          ]));
    }
