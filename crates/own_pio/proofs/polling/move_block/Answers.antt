use Rattle.std.proofs.Common.{◌≡◌, ◌-◌, ◌*◌, ◌≤◌, suc, arith}
use Rattle.own_pio.proofs.polling.move_block.Goals as goal

pub returns-else-left-eq1-clause-kept : goal.returns-else-left-eq1-clause-kept
returns-else-left-eq1-clause-kept g c = λ start origin k.
    let within : c.args.left ≤ c.in-Read.count = rw c.in-Read.is at c.requires.within in
    let more : c.in-Read.count - (c.args.left - 1) ≡ suc (c.in-Read.count - c.args.left) = omega (arith, within) in
    let place : (c.in-Read.count - c.args.left) * 512 ≡ 512 * (c.in-Read.count - c.args.left) = omega arith in
    grind (arith, within, more, place)

pub returns-then-left-eq1-clause-kept : goal.returns-then-left-eq1-clause-kept
returns-then-left-eq1-clause-kept g c = λ start origin k.
    let within : c.args.left ≤ c.in-Read.count = rw c.in-Read.is at c.requires.within in
    let all : c.in-Read.count ≡ suc (c.in-Read.count - c.args.left) = omega (arith, within, c.if-left-eq1.true) in
    let place : (c.in-Read.count - c.args.left) * 512 ≡ 512 * (c.in-Read.count - c.args.left) = omega arith in
    grind (arith, within, all, place)
