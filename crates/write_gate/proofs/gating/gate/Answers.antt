use Rattle.std.proofs.Common.{◌≡◌, ◌+◌, ◌-◌, ◌/◌, ◌<◌, ◌≤◌, min, arith, sym, refl}
use Rattle.io_interpret.proofs.Ranges.{some_sectors, touched_past, all_filled}
use Rattle.write_gate.specs.Gate.{IsLowestEmpty}
use Rattle.write_gate.proofs.Lowest.{least_between, lowest_gates, pass_exactly, untouched_passes}
use Rattle.write_gate.proofs.gating.gate.Goals as goal

pub returns-then-request-end-clause-pass : goal.returns-then-request-end-clause-pass
returns-then-request-end-clause-pass c =
    let area = c.args.area.now in
    let first = c.args.request.now.first in
    let count = c.args.request.now.count in
    let past : min area.image (first + count) ≤ first = omega arith in
    (λ passes. touched_past area c.args.bitmap.now.filled first count past, λ none. refl)

pub returns-then-request-end-clause-gated : goal.returns-then-request-end-clause-gated
returns-then-request-end-clause-gated c =
    untouched_passes c.args.area.now c.args.bitmap.now.filled c.args.request.now.first c.args.request.now.count
    ((returns-then-request-end-clause-pass c).0 refl)

pub returns-in-None-clause-pass : goal.returns-in-None-clause-pass
returns-in-None-clause-pass c =
    let area = c.args.area.now in
    let first = c.args.request.now.first in
    let count = c.args.request.now.count in
    let end : c.min-end.result ≡ min area.image (first + count) = omega arith in (
      λ passes. all_filled area c.args.bitmap.now.filled first count c.min-end.result
          (some_sectors area.block c.requires.suitable.blocked) end
          (λ k low high. c.in-None.ensures.none refl k (omega arith) (omega arith)),
      λ none. refl,
    )

pub returns-in-None-clause-gated : goal.returns-in-None-clause-gated
returns-in-None-clause-gated c =
    untouched_passes c.args.area.now c.args.bitmap.now.filled c.args.request.now.first c.args.request.now.count
    ((returns-in-None-clause-pass c).0 refl)

pub returns-in-Some-clause-gated : goal.returns-in-Some-clause-gated
returns-in-Some-clause-gated c =
    let area = c.args.area.now in
    let filled = c.args.bitmap.now.filled in
    let first = c.args.request.now.first in
    let count = c.args.request.now.count in
    let b = c.in-Some.b in
    let some = some_sectors area.block c.requires.suitable.blocked in
    let end : c.min-end.result ≡ min area.image (first + count) = omega arith in
    let (from, to) = c.in-Some.ensures.within in
    let low : first / area.block ≤ b = omega arith in
    let high : b ≤ (c.min-end.result - 1) / area.block = omega arith in
    let least : IsLowestEmpty area filled first count b =
    least_between area filled first count c.min-end.result b some end (omega arith) low high (omega arith)
    c.in-Some.ensures.empty (λ k from below. c.in-Some.ensures.lowest k (omega arith) below) in
    sym (lowest_gates area filled first count b c.requires.suitable least)

pub returns-in-Some-clause-pass : goal.returns-in-Some-clause-pass
returns-in-Some-clause-pass c =
    let gated = returns-in-Some-clause-gated c in
    let passes = pass_exactly c.args.area.now c.args.bitmap.now.filled c.args.request.now.first
    c.args.request.now.count in
    rw (← gated) at passes
