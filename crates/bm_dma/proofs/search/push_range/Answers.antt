use Rattle.std.proofs.Common.{◌-◌, ◌+◌, [], ◌∷◌, ap, arith, length, length-append, append_assoc}
use Rattle.std.specs.List.{range_with_len}
use Rattle.std.proofs.lemmas.List.FromFn.{length-range_with_len}
use Rattle.bm_dma.proofs.Lists.{range_more}
use Rattle.bm_dma.proofs.search.push_range.Goals as goal

pub push-requires : goal.push-requires
push-requires c =
    omega (
      arith,
      ap length c.loop-place.invariant,
      length-append c.args.places.now.items (range_with_len c.args.first (c.loop-place.place - c.args.first)),
      length-range_with_len c.args.first (c.loop-place.place - c.args.first),
    )

pub loop-place-preserved : goal.loop-place-preserved
loop-place-preserved c =
    let more = range_more c.args.first (c.loop-place.place - c.args.first) (c.loop-place.place + 1 - c.args.first)
    c.loop-place.place (omega arith) (omega arith) in
    rw (c.push.ensures.items, c.loop-place.invariant, more)
    (append_assoc c.args.places.now.items (range_with_len c.args.first (c.loop-place.place - c.args.first))
    (c.loop-place.place ∷ []))
