use Rattle.std.proofs.Common.{◌+◌, ◌∙◌, arith}
use Rattle.bm_dma.proofs.Lists.{piece_is}
use Rattle.bm_dma.proofs.search.add_piece.Goals as goal

pub push_range-requires-clause-room : goal.push_range-requires-clause-room
push_range-requires-clause-room c = omega arith

pub returns : goal.returns
returns c = record {
  piece = c.push_range.ensures.range ∙ piece_is c.args.descriptor.now c.args.start c.args.end
      (c.args.descriptor.now.base + c.min.result)
      (c.args.descriptor.now.base + c.min-2.result) c.args.places.now.items c.requires.room (omega arith) (omega arith);
}
