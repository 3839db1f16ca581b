use Rattle.std.proofs.Common.{◌≡◌, ◌-◌, length, ap, arith}
use Rattle.redirect.specs.Piece.{piece_bytes}
use Rattle.redirect.proofs.Words.{word_of_bytes}
use Rattle.redirect.proofs.piece.word_in_piece.Goals as goal

pub returns : goal.returns
returns c =
    let sector = piece_bytes c.args.bytes.now c.args.base c.args.sector in
    let same : c.piece_bytes-sector.result.now ≡ sector = c.piece_bytes-sector.ensures.bytes in
    record {
      word = word_of_bytes (256 - c.args.left) c.from_le_bytes.result sector c.piece_bytes-sector.result.now same
          (omega (arith, ap length same)) (grind arith);
    }
