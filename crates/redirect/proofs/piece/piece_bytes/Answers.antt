use Rattle.std.proofs.Common.{◌≡◌, ◌+◌, ◌-◌, ◌*◌, take, drop, ap, arith}
use Rattle.redirect.proofs.piece.piece_bytes.Goals as goal

pub returns-clause-bytes : goal.returns-clause-bytes
returns-clause-bytes c =
    let start = 512 * (c.args.sector - c.args.base) in
    let long : start + 512 - start ≡ 512 = omega arith in
    ap (λ n. take n (drop start c.args.bytes.now)) long
