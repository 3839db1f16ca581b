use Rattle.std.proofs.Common.{◌≡◌, ◌+◌, ◌*◌, get_or, refl, ◌∙◌, arith}
use Rattle.own_pio.proofs.Written.{before_written, device_written}
use Rattle.own_pio.proofs.moving.put_block.Goals as goal

pub loop-i-init : goal.loop-i-init
loop-i-init g c = (
  before_written c.args.start c.args.bytes.now (g.P.Ports.device c.args.ports.now)
      c.requires.wanted,
  refl,
  λ origin reaches. reaches,
)

pub loop-i-preserved : goal.loop-i-preserved
loop-i-preserved g c =
    let bytes = c.args.bytes.now in
    let word : c.from_le_bytes.result ≡ get_or bytes (c.args.start + 2 * c.loop-i.i) 0 + 256 * get_or bytes
    (c.args.start + 2 * c.loop-i.i + 1) 0 = grind arith in (
      c.write_word.ensures.after ∙ device_written c.loop-i.i c.args.start c.from_le_bytes.result bytes
          (g.P.Ports.device c.args.ports.now) (g.P.Ports.device c.loop-i.ports) (omega arith) c.requires.room
          c.requires.wanted.wanted word c.loop-i.invariant.0,
      c.write_word.ensures.rest ∙ c.loop-i.invariant.1,
      λ origin reaches. c.write_word.ensures.reached origin (c.loop-i.invariant.2 origin reaches),
    )
