use Rattle.std.proofs.Common.{refl, ◌∙◌, arith}
use Rattle.own_pio.proofs.Words.{before_words, device_read}
use Rattle.dummy_read.proofs.ending.drop_block.Goals as goal

pub loop-init : goal.loop-init
loop-init g c = (before_words (g.P.Ports.device c.args.ports.now) c.requires.given, refl, λ origin reaches. reaches)

pub loop-preserved : goal.loop-preserved
loop-preserved g c =
    let d = g.P.Ports.device c.args.ports.now in
    let e = g.P.Ports.device c.loop.ports in
    let so_far = c.loop.invariant in (
      c.read_word.ensures.after ∙ device_read c.loop.counter d e (omega arith) c.requires.given.given so_far.0,
      c.read_word.ensures.rest ∙ so_far.1,
      λ origin reaches. c.read_word.ensures.reached origin (so_far.2 origin reaches),
    )
