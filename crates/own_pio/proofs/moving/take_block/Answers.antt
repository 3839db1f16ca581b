use Rattle.std.proofs.Common.{◌≡◌, ◌%◌, ◌/◌, get_or, refl, sym, ◌∙◌, arith}
use Rattle.own_pio.proofs.Bytes.{over_none, word_over}
use Rattle.own_pio.proofs.Words.{before_words, device_read, word_is}
use Rattle.own_pio.proofs.moving.take_block.Goals as goal

pub loop-i-init : goal.loop-i-init
loop-i-init g c = (
  before_words (g.P.Ports.device c.args.ports.now) c.requires.given,
  sym
      (over_none c.args.start c.args.bytes.now),
  refl,
  λ origin reaches. reaches,
)

pub loop-i-preserved : goal.loop-i-preserved
loop-i-preserved g c =
    let d = g.P.Ports.device c.args.ports.now in
    let e = g.P.Ports.device c.loop-i.ports in
    let so_far = c.loop-i.invariant in
    let given = c.requires.given.given in
    let word : c.read_word.result ≡ get_or d.block c.loop-i.i 0 = c.read_word.ensures.answer
    ∙ word_is c.loop-i.i d e (omega arith) given so_far.0 in
    let low : get_or c.to_le_bytes.result 0 0 ≡ get_or d.block c.loop-i.i 0 % 256 = grind (arith, word) in
    let high : get_or c.to_le_bytes.result 1 0 ≡ get_or d.block c.loop-i.i 0 / 256 = grind (arith, word) in (
      c.read_word.ensures.after ∙ device_read c.loop-i.i d e (omega arith) given so_far.0,
      word_over c.loop-i.i c.args.start _ _ d.block c.args.bytes.now c.loop-i.bytes c.requires.given.whole
          (omega arith) c.requires.room low high so_far.1,
      c.read_word.ensures.rest ∙ so_far.2,
      λ origin reaches. c.read_word.ensures.reached origin (so_far.3 origin reaches),
    )
