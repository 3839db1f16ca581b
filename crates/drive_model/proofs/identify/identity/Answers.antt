use Rattle.std.proofs.Common.{◌≡◌, [], refl, sym, ◌∙◌, arith}
use Rattle.std.proofs.lemmas.Grind.{common_steps}
use Rattle.drive_model.proofs.Blocks.{identity_none, identity_more, whole_block}
use Rattle.drive_model.proofs.identify.identity.Goals as goal

pub loop-i-init : goal.loop-i-init
loop-i-init c = (identity_none c.args.sectors [], refl)

pub loop-i-preserved : goal.loop-i-preserved
loop-i-preserved c = (
  identity_more c.loop-i.i c.args.sectors c.identity_word.result c.loop-i.words (omega arith) c.loop-i.invariant.0
      c.identity_word.ensures,
  grind (arith, common_steps),
)

pub returns : goal.returns
returns c =
    let end : c.loop-i.i ≡ 256 = omega arith in
    sym (whole_block c.loop-i.words c.loop-i.invariant.1) ∙ (rw end at c.loop-i.invariant.0)
