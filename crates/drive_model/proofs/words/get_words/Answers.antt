use Rattle.std.proofs.Common.{◌≡◌, length, sym, ◌∙◌, arith}
use Rattle.std.proofs.lemmas.Grind.{common_steps}
use Rattle.std.proofs.lemmas.List.{take_all}
use Rattle.plain_drive.specs.Plain.{words_of}
use Rattle.plain_drive.proofs.Blocks.{length_words}
use Rattle.drive_model.proofs.Blocks.{words_more}
use Rattle.drive_model.proofs.words.get_words.Goals as goal

pub loop-i-preserved : goal.loop-i-preserved
loop-i-preserved c = record {
  so_far = words_more c.loop-i.i _ c.args.bytes.now c.loop-i.words (omega arith) (omega arith)
      c.loop-i.invariant.so_far (grind arith);
  len = grind (arith, common_steps);
}

pub returns : goal.returns
returns c =
    let many = length_words (length c.loop-i.words) c.args.bytes.now (omega arith) in
    let end : c.loop-i.i ≡ length c.loop-i.words = omega arith in
    sym (take_all (length c.loop-i.words) c.loop-i.words (omega arith)) ∙ (rw end at c.loop-i.invariant.so_far)
    ∙ take_all (length c.loop-i.words) (words_of c.args.bytes.now) (omega arith)
