use Rattle.std.proofs.Common.{arith, ap, length}
use Rattle.schedule_text.proofs.Forms.{no_write_words}
use Rattle.schedule_text.proofs.Hex.{length-hex_text}
use Rattle.schedule_text.proofs.read.read_write_words.Goals as goal

pub returns-then-hex-ne0 : goal.returns-then-hex-ne0
returns-then-hex-ne0 c = record {
  reads = no_write_words c.args.hex.now (omega arith)
      (λ bytes range even e. omega (arith, ap length e, length-hex_text bytes));
}

pub returns-in-None : goal.returns-in-None
returns-in-None c = record {
  reads = no_write_words c.args.hex.now (omega arith)
      (λ bytes range even. c.in-None.ensures.told bytes range);
}
