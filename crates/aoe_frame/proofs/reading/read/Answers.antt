use Rattle.std.proofs.lemmas.List.{take_rest}
use Rattle.aoe_frame.proofs.Readings.{read_whole, read_cut}
use Rattle.aoe_frame.proofs.reading.read.Goals as goal

pub returns-in-Some : goal.returns-in-Some
returns-in-Some c = record {
  reads = read_whole _ _ _ c.in_ok-header.ensures.header c.if-header-ne-VERSION.false
      (simp take_rest at c.in-Some.ensures.argument);
}

pub returns-in-None : goal.returns-in-None
returns-in-None c = record {
  reads = read_cut _ _ c.in_ok-header.ensures.header c.if-header-ne-VERSION.false
      (simp take_rest at c.in-None.ensures.argument);
}
