use Rattle.std.proofs.Common.{arith, ◌++◌, codes, subst, sym}
use Rattle.schedule_text.specs.Line.{ReadsInto}
use Rattle.schedule_text.proofs.Forms.{no_memory}
use Rattle.schedule_text.proofs.read.read_memory.Goals as goal

pub returns-in-None : goal.returns-in-None
returns-in-None c = record { reads = no_memory c.args.rest.now (omega arith) c.in-None.ensures.told }

pub returns-in-Some : goal.returns-in-Some
returns-in-Some c = record {
  reads = subst (λ rest. ReadsInto (codes "g mr " ++ rest) c.read_count.new.event c.read_count.result)
      (sym c.in-Some.ensures.told.1) c.read_count.ensures.reads;
}
