use Rattle.std.proofs.Common.{arith}
use Rattle.std.proofs.lemmas.Grind.{common_steps}
use Rattle.bm_host.proofs.WrittenLaws.{overwritten}
use Rattle.bm_host.proofs.memory_file.MemoryFile.write_at.Goals as goal

pub returns-clause-written : goal.returns-clause-written
returns-clause-written c =
    overwritten c.args.place c.resize.new.self.len c.args.from.now c.args.self.now.bytes.items c.resize.new.self.items
    c.overwrite.new.bytes
    (grind (arith, c.checked_add.ensures)) (grind (arith, common_steps)) (grind (arith, common_steps))
