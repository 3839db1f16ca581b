use Rattle.std.proofs.Common.{arith, length}
use Rattle.std.proofs.lemmas.Bool.Decides.{nat_tests}
use Rattle.schedule_text.proofs.Hex.{sized}
use Rattle.schedule_text.proofs.parts.put_some_bytes.Goals as goal
use Rattle.schedule_text.proofs.parts.put_some_bytes.Goals.{then-is_empty-via-then-is_empty, then-is_empty-via-else-is_empty+then-text-ne0, then-is_empty-via-else-is_empty+else-text-ne0+then-count-room}

pub returns-then-is_empty-clause-told : goal.returns-then-is_empty-clause-told
returns-then-is_empty-clause-told c = λ all some is.
    let size = sized (length c.args.room.now) c.args.text.now all some.1 some.2 is in
    elim c.then-is_empty.branch [
      | then-is_empty-via-then-is_empty w ↦ grind (arith, nat_tests)
      | then-is_empty-via-else-is_empty+then-text-ne0 w ↦ omega arith
      | then-is_empty-via-else-is_empty+else-text-ne0+then-count-room w ↦ omega arith
    ]
