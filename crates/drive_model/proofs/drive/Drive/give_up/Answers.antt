use Rattle.std.proofs.Common.{sym, ◌∙◌}
use Rattle.plain_drive.proofs.Ends.{given_up_lawful}
use Rattle.drive_model.proofs.drive.Drive.give_up.Goals as goal
use Rattle.drive_model.proofs.drive.Drive.give_up.Goals.{then-moves_by_bus, else-moves_by_bus}

pub put_file-requires : goal.put_file-requires
put_file-requires g c =
    let l = given_up_lawful c.failure_bit.result c.args.self.now.file c.args.self.now.bus c.args.self.now.words
    (g.S.Store.sectors c.args.self.now.sectors.store).count c.args.order c.args.done c.requires
    c.args.self.now.lawful in
    elim c.if-moves_by_bus.branch [
      | then-moves_by_bus w ↦ let moves = sym c.moves_by_bus.ensures ∙ w.if-moves_by_bus.true in
          rw (w.self-is, c.end_failed.ensures, c.show_failure.ensures) (simp w.end_walk.ensures (rw moves at l))
      | else-moves_by_bus w ↦ let moves = sym c.moves_by_bus.ensures ∙ w.if-moves_by_bus.false in
          rw (w.self-is, c.end_failed.ensures, c.show_failure.ensures) (rw moves at l)
    ]
