use Rattle.std.proofs.Common.{ap}
use Rattle.drive_store.specs.Store.{Sectors}
use Rattle.drive_model.proofs.Worked.{put_walk_lawful}
use Rattle.drive_model.proofs.drive.Drive.give_sector.Goals as goal

pub put_walk-requires : goal.put_walk-requires
put_walk-requires g c = let d = c.args.self.now in
    put_walk_lawful d.file d.bus c.move_in-moved.new.bus d.words _ _ c.args.order c.args.done c.position_after.result
    c.move_in-moved.result c.args.memory.now
    c.position_after.ensures c.move_in-moved.ensures.result c.move_in-moved.ensures.bus
    (ap (λ (s : Sectors). s.count) c.get.ensures.unmoved) c.requires.phase c.requires.moves c.requires.more d.lawful
