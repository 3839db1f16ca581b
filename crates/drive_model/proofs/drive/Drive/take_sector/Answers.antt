use Rattle.drive_model.proofs.Worked.{put_walk_lawful}
use Rattle.drive_model.proofs.drive.Drive.take_sector.Goals as goal

pub put_walk-requires : goal.put_walk-requires
put_walk-requires g c = let d = c.args.self.now in
    put_walk_lawful d.file d.bus c.move_out-moved.new.bus d.words _ _ c.args.order c.args.done c.position_after.result
    c.move_out-moved.result c.args.memory.now
    c.position_after.ensures c.move_out-moved.ensures.result c.move_out-moved.ensures.bus
    c.put_moved.ensures.called.count c.requires.phase c.requires.moves c.requires.more d.lawful
