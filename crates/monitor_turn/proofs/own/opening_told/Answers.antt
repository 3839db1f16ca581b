use Rattle.monitor_turn.proofs.OpeningArea.{opening_area}
use Rattle.monitor_turn.proofs.own.opening_told.Goals as goal

pub returns-then-is_opened-clause-area : goal.returns-then-is_opened-clause-area
returns-then-is_opened-clause-area c =
    let e = c.ended.ensures in opening_area c.args.ok _ _ _ _ c.args.parts.now c.requires.area e.state e.sets e.count

pub returns-clause-area : goal.returns-clause-area
returns-clause-area c =
    let e = c.ended.ensures in opening_area c.args.ok _ _ _ _ c.args.parts.now c.requires.area e.state e.sets e.count
