use Rattle.std.proofs.Common.{◌≡◌, true, arith}
use Rattle.ata_taskfile.specs.declared.Kind.{Kind}
use Rattle.ata_taskfile.specs.declared.Request.{Request}
use Rattle.fill_bitmap.specs.declared.area.Area.{Area}
use Rattle.fill_bitmap.specs.Bitmap.{Sets}
use Rattle.io_interpret.specs.Class.{class_of_kind, touches}
use Rattle.io_interpret.specs.declared.class.Class.TheVariants.{FillFirst}
use Rattle.write_gate.proofs.Lowest.{pass_exactly}
use Rattle.write_gate.proofs.laws.writes_pass_exactly_where_they_are_local.Goals as goal

-- a command that has to be filled first touches an empty block
touched : (kind : Kind) (request : Request) (area : Area) (sets : Sets)
    → class_of_kind kind request area sets ≡ FillFirst → touches request area sets ≡ true
touched kind request area sets fills = grind arith

pub returns-clause-fills : goal.returns-clause-fills
returns-clause-fills c = λ request area sets fills passes.
    let any = touched request.kind request area sets fills in
    let none = (pass_exactly area sets.filled request.first request.count).0 passes in
    cc

pub returns-clause-passes : goal.returns-clause-passes
returns-clause-passes c = λ request area sets write below.
    let passes = pass_exactly area sets.filled request.first request.count in
    grind arith
