use Rattle.std.proofs.Common.{arith}
use Rattle.monitor_state.proofs.Positions.{piece_within}
use Rattle.monitor_state.proofs.parts.Parts.let_go_before.Goals as goal

pub end-requires : goal.end-requires
end-requires c =
    let p = c.args.self.now in
    let within = piece_within p.held c.in-Some.held p.area.sectors c.requires.end c.in-Some.is in
    omega (arith, within, c.requires.suitable.small_enough)
