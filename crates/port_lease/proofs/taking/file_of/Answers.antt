use Rattle.std.proofs.Common.{rules}
use Rattle.port_lease.proofs.Whole.{read_whole}
use Rattle.port_lease.proofs.taking.file_of.Goals as goal

pub returns-clause-file : goal.returns-clause-file
returns-clause-file g c = read_whole (g.P.Ports.device c.args.ports.now).file _ c.args.kept.now.command
    (g.met.P.Ports.lawful c.args.ports.now).pairs (search rules)
