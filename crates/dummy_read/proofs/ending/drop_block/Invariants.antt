use Rattle.std.proofs.Common.{◌≡◌, ◌-◌}
use Rattle.ata_taskfile.specs.Device.{Device, with_phase}
use Rattle.ata_taskfile.specs.Accesses.{Reaches}
use Rattle.own_pio.specs.Moving.{phase_left}
use Rattle.dummy_read.proofs.ending.drop_block.Given as goal

abbrev pub invariant-loop : goal.invariant-loop
invariant-loop g l =
    let d = g.P.Ports.device l.initial.ports in
    (g.P.Ports.device l.ports ≡ with_phase (phase_left d.file.phase (256 - l.counter)) d)
    × (g.P.Ports.rest l.ports ≡ g.P.Ports.rest l.initial.ports)
    × ((origin : Device) → Reaches origin d → Reaches origin (g.P.Ports.device l.ports))
