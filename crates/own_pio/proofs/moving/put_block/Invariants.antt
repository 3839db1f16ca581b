use Rattle.std.proofs.Common.{◌≡◌, ◌-◌}
use Rattle.ata_taskfile.specs.Device.{Device, with_phase}
use Rattle.ata_taskfile.specs.Accesses.{Reaches}
use Rattle.own_pio.specs.Moving.{phase_wanted, words_at}
use Rattle.own_pio.proofs.moving.put_block.Given as goal

abbrev pub invariant-loop-i : goal.invariant-loop-i
invariant-loop-i g l =
    let d = g.P.Ports.device l.initial.ports in
    (g.P.Ports.device l.ports ≡ with_phase (phase_wanted d.file.phase (256 - l.i))
    (record d { block = words_at l.i l.start l.bytes }))
    × (g.P.Ports.rest l.ports ≡ g.P.Ports.rest l.initial.ports)
    × ((origin : Device) → Reaches origin d → Reaches origin (g.P.Ports.device l.ports))
