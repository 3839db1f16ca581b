use Rattle.std.proofs.Common.{◌≡◌, ◌-◌, take}
use Rattle.ata_taskfile.specs.Device.{Device, with_phase}
use Rattle.ata_taskfile.specs.Accesses.{Reaches}
use Rattle.plain_drive.specs.Words.{bytes_of}
use Rattle.own_pio.specs.Moving.{phase_left, put_over}
use Rattle.own_pio.proofs.moving.take_block.Given as goal

abbrev pub invariant-loop-i : goal.invariant-loop-i
invariant-loop-i g l =
    let d = g.P.Ports.device l.initial.ports in
    (g.P.Ports.device l.ports ≡ with_phase (phase_left d.file.phase (256 - l.i)) d)
    × (l.bytes ≡ put_over l.start (bytes_of (take l.i d.block)) l.initial.bytes)
    × (g.P.Ports.rest l.ports ≡ g.P.Ports.rest l.initial.ports)
    × ((origin : Device) → Reaches origin d → Reaches origin (g.P.Ports.device l.ports))
