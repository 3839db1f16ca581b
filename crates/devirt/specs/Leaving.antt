-- When the monitor may leave: the table of docs/monitor.md.
use Rattle.std.specs.Prelude.{ℕ, Bool, not, ◌&&◌, ◌==◌, if◌then◌else◌}
use Rattle.ata_taskfile.specs.declared.registers.TheConstants.{STATUS_IDLE}
use Rattle.port_lease.specs.declared.view.View.{View}
use Rattle.port_lease.specs.Handover.{is_clean}
use Rattle.devirt.specs.declared.exit.Exit.{Exit}
use Rattle.devirt.specs.declared.exit.Exit.TheVariants.{Leave, CleanUp, Stay}

-- Status and Error of a drive at rest whose last command went well (own)
abbrev pub are_well : ℕ → ℕ → Bool
are_well status error = (status == STATUS_IDLE) && (error == 0)

-- whether the monitor leaves: the first row that holds (own)
abbrev pub exit_of : View → Bool → ℕ → ℕ → Bool → Exit
exit_of view own status error stored =
    if not stored then Stay
    else if not (is_clean view own) then Stay
    else if are_well status error then Leave
    else CleanUp
