use Rattle.std.proofs.Common.{◌≡◌, ℕ, List, length}
use Rattle.ata_taskfile.specs.Device.{Device}
use Rattle.aoe_client.specs.Asking.{due_tags}
use Rattle.plain_drive.specs.Plain.{Plain}
use Rattle.streaming.specs.Client.{all_sent}
use Rattle.streaming.specs.Lines.{Line}
use Rattle.monitor_state.specs.Overlaid.{Known}
use Rattle.mediator.specs.Couples.{Couples}
use Rattle.mediator.specs.Mediator.{FitsDrive, client_of, with_client}
use Rattle.world.proofs.Sending.{due_sent}
use Rattle.world.proofs.deployed.send_all.Given as goal

-- what is sent so far and what is still due make up what was due
abbrev pub invariant-loop-frame : goal.invariant-loop-frame
invariant-loop-frame l = record {
  client : all_sent (client_of l.mediator) ≡ all_sent (client_of l.fn.mediator);
  others : l.mediator ≡ with_client (client_of l.mediator) l.fn.mediator;
  wire : due_sent (client_of l.mediator) l.net ≡ due_sent (client_of l.fn.mediator) l.fn.net;
  fits : (d : Device) → FitsDrive l.fn.mediator d → FitsDrive l.mediator d;
  kept : (k : Known) (d : Device) (memory : List ℕ) (q : Plain) (lines : List Line)
      → Couples k l.fn.mediator d memory q lines → Couples k l.mediator d memory q lines;
}

abbrev pub decreases-loop-frame : goal.decreases-loop-frame
decreases-loop-frame l = length (due_tags (client_of l.mediator))
