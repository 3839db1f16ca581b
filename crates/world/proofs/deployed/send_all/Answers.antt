use Rattle.std.proofs.Common.{sym, ap, ◌∙◌}
use Rattle.aoe_client.specs.Asking.{next_sent}
use Rattle.aoe_net.specs.declared.way.Way.TheVariants.{ToServer}
use Rattle.aoe_net.specs.Wire.{sent}
use Rattle.streaming.specs.Client.{all_sent}
use Rattle.streaming.proofs.AllSent.{sent_next}
use Rattle.mediator.specs.Mediator.{client_of, with_client}
use Rattle.world.proofs.Sending.{due_sent, wire_first}
use Rattle.world.proofs.deployed.send_all.Goals as goal

pub loop-frame-preserved : goal.loop-frame-preserved
loop-frame-preserved c =
    let was = c.loop-frame.invariant in
    let h = c.next_send.ensures in
    let m = c.loop-frame.mediator in
    let client = ap client_of h.after in
    let request = sym c.in-Some.is ∙ h.request in
    record {
      client = ap all_sent client ∙ sent_next (client_of m) ∙ was.client;
      others = h.after ∙ ap (with_client (next_sent (client_of m))) was.others
          ∙ ap (λ asking. with_client asking c.args.mediator.now) (sym client);
      wire = ap (due_sent (client_of c.next_send.new.self)) c.send.ensures.after
          ∙ ap (λ asking. due_sent asking (sent ToServer c.in-Some.frame c.loop-frame.net)) client
          ∙ wire_first (client_of m) c.in-Some.frame request c.loop-frame.net ∙ was.wire;
      fits = λ d fits. h.fits d (was.fits d fits);
      kept = λ k d memory q lines stand. h.kept k d memory q lines (was.kept k d memory q lines stand);
    }

pub returns-clause-kept : goal.returns-clause-kept
returns-clause-kept c = λ k d memory q lines stand.
    c.next_send.ensures.kept k d memory q lines (c.loop-frame.invariant.kept k d memory q lines stand)
