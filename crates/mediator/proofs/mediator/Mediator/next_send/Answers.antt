use Rattle.std.proofs.Common.{refl, sym, subst}
use Rattle.aoe_client.specs.Asking.{Asking}
use Rattle.aoe_client.specs.Buffers.{BothAskOn, BothHold}
use Rattle.monitor_state.specs.Buffered.{image_part}
use Rattle.monitor_state.specs.Requests.{HasRequests}
use Rattle.monitor_state.specs.SameAsks.{BothAskTheSame}
use Rattle.monitor_state.proofs.SourcesStay.{asking_asked, asking_keeps}
use Rattle.mediator.proofs.Buffers.{client_buffers}
use Rattle.mediator.proofs.Coupled.{client_shown}
use Rattle.mediator.proofs.Ready.{others_ready}
use Rattle.mediator.proofs.Requests.{sent_requests}
use Rattle.mediator.proofs.Sectors.{client_sectors}
use Rattle.mediator.proofs.Standing.{same_asks}
use Rattle.mediator.proofs.mediator.Mediator.next_send.Goals as goal

pub returns-clause-fits : goal.returns-clause-fits
returns-clause-fits c =
    let p = c.args.self.now.parts in
    let same = same_asks p _ _ c.next_send.ensures.after (c.asks_stay.ensures.sent p.client) in
    λ d fits. c.same_asks_keep_the_fit.ensures.fits c.args.self.now.state _ _ d same fits

pub returns-clause-fit : goal.returns-clause-fit
returns-clause-fit c =
    let p = c.args.self.now.parts in
    let same = same_asks p _ _ c.next_send.ensures.after (c.asks_stay.ensures.sent p.client) in
    λ fit. c.same_asks_keep_the_fit.ensures.parts c.args.self.now.state _ _ same fit

pub returns-clause-kept : goal.returns-clause-kept
returns-clause-kept c = λ k d memory q lines couples.
    let s = c.args.self.now.state in
    let p = c.args.self.now.parts in record {
      shows = client_shown s p c.next_send.new.self d memory q couples.shows;
      sectors = client_sectors k s p c.next_send.new.self p.pool d q.device.cells couples.sectors;
      buffers = client_buffers k.image s p c.next_send.new.self d q.device
          (subst (λ (x : Asking). BothHold (image_part k.image) x p.pool) (sym c.next_send.ensures.after)
          (c.buffers_outlast.ensures.sending (image_part k.image) p.pool p.client couples.buffers.asked))
          couples.buffers;
      sources = asking_keeps s p c.next_send.new.self d lines
          (subst (λ (x : Asking). BothAskOn p.client x) (sym c.next_send.ensures.after)
          (c.only_a_frame_answers_a_tag.ensures.sending p.client)) couples.sources;
      asked = asking_asked p.client c.next_send.new.self lines
          (subst (λ (x : Asking). BothAskTheSame p.client x) (sym c.next_send.ensures.after)
          (c.asks_stay.ensures.sent p.client)) couples.asked;
      requests = subst (λ (x : Asking). HasRequests s (record p { client = x }) lines) (sym c.next_send.ensures.after)
          (sent_requests s p lines (c.asks_stay.ensures.sent p.client) couples.requests);
      told = couples.told;
      ready = others_ready s p (record p { client = c.next_send.new.self }) d lines refl refl couples.ready;
    }
