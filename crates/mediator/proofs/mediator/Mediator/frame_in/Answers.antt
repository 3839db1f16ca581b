use Rattle.std.proofs.Common.{◌∷◌, false, refl, sym, ap, ◌∙◌, subst}
use Rattle.std.proofs.lemmas.List.{append_cancel_left}
use Rattle.plain_run.specs.Entry.{commands_in}
use Rattle.streaming.specs.Lines.{line_of, of_frame}
use Rattle.streaming.specs.Monitor.{item_of}
use Rattle.streaming.specs.Sources.{one_asks}
use Rattle.aoe_client.specs.Asking.{Asking}
use Rattle.monitor_state.specs.declared.parts.Parts.{Parts}
use Rattle.monitor_state.specs.Requests.{HasRequests}
use Rattle.monitor_state.specs.SameAsks.{BothAskTheSame}
use Rattle.monitor_state.specs.Overlaid.{HasSectors}
use Rattle.monitor_state.proofs.SourcesStay.{asking_asked, lines_keep}
use Rattle.mediator.proofs.Coupled.{unmoved_told}
use Rattle.mediator.proofs.Ready.{line_ready, others_ready}
use Rattle.mediator.proofs.Requests.{asking, asks_along, heard_asks_none, heard_requests, none_in_time}
use Rattle.mediator.proofs.Sectors.{client_sectors}
use Rattle.mediator.proofs.Sources.{heard_come, line_goes_on, still_asked}
use Rattle.mediator.proofs.Told.{heard_untold}
use Rattle.mediator.proofs.mediator.Mediator.frame_in.Goals as goal

pub returns-clause-kept : goal.returns-clause-kept
returns-clause-kept c = λ k d memory q lines given says honest couples.
    let before = c.args.out.now.items.items in
    let mark = c.heard.result in
    let same = append_cancel_left before given (item_of mark) (sym says ∙ c.push.ensures.items) in
    let call = of_frame c.args.frame.now c.args.injected in
    let later = line_of call q given ∷ lines in
    record {
      shows = c.heard.ensures.shown c.args.self.now.state d memory q c.requires.fit couples.shows;
      sectors = subst (λ (r : Parts). HasSectors k c.args.self.now.state r d q.device.cells)
          (sym c.heard.ensures.heard.others)
          (client_sectors k c.args.self.now.state c.args.self.now.parts _ _ d q.device.cells couples.sectors);
      buffers = c.heard.ensures.buffers k.image c.args.self.now.state d q.device c.requires.fit
          (λ tag takes. (honest tag takes).1) couples.buffers;
      sources = c.heard.ensures.sources c.args.self.now.state d later
          (heard_come c.args.self.now.parts.client c.args.frame.now c.args.injected q given lines
          c.a_slot_has_a_blocks_tags.ensures.demand c.a_slot_has_a_blocks_tags.ensures.background couples.asked
          (λ tag takes. (honest tag takes).0))
          (lines_keep c.args.self.now.state c.args.self.now.parts d lines later
          (line_goes_on false call q given lines refl refl) couples.sources);
      asked = asking_asked c.args.self.now.parts.client _ later c.heard.ensures.asks.asks
          (still_asked c.args.self.now.parts.client call q given lines refl couples.asked);
      requests =
          let s = c.args.self.now.state in
          let p = c.args.self.now.parts in
          let h = c.heard.ensures.heard in
          subst (λ (r : Parts). HasRequests s r later) (sym h.others)
          (subst (λ (x : Asking). HasRequests s (asking x c.heard.new.parts.pool p) later) (sym h.client)
          (heard_requests h.what c.args.frame.now c.args.injected s p c.heard.new.parts.pool q given lines
          (λ tag. ap (one_asks tag) same ∙ heard_asks_none mark c.heard.ensures.unmarked tag) h.took
          (subst (BothAskTheSame p.client) h.client c.heard.ensures.asks.asks) couples.requests));
      told = unmoved_told call q given d lines
          (ap commands_in same ∙ heard_untold mark c.heard.ensures.unmarked) couples.told;
      ready =
          let others = c.heard.ensures.heard.others in
          line_ready c.args.self.now.state c.heard.new.parts d (line_of call q given) lines refl refl refl
          (others_ready c.args.self.now.state c.args.self.now.parts c.heard.new.parts d lines
          (ap (λ (r : Parts). r.area) others) (ap (λ (r : Parts). r.opening) others) couples.ready);
    }

pub returns-clause-asks : goal.returns-clause-asks
returns-clause-asks c =
    let s = c.args.self.now.state in
    let p = c.args.self.now.parts in
    let h = c.heard.ensures.heard in
    let mark = c.heard.result in
    let call = of_frame c.args.frame.now c.args.injected in
    let none = heard_asks_none mark c.heard.ensures.unmarked in
    asks_along call c.args.self.now _ (item_of mark) c.args.out.now.items.items _ c.push.ensures.items
    (λ lines has. none_in_time call (item_of mark) lines none)
    (λ q lines has.
    let later = line_of call q (item_of mark) ∷ lines in
    subst (λ (r : Parts). HasRequests s r later) (sym h.others)
    (subst (λ (x : Asking). HasRequests s (asking x c.heard.new.parts.pool p) later) (sym h.client)
    (heard_requests h.what c.args.frame.now c.args.injected s p c.heard.new.parts.pool q (item_of mark) lines none
    h.took (subst (BothAskTheSame p.client) h.client c.heard.ensures.asks.asks) has)))
