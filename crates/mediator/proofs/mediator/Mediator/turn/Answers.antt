use Rattle.std.proofs.Common.{◌++◌, ◌∷◌, List, refl, sym, ap, ◌∙◌, subst}
use Rattle.std.proofs.lemmas.List.{append_assoc}
use Rattle.aoe_client.specs.Asking.{due_tags}
use Rattle.plain_run.specs.Entry.{commands_in}
use Rattle.plain_run.specs.Plan.{planned}
use Rattle.schedule_text.specs.declared.Item.{Item}
use Rattle.streaming.specs.Lines.{line_of, of_turn}
use Rattle.streaming.specs.Monitor.{asked_items, item_of}
use Rattle.monitor_state.specs.Fits.{Fits}
use Rattle.monitor_state.specs.GoesOn.{GoesOn}
use Rattle.monitor_state.specs.Overlaid.{HasSectors}
use Rattle.monitor_state.specs.Buffered.{HasBuffers}
use Rattle.monitor_state.specs.Seen.{Shows}
use Rattle.monitor_state.specs.Requests.{KeepsRequests}
use Rattle.monitor_state.specs.Sourced.{KeepsSources}
use Rattle.mediator.specs.declared.mediator.Mediator.{Mediator}
use Rattle.mediator.proofs.Coupled.{along_kept, reached_told}
use Rattle.mediator.proofs.Buffers.{buffers_over_cells}
use Rattle.mediator.specs.Ready.{BecomesReady}
use Rattle.mediator.proofs.Ready.{turned_ready}
use Rattle.mediator.proofs.Requests.{asks_along, turned_requests}
use Rattle.mediator.proofs.Sectors.{turned_cells, turned_sectors}
use Rattle.mediator.proofs.Sources.{turned_asked}
use Rattle.mediator.proofs.Standing.{left_as}
use Rattle.mediator.proofs.Told.{told_commands}
use Rattle.mediator.proofs.mediator.Mediator.turn.Goals as goal

pub returns-clause-fits : goal.returns-clause-fits
returns-clause-fits g c =
    let meanwhile = c.replace.ensures.value ∙ c.replace-state.ensures.after in
    left_as (λ t r. Fits t r (g.P.Ports.device c.turned-state.new.ports)) _ _ _ _ _ c.replace.ensures.after meanwhile
    c.end.ensures.given c.turned-state.ensures.fits

pub returns-clause-kept : goal.returns-clause-kept
returns-clause-kept g c =
    let m = c.args.self.now in
    let d = g.P.Ports.device c.args.ports.now in
    let e = g.P.Ports.device c.turned-state.new.ports in
    let told = c.turned-state.result.1 in
    let meanwhile = c.replace.ensures.value ∙ c.replace-state.ensures.after in
    let before = c.args.out.now.items.items in
    let n : Mediator = record {
      state = c.replace.new.dest;
      parts = record c.turned-state.new.parts { pool = c.end.new.pool };
    } in
    let tags = due_tags n.parts.client in
    along_kept of_turn m n d e c.args.memory.now c.turned-state.new.memory told tags before
    c.push_asked.new.out.items.items
    (c.push_asked.ensures.items ∙ ap (λ (xs : List Item). xs ++ asked_items tags) c.push.ensures.items
    ∙ append_assoc before (item_of told) (asked_items tags)) (g.met.P.Ports.lawful c.args.ports.now) c.requires.fits
    c.buffers_are_whole.ensures.tags c.buffers_are_whole.ensures.whole
    (left_as (λ t r. GoesOn m.state m.parts d c.args.memory.now (item_of told) t r e c.turned-state.new.memory)
    _ _ _ _ _ c.replace.ensures.after meanwhile c.end.ensures.given
    (subst (λ t. GoesOn t m.parts d c.args.memory.now (item_of told) c.turned-state.result.0 c.turned-state.new.parts e
    c.turned-state.new.memory) c.replace-state.ensures.value c.turned-state.ensures.shown))
    (λ k q shows has.
    left_as (λ t r. HasSectors k t r e (planned (item_of told) q).device.cells) _ _ _ _ _ c.replace.ensures.after
    meanwhile
    c.end.ensures.given
    (turned_sectors k c.replace-state.result c.turned-state.result.0 m.parts c.turned-state.new.parts d e
    c.args.memory.now told q c.turned-state.ensures.image c.turned-state.ensures.reached c.turned-state.ensures.opening
    c.turned-state.ensures.plan c.turned-state.ensures.steps
    (subst (λ t. Shows t m.parts d c.args.memory.now q) (sym c.replace-state.ensures.value) shows)
    (subst (λ t. HasSectors k t m.parts d q.device.cells) (sym c.replace-state.ensures.value) has)))
    (λ k q shows sectors has.
    let before_sectors = subst (λ t. HasSectors k t m.parts d q.device.cells) (sym c.replace-state.ensures.value)
    sectors in
    left_as (λ t r. HasBuffers k.image t r e (planned (item_of told) q).device) _ _ _ _ _ c.replace.ensures.after
    meanwhile c.end.ensures.given
    (buffers_over_cells k.image c.turned-state.result.0 c.turned-state.new.parts e q.device
    (planned (item_of told) q).device
    (turned_cells c.replace-state.result m.parts d c.args.memory.now told q c.turned-state.ensures.plan
    c.turned-state.ensures.steps
    (subst (λ t. Shows t m.parts d c.args.memory.now q) (sym c.replace-state.ensures.value) shows))
    (c.turned-state.ensures.buffers k q.device before_sectors
    (subst (λ t. HasBuffers k.image t m.parts d q.device) (sym c.replace-state.ensures.value) has))))
    (λ q lines given same.
    reached_told of_turn q given d e lines c.turned-state.ensures.reached
    (ap commands_in same ∙ told_commands told tags ∙ c.turned-state.ensures.commands))
    refl (λ q. refl)
    (left_as (λ t r. KeepsSources m.state m.parts d told t r e) _ _ _ _ _ c.replace.ensures.after meanwhile
    c.end.ensures.given
    (subst (λ t. KeepsSources t m.parts d told c.turned-state.result.0 c.turned-state.new.parts e)
    c.replace-state.ensures.value c.turned-state.ensures.sources))
    (λ q lines asked.
    turned_asked m.parts.client n.parts.client told of_turn q lines refl c.turned-state.ensures.client asked)
    (λ q lines has.
    turned_requests m.state n.state m.parts n.parts told q lines c.turned-state.ensures.plan
    c.requires.fits.parts.area.background c.requires.sent c.turned-state.ensures.client
    (left_as (λ t r. KeepsRequests m.state m.parts t r) _ _ _ _ _ c.replace.ensures.after meanwhile c.end.ensures.given
    (subst (λ t. KeepsRequests t m.parts c.turned-state.result.0 c.turned-state.new.parts)
    c.replace-state.ensures.value c.turned-state.ensures.requests)) has)
    (λ q lines has.
    left_as (λ t r. BecomesReady t r e (line_of of_turn q (item_of told ++ asked_items tags) ∷ lines)) _ _ _ _ _
    c.replace.ensures.after meanwhile c.end.ensures.given
    (turned_ready c.replace-state.result c.turned-state.result.0 m.parts c.turned-state.new.parts d e told
    (asked_items tags) q lines c.turned-state.ensures.image c.turned-state.ensures.ready c.turned-state.ensures.progress
    c.turned-state.ensures.holds
    (subst (λ t. BecomesReady t m.parts d lines) (sym c.replace-state.ensures.value) has)))

pub returns-clause-asks : goal.returns-clause-asks
returns-clause-asks g c =
    let m = c.args.self.now in
    let told = c.turned-state.result.1 in
    let meanwhile = c.replace.ensures.value ∙ c.replace-state.ensures.after in
    let before = c.args.out.now.items.items in
    let n : Mediator = record {
      state = c.replace.new.dest;
      parts = record c.turned-state.new.parts { pool = c.end.new.pool };
    } in
    let tags = due_tags n.parts.client in
    asks_along of_turn m n (item_of told ++ asked_items tags) before c.push_asked.new.out.items.items
    (c.push_asked.ensures.items ∙ ap (λ (xs : List Item). xs ++ asked_items tags) c.push.ensures.items
    ∙ append_assoc before (item_of told) (asked_items tags)) (λ lines has tag asks. tt) (λ q lines has.
    turned_requests m.state n.state m.parts n.parts told q lines c.turned-state.ensures.plan
    c.requires.fits.parts.area.background c.requires.sent c.turned-state.ensures.client
    (left_as (λ t r. KeepsRequests m.state m.parts t r) _ _ _ _ _ c.replace.ensures.after meanwhile c.end.ensures.given
    (subst (λ t. KeepsRequests t m.parts c.turned-state.result.0 c.turned-state.new.parts)
    c.replace-state.ensures.value c.turned-state.ensures.requests)) has)
