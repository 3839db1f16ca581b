use Rattle.std.proofs.Common.{◌∷◌, refl, sym, subst}
use Rattle.aoe_client.specs.Asking.{Asking, due_tags}
use Rattle.aoe_client.specs.Buffers.{BothAskOn, BothHold}
use Rattle.streaming.specs.Asks.{AsksInTime}
use Rattle.streaming.specs.Lines.{line_of, of_tick}
use Rattle.streaming.specs.Monitor.{asked_items}
use Rattle.monitor_state.specs.Requests.{HasRequests}
use Rattle.monitor_state.specs.SameAsks.{BothAskTheSame}
use Rattle.mediator.proofs.Coupled.{client_kept}
use Rattle.mediator.proofs.Requests.{asks_along, ticked_in_time, ticked_requests}
use Rattle.mediator.proofs.Standing.{same_asks}
use Rattle.mediator.proofs.Told.{asked_commands}
use Rattle.mediator.proofs.mediator.Mediator.tick.Goals as goal

pub returns-clause-fits : goal.returns-clause-fits
returns-clause-fits c =
    let p = c.args.self.now.parts in
    let same = same_asks p _ _ c.tick.ensures.after (c.asks_stay.ensures.ticked p.client) in
    λ d fits. c.same_asks_keep_the_fit.ensures.fits c.args.self.now.state _ _ d same fits

pub returns-clause-fit : goal.returns-clause-fit
returns-clause-fit c =
    let p = c.args.self.now.parts in
    let same = same_asks p _ _ c.tick.ensures.after (c.asks_stay.ensures.ticked p.client) in
    c.same_asks_keep_the_fit.ensures.parts c.args.self.now.state _ _ same c.requires.fit

pub returns-clause-kept : goal.returns-clause-kept
returns-clause-kept c =
    let tags = due_tags (c.tick.new.self) in
    client_kept of_tick c.args.self.now _ _ (asked_items tags) c.args.out.now.items.items
    c.push_asked.new.out.items.items refl c.push_asked.ensures.items (asked_commands tags)
    (λ source has. subst (λ (x : Asking). BothHold source x c.args.self.now.parts.pool) (sym c.tick.ensures.after)
    (c.buffers_outlast.ensures.ticks source c.args.self.now.parts.pool c.args.self.now.parts.client has))
    refl refl refl (λ q. refl)
    (subst (λ (x : Asking). BothAskOn c.args.self.now.parts.client x) (sym c.tick.ensures.after)
    (c.only_a_frame_answers_a_tag.ensures.ticks c.args.self.now.parts.client))
    (subst (λ (x : Asking). BothAskTheSame c.args.self.now.parts.client x) (sym c.tick.ensures.after)
    (c.asks_stay.ensures.ticked c.args.self.now.parts.client))
    (λ q lines has.
    subst (λ (x : Asking). HasRequests c.args.self.now.state (record c.args.self.now.parts { client = x })
    (line_of of_tick q (asked_items (due_tags x)) ∷ lines)) (sym c.tick.ensures.after)
    (ticked_requests c.args.self.now.state c.args.self.now.parts q lines c.requires.fit.area.background c.requires.sent
    (c.asks_stay.ensures.ticked c.args.self.now.parts.client) has))

pub returns-clause-asks : goal.returns-clause-asks
returns-clause-asks c =
    let s = c.args.self.now.state in
    let p = c.args.self.now.parts in
    let free = c.requires.fit.area.background in
    asks_along of_tick c.args.self.now _ (asked_items (due_tags c.tick.new.self)) c.args.out.now.items.items
    c.push_asked.new.out.items.items c.push_asked.ensures.items
    (λ lines has.
    subst (λ (x : Asking). AsksInTime of_tick (asked_items (due_tags x)) lines) (sym c.tick.ensures.after)
    (ticked_in_time s p lines free c.requires.sent has))
    (λ q lines has.
    subst (λ (x : Asking). HasRequests s (record p { client = x })
    (line_of of_tick q (asked_items (due_tags x)) ∷ lines)) (sym c.tick.ensures.after)
    (ticked_requests s p q lines free c.requires.sent (c.asks_stay.ensures.ticked p.client) has))
