use Rattle.std.proofs.Common.{◌≡◌, refl, subst, sym, Some}
use Rattle.std.specs.Prelude.{◌↔◌, true}
use Rattle.aoe_client.specs.Messages.{sectors_carried}
use Rattle.schedule_text.specs.declared.Item.TheVariants.{Forged}
use Rattle.streaming.specs.Client.{TakesFrame}
use Rattle.monitor_state.specs.Buffered.{image_part}
use Rattle.monitor_events.proofs.Buffers.{frame_holds, source_gives}
use Rattle.monitor_events.proofs.Frames.{heard_asks, marked}
use Rattle.monitor_events.proofs.SourcesHeard.{heard_sources}
use Rattle.monitor_events.proofs.hearing.heard.Goals as goal

pub returns-clause-mark : goal.returns-clause-mark
returns-clause-mark c =
    let client = c.args.parts.now.client in
    subst (λ mark. (mark ≡ Some Forged) ↔ ((c.args.injected ≡ true) × TakesFrame c.args.frame.now client))
    (sym c.mark.ensures)
    (marked c.frame_in-what.result c.args.injected c.args.frame.now c.args.parts.now.client
    c.frame_in-what.ensures.took)

pub returns-clause-parts : goal.returns-clause-parts
returns-clause-parts c s fits =
    let what = c.frame_in-what.result in
    let asks = heard_asks c.args.parts.now what c.frame_in-what.new.self c.frame_in-what.new.pool
    (c.asks_stay.ensures.heard what c.args.parts.now.client) c.frame_in-what.ensures.after
    c.frame_in-what.ensures.rest in
    c.same_asks_keep_the_fit.ensures.parts s c.args.parts.now _ asks fits

pub returns-clause-fits : goal.returns-clause-fits
returns-clause-fits c s d fits =
    let what = c.frame_in-what.result in
    let asks = heard_asks c.args.parts.now what c.frame_in-what.new.self c.frame_in-what.new.pool
    (c.asks_stay.ensures.heard what c.args.parts.now.client) c.frame_in-what.ensures.after
    c.frame_in-what.ensures.rest in
    c.same_asks_keep_the_fit.ensures.fits s c.args.parts.now _ d asks fits

pub returns-clause-buffers : goal.returns-clause-buffers
returns-clause-buffers c = λ image s d g fits gives.
    let p = c.args.parts.now in
    let frame = c.args.frame.now in
    let call = c.frame_in-what in
    frame_holds p (record p { client = call.new.self; pool = call.new.pool }) refl call.ensures.others image s d g fits
    (call.ensures.kept (image_part image)
    (source_gives (image_part image) call.result frame (sectors_carried frame) p.client call.ensures.took gives))

pub returns-clause-sources : goal.returns-clause-sources
returns-clause-sources c = λ s d lines comes has.
    let call = c.frame_in-what in
    heard_sources s c.args.parts.now call.new.self call.new.pool call.result d lines call.ensures.after
    (λ tag took. comes tag ((call.ensures.took tag).0 took)) has
