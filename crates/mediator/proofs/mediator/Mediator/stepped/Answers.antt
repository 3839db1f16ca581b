use Rattle.std.proofs.Common.{◌++◌, ◌∷◌, List, [], refl, sym, ap, ◌∙◌, subst, append-nil}
use Rattle.ata_taskfile.specs.Device.{Device}
use Rattle.ata_taskfile.specs.Lawful.{is_just_taken}
use Rattle.plain_run.specs.Entry.{commands_in}
use Rattle.plain_run.specs.Plan.{planned}
use Rattle.schedule_text.specs.declared.Item.{Item}
use Rattle.streaming.specs.Lines.{IsTold, line_of, of_step}
use Rattle.streaming.specs.Monitor.{item_of}
use Rattle.streaming.specs.Told.{command_told}
use Rattle.streaming.proofs.ToldCommands.{stepped_told}
use Rattle.streaming.proofs.Untold.{none_due}
use Rattle.monitor_state.specs.Fits.{Fits}
use Rattle.monitor_state.specs.GoesOn.{GoesOn}
use Rattle.monitor_state.specs.Overlaid.{HasSectors}
use Rattle.monitor_state.specs.Buffered.{HasBuffers}
use Rattle.monitor_state.specs.Seen.{Shows}
use Rattle.monitor_state.specs.Requests.{HasRequests}
use Rattle.monitor_state.specs.Sourced.{KeepsSources, WereAsked}
use Rattle.monitor_state.specs.declared.parts.Parts.{Parts}
use Rattle.monitor_events.specs.Shown.{HasComeTo}
use Rattle.mediator.specs.declared.mediator.Mediator.{Mediator}
use Rattle.mediator.proofs.Coupled.{along_kept, reached_told}
use Rattle.mediator.proofs.Buffers.{stepped_buffers_at}
use Rattle.streaming.specs.Sources.{one_asks}
use Rattle.mediator.specs.Ready.{BecomesReady}
use Rattle.mediator.proofs.Ready.{stepped_ready}
use Rattle.mediator.proofs.Requests.{asks_along, none_in_time, step_asks_none, stepped_requests}
use Rattle.mediator.proofs.Sectors.{stepped_sectors_at}
use Rattle.mediator.proofs.Sources.{still_asked}
use Rattle.mediator.proofs.Standing.{left_as}
use Rattle.mediator.proofs.Stepped.{stepped_client}
use Rattle.mediator.proofs.Told.{step_untold, told_commands}
use Rattle.mediator.proofs.mediator.Mediator.stepped.Goals as goal

pub returns-clause-fits : goal.returns-clause-fits
returns-clause-fits g c =
    let meanwhile = c.replace.ensures.value ∙ c.replace-state.ensures.after in
    left_as (λ t r. Fits t r (g.P.Ports.device c.stepped-state.new.ports)) _ _ _ _ _ c.replace.ensures.after meanwhile
    c.end.ensures.given c.stepped-state.ensures.fits

pub returns-clause-kept : goal.returns-clause-kept
returns-clause-kept g c = λ old now at come.
    let m = c.args.self.now in
    let d = g.P.Ports.device c.args.ports.now in
    let e = g.P.Ports.device c.stepped-state.new.ports in
    let told = c.stepped-state.result.1 in
    let meanwhile = c.replace.ensures.value ∙ c.replace-state.ensures.after in
    let before = c.args.out.now.items.items in
    let n : Mediator = record {
      state = c.replace.new.dest;
      parts = record c.stepped-state.new.parts { pool = c.end.new.pool };
    } in
    let call = of_step c.args.step c.args.changed in
    along_kept call m n old.device e old.memory now.memory told [] before c.push.new.out.items.items
    (c.push.ensures.items ∙ ap (λ (xs : List Item). before ++ xs) (sym (append-nil (item_of told)))) come.lawful
    come.fits c.buffers_are_whole.ensures.tags c.buffers_are_whole.ensures.whole
    (left_as (λ t r. GoesOn m.state m.parts old.device old.memory (item_of told) t r e now.memory) _ _ _ _ _
    c.replace.ensures.after meanwhile c.end.ensures.given
    (subst (λ t. GoesOn t m.parts old.device old.memory (item_of told) c.stepped-state.result.0
    c.stepped-state.new.parts e now.memory) c.replace-state.ensures.value
    (c.stepped-state.ensures.shown old now at
    (subst (λ t. HasComeTo t m.parts c.args.step c.args.changed old now) (sym c.replace-state.ensures.value) come))))
    (λ k q shows has.
    left_as (λ t r. HasSectors k t r e (planned (item_of told) q).device.cells) _ _ _ _ _ c.replace.ensures.after
    meanwhile
    c.end.ensures.given
    (stepped_sectors_at k c.replace-state.result c.stepped-state.result.0 m.parts c.stepped-state.new.parts c.args.step
    c.args.changed old now d e told q at c.stepped-state.ensures.stays c.stepped-state.ensures.parts
    c.stepped-state.ensures.device c.stepped-state.ensures.plan
    (subst (λ t. HasComeTo t m.parts c.args.step c.args.changed old now) (sym c.replace-state.ensures.value) come)
    (subst (λ t. Shows t m.parts old.device old.memory q) (sym c.replace-state.ensures.value) shows)
    (subst (λ t. HasSectors k t m.parts old.device q.device.cells) (sym c.replace-state.ensures.value) has)))
    (λ k q shows sectors has.
    left_as (λ t r. HasBuffers k.image t r e (planned (item_of told) q).device) _ _ _ _ _ c.replace.ensures.after
    meanwhile c.end.ensures.given
    (stepped_buffers_at k.image c.replace-state.result c.stepped-state.result.0 m.parts c.stepped-state.new.parts
    c.args.step c.args.changed old now d e told q at c.stepped-state.ensures.stays c.stepped-state.ensures.rests
    c.stepped-state.ensures.parts c.stepped-state.ensures.device c.stepped-state.ensures.plan
    (subst (λ t. HasComeTo t m.parts c.args.step c.args.changed old now) (sym c.replace-state.ensures.value) come)
    (subst (λ t. Shows t m.parts old.device old.memory q) (sym c.replace-state.ensures.value) shows)
    (subst (λ t. HasBuffers k.image t m.parts old.device q.device) (sym c.replace-state.ensures.value) has)))
    (λ q lines given same before_told.
    reached_told call q given d e lines c.stepped-state.ensures.reached
    (ap commands_in same ∙ told_commands told [] ∙ ap command_told c.stepped-state.ensures.plan
    ∙ step_untold c.replace-state.result c.args.step c.args.changed d
    ∙ none_due d.file e.file (λ taken. ap is_just_taken (sym (c.stepped-state.ensures.begins taken)) ∙ taken))
    (subst (λ (f : Device). IsTold f.file lines) at
    (stepped_told c.args.step c.args.changed old now lines come.stepped before_told)))
    refl (λ q. refl)
    (left_as (λ t r. KeepsSources m.state m.parts old.device told t r e) _ _ _ _ _ c.replace.ensures.after meanwhile
    c.end.ensures.given
    (subst (λ t. KeepsSources t m.parts old.device told c.stepped-state.result.0 c.stepped-state.new.parts e)
    c.replace-state.ensures.value
    (c.stepped-state.ensures.sources old now at
    (subst (λ t. HasComeTo t m.parts c.args.step c.args.changed old now) (sym c.replace-state.ensures.value) come))))
    (λ q lines asked.
    subst (λ x. WereAsked x (line_of call q (item_of told ++ []) ∷ lines))
    (sym (ap (λ (r : Parts). r.client) c.stepped-state.ensures.parts
    ∙ stepped_client c.replace-state.result d m.parts))
    (still_asked m.parts.client call q (item_of told ++ []) lines refl asked))
    (λ q lines has.
    left_as (λ t r. HasRequests t r (line_of call q (item_of told ++ []) ∷ lines)) _ _ _ _ _ c.replace.ensures.after
    meanwhile c.end.ensures.given
    (subst (λ xs. HasRequests c.stepped-state.result.0 c.stepped-state.new.parts (line_of call q xs ∷ lines))
    (sym (append-nil (item_of told) ∙ ap item_of c.stepped-state.ensures.plan))
    (stepped_requests c.args.step c.args.changed c.replace-state.result c.stepped-state.result.0 m.parts
    c.stepped-state.new.parts d old.device q lines c.stepped-state.ensures.stays c.stepped-state.ensures.rests
    c.stepped-state.ensures.view c.stepped-state.ensures.parts
    (subst (λ t. Fits t m.parts old.device) (sym c.replace-state.ensures.value) come.fits)
    (subst (λ t. HasRequests t m.parts lines) (sym c.replace-state.ensures.value) has))))
    (λ q lines has.
    let s = c.replace-state.result in
    let here = subst (λ t. HasComeTo t m.parts c.args.step c.args.changed old now) (sym c.replace-state.ensures.value)
    come in
    left_as (λ t r. BecomesReady t r e (line_of call q (item_of told ++ []) ∷ lines)) _ _ _ _ _ c.replace.ensures.after
    meanwhile c.end.ensures.given
    (stepped_ready c.args.step c.args.changed s c.stepped-state.result.0 m.parts c.stepped-state.new.parts old now d e q
    (item_of told ++ []) lines at c.stepped-state.ensures.stays c.stepped-state.ensures.parts
    c.stepped-state.ensures.device here
    (λ still made.
    c.only_a_failed_step_raises_what_is_left.ensures.good s m.parts c.args.changed old now
    c.next_is_on_kept.ensures still here.lawful here.fits made)
    (λ still made. c.a_good_step_ends_the_wait.ensures s m.parts c.args.changed old now still here.fits made)
    (subst (λ t. BecomesReady t m.parts old.device lines) (sym c.replace-state.ensures.value) has)))

pub returns-clause-asks : goal.returns-clause-asks
returns-clause-asks g c =
    let m = c.args.self.now in
    let d = g.P.Ports.device c.args.ports.now in
    let s = c.replace-state.result in
    let t = c.stepped-state.result.0 in
    let told = c.stepped-state.result.1 in
    let meanwhile = c.replace.ensures.value ∙ c.replace-state.ensures.after in
    let n : Mediator = record {
      state = c.replace.new.dest;
      parts = record c.stepped-state.new.parts { pool = c.end.new.pool };
    } in
    let call = of_step c.args.step c.args.changed in
    asks_along call m n (item_of told) c.args.out.now.items.items c.push.new.out.items.items c.push.ensures.items
    (λ lines has.
    none_in_time call (item_of told) lines (λ tag.
    ap (λ o. one_asks tag (item_of o)) c.stepped-state.ensures.plan
    ∙ step_asks_none s c.args.step c.args.changed d tag))
    (λ q lines has.
    left_as (λ t r. HasRequests t r (line_of call q (item_of told) ∷ lines)) _ _ _ _ _ c.replace.ensures.after
    meanwhile c.end.ensures.given
    (subst (λ o. HasRequests t c.stepped-state.new.parts (line_of call q (item_of o) ∷ lines))
    (sym c.stepped-state.ensures.plan)
    (stepped_requests c.args.step c.args.changed s t m.parts c.stepped-state.new.parts d d q lines
    c.stepped-state.ensures.stays c.stepped-state.ensures.rests c.stepped-state.ensures.view
    c.stepped-state.ensures.parts (subst (λ t. Fits t m.parts d) (sym c.replace-state.ensures.value) c.requires.fits)
    (subst (λ t. HasRequests t m.parts lines) (sym c.replace-state.ensures.value) has))))
