use Rattle.std.proofs.Common.{[], ◌∷◌, refl, sym, ap, ◌∙◌, subst}
use Rattle.ata_taskfile.proofs.Cells.{accessed-cells}
use Rattle.plain_drive.specs.Alike.{after_access, gives_command}
use Rattle.streaming.specs.Lines.{line_of, of_access}
use Rattle.streaming.proofs.Untold.{none_due}
use Rattle.monitor_state.specs.Overlaid.{HasSectors}
use Rattle.monitor_state.specs.Buffered.{HasBuffers}
use Rattle.monitor_state.specs.Seen.{Shows, file_seen}
use Rattle.monitor_state.specs.Requests.{HasRequests}
use Rattle.monitor_state.specs.Sourced.{HasSources, WereAsked}
use Rattle.monitor_state.specs.declared.parts.Parts.{Parts}
use Rattle.mediator.proofs.Coupled.{reached_told}
use Rattle.mediator.proofs.Buffers.{buffers_over_cells}
use Rattle.monitor_access.specs.Marks.{mark_over}
use Rattle.streaming.specs.Monitor.{item_of}
use Rattle.mediator.specs.Ready.{BecomesReady}
use Rattle.mediator.proofs.Ready.{accessed_ready}
use Rattle.mediator.proofs.Requests.{accessed_requests, asks_rightly, mark_asks_none, none_in_time}
use Rattle.mediator.proofs.Sectors.{accessed_sectors}
use Rattle.mediator.proofs.Sources.{gives_seen, line_goes_on, still_asked}
use Rattle.mediator.proofs.Standing.{left_as}
use Rattle.mediator.proofs.mediator.Mediator.access.Goals as goal

pub returns-clause-answers : goal.returns-clause-answers
returns-clause-answers g c = λ k q lines couples.
    c.accessed-state.ensures.answers c.args._memory.now q
    (subst (λ t. Shows t c.args.self.now.parts (g.P.Ports.device c.args.ports.now) c.args._memory.now q)
    (sym c.replace-state.ensures.value) couples.shows)

pub returns-clause-kept : goal.returns-clause-kept
returns-clause-kept g c = λ k q lines couples none.
    let d = g.P.Ports.device c.args.ports.now in
    let call = c.accessed-state in
    let e = g.P.Ports.device call.new.ports in
    let memory = c.args._memory.now in
    let meanwhile = c.replace.ensures.value ∙ c.replace-state.ensures.after in
    let shows = subst (λ t. Shows t c.args.self.now.parts d memory q) (sym c.replace-state.ensures.value)
    couples.shows in
    let unmarked = call.ensures.marked memory q shows ∙ none in
    record {
      shows = left_as (λ t r. Shows t r e memory (after_access c.args.access.now q)) _ _ _ _ _
          c.replace.ensures.after meanwhile c.end.ensures.given
          (call.ensures.shown memory q shows unmarked);
      sectors = left_as (λ t r. HasSectors k t r e (after_access c.args.access.now q).device.cells) _ _ _ _ _
          c.replace.ensures.after meanwhile c.end.ensures.given
          (subst (HasSectors k call.result.0 call.new.parts e) (sym (accessed-cells c.args.access.now q.device))
          (accessed_sectors k _ call.result.0 _ call.new.parts d e q.device.cells call.ensures.others
          call.ensures.reached call.ensures.opening
          (subst (λ t. HasSectors k t c.args.self.now.parts d q.device.cells) (sym c.replace-state.ensures.value)
          couples.sectors)));
      buffers = left_as (λ t r. HasBuffers k.image t r e (after_access c.args.access.now q).device) _ _ _ _ _
          c.replace.ensures.after meanwhile c.end.ensures.given
          (buffers_over_cells k.image call.result.0 call.new.parts e q.device (after_access c.args.access.now q).device
          (accessed-cells c.args.access.now q.device)
          (call.ensures.buffers k q.device
          (subst (λ t. HasSectors k t c.args.self.now.parts d q.device.cells) (sym c.replace-state.ensures.value)
          couples.sectors)
          (subst (λ t. HasBuffers k.image t c.args.self.now.parts d q.device) (sym c.replace-state.ensures.value)
          couples.buffers)));
      sources = left_as (λ t r. HasSources t r e (line_of (of_access c.args.access.now) q [] ∷ lines)) _ _ _ _ _
          c.replace.ensures.after meanwhile c.end.ensures.given
          (call.ensures.sources lines (line_of (of_access c.args.access.now) q [] ∷ lines)
          (line_goes_on (gives_command c.args.access.now (file_seen c.replace-state.result d))
          (of_access c.args.access.now) q [] lines refl
          (gives_seen c.args.access.now c.replace-state.result c.args.self.now.parts d memory q shows))
          (subst (λ t. HasSources t c.args.self.now.parts d lines) (sym c.replace-state.ensures.value)
          couples.sources));
      asked = subst (λ (r : Parts). WereAsked r.client (line_of (of_access c.args.access.now) q [] ∷ lines))
          (sym call.ensures.others)
          (still_asked c.args.self.now.parts.client (of_access c.args.access.now) q [] lines refl couples.asked);
      requests = left_as (λ t r. HasRequests t r (line_of (of_access c.args.access.now) q [] ∷ lines)) _ _ _ _ _
          c.replace.ensures.after meanwhile c.end.ensures.given
          (accessed_requests c.args.access.now c.replace-state.result call.result.0 c.args.self.now.parts call.new.parts
          d q [] lines (λ tag. refl) (ap (λ (r : Parts). r.client) call.ensures.others)
          (gives_seen c.args.access.now c.replace-state.result c.args.self.now.parts d memory q shows)
          call.ensures.requests
          (subst (λ t. HasRequests t c.args.self.now.parts lines) (sym c.replace-state.ensures.value)
          couples.requests));
      told = reached_told (of_access c.args.access.now) q [] d e lines call.ensures.reached
          (none_due d.file e.file call.ensures.commands) couples.told;
      ready = left_as (λ t r. BecomesReady t r e (line_of (of_access c.args.access.now) q [] ∷ lines)) _ _ _ _ _
          c.replace.ensures.after meanwhile c.end.ensures.given
          (accessed_ready c.replace-state.result call.result.0 c.args.self.now.parts call.new.parts d e
          (line_of (of_access c.args.access.now) q []) lines refl refl refl call.ensures.others call.ensures.stays
          (subst (λ t. BecomesReady t c.args.self.now.parts d lines) (sym c.replace-state.ensures.value)
          couples.ready));
    }

pub returns-clause-asks : goal.returns-clause-asks
returns-clause-asks g c = λ k q lines couples.
    let p = c.args.self.now.parts in
    let d = g.P.Ports.device c.args.ports.now in
    let a = c.args.access.now in
    let call = c.accessed-state in
    let s = c.replace-state.result in
    let mark = item_of (mark_over q.device.file p a) in
    let none = mark_asks_none q.device.file p a in
    asks_rightly (of_access a) call.result.0 call.new.parts mark q lines (none_in_time (of_access a) mark lines none)
    (accessed_requests a s call.result.0 p call.new.parts d q mark lines none
    (ap (λ (r : Parts). r.client) call.ensures.others)
    (gives_seen a s p d c.args._memory.now q
    (subst (λ t. Shows t p d c.args._memory.now q) (sym c.replace-state.ensures.value) couples.shows))
    call.ensures.requests (subst (λ t. HasRequests t p lines) (sym c.replace-state.ensures.value) couples.requests))
