use Rattle.std.proofs.Common.{sym, ap, ◌∙◌}
use Rattle.port_lease.specs.declared.view.View.{View}
use Rattle.port_lease.specs.Sides.{view_held}
use Rattle.guest_view.specs.Drive.{drive_after}
use Rattle.guest_view.specs.Seen.{on_monitor_side}
use Rattle.guest_view.specs.View.{takes_command, view_after}
use Rattle.guest_view.proofs.Commands.{taken_phase}
use Rattle.guest_view.proofs.OneDevice.{monitored}
use Rattle.monitor_state.specs.Pieces.{word_offered}
use Rattle.monitor_access.specs.Marks.{order_written}
use Rattle.monitor_access.proofs.Commands.{marked, unmarked}
use Rattle.monitor_access.proofs.by_view.by_view.Goals as goal
use Rattle.monitor_access.proofs.by_view.by_view.Goals.{then-takes, else-takes}

pub returns-clause-answered : goal.returns-clause-answered
returns-clause-answered g c = λ device given.
    let p = c.args.parts.now in
    let word = c.word-word.ensures.word ∙ ap (λ (v : View). word_offered v.file.phase p.held p.pool) c.view-2.ensures in
    c.access-answer.ensures.answer device (λ reads. given reads ∙ sym word)

pub returns-clause-seen : goal.returns-clause-seen
returns-clause-seen g c = λ device sectors.
    let v = view_held c.args.side.now in
    let a = c.args.access.now in
    let d = g.P.Ports.device c.args.ports.now in
    let after = c.access-answer.ensures in
    monitored c.args.waits v d device a c.requires.step c.requires.view.served c.requires.no_reset
    ∙ ap (λ n. on_monitor_side (view_after a n v) (drive_after c.args.waits v a d) device) sectors
    ∙ ap (λ w. on_monitor_side w (drive_after c.args.waits v a d) device) (sym after.view)
    ∙ ap (λ e. on_monitor_side (view_held c.access-answer.new.side) e device) (sym after.drive)

pub returns-clause-mark : goal.returns-clause-mark
returns-clause-mark g c =
    let v = view_held c.args.side.now in
    let p = c.args.parts.now in
    let a = c.args.access.now in
    let takes = c.takes_command-takes.ensures ∙ ap (λ (v : View). takes_command a v.file) c.view.ensures in
    elim c.if-takes.branch [
      | then-takes w ↦
          let is = sym takes ∙ w.if-takes.true in
          let phase = ap (λ (v : View). v.file.phase) (w.view-then-takes.ensures ∙ c.access-answer.ensures.view)
          ∙ taken_phase a p.area.sectors v is in
          w.mark-is ∙ w.mark_of-mark.ensures.mark (order_written a v.file p.area.sectors) phase
          ∙ sym (marked v.file p a is)
      | else-takes w ↦ w.mark-is ∙ sym (unmarked v.file p a (sym takes ∙ w.if-takes.false))
    ]
