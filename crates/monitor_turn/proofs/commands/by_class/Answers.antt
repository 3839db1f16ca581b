use Rattle.std.proofs.Common.{◌≡◌, true, refl, sym, ap, ◌∙◌}
use Rattle.monitor_state.specs.Classes.{class_of_order, is_drives_class}
use Rattle.port_lease.specs.Sides.{view_held}
use Rattle.monitor_state.proofs.Standing.{opened_free}
use Rattle.monitor_turn.proofs.Fresh.{drives_others, fresh_calm}
use Rattle.monitor_turn.proofs.commands.by_class.Goals.{in_default-via-in-Redirected+in_default, in_default-via-in_default}
use Rattle.monitor_turn.proofs.commands.by_class.Goals as goal

pub given-requires-clause-free : goal.given-requires-clause-free
given-requires-clause-free g c =
    let r = c.requires in
    opened_free c.args.side c.args.parts.now _ r.fits.device r.opened
    (fresh_calm (view_held c.args.side) c.args.order _ r.fits.parts.state.1 r.phase)

pub returns-in_default-clause-shown : goal.returns-in_default-clause-shown
returns-in_default-clause-shown g c = c.given.ensures.shown c.args.parts.now c.args.memory.now

pub returns-in_default-clause-turned : goal.returns-in_default-clause-turned
returns-in_default-clause-turned g c =
    let r = c.requires in
    let p = c.args.parts.now in
    let gets : is_drives_class (class_of_order c.args.order p) ≡ true =
    elim c.in_default.branch [
      | in_default-via-in-Redirected+in_default w ↦ rw w.in_default.is-1 refl
      | in_default-via-in_default w ↦ ap is_drives_class (sym c.class_of.ensures.class)
          ∙ drives_others c.class_of.result w.in_default.not-Redirected-0 w.in_default.not-FillFirst-0
          w.in_default.not-Reserved-0
    ] in
    c.given.ensures.turned p r.opened r.fresh gets r.fits

pub returns-in_default-clause-sources : goal.returns-in_default-clause-sources
returns-in_default-clause-sources g c = c.given.ensures.sources c.args.parts.now
