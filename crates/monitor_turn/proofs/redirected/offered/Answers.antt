use Rattle.std.proofs.Common.{◌≡◌, true, sym, ap, ◌∙◌, subst}
use Rattle.ata_taskfile.specs.declared.Request.{Request}
use Rattle.ata_taskfile.specs.declared.Taken.TheVariants.{Good}
use Rattle.ata_taskfile.specs.declared.Phase.{Phase}
use Rattle.ata_taskfile.specs.declared.Phase.TheVariants.{Busy}
use Rattle.redirect.specs.Next.{has_sector}
use Rattle.redirect.specs.Read.{sector_in}
use Rattle.monitor_state.specs.State.{range_of}
use Rattle.monitor_turn.proofs.StepSources.{offered_sources}
use Rattle.monitor_turn.proofs.redirected.offered.Goals as goal

pub returns-clause-sources : goal.returns-clause-sources
returns-clause-sources g c =
    let r = c.requires in
    let p = c.args.parts.now in
    let at = r.worked_on.phase ∙ ap (λ (order : Request). Busy (Good order) c.args.done) (sym r.order) in
    offered_sources c.args.side _ c.args.order c.args.done p _ at
    (subst (λ (phase : Phase). has_sector (range_of p.held) (sector_in phase) ≡ true) at r.served.here)
