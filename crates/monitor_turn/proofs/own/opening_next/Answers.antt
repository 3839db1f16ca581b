use Rattle.std.proofs.Common.{◌≡◌, ℕ, List, sym, ap, ◌∙◌, subst}
use Rattle.std.specs.Prelude.{IfSome}
use Rattle.ata_taskfile.specs.declared.registers.TheConstants.{BSY}
use Rattle.ata_taskfile.specs.declared.Phase.TheVariants.{Busy}
use Rattle.ata_taskfile.specs.TaskFile.{has_bit}
use Rattle.ata_taskfile.specs.Device.{Device}
use Rattle.fill_store.specs.Sectors.{IsOnKept}
use Rattle.own_pio.specs.Job.{job_order}
use Rattle.own_pio.specs.Kept.{IsDoneSoFar}
use Rattle.monitor_turn.proofs.Begun.{opening_begun}
use Rattle.monitor_turn.proofs.OpeningSectors.{begun_sectors}
use Rattle.monitor_turn.proofs.Sources.{opening_sources}
use Rattle.monitor_turn.proofs.own.opening_next.Goals as goal

pub returns-clause-turned : goal.returns-clause-turned
returns-clause-turned g c =
    let b = c.begin-own.ensures in
    let after = c.read8.ensures.after in
    opening_begun c.args.side _ _ c.in-Some.job _ c.args.parts.now (g.P.Ports.device c.args.ports.now) _ c.requires.fits
    c.requires.opens (ap (has_bit BSY) (sym c.read8.ensures.answer) ∙ sym c.has_bit.ensures ∙ c.if-has_bit.false)
    (sym c.next.ensures.job ∙ c.in-Some.is)
    (subst (λ o. IfSome o (IsOnKept c.args.parts.now.opening.area)) c.in-Some.is c.next.ensures.kept) b.own b.view b.job
    b.left b.runs
    (subst (λ (d : Device). (g.P.Ports.device c.begin-own.new.ports).file.phase
    ≡ Busy (job_order c.in-Some.job d.sectors) 0) after b.taken)
    b.byte (b.unseen.sectors ∙ ap (λ (d : Device). d.sectors) after) c.job_item.ensures.item

pub returns-clause-opening : goal.returns-clause-opening
returns-clause-opening g c =
    let b = c.begin-own.ensures in
    let p = c.args.parts.now in
    begun_sectors c.args.side c.begin-own.new.side c.begin-own.result c.in-Some.job p
    (g.P.Ports.device c.args.ports.now) (g.P.Ports.device c.begin-own.new.ports)
    (subst (λ o. IfSome o (IsOnKept p.opening.area)) c.in-Some.is c.next.ensures.kept) c.sector_is_whole.ensures b.job
    b.left (subst (λ (d : Device). (bytes : List ℕ) → IsDoneSoFar c.in-Some.job 0 bytes bytes d.cells
    (g.P.Ports.device c.begin-own.new.ports)) c.read8.ensures.after b.kept)

pub returns-clause-sources : goal.returns-clause-sources
returns-clause-sources g c =
    let p = c.args.parts.now in
    opening_sources c.args.side _ _ c.in-Some.job _ p (g.P.Ports.device c.args.ports.now) _ c.requires.fits
    c.requires.opens (subst (λ o. IfSome o (IsOnKept p.opening.area)) c.in-Some.is c.next.ensures.kept)
    c.job_item.ensures.item
