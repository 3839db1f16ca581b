use Rattle.std.proofs.Common.{◌≡◌, ◌+◌, true, add-one, subst, sym, ap, ◌∙◌, arith}
use Rattle.ata_taskfile.specs.declared.Phase.TheVariants.{Busy}
use Rattle.ata_taskfile.specs.declared.Step.TheVariants as step
use Rattle.ata_taskfile.specs.declared.Taken.TheVariants.{Good}
use Rattle.ata_taskfile.specs.declared.task_file.TaskFile.{TaskFile}
use Rattle.ata_taskfile.specs.Lawful.{position_of}
use Rattle.plain_drive.specs.Step.{acts, good_step}
use Rattle.redirect.specs.Piece.{piece_bytes}
use Rattle.redirect.proofs.scattering.move_sectors.Goals as goal

pub returns-then-is_none-clause-some : goal.returns-then-is_none-clause-some
returns-then-is_none-clause-some c = λ walking before. grind (arith, c.loop-sector.invariant.begun)

pub loop-sector-preserved : goal.loop-sector-preserved
loop-sector-preserved c =
    let order = c.args.order in
    let done = c.args.done + c.loop-sector.moved in
    let so_far = c.loop-sector.invariant in
    let made = c.move_one.ensures in
    let at_now : TaskFile → TaskFile =
    λ f. record f { phase = Busy (Good order) (position_of c.move_one.new.view.file.phase) } in
    let next : done + 1 ≡ c.args.done + (c.loop-sector.moved + 1) = omega arith in
    let value : piece_bytes c.args.bytes.now c.args.base (order.first + done) ≡ c.sector_of_piece-value.result
    = ap (piece_bytes c.args.bytes.now c.args.base) (sym so_far.place) ∙ sym c.sector_of_piece-value.ensures in
    record {
      place = omega arith;
      begun = λ none. absurd (omega arith);
      walks = λ walking. made.goes_on walking ∙ ap (λ n. Busy (Good order) n) next;
      file = made.file ∙ ap at_now so_far.file;
      from = omega (arith, made.least);
      within = omega (arith, made.most);
      steps = λ d g holds. rw add-one
          (made.step d g (holds (order.first + done) (omega arith) (omega arith) ∙ value)
          ∙ ap good_step (so_far.steps d g holds));
      act = λ d g holds. rw add-one
          (so_far.act d g holds, subst (λ p. acts step.Good p ≡ true) (so_far.steps d g holds) (made.acts d g));
      fits = λ sectors fits. made.fits sectors (so_far.fits sectors fits);
      size = made.size ∙ so_far.size;
    }
