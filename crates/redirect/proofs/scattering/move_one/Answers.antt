use Rattle.redirect.proofs.Fits.{fits_walked}
use Rattle.redirect.proofs.scattering.move_one.Goals as goal

pub returns-clause-fits : goal.returns-clause-fits
returns-clause-fits c = fits_walked c.args.view.now c.args.order c.args.done c.args.memory.now c.move_in-moved.result
    c.position_after.result c.move_in-moved.new.bus c.requires.phase c.requires.form c.requires.below
    c.move_in-moved.ensures.result c.position_after.ensures c.move_in-moved.ensures.bus
