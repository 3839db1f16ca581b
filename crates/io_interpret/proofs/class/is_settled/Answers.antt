use Rattle.std.specs.Cmp.{booleans_Decides}
use Rattle.std.proofs.Common.{refl}
use Rattle.std.proofs.lemmas.Bool.Decides.{same_from_decides}
use Rattle.std.proofs.lemmas.Slice.Eq.{slice_eq-Decides}
use Rattle.io_interpret.specs.Class.{is_settled}
use Rattle.io_interpret.proofs.class.is_settled.Goals as goal

pub returns : goal.returns
returns c = record {
  settled = same_from_decides c.filled_is_stored.result (is_settled c.args.bitmap.now) c.filled_is_stored.ensures.answer
      (slice_eq-Decides booleans_Decides c.args.bitmap.now.filled c.args.bitmap.now.stored
      (is_settled c.args.bitmap.now) refl);
}
