-- One more access behind others.
use Rattle.std.proofs.Common.{◌≡◌, List, [], ◌∷◌, ◌++◌, refl, sym, ap, ◌∙◌}
use Rattle.ata_taskfile.specs.declared.Access.{Access}
use Rattle.ata_taskfile.specs.Device.{Device}
use Rattle.ata_taskfile.specs.Access.{accessed}
use Rattle.ata_taskfile.specs.Accesses.{all_accessed, Reaches}

one_more : (accesses : List Access) (a : Access) (d : Device)
    → all_accessed (accesses ++ a ∷ []) d ≡ accessed a (all_accessed accesses d)
one_more [] a d = refl
one_more (first ∷ accesses) a d = one_more accesses a (accessed first d)

-- what accesses lead to, one more leads from
pub reaches_more : (a : Access) (origin old new : Device) → new ≡ accessed a old → Reaches origin old
    → Reaches origin new
reaches_more a origin old new is reached = record {
  accesses = reached.accesses ++ a ∷ [];
  leads = is ∙ ap (accessed a) reached.leads ∙ sym (one_more reached.accesses a origin);
}
