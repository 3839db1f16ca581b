use Rattle.std.proofs.Common.{◌∙◌, sym}
use Rattle.bm_host.proofs.NamedLaws.{files_named-push, named-set}
use Rattle.bm_host.specs.NamedFiles.{files_named}
use Rattle.bm_host.proofs.named_files.named_files.Goals as goal

pub loop-role-preserved : goal.loop-role-preserved
loop-role-preserved c = rw c.name_file.ensures (λ r.
    named-set c.loop-role.named (files_named c.loop-role.yielded) c.in-Some.role c.in-Some.bytes r
    (c.loop-role.invariant r)
    ∙ sym (files_named-push c.loop-role.yielded c.in-Some.role c.in-Some.bytes r))
