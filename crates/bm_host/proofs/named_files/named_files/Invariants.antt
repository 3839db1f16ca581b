use Rattle.std.proofs.Common.{◌≡◌}
use Rattle.bm_host.specs.ByRole.{value_of}
use Rattle.bm_host.specs.NamedFiles.{files_named}
use Rattle.bm_host.specs.declared.Role.{Role}
use Rattle.bm_host.proofs.named_files.named_files.Given as goal

abbrev pub invariant-loop-role : goal.invariant-loop-role
invariant-loop-role l = (role : Role) → (value_of l.named role).items ≡ value_of (files_named l.yielded) role
