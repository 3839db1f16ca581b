use Rattle.std.proofs.Common.{◌≡◌, ◌++◌, List, [], length}
use Rattle.std.specs.Prelude.{map}
use Rattle.ata_taskfile.specs.declared.Access.{Access}
use Rattle.ata_taskfile.specs.declared.Access.TheVariants.{WriteWord}
use Rattle.plain_drive.specs.Plain.{words_of}
use Rattle.mediator.specs.Mediator.{parts_of}
use Rattle.world.specs.Acting.{HasAccessed}
use Rattle.world.specs.Deployed.{IsReady, watched_of}
use Rattle.world.specs.Keeping.{KeepsAccesses}
use Rattle.world.specs.Machine.{device, physical}
use Rattle.world.proofs.accesses.write_words.Given as goal

-- so many accesses were made
abbrev pub invariant-loop-left : goal.invariant-loop-left
invariant-loop-left l = record {
  accessed : HasAccessed (physical l.fn.machine) (physical l.machine) (watched_of l.fn.mediator)
      (watched_of l.mediator);
  ready : IsReady l.mediator (device l.machine);
  items : l.out.items.items ≡ [];
  bytes : l.out.bytes ≡ l.fn.out.bytes;
  made : List Access;
  whole : map (λ w. WriteWord w) (words_of l.fn.bytes) ≡ made ++ map (λ w. WriteWord w) (words_of l.left);
  kept : KeepsAccesses made l.fn.mediator (physical l.fn.machine) l.mediator (physical l.machine);
  area : (parts_of l.mediator).area ≡ (parts_of l.fn.mediator).area;
  id : (parts_of l.mediator).id ≡ (parts_of l.fn.mediator).id;
}

abbrev pub decreases-loop-left : goal.decreases-loop-left
decreases-loop-left l = length l.left
