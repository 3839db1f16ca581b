use Rattle.std.proofs.Common.{◌≡◌, ◌≤◌, ◌*◌, [], length}
use Rattle.std.specs.Prelude.{replicate}
use Rattle.ata_taskfile.specs.declared.Access.TheVariants.{ReadWord}
use Rattle.mediator.specs.Mediator.{parts_of}
use Rattle.world.specs.Acting.{HasAccessed}
use Rattle.world.specs.Deployed.{IsReady, watched_of}
use Rattle.world.specs.Keeping.{AnswersAccesses, KeepsAccesses}
use Rattle.world.specs.Machine.{device, physical}
use Rattle.world.proofs.accesses.read_words.Given as goal

-- so many accesses were made, each of which answered four bytes at most
abbrev pub invariant-loop-i : goal.invariant-loop-i
invariant-loop-i l = record {
  accessed : HasAccessed (physical l.fn.machine) (physical l.machine) (watched_of l.fn.mediator)
      (watched_of l.mediator);
  ready : IsReady l.mediator (device l.machine);
  items : l.out.items.items ≡ [];
  few : length l.out.bytes.items ≤ 4 * l._i;
  answered : AnswersAccesses (replicate l._i ReadWord) l.fn.mediator (physical l.fn.machine) l.out.bytes.items;
  kept : KeepsAccesses (replicate l._i ReadWord) l.fn.mediator (physical l.fn.machine) l.mediator
      (physical l.machine);
  area : (parts_of l.mediator).area ≡ (parts_of l.fn.mediator).area;
  id : (parts_of l.mediator).id ≡ (parts_of l.fn.mediator).id;
}
