use Rattle.std.proofs.Common.{◌++◌, None, refl, sym, ap, ◌∙◌, subst}
use Rattle.ata_taskfile.specs.declared.Access.TheVariants as access
use Rattle.aoe_client.specs.Asking.{due_tags}
use Rattle.plain_drive.specs.Physical.{Physical, physical_destaged, seen}
use Rattle.plain_run.specs.Guest.{memory_read, memory_written}
use Rattle.schedule_text.specs.declared.Event.TheVariants as event
use Rattle.monitor_access.specs.Marks.{mark_due}
use Rattle.monitor_state.specs.Seen.{file_seen}
use Rattle.monitor_state.specs.State.{is_opened}
use Rattle.mediator.specs.Mediator.{FitsDrive, client_of, parts_of, state_of}
use Rattle.streaming.specs.Monitor.{asked_items, item_of}
use Rattle.world.specs.Machine.{device, physical, with_memory}
use Rattle.world.proofs.Machines.{kept_behind}
use Rattle.world.proofs.Acting.{accessed_acts, tells_nothing, turn_acts, write_tells}
use Rattle.world.specs.Keeping.{StandBy}
use Rattle.world.proofs.EventLaws.{write_reads}
use Rattle.world.proofs.KeptEvents.{is_quiet, marked_quiet, none_told, quiet_kept, tick_kept}
use Rattle.world.proofs.deployed.act.Goals as goal

pub returns-in-Read8-clause-acted : goal.returns-in-Read8-clause-acted
returns-in-Read8-clause-acted c = λ wire at. let r = c.read.ensures in
    rw c.in-Read8.is (accessed_acts (event.Read8 c.in-Read8.reg) wire _ _ _ _ _ None
    (tells_nothing (event.Read8 c.in-Read8.reg)) r.accessed r.ready.sent r.items refl refl refl (λ takes. takes))

pub returns-in-Write8-clause-acted : goal.returns-in-Write8-clause-acted
returns-in-Write8-clause-acted c = λ wire at. let r = c.write.ensures in
    let m = c.args.mediator.now in
    let d = device c.args.machine.now in
    let a = access.Write8 c.in-Write8.reg c.in-Write8.v in
    rw c.in-Write8.is (accessed_acts (event.Write8 c.in-Write8.reg c.in-Write8.v) wire _ _ _ _ _
    (mark_due (state_of m) (parts_of m) d a)
    (write_tells c.in-Write8.reg c.in-Write8.v (file_seen (state_of m) d) (parts_of m))
    r.accessed r.ready.sent r.items refl refl refl (λ takes. takes))

pub returns-in-ReadWords-clause-acted : goal.returns-in-ReadWords-clause-acted
returns-in-ReadWords-clause-acted c = λ wire at. let r = c.read_words.ensures in
    rw c.in-ReadWords.is (accessed_acts (event.ReadWords c.in-ReadWords.n) wire _ _ _ _ _ None
    (tells_nothing (event.ReadWords c.in-ReadWords.n)) r.accessed r.ready.sent r.items refl refl refl (λ takes. takes))

pub returns-in-WriteWords-clause-acted : goal.returns-in-WriteWords-clause-acted
returns-in-WriteWords-clause-acted c = λ wire at. let r = c.write_words.ensures in
    rw c.in-WriteWords.is (accessed_acts (event.WriteWords c.in-WriteWords.bytes) wire _ _ _ _ _ None
    (tells_nothing (event.WriteWords c.in-WriteWords.bytes)) r.accessed r.ready.sent r.items refl refl refl
    (λ takes. takes))

pub returns-in-ReadPointer-clause-acted : goal.returns-in-ReadPointer-clause-acted
returns-in-ReadPointer-clause-acted c = λ wire at. let r = c.read-in-ReadPointer.ensures in
    rw c.in-ReadPointer.is (accessed_acts event.ReadPointer wire _ _ _ _ _ None
    (tells_nothing event.ReadPointer) r.accessed r.ready.sent r.items refl refl refl (λ takes. takes))

pub returns-in-WritePointer-clause-acted : goal.returns-in-WritePointer-clause-acted
returns-in-WritePointer-clause-acted c = λ wire at. let r = c.write-in-WritePointer.ensures in
    rw c.in-WritePointer.is (accessed_acts (event.WritePointer c.in-WritePointer.v) wire _ _ _ _ _ None
    (tells_nothing (event.WritePointer c.in-WritePointer.v)) r.accessed r.ready.sent r.items refl refl refl
    (λ takes. takes))

pub returns-in-Line-clause-acted : goal.returns-in-Line-clause-acted
returns-in-Line-clause-acted c = λ wire at. let r = c.read-in-Line.ensures in
    rw c.in-Line.is (accessed_acts event.Line wire _ _ _ _ _ None
    (tells_nothing event.Line) r.accessed r.ready.sent r.items refl refl refl (λ takes. takes))

pub returns-in-Destage-clause-fits : goal.returns-in-Destage-clause-fits
returns-in-Destage-clause-fits c =
    let m = c.args.mediator.now in
    let p = physical c.args.machine.now in
    let k = c.in-Destage.k in
    subst (λ (q : Physical). FitsDrive m (seen q).device) (sym c.destage.ensures.after)
    (c.steps_keep_the_fit.ensures.let_go (state_of m) (parts_of m) (seen p) (seen (physical_destaged k p))
    c.requires.ready.fits (c.a_physical_drive_is_seen.ensures.destage k p))

pub returns-in-Turn-clause-acted : goal.returns-in-Turn-clause-acted
returns-in-Turn-clause-acted c = λ wire at. let r = c.turn.ensures in
    let g = r.items in
    rw c.in-Turn.is (turn_acts wire _ _ _ _ _ g.told r.reached (ap (λ b. kept_behind b) r.rest) r.memory
    (g.items ∙ ap (λ before. before ++ (item_of g.told ++ asked_items (due_tags (client_of c.turn.new.self))))
    c.requires.items) g.may g.commands r.client g.ready
    (λ was. ap (λ o. is_opened (record (parts_of c.args.mediator.now) { opening = o })) (r.image.opening was) ∙ was))

pub returns-in-Read8-clause-kept : goal.returns-in-Read8-clause-kept
returns-in-Read8-clause-kept c = λ wire at. let r = c.read.ensures in
    rw c.in-Read8.is (λ not k q lines honest stand.
    quiet_kept (event.Read8 c.in-Read8.reg) wire k _ _ _ _ _ _ q lines (ap is_quiet r.items)
    (r.answered k q lines stand) (r.kept k q lines stand))

pub returns-in-Write8-clause-kept : goal.returns-in-Write8-clause-kept
returns-in-Write8-clause-kept c = λ wire at. let r = c.write.ensures in
    let m = c.args.mediator.now in
    let d = device c.args.machine.now in
    let a = access.Write8 c.in-Write8.reg c.in-Write8.v in
    rw c.in-Write8.is (λ not k q lines honest stand.
    quiet_kept (event.Write8 c.in-Write8.reg c.in-Write8.v) wire k _ _ _ _ _ _ q lines
    (ap is_quiet r.items ∙ marked_quiet (file_seen (state_of m) d) (parts_of m) a)
    (ap (λ x. x.items) r.bytes ∙ c.requires.bytes) (r.kept not k q lines stand))

pub returns-in-ReadWords-clause-kept : goal.returns-in-ReadWords-clause-kept
returns-in-ReadWords-clause-kept c = λ wire at. let r = c.read_words.ensures in
    rw c.in-ReadWords.is (λ not k q lines honest stand.
    quiet_kept (event.ReadWords c.in-ReadWords.n) wire k _ _ _ _ _ _ q lines (ap is_quiet r.items)
    (r.answered k q lines stand) (r.kept k q lines stand))

pub returns-in-WriteWords-clause-kept : goal.returns-in-WriteWords-clause-kept
returns-in-WriteWords-clause-kept c = λ wire at. let r = c.write_words.ensures in
    let bytes = c.in-WriteWords.bytes in
    rw c.in-WriteWords.is (λ not k q lines honest stand.
    quiet_kept (event.WriteWords bytes) wire k _ _ _ _ _ _ q lines (ap is_quiet r.items)
    (ap (λ x. x.items) r.bytes ∙ c.requires.bytes ∙ sym (write_reads bytes q))
    ((rw c.as_slice.ensures.bytes at r.kept) k q lines stand))

pub returns-in-ReadPointer-clause-kept : goal.returns-in-ReadPointer-clause-kept
returns-in-ReadPointer-clause-kept c = λ wire at. let r = c.read-in-ReadPointer.ensures in
    rw c.in-ReadPointer.is (λ not k q lines honest stand.
    quiet_kept event.ReadPointer wire k _ _ _ _ _ _ q lines (ap is_quiet r.items)
    (r.answered k q lines stand) (r.kept k q lines stand))

pub returns-in-WritePointer-clause-kept : goal.returns-in-WritePointer-clause-kept
returns-in-WritePointer-clause-kept c = λ wire at. let r = c.write-in-WritePointer.ensures in
    rw c.in-WritePointer.is (λ not k q lines honest stand.
    quiet_kept (event.WritePointer c.in-WritePointer.v) wire k _ _ _ _ _ _ q lines (ap is_quiet r.items)
    (ap (λ x. x.items) r.bytes ∙ c.requires.bytes) (r.kept not k q lines stand))

pub returns-in-Line-clause-kept : goal.returns-in-Line-clause-kept
returns-in-Line-clause-kept c = λ wire at. let r = c.read-in-Line.ensures in
    rw c.in-Line.is (λ not k q lines honest stand.
    quiet_kept event.Line wire k _ _ _ _ _ _ q lines (ap is_quiet r.items)
    (r.answered k q lines stand) (r.kept k q lines stand))

pub returns-in-ReadMemory-clause-kept : goal.returns-in-ReadMemory-clause-kept
returns-in-ReadMemory-clause-kept c = λ wire at. let r = c.answer_memory.ensures in
    let address = c.in-ReadMemory.address in
    let n = c.in-ReadMemory.n in
    rw c.in-ReadMemory.is (λ not k q lines honest stand.
    quiet_kept (event.ReadMemory address n) wire k _ _ _ _ _ _ q lines (ap is_quiet r.items)
    (r.bytes ∙ ap (memory_read address n) (sym stand.shows.memory_is)) stand)

pub returns-in-WriteMemory-clause-kept : goal.returns-in-WriteMemory-clause-kept
returns-in-WriteMemory-clause-kept c = λ wire at.
    let address = c.in-WriteMemory.address in
    let bytes = c.in-WriteMemory.bytes in
    let m = c.args.mediator.now in
    let p = physical c.args.machine.now in
    rw c.in-WriteMemory.is (λ not k q lines honest stand.
    quiet_kept (event.WriteMemory address bytes) wire k _ _ _ _ _ _ q lines (ap is_quiet c.requires.items)
    c.requires.bytes
    (subst (λ (r : Physical). StandBy k m r (record q { memory = memory_written address bytes q.memory }) lines)
    (sym (rw c.as_slice-in-WriteMemory.ensures.bytes at c.write_memory.ensures.after))
    (subst (λ memory. StandBy k m (with_memory (memory_written address bytes memory) p)
    (record q { memory = memory_written address bytes q.memory }) lines) stand.shows.memory_is
    (c.the_guests_memory_is_the_plain_drives.ensures k m (seen p).device p.memory
    (memory_written address bytes q.memory) q lines stand))))

pub returns-in-Destage-clause-kept : goal.returns-in-Destage-clause-kept
returns-in-Destage-clause-kept c = λ wire at.
    let m = c.args.mediator.now in
    let p = physical c.args.machine.now in
    let n = c.in-Destage.k in
    rw c.in-Destage.is (λ not k q lines honest stand.
    quiet_kept (event.Destage n) wire k _ _ _ _ _ _ q lines (ap is_quiet c.requires.items) c.requires.bytes
    (subst (λ (r : Physical). StandBy k m r q lines) (sym c.destage.ensures.after)
    (c.a_destage_keeps_the_plain_drive.ensures k m (seen p) (seen (physical_destaged n p)) q lines
    (c.a_physical_drive_is_seen.ensures.destage n p) stand)))

pub returns-in-Turn-clause-kept : goal.returns-in-Turn-clause-kept
returns-in-Turn-clause-kept c = λ wire at. let r = c.turn.ensures in
    rw c.in-Turn.is (λ not k q lines honest stand.
    let goes = r.kept k q lines c.turn.new.out.items.items
    (sym (ap (λ before. before ++ c.turn.new.out.items.items) c.requires.items)) stand in
    record {
      answered = ap (λ x. x.items) r.bytes ∙ c.requires.bytes;
      goes = goes.0;
      asks = λ tag asked. tt;
      stand = goes.1;
    })

pub returns-in-Tick-clause-kept : goal.returns-in-Tick-clause-kept
returns-in-Tick-clause-kept c = λ wire at. let r = c.tick.ensures in
    let tags = due_tags (client_of c.tick.new.self) in
    let p = physical c.args.machine.now in
    let items = c.tick.new.out.items.items in
    let given = sym (ap (λ before. before ++ items) c.requires.items) in
    rw c.in-Tick.is (λ not k q lines honest stand.
    tick_kept wire k _ _ _ items _ tags q lines
    (r.items ∙ ap (λ before. before ++ asked_items tags) c.requires.items)
    (ap (λ x. x.items) r.bytes ∙ c.requires.bytes)
    ((r.asks k (seen p).device p.memory q lines items given stand).in_time)
    (r.kept k (seen p).device p.memory q lines items given stand))

pub returns-in-Drive-clause-kept : goal.returns-in-Drive-clause-kept
returns-in-Drive-clause-kept c = λ wire at. let r = c.make_step.ensures in
    rw c.in-Drive.is (λ not k q lines honest stand.
    let kept = r.kept wire not k q lines honest stand in
    record {
      answered = ap (λ x. x.items) r.bytes ∙ c.requires.bytes;
      goes = kept.goes;
      asks = kept.asks;
      stand = kept.stand;
    })

pub returns-in-Stray-clause-kept : goal.returns-in-Stray-clause-kept
returns-in-Stray-clause-kept c = λ wire at. let r = c.stray.ensures in
    rw c.in-Stray.is (λ not k q lines honest stand.
    let kept = r.kept wire (physical c.args.machine.now) not k q lines honest stand in
    record {
      answered = ap (λ x. x.items) r.bytes ∙ c.requires.bytes;
      goes = kept.goes;
      asks = kept.asks;
      stand = kept.stand;
    })

pub returns-in-Deliver-ToClient-default-default-clause-kept : goal.returns-in-Deliver-ToClient-default-default-clause-kept
returns-in-Deliver-ToClient-default-default-clause-kept c = λ wire. let r = c.deliver.ensures in
    let it = c.in-Deliver-ToClient-default-default in
    rw it.is (λ at not k q lines honest stand.
    none_told (event.Deliver it.field-0 it.field-1 it.field-2) wire k _ _ _ _ _ _ q lines r.items
    (ap (λ x. x.items) r.bytes ∙ c.requires.bytes)
    (r.kept it.field-0 it.field-1 it.field-2 wire (physical c.args.machine.now) at refl k q lines honest stand))
