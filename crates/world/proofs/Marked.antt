-- Which events mark a command.
use Rattle.std.proofs.Common.{◌≡◌, ℕ, Bool, true, false, List, [], ◌∷◌, ◌++◌, Option, Some, None, if◌then◌else◌, refl, ap, ◌∙◌, subst}
use Rattle.std.specs.Prelude.{is_some}
use Rattle.ata_taskfile.specs.declared.Access.TheVariants as access
use Rattle.ata_taskfile.specs.declared.Reg.{Reg}
use Rattle.ata_taskfile.specs.declared.task_file.TaskFile.{TaskFile}
use Rattle.aoe_net.specs.Wire.{Wire}
use Rattle.aoe_net.specs.declared.way.Way.TheVariants.{ToClient, ToServer}
use Rattle.aoe_client.specs.Asking.{due_tags}
use Rattle.plain_drive.specs.Physical.{Physical, seen}
use Rattle.schedule_text.specs.declared.Event.{Event}
use Rattle.schedule_text.specs.declared.Event.TheVariants as event
use Rattle.schedule_text.specs.declared.Item.{Item}
use Rattle.schedule_text.specs.declared.Item.TheVariants.{Answer, Go, Bad, Command, Asked, Ready, Left, Reserved, Forged}
use Rattle.guest_view.specs.View.{takes_command}
use Rattle.monitor_state.specs.declared.parts.Parts.{Parts}
use Rattle.monitor_state.specs.Classes.{is_refused}
use Rattle.monitor_state.specs.Seen.{file_seen}
use Rattle.monitor_access.specs.Marks.{mark_due, mark_over, order_written}
use Rattle.monitor_access.proofs.Seen.{marked_alike}
use Rattle.mediator.specs.declared.mediator.Mediator.{Mediator}
use Rattle.mediator.specs.Mediator.{parts_of, state_of}
use Rattle.streaming.specs.Monitor.{MayTellUnder, Watched, answer_if, asked_items, item_of, reads}
use Rattle.world.specs.Acting.{HasActed}
use Rattle.world.specs.Reserved.{IsMarkedRight, marks}

asked_unmarked : (tags : List ℕ) → marks (asked_items tags) ≡ false
asked_unmarked [] = refl
asked_unmarked (tag ∷ tags) = asked_unmarked tags

-- what is told beside a mark, and the requests behind it
told_unmarked : (told : Option Item) (tags : List ℕ) → ¬ (told ≡ Some Reserved)
    → marks (item_of told ++ asked_items tags) ≡ false
told_unmarked None tags other = asked_unmarked tags
told_unmarked (Some Answer) tags other = asked_unmarked tags
told_unmarked (Some (Go n)) tags other = asked_unmarked tags
told_unmarked (Some Bad) tags other = asked_unmarked tags
told_unmarked (Some (Command byte first count)) tags other = asked_unmarked tags
told_unmarked (Some (Asked tag)) tags other = asked_unmarked tags
told_unmarked (Some Ready) tags other = asked_unmarked tags
told_unmarked (Some Left) tags other = asked_unmarked tags
told_unmarked (Some Reserved) tags other = absurd (other refl)
told_unmarked (Some Forged) tags other = asked_unmarked tags

items_unmarked : (answers : Bool) (told : Option Item) (tags : List ℕ) → ¬ (told ≡ Some Reserved)
    → marks (answer_if answers ++ item_of told ++ asked_items tags) ≡ false
items_unmarked true told tags other = told_unmarked told tags other
items_unmarked false told tags other = told_unmarked told tags other

-- the mark of an access over registers is one where there is one
given_mark : (refused : Bool) → marks (item_of (if refused then Some Reserved else None))
    ≡ is_some (if refused then Some Reserved else None)
given_mark true = refl
given_mark false = refl

mark_where : (takes refused : Bool)
    → marks (item_of (if takes then (if refused then Some Reserved else None) else None))
    ≡ is_some (if takes then (if refused then Some Reserved else None) else None)
mark_where true refused = given_mark refused
mark_where false refused = refl

over_marked : (r : Reg) (v : ℕ) (f : TaskFile) (p : Parts)
    → marks (item_of (mark_over f p (access.Write8 r v))) ≡ is_some (mark_over f p (access.Write8 r v))
over_marked r v f p = mark_where (takes_command (access.Write8 r v) f)
    (is_refused (order_written (access.Write8 r v) f p.area.sectors) p)

-- a write of a register's is marked as the plain drive that the guest sees takes it
write_marked : (r : Reg) (v : ℕ) (m : Mediator) (p : Physical) (items : List Item)
    → items ≡ item_of (mark_due (state_of m) (parts_of m) (seen p).device (access.Write8 r v))
    → IsMarkedRight (event.Write8 r v) m p items
write_marked r v m p items is = λ q shows.
    let f = file_seen (state_of m) (seen p).device in
    ap marks is ∙ over_marked r v f (parts_of m)
    ∙ ap is_some (marked_alike q.device.file f (parts_of m) (access.Write8 r v) shows.file)

-- a write of a register
abbrev is_write : Event → Bool
is_write (event.Write8 r v) = true
is_write other = false

-- no other event may tell of a mark
tells_none : (one : Event) → is_write one ≡ false → MayTellUnder one (Some Reserved) → ⊥
tells_none (event.Write8 r v) other may = absurd cc
tells_none (event.Read8 reg) other may = may
tells_none (event.ReadWords n) other may = may
tells_none (event.WriteWords bytes) other may = may
tells_none event.ReadPointer other may = may
tells_none (event.WritePointer v) other may = may
tells_none (event.ReadMemory address n) other may = may
tells_none (event.WriteMemory address bytes) other may = may
tells_none event.Line other may = may
tells_none (event.Deliver way k keep) other may = may
tells_none (event.Lose way k) other may = may
tells_none (event.Stray ToClient frame) other may = may
tells_none (event.Stray ToServer frame) other may = may
tells_none (event.Drive k) other may = may
tells_none (event.Destage k) other may = may
tells_none event.Turn other may = may
tells_none event.Tick other may = may
tells_none event.Cut other may = may
tells_none event.Remark other may = may
tells_none event.End other may = may

module _ (wire : Wire) (m : Mediator) (p r : Physical) (old new : Watched) (items : List Item) where
  unmarked : (one : Event) → HasActed one wire p r old new items → is_write one ≡ false → marks items ≡ false
  unmarked one acted other = ap marks acted.items_are
      ∙ items_unmarked (reads one) acted.told (due_tags new.asking)
      (λ is. tells_none one other (subst (MayTellUnder one) is acted.may))

  -- each event is marked as the plain drive that the guest sees takes it
  pub marked_right : (one : Event) → HasActed one wire p r old new items
      → ((reg : Reg) (v : ℕ) → one ≡ event.Write8 reg v → items
      ≡ item_of (mark_due (state_of m) (parts_of m) (seen p).device (access.Write8 reg v)))
      → IsMarkedRight one m p items
  marked_right (event.Write8 reg v) acted written = write_marked reg v m p items (written reg v refl)
  marked_right (event.Read8 reg) acted written = λ q shows. unmarked (event.Read8 reg) acted refl
  marked_right (event.ReadWords n) acted written = λ q shows. unmarked (event.ReadWords n) acted refl
  marked_right (event.WriteWords bytes) acted written = λ q shows. unmarked (event.WriteWords bytes) acted refl
  marked_right event.ReadPointer acted written = λ q shows. unmarked event.ReadPointer acted refl
  marked_right (event.WritePointer v) acted written = λ q shows. unmarked (event.WritePointer v) acted refl
  marked_right (event.ReadMemory address n) acted written = λ q shows. unmarked (event.ReadMemory address n) acted refl
  marked_right (event.WriteMemory address bytes) acted written =
      λ q shows. unmarked (event.WriteMemory address bytes) acted refl
  marked_right event.Line acted written = λ q shows. unmarked event.Line acted refl
  marked_right (event.Deliver way k keep) acted written = λ q shows. unmarked (event.Deliver way k keep) acted refl
  marked_right (event.Lose way k) acted written = λ q shows. unmarked (event.Lose way k) acted refl
  marked_right (event.Stray way frame) acted written = λ q shows. unmarked (event.Stray way frame) acted refl
  marked_right (event.Drive k) acted written = λ q shows. unmarked (event.Drive k) acted refl
  marked_right (event.Destage k) acted written = λ q shows. unmarked (event.Destage k) acted refl
  marked_right event.Turn acted written = λ q shows. unmarked event.Turn acted refl
  marked_right event.Tick acted written = λ q shows. unmarked event.Tick acted refl
  marked_right event.Cut acted written = λ q shows. unmarked event.Cut acted refl
  marked_right event.Remark acted written = λ q shows. unmarked event.Remark acted refl
  marked_right event.End acted written = λ q shows. unmarked event.End acted refl
