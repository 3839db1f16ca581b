-- A command of the guest's is marked where the plain drive takes one that is refused.
use Rattle.std.proofs.Common.{◌≡◌, ℕ, Bool, true, false, List, Option, Some, None, if◌then◌else◌, inl, inr, refl, sym, ap, ◌∙◌, subst}
use Rattle.std.specs.Prelude.{◌&&◌, ◌||◌, not, is_some, nat_lt}
use Rattle.std.proofs.lemmas.Bool.{cases_Bool, true≢false}
use Rattle.ata_taskfile.specs.declared.Access.TheVariants as access
use Rattle.ata_taskfile.specs.declared.Kind.{Kind}
use Rattle.ata_taskfile.specs.declared.Kind.TheVariants.{Read, Write, Verify, Flush, Identify, Features}
use Rattle.ata_taskfile.specs.declared.Phase.{Phase}
use Rattle.ata_taskfile.specs.declared.Phase.TheVariants.{Reset, Idle, Busy, Ready}
use Rattle.ata_taskfile.specs.declared.Reg.{Reg}
use Rattle.ata_taskfile.specs.declared.Request.{Request}
use Rattle.ata_taskfile.specs.declared.Taken.{Taken}
use Rattle.ata_taskfile.specs.declared.Taken.TheVariants.{Good, Bad}
use Rattle.ata_taskfile.specs.declared.task_file.TaskFile.{TaskFile}
use Rattle.ata_taskfile.specs.Lawful.{is_in_reset}
use Rattle.ata_taskfile.specs.TaskFile.{selects_absent, takes_no_command}
use Rattle.ata_taskfile.specs.Order.{has_range}
use Rattle.fill_bitmap.specs.declared.area.Area.{Area}
use Rattle.fill_bitmap.specs.Area.{block_at}
use Rattle.fill_bitmap.specs.BlockSet.{IsWithin, has}
use Rattle.fill_bitmap.specs.Bitmap.{Sets}
use Rattle.fill_bitmap.specs.Disk.{is_empty_at}
use Rattle.fill_store.proofs.Stored.{cut_stores, cut_stores_no_other}
use Rattle.guest_view.specs.View.{takes_command}
use Rattle.io_interpret.specs.Blocks.{touches_empty}
use Rattle.io_interpret.specs.declared.class.Class.TheVariants.{Local, Redirected, FillFirst, Settle, Reserved}
use Rattle.io_interpret.specs.Class.{class_of_kind, is_settled, reaches_reserved}
use Rattle.io_interpret.proofs.Ranges.{none_empty, none_touched}
use Rattle.plain_drive.specs.Physical.{Physical, seen}
use Rattle.plain_drive.specs.Plain.{Plain}
use Rattle.port_lease.specs.View.{is_command}
use Rattle.schedule_text.specs.declared.Event.{Event}
use Rattle.schedule_text.specs.declared.Event.TheVariants as event
use Rattle.schedule_text.specs.declared.Item.{Item}
use Rattle.schedule_text.specs.declared.Item.TheVariants as item
use Rattle.plain_run.specs.Entry.{entry_of}
use Rattle.streaming.specs.Lines.{Line}
use Rattle.streaming.specs.Sources.{is_write}
use Rattle.monitor_access.specs.Marks.{mark_over, order_written}
use Rattle.monitor_state.specs.declared.parts.Parts.{Parts}
use Rattle.monitor_state.specs.Classes.{is_refused, is_refused_class}
use Rattle.monitor_state.specs.Overlaid.{Known}
use Rattle.monitor_state.specs.Seen.{file_seen}
use Rattle.monitor_state.specs.State.{is_opened}
use Rattle.monitor_state.proofs.Unopened.{seen_waits}
use Rattle.mediator.specs.declared.mediator.Mediator.{Mediator}
use Rattle.mediator.specs.Mediator.{FitsDrive, parts_of, state_of}
use Rattle.world.specs.Keeping.{StandBy}
use Rattle.world.proofs.Cuts.{durable_left}
use Rattle.world.specs.Reserved.{MarksRightly, marks, names_reserved, order_taken, takes_refused, writes_outside}

-- a range that touches a block outside of a set touches one outside of each smaller set
not_below : (image inner outer : Bool) → (inner ≡ true → outer ≡ true) → (image && not inner) ≡ false
    → (image && not outer) ≡ false
not_below false inner outer step full = refl
not_below true true outer step full = ap not (step refl)
not_below true false outer step full = absurd cc

empty_below : (area : Area) (inner outer : List Bool) (s : ℕ) → IsWithin inner outer
    → is_empty_at area inner s ≡ false → is_empty_at area outer s ≡ false
empty_below area inner outer s within = not_below (nat_lt s area.image) (has inner (block_at area s))
    (has outer (block_at area s)) (within (block_at area s))

touched_below : (area : Area) (inner outer : List Bool) (first count : ℕ) → IsWithin inner outer
    → touches_empty area outer first count ≡ true → touches_empty area inner first count ≡ true
touched_below area inner outer first count within some = elim (cases_Bool (touches_empty area inner first count)) [
  | inl touched ↦ touched
  | inr none ↦ absurd (true≢false (sym some ∙ none_touched area outer first count
      (λ s from before. empty_below area inner outer s within
      (none_empty area inner first count none s from before))))
]

-- a command that is refused names a reserved sector or writes to an empty block, and the other way
settle_taken : (settled : Bool) → is_refused_class (if settled then Local else Settle) ≡ false
settle_taken true = refl
settle_taken false = refl

verify_refused : (reserved : Bool) → is_refused_class (if reserved then Reserved else Local) ≡ (reserved || false)
verify_refused true = refl
verify_refused false = refl

read_refused : (reserved empty : Bool)
    → is_refused_class (if reserved then Reserved else (if empty then Redirected else Local)) ≡ (reserved || false)
read_refused true empty = refl
read_refused false true = refl
read_refused false false = refl

write_refused : (reserved empty : Bool)
    → is_refused_class (if reserved then Reserved else (if empty then FillFirst else Local)) ≡ (reserved || empty)
write_refused true empty = refl
write_refused false true = refl
write_refused false false = refl

kind_refused : (kind : Kind) (request : Request) (area : Area) (sets : Sets)
    → is_refused_class (class_of_kind kind request area sets) ≡ ((has_range kind && reaches_reserved request area)
    || (is_write kind && touches_empty area sets.filled request.first request.count))
kind_refused Read request area sets =
    read_refused (reaches_reserved request area) (touches_empty area sets.filled request.first request.count)
kind_refused Write request area sets =
    write_refused (reaches_reserved request area) (touches_empty area sets.filled request.first request.count)
kind_refused Verify request area sets = verify_refused (reaches_reserved request area)
kind_refused Flush request area sets = settle_taken (is_settled sets)
kind_refused Identify request area sets = refl
kind_refused Features request area sets = refl

order_refused : (order : Taken) (p : Parts) → is_refused order p ≡ (names_reserved p.area (Some order)
    || writes_outside p.area p.bitmap.filled (Some order))
order_refused (Good request) p = kind_refused request.kind request p.area p.bitmap
order_refused (Bad reason) p = refl

-- over two sets of the same blocks the same commands write outside
both_same : (a b : Bool) → (a ≡ true → b ≡ true) → (b ≡ true → a ≡ true) → a ≡ b
both_same true b there back = sym (there refl)
both_same false true there back = back refl
both_same false false there back = refl

outside_same : (order : Taken) (area : Area) (one other : List Bool) → IsWithin one other → IsWithin other one
    → writes_outside area one (Some order) ≡ writes_outside area other (Some order)
outside_same (Bad reason) area one other there back = refl
outside_same (Good request) area one other there back =
    ap (λ touched. is_write request.kind && touched)
    (both_same (touches_empty area one request.first request.count)
    (touches_empty area other request.first request.count)
    (touched_below area other one request.first request.count back)
    (touched_below area one other request.first request.count there))

-- so the mark over registers is one of an order that is taken and refused
some_mark : (refused : Bool) → is_some (if refused then Some item.Reserved else None) ≡ refused
some_mark true = refl
some_mark false = refl

over_marks : (takes : Bool) (order : Taken) (p : Parts) (durable : List Bool)
    → (takes ≡ true → writes_outside p.area p.bitmap.filled (Some order) ≡ writes_outside p.area durable (Some order))
    → is_some (if takes then (if is_refused order p then Some item.Reserved else None) else None)
    ≡ (names_reserved p.area (if takes then Some order else None)
    || writes_outside p.area durable (if takes then Some order else None))
over_marks false order p durable same = refl
over_marks true order p durable same = some_mark (is_refused order p) ∙ order_refused order p
    ∙ ap (λ outside. names_reserved p.area (Some order) || outside) (same refl)

-- no command is taken in a reset
reset_takes : (phase : Phase) → is_in_reset phase ≡ true → takes_no_command phase ≡ true
reset_takes Reset waits = refl
reset_takes Idle waits = absurd cc
reset_takes (Busy order done) waits = absurd cc
reset_takes (Ready order done left) waits = absurd cc

none_taken : (r : Reg) (v : ℕ) (f : TaskFile) → takes_no_command f.phase ≡ true
    → takes_command (access.Write8 r v) f ≡ false
none_taken r v f none = flags (is_command (access.Write8 r v)) (takes_no_command f.phase) (selects_absent f) none
  where
    flags : (command none absent : Bool) → none ≡ true → (command && not (none || absent)) ≡ false
    flags true true absent is = refl
    flags false true absent is = refl
    flags command false absent is = absurd cc

module _ (k : Known) (m : Mediator) (p : Physical) (q : Plain) (lines : List Line) (fits : FitsDrive m (seen p).device)
    (stand : StandBy k m p q lines) where
  -- where a command is taken opening has ended
  opened_where_taken : (r : Reg) (v : ℕ) → takes_command (access.Write8 r v) q.device.file ≡ true
      → is_opened (parts_of m) ≡ true
  opened_where_taken r v takes = elim (cases_Bool (is_opened (parts_of m))) [
    | inl opened ↦ opened
    | inr closed ↦
        let f = file_seen (state_of m) (seen p).device in
        let waits = seen_waits (state_of m) (parts_of m) (seen p).device fits.parts.state closed in
        let same = ap (λ (g : TaskFile). g.phase) stand.shows.file in
        absurd (true≢false (sym takes ∙ none_taken r v q.device.file
        (reset_takes q.device.file.phase (subst (λ (x : Phase). is_in_reset x ≡ true) (sym same) waits))))
  ]

  -- so the blocks that are filled are those whose data is durable
  filled_durable : is_opened (parts_of m) ≡ true → IsWithin (parts_of m).bitmap.filled k.durable
  filled_durable opened b filled =
      let own = parts_of m in
      let over = stand.sectors.overlaid opened in
      let d = (seen p).device in
      cut_stores_no_other own.area own.id own.bitmap.stored k.durable d.cells p.kept.durable over.kept
      (durable_left p) b
      (cut_stores own.area own.id own.bitmap.stored k.durable d.cells p.kept.durable over.kept (durable_left p) b
      (over.settled b filled))

  write_rightly : (r : Reg) (v : ℕ) (items : List Item) (bytes : List ℕ)
      → marks items ≡ is_some (mark_over q.device.file (parts_of m) (access.Write8 r v))
      → MarksRightly (parts_of m).area k.durable (entry_of (event.Write8 r v) items bytes) q
  write_rightly r v items bytes is =
      let own = parts_of m in
      let takes = takes_command (access.Write8 r v) q.device.file in
      let order : ℕ → Taken = order_written (access.Write8 r v) q.device.file in
      let taken : ℕ → Option Taken = λ sectors. if takes then Some (order sectors) else None in
      subst (λ (sectors : ℕ). marks items
      ≡ (names_reserved own.area (taken sectors) || writes_outside own.area k.durable (taken sectors)))
      (sym stand.shows.sectors)
      (is ∙ over_marks takes (order own.area.sectors) own k.durable
      (λ is_taken. let opened = opened_where_taken r v is_taken in
      outside_same (order own.area.sectors) own.area own.bitmap.filled k.durable (filled_durable opened)
      (stand.sectors.overlaid opened).durable))

  -- no other event takes one
  other_rightly : (one : Event) (items : List Item) (bytes : List ℕ) → marks items ≡ false
      → order_taken one q ≡ None → MarksRightly (parts_of m).area k.durable (entry_of one items bytes) q
  other_rightly one items bytes unmarked none =
      unmarked
      ∙ sym (ap (λ t. names_reserved (parts_of m).area t || writes_outside (parts_of m).area k.durable t) none)

  -- each event marks rightly
  pub marks_rightly : (one : Event) (items : List Item) (bytes : List ℕ) → marks items ≡ takes_refused one q m
      → MarksRightly (parts_of m).area k.durable (entry_of one items bytes) q
  marks_rightly (event.Write8 r v) items bytes is = write_rightly r v items bytes is
  marks_rightly (event.Read8 reg) items bytes is = other_rightly (event.Read8 reg) items bytes is refl
  marks_rightly (event.ReadWords n) items bytes is = other_rightly (event.ReadWords n) items bytes is refl
  marks_rightly (event.WriteWords words) items bytes is = other_rightly (event.WriteWords words) items bytes is refl
  marks_rightly event.ReadPointer items bytes is = other_rightly event.ReadPointer items bytes is refl
  marks_rightly (event.WritePointer v) items bytes is = other_rightly (event.WritePointer v) items bytes is refl
  marks_rightly (event.ReadMemory address n) items bytes is =
      other_rightly (event.ReadMemory address n) items bytes is refl
  marks_rightly (event.WriteMemory address list) items bytes is =
      other_rightly (event.WriteMemory address list) items bytes is refl
  marks_rightly event.Line items bytes is = other_rightly event.Line items bytes is refl
  marks_rightly (event.Deliver way k keep) items bytes is = other_rightly (event.Deliver way k keep) items bytes is refl
  marks_rightly (event.Lose way k) items bytes is = other_rightly (event.Lose way k) items bytes is refl
  marks_rightly (event.Stray way frame) items bytes is = other_rightly (event.Stray way frame) items bytes is refl
  marks_rightly (event.Drive k) items bytes is = other_rightly (event.Drive k) items bytes is refl
  marks_rightly (event.Destage k) items bytes is = other_rightly (event.Destage k) items bytes is refl
  marks_rightly event.Turn items bytes is = other_rightly event.Turn items bytes is refl
  marks_rightly event.Tick items bytes is = other_rightly event.Tick items bytes is refl
  marks_rightly event.Cut items bytes is = other_rightly event.Cut items bytes is refl
  marks_rightly event.Remark items bytes is = other_rightly event.Remark items bytes is refl
  marks_rightly event.End items bytes is = other_rightly event.End items bytes is refl
