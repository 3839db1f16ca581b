-- What is there for the guest goes on to have its source over an access.
use Rattle.std.proofs.Common.{◌≡◌, ℕ, ◌+◌, Bool, true, false, if◌then◌else◌, not, ◌&&◌, List, Option, Some, None, inl, inr}
use Rattle.std.proofs.Common.{refl, sym, ap, ◌∙◌, subst, arith}
use Rattle.std.proofs.lemmas.Bool.{true≢false}
use Rattle.ata_taskfile.specs.declared.Reg.{Reg}
use Rattle.ata_taskfile.specs.declared.Access.{Access}
use Rattle.ata_taskfile.specs.declared.Access.TheVariants as access
use Rattle.ata_taskfile.specs.declared.Taken.TheVariants.{Good, Bad}
use Rattle.ata_taskfile.specs.declared.Phase.{Phase}
use Rattle.ata_taskfile.specs.declared.Phase.TheVariants.{Reset, Idle, Busy, Ready}
use Rattle.ata_taskfile.specs.declared.task_file.TaskFile.{TaskFile}
use Rattle.ata_taskfile.specs.Access.{accessed}
use Rattle.ata_taskfile.specs.Device.{Device}
use Rattle.aoe_client.specs.Fetching.{Fetching, first_tag}
use Rattle.mon_pool.specs.Region.{Region}
use Rattle.plain_drive.specs.Alike.{gives_command, reads_sector}
use Rattle.plain_drive.proofs.Dressed.{reads_before}
use Rattle.port_lease.specs.declared.guest_side.GuestSide.{GuestSide}
use Rattle.port_lease.specs.declared.monitor_side.MonitorSide.{MonitorSide}
use Rattle.port_lease.specs.declared.view.View.{View}
use Rattle.port_lease.specs.Sides.{view_held}
use Rattle.port_lease.specs.View.{is_command, is_walk_access, reached, uses_bus}
use Rattle.own_pio.specs.declared.own.Own.{Own}
use Rattle.dummy_read.specs.declared.dummy.Dummy.{Dummy}
use Rattle.streaming.specs.Lines.{Line}
use Rattle.streaming.specs.Sources.{IsSourced, tag_of}
use Rattle.monitor_state.specs.declared.held.HeldPiece.{HeldPiece}
use Rattle.monitor_state.specs.declared.held.Hand.{Hand}
use Rattle.monitor_state.specs.declared.state.State.{State}
use Rattle.monitor_state.specs.declared.state.State.TheVariants.{Guest, Monitor, Running, Raising}
use Rattle.monitor_state.specs.declared.state.Plan.{Plan}
use Rattle.monitor_state.specs.declared.state.Purpose.{Purpose}
use Rattle.monitor_state.specs.declared.state.Purpose.TheVariants as purpose
use Rattle.monitor_state.specs.declared.parts.Parts.{Parts}
use Rattle.monitor_state.specs.Fits.{FitsPurpose, ReadsIn}
use Rattle.monitor_state.specs.Hand.{HasInHand}
use Rattle.monitor_state.specs.Pieces.{ends_before, piece_let_go, tidied}
use Rattle.monitor_state.specs.Seen.{file_seen}
use Rattle.monitor_state.specs.Sourced.{AccessKeepsSources, GoesOnTo, HeldSourced, ReadsFor, SlotCame}
use Rattle.monitor_access.proofs.Viewed.{left_others}

-- a command is taken in Idle alone
taken_write : (r : Reg) (x : ℕ) (f : TaskFile) → gives_command (access.Write8 r x) f ≡ true → f.phase ≡ Idle
taken_write r x f takes = grind arith

taken_idle : (a : Access) (f : TaskFile) → gives_command a f ≡ true → f.phase ≡ Idle
taken_idle (access.Write8 r x) f takes = taken_write r x f takes
taken_idle (access.Read8 r) f takes = absurd cc
taken_idle access.ReadWord f takes = absurd cc
taken_idle (access.WriteWord w) f takes = absurd cc
taken_idle access.ReadPointer f takes = absurd cc
taken_idle (access.WritePointer x) f takes = absurd cc
taken_idle access.Line f takes = absurd cc

-- what has a source goes on to have one in later lines, where no command was taken
module _ (image : ℕ) (taken : Bool) (lines later : List Line) (goes : GoesOnTo taken lines later) where
  sector_goes : taken ≡ false → (s : ℕ) → IsSourced image s lines → IsSourced image s later
  sector_goes none s (inl read) = inl (goes.read none s read)
  sector_goes none s (inr came) = inr (came.0, goes.came (tag_of s) came.1)

  slot_goes : (slot : Option Fetching) → SlotCame slot lines → SlotCame slot later
  slot_goes None came = tt
  slot_goes (Some f) came = λ i answered. goes.came (first_tag f + i) (came i answered)

  held_goes : (held : Option HeldPiece) (takes : Bool) → taken ≡ takes → (takes ≡ true → held ≡ None)
      → HeldSourced image held lines → HeldSourced image held later
  held_goes None takes is unheld has = tt
  held_goes (Some held) true is unheld has = let none = unheld refl in absurd cc
  held_goes (Some held) false is unheld has = λ s from below. sector_goes is s (has s from below)

-- a piece that isn't let go has its source as before
piece_where : (ends : Bool) (image : ℕ) (p : Parts) (lines : List Line) → HeldSourced image p.held lines
    → HeldSourced image (if ends then piece_let_go p else p).held lines
piece_where true image p lines has = tt
piece_where false image p lines has = has

piece_left : (phase : Phase) (image : ℕ) (p : Parts) (lines : List Line) → HeldSourced image p.held lines
    → HeldSourced image (tidied phase p).held lines
piece_left Reset image p lines has = has
piece_left Idle image p lines has = tt
piece_left (Busy (Good order) done) image p lines has =
    piece_where (ends_before (order.first + done) p.held) image p lines has
piece_left (Busy (Bad reason) done) image p lines has = has
piece_left (Ready order done left) image p lines has = has

-- on the monitor's side
module _ (a : Access) (s t : State) (v : View) (p : Parts) (d e : Device)
    (in_hand : HasInHand (file_seen s d).phase v p)
    (read : (lines later : List Line) → GoesOnTo (gives_command a (file_seen s d)) lines later
    → ReadsFor s d lines → ReadsFor t e later) where
  unheld : gives_command a (file_seen s d) ≡ true → p.held ≡ None
  unheld takes = (subst (λ phase. HasInHand phase v p) (taken_idle a (file_seen s d) takes) in_hand).held

  kept_beside : (held : Option HeldPiece) (hand : Hand) (pool : Region)
      → ((lines : List Line) → HeldSourced p.area.image p.held lines → HeldSourced p.area.image held lines)
      → AccessKeepsSources a s p d t (record p { held = held; hand = hand; pool = pool }) e
  kept_beside held hand pool left lines later goes has =
      let takes = gives_command a (file_seen s d) in
      let image = p.area.image in
      record {
        held = left later (held_goes image takes lines later goes p.held takes refl unheld has.held);
        demand = slot_goes image takes lines later goes p.client.demand has.demand;
        background = slot_goes image takes lines later goes p.client.background has.background;
        read = read lines later goes has.read;
      }

  viewed_keeps : (phase : Phase) (r : Parts) → r ≡ tidied phase p → AccessKeepsSources a s p d t r e
  viewed_keeps phase r parts =
      let left = tidied phase p in
      subst (λ (r : Parts). AccessKeepsSources a s p d t r e) (sym (left_others phase p) ∙ sym parts)
      (kept_beside left.held left.hand left.pool (piece_left phase p.area.image p))

-- with no own command
pub resting_keeps : (a : Access) (phase : Phase) (old new : MonitorSide) (p r : Parts) (d e : Device)
    → HasInHand (view_held old).file.phase (view_held old) p → r ≡ tidied phase p
    → AccessKeepsSources a (Monitor old) p d (Monitor new) r e
resting_keeps a phase old new p r d e in_hand parts =
    viewed_keeps a (Monitor old) (Monitor new) (view_held old) p d e in_hand (λ lines later goes read. tt) phase r parts

-- with a dummy read in flight
pub raising_keeps : (a : Access) (phase : Phase) (old new : MonitorSide) (dummy : Dummy) (planned : Plan) (p r : Parts)
    (d e : Device) → HasInHand (view_held old).file.phase (view_held old) p → r ≡ tidied phase p
    → AccessKeepsSources a (Raising old dummy planned) p d (Raising new dummy planned) r e
raising_keeps a phase old new dummy planned p r d e in_hand parts =
    viewed_keeps a (Raising old dummy planned) (Raising new dummy planned) (view_held old) p d e in_hand
    (λ lines later goes read. tt) phase r parts

-- an own command that reads a piece stands only where no command is taken
untaken : (a : Access) (takes : Bool) (own : Own) (first count : ℕ) (v : View) (p : Parts)
    → gives_command a v.file ≡ takes → ReadsIn v.file.phase own first count v p → takes ≡ false
untaken a true own first count v p is reads =
    absurd (subst (λ phase. ReadsIn phase own first count v p) (taken_idle a v.file is) reads)
untaken a false own first count v p is reads = refl

piece_read : (a : Access) (why : Purpose) (old new : MonitorSide) (own : Own) (p : Parts) (d e : Device)
    → FitsPurpose why own (view_held old) p → (lines later : List Line)
    → GoesOnTo (gives_command a (view_held old).file) lines later → ReadsFor (Running old own why) d lines
    → ReadsFor (Running new own why) e later
piece_read a purpose.Opening old new own p d e fits lines later goes read = tt
piece_read a (purpose.Piece first count lease) old new own p d e fits lines later goes read =
    let v = view_held old in
    let none = untaken a (gives_command a v.file) own first count v p refl fits in
    λ s from below. goes.read none s (read s from below)

-- with an own command
pub running_keeps : (a : Access) (phase : Phase) (old new : MonitorSide) (own : Own) (why : Purpose) (p r : Parts)
    (d e : Device) → HasInHand (view_held old).file.phase (view_held old) p → FitsPurpose why own (view_held old) p
    → r ≡ tidied phase p → AccessKeepsSources a (Running old own why) p d (Running new own why) r e
running_keeps a phase old new own why p r d e in_hand fits parts =
    viewed_keeps a (Running old own why) (Running new own why) (view_held old) p d e in_hand
    (piece_read a why old new own p d e fits) phase r parts

-- on the guest's side, where no command is taken and no other sector is read then
pub guest_keeps : (a : Access) (old new : GuestSide) (p : Parts) (d e : Device) → gives_command a d.file ≡ false
    → ((s : ℕ) → reads_sector e.file.phase s ≡ true → reads_sector d.file.phase s ≡ true)
    → AccessKeepsSources a (Guest old) p d (Guest new) p e
guest_keeps a old new p d e none before lines later goes has =
    let takes = gives_command a d.file in
    let image = p.area.image in
    record {
      held = held_goes image takes lines later goes p.held false none (λ is. absurd (true≢false (sym is))) has.held;
      demand = slot_goes image takes lines later goes p.client.demand has.demand;
      background = slot_goes image takes lines later goes p.client.background has.background;
      read = λ s reads. goes.read none s (has.read s (before s reads));
    }

-- an access that writes no command is one that takes none
other_write : (r : Reg) (x : ℕ) (f : TaskFile) → is_command (access.Write8 r x) ≡ false
    → gives_command (access.Write8 r x) f ≡ false
other_write r x f other = grind arith

pub other_takes_none : (a : Access) (f : TaskFile) → is_command a ≡ false → gives_command a f ≡ false
other_takes_none (access.Write8 r x) f other = other_write r x f other
other_takes_none (access.Read8 r) f other = refl
other_takes_none access.ReadWord f other = refl
other_takes_none (access.WriteWord w) f other = refl
other_takes_none access.ReadPointer f other = refl
other_takes_none (access.WritePointer x) f other = refl
other_takes_none access.Line f other = refl

-- what the drive reads after such an access it read before
reached_where : (kept : Bool) (a : Access) (d : Device) (s : ℕ) → gives_command a d.file ≡ false
    → reads_sector (if kept then d else accessed a d).file.phase s ≡ true → reads_sector d.file.phase s ≡ true
reached_where true a d s none reads = reads
reached_where false a d s none reads = reads_before a d s none reads

pub reached_reads : (v : View) (a : Access) (d : Device) (s : ℕ) → gives_command a d.file ≡ false
    → reads_sector (reached v a d).file.phase s ≡ true → reads_sector d.file.phase s ≡ true
reached_reads v a d s none reads = reached_where (is_walk_access a && not (uses_bus v)) a d s none reads

-- a command is taken alike where an interrupt was acknowledged before, and whatever the last one was
calmed_write : (r : Reg) (x : ℕ) (f : TaskFile) (command : ℕ)
    → gives_command (access.Write8 r x) (record f { pending = false; command = command })
    ≡ gives_command (access.Write8 r x) f
calmed_write r x f command = grind arith

pub calmed_takes : (a : Access) (f : TaskFile) (command : ℕ)
    → gives_command a (record f { pending = false; command = command }) ≡ gives_command a f
calmed_takes (access.Write8 r x) f command = calmed_write r x f command
calmed_takes (access.Read8 r) f command = refl
calmed_takes access.ReadWord f command = refl
calmed_takes (access.WriteWord w) f command = refl
calmed_takes access.ReadPointer f command = refl
calmed_takes (access.WritePointer x) f command = refl
calmed_takes access.Line f command = refl

-- the drive is taken first, and the view has the command
pub taken_keeps : (a : Access) (old : GuestSide) (new : MonitorSide) (t : State) (p r : Parts) (d n e : Device)
    (command : ℕ) → (view_held new).file ≡ record d.file { pending = false; command = command }
    → AccessKeepsSources a (Monitor new) p n t r e → AccessKeepsSources a (Guest old) p d t r e
taken_keeps a old new t p r d n e command file keeps lines later goes has =
    let same = ap (gives_command a) file ∙ calmed_takes a d.file command in
    keeps lines later (subst (λ taken. GoesOnTo taken lines later) (sym same) goes) record {
      held = has.held;
      demand = has.demand;
      background = has.background;
      read = tt;
    }
