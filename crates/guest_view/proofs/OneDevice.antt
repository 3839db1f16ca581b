-- A guest's access on the monitor's side is one to the device that it sees there.
use Rattle.std.proofs.Common.{◌≡◌, ℕ, Bool, true, false, not, ◌&&◌, ◌||◌, ◌==◌, ◌++◌, [], ◌∷◌, if◌then◌else◌, bit_and, refl, sym, ap, ◌∙◌, arith}
use Rattle.std.proofs.lemmas.Nat.{and_assoc}
use Rattle.std.proofs.Math.Bool.{and-false, and-true}
use Rattle.ata_taskfile.specs.declared.Reg.{Reg}
use Rattle.ata_taskfile.specs.declared.Reg.TheVariants as reg
use Rattle.ata_taskfile.specs.declared.Access.{Access}
use Rattle.ata_taskfile.specs.declared.Access.TheVariants as access
use Rattle.ata_taskfile.specs.declared.Wrote.TheVariants.{Stored, Ignored, Command}
use Rattle.ata_taskfile.specs.declared.task_file.TaskFile.{TaskFile}
use Rattle.ata_taskfile.specs.declared.bus_master.Bus.{Bus}
use Rattle.ata_taskfile.specs.declared.registers.TheConstants.{SRST, NIEN}
use Rattle.ata_taskfile.specs.TaskFile.{has_bit, is_ignored, line, stored, control_wrote, in_reset}
use Rattle.ata_taskfile.specs.Bus.{raised, status_written, command_written, pointer_written}
use Rattle.ata_taskfile.specs.Data.{is_wanted, phase_after_write}
use Rattle.ata_taskfile.specs.Access.{accessed}
use Rattle.ata_taskfile.specs.Device.{Device, after_write8, after_wrote, with_file, in_hand}
use Rattle.own_pio.specs.Named.{nien_of}
use Rattle.port_lease.specs.declared.view.View.{View}
use Rattle.port_lease.specs.Seen.{bus_beside}
use Rattle.guest_view.specs.Seen.{on_monitor_side, IsInStep}
use Rattle.guest_view.specs.View.{view_with_file, view_wrote, view_after, is_reset}
use Rattle.guest_view.specs.Drive.{acknowledged, nien_written, drive_after, drive_after_read, drive_after_write}

-- a rise of the drive's line is seen
raised-beside : (was now : Bool) (kept b : Bus)
    → bus_beside kept (raised was now b) ≡ raised was now (bus_beside kept b)
raised-beside was now kept b = grind arith

status-beside : (x : ℕ) (kept b : Bus)
    → bus_beside (status_written x kept) (status_written x b) ≡ status_written x (bus_beside kept b)
status-beside x kept b = grind arith

command-beside : (x : ℕ) (kept b : Bus)
    → bus_beside (command_written x kept) b ≡ command_written x (bus_beside kept b)
command-beside x kept b = grind arith

pointer-beside : (x : ℕ) (kept b : Bus)
    → bus_beside (pointer_written x kept) b ≡ pointer_written x (bus_beside kept b)
pointer-beside x kept b = grind arith

-- other registers of the view, while the drive's line goes as the view's does
pub file_beside : (v : View) (d e g : Device) (f : TaskFile) → line d.file ≡ line v.file → line e.file ≡ line f
    → e.bus ≡ raised (line d.file) (line e.file) d.bus
    → with_file f (on_monitor_side v d g) ≡ on_monitor_side (view_with_file f v) e g
file_beside v d e g f was now bus =
    ap (λ b. record g { file = f; bus = b })
    (sym (raised-beside (line v.file) (line f) v.bus d.bus)
    ∙ ap (λ l. bus_beside v.bus (raised l (line f) d.bus)) (sym was)
    ∙ ap (λ l. bus_beside v.bus (raised (line d.file) l d.bus)) (sym now)
    ∙ ap (bus_beside v.bus) (sym bus))

unraised : (was : Bool) (b : Bus) → raised was was b ≡ b
unraised true b = refl
unraised false b = refl

fallen : (was : Bool) (b : Bus) → raised was false b ≡ b
fallen true b = refl
fallen false b = refl

-- other registers of the view, which leave the line or let it fall, while the drive stays
file-alone : (v : View) (d g : Device) (f : TaskFile) → ((b : Bus) → raised (line v.file) (line f) b ≡ b)
    → with_file f (on_monitor_side v d g) ≡ on_monitor_side (view_with_file f v) d g
file-alone v d g f stays = ap (λ b. record g { file = f; bus = b }) (stays (bus_beside v.bus d.bus))

pub or_false : (p q : Bool) → (p || q) ≡ false → p ≡ false
or_false true q is = absurd cc
or_false false q is = refl

-- no line without an interrupt
pub none_high : (f : TaskFile) → f.pending ≡ false → line f ≡ false
none_high f p = rw p refl

-- the interrupt is acknowledged in the view, and in the drive where one pends for the guest
ended-line : (v : View) (d g : Device) (f : TaskFile) (p : Bool) → v.file.pending ≡ p → f.pending ≡ false
    → line d.file ≡ line v.file
    → with_file f (on_monitor_side v d g) ≡ on_monitor_side (view_with_file f v) (acknowledged p d) g
ended-line v d g f true e low same =
    file_beside v d (with_file (record d.file { pending = false }) d) g f same (sym (none_high f low)) refl
ended-line v d g f false e low same =
    let is = none_high f low in
    file-alone v d g f (λ b. ap (λ l. raised (line v.file) l b) is ∙ fallen (line v.file) b)

-- nIEN stays where HOB is cleared
pub masks : (c : ℕ) → has_bit NIEN (bit_and c 127) ≡ has_bit NIEN c
masks c = ap (λ n. not (n == 0)) (and_assoc 2 c 127)

-- and where Device Control is written
pub nien_kept : (x : ℕ) → has_bit NIEN (bit_and x 134) ≡ has_bit NIEN x
nien_kept x = ap (λ n. not (n == 0)) (and_assoc 2 x 134)

-- what reaches the drive as nIEN is that alone, and begins no reset
pub nien_alone : (m : Bool) → has_bit NIEN (bit_and (nien_of m) 134) ≡ m
nien_alone true = refl
nien_alone false = refl

pub nien_reached : (m : Bool) (d : Device) → after_write8 reg.Alternate (nien_of m) d
    ≡ with_file (record d.file { control = bit_and (nien_of m) 134 }) d
nien_reached true d = refl
nien_reached false d = refl

-- registers in which neither interrupt nor nIEN has changed
pub same_line : (f g : TaskFile) → f.pending ≡ g.pending → f.control ≡ bit_and g.control 127 → line f ≡ line g
same_line f g p c = ap (λ q. q && not (has_bit NIEN f.control)) p
    ∙ ap (λ n. g.pending && not (has_bit NIEN n)) c ∙ ap (λ b. g.pending && not b) (masks g.control)

-- the lines after nIEN came to both
pub same_nien : (v : View) (d : Device) (x : ℕ) → d.file.pending ≡ v.file.pending
    → line (record d.file { control = bit_and (nien_of (has_bit NIEN x)) 134 })
    ≡ line (record v.file { control = bit_and x 134 })
same_nien v d x pends =
    ap (λ p. p && not (has_bit NIEN (bit_and (nien_of (has_bit NIEN x)) 134))) pends
    ∙ ap (λ m. v.file.pending && not m) (nien_alone (has_bit NIEN x) ∙ sym (nien_kept x))

module _ (waits : Bool) (v : View) (d g : Device) (step : IsInStep waits v d) where
  -- a read of a register
  read-monitored : (r : Reg) → accessed (access.Read8 r) (on_monitor_side v d g)
      ≡ on_monitor_side (view_after (access.Read8 r) g.sectors v) (drive_after_read r v d) g
  read-monitored reg.Status =
      ended-line v d g (record v.file { pending = false }) v.file.pending refl refl step.line_same
  read-monitored reg.Error = file-alone v d g v.file (unraised (line v.file))
  read-monitored reg.Count = file-alone v d g v.file (unraised (line v.file))
  read-monitored reg.Low = file-alone v d g v.file (unraised (line v.file))
  read-monitored reg.Mid = file-alone v d g v.file (unraised (line v.file))
  read-monitored reg.High = file-alone v d g v.file (unraised (line v.file))
  read-monitored reg.Device = file-alone v d g v.file (unraised (line v.file))
  read-monitored reg.Alternate = file-alone v d g v.file (unraised (line v.file))
  read-monitored reg.BusCommand = file-alone v d g v.file (unraised (line v.file))
  read-monitored reg.BusStatus = file-alone v d g v.file (unraised (line v.file))

  -- a write to the command block that is no command
  plain-monitored : (ignored : Bool) (f : TaskFile) → line f ≡ line v.file
      → after_wrote (if ignored then Ignored else Stored) (if ignored then v.file else f) (on_monitor_side v d g)
      ≡ on_monitor_side (view_wrote (if ignored then Ignored else Stored) (if ignored then v.file else f) g.sectors v)
      d g
  plain-monitored true f same = refl
  plain-monitored false f same = file-alone v d g f
      (λ b. ap (λ l. raised (line v.file) l b) same ∙ unraised (line v.file) b)

  -- a write of Command
  command-monitored : (x : ℕ) (ignored : Bool)
      → after_wrote (if ignored then Ignored else Command x) (if ignored then v.file else stored reg.Status x v.file)
      (on_monitor_side v d g)
      ≡ on_monitor_side (view_wrote (if ignored then Ignored else Command x)
      (if ignored then v.file else stored reg.Status x v.file) g.sectors v)
      (acknowledged (v.file.pending && not ignored) d) g
  command-monitored x true = ap (λ b. on_monitor_side v (acknowledged b d) g) (sym (and-false v.file.pending))
  command-monitored x false =
      let f = in_hand x g.sectors (stored reg.Status x v.file) in
      ended-line v d g f v.file.pending refl refl step.line_same
      ∙ ap (λ b. on_monitor_side (view_with_file f v) (acknowledged b d) g) (sym (and-true v.file.pending))

  -- a write of Device Control that begins no reset
  control-monitored : (x : ℕ) (needed : Bool) → (v.file.pending || waits) ≡ needed
      → with_file (record v.file { control = bit_and x 134 }) (on_monitor_side v d g)
      ≡ on_monitor_side (view_with_file (record v.file { control = bit_and x 134 }) v) (nien_written needed x d) g
  control-monitored x true is =
      let f = record v.file { control = bit_and x 134 } in
      let h = record d.file { control = bit_and (nien_of (has_bit NIEN x)) 134 } in
      file_beside v d (with_file h d) g f step.line_same (same_nien v d x (step.pending is)) refl
      ∙ ap (λ e. on_monitor_side (view_with_file f v) e g) (sym (nien_reached (has_bit NIEN x) d))
  control-monitored x false is =
      let f = record v.file { control = bit_and x 134 } in
      let none = none_high f (or_false v.file.pending waits is) in
      file-alone v d g f (λ b. ap (λ l. raised (line v.file) l b) none ∙ fallen (line v.file) b)

  alternate-monitored : (x : ℕ) (held : Bool) → held ≡ false
      → after_wrote (if held then control_wrote v.file.phase else Stored)
      (if held then in_reset v.file.phase (record v.file { control = bit_and x 134 })
      else record v.file { control = bit_and x 134 }) (on_monitor_side v d g)
      ≡ on_monitor_side (view_wrote (if held then control_wrote v.file.phase else Stored)
      (if held then in_reset v.file.phase (record v.file { control = bit_and x 134 })
      else record v.file { control = bit_and x 134 }) g.sectors v) (nien_written (v.file.pending || waits) x d) g
  alternate-monitored x true is = absurd cc
  alternate-monitored x false is = control-monitored x (v.file.pending || waits) refl

  write-monitored : (r : Reg) (x : ℕ) → is_reset (access.Write8 r x) ≡ false
      → accessed (access.Write8 r x) (on_monitor_side v d g)
      ≡ on_monitor_side (view_after (access.Write8 r x) g.sectors v) (drive_after_write waits r x v d) g
  write-monitored reg.Error x is = plain-monitored (is_ignored reg.Error v.file) (stored reg.Error x v.file)
      (same_line (stored reg.Error x v.file) v.file refl refl)
  write-monitored reg.Count x is = plain-monitored (is_ignored reg.Count v.file) (stored reg.Count x v.file)
      (same_line (stored reg.Count x v.file) v.file refl refl)
  write-monitored reg.Low x is = plain-monitored (is_ignored reg.Low v.file) (stored reg.Low x v.file)
      (same_line (stored reg.Low x v.file) v.file refl refl)
  write-monitored reg.Mid x is = plain-monitored (is_ignored reg.Mid v.file) (stored reg.Mid x v.file)
      (same_line (stored reg.Mid x v.file) v.file refl refl)
  write-monitored reg.High x is = plain-monitored (is_ignored reg.High v.file) (stored reg.High x v.file)
      (same_line (stored reg.High x v.file) v.file refl refl)
  write-monitored reg.Device x is = plain-monitored (is_ignored reg.Device v.file) (stored reg.Device x v.file)
      (same_line (stored reg.Device x v.file) v.file refl refl)
  write-monitored reg.Status x is = command-monitored x (is_ignored reg.Status v.file)
  write-monitored reg.Alternate x is = alternate-monitored x (has_bit SRST x) is
  write-monitored reg.BusCommand x is =
      ap (λ b. record g { file = v.file; bus = b }) (sym (command-beside x v.bus d.bus))
  write-monitored reg.BusStatus x is =
      ap (λ b. record g { file = v.file; bus = b }) (sym (status-beside x v.bus d.bus))

  -- a write of Data, where no block is wanted
  data-monitored : (w : ℕ) (wanted : Bool) → wanted ≡ false
      → record g {
        file = record v.file { phase = phase_after_write v.file.phase };
        bus = bus_beside v.bus d.bus;
        block = if wanted then g.block ++ w ∷ [] else g.block;
      }
      ≡ on_monitor_side (view_after (access.WriteWord w) g.sectors v) d g
  data-monitored w true none = absurd cc
  data-monitored w false none = refl

-- an access to the device that the guest sees is the view's and the drive's
pub monitored : (waits : Bool) (v : View) (d g : Device) (a : Access) → IsInStep waits v d
    → is_wanted v.file.phase ≡ false → is_reset a ≡ false
    → accessed a (on_monitor_side v d g)
    ≡ on_monitor_side (view_after a g.sectors v) (drive_after waits v a d) g
monitored waits v d g (access.Read8 r) step none is = read-monitored waits v d g step r
monitored waits v d g (access.Write8 r x) step none is = write-monitored waits v d g step r x is
monitored waits v d g access.ReadWord step none is = refl
monitored waits v d g (access.WriteWord w) step none is =
    data-monitored waits v d g step w (is_wanted v.file.phase) none
monitored waits v d g access.ReadPointer step none is = refl
monitored waits v d g (access.WritePointer x) step none is =
    ap (λ b. record g { file = v.file; bus = b }) (sym (pointer-beside x v.bus d.bus))
monitored waits v d g access.Line step none is = refl
