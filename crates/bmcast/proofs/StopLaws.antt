-- What several calls owe of the outside, one after the other.
use Rattle.std.proofs.Common.{◌≡◌, ◌≢◌, ◌≤◌, ◌⊎◌, ◌++◌, ℕ, List, inl, inr, refl, sym, subst, ◌∙◌, arith}
use Rattle.std.specs.Prelude.{IfErr, Result, Ok, Err}
use Rattle.schedule_text.specs.declared.LineFault.{LineFault}
use Rattle.bm_host.specs.declared.Role.{Role}
use Rattle.bm_host.specs.Outside.{Outside, SameElsewhere, SameCounts, Rose, Reads, Writes, Becomes, AppendsPrefix}
use Rattle.bm_host.specs.declared.Role.TheVariants.{Image, Disk, Schedule, Report, Out, Console}
use Rattle.bm_host.proofs.OutsideLaws.{same_counts_trans, only_rose_after, same_role}
use Rattle.bmcast.specs.declared.stop.Stop.{Stop}
use Rattle.bmcast.specs.declared.stop.Stop.TheVariants as stop
use Rattle.bmcast.specs.Stop.{IsCounted, Stopped, OnBadLine, UnlessFault, status_after, status_of}
use Rattle.bmcast.specs.Status.{OnlyConsole, HasItsCause, ConsoleSays, OnBadLineStatus, UnlessDone}
use Rattle.bmcast.specs.Files.{IsLeft, IsRead, LeavesFiles}
use Rattle.bmcast.specs.Stages.{StopsAt, playing, writing_out}
use Rattle.bmcast.specs.Kept.{SameConsole}
use Rattle.bmcast.specs.declared.Status.{Status}
use Rattle.bmcast.specs.declared.Status.TheVariants as status

-- a stop after calls that raised no count
pub stopped_after : (a b c : Outside) (why : Stop) → SameCounts a b → Stopped why b c → Stopped why a c
stopped_after a b c (stop.ReadFault role) same then = only_rose_after Reads role a b c same then
stopped_after a b c (stop.WriteFault role) same then = only_rose_after Writes role a b c same then
stopped_after a b c other same then = same_counts_trans a b c same then

pub counted_after : {T : Type 0} (a b c : Outside) (result : Result T Stop) → SameCounts a b → IsCounted result b c
    → IsCounted result a c
counted_after a b c (Ok x) same then = same_counts_trans a b c same then
counted_after a b c (Err why) same then = stopped_after a b c why same then

-- calls that raised no count, and then Console
console_after : (a b c : Outside) → SameCounts a b → OnlyConsole b c → OnlyConsole a c
console_after a b c same then = record {
  reads = λ role. then.reads role ∙ same.reads role;
  writes = λ role other. then.writes role other ∙ same.writes role;
  console = subst (λ n. n ≤ c.write_faults Console) (same.writes Console) then.console;
}

-- a count that rose and one that didn't fall
rose_on : (a b c : ℕ) → Rose a b → b ≤ c → Rose a c
rose_on a b c rose kept = let k = rose.kept in let m = rose.more in record { kept = omega arith; more = omega arith }

-- Console's write count, or another role's, didn't fall
console_kept : (role : Role) (b c : Outside) → OnlyConsole b c → (role ≡ Console) ⊎ (role ≢ Console)
    → b.write_faults role ≤ c.write_faults role
console_kept role b c then (inl console) = subst (λ r. b.write_faults r ≤ c.write_faults r) (sym console) then.console
console_kept role b c then (inr other) = let same = then.writes role other in omega arith

-- Console's write count doesn't fall until a run stops
console_until : (why : Stop) (a b : Outside) → Stopped why a b → a.write_faults Console ≤ b.write_faults Console
console_until (stop.ReadFault role) a b rose = let e = rose.other_side Console in omega arith
console_until (stop.WriteFault role) a b rose = elim (same_role Console role) [
  | inl same ↦ subst (λ r. a.write_faults r ≤ b.write_faults r) (sym same) rose.rose.kept
  | inr other ↦ let e = rose.other_roles Console other in omega arith
]
console_until other a b same = let e = same.writes Console in omega arith

-- what a stop owes, and then Console, is what its status owes
pub caused : (a b c : Outside) (why : Stop) → Stopped why a b → OnlyConsole b c → HasItsCause (status_of why) a c
caused a b c (stop.ReadFault role) rose then = record {
  rose = subst (λ n. Rose (a.read_faults role) n) (sym (then.reads role)) rose.rose;
  reads = λ r other. then.reads r ∙ rose.other_roles r other;
  writes = λ r other. then.writes r other ∙ rose.other_side r;
  console = subst (λ n. n ≤ c.write_faults Console) (rose.other_side Console) then.console;
}
caused a b c (stop.WriteFault role) rose then = record {
  rose = rose_on (a.write_faults role) (b.write_faults role) (c.write_faults role) rose.rose
      (console_kept role b c then (same_role role Console));
  reads = λ r. then.reads r ∙ rose.other_side r;
  writes = λ r other no_console. then.writes r no_console ∙ rose.other_roles r other;
  console = let kept = console_until (stop.WriteFault role) a b rose in let more = then.console in omega arith;
}
caused a b c other same then = console_after a b c same then

-- a fact of a bad line gives another
pub bad_line_weaker : {T : Type 0} (result : Result T Stop) (P Q : ℕ → LineFault → Type 0)
    → ((n : ℕ) (kind : LineFault) → P n kind → Q n kind) → OnBadLine result P → OnBadLine result Q
bad_line_weaker (Err (stop.BadLine n kind)) P Q step p = step n kind p
bad_line_weaker other P Q step p = tt

-- two facts of a bad line give a third
pub bad_line_both : {T : Type 0} (result : Result T Stop) (P Q R : ℕ → LineFault → Type 0)
    → ((n : ℕ) (kind : LineFault) → P n kind → Q n kind → R n kind) → OnBadLine result P → OnBadLine result Q
    → OnBadLine result R
bad_line_both (Err (stop.BadLine n kind)) P Q R step p q = step n kind p q
bad_line_both other P Q R step p q = tt

-- a fact of a bad line, from another and what holds unless there is a fault
pub bad_line_from : {T : Type 0} (result : Result T Stop) (S : Type 0) (P Q : ℕ → LineFault → Type 0)
    → ((n : ℕ) (kind : LineFault) → S → P n kind → Q n kind) → UnlessFault result S → OnBadLine result P
    → OnBadLine result Q
bad_line_from (Err (stop.BadLine n kind)) S P Q step s p = step n kind s p
bad_line_from other S P Q step s p = tt

-- a fact for every status but Done, where it holds of all
pub unless_done : (s : Status) {P : Type 0} → P → UnlessDone s P
unless_done status.Done p = tt
unless_done other p = p

-- what was told on Console after a run stopped was told since the run began
pub told_since : (text : List ℕ) (a b c : Outside) (why : Stop) → Stopped why a b → SameConsole a b
    → ConsoleSays text b c → ConsoleSays text a c
told_since text a b c why stopped same (inl all) =
    inl (subst (λ o. Becomes (λ before after. after ≡ before ++ text) o (c.told Console)) same all)
told_since text a b c why stopped same (inr part) =
    let kept = console_until why a b stopped in
    let rose = part.0.kept in
    let more = part.0.more in
    inr (
      record { kept = omega arith; more = omega arith },
      subst
          (λ o. Becomes (AppendsPrefix text) o (c.told Console)) same part.1,
    )

-- a fact of a bad line is one of its status
pub bad_line_status : (T : Type 0) (why : Stop) (P Q : ℕ → LineFault → Type 0)
    → ((n : ℕ) (kind : LineFault) → P n kind → Q n kind)
    → OnBadLine {T = T} (Err why) P → OnBadLineStatus (status_of why) Q
bad_line_status T (stop.BadLine n kind) P Q step p = step n kind p
bad_line_status T other P Q step p = tt

-- a run that stopped leaves no hold on Console
console_not_left : (why : Stop) → IsLeft (status_of why) Console → ⊥
console_not_left stop.Usage left = left refl
console_not_left (stop.Unsuitable reason) left = left refl
console_not_left (stop.ReadFault role) left = left.0
console_not_left other left = left

-- what a run that stopped left is left when that was told on Console
pub left_and_told : (a b c : Outside) (why : Stop) → LeavesFiles (status_of why) a b → SameElsewhere Console b c
    → LeavesFiles (status_of why) a c
left_and_told a b c why left told role is =
    told.told role (λ e. console_not_left why (subst (λ r. IsLeft (status_of why) r) e is)) ∙ left role is

-- a role that a run only reads is none that it writes
unwritten : (role : Role) → IsRead role → (role ≢ Report) × (role ≢ Out)
unwritten Image read = (λ is. cc, λ is. cc)
unwritten Disk read = (λ is. cc, λ is. cc)
unwritten Schedule read = (λ is. cc, λ is. cc)
unwritten Report read = absurd read
unwritten Out read = absurd read
unwritten Console read = absurd read

-- a stop while the schedule is played says nothing of the roles that are written
pub left_at_play : (why : Stop) → StopsAt playing why → (role : Role) → IsLeft (status_of why) role
    → (role ≢ Report) × (role ≢ Out)
left_at_play (stop.ReadFault failed) stops role left = unwritten role left.0
left_at_play (stop.WriteFault failed) stops role left = unwritten role left
left_at_play (stop.BadLine number fault) stops role left = unwritten role left
left_at_play stop.NoMemory stops role left = absurd stops
left_at_play stop.Usage stops role left = absurd stops
left_at_play (stop.Unsuitable why) stops role left = absurd stops

-- nor does the end of a run
pub left_at_end : {T : Type 0} (result : Result T Stop) → IfErr result (StopsAt writing_out) → (role : Role)
    → IsLeft (status_after result) role → (role ≢ Report) × (role ≢ Out)
left_at_end (Ok x) stops role left = left
left_at_end (Err (stop.WriteFault failed)) stops role left = unwritten role left
left_at_end (Err (stop.ReadFault failed)) stops role left = absurd stops
left_at_end (Err (stop.BadLine number fault)) stops role left = absurd stops
left_at_end (Err stop.NoMemory) stops role left = absurd stops
left_at_end (Err stop.Usage) stops role left = absurd stops
left_at_end (Err (stop.Unsuitable why)) stops role left = absurd stops
