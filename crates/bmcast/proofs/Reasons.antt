-- Why a run ends, and how far it has come: of the words, of the lengths, and in which order.
use Rattle.std.proofs.Common.{◌⊎◌, ℕ, List, inl, inr, sym, ◌∙◌}
use Rattle.std.specs.Prelude.{Result, Ok, Err, IfErr}
use Rattle.bm_host.specs.declared.Role.TheVariants.{Image, Disk, Schedule, Report, Out, Console}
use Rattle.bm_host.specs.Outside.{Outside, SameElsewhere}
use Rattle.run_words.specs.Options.{Choice, Says}
use Rattle.schedule_text.specs.declared.LineFault.{LineFault}
use Rattle.bmcast.specs.declared.stop.Stop.{Stop}
use Rattle.bmcast.specs.declared.stop.Stop.TheVariants as stop
use Rattle.bmcast.specs.declared.Status.{Status}
use Rattle.bmcast.specs.declared.Status.TheVariants as status
use Rattle.bmcast.specs.Stop.{OnBadLine, status_after, status_of}
use Rattle.bmcast.specs.Stages.{IsEarly, IsLate, StopsAt, measuring}
use Rattle.bmcast.specs.Chosen.{Chooses}
use Rattle.bmcast.specs.Files.{IsOpened, IsUnopened}
use Rattle.bmcast.specs.Lengths.{CanRun, Finds}
use Rattle.bmcast.specs.Status.{BeforeEvents, HasCome, HasItsReason}
use Rattle.block_writes.proofs.Told.{IfTold-same}

-- the header stops a run as lengths do
early_measured : (choice : Choice) (o : Outside) (why : Stop) → IsEarly choice o why → StopsAt (measuring choice o) why
early_measured choice o why (inl early) = early
early_measured choice o (stop.Unsuitable reason) (inr early) = early
early_measured choice o (stop.ReadFault Disk) (inr early) = early
early_measured choice o other (inr early) = absurd early

-- words that choose a run stop early for image and disk alone
pub early_reason : (words : List (List ℕ)) (o : Outside) (choice : Choice) (why : Stop) → Says words choice
    → IsEarly choice o why → HasItsReason (status_of why) words o
early_reason words o choice why says early = measured_reason why (early_measured choice o why early)
  where
    measured_reason : (why : Stop) → StopsAt (measuring choice o) why → HasItsReason (status_of why) words o
    measured_reason (stop.Unsuitable reason) early = record { choice = choice; says = says; holds = early }
    measured_reason (stop.ReadFault Image) early = record { choice = choice; says = says; holds = tt }
    measured_reason (stop.ReadFault Disk) early = record { choice = choice; says = says; holds = tt }
    measured_reason late early = absurd early

-- an early stop is no bad line
pub early_no_bad_line : (T : Type 0) (choice : Choice) (o : Outside) (why : Stop) (P : ℕ → LineFault → Type 0)
    → IsEarly choice o why → OnBadLine {T = T} (Err why) P
early_no_bad_line T choice o (stop.BadLine number fault) P early =
    absurd (early_measured choice o (stop.BadLine number fault) early)
early_no_bad_line T choice o other P early = tt

-- and comes before Report and Out are opened
pub early_come : (words : List (List ℕ)) (old new : Outside) (choice : Choice) (o : Outside) (why : Stop)
    → IsEarly choice o why → IsUnopened old new → HasCome (status_of why) words old new
early_come words old new choice o why early unopened = measured_come why (early_measured choice o why early)
  where
    measured_come : (why : Stop) → StopsAt (measuring choice o) why → HasCome (status_of why) words old new
    measured_come (stop.Unsuitable reason) early = unopened
    measured_come (stop.ReadFault Image) early = inl unopened
    measured_come (stop.ReadFault Disk) early = inl unopened
    measured_come late early = absurd early

-- a stop of no stage
never : ⊥ ⊎ (⊥ ⊎ (⊥ ⊎ ⊥)) → ⊥
never (inl none) = none
never (inr (inl none)) = none
never (inr (inr (inl none))) = none
never (inr (inr (inr none))) = none

-- words and lengths that a run can stand on lead to these ends alone
pub late_reason : {T : Type 0} (words : List (List ℕ)) (o : Outside) (choice : Choice) (result : Result T Stop)
    → Says words choice
    → Finds choice o (CanRun choice) → IfErr result IsLate → HasItsReason (status_after result) words o
late_reason words o choice (Ok x) says can late = record { choice = choice; says = says; holds = can }
late_reason words o choice (Err stop.NoMemory) says can late = record { choice = choice; says = says; holds = can }
late_reason words o choice (Err (stop.BadLine number kind)) says can late =
    record { choice = choice; says = says; holds = can }
late_reason words o choice (Err (stop.ReadFault Schedule)) says can late =
    record { choice = choice; says = says; holds = can }
late_reason words o choice (Err (stop.ReadFault Disk)) says can late =
    record { choice = choice; says = says; holds = tt }
late_reason words o choice (Err (stop.ReadFault Image)) says can late =
    record { choice = choice; says = says; holds = tt }
late_reason words o choice (Err (stop.WriteFault Report)) says can late =
    record { choice = choice; says = says; holds = can }
late_reason words o choice (Err (stop.WriteFault Out)) says can late =
    record { choice = choice; says = says; holds = can }
late_reason words o choice (Err early) says can late = absurd (never late)

-- want of memory and a fault of the disk come then where the files are open and no event is read
pub late_come : {T : Type 0} (words : List (List ℕ)) (old new : Outside) (result : Result T Stop)
    → Chooses words old CanRun → IfErr result IsLate → BeforeEvents (status_after result) (IsOpened new)
    → HasCome (status_after result) words old new
late_come words old new (Ok x) can late opened = tt
late_come words old new (Err stop.NoMemory) can late opened = opened
late_come words old new (Err (stop.ReadFault Disk)) can late opened = inr (opened, can)
late_come words old new (Err (stop.ReadFault Image)) can late opened = inr can
late_come words old new (Err stop.Usage) can late opened = absurd (never late)
late_come words old new (Err (stop.Unsuitable reason)) can late opened = absurd (never late)
late_come words old new (Err other) can late opened = tt

-- the same after the line on Console
module _ (words : List (List ℕ)) (a b c : Outside) (told : SameElsewhere Console b c) where
  unopened_told : IsUnopened a b → IsUnopened a c
  unopened_told was = record {
    given = told.given Schedule (λ e. cc) ∙ was.given;
    report = told.told Report (λ e. cc) ∙ was.report;
    out = told.told Out (λ e. cc) ∙ was.out;
  }

  opened_told : IsOpened b → IsOpened c
  opened_told was = record {
    given = told.given Schedule (λ e. cc) ∙ was.given;
    report = IfTold-same _ (sym (told.told Report (λ e. cc))) was.report;
    out = IfTold-same _ (sym (told.told Out (λ e. cc))) was.out;
  }

  pub come_and_told : (s : Status) → HasCome s words a b → HasCome s words a c
  come_and_told status.Usage come = unopened_told come
  come_and_told (status.Unsuitable reason) come = unopened_told come
  come_and_told (status.ReadFault Image) (inl was) = inl (unopened_told was)
  come_and_told (status.ReadFault Image) (inr can) = inr can
  come_and_told (status.ReadFault Disk) (inl was) = inl (unopened_told was)
  come_and_told (status.ReadFault Disk) (inr was) = inr (opened_told was.0, was.1)
  come_and_told status.NoMemory come = opened_told come
  come_and_told other come = tt
