-- The answer is the one that words, lengths and schedule owe, where nothing failed.
use Rattle.std.proofs.Common.{◌≡◌, ◌*◌, ◌/◌, ℕ, Bool, List, length, Option, Some, None, inl, inr, refl, sym, ap, subst, ◌∙◌, arith}
use Rattle.std.specs.Option.{IsSomeAnd}
use Rattle.std.specs.Prelude.{IsSome}
use Rattle.std.proofs.lemmas.Option.{none-some, same_Some}
use Rattle.bm_host.specs.declared.Role.TheVariants.{Image, Disk, Schedule}
use Rattle.bm_host.specs.Outside.{Outside, IfTold, Reads, Writes}
use Rattle.plain_drive.specs.Plain.{sectors_in}
use Rattle.fill_bitmap.specs.declared.area.Area.{Area}
use Rattle.fill_bitmap.specs.Disk.{has_header}
use Rattle.run_words.specs.Options.{Choice}
use Rattle.run_words.proofs.Once.{says_once}
use Rattle.schedule_text.specs.declared.Event.{Event}
use Rattle.schedule_text.specs.declared.LineFault.{LineFault}
use Rattle.bmcast.specs.Chosen.{Chooses}
use Rattle.bmcast.specs.Known.{IsRefused, IsTaken}
use Rattle.bmcast.specs.Lengths.{CanRun, Finds, Found, HasLength, IsFound, IsUnsuitable, area_in}
use Rattle.bmcast.specs.Owed.{Offers, IsOwed, AnswersWhatIsOwed, RunsOver, Schedules}
use Rattle.bmcast.specs.Run.{RunIsBad, RunIsDone}
use Rattle.bmcast.specs.Status.{HasItsCause, HasItsReason, OnBadLineStatus, OnDone}
use Rattle.bmcast.specs.Stop.{status_of}
use Rattle.bmcast.specs.declared.Why.{Why}
use Rattle.bmcast.specs.declared.stop.Stop.{Stop}
use Rattle.bmcast.specs.declared.stop.Stop.TheVariants as stop
use Rattle.bmcast.specs.declared.Status.{Status}
use Rattle.bmcast.specs.declared.Status.TheVariants as status
use Rattle.bmcast.proofs.KnownOnce.{none_refused, refused_once}

-- a fact of what is told, and one of a role that is told
both_told : {R : Type 0} (o : Option (List ℕ)) (P Q : List ℕ → Type 0) → ((x : List ℕ) → P x → Q x → R)
    → IfTold o P → IsSomeAnd o Q → R
both_told None P Q joined p q = absurd q
both_told (Some x) P Q joined p q = joined x p q

-- a role that is told has one length
one_length : (told : Option (List ℕ)) (m n : ℕ) → IsSome told → IfTold told (λ bytes. length bytes ≡ m)
    → IfTold told (λ bytes. length bytes ≡ n) → m ≡ n
one_length None m n there one other = absurd cc
one_length (Some bytes) m n there one other = sym one ∙ other

-- and one header, or none
one_begun : (told : Option (List ℕ)) (shows : List ℕ → Bool) (a b : Bool) → IsSome told
    → IfTold told (λ bytes. a ≡ shows bytes) → IfTold told (λ bytes. b ≡ shows bytes) → a ≡ b
one_begun None shows a b there one other = absurd cc
one_begun (Some bytes) shows a b there one other = one ∙ sym other

-- so one thing is found in image and disk that are told
found_once : (choice : Choice) (o : Outside) (a b : Found) → IsSome (o.told Image) → IsSome (o.told Disk)
    → IsFound choice o a → IsFound choice o b → a ≡ b
found_once choice o a b there_image there_disk one other =
    let image : a.image ≡ b.image = one_length (o.told Image) a.image b.image there_image one.image other.image in
    let disk : a.disk ≡ b.disk = one_length (o.told Disk) a.disk b.disk there_disk one.disk other.disk in
    let area : area_in choice b ≡ area_in choice a = rw (image, disk) refl in
    let begun : a.begun ≡ b.begun = one_begun (o.told Disk)
    (λ bytes. has_header (area_in choice a) choice.id (sectors_in (area_in choice a).sectors bytes))
    a.begun b.begun there_disk one.begun
    (subst (λ (area : Area). IfTold (o.told Disk)
    (λ bytes. b.begun ≡ has_header area choice.id (sectors_in area.sectors bytes))) area other.begun) in
    grind (arith, image, disk, begun)

-- two facts of what is found
both_found : {R : Type 0} (words : List (List ℕ)) (o : Outside) (P Q : Choice → Found → Type 0)
    → ((choice : Choice) (found : Found) → P choice found → Q choice found → R) → Chooses words o P
    → Offers words o Q → R
both_found words o P Q joined chosen offered =
    let choice = offered.chooses.choice in
    let one = subst (λ (c : Choice). Finds c o (P c))
    (says_once words chosen.choice choice chosen.says offered.chooses.says) chosen.holds in
    let other = offered.chooses.holds in
    joined choice other.found
    (subst (P choice) (found_once choice o one.found other.found offered.image offered.disk one.is other.is) one.holds)
    other.holds

-- files that are refused are refused for one reason, and no run can stand on them
refused_run : {R : Type 0} (why : Why) (choice : Choice) (found : Found) → IsUnsuitable why choice found
    → CanRun choice found → R
refused_run why choice found refused can = absurd (none-some why (sym can ∙ refused))

-- what a schedule owes over the image that was found, it owes over the one that was run
module _ (words : List (List ℕ)) (old : Outside) (image : ℕ) (long : HasLength Image old (512 * image)) where
  schedule_owed : (P : ℕ → List ℕ → List Event → Type 0) → Offers words old (RunsOver old P) → Schedules old image P
  schedule_owed P is =
      let found = is.chooses.holds.found in
      let same : 512 * image ≡ found.image
      = one_length (old.told Image) (512 * image) found.image is.image long is.chooses.holds.is.image in
      let sectors : found.image / 512 ≡ image = omega (arith, same) in
      subst (λ n. Schedules old n P) sectors is.chooses.holds.holds.1

-- the answer is Usage: no words choose a run
usage_owed : (words : List (List ℕ)) (old : Outside) (owed : Status) → HasItsReason status.Usage words old
    → IsOwed owed words old → status.Usage ≡ owed
usage_owed words old status.Usage none is = refl
usage_owed words old (status.Unsuitable reason) none is = absurd (none is.chooses.choice is.chooses.says)
usage_owed words old (status.BadLine n kind) none is = absurd (none is.chooses.choice is.chooses.says)
usage_owed words old status.Done none is = absurd (none is.chooses.choice is.chooses.says)
usage_owed words old never none is = absurd is

-- the answer is that image and disk are unsuitable
unsuitable_owed : (words : List (List ℕ)) (old : Outside) (why : Why) (owed : Status)
    → HasItsReason (status.Unsuitable why) words old
    → IsOwed owed words old → status.Unsuitable why ≡ owed
unsuitable_owed words old why status.Usage reason is = absurd (is reason.choice reason.says)
unsuitable_owed words old why (status.Unsuitable other) reason is =
    ap (λ w. status.Unsuitable w)
    (both_found words old _ _ (λ choice found one another. same_Some why other (sym one ∙ another)) reason is)
unsuitable_owed words old why (status.BadLine n kind) reason is =
    both_found words old _ _ (λ choice found refused runs. refused_run why choice found refused runs.0) reason is
unsuitable_owed words old why status.Done reason is =
    both_found words old _ _ (λ choice found refused runs. refused_run why choice found refused runs.0) reason is
unsuitable_owed words old why never reason is = absurd is

-- words and files are good, and so is what the schedule owes
runs_owed : (words : List (List ℕ)) (old : Outside) (image : ℕ) (answer owed : Status) → Chooses words old CanRun
    → HasLength Image old (512 * image)
    → ((n : ℕ) (kind : LineFault) → Schedules old image (λ i text events. IsRefused i text events n kind)
    → answer ≡ status.BadLine n kind)
    → (Schedules old image IsTaken → answer ≡ status.Done)
    → IsOwed owed words old → answer ≡ owed
runs_owed words old image answer status.Usage can long bad done is = absurd (is can.choice can.says)
runs_owed words old image answer (status.Unsuitable why) can long bad done is =
    both_found words old _ _ (λ choice found good refused. refused_run why choice found refused good) can is
runs_owed words old image answer (status.BadLine n kind) can long bad done is =
    bad n kind (schedule_owed words old image long (λ i text events. IsRefused i text events n kind) is)
runs_owed words old image answer status.Done can long bad done is =
    done (schedule_owed words old image long IsTaken is)
runs_owed words old image answer never can long bad done is = absurd is

-- the first line that is refused of a schedule that has one is the one that was found
bad_line_found : (words : List (List ℕ)) (old new : Outside) (n : ℕ) (kind : LineFault) (owed : Status)
    → Chooses words old CanRun → RunIsBad words old new n kind → IsOwed owed words old → status.BadLine n kind ≡ owed
bad_line_found words old new n kind owed can bad is =
    let was = bad.holds.was in
    runs_owed words old was.image (status.BadLine n kind) owed can was.image_length
    (λ m other there. both_told (old.told Schedule) _ _
    (λ text found fails.
    let same = refused_once was.image text _ _ n m kind other found fails.1 in
    ap (λ k. status.BadLine k kind) same.0 ∙ ap (λ f. status.BadLine m f) same.1)
    bad.holds.schedule there)
    (λ there. absurd (both_told (old.told Schedule) _ _
    (λ text found whole. none_refused was.image text whole.0 _ n kind whole.1 found) bad.holds.schedule there))
    is

-- a whole schedule is done
whole_done : (words : List (List ℕ)) (old new : Outside) (owed : Status) → Chooses words old CanRun
    → RunIsDone words old new → IsOwed owed words old → status.Done ≡ owed
whole_done words old new owed can done is =
    let was = done.holds.was in
    runs_owed words old was.image status.Done owed can was.image_length
    (λ n kind there. absurd (both_told (old.told Schedule) _ _
    (λ text whole fails. none_refused was.image text _ fails.0 n kind whole fails.1) done.holds.schedule there))
    (λ there. refl)
    is

-- where no count rose the answer is the one that is owed, or want of memory
pub owed_answer : (words : List (List ℕ)) (old new : Outside) (answer : Status) → HasItsReason answer words old
    → OnBadLineStatus answer (RunIsBad words old new) → OnDone answer (RunIsDone words old new)
    → HasItsCause answer old new → AnswersWhatIsOwed answer words old new
owed_answer words old new status.Usage reason bad done cause owed is none = inl (usage_owed words old owed reason is)
owed_answer words old new (status.Unsuitable why) reason bad done cause owed is none =
    inl (unsuitable_owed words old why owed reason is)
owed_answer words old new (status.BadLine n kind) reason bad done cause owed is none =
    inl (bad_line_found words old new n kind owed reason bad is)
owed_answer words old new status.Done reason bad done cause owed is none =
    inl (whole_done words old new owed reason done is)
owed_answer words old new (status.ReadFault role) reason bad done cause owed is none =
    absurd (none Reads role cause.rose)
owed_answer words old new (status.WriteFault role) reason bad done cause owed is none =
    absurd (none Writes role cause.rose)
owed_answer words old new status.NoMemory reason bad done cause owed is none = inr refl

-- the same of a run that stopped
pub owed_stop : (words : List (List ℕ)) (old new : Outside) (why : Stop) → HasItsReason (status_of why) words old
    → OnBadLineStatus (status_of why) (RunIsBad words old new)
    → HasItsCause (status_of why) old new → AnswersWhatIsOwed (status_of why) words old new
owed_stop words old new (stop.BadLine n kind) reason bad cause = owed_answer words old new
    (status.BadLine n kind) reason bad tt cause
owed_stop words old new other reason bad cause = owed_answer words old new (status_of other) reason tt tt cause
