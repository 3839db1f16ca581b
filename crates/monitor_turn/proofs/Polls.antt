-- What a poll of an own command says of the drive.
use Rattle.std.proofs.Common.{◌≡◌, ◌⊎◌, ◌≤◌, ◌<◌, ℕ, Bool, true, false, if◌then◌else◌, inl, inr, refl, sym, ap, ◌∙◌, arith}
use Rattle.ata_taskfile.specs.declared.registers.TheConstants.{BSY, DEV, DRQ, ERR}
use Rattle.ata_taskfile.specs.declared.Phase.{Phase}
use Rattle.ata_taskfile.specs.declared.Phase.TheVariants.{Reset, Idle, Busy, Ready}
use Rattle.ata_taskfile.specs.TaskFile.{has_bit, status, status_in}
use Rattle.ata_taskfile.specs.Lawful.{is_just_taken}
use Rattle.ata_taskfile.specs.Device.{Device}
use Rattle.own_pio.specs.declared.job.OwnJob.{OwnJob}
use Rattle.own_pio.specs.declared.own.Own.{Own}
use Rattle.own_pio.specs.declared.Poll.{Poll}
use Rattle.own_pio.specs.declared.Poll.TheVariants.{Waiting, Moved, Done, Failed}
use Rattle.own_pio.specs.Job.{polls_of}
use Rattle.own_pio.specs.Own.{done_of, job_of, polls_left}
use Rattle.own_pio.specs.Poll.{answer_of, goes_on, is_last, left_after}
use Rattle.own_pio.specs.Running.{IsRunning, StandsIn}

-- the command goes on behind these answers
pub goes : (poll : Poll) → (poll ≡ Waiting) ⊎ (poll ≡ Moved) → goes_on poll ≡ true
goes poll (inl waits) = ap goes_on waits
goes poll (inr moved) = ap goes_on moved

-- what a poll answers, by BSY, ERR and DRQ, and by whether the block is the last
abbrev answer_by : Bool → Bool → Bool → Bool → Poll
answer_by busy err drq last =
    if busy then Waiting else if err then Failed else if drq then (if last then Done else Moved) else Done

waits_busy : (busy err drq last : Bool) → Waiting ≡ answer_by busy err drq last → busy ≡ true
waits_busy true err drq last is = refl
waits_busy false true drq last is = absurd cc
waits_busy false false true true is = absurd cc
waits_busy false false true false is = absurd cc
waits_busy false false false last is = absurd cc

-- a drive that has just taken an own command has moved nothing of it
taken_new : (phase : Phase) (failed : Bool) (job : OwnJob) (done sectors : ℕ)
    → StandsIn phase failed job done sectors → is_just_taken phase ≡ true → done ≡ 0
taken_new Reset failed job done sectors stands just = absurd stands
taken_new Idle failed job done sectors stands just = absurd cc
taken_new (Busy order position) failed job done sectors stands just = grind (arith, stands.position_is, just)
taken_new (Ready order position left) failed job done sectors stands just = absurd cc

-- and one that is at work on it without a block moved has just taken it
busy_taken : (phase : Phase) (failed absent : Bool) (job : OwnJob) (done sectors : ℕ) → done ≡ 0
    → StandsIn phase failed job done sectors → has_bit BSY (if absent then 0 else status_in phase failed) ≡ true
    → is_just_taken phase ≡ true
busy_taken Reset failed absent job done sectors none stands busy = absurd stands
busy_taken Idle failed true job done sectors none stands busy = absurd cc
busy_taken Idle true false job done sectors none stands busy = absurd cc
busy_taken Idle false false job done sectors none stands busy = absurd cc
busy_taken (Busy order position) failed absent job done sectors none stands busy =
    grind (arith, stands.position_is, none)
busy_taken (Ready order position left) failed true job done sectors none stands busy = absurd cc
busy_taken (Ready order position left) failed false job done sectors none stands busy = absurd cc

-- a poll after which the command goes on leaves a drive that has just taken it only where it had before
pub taken_before : (poll : Poll) (own left : Own) (d e : Device) → goes_on poll ≡ true → 0 < polls_left own
    → poll ≡ answer_of (job_of own) (polls_left own) d.file → job_of left ≡ job_of own
    → polls_left left ≡ left_after poll (polls_left own) → IsRunning (job_of own) (done_of own) d
    → IsRunning (job_of left) (done_of left) e → is_just_taken e.file.phase ≡ true
    → is_just_taken d.file.phase ≡ true
taken_before Waiting own left d e goes some answer job polls before after just =
    let none : done_of left ≡ 0 =
    taken_new e.file.phase e.file.failed (job_of left) (done_of left) e.sectors after.stands just in
    let alike : done_of left ≡ done_of own = cc in
    let same : done_of own ≡ 0 = sym alike ∙ none in
    busy_taken d.file.phase d.file.failed (has_bit DEV d.file.device) (job_of own) (done_of own) d.sectors same
    before.stands
    (waits_busy (has_bit BSY (status d.file)) (has_bit ERR (status d.file)) (has_bit DRQ (status d.file))
    (is_last (job_of own) (polls_left own)) answer)
taken_before Moved own left d e goes some answer job polls before after just =
    let none : done_of left ≡ 0 =
    taken_new e.file.phase e.file.failed (job_of left) (done_of left) e.sectors after.stands just in
    let within : polls_left own ≤ polls_of (job_of own) = own.within in
    let same : polls_of (job_of left) ≡ polls_of (job_of own) = ap polls_of job in
    absurd (omega (arith, none, within, same, polls, some))
taken_before Done own left d e goes some answer job polls before after just = absurd cc
taken_before Failed own left d e goes some answer job polls before after just = absurd cc
