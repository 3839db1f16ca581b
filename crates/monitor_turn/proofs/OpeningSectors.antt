-- The sectors that the guest gets, while an opening goes on and where it ends.
use Rattle.std.proofs.Common.{◌≡◌, ◌≤◌, ◌*◌, ℕ, List, length, sym, subst, arith}
use Rattle.std.proofs.lemmas.List.{length-take-le}
use Rattle.ata_taskfile.specs.Device.{Device}
use Rattle.ata_taskfile.specs.Sectors.{IsSector}
use Rattle.own_pio.specs.declared.job.OwnJob.{OwnJob}
use Rattle.own_pio.specs.declared.job.OwnJob.TheVariants.{Read, Write, Flush}
use Rattle.own_pio.specs.declared.own.Own.{Own}
use Rattle.own_pio.specs.Job.{count_of, polls_of}
use Rattle.own_pio.specs.Own.{done_of, job_of, polls_left}
use Rattle.own_pio.specs.Kept.{IsDoneSoFar}
use Rattle.fill_bitmap.specs.declared.area.Area.{Area}
use Rattle.fill_store.specs.Sectors.{IsOnKept}
use Rattle.port_lease.specs.declared.monitor_side.MonitorSide.{MonitorSide}
use Rattle.monitor_state.specs.declared.state.State.TheVariants.{Monitor, Running}
use Rattle.monitor_state.specs.declared.state.Purpose.TheVariants as purpose
use Rattle.monitor_state.specs.declared.parts.Parts.{Parts}
use Rattle.monitor_state.specs.Overlaid.{OpeningGoesOn, job_bytes}

-- a job on the sectors that the monitor keeps moves one sector at most
kept_few : (area : Area) (job : OwnJob) → IsOnKept area job → count_of job ≤ 1
kept_few area (Read first count) kept = omega (arith, kept.1)
kept_few area (Write first count) kept = omega (arith, kept.1)
kept_few area Flush kept = omega arith

-- a sector has the bytes of such a job
job_room : (job : OwnJob) (sector : List ℕ) → count_of job ≤ 1 → length sector ≡ 512
    → length (job_bytes job sector) ≡ 512 * count_of job
job_room job sector few size = length-take-le (512 * count_of job) sector (omega (arith, few, size))

-- the opening's next command has begun, over the sectors as they are
pub begun_sectors : (side after : MonitorSide) (own : Own) (job : OwnJob) (p : Parts) (d e : Device)
    → IsOnKept p.opening.area job → IsSector p.sector → job_of own ≡ job → polls_left own ≡ polls_of job
    → ((bytes : List ℕ) → IsDoneSoFar job 0 bytes bytes d.cells e)
    → OpeningGoesOn (Monitor side) p d (Running after own purpose.Opening) p e
begun_sectors side after own job p d e kept whole job_is left done closed k plain has =
    let none : done_of own ≡ 0 = grind (arith, job_is, left) in
    let start = job_bytes (job_of own) p.sector in
    let being = has.opens closed in
    record {
      opens = λ _. record {
        opens = record {
          origin = d.cells;
          start = start;
          stood = being.opens;
          whole = job_room (job_of own) p.sector (kept_few p.opening.area (job_of own)
              (subst (IsOnKept p.opening.area) (sym job_is) kept)) whole.size;
          done = subst (λ n. IsDoneSoFar (job_of own) n start start d.cells e) (sym none)
              (subst (λ j. IsDoneSoFar j 0 start start d.cells e) (sym job_is) (done start));
        };
        buffer = being.buffer;
        view = being.view;
        durable = being.durable;
      };
      overlaid = λ opened. absurd (let no = closed in cc);
    }
