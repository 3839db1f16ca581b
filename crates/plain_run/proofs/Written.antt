-- What a step of a lawful drive writes.
use Rattle.std.proofs.Common.{◌≡◌, ◌≢◌, ℕ, ◌+◌, ◌-◌, ◌<◌, ◌≤◌, Bool, true, false, List, [], length, Option, Some, None, refl, ap, ◌∙◌, arith}
use Rattle.std.specs.Prelude.{if◌then◌else◌, ◌==◌, nat_lt}
use Rattle.std.proofs.lemmas.Bool.{and_from, eqb-true, eqb-false, ltb-true}
use Rattle.std.proofs.lemmas.List.{length-map}
use Rattle.ata_taskfile.specs.declared.Kind.{Kind}
use Rattle.ata_taskfile.specs.declared.Kind.TheVariants as kind
use Rattle.ata_taskfile.specs.declared.Form.{Form}
use Rattle.ata_taskfile.specs.declared.Form.TheVariants.{NoMove, PioIn, PioOut, DmaIn, DmaOut}
use Rattle.ata_taskfile.specs.declared.Request.{Request}
use Rattle.ata_taskfile.specs.declared.Taken.TheVariants.{Good, Bad}
use Rattle.ata_taskfile.specs.declared.Phase.{Phase}
use Rattle.ata_taskfile.specs.declared.Phase.TheVariants.{Reset, Idle, Busy, Ready}
use Rattle.ata_taskfile.specs.declared.Step.{Step}
use Rattle.ata_taskfile.specs.declared.Step.TheVariants as step
use Rattle.ata_taskfile.specs.declared.task_file.TaskFile.{TaskFile}
use Rattle.ata_taskfile.specs.declared.bus_master.Bus.{Bus}
use Rattle.ata_taskfile.specs.Data.{takes_words}
use Rattle.ata_taskfile.specs.Lawful.{IsLawful, IsLawfulState}
use Rattle.bm_dma.specs.Memory.{byte_at}
use Rattle.bm_dma.specs.Run.{run_of, sector_places, is_tables_end}
use Rattle.bm_dma.proofs.Searching.{found_as}
use Rattle.bm_dma.specs.Move.{moved_as, outcome_in, places_in, sector_after}
use Rattle.plain_drive.specs.Plain.{Plain}
use Rattle.plain_drive.specs.Words.{bytes_of}
use Rattle.plain_drive.specs.Change.{leaves, writes, change_made, change_in, change_proceeded, change_walked, change_moved, change_without_data}
use Rattle.plain_drive.proofs.Blocks.{block_bytes}
use Rattle.plain_drive.proofs.Ends.{block_whole}
use Rattle.plain_run.specs.Written.{is_outward, is_within}
use Rattle.plain_run.proofs.Kept.{Writes}
use Rattle.plain_run.proofs.Aims.{aims_in}

-- a whole sector, to which the order in hand brings data
abbrev pub IsAimed : Phase → ℕ → List ℕ → Type 0
IsAimed phase s value = (length value ≡ 512) × (aims_in s phase ≡ true)

-- a sector of an order that goes on lies in its range
within_range : (first count done : ℕ) → done < count → is_within first count (first + done) ≡ true
within_range first count done more = grind arith

-- no block comes behind the last one
came_within : (f : TaskFile) (b : Bus) (words n : ℕ) (order : Request) (done : ℕ) → f.phase ≡ Busy (Good order) done
    → order.form ≡ PioOut
    → IsLawfulState f b words n → done ≤ order.count
came_within f b words n order done e is l = grind arith

-- a sector that was moved whole has all its places
found_aimed : (phase : Phase) (s : ℕ) (places memory : List ℕ) (last ended found : Bool)
    → (length places == 512) ≡ found
    → aims_in s phase ≡ true
    → Writes (IsAimed phase) (change_moved (moved_as (found_as found last ended) (length places)) s
    (sector_after (moved_as (found_as found last ended) (length places)) places memory []))
found_aimed phase s places memory last ended true is aims =
    (length-map places (byte_at memory) ∙ eqb-true (length places) 512 is, aims)
found_aimed phase s places memory last true false is aims = tt
found_aimed phase s places memory last false false is aims = tt

walk_aimed : (phase : Phase) (s : ℕ) (walk : Option ℕ) (pointer : ℕ) (memory : List ℕ) → aims_in s phase ≡ true
    → Writes (IsAimed phase) (change_moved (outcome_in walk pointer memory) s
    (sector_after (outcome_in walk pointer memory) (places_in walk pointer memory) memory []))
walk_aimed phase s None pointer memory aims = tt
walk_aimed phase s (Some moved) pointer memory aims =
    let run = run_of pointer memory in
    let places = sector_places moved run in
    found_aimed phase s places memory (is_tables_end moved run) run.ended (length places == 512) refl aims

module _ (order : Request) (done : ℕ) (p : Plain) (e : p.device.file.phase ≡ Busy (Good order) done)
    (l : IsLawful p.device) where
  -- an outward order brings data to each sector of its range
  aims_within : (s : ℕ) → is_outward order.form ≡ true → is_within order.first order.count s ≡ true
      → aims_in s p.device.file.phase ≡ true
  aims_within s outward within = ap (aims_in s) e ∙ and_from (is_outward order.form)
      (is_within order.first order.count s) outward within

  block_aimed : order.form ≡ PioOut → (first : Bool) → (done == 0) ≡ first
      → Writes (IsAimed p.device.file.phase) (if first then leaves else writes (order.first + (done - 1))
      (bytes_of p.device.block))
  block_aimed is true at = tt
  block_aimed is false at =
      let some : done ≢ 0 = eqb-false done 0 at in
      let takes : takes_words order.form ≡ true = ap takes_words is in
      let came = came_within p.device.file p.device.bus (length p.device.block) p.device.sectors order done e is l in (
        block_bytes p.device.block (block_whole p.device.file p.device.bus (length p.device.block)
            p.device.sectors order done e
            takes some l),
        aims_within (order.first + (done - 1)) (ap is_outward is)
            (within_range order.first order.count (done - 1) (omega arith)),
      )

  moved_aimed : order.form ≡ DmaOut → (more : Bool) → nat_lt done order.count ≡ more
      → Writes (IsAimed p.device.file.phase) (if more then change_walked order done p else leaves)
  moved_aimed is false at = tt
  moved_aimed is true at =
      walk_aimed p.device.file.phase (order.first + done) p.device.bus.walk p.device.bus.pointer p.memory
      (aims_within (order.first + done) (ap is_outward is)
      (within_range order.first order.count done (ltb-true done order.count at)))

  without_data_aimed : (k : Kind) → Writes (IsAimed p.device.file.phase) (change_without_data k)
  without_data_aimed kind.Flush = tt
  without_data_aimed kind.Read = tt
  without_data_aimed kind.Write = tt
  without_data_aimed kind.Verify = tt
  without_data_aimed kind.Identify = tt
  without_data_aimed kind.Features = tt

  proceeded_aimed : (form : Form) → order.form ≡ form → Writes (IsAimed p.device.file.phase)
      (change_proceeded form order done p)
  proceeded_aimed NoMove is = without_data_aimed order.kind
  proceeded_aimed PioIn is = tt
  proceeded_aimed PioOut is = block_aimed is (done == 0) refl
  proceeded_aimed DmaIn is = tt
  proceeded_aimed DmaOut is = moved_aimed is (nat_lt done order.count) refl

stepped_aimed : (phase : Phase) (p : Plain) → p.device.file.phase ≡ phase → IsLawful p.device
    → Writes (IsAimed p.device.file.phase) (change_in phase p)
stepped_aimed Reset p e l = tt
stepped_aimed Idle p e l = tt
stepped_aimed (Ready order done left) p e l = tt
stepped_aimed (Busy (Bad reason) done) p e l = tt
stepped_aimed (Busy (Good order) done) p e l = proceeded_aimed order done p e l order.form refl

-- each value that a step writes is a whole sector to which the order in hand brings data
pub step_aimed : (s : Step) (p : Plain) → IsLawful p.device → Writes (IsAimed p.device.file.phase) (change_made s p)
step_aimed step.Good p l = stepped_aimed p.device.file.phase p refl l
step_aimed step.Bad p l = tt
