-- Which places a table names, and how many a short move has.
use Rattle.std.proofs.Common.{ap, ◌≡◌, ℕ, zero, suc, ◌+◌, ◌*◌, ◌/◌, ◌-◌, ◌<◌, ◌≤◌, ◌==◌, Bool, true, false, Option, Some, None, List, [], All, length, drop, arith, refl, length-take}
use Rattle.std.proofs.lemmas.Bool.{eqb-false}
use Rattle.std.proofs.lemmas.Bool.Decides.{nat_tests}
use Rattle.std.proofs.lemmas.List.Elements.{All-nil, All-append, All-from_get_or}
use Rattle.std.proofs.lemmas.List.FromFn.{length-range_with_len, get_or-range_with_len}
use Rattle.ata_taskfile.specs.declared.bus_master.Bus.{Bus}
use Rattle.bm_dma.specs.declared.descriptor.Descriptor.{Descriptor}
use Rattle.bm_dma.specs.declared.moves.Moved.TheVariants.{Short}
use Rattle.bm_dma.specs.Descriptor.{descriptor_in, is_good, places_of}
use Rattle.bm_dma.specs.Run.{Run, bad_run, run_with, run_from, run_of, sector_places, is_tables_end}
use Rattle.bm_dma.specs.Move.{moved_as, outcome_in, outcome}
use Rattle.bm_dma.proofs.Searching.{found_as}

within : (d : Descriptor) (size : ℕ) → is_good d size ≡ true → d.base + d.count ≤ size
within d size good = grind (arith, nat_tests)

inside_one : (d : Descriptor) (size : ℕ) → is_good d size ≡ true → All (λ place. place < size) (places_of d)
inside_one d size good =
    let all = within d size good in
    All-from_get_or (λ place. place < size) (places_of d) 0 (λ i below.
    let inside : i < d.count = omega (arith, length-range_with_len d.base d.count) in
    rw (get_or-range_with_len d.base d.count i 0 inside) (omega arith))

inside_with : (d : Descriptor) (size : ℕ) (run : Run) (good last : Bool) → is_good d size ≡ good → d.is_last ≡ last
    → All (λ place. place < size) run.places → All (λ place. place < size) (run_with d size run).places
inside_with d size run false last bad is rest = rw bad (All-nil (λ place. place < size))
inside_with d size run true true good is rest =
    rw (good, is) (All-append (λ place. place < size) (places_of d) [] (inside_one d size good)
    (All-nil (λ place. place < size)))
inside_with d size run true false good is rest =
    rw (good, is) (All-append (λ place. place < size) (places_of d) run.places (inside_one d size good) rest)

inside_from : (n at : ℕ) (memory : List ℕ) → All (λ place. place < length memory) (run_from n at memory).places
inside_from zero at memory = All-nil (λ place. place < length memory)
inside_from (suc n) at memory =
    inside_with (descriptor_in (drop at memory)) (length memory) (run_from n (at + 8) memory)
    (is_good (descriptor_in (drop at memory)) (length memory)) (descriptor_in (drop at memory)).is_last refl refl
    (inside_from n (at + 8) memory)

-- every place of a table is in memory
pub inside_run : (pointer : ℕ) (memory : List ℕ) → All (λ place. place < length memory) (run_of pointer memory).places
inside_run pointer memory = inside_from ((length memory - pointer) / 8) pointer memory

-- a run is its first descriptor with the run behind it
pub run_first : (pointer : ℕ) (memory : List ℕ) → pointer + 8 ≤ length memory
    → run_of pointer memory ≡ run_with (descriptor_in (drop pointer memory)) (length memory)
    (run_of (pointer + 8) memory)
run_first pointer memory inside =
    let one_more : (length memory - pointer) / 8 ≡ suc ((length memory - (pointer + 8)) / 8) = omega arith in
    ap (λ n. run_from n pointer memory) one_more

-- behind the end of memory there is none
pub run_past : (pointer : ℕ) (memory : List ℕ) → length memory < pointer + 8 → run_of pointer memory ≡ bad_run
run_past pointer memory past = let none : (length memory - pointer) / 8 ≡ 0 = omega arith in
    ap (λ n. run_from n pointer memory) none

short_count : (full last ended : Bool) (k n : ℕ) → (full ≡ false → k < 512)
    → moved_as (found_as full last ended) k ≡ Short n → n < 512
short_count true last ended k n few e = cc
short_count false last true k n few e = let below = few refl in let same : k ≡ n = cc in omega arith
short_count false last false k n few e = cc

short_in : (walk : Option ℕ) (pointer : ℕ) (memory : List ℕ) (n : ℕ) → outcome_in walk pointer memory ≡ Short n
    → n < 512
short_in None pointer memory n e = cc
short_in (Some moved) pointer memory n e =
    let run = run_of pointer memory in
    short_count (length (sector_places moved run) == 512) (is_tables_end moved run) run.ended
    (length (sector_places moved run)) n
    (λ part. let not_all = eqb-false (length (sector_places moved run)) 512 part in
    omega (arith, length-take 512 (drop (512 * moved) run.places))) e

-- a short move has fewer bytes than a sector
pub short_below : (bus : Bus) (memory : List ℕ) (n : ℕ) → outcome bus memory ≡ Short n → n < 512
short_below bus memory n = short_in bus.walk bus.pointer memory n
