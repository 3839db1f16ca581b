-- How many places a table has at most, so that a walk can count its sectors.
use Rattle.std.proofs.Common.{◌≡◌, ℕ, zero, suc, ◌+◌, ◌-◌, ◌*◌, ◌/◌, ◌<◌, ◌≤◌, ◌==◌, Bool, true, false, List, [], length, drop, arith, refl, length-drop, length-take, get_or}
use Rattle.std.proofs.lemmas.List.{get_or-drop}
use Rattle.std.proofs.lemmas.Bool.{eqb-true}
use Rattle.byteorder.specs.Endian.{little_number}
use Rattle.bm_dma.specs.declared.descriptor.Descriptor.{Descriptor}
use Rattle.bm_dma.specs.declared.search.Found.TheVariants.{All}
use Rattle.bm_dma.specs.Descriptor.{bytes_meant, descriptor_in, is_good}
use Rattle.bm_dma.specs.Run.{Run, run_with, run_from, run_of, sector_places, is_tables_end, found_in}
use Rattle.bm_dma.proofs.Searching.{found_as, length_both}

-- each is a byte
abbrev AreBytes : List ℕ → Type 0
AreBytes memory = (k : ℕ) → get_or memory k 0 < 256

meant_few : (n : ℕ) → n < 65536 → bytes_meant n ≤ 65536
meant_few zero few = omega arith
meant_few (suc n) few = omega arith

count_few : (at : ℕ) (memory : List ℕ) → AreBytes memory → (descriptor_in (drop at memory)).count ≤ 65536
count_few at memory bytes =
    let low : get_or (drop 4 (drop at memory)) 0 0 < 256 =
    rw (get_or-drop 4 (drop at memory) 0 0, get_or-drop at memory 4 0) (bytes (at + 4)) in
    let high : get_or (drop 4 (drop at memory)) 1 0 < 256 =
    rw (get_or-drop 4 (drop at memory) 1 0, get_or-drop at memory 5 0) (bytes (at + 5)) in
    meant_few (little_number 2 (drop 4 (drop at memory))) (omega arith)

length_with : (d : Descriptor) (size k : ℕ) (run : Run) (good last : Bool) → is_good d size ≡ good
    → d.is_last ≡ last → d.count ≤ 65536
    → length run.places ≤ k → length (run_with d size run).places ≤ 65536 + k
length_with d size k run false last bad is small few = rw bad (omega arith)
length_with d size k run true true good is small few = rw (good, is) (omega (arith, length_both d []))
length_with d size k run true false good is small few = rw (good, is) (omega (arith, length_both d run.places))

-- how many places a table has at most
length_run : (n at : ℕ) (memory : List ℕ) → AreBytes memory → length (run_from n at memory).places ≤ 65536 * n
length_run zero at memory bytes = omega arith
length_run (suc n) at memory bytes =
    let rest = length_with (descriptor_in (drop at memory)) (length memory) (65536 * n) (run_from n (at + 8) memory)
    (is_good (descriptor_in (drop at memory)) (length memory)) (descriptor_in (drop at memory)).is_last refl refl
    (count_few at memory bytes)
    (length_run n (at + 8) memory bytes) in
    omega arith

full_of : (full last ended end : Bool) → found_as full last ended ≡ All end → full ≡ true
full_of true last ended end e = refl
full_of false last true end e = cc
full_of false last false end e = cc

-- behind a whole sector there is a number for the next one
pub one_more : (pointer moved : ℕ) (memory : List ℕ) (end : Bool) → AreBytes memory → length memory ≤ 16777216
    → found_in moved (run_of pointer memory) ≡ All end → moved + 1 < 4294967296
one_more pointer moved memory end bytes few e =
    let run = run_of pointer memory in
    let full = eqb-true (length (sector_places moved run)) 512
    (full_of (length (sector_places moved run) == 512) (is_tables_end moved run) run.ended end e) in
    let many = length_run ((length memory - pointer) / 8) pointer memory bytes in
    omega (arith, length-take 512 (drop (512 * moved) run.places), length-drop (512 * moved) run.places)
