-- What a walk doesn't look at: the error bit and the interrupt bit.
use Rattle.std.proofs.Common.{◌≡◌, ℕ, List, Bool, ◌||◌, Option, Some, None, refl, arith}
use Rattle.ata_taskfile.specs.declared.bus_master.Bus.{Bus}
use Rattle.bm_dma.specs.declared.search.Found.{Found}
use Rattle.bm_dma.specs.Run.{run_of, found_in}
use Rattle.bm_dma.specs.Move.{bus_after, bus_in, bus_next}

after-error : (f : Found) (moved : ℕ) (e : Bool) (b : Bus)
    → bus_after f moved (record b { error = e || b.error })
    ≡ record (bus_after f moved b) { error = e || (bus_after f moved b).error }
after-error f moved e b = grind arith

after-interrupt : (f : Found) (moved : ℕ) (i : Bool) (b : Bus)
    → bus_after f moved (record b { interrupt = i }) ≡ record (bus_after f moved b) { interrupt = i }
after-interrupt f moved i b = grind arith

in-error : (walk : Option ℕ) (memory : List ℕ) (e : Bool) (b : Bus)
    → bus_in walk memory (record b { error = e || b.error })
    ≡ record (bus_in walk memory b) { error = e || (bus_in walk memory b).error }
in-error None memory e b = refl
in-error (Some moved) memory e b = after-error (found_in moved (run_of b.pointer memory)) moved e b

in-interrupt : (walk : Option ℕ) (memory : List ℕ) (i : Bool) (b : Bus)
    → bus_in walk memory (record b { interrupt = i }) ≡ record (bus_in walk memory b) { interrupt = i }
in-interrupt None memory i b = refl
in-interrupt (Some moved) memory i b = after-interrupt (found_in moved (run_of b.pointer memory)) moved i b

-- a walk goes on alike with an error bit that was set before
pub next_error : (memory : List ℕ) (e : Bool) (b : Bus)
    → bus_next (record b { error = e || b.error }) memory
    ≡ record (bus_next b memory) { error = e || (bus_next b memory).error }
next_error memory e b = in-error b.walk memory e b

-- a walk goes on alike whatever the interrupt bit is, and leaves it
pub next_interrupt : (memory : List ℕ) (i : Bool) (b : Bus)
    → bus_next (record b { interrupt = i }) memory ≡ record (bus_next b memory) { interrupt = i }
next_interrupt memory i b = in-interrupt b.walk memory i b
