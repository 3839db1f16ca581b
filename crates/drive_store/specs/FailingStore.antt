-- What a store of which one call fails holds, and which call that is.
use Rattle.std.specs.Prelude.{ℕ, ◌≡◌, ◌+◌, min}
use Rattle.bm_host.specs.Outside.{LAST_COUNT}
use Rattle.drive_store.specs.declared.failing_store.FailingStore.{FailingStore}
use Rattle.drive_store.specs.Store.{Sectors}
use Rattle.drive_store.specs.MemoryStore.{sectors_of}

-- a store of which one call fails tells its sectors (own)
abbrev pub sectors_behind : FailingStore → Sectors
sectors_behind s = sectors_of s.memory

-- how many calls to such a store failed
abbrev pub faults_so_far : FailingStore → ℕ
faults_so_far s = s.faults

-- how many calls were made, which is the next call's number (own)
abbrev pub calls_so_far : FailingStore → ℕ
calls_so_far s = s.calls

-- the number of the call that fails (own)
abbrev pub failing_call : FailingStore → ℕ
failing_call s = s.failing

-- the next call to such a store fails by its number (own)
abbrev pub IsPlanned : FailingStore → Type 0
IsPlanned s = calls_so_far s ≡ failing_call s

-- one call was counted, and the same one fails (own)
pub record IsCalled (old new : FailingStore) : Type 0 where
  pub calls : calls_so_far new ≡ min (calls_so_far old + 1) LAST_COUNT
  pub failing : failing_call new ≡ failing_call old
