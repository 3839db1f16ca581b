-- What a host in memory holds, and which of its calls fail.
use Rattle.std.specs.Prelude.{ℕ, ◌≡◌, ◌+◌, List, Some, min, Contains}
use Rattle.bm_host.specs.declared.Role.{Role}
use Rattle.bm_host.specs.declared.memory_host.MemoryHost.{MemoryHost}
use Rattle.bm_host.specs.ByRole.{value_of}
use Rattle.bm_host.specs.Outside.{Outside, LAST_COUNT}
use Rattle.bm_host.specs.Tally.{counted}

-- what a role holds (own)
abbrev pub contents_of : MemoryHost → Role → List ℕ
contents_of host role = (value_of host.files role).bytes.items

-- a host in memory tells everything (own)
abbrev pub outside_of : MemoryHost → Outside
outside_of host = record (counted host.tally) {
  told = λ role. Some (contents_of host role);
  given = λ role. (value_of host.files role).given;
}

-- the number of calls made so far, which is the next call's number (own)
abbrev pub calls_of : MemoryHost → ℕ
calls_of host = host.plan.calls

-- the numbers of the calls that fail (own)
abbrev pub failing_of : MemoryHost → List ℕ
failing_of host = host.plan.failing.items

-- the number of bytes that a write may leave in a role (own)
abbrev pub limit_of : MemoryHost → Role → ℕ
limit_of host role = (value_of host.files role).limit

-- the next call fails by its number (own)
abbrev pub IsPlanned : MemoryHost → Type 0
IsPlanned host = Contains (failing_of host) (calls_of host)

-- one call was counted, and nothing else of which calls fail is changed (own)
pub record IsCalled (old new : MemoryHost) : Type 0 where
  pub calls : calls_of new ≡ min (calls_of old + 1) LAST_COUNT
  pub failing : failing_of new ≡ failing_of old
  pub limits : (role : Role) → limit_of new role ≡ limit_of old role
