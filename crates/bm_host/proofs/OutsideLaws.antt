-- How what several calls did to the outside makes one: for the proofs of those who call a host.
use Rattle.std.proofs.Common.{◌≡◌, ◌≢◌, ◌⊎◌, ◌∙◌, arith}
use Rattle.bm_host.specs.declared.Role.{Role}
use Rattle.bm_host.specs.Outside.{Outside, Side, Reads, Writes, SameCounts, OnlyRose}

-- two roles are one or they are not
pub same_role : (r s : Role) → (r ≡ s) ⊎ (r ≢ s)
same_role r s = grind arith

-- counts that stay the same twice stay the same
pub same_counts_trans : (a b c : Outside) → SameCounts a b → SameCounts b c → SameCounts a c
same_counts_trans a b c p q = record {
  reads = λ r. q.reads r ∙ p.reads r;
  writes = λ r. q.writes r ∙ p.writes r;
}

-- a count that rose alone behind counts that stayed the same
pub only_rose_after : (side : Side) (role : Role) (a b c : Outside) →
    SameCounts a b → OnlyRose side role b c → OnlyRose side role a c
only_rose_after Reads role a b c p q = grind arith
only_rose_after Writes role a b c p q = grind arith
