-- What was looked at of the image, by one step after the other.
use Rattle.std.proofs.Common.{◌≤◌, ◌+◌, ◌*◌, ℕ, ◌∙◌, subst, arith}
use Rattle.bm_host.specs.Outside.{Outside}
use Rattle.block_writes.specs.Kept.{KeepsLooked}
use Rattle.image_server.specs.Serving.{LooksAtMost}

-- what was looked at so far, when no more is
pub looks_on : (n : ℕ) (a b c : Outside) → KeepsLooked b c → LooksAtMost n a b → LooksAtMost n a c
looks_on n a b c kept so = record {
  most = rw kept so.most;
  none = λ e. kept ∙ so.none e;
}

-- one look after the other
pub looks_after : (m n : ℕ) (a b c : Outside) → LooksAtMost m a b → LooksAtMost n b c → LooksAtMost (m + n) a c
looks_after m n a b c so more = record {
  most = let first = so.most in let then = more.most in omega arith;
  none = λ e. more.none (omega arith) ∙ so.none (omega arith);
}

-- what was looked at, when nothing was before
pub looks_since : (n : ℕ) (a b c : Outside) → KeepsLooked a b → LooksAtMost n b c → LooksAtMost n a c
looks_since n a b c kept so = record {
  most = subst (λ k. c.looked ≤ k + 512 * n) kept so.most;
  none = λ e. so.none e ∙ kept;
}
