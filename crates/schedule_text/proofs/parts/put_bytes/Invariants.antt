use Rattle.std.proofs.Common.{◌≡◌, ◌≢◌, ◌*◌, ℕ, List, true, false, length}
use Rattle.schedule_text.specs.Line.{hex_text, AreBytes}
use Rattle.schedule_text.proofs.Hex.{IsFront}
use Rattle.schedule_text.proofs.parts.put_bytes.Given as goal

abbrev pub invariant-loop-i : goal.invariant-loop-i
invariant-loop-i l = record {
  so_far : l.good ≡ true → IsFront l.i l.text l.bytes;
  never : l.good ≡ false → (all : List ℕ) → AreBytes all → l.text ≢ hex_text all;
  len : length l.text ≡ 2 * length l.bytes;
}
