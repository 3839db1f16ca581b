use Rattle.std.proofs.Common.{◌≡◌, ◌*◌, length, take}
use Rattle.schedule_text.specs.Line.{hex_text}
use Rattle.schedule_text.proofs.write.put_hex.Given as goal

abbrev pub invariant-loop-i : goal.invariant-loop-i
invariant-loop-i l = record {
  so_far : take (2 * l.i) l.text ≡ hex_text (take l.i l.bytes);
  len : length l.text ≡ 2 * length l.bytes;
}
