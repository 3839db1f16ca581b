use Rattle.std.proofs.Common.{◌≡◌, ◌*◌, take, length}
use Rattle.plain_drive.specs.Words.{bytes_of}
use Rattle.drive_model.proofs.words.put_words.Given as goal

abbrev pub invariant-loop-i : goal.invariant-loop-i
invariant-loop-i l = record {
  so_far : take (2 * l.i) l.bytes ≡ bytes_of (take l.i l.words);
  len : length l.bytes ≡ 2 * length l.words;
}
