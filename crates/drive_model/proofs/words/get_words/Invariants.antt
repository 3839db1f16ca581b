use Rattle.std.proofs.Common.{◌≡◌, ◌*◌, take, length}
use Rattle.plain_drive.specs.Plain.{words_of}
use Rattle.drive_model.proofs.words.get_words.Given as goal

abbrev pub invariant-loop-i : goal.invariant-loop-i
invariant-loop-i l = record {
  so_far : take l.i l.words ≡ take l.i (words_of l.bytes);
  len : length l.bytes ≡ 2 * length l.words;
}
