use Rattle.std.proofs.Common.{◌≡◌, take, length}
use Rattle.plain_drive.specs.Identify.{identity_front}
use Rattle.drive_model.proofs.identify.identity.Given as goal

abbrev pub invariant-loop-i : goal.invariant-loop-i
invariant-loop-i l = (take l.i l.words ≡ identity_front l.i l.sectors) × (length l.words ≡ 256)
