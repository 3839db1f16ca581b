use Rattle.std.proofs.Common.{lit≤}
use Rattle.plain_drive.proofs.Words.{read_words}
use Rattle.plain_drive.proofs.a_loaded_block_is_read.Goals as goal

pub returns : goal.returns
returns c = λ d loaded. read_words 256 d loaded.order loaded.done loaded.phase loaded.moves loaded.whole (lit≤ tt)
