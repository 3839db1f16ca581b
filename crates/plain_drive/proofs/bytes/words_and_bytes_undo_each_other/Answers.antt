use Rattle.plain_drive.proofs.Blocks.{word_at}
use Rattle.plain_drive.proofs.SectorValues.{block_is_sector, bytes_are_words, sector_back, words_back}
use Rattle.plain_drive.proofs.bytes.words_and_bytes_undo_each_other.Goals as goal

pub returns-clause-bytes_back : goal.returns-clause-bytes_back
returns-clause-bytes_back c = sector_back

pub returns-clause-words_back : goal.returns-clause-words_back
returns-clause-words_back c = words_back

pub returns-clause-sector : goal.returns-clause-sector
returns-clause-sector c = block_is_sector

pub returns-clause-words : goal.returns-clause-words
returns-clause-words c = bytes_are_words

pub returns-clause-word : goal.returns-clause-word
returns-clause-word c = λ i bytes room. (word_at i bytes room).1
