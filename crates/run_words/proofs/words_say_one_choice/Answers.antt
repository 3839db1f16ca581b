use Rattle.run_words.proofs.Once.{says_once}
use Rattle.run_words.proofs.words_say_one_choice.Goals as goal

pub returns : goal.returns
returns c = record { once = says_once }
