use Rattle.table.specs.Words.{get_word}
use Rattle.table.proofs.get_word.Goals as goal

pub returns : goal.returns
unfolding get_word
returns c = c.joined.ensures
