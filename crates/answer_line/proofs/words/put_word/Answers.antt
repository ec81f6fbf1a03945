use Rattle.text.proofs.Placing.{renamed}
use Rattle.answer_line.specs.Words.{bytes_of}
use Rattle.answer_line.proofs.words.put_word.Goals as goal

pub returns : goal.returns
unfolding bytes_of
returns c = renamed c.to_le_bytes.ensures c.put_text.ensures
