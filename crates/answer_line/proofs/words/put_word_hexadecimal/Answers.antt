use Rattle.std.proofs.Common.{ap}
use Rattle.text.specs.Hexadecimal.{hex_of}
use Rattle.text.proofs.Placing.{renamed}
use Rattle.answer_line.specs.Words.{bytes_of}
use Rattle.answer_line.proofs.words.put_word_hexadecimal.Goals as goal

pub returns : goal.returns
unfolding bytes_of
returns c = renamed (ap hex_of c.to_le_bytes.ensures) c.put_hexadecimal.ensures
