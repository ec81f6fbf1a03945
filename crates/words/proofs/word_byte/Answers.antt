use Rattle.std.proofs.Common.{arith}
use Rattle.std.proofs.lemmas.Bool.Decides.{nat_tests}
use Rattle.model.specs.Reading.{word_byte}
use Rattle.words.proofs.word_byte.Goals as goal

pub returns-after-matches : goal.returns-after-matches
unfolding word_byte
returns-after-matches c = grind (arith, nat_tests)

pub returns-else-matches : goal.returns-else-matches
unfolding word_byte
returns-else-matches c = grind (arith, nat_tests)
