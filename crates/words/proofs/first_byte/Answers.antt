use Rattle.std.proofs.Common.{arith}
use Rattle.std.proofs.lemmas.Bool.Decides.{nat_tests}
use Rattle.model.specs.Reading.{first_byte}
use Rattle.words.proofs.first_byte.Goals as goal

pub returns : goal.returns
unfolding first_byte
returns c = grind (arith, nat_tests)
