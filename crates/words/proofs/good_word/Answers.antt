use Rattle.std.proofs.Common.{arith}
use Rattle.std.proofs.lemmas.Grind.{common_steps}
use Rattle.words.proofs.good_word.Goals as goal
use Rattle.words.proofs.Bytes.{good_laws}

pub returns-then-first_byte : goal.returns-then-first_byte
returns-then-first_byte c = grind (arith, common_steps, good_laws)

pub returns-else-first_byte : goal.returns-else-first_byte
returns-else-first_byte c = grind (arith, common_steps, good_laws)
