use Rattle.std.proofs.Common.{arith}
use Rattle.std.proofs.lemmas.Grind.{common_steps}
use Rattle.model.specs.Reading.{among, core_words}
use Rattle.words.proofs.is_core.Goals as goal

pub returns-then-same_bytes-3 : goal.returns-then-same_bytes-3
unfolding among core_words
returns-then-same_bytes-3 c = grind (arith, common_steps)

pub returns-else-same_bytes-3 : goal.returns-else-same_bytes-3
unfolding among core_words
returns-else-same_bytes-3 c = grind (arith, common_steps)
