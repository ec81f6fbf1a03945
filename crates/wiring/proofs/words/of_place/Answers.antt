use Rattle.std.proofs.Common.{refl}
use Rattle.wiring.proofs.WordLaws.{place-bit, place-point}
use Rattle.wiring.proofs.words.of_place.Goals as goal

pub returns-then-t-eq-VARIABLE : goal.returns-then-t-eq-VARIABLE
returns-then-t-eq-VARIABLE c = place-bit _ _ _ _ c.if-t-eq-VARIABLE.true refl c.word.ensures

pub returns-else-t-eq-VARIABLE : goal.returns-else-t-eq-VARIABLE
returns-else-t-eq-VARIABLE c = place-point _ _ _ _ c.if-t-eq-VARIABLE.false c.word-else-t-eq-VARIABLE.ensures
