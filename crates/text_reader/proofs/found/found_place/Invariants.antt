use Rattle.text_reader.proofs.FoundLaws.{Seeking}
use Rattle.text_reader.proofs.found.found_place.Given as goal

abbrev pub invariant-loop-i : goal.invariant-loop-i
invariant-loop-i l = Seeking l.words.text.now l.words.spans.now l.words.count l.from l.to l.i
