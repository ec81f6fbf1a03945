use Rattle.text_reader.proofs.WriteLaws.{Wording}
use Rattle.text_reader.proofs.writing.put_words.Given as goal

abbrev pub invariant-loop-i : goal.invariant-loop-i
invariant-loop-i l = Wording l.initial.out l.at l.words.text.now l.words.spans.now l.words.count l.out l.i l.to
