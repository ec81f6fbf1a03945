use Rattle.text_reader.proofs.MeasureLaws.{Adding}
use Rattle.text_reader.proofs.measuring.words_len.Given as goal

abbrev pub invariant-loop-i : goal.invariant-loop-i
invariant-loop-i l = Adding l.words.text.now l.words.spans.now l.words.count l.i l.len
