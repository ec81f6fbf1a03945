use Rattle.answer_line.proofs.Laying.{Spelling}
use Rattle.answer_line.proofs.words.put_words_hexadecimal.Given as goal

abbrev pub invariant-loop-word : goal.invariant-loop-word
invariant-loop-word l = Spelling l.initial.out l.at l.words l.out l.to l.word-index
