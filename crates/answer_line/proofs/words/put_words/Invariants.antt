use Rattle.answer_line.proofs.Laying.{Laying}
use Rattle.answer_line.proofs.words.put_words.Given as goal

abbrev pub invariant-loop-word : goal.invariant-loop-word
invariant-loop-word l = Laying l.initial.out l.at l.words l.out l.to l.word-index
