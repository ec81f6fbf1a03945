use Rattle.text_printer.proofs.SpellLaws.{Finding}
use Rattle.text_printer.proofs.spelling.find_words.Given as goal

abbrev pub invariant-loop-i : goal.invariant-loop-i
invariant-loop-i l = Finding l.image l.first l.count l.initial.starts l.starts l.at l.i
