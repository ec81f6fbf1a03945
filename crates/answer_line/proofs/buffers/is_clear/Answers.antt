use Rattle.answer_line.proofs.Lent.{buffer_laws}
use Rattle.std.proofs.Common.{rules}
use Rattle.answer_line.proofs.buffers.is_clear.Goals as goal

pub returns-then-words-front : goal.returns-then-words-front
returns-then-words-front c = search (buffer_laws, rules)

pub returns-then-are_words : goal.returns-then-are_words
returns-then-are_words c = search (buffer_laws, rules)

pub returns-else-are_words : goal.returns-else-are_words
returns-else-are_words c = search (buffer_laws, rules)
