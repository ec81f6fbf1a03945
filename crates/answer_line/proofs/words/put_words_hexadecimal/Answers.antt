use Rattle.answer_line.proofs.Laying.{spelling_laws}
use Rattle.std.proofs.Common.{rules}
use Rattle.answer_line.proofs.words.put_words_hexadecimal.Goals as goal

pub loop-word-init : goal.loop-word-init
loop-word-init c = search (spelling_laws, rules)

pub put_word_hexadecimal-to-requires : goal.put_word_hexadecimal-to-requires
put_word_hexadecimal-to-requires c = search (spelling_laws, rules)

pub loop-word-preserved : goal.loop-word-preserved
loop-word-preserved c = search (spelling_laws, rules)

pub returns : goal.returns
returns c = search (spelling_laws, rules)
