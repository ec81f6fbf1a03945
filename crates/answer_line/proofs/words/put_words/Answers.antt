use Rattle.answer_line.proofs.Laying.{laying_laws}
use Rattle.std.proofs.Common.{rules}
use Rattle.answer_line.proofs.words.put_words.Goals as goal

pub loop-word-init : goal.loop-word-init
loop-word-init c = search (laying_laws, rules)

pub put_word-to-requires : goal.put_word-to-requires
put_word-to-requires c = search (laying_laws, rules)

pub loop-word-preserved : goal.loop-word-preserved
loop-word-preserved c = search (laying_laws, rules)

pub returns : goal.returns
returns c = search (laying_laws, rules)
