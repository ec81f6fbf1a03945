use Rattle.std.proofs.Common.{rules}
use Rattle.text_reader.proofs.WriteLaws.{words_laws}
use Rattle.text_reader.proofs.writing.put_words.Goals as goal

pub put_word-to-requires : goal.put_word-to-requires
put_word-to-requires c = search (words_laws, rules)

pub loop-i-preserved : goal.loop-i-preserved
loop-i-preserved c = search (words_laws, rules)

pub returns : goal.returns
returns c = search (words_laws, rules)
