use Rattle.std.proofs.Common.{rules}
use Rattle.text_reader.proofs.MeasureLaws.{words_laws}
use Rattle.text_reader.proofs.measuring.words_len.Goals as goal

pub loop-i-preserved : goal.loop-i-preserved
loop-i-preserved c = search (words_laws, rules)

pub returns : goal.returns
returns c = search (words_laws, rules)
