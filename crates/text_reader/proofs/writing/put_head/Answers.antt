use Rattle.std.proofs.Common.{rules}
use Rattle.text_reader.proofs.WriteLaws.{head_laws}
use Rattle.text_reader.proofs.writing.put_head.Goals as goal

pub put_number-first-requires : goal.put_number-first-requires
put_number-first-requires c = search (head_laws, rules)

pub put_words-counts-requires : goal.put_words-counts-requires
put_words-counts-requires c = search (head_laws, rules)

pub put_zeros-requires : goal.put_zeros-requires
put_zeros-requires c = search (head_laws, rules)

pub returns : goal.returns
returns c = search (head_laws, rules)
