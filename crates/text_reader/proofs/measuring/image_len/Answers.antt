use Rattle.text_reader.proofs.MeasureLaws.{image_laws}
use Rattle.std.proofs.Common.{rules}
use Rattle.text_reader.proofs.measuring.image_len.Goals as goal

pub head_len-head-requires : goal.head_len-head-requires
head_len-head-requires c = search (image_laws, rules)

pub returns-then-most-head : goal.returns-then-most-head
returns-then-most-head c = search (image_laws, rules)

pub root_len-requires : goal.root_len-requires
root_len-requires c = search (image_laws, rules)

pub overflow_add-result : goal.overflow_add-result
overflow_add-result c = search (image_laws, rules)

pub returns : goal.returns
returns c = search (image_laws, rules)
