use Rattle.text_reader.proofs.WriteLaws.{thing_laws}
use Rattle.std.proofs.Common.{rules}
use Rattle.text_reader.proofs.writing.put_thing.Goals as goal

pub put_number-sets-requires : goal.put_number-sets-requires
put_number-sets-requires c = search (thing_laws, rules)

pub put_zeros-behind-requires : goal.put_zeros-behind-requires
put_zeros-behind-requires c = search (thing_laws, rules)

pub put_number-requires : goal.put_number-requires
put_number-requires c = search (thing_laws, rules)

pub returns : goal.returns
returns c = search (thing_laws, rules)
