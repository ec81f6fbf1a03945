use Rattle.std.proofs.Common.{rules}
use Rattle.text.proofs.put_hexadecimal.Goals as goal
use Rattle.text.proofs.Hexadecimal.{hex_laws}

pub bounds-out-to : goal.bounds-out-to
bounds-out-to c = search (hex_laws, rules)

pub overflow_add-out : goal.overflow_add-out
overflow_add-out c = search (hex_laws, rules)

pub bounds-out-to-in-loop-b : goal.bounds-out-to-in-loop-b
bounds-out-to-in-loop-b c = search (hex_laws, rules)

pub overflow_add-to : goal.overflow_add-to
overflow_add-to c = search (hex_laws, rules)

pub loop-b-preserved : goal.loop-b-preserved
loop-b-preserved c = search (hex_laws, rules)

pub returns : goal.returns
returns c = search (hex_laws, rules)
