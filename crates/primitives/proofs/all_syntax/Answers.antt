use Rattle.std.proofs.Common.{rules}
use Rattle.primitives.proofs.all_syntax.Goals as goal
use Rattle.primitives.proofs.Syntax.{laws}

-- src/lib.rt:97:13
pub get_node-o-requires : goal.get_node-o-requires
get_node-o-requires c = search (laws, rules)

-- src/lib.rt:99:13
pub returns-then-o-gt-LIST : goal.returns-then-o-gt-LIST
returns-then-o-gt-LIST c = search (laws, rules)

-- src/lib.rt:95:5
pub loop-at-smaller : goal.loop-at-smaller
loop-at-smaller c = search (laws, rules)

-- src/lib.rt:95:5
pub loop-at-preserved : goal.loop-at-preserved
loop-at-preserved c = search (laws, rules)

-- src/lib.rt:90:1
pub returns : goal.returns
returns c = search (laws, rules)
