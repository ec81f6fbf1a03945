use Rattle.marking.proofs.RootLaws.{root_laws}
use Rattle.std.proofs.Common.{rules}
use Rattle.marking.proofs.roots.mark_root.Goals as goal

pub read_front-x-requires : goal.read_front-x-requires
read_front-x-requires c = search (root_laws, rules)

pub mark-requires : goal.mark-requires
mark-requires c = search (root_laws, rules)

pub loop-at-smaller-then-x-eq-SYMBOL : goal.loop-at-smaller-then-x-eq-SYMBOL
loop-at-smaller-then-x-eq-SYMBOL c = search (root_laws, rules)

pub loop-at-preserved-then-x-eq-SYMBOL : goal.loop-at-preserved-then-x-eq-SYMBOL
loop-at-preserved-then-x-eq-SYMBOL c = search (root_laws, rules)

pub loop-at-smaller : goal.loop-at-smaller
loop-at-smaller c = search (root_laws, rules)

pub loop-at-preserved : goal.loop-at-preserved
loop-at-preserved c = search (root_laws, rules)

pub returns : goal.returns
returns c = search (root_laws, rules)
