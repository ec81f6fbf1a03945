use Rattle.replacing.proofs.LocateLaws.{locate_laws}
use Rattle.std.proofs.Common.{rules}
use Rattle.replacing.proofs.locating.locate.Goals as goal

pub loop-left-init : goal.loop-left-init
loop-left-init c = search (locate_laws, rules)

pub pass_over-span-requires-clause-tree : goal.pass_over-span-requires-clause-tree
pass_over-span-requires-clause-tree c = search (locate_laws, rules)

pub loop-left-smaller-then-span-left : goal.loop-left-smaller-then-span-left
loop-left-smaller-then-span-left c = search (locate_laws, rules)

pub loop-left-preserved-then-span-left : goal.loop-left-preserved-then-span-left
loop-left-preserved-then-span-left c = search (locate_laws, rules)

pub unreachable-requires : goal.unreachable-requires
unreachable-requires c = search (locate_laws, rules)

pub overflow_sub-levels : goal.overflow_sub-levels
overflow_sub-levels c = search (locate_laws, rules)

pub loop-left-preserved : goal.loop-left-preserved
loop-left-preserved c = search (locate_laws, rules)

pub returns : goal.returns
returns c = search (locate_laws, rules)
