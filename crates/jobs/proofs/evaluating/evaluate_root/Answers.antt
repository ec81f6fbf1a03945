use Rattle.jobs.proofs.Roots.{tree_laws}
use Rattle.std.proofs.Common.{rules}
use Rattle.jobs.proofs.evaluating.evaluate_root.Goals as goal

pub tree-b-requires : goal.tree-b-requires
tree-b-requires c = search (tree_laws, rules)

pub raised-requires : goal.raised-requires
raised-requires c = search (tree_laws, rules)

pub nowhere-requires : goal.nowhere-requires
nowhere-requires c = search (tree_laws, rules)

pub evaluate-requires : goal.evaluate-requires
evaluate-requires c = search (tree_laws, rules)

pub returns : goal.returns
returns c = search (tree_laws, rules)
