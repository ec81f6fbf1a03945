use Rattle.builder.proofs.TreeLaws.{tree_laws, parts_laws, function_later, function_judged, application_later, application_judged, list-later, list-judged}
use Rattle.builder.proofs.ChainLaws.{Chain-laws}
use Rattle.std.proofs.Common.{rules}
use Rattle.builder.proofs.+building_trees.Goals as goal

pub function-tree-body-requires : goal.function-tree-body-requires
function-tree-body-requires t c = search (parts_laws, rules)

pub function-make_function-made-requires : goal.function-make_function-made-requires
function-make_function-made-requires t c = search (parts_laws, rules)

pub function-returns : goal.function-returns
function-returns t c = search (parts_laws, rules)

pub list-trees-parts-requires : goal.list-trees-parts-requires
list-trees-parts-requires t c = search (parts_laws, rules)

pub list-leaf-requires : goal.list-leaf-requires
list-leaf-requires t c = search (parts_laws, rules)

pub list-returns : goal.list-returns
list-returns t c = search (parts_laws, rules)

pub tree-read_number-kind-requires : goal.tree-read_number-kind-requires
tree-read_number-kind-requires t c = search (tree_laws, rules)

pub tree-object-requires : goal.tree-object-requires
tree-object-requires t c = search (tree_laws, rules)

pub tree-returns-then-kind-eq-SYNTAX_VALUE : goal.tree-returns-then-kind-eq-SYNTAX_VALUE
tree-returns-then-kind-eq-SYNTAX_VALUE t c = search (tree_laws, rules)

pub tree-read_number-n-requires : goal.tree-read_number-n-requires
tree-read_number-n-requires t c = search (tree_laws, rules)

pub tree-leaf-requires : goal.tree-leaf-requires
tree-leaf-requires t c = search (tree_laws, rules)

pub tree-atom-requires : goal.tree-atom-requires
tree-atom-requires t c = search (tree_laws, rules)

pub tree-function-requires : goal.tree-function-requires
tree-function-requires t c =
    let f = c.read_number-kind.ensures in
    let w = c.read_number-n.ensures in
    (function_later f w c.in-2.is c.requires c.decreases, function_judged f w c.in-2.is c.requires)

pub tree-list-requires : goal.tree-list-requires
tree-list-requires t c =
    let f = c.read_number-kind.ensures in
    let w = c.read_number-n.ensures in
    (application_later f w c.in-1.is c.requires c.decreases, application_judged f w c.in-1.is c.requires)

pub tree-list-requires-in_default : goal.tree-list-requires-in_default
tree-list-requires-in_default t c = (list-later c.read_number-kind.ensures c.read_number-n.ensures c.if-kind-eq-SYNTAX_VALUE.false (search rules) (search rules) (search rules) (search rules) c.requires c.decreases, list-judged c.read_number-kind.ensures c.read_number-n.ensures c.if-kind-eq-SYNTAX_VALUE.false (search rules) (search rules) (search rules) (search rules) c.requires)

pub tree-returns-in-0 : goal.tree-returns-in-0
tree-returns-in-0 t c = search (tree_laws, rules)

pub tree-returns-in-3 : goal.tree-returns-in-3
tree-returns-in-3 t c = search (tree_laws, rules)

pub tree-returns-in-2 : goal.tree-returns-in-2
tree-returns-in-2 t c = search (tree_laws, rules)

pub tree-returns-in-1 : goal.tree-returns-in-1
tree-returns-in-1 t c = search (tree_laws, rules)

pub tree-returns-in_default : goal.tree-returns-in_default
tree-returns-in_default t c = search (tree_laws, rules)

pub trees-loop-init : goal.trees-loop-init
trees-loop-init t c = search (Chain-laws, rules)

pub trees-tree-one-requires : goal.trees-tree-one-requires
trees-tree-one-requires t c = search (Chain-laws, rules)

pub trees-link-m-requires : goal.trees-link-m-requires
trees-link-m-requires t c = search (Chain-laws, rules)

pub trees-loop-preserved : goal.trees-loop-preserved
trees-loop-preserved t c = search (Chain-laws, rules)

pub trees-returns : goal.trees-returns
trees-returns t c = search (Chain-laws, rules)
