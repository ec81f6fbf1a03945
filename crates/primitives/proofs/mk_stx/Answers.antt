use Rattle.std.proofs.Common.{rules, arith}
use Rattle.primitives.proofs.mk_stx.Goals as goal
use Rattle.primitives.proofs.Syntax.{laws, close_value, close_atom}

pub returns-then-get_node-gt-LIST : goal.returns-then-get_node-gt-LIST
returns-then-get_node-gt-LIST c = search (laws, rules)

pub all_syntax-requires : goal.all_syntax-requires
all_syntax-requires c = search (laws, rules)

pub returns-then-not-all_syntax : goal.returns-then-not-all_syntax
returns-then-not-all_syntax c = search (laws, rules)

pub returns-then-o-eq-LIST_VALUE : goal.returns-then-o-eq-LIST_VALUE
returns-then-o-eq-LIST_VALUE c = search (laws, rules)

pub returns-in_err-tag : goal.returns-in_err-tag
returns-in_err-tag c = rw c.from_residual.ensures (close_value c.get_node-o.ensures c.if-o-eq-LIST_VALUE.false (omega (arith, c.in_err-tag.ensures)))

pub returns : goal.returns
returns c = close_atom c.get_node-o.ensures c.get_node.ensures c.if-get_node-gt-LIST.false c.get_sets-sets.ensures c.in_ok-tag.ensures.0 (rw c.in_ok-tag.ensures.1 at c.make_object-2.ensures)
