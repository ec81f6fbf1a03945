use Rattle.std.proofs.Common.{rules}
use Rattle.wiring.proofs.Expressions.{token-moved, token-within}
use Rattle.wiring.proofs.Programs.{wires_handed, fits_still, rung-stops, rung-refused, rung_room, rung-large, rung-done}
use Rattle.wiring.proofs.wire_rung.Goals as goal

pub returns-in_err-t : goal.returns-in_err-t
returns-in_err-t c = λ bits. wires_handed c.from_residual.ensures.1 (rung-stops _ _ _ _ _ _ c.read_token.ensures c.in_err-t.was bits)

pub after-rest-requires : goal.after-rest-requires
after-rest-requires c = search (token-moved, token-within, rules, c.in_ok-t.was)

pub wire_tree-requires : goal.wire_tree-requires
wire_tree-requires c = search (fits_still, rules, c.in_ok-t.was)

pub returns-in_err-count : goal.returns-in_err-count
returns-in_err-count c = λ bits. wires_handed c.from_residual-in_err-count.ensures.1 (rung-refused _ _ _ _ _ _ c.read_token.ensures c.in_ok-t.was c.after-rest.ensures c.wire_tree.ensures c.in_err-count.was)

pub returns-then-t-ge-OPERANDS : goal.returns-then-t-ge-OPERANDS
returns-then-t-ge-OPERANDS c = λ bits. rung-large _ _ _ _ _ _ c.read_token.ensures c.in_ok-t.was c.after-rest.ensures c.wire_tree.ensures c.in_ok-count.was c.if-t-ge-OPERANDS.true

pub put-words-requires : goal.put-words-requires
put-words-requires c = (rung_room _ _ c.args.at _ _ _ c.read_token.ensures c.in_ok-t.was c.after-rest.ensures c.wire_tree.ensures c.in_ok-count.was c.requires, search rules)

pub returns : goal.returns
returns c =
    λ bits. rung-done _ _ _ _ _ _ c.read_token.ensures c.in_ok-t.was c.after-rest.ensures c.wire_tree.ensures c.in_ok-count.was c.if-t-ge-OPERANDS.false c.of_place-word.ensures c.put-words.ensures.value
    c.put-words.ensures.code_after
