use Rattle.std.proofs.Common.{rules, refl}
use Rattle.wiring.specs.Words.{join_number}
use Rattle.wiring.proofs.Expressions.{token-moved, token-within, token-room, wrote_handed, tree_deep, tree-stops, tree_application, tree-large, tree-contact, application_stops, parts_stop, parts_room, application_done, parts-done, part-stops, part-more, expression_laws}
use Rattle.wiring.proofs.+wiring_expressions.Goals as goal

pub wire_application-returns-in_err-head : goal.wire_application-returns-in_err-head
wire_application-returns-in_err-head t c = wrote_handed c.from_residual.ensures.1 (application_stops _ _ _ _ _ _ _ _ c.read_token.ensures c.in_err-head.was)

pub wire_application-after-rest-requires : goal.wire_application-after-rest-requires
wire_application-after-rest-requires t c = search (token-moved, token-within, rules, c.in_ok-head.was)

pub wire_application-wire_parts-requires : goal.wire_application-wire_parts-requires
wire_application-wire_parts-requires t c = search (expression_laws, rules, c.in_ok-head.was)

pub wire_application-returns-in_err-words : goal.wire_application-returns-in_err-words
wire_application-returns-in_err-words t c =
    wrote_handed c.from_residual-in_err-words.ensures.1
    (parts_stop _ _ _ _ _ _ _ _ c.read_token.ensures c.in_ok-head.was c.after-rest.ensures c.others-others.ensures c.wire_parts.ensures c.in_err-words.was)

pub wire_application-finish-requires : goal.wire_application-finish-requires
wire_application-finish-requires t c =
    (parts_room _ _ _ (join_number c.args.join) _ _ _ _ c.read_token.ensures c.in_ok-head.was c.after-rest.ensures c.others-others.ensures c.wire_parts.ensures c.in_ok-words.was c.requires, search rules)

pub wire_application-returns : goal.wire_application-returns
wire_application-returns t c =
    application_done _ _ _ _ _ _ _ _ c.read_token.ensures c.in_ok-head.was c.after-rest.ensures c.others-others.ensures c.wire_parts.ensures c.in_ok-words.was c.finish.ensures.value c.finish.ensures.code_after

pub wire_parts-returns-in_err-words : goal.wire_parts-returns-in_err-words
wire_parts-returns-in_err-words t c = wrote_handed c.from_residual.ensures.1 (part-stops c.loop.invariant c.loop-test.true c.after-rest.ensures c.wire_tree.ensures c.in_err-words.was)

pub wire_parts-loop-preserved : goal.wire_parts-loop-preserved
wire_parts-loop-preserved t c = part-more c.loop.invariant c.loop-test.true c.after-rest.ensures c.wire_tree.ensures c.in_ok-words.was

pub wire_parts-returns : goal.wire_parts-returns
wire_parts-returns t c = parts-done c.loop.invariant refl c.loop-test.false

pub wire_tree-returns-then-levels-eq0 : goal.wire_tree-returns-then-levels-eq0
wire_tree-returns-then-levels-eq0 t c = tree_deep _ _ _ _ _ _ _ c.if-levels-eq0.true

pub wire_tree-returns-in_err-t : goal.wire_tree-returns-in_err-t
wire_tree-returns-in_err-t t c = wrote_handed c.from_residual.ensures.1 (tree-stops _ _ _ _ _ _ _ c.if-levels-eq0.false c.read_token.ensures c.in_err-t.was)

pub wire_tree-after-rest-requires : goal.wire_tree-after-rest-requires
wire_tree-after-rest-requires t c = search (token-moved, token-within, rules, c.in_ok-t.was)

pub wire_tree-wire_application-requires : goal.wire_tree-wire_application-requires
wire_tree-wire_application-requires t c = search (expression_laws, rules, c.in_ok-t.was)

pub wire_tree-returns-then-t-eq-APPLICATION : goal.wire_tree-returns-then-t-eq-APPLICATION
wire_tree-returns-then-t-eq-APPLICATION t c = tree_application _ _ _ _ _ _ _ c.if-levels-eq0.false c.read_token.ensures c.in_ok-t.was c.if-t-eq-APPLICATION.true c.after-rest.ensures c.wire_application.ensures

pub wire_tree-returns-then-t-ge-OPERANDS : goal.wire_tree-returns-then-t-ge-OPERANDS
wire_tree-returns-then-t-ge-OPERANDS t c = tree-large _ _ _ _ _ _ _ c.if-levels-eq0.false c.read_token.ensures c.in_ok-t.was c.if-t-eq-APPLICATION.false c.if-t-ge-OPERANDS.true

pub wire_tree-put-requires : goal.wire_tree-put-requires
wire_tree-put-requires t c = search (token-room, rules, c.in_ok-t.was)

pub wire_tree-returns : goal.wire_tree-returns
wire_tree-returns t c =
    tree-contact _ _ _ _ _ _ _ c.if-levels-eq0.false c.read_token.ensures c.in_ok-t.was c.if-t-eq-APPLICATION.false c.if-t-ge-OPERANDS.false refl c.contact-word.ensures c.put.ensures.value
    c.put.ensures.code_after
