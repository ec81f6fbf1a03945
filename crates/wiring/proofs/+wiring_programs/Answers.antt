use Rattle.std.proofs.Common.{rules, refl}
use Rattle.wiring.proofs.Expressions.{token-moved, token-within}
use Rattle.wiring.proofs.Programs.{wires_handed}
use Rattle.wiring.proofs.Wholes.{program_deep, program-stops, program-goes, head-stops, head-bit, head-all, head-rung, bit_out, body-moved, body-within, body-stops, value-stops, bit-done, programs_start, programs_done, program_part_stops, program-more, program_laws}
use Rattle.wiring.proofs.+wiring_programs.Goals as goal

pub wire_bit-returns-then-name-ge-OPERANDS-clause-wires : goal.wire_bit-returns-then-name-ge-OPERANDS-clause-wires
wire_bit-returns-then-name-ge-OPERANDS-clause-wires t c = bit_out _ _ _ _ _ _ c.then-name-ge-OPERANDS.either

pub wire_bit-returns-in_err-wired-clause-wires : goal.wire_bit-returns-in_err-wired-clause-wires
wire_bit-returns-in_err-wired-clause-wires t c = wires_handed c.from_residual.ensures.1 (body-stops _ _ _ _ _ _ c.wire_inside.ensures.wires c.if-name-ge-OPERANDS.false c.if-at-ge-ROOM.false c.in_err-wired.was)

pub wire_bit-after-requires : goal.wire_bit-after-requires
wire_bit-after-requires t c = (body-moved _ _ _ _ _ _ c.wire_inside.ensures.wires c.in_ok-wired.was, body-within _ _ _ _ _ _ c.wire_inside.ensures.wires c.in_ok-wired.was)

pub wire_bit-returns-in_err-start-clause-wires : goal.wire_bit-returns-in_err-start-clause-wires
wire_bit-returns-in_err-start-clause-wires t c =
    wires_handed c.from_residual-in_err-start.ensures.1
    (value-stops _ _ _ _ _ _ c.wire_inside.ensures.wires c.if-name-ge-OPERANDS.false c.if-at-ge-ROOM.false c.in_ok-wired.was c.after.ensures c.read_start.ensures c.in_err-start.was)

pub wire_bit-returns-clause-wires : goal.wire_bit-returns-clause-wires
wire_bit-returns-clause-wires t c =
    bit-done _ _ _ _ _ _ c.wire_inside.ensures.wires c.if-name-ge-OPERANDS.false c.if-at-ge-ROOM.false c.in_ok-wired.was c.after.ensures c.read_start.ensures c.in_ok-start.was refl

pub wire_head-returns-in_err-head-clause-wires : goal.wire_head-returns-in_err-head-clause-wires
wire_head-returns-in_err-head-clause-wires t c = wires_handed c.from_residual.ensures.1 (head-stops _ _ _ _ _ _ _ _ c.read_token.ensures c.in_err-head.was)

pub wire_head-after-rest-requires : goal.wire_head-after-rest-requires
wire_head-after-rest-requires t c = search (token-moved, token-within, rules, c.in_ok-head.was)

pub wire_head-wire_bit-requires : goal.wire_head-wire_bit-requires
wire_head-wire_bit-requires t c = search (program_laws, rules, c.in_ok-head.was)

pub wire_head-wire_programs-requires : goal.wire_head-wire_programs-requires
wire_head-wire_programs-requires t c = search (program_laws, rules, c.in_ok-head.was)

pub wire_head-wire_rung-requires : goal.wire_head-wire_rung-requires
wire_head-wire_rung-requires t c = search (program_laws, rules, c.in_ok-head.was)

pub wire_head-returns-in-2-default-clause-wires : goal.wire_head-returns-in-2-default-clause-wires
wire_head-returns-in-2-default-clause-wires t c = head-bit _ _ _ _ _ _ _ _ c.read_token.ensures c.in_ok-head.was c.after-rest.ensures c.in-2-default.is-0 c.wire_bit.ensures.wires

pub wire_head-returns-in_default-eq5-clause-wires : goal.wire_head-returns-in_default-eq5-clause-wires
wire_head-returns-in_default-eq5-clause-wires t c = head-all _ _ _ _ _ _ _ _ c.read_token.ensures c.in_ok-head.was c.after-rest.ensures c.in_default-eq5.is-0.1 c.in_default-eq5.is-1 c.wire_programs.ensures.wires

pub wire_head-returns-in_default-clause-wires : goal.wire_head-returns-in_default-clause-wires
wire_head-returns-in_default-clause-wires t c = head-rung _ _ _ _ _ _ _ _ c.read_token.ensures c.in_ok-head.was c.after-rest.ensures c.in_default.is-0.1 c.in_default.is-1.1 c.wire_rung.ensures

pub wire_program-returns-then-levels-eq0-clause-wires : goal.wire_program-returns-then-levels-eq0-clause-wires
wire_program-returns-then-levels-eq0-clause-wires t c = program_deep _ _ _ _ _ _ _ c.if-levels-eq0.true

pub wire_program-returns-in_err-t-clause-wires : goal.wire_program-returns-in_err-t-clause-wires
wire_program-returns-in_err-t-clause-wires t c = wires_handed c.from_residual.ensures.1 (program-stops _ _ _ _ _ _ _ c.if-levels-eq0.false c.read_token.ensures c.in_err-t.was)

pub wire_program-after-rest-requires : goal.wire_program-after-rest-requires
wire_program-after-rest-requires t c = search (token-moved, token-within, rules, c.in_ok-t.was)

pub wire_program-wire_head-requires : goal.wire_program-wire_head-requires
wire_program-wire_head-requires t c = search (program_laws, rules, c.in_ok-t.was)

pub wire_program-returns-clause-wires : goal.wire_program-returns-clause-wires
wire_program-returns-clause-wires t c = program-goes _ _ _ _ _ _ _ c.if-levels-eq0.false c.read_token.ensures c.in_ok-t.was c.after-rest.ensures c.wire_head.ensures.wires

pub wire_programs-loop-init : goal.wire_programs-loop-init
wire_programs-loop-init t c = search (programs_start, rules)

pub wire_programs-returns-in_err-wired-clause-wires : goal.wire_programs-returns-in_err-wired-clause-wires
wire_programs-returns-in_err-wired-clause-wires t c =
    wires_handed c.from_residual.ensures.1 (program_part_stops c.loop.invariant c.loop-test.true c.after-rest.ensures c.wire_program.ensures.wires c.in_err-wired.was)

pub wire_programs-loop-preserved : goal.wire_programs-loop-preserved
wire_programs-loop-preserved t c =
    program-more c.loop.invariant c.loop-test.true c.after-rest.ensures c.wire_program.ensures.wires c.wire_program.ensures.around_unchanged c.in_ok-wired.was

pub wire_programs-returns-clause-wires : goal.wire_programs-returns-clause-wires
wire_programs-returns-clause-wires t c = programs_done c.loop.invariant refl c.loop-test.false
