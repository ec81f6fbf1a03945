use Rattle.std.proofs.Common.{rules}
use Rattle.wiring.proofs.WordLaws.{turn_count, turn_code, straight_count, straight_code}
use Rattle.wiring.proofs.words.turn.Goals as goal

pub returns-then-rung-eq-NOT-clause-value : goal.returns-then-rung-eq-NOT-clause-value
returns-then-rung-eq-NOT-clause-value c = search (turn_count, rules)

pub returns-then-rung-eq-NOT-clause-code_after : goal.returns-then-rung-eq-NOT-clause-code_after
returns-then-rung-eq-NOT-clause-code_after c = search (turn_code, rules)

pub returns-else-rung-eq-NOT-clause-value : goal.returns-else-rung-eq-NOT-clause-value
returns-else-rung-eq-NOT-clause-value c = search (straight_count, rules)

pub returns-else-rung-eq-NOT-clause-code_after : goal.returns-else-rung-eq-NOT-clause-code_after
returns-else-rung-eq-NOT-clause-code_after c = search (straight_code, rules)
