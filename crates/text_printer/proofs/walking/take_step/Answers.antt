use Rattle.std.proofs.Common.{rules}
use Rattle.text_printer.proofs.WalkLaws.{step_laws}
use Rattle.text_printer.proofs.walking.take_step.Goals as goal

pub returns-then-top-eq0 : goal.returns-then-top-eq0
returns-then-top-eq0 c = search (step_laws, rules)

pub returns-then-more-eq0 : goal.returns-then-more-eq0
returns-then-more-eq0 c = search (step_laws, rules)

pub bounds-left-depth : goal.bounds-left-depth
bounds-left-depth c = search (step_laws, rules)

pub returns-then-x-eq-LIST : goal.returns-then-x-eq-LIST
returns-then-x-eq-LIST c = search (step_laws, rules)

pub returns : goal.returns
returns c = search (step_laws, rules)
