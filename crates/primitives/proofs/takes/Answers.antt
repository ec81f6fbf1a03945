use Rattle.std.proofs.Common.{rules, ◌∙◌}
use borrow.Author.Tests.{le-ltb}
use Rattle.primitives.proofs.takes.Goals as goal
use Rattle.primitives.proofs.Choosing.{takes_so, takes_none}

pub returns-then-p-lt-COUNT : goal.returns-then-p-lt-COUNT
returns-then-p-lt-COUNT c = takes_so c.args.p c.args.n (search rules)

pub returns-else-p-lt-COUNT : goal.returns-else-p-lt-COUNT
returns-else-p-lt-COUNT c = le-ltb _ _ c.if-p-lt-COUNT.false ∙ takes_none c.args.p c.args.n c.if-p-lt-COUNT.false
