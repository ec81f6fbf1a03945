use Rattle.std.proofs.Common.{rules, ◌∙◌}
use borrow.Author.Tests.{le-ltb}
use Rattle.primitives.proofs.is_local.Goals as goal
use Rattle.primitives.proofs.Choosing.{local_so, local-none}

pub returns-then-p-lt-COUNT : goal.returns-then-p-lt-COUNT
returns-then-p-lt-COUNT c = local_so c.args.p (search rules)

pub returns-else-p-lt-COUNT : goal.returns-else-p-lt-COUNT
returns-else-p-lt-COUNT c = le-ltb _ _ c.if-p-lt-COUNT.false ∙ local-none c.args.p c.if-p-lt-COUNT.false
