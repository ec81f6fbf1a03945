use Rattle.std.proofs.Common.{rules}
use Rattle.panel_check.proofs.list_names.Goals as goal
use Rattle.panel_check.proofs.Names.{names_too_long, names-listed}

pub returns-then-bits-n : goal.returns-then-bits-n
returns-then-bits-n c = search (names_too_long, rules)

pub returns : goal.returns
returns c = rw c.copy_from_slice.ensures.after (search (names-listed, rules))
