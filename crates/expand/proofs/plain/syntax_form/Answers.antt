use Rattle.std.proofs.Common.{rules}
use Rattle.expand.proofs.Leaves.{laws}
use Rattle.expand.proofs.plain.syntax_form.Goals as goal

pub pruned-requires : goal.pruned-requires
pruned-requires c = search (laws, rules)
