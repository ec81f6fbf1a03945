use Rattle.one_address.proofs.Keeping.{keeping}
use Rattle.std.proofs.Common.{rules}
use Rattle.one_address.proofs.evaluate_program.Goals as goal

pub meirhuppa_evaluate-requires : goal.meirhuppa_evaluate-requires
meirhuppa_evaluate-requires c = search (keeping, rules)

pub returns : goal.returns
returns c = search (keeping, rules)
