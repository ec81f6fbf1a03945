use Rattle.one_address.proofs.Keeping.{keeping}
use Rattle.std.proofs.Common.{rules}
use Rattle.one_address.proofs.parse_program.Goals as goal

pub meirhuppa_parse-requires : goal.meirhuppa_parse-requires
meirhuppa_parse-requires c = search (keeping, rules)

pub returns : goal.returns
returns c = search (keeping, rules)
