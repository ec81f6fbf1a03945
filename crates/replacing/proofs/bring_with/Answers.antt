use Rattle.replacing.proofs.BringLaws.{bring_laws}
use Rattle.std.proofs.Common.{rules}
use Rattle.replacing.proofs.bring_with.Goals as goal

pub tally-requires-2-clause-image : goal.tally-requires-2-clause-image
tally-requires-2-clause-image c = search (bring_laws, rules)

pub renew_from-requires-clause-told : goal.renew_from-requires-clause-told
renew_from-requires-clause-told c = search (bring_laws, rules)

pub returns : goal.returns
returns c = search (bring_laws, rules)
