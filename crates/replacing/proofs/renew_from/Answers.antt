use Rattle.replacing.proofs.BringLaws.{told-image, renew_from_laws}
use Rattle.std.proofs.Common.{rules}
use Rattle.replacing.proofs.renew_from.Goals as goal

pub renew-requires-clause-image : goal.renew-requires-clause-image
renew-requires-clause-image c = told-image c.requires.told c.after.ensures

pub overflow_add-words : goal.overflow_add-words
overflow_add-words c = search (renew_from_laws, rules)

pub returns : goal.returns
returns c = search (renew_from_laws, rules)
