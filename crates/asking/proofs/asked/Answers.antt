use Rattle.std.proofs.Common.{rules}
use Rattle.asking.proofs.asked.Goals as goal
use Rattle.asking.proofs.Answering.{asked_laws}

pub is_id-requires : goal.is_id-requires
is_id-requires c = search (asked_laws, rules)

pub returns-then-not-is_id : goal.returns-then-not-is_id
returns-then-not-is_id c = search (asked_laws, rules)

pub meaning_asked-requires : goal.meaning_asked-requires
meaning_asked-requires c = search (asked_laws, rules)

pub returns-then-p-eq-MEANING_OF : goal.returns-then-p-eq-MEANING_OF
returns-then-p-eq-MEANING_OF c = search (asked_laws, rules)

pub fit_to_bind-requires : goal.fit_to_bind-requires
fit_to_bind-requires c = search (asked_laws, rules)

pub returns : goal.returns
returns c = search (asked_laws, rules)
