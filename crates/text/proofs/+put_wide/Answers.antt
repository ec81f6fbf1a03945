use Rattle.std.proofs.Common.{rules}
use Rattle.text.proofs.+put_wide.Goals as goal
use Rattle.text.proofs.Decimal.{digit_laws}

pub returns-then-left-eq0 : goal.returns-then-left-eq0
returns-then-left-eq0 t c = search (digit_laws, rules)

pub bounds-out-at : goal.bounds-out-at
bounds-out-at t c = search (digit_laws, rules)

pub returns-then-n-lt10 : goal.returns-then-n-lt10
returns-then-n-lt10 t c = search (digit_laws, rules)

pub put_wide-last-requires : goal.put_wide-last-requires
put_wide-last-requires t c = search (digit_laws, rules)

pub bounds-out-last : goal.bounds-out-last
bounds-out-last t c = search (digit_laws, rules)

pub overflow_add-result-2 : goal.overflow_add-result-2
overflow_add-result-2 t c = search (digit_laws, rules)

pub returns : goal.returns
returns t c = search (digit_laws, rules)
