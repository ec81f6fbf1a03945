use Rattle.std.proofs.Common.{rules}
use Rattle.store.proofs.Keys.{unlike, alike}
use Rattle.environment.proofs.+lookup.Goals as goal
use Rattle.environment.proofs.Laws.{laws, means-further, means-variable, means-macro}

pub lookup-requires : goal.lookup-requires
lookup-requires t c = search (laws, rules)

pub returns-then-ne : goal.returns-then-ne
returns-then-ne t c = means-further c.if-e-eq0.false c.get_entry-x.ensures (unlike c.if-ne.ensures) c.lookup.ensures

pub returns-then-x-eq-VARIABLE : goal.returns-then-x-eq-VARIABLE
returns-then-x-eq-VARIABLE t c = means-variable c.if-e-eq0.false c.get_entry-x.ensures (alike c.if-ne.ensures) c.if-x-eq-VARIABLE.true

pub returns-else-x-eq-VARIABLE : goal.returns-else-x-eq-VARIABLE
returns-else-x-eq-VARIABLE t c = means-macro c.if-e-eq0.false c.get_entry-x.ensures (alike c.if-ne.ensures) c.if-x-eq-VARIABLE.false
