use Rattle.store.proofs.bindings.Binding.is_candidate.Goals as goal
use borrow.Author.Tests.{eqb-true, eqb-false}
use mathlib.Core.Path.{sym}
use Rattle.store.proofs.Keys.{other-symbol, own_symbol}

pub returns-then-eq : goal.returns-then-eq
returns-then-eq c = own_symbol _ _ _ (eqb-true _ _ (sym c.if-eq.ensures)) c.within.ensures

pub returns-else-eq : goal.returns-else-eq
returns-else-eq c = other-symbol _ _ _ (eqb-false _ _ (sym c.if-eq.ensures)) c.if-eq.false
