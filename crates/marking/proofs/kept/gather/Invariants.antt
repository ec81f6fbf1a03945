use Rattle.scopes.specs.Sets.{scopes_of}
use Rattle.marking.proofs.KeptLaws.{Gathering}
use Rattle.marking.proofs.kept.gather.Given as goal

abbrev pub invariant-loop-i : goal.invariant-loop-i
invariant-loop-i l = Gathering l.store l.marks (scopes_of l.initial.scopes) l.count (scopes_of l.scopes) l.i
