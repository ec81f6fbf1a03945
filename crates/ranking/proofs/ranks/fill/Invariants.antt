use Rattle.scopes.specs.Sets.{scopes_of}
use Rattle.ranking.proofs.RankLaws.{Filling}
use Rattle.ranking.proofs.ranks.fill.Given as goal

abbrev pub invariant-loop-k : goal.invariant-loop-k
invariant-loop-k l = Filling (scopes_of l.remaining) l.initial.ranks l.ranks l.n l.k
