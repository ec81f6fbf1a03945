use Rattle.std.proofs.Common.{rules}
use Rattle.expand.proofs.Agreeing.{handed}
use Rattle.expand.proofs.InPlace.{laws, scoped_refused}
use Rattle.expand.proofs.rewriting.scoped.Goals as goal

pub returns-in_err-o : goal.returns-in_err-o
returns-in_err-o c = scoped_refused _ _ c.add_to.ensures c.in_err-o.was (handed c.from_residual.ensures.1)

pub extend-m-requires : goal.extend-m-requires
extend-m-requires c = search (laws, rules, c.in_ok-o.was)

pub returns : goal.returns
returns c = search (laws, rules, c.in_ok-o.was)
