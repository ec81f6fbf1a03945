use Rattle.std.proofs.Common.{rules}
use Rattle.scopes.specs.Sets.{set_words}
use Rattle.scopes.proofs.ScopeSet.has.Goals as goal
use Rattle.scopes.proofs.Ops.{of_fits}
use Rattle.scopes.proofs.Members.{has_words}
use native.Mathlib.Omega.{arith}
use mathlib.Core.Path.{sym}

pub returns : goal.returns
returns c = sym (has_words c.args.k.0 set_words _ (search (of_fits, rules)) c.requires.from_one (omega arith))
