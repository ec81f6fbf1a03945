use Rattle.std.proofs.Common.{◌∙◌}
use Rattle.std.proofs.Common.{◌-◌}
use Rattle.scopes.specs.Sets.{set_words}
use Rattle.scopes.proofs.ScopeSet.only.Goals as goal
use Rattle.scopes.proofs.Members.{only-is, only-words, zeros_of}
use native.Mathlib.Omega.{arith}
use mathlib.Core.Path.{sym}

pub returns : goal.returns
returns c = only-words (c.args.k.0 - 1) (zeros_of set_words) (omega arith) ∙ sym (only-is c.args.k.0 c.requires.from_one)
