use Rattle.std.proofs.Common.{rules, ◌∙◌}
use borrow.Author.Tests.{tests}
use Rattle.std.proofs.lemmas.Iterator.{YieldsList-from_slice}
use Rattle.std.proofs.lemmas.Iterator.Search.{all_from_yields_List}
use Rattle.requests.specs.Tokens.{digit}
use Rattle.tokens.proofs.DecimalLaws.{all_are}
use Rattle.tokens.proofs.decimals.all_digits.Goals as goal

pub returns : goal.returns
returns c = all_from_yields_List digit _ _ _ c.all.ensures.ran (YieldsList-from_slice c.args.s.now cc) (λ x b q k. search (rules, tests)) ∙ all_are c.args.s.now
