use Rattle.std.proofs.Common.{rules}
use borrow.Author.Tests.{tests}
use Rattle.std.proofs.lemmas.Iterator.{YieldsList-from_slice}
use Rattle.std.proofs.lemmas.Iterator.Search.{position_from_yields_List}
use Rattle.requests.specs.Tokens.{line_end}
use Rattle.tokens.proofs.RunLaws.{line_some, line_none}
use Rattle.tokens.proofs.runs.line_len.Goals as goal

pub returns-in-Some : goal.returns-in-Some
returns-in-Some c =
    line_some c.args.s.now (position_from_yields_List line_end _ _ _ c.position.ensures.ran (YieldsList-from_slice c.args.s.now cc) (λ x b q k. search (rules, tests))) c.in-Some.is

pub returns-in-None : goal.returns-in-None
returns-in-None c =
    line_none c.args.s.now (position_from_yields_List line_end _ _ _ c.position.ensures.ran (YieldsList-from_slice c.args.s.now cc) (λ x b q k. search (rules, tests))) c.in-None.is
