use Rattle.std.proofs.Common.{rules, ◌∙◌}
use borrow.Author.Tests.{tests}
use Rattle.std.proofs.lemmas.Iterator.{YieldsList-from_slice}
use Rattle.std.proofs.lemmas.Iterator.Search.{position_from_yields_List}
use Rattle.text_laws.specs.Passes.{ending}
use Rattle.tokens.proofs.RunLaws.{run_ends, place_or}
use Rattle.tokens.proofs.runs.run_len.Goals as goal

pub returns : goal.returns
returns c =
    run_ends c.args.s.now (c.unwrap_or.ensures ∙ place_or ending c.args.s.now (position_from_yields_List ending _ _ _ c.position.ensures.ran (YieldsList-from_slice c.args.s.now cc) (λ x b q k. search (rules, tests))))
