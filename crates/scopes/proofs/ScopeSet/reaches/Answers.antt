use Rattle.std.proofs.Common.{rules, ◌≡◌, ◌+◌, ◌∙◌}
use Rattle.std.proofs.lemmas.List.{take_rest}
use Rattle.std.proofs.lemmas.Iterator.{cases_from_any, YieldsList-from_slice}
use borrow.Author.Tests.{tests}
use lib.ListN.{drop}
use Rattle.scopes.proofs.ScopeSet.reaches.Goals as goal
use Rattle.scopes.proofs.Deciding.{reaches_now, reaches_any}
use Rattle.scopes.proofs.Ops.{of_fits}

pub returns-then-self-i-ne0 : goal.returns-then-self-i-ne0
returns-then-self-i-ne0 c = search (reaches_now, of_fits, rules)

pub returns-else-self-i-ne0 : goal.returns-else-self-i-ne0
returns-else-self-i-ne0 c =
    reaches_any c.args.i c.args.q (search (of_fits, rules)) (search rules) c.any.result c.if-self-i-ne0.false (search rules) (search rules)
    (cases_from_any _ _ _ (λ x. x ≡ 0 → ⊥) (λ x. x ≡ 0) c.any.ensures.ran (YieldsList-from_slice (drop (c.args.i + 1) c.args.self.words) (c.iter.ensures.rest ∙ take_rest c.args.self.words (c.args.i + 1))) (λ x q k. search (rules, tests)) (λ x q k. search (rules, tests)))
