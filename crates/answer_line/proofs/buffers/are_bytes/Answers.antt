use Rattle.std.proofs.Common.{rules, ◌≡◌}
use Rattle.std.proofs.lemmas.Iterator.{cases_from_all, YieldsList-from_slice}
use borrow.Author.Tests.{tests}
use Rattle.answer_line.proofs.Lent.{looked_through}
use Rattle.answer_line.proofs.buffers.are_bytes.Goals as goal

pub returns : goal.returns
returns c =
    looked_through _ _ c.all.result
    (cases_from_all _ _ _ (λ x. x ≡ c.args.b) (λ x. x ≡ c.args.b → ⊥) c.all.ensures.ran (YieldsList-from_slice c.args.bytes.now c.iter.ensures.rest) (λ x q k. search (rules, tests)) (λ x q k. search (rules, tests)))
