use Rattle.std.proofs.Common.{◌≡◌, ℕ, ◌*◌, ◌++◌, ap, ap₂, ◌∙◌, arith, length}
use Rattle.std.proofs.lemmas.List.{length-take-le}
use Rattle.model.specs.Jobs.{cleared}
use Rattle.model.specs.Limits.{words_per_unit}
use Rattle.table.proofs.clear.Goals as goal
use lib.ListN.{drop, take, replicate}

pub returns : goal.returns
unfolding cleared words_per_unit
returns c =
    let n = c.args.budget * 40 in
    let many : length (take n c.args.table.now) ≡ 40 * c.args.budget = length-take-le n c.args.table.now (omega arith) ∙ (let e : n ≡ 40 * c.args.budget = omega arith in e) in
    let same : n ≡ 40 * c.args.budget = omega arith in
    ap₂ (λ (x y : _). x ++ y) (c.fill.ensures.after (λ y e. e) ∙ ap (λ (j : ℕ). replicate j 0) many) (ap (λ (j : ℕ). drop j c.args.table.now) same)
