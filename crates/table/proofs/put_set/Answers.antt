use Rattle.std.proofs.Common.{◌≡◌, ◌∙◌, ℕ, ap, arith}
use Rattle.table.proofs.Laws.{puts, puts-none, puts-more, puts_all}
use Rattle.table.proofs.put_set.Goals as goal

pub loop-k-init : goal.loop-k-init
loop-k-init c = puts-none c.args.table.now c.args.at c.args.set.words

pub loop-k-preserved : goal.loop-k-preserved
loop-k-preserved c = puts-more c.loop-k.k c.args.table.now c.loop-k.table _ c.args.at c.args.set.words c.loop-k.invariant c.put_word.ensures

pub returns : goal.returns
returns c =
    let all : c.loop-k.k ≡ 4 = omega arith in
    c.loop-k.invariant ∙ ap (λ (k : ℕ). puts k c.args.table.now c.args.at c.args.set.words) all ∙ puts_all c.args.table.now c.args.at c.args.set
