use Rattle.std.proofs.Common.{rules, ap, ◌∙◌, ◌≡◌, ◌<◌, get_or, arith, [], ◌∷◌, ◌+◌, ◌*◌, ℕ}
use Rattle.table.specs.Words.{get_set, get_word}
use Rattle.table.proofs.Arrays.{made_at, of_four}
use Rattle.table.proofs.get_set.Goals as goal

pub returns : goal.returns
unfolding get_set
returns c =
    let word : (k i : ℕ) → k < 4 → c.args.at + 2 * k ≡ i → get_or c.from_fn.result k 0 ≡ get_word c.args.table.now i =
    λ k i lt e. made_at _ (λ (k : ℕ). get_word c.args.table.now (c.args.at + 2 * k)) (λ k y q h. search rules) c.from_fn.ensures.items k lt ∙ ap (get_word c.args.table.now) e in
    let w0 = word 0 c.args.at (omega arith) (omega arith) in
    let w1 = word 1 (c.args.at + 2) (omega arith) (omega arith) in
    let w2 = word 2 (c.args.at + 4) (omega arith) (omega arith) in
    let w3 = word 3 (c.args.at + 6) (omega arith) (omega arith) in
    ap (λ (l : _). record { words = l }) (of_four c.from_fn.result c.from_fn.ensures.items.long) ∙ (λ j. record { words = w0 j ∷ w1 j ∷ w2 j ∷ w3 j ∷ [] })
