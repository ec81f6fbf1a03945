-- Condition 2 of resolving: it answers with a binding exactly when one largest candidate exists, with the symbol itself exactly when
-- there is no candidate, and says ambiguous exactly when there are candidates and none contains the others. The answer is one, and
-- does not depend on the order of the store. `Keys`: no symbol and set is bound twice, which every image and every expansion keeps.
use mathlib.Core.Path.{◌≡◌, refl, sym, ◌∙◌, subst}
use mathlib.Core.Logic.{inl, ◌≢◌, ◌↔◌}
use Prim.Native.Nat.{ℕ}
use mathlib.Core.List.{List, [], ◌∷◌}
use Rattle.model.specs.Scopes.{Scopes}
use Rattle.model.specs.Resolving.{Bind, Found, means, several, candidates, resolve}
use Rattle.laws.proofs.ResolveRule.{In, Largest, Rule, free, found, unclear, candidates-sound, candidates_complete, resolve-is, Apart, rule_one}
use Rattle.laws.proofs.Stable.{Keys}

module _ (x : ℕ) (s : Scopes) where
  candidates_apart : (bs : List Bind) → Keys bs → Apart (candidates x s bs)
  candidates_apart bs k b c i j e =
      let p = candidates-sound x s bs b i in
      let q = candidates-sound x s bs c j in
      k b c p.stored q.stored (p.symbol-is ∙ sym q.symbol-is) e

  -- ---- from what stands in the store to the answer

  pub symbol_where_none : (bs : List Bind) → Keys bs → candidates x s bs ≡ [] → resolve x s bs ≡ means x
  symbol_where_none bs k e = rule_one x _ (candidates_apart bs k) (resolve x s bs) (means x) (resolve-is x s bs) (free e)

  pub target_of_largest : (bs : List Bind) → Keys bs → (b : Bind) → Largest b (candidates x s bs) → resolve x s bs ≡ means b.target
  target_of_largest bs k b h = rule_one x _ (candidates_apart bs k) (resolve x s bs) (means b.target) (resolve-is x s bs) (found b h)

  -- ---- and back

  -- a name comes of no candidate, or of the largest
  pub data Named (bs : List Bind) (n : ℕ) : Type 0 where
    symbol-itself : candidates x s bs ≡ [] → n ≡ x → Named bs n
    target_of : (b : Bind) → Largest b (candidates x s bs) → n ≡ b.target → Named bs n

  same_name : (m n : ℕ) → means m ≡ means n → n ≡ m
  same_name m n e = cc

  no_name : (n : ℕ) → several ≡ means n → ⊥
  no_name n e = subst code e tt
    where
      code : Found → Type 0
      code (means m) = ⊥
      code several = Unit {0}

  pub name_comes_of : (bs : List Bind) (n : ℕ) → resolve x s bs ≡ means n → Named bs n
  name_comes_of bs n e = go (resolve x s bs) e (resolve-is x s bs)
    where
      go : (f : Found) → f ≡ means n → Rule x (candidates x s bs) f → Named bs n
      go f q (free none-there) = symbol-itself none-there (same_name x n q)
      go f q (found b h) = target_of b h (same_name b.target n q)
      go f q (unclear there h) = absurd (no_name n q)

  -- candidates, and none that contains the others
  pub record Unclear (bs : List Bind) : Type 0 where
    pub there-are : candidates x s bs ≢ []
    pub no-largest : (b : Bind) → Largest b (candidates x s bs) → ⊥

  pub ambiguous_exactly : (bs : List Bind) → Keys bs → (resolve x s bs ≡ several) ↔ Unclear bs
  ambiguous_exactly bs k = (to, from)
    where
      to : resolve x s bs ≡ several → Unclear bs
      to e = go (resolve x s bs) e (resolve-is x s bs)
        where
          go : (f : Found) → f ≡ several → Rule x (candidates x s bs) f → Unclear bs
          go f q (free h) = absurd (no_name x (sym q))
          go f q (found b h) = absurd (no_name b.target (sym q))
          go f q (unclear there h) = record { there-are = there; no-largest = h }

      from : Unclear bs → resolve x s bs ≡ several
      from u = rule_one x _ (candidates_apart bs k) (resolve x s bs) several (resolve-is x s bs) (unclear u.there-are u.no-largest)

  -- ---- the order of the store does not matter

  module _ (rs bs : List Bind) (there : (b : Bind) → In b rs → In b bs) (back : (b : Bind) → In b bs → In b rs) where
    candidate_moves : (b : Bind) → In b (candidates x s rs) → In b (candidates x s bs)
    candidate_moves b i =
        let p = candidates-sound x s rs b i in
        candidates_complete x s bs b (record { stored = there b p.stored; symbol-is = p.symbol-is; contained = p.contained })

    candidate_back : (b : Bind) → In b (candidates x s bs) → In b (candidates x s rs)
    candidate_back b i =
        let p = candidates-sound x s bs b i in
        candidates_complete x s rs b (record { stored = back b p.stored; symbol-is = p.symbol-is; contained = p.contained })

    largest_moves : (b : Bind) → Largest b (candidates x s rs) → Largest b (candidates x s bs)
    largest_moves b h =
        record { here = candidate_moves b h.here; above = λ c i. h.above c (candidate_back c i) }

    largest_back : (b : Bind) → Largest b (candidates x s bs) → Largest b (candidates x s rs)
    largest_back b h =
        record { here = candidate_back b h.here; above = λ c i. h.above c (candidate_moves c i) }

    none_moves : (l r : List Bind) → ((b : Bind) → In b r → In b l) → l ≡ [] → r ≡ []
    none_moves l [] f e = refl
    none_moves l (c ∷ r) f e = absurd (subst (λ (z : List Bind). In c z) e (f c (inl refl)))

    rule_moves : (f : Found) → Rule x (candidates x s rs) f → Rule x (candidates x s bs) f
    rule_moves f (free e) = free (none_moves (candidates x s rs) (candidates x s bs) candidate_back e)
    rule_moves f (found b h) = found b (largest_moves b h)
    rule_moves f (unclear ne h) =
        unclear (λ e. ne (none_moves (candidates x s bs) (candidates x s rs) candidate_moves e)) (λ b k. h b (largest_back b k))

    pub any_order : Keys bs → resolve x s rs ≡ resolve x s bs
    any_order k =
        rule_one x _ (candidates_apart bs k) (resolve x s rs) (resolve x s bs) (rule_moves (resolve x s rs) (resolve-is x s rs)) (resolve-is x s bs)
