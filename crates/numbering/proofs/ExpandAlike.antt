-- Expanding objects alike from states alike: refused by the same code with the same units left, or objects and states alike. One lemma for each
-- definition of the rules. A set is touched by scopes alone that were fresh, and these are left as they are.
use mathlib.Core.Path.{refl}
use Prim.Native.Nat.{ℕ, zero, suc, ◌+◌}
use mathlib.Core.Option.{Option}
use lib.Dec.{leb}
use Rattle.model.specs.Limits.{last_phase}
use Rattle.model.specs.Refusals.{no_meaning, no_rule, no_syntax, no_phase, too_many_entries}
use Rattle.model.specs.Scopes.{no_scopes, add}
use Rattle.model.specs.Objects.{symbol, number, point, prim, rung, Sets, Stx, atom, list, Stxs, nil, cons}
use Rattle.model.specs.Trees.{Tree}
use Rattle.model.specs.Meanings.{lambda, let_syntax, quote, syntax, Meaning, Surroundings, Place}
use Rattle.model.specs.Steps.{Step}
use Rattle.model.specs.Evaluating.{Expander, Evaluator}
use Rattle.model.specs.Parsing.{parse}
use Rattle.model.specs.Expanding.{head_meaning, expand_name, expand_all, expand_application, expand_function, expand_lambda, expand_syntax, expand_binding, expand_let_syntax, or_no_syntax, expand_macro, expand_form, expand_entry, evaluate, expand}
use Rattle.alike.proofs.Alike.{NewNumbers, SetsAlike, StxAlike, atoms, lists, StxsAlike, nils, conses, TreeAlike, apps, stxs, tnils, tconses}
use Rattle.alike.proofs.SetLaws.{none_alike, add_alike}
use Rattle.alike.proofs.Runs.{Pairing, StepAlike, then_alike, then_same, done_alike, refuse_alike, unless_alike, charge_alike}
use Rattle.alike.proofs.ParseAlike.{Seen, SeenAll, parse_alike}
use Rattle.numbering.proofs.Values.{OptionAlike, nones, somes, as_stx_alike}
use Rattle.numbering.proofs.Meanings.{MeaningAlike, cores, variables, macros, stoppeds, unknowns, core-only, extends, HereAlike, heres, PlaceAlike, nowheres, macro-uses, among_alike}
use Rattle.numbering.proofs.Shapes.{made_alike, parts1_alike, parts2_alike, parts3_alike, identifier_alike}
use Rattle.numbering.proofs.States.{Renumbering, pairing, then_scope, then_binder, add_to_alike, flip_in_alike, prune_from_alike, fresh_scope_alike, prunable_now_alike, use_scope_alike, inside_alike, agree_alike, resolve_at_alike, bind_fresh_alike}
use Rattle.numbering.proofs.EvaluateAlike.{Evaluates, Expands, eval_entry_alike}

-- every identifier is seen
abbrev Any : Sets → ℕ → Type 0
Any c x = Unit {0}

mutual
  any_seen : (x : Stx) → Seen Any x
  any_seen (atom c (symbol x)) = tt
  any_seen (atom c (number x)) = tt
  any_seen (atom c (point x)) = tt
  any_seen (atom c (prim x)) = tt
  any_seen (atom c (rung x)) = tt
  any_seen (list c l) = all_seen l

  all_seen : (l : Stxs) → SeenAll Any l
  all_seen nil = tt
  all_seen (cons s l) = (any_seen s, all_seen l)

module _ (q : Renumbering) where
  abbrev ρ : NewNumbers
  ρ = q.map

  abbrev W : Pairing
  W = pairing q

  parsed : (n ph : ℕ) (x y : Stx) → StxAlike ρ x y → StepAlike W (TreeAlike ρ) (parse n ph x) (parse n ph y)
  unfolding pairing
  parsed n ph x y h = parse_alike W ρ Any ph (λ s t i c d a p j. agree_alike q ph a c d j s t i) n x y h (any_seen x)

  -- ---- names

  head_meaning_alike : (a b : Surroundings) → HereAlike ρ a b → (x y : Stx) → StxAlike ρ x y → StepAlike W (MeaningAlike ρ) (head_meaning a x) (head_meaning b y)
  unfolding head_meaning
  head_meaning_alike a b (heres {ph} {z} e) x y (atoms {c} {d} (symbol n) h) =
      then_same _ _ (resolve_at_alike q ph c d h n) (λ m. done_alike (among_alike ρ m e z))
  head_meaning_alike a b k x y (atoms (number n) h) = done_alike unknowns
  head_meaning_alike a b k x y (atoms (point n) h) = done_alike unknowns
  head_meaning_alike a b k x y (atoms (prim n) h) = done_alike unknowns
  head_meaning_alike a b k x y (atoms (rung n) h) = done_alike unknowns
  head_meaning_alike a b k x y (lists h i) = done_alike unknowns

  expand_name_alike : {m o : Meaning} → MeaningAlike ρ m o → StepAlike W (StxAlike ρ) (expand_name m) (expand_name o)
  unfolding expand_name
  expand_name_alike cores = refuse_alike no_rule
  expand_name_alike (variables {x} h) = done_alike (atoms (symbol x) h)
  expand_name_alike (macros h) = refuse_alike no_rule
  expand_name_alike stoppeds = refuse_alike no_rule
  expand_name_alike unknowns = refuse_alike no_meaning

  or_no_syntax_alike : {o p : Option Stx} → OptionAlike (StxAlike ρ) o p → StepAlike W (StxAlike ρ) (or_no_syntax o) (or_no_syntax p)
  unfolding or_no_syntax
  or_no_syntax_alike nones = refuse_alike no_syntax
  or_no_syntax_alike (somes h) = done_alike h

  expand_all_alike : (f g : Stx → Step Stx) → ((x y : Stx) → StxAlike ρ x y → StepAlike W (StxAlike ρ) (f x) (g y)) → {l r : Stxs} → StxsAlike ρ l r
      → StepAlike W (StxsAlike ρ) (expand_all f l) (expand_all g r)
  unfolding expand_all
  expand_all_alike f g k nils = done_alike nils
  expand_all_alike f g k (conses {x} {y} h i) =
      then_alike _ _ (k x y h) (λ a b j. then_alike _ _ (expand_all_alike f g k i) (λ c d m. done_alike (conses j m)))

  -- ---- forms

  module _ (f g : Expander) (k : Expands q f g) (value other : Evaluator) (v : Evaluates q value other) where
    application_alike : (a b : Surroundings) → HereAlike ρ a b → (c d : Sets) → SetsAlike ρ c d → (l r : Stxs) → StxsAlike ρ l r
        → StepAlike W (StxAlike ρ) (expand_application f a c l) (expand_application g b d r)
    unfolding expand_application
    application_alike a b h c d i l r j =
        then_alike _ _ (expand_all_alike _ _ (λ x y o. inside_alike q (λ p. p) (λ p. p) (λ s t u. u) _ _ (k a b h x y o)) j) (λ l₁ r₁ j₁.
        made_alike ρ (list c l₁) (list d r₁) (lists i j₁))

    function_alike : {a b : Surroundings} → HereAlike ρ a b → (c d : Sets) → SetsAlike ρ c d → (x y : Stx) → StxAlike ρ x y
        → (ci di : Sets) → SetsAlike ρ ci di → (s : ℕ) (body body₂ : Stx) → StxAlike ρ body body₂
        → StepAlike W (StxAlike ρ) (expand_function f a c x ci s body) (expand_function g b d y di s body₂)
    unfolding expand_function
    function_alike (heres {ph} e) c d i x y j ci di m s body body₂ t =
        then_binder q _ _ (bind_fresh_alike q ph ci di m s) (λ n z c₁ c₂ o w.
        then_alike _ _ (add_to_alike q z ph o body body₂ t) (λ x₁ y₁ t₁.
        then_alike _ _ (inside_alike q (add z) (add z) (add_alike ρ z o) _ _ (k _ _ (heres (extends (variables w) e)) x₁ y₁ t₁)) (λ x₂ y₂ t₂.
        made_alike ρ _ _ (lists i (conses j (conses (atoms (symbol s) w) (conses t₂ nils)))))))

    binding_alike : (n : ℕ) {a b : Surroundings} → HereAlike ρ a b → (ci di : Sets) → SetsAlike ρ ci di → (s : ℕ) (x y : Stx) → StxAlike ρ x y
        → (body body₂ : Stx) → StxAlike ρ body body₂ → StepAlike W (StxAlike ρ) (expand_binding f value n a ci s x body) (expand_binding g other n b di s y body₂)
    unfolding expand_binding
    binding_alike n (heres {ph} e) ci di m s x y j body body₂ t =
        then_binder q _ _ (bind_fresh_alike q ph ci di m s) (λ n₀ z c₁ c₂ o w.
        then_same _ _ (unless_alike no_phase (leb (ph + 1) last_phase) (leb (ph + 1) last_phase) refl) (λ n₁.
        then_alike _ _ (inside_alike q (λ p. no_scopes) (λ p. no_scopes) (λ c d i. none_alike ρ) _ _ (k _ _ (heres core-only) x y j)) (λ x₁ y₁ j₁.
        then_alike _ _ (parsed n (ph + 1) x₁ y₁ j₁) (λ t₁ t₂ i₁.
        then_alike _ _ (v _ _ nowheres t₁ t₂ i₁) (λ v₁ v₂ i₂.
        then_alike _ _ (add_to_alike q z ph o body body₂ t) (λ x₂ y₂ j₂.
        inside_alike q (add z) (add z) (add_alike ρ z o) _ _ (k _ _ (heres (extends (macros i₂) e)) x₂ y₂ j₂)))))))

    macro_alike : {a b : Surroundings} → HereAlike ρ a b → (t u : Tree) → TreeAlike ρ t u → (x y : Stx) → StxAlike ρ x y
        → StepAlike W (StxAlike ρ) (expand_macro f value a t x) (expand_macro g other b u y)
    unfolding expand_macro
    macro_alike (heres {ph} {e} {f = e₀} {z = stops} m) t t₀ i x y j =
        then_scope q _ _ (fresh_scope_alike q) (λ z o.
        then_scope q _ _ (fresh_scope_alike q) (λ intro w.
        then_alike _ _ (add_to_alike q z ph o x y j) (λ x₁ y₁ j₁.
        then_alike _ _ (flip_in_alike q intro ph w x₁ y₁ j₁) (λ x₂ y₂ j₂.
        then_same _ _ (use_scope_alike q z o) (λ n₁.
        then_alike _ _ (v _ _ (macro-uses w (heres {ph = ph} {e = e} {f = e₀} {z = stops} m)) _ _ (apps i (tconses (stxs j₂) tnils))) (λ t₁ t₂ i₁.
        then_alike _ _ (or_no_syntax_alike (as_stx_alike ρ i₁)) (λ x₃ y₃ j₃.
        then_alike _ _ (flip_in_alike q intro ph w x₃ y₃ j₃) (λ x₄ y₄ j₄.
        k _ _ (heres {ph = ph} {e = e} {f = e₀} {z = stops} m) x₄ y₄ j₄))))))))

    syntax_alike : {a b : Surroundings} → HereAlike ρ a b → (c d : Sets) → SetsAlike ρ c d → (x y : Stx) → StxAlike ρ x y → (l r : Stxs)
        → StxsAlike ρ l r
        → StepAlike W (StxAlike ρ) (expand_syntax a.phase c x l) (expand_syntax b.phase d y r)
    unfolding expand_syntax
    syntax_alike (heres {ph} e) c d i x y j l r m =
        parts1_alike ρ _ _ m (λ s t h.
        then_alike _ _ (prunable_now_alike q) (λ p₁ p₂ u.
        then_alike _ _ (prune_from_alike q p₁ p₂ u ph s t h) (λ s₁ t₁ h₁. done_alike (lists i (conses j (conses h₁ nils))))))

    form_alike : (n : ℕ) (a b : Surroundings) → HereAlike ρ a b → (c d : Sets) → SetsAlike ρ c d → (x y : Stx) → StxAlike ρ x y
        → (l r : Stxs) → StxsAlike ρ l r → {o p : Meaning} → MeaningAlike ρ o p
        → StepAlike W (StxAlike ρ) (expand_form f value n a c x l o) (expand_form g other n b d y r p)
    unfolding expand_form expand_lambda expand_let_syntax
    form_alike n a b h c d i x y j l r m (cores {f = lambda}) =
        parts2_alike ρ _ _ m (λ i₁ i₂ s body body₂ t. identifier_alike ρ _ _ s (λ ci di u z. function_alike h c d i x y j ci di u z body body₂ t))
    form_alike n a b h c d i x y j l r m (cores {f = let_syntax}) =
        parts3_alike ρ _ _ m (λ i₁ i₂ s rhs rhs₂ t body body₂ t₂.
        identifier_alike ρ _ _ s (λ ci di u z. binding_alike n h ci di u z rhs rhs₂ t body body₂ t₂))
    form_alike n a b h c d i x y j l r m (cores {f = quote}) = parts1_alike ρ _ _ m (λ s₁ s₂ s. done_alike (lists i (conses j m)))
    form_alike n a b h c d i x y j l r m (cores {f = syntax}) = syntax_alike h c d i x y j l r m
    form_alike n a b h c d i x y j l r m (variables s) = application_alike a b h c d i (cons x l) (cons y r) (conses j m)
    form_alike n a b h c d i x y j l r m (macros {v = t} {w = u} s) =
        macro_alike h t u s (list c (cons x l)) (list d (cons y r)) (lists i (conses j m))
    form_alike n a b h c d i x y j l r m stoppeds = done_alike (lists i (conses j m))
    form_alike n a b h c d i x y j l r m unknowns = application_alike a b h c d i (cons x l) (cons y r) (conses j m)

    -- ---- one entry

    expand_entry_alike : (n : ℕ) (a b : Surroundings) → HereAlike ρ a b → (x y : Stx) → StxAlike ρ x y
        → StepAlike W (StxAlike ρ) (expand_entry f value n a x) (expand_entry g other n b y)
    unfolding expand_entry
    expand_entry_alike n a b (heres {ph} {z} e) x y (atoms {c} {d} (symbol s) i) =
        then_same _ _ (resolve_at_alike q ph c d i s) (λ o. expand_name_alike (among_alike ρ o e z))
    expand_entry_alike n a b h x y (atoms (number s) i) = done_alike (atoms (number s) i)
    expand_entry_alike n a b h x y (atoms (point s) i) = done_alike (atoms (point s) i)
    expand_entry_alike n a b h x y (atoms (prim s) i) = done_alike (atoms (prim s) i)
    expand_entry_alike n a b h x y (atoms (rung s) i) = done_alike (atoms (rung s) i)
    expand_entry_alike n a b h x y (lists i nils) = refuse_alike no_rule
    expand_entry_alike n a b h x y (lists {c} {d} i (conses {x = s} {y = t} {l} {r} j o)) =
        then_alike _ _ (head_meaning_alike a b h s t j) (λ m₁ m₂ z. form_alike n a b h c d i s t j l r o z)

  -- ---- evaluating and expanding, by induction on the entries to spare

  mutual
    unfolding expand

    pub evaluate_alike : (n : ℕ) (a b : Place) → PlaceAlike q.map a b → (t u : Tree) → TreeAlike q.map t u
        → StepAlike (pairing q) (TreeAlike q.map) (evaluate n a t) (evaluate n b u)
    evaluate_alike zero a b h t u i = refuse_alike too_many_entries
    evaluate_alike (suc n) a b h t u i =
        then_same _ _ (charge_alike 1) (λ z.
        eval_entry_alike q (λ there s. evaluate n there s) (λ there s. evaluate n there s) (λ c d j s o m. evaluate_alike n c d j s o m)
        (λ there s. expand n there s) (λ there s. expand n there s) (λ c d j s o m. expand_alike n c d j s o m) a b h t u i)

    pub expand_alike : (n : ℕ) (a b : Surroundings) → HereAlike q.map a b → (x y : Stx) → StxAlike q.map x y
        → StepAlike (pairing q) (StxAlike q.map) (expand n a x) (expand n b y)
    expand_alike zero a b h x y i = refuse_alike too_many_entries
    expand_alike (suc n) a b h x y i =
        then_same _ _ (charge_alike 1) (λ u.
        expand_entry_alike (λ there s. expand n there s) (λ there s. expand n there s) (λ c d j s o m. expand_alike n c d j s o m)
        (λ there s. evaluate n there s) (λ there s. evaluate n there s) (λ c d j s o m. evaluate_alike n c d j s o m) n a b h x y i)
