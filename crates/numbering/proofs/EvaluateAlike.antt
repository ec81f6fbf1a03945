-- Evaluating trees alike from states alike: refused by the same code with the same units left, or values and states alike. One lemma for each
-- definition of the rules, so that a rule which looks at a scope's number is seen where it stands.
use mathlib.Core.Path.{◌≡◌, refl, ◌∙◌, ap}
use Prim.Native.Nat.{ℕ}
use mathlib.Core.Bool.{not}
use mathlib.Core.Option.{Option, none, some}
use mathlib.Core.List.{List}
use Rattle.model.specs.Refusals.{unowned, not_applicable, wrong_argument, outside_use}
use Rattle.model.specs.Objects.{symbol, number, point, prim, rung, Stx}
use Rattle.model.specs.Trees.{Tree, Trees, tcount, tsize}
use Rattle.model.specs.Meanings.{Meaning, Surroundings, Place}
use Rattle.model.specs.Steps.{Step}
use Rattle.model.specs.Evaluating.{Local, meaning_of, expand_in, binder_of, Primitive, plain, local, primitive_of, or_wrong_kind, Expander, Id, macro_value, value_of, known, stop_names, expand_within, fit_to_bind, apply_local, Evaluator, applicable, allowed, each_tree, apply_primitive, apply, eval_entry}
use Rattle.alike.proofs.Alike.{NewNumbers, StxAlike, atoms, TreeAlike, vars, apps, funs, datums, lsts, stxs, TreesAlike, tnils, tconses, Same, same}
use Rattle.alike.proofs.Runs.{Pairing, StepAlike, then_alike, then_same, done_alike, refuse_alike, unless_alike, charge_alike, charges_alike}
use Rattle.numbering.proofs.Values.{OptionAlike, nones, somes, given_alike, tcount_alike, tsize_alike, substitute_alike, as_stx_alike, as_list_alike, primitive_alike, IdAlike, ids, IdsAlike, no-ids, more-ids, as_id_alike, as_ids_alike, argument_alike, applicable_alike, is_local_alike}
use Rattle.numbering.proofs.Meanings.{MeaningAlike, cores, variables, macros, stoppeds, unknowns, HereAlike, heres, PlaceAlike, nowheres, macro-uses, meaning_alike, among_alike}
use Rattle.numbering.proofs.States.{Renumbering, pairing, flip_in_alike, prune_from_alike, uses_now_alike, resolve_at_alike}
use Rattle.numbering.proofs.Shapes.{made_tree_alike}

module _ (q : Renumbering) where
  abbrev ρ : NewNumbers
  ρ = q.map

  abbrev W : Pairing
  W = pairing q

  -- what entries below do
  abbrev pub Evaluates : Evaluator → Evaluator → Type 0
  Evaluates f g = (a b : Place) → PlaceAlike q.map a b → (t u : Tree) → TreeAlike q.map t u → StepAlike (pairing q) (TreeAlike q.map) (f a t) (g b u)

  abbrev pub Expands : Expander → Expander → Type 0
  Expands f g = (a b : Surroundings) → HereAlike q.map a b → (x y : Stx) → StxAlike q.map x y → StepAlike (pairing q) (StxAlike q.map) (f a x) (g b y)

  each_alike : (f g : Tree → Step Tree) → ((t u : Tree) → TreeAlike ρ t u → StepAlike W (TreeAlike ρ) (f t) (g u)) → {l r : Trees} → TreesAlike ρ l r
      → StepAlike W (TreesAlike ρ) (each_tree f l) (each_tree g r)
  unfolding each_tree
  each_alike f g k tnils = done_alike tnils
  each_alike f g k (tconses {t} {u} h i) =
      then_alike _ _ (k t u h) (λ a b j. then_alike _ _ (each_alike f g k i) (λ c d m. done_alike (tconses j m)))

  kind_alike : {A : Type 0} {R : A → A → Type 0} {o p : Option A} (f g : A → Step Tree) → OptionAlike R o p
      → ((a b : A) → R a b → StepAlike W (TreeAlike ρ) (f a) (g b)) → StepAlike W (TreeAlike ρ) (or_wrong_kind o f) (or_wrong_kind p g)
  unfolding or_wrong_kind
  kind_alike f g nones k = refuse_alike wrong_argument
  kind_alike f g (somes {a} {b} h) k = k a b h

  -- ---- request T-08: primitives 7 to 9

  macro_value_alike : {m o : Meaning} → MeaningAlike ρ m o → StepAlike W (TreeAlike ρ) (macro_value m) (macro_value o)
  unfolding macro_value
  macro_value_alike cores = refuse_alike wrong_argument
  macro_value_alike (variables h) = refuse_alike wrong_argument
  macro_value_alike (macros h) = done_alike h
  macro_value_alike stoppeds = refuse_alike wrong_argument
  macro_value_alike unknowns = refuse_alike wrong_argument

  known_alike : {m o : Meaning} → MeaningAlike ρ m o → known m ≡ known o
  unfolding known
  known_alike cores = refl
  known_alike (variables h) = refl
  known_alike (macros h) = refl
  known_alike stoppeds = refl
  known_alike unknowns = refl

  value_of_alike : {a b : Surroundings} → HereAlike ρ a b → (i j : Id) → IdAlike ρ i j → StepAlike W (TreeAlike ρ) (value_of a i) (value_of b j)
  unfolding value_of
  value_of_alike (heres {ph} {z} e) i j (ids {c} {d} {x} h) =
      then_same _ _ (resolve_at_alike q ph c d h x) (λ n. macro_value_alike (among_alike ρ n e z))

  stop_names_alike : {a b : Surroundings} → HereAlike ρ a b → {l r : List Id} → IdsAlike ρ l r → StepAlike W (Same {A = List ℕ}) (stop_names a l) (stop_names b r)
  unfolding stop_names
  stop_names_alike h no-ids = done_alike same
  stop_names_alike (heres {ph} {e} {f} {z} m) (more-ids (ids {c} {d} {x} i) o) =
      then_same _ _ (resolve_at_alike q ph c d i x) (λ n.
      then_same _ _ (unless_alike wrong_argument _ _ (known_alike (meaning_alike ρ n m))) (λ u.
      then_same _ _ (stop_names_alike (heres {ph = ph} {e = e} {f = f} {z = z} m) o) (λ r. done_alike same)))

  fit_to_bind_alike : (ph : ℕ) (i j : Id) → IdAlike ρ i j → StepAlike W (TreeAlike ρ) (fit_to_bind ph i) (fit_to_bind ph j)
  unfolding fit_to_bind
  fit_to_bind_alike ph i j (ids {c} {d} {x} h) =
      then_alike _ _ (uses_now_alike q) (λ a b u.
      then_alike _ _ (prune_from_alike q a b u ph _ _ (atoms (symbol x) h)) (λ s t k. done_alike (stxs k)))

  module _ (f g : Expander) (k : Expands f g) where
    expand_within_alike : (intro : ℕ) → ρ.to intro ≡ intro → {a b : Surroundings} → HereAlike ρ a b → (x y : Stx) → StxAlike ρ x y → (l r : List Id) → IdsAlike ρ l r
        → StepAlike W (TreeAlike ρ) (expand_within f intro a x l) (expand_within g intro b y r)
    unfolding expand_within
    expand_within_alike intro w (heres {ph} {e} {f = e₀} {z} m) x y h l r i =
        then_same _ _ (stop_names_alike (heres {ph = ph} {e = e} {f = e₀} {z = z} m) i) (λ stops.
        then_alike _ _ (flip_in_alike q intro ph w x y h) (λ x₁ y₁ h₁.
        then_alike _ _ (k _ _ (heres {ph = ph} {e = e} {f = e₀} {z = stops} m) x₁ y₁ h₁) (λ x₂ y₂ h₂.
        then_alike _ _ (flip_in_alike q intro ph w x₂ y₂ h₂) (λ x₃ y₃ h₃. done_alike (stxs h₃)))))

    phase-same : {a b : Surroundings} → HereAlike ρ a b → (i j : Id) → IdAlike ρ i j → StepAlike W (TreeAlike ρ) (fit_to_bind a.phase i) (fit_to_bind b.phase j)
    phase-same (heres {ph} m) i j h = fit_to_bind_alike ph i j h

    apply_local_alike : {a b : Place} → PlaceAlike ρ a b → (p : Local) {t u v w : Tree} → TreeAlike ρ t u → TreeAlike ρ v w
        → StepAlike W (TreeAlike ρ) (apply_local f a p t v) (apply_local g b p u w)
    unfolding apply_local
    apply_local_alike nowheres p i j = refuse_alike outside_use
    apply_local_alike (macro-uses {k = intro} e h) meaning_of i j = kind_alike _ _ (as_id_alike ρ i) (value_of_alike h)
    apply_local_alike (macro-uses {k = intro} e h) expand_in i j =
        kind_alike _ _ (as_stx_alike ρ i) (λ x y m. kind_alike _ _ (given_alike _ _ (as_list_alike ρ j) (as_ids_alike ρ)) (λ l r n.
        expand_within_alike intro e h x y m l r n))
    apply_local_alike (macro-uses {k = intro} e h) binder_of i j = kind_alike _ _ (as_id_alike ρ i) (phase-same h)

    apply_primitive_alike : {a b : Place} → PlaceAlike ρ a b → (p : Option Primitive) (l r : Trees) → TreesAlike ρ l r
        → StepAlike W (TreeAlike ρ) (apply_primitive f a p l) (apply_primitive g b p r)
    unfolding apply_primitive
    apply_primitive_alike e none l r h = refuse_alike not_applicable
    apply_primitive_alike e (some (plain p)) l r h =
        then_same _ _ (charge_alike 1) (λ z.
        kind_alike _ _ (primitive_alike ρ p (argument_alike ρ h 0) (argument_alike ρ h 1) (argument_alike ρ h 2)) (λ t u i. made_tree_alike ρ t u i))
    apply_primitive_alike e (some (local p)) l r h =
        then_same _ _ (charge_alike 1) (λ z. apply_local_alike e p (argument_alike ρ h 0) (argument_alike ρ h 1))

  -- ---- one entry

  allowed_alike : {a b : Place} → PlaceAlike ρ a b → {t u : Tree} → TreeAlike ρ t u → allowed a t ≡ allowed b u
  unfolding allowed
  allowed_alike nowheres h = ap not (is_local_alike ρ h)
  allowed_alike (macro-uses e i) h = refl

  module _ (f g : Evaluator) (k : Evaluates f g) (x y : Expander) (e : Expands x y) where
    apply_alike : (a b : Place) → PlaceAlike ρ a b → {t u : Tree} → TreeAlike ρ t u → (l r : Trees) → TreesAlike ρ l r
        → StepAlike W (TreeAlike ρ) (apply f x a t l) (apply g y b u r)
    unfolding apply
    apply_alike a b p vars l r h = refuse_alike not_applicable
    apply_alike a b p (apps i j) l r h = refuse_alike not_applicable
    apply_alike a b p (funs {n} {b = t} {c = u} i) l r h =
        then_same _ _ (charges_alike (tsize t) (tsize u) (tsize_alike ρ i)) (λ z.
        then_alike _ _ (made_tree_alike ρ _ _ (substitute_alike ρ n (argument_alike ρ h 0) i)) (λ t₁ u₁ j. k a b p t₁ u₁ j))
    apply_alike a b p (datums {a = symbol n}) l r h = refuse_alike not_applicable
    apply_alike a b p (datums {a = number n}) l r h = refuse_alike not_applicable
    apply_alike a b p (datums {a = point n}) l r h = refuse_alike not_applicable
    apply_alike a b p (datums {a = prim n}) l r h = apply_primitive_alike x y e p (primitive_of n) l r h
    apply_alike a b p (datums {a = rung n}) l r h = refuse_alike not_applicable
    apply_alike a b p (lsts i) l r h = refuse_alike not_applicable
    apply_alike a b p (stxs i) l r h = refuse_alike not_applicable

    pub eval_entry_alike : (a b : Place) → PlaceAlike q.map a b → (t u : Tree) → TreeAlike q.map t u
        → StepAlike (pairing q) (TreeAlike q.map) (eval_entry f x a t) (eval_entry g y b u)
    unfolding eval_entry
    eval_entry_alike a b p t u vars = refuse_alike unowned
    eval_entry_alike a b p t u (apps {f = v} {g = w} {l} {r} h i) =
        then_alike _ _ (k a b p v w h) (λ v₁ w₁ j.
        then_same _ _ (unless_alike not_applicable _ _ (applicable_alike ρ j (tcount l) ∙ ap (applicable w₁) (tcount_alike ρ i))) (λ z.
        then_same _ _ (unless_alike outside_use _ _ (allowed_alike p j)) (λ z₁.
        then_alike _ _ (each_alike (f a) (g b) (k a b p) i) (λ l₁ r₁ m. apply_alike a b p j l₁ r₁ m))))
    eval_entry_alike a b p t u (funs h) = done_alike (funs h)
    eval_entry_alike a b p t u datums = done_alike datums
    eval_entry_alike a b p t u (lsts h) = done_alike (lsts h)
    eval_entry_alike a b p t u (stxs h) = done_alike (stxs h)
