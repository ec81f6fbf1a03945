-- What the rules ask of trees alike has the same answer, and what they make of trees alike is alike: counts, sizes, nesting, substitution, kinds of
-- value, primitives.
use mathlib.Core.Path.{◌≡◌, refl, ap, ap₂}
use Prim.Native.Nat.{ℕ, zero, suc, ◌+◌, max}
use mathlib.Core.Bool.{Bool, true, false}
use mathlib.Core.Option.{Option, none, some}
use mathlib.Core.List.{List, [], ◌∷◌}
use lib.Dec.{eqb}
use Rattle.model.specs.Choice.{when◌then◌else◌, given}
use Rattle.model.specs.Objects.{Atom, symbol, number, point, prim, rung, Sets, Stx, Stxs}
use Rattle.model.specs.Trees.{Tree, Trees, tcount, tsize_by, tsizes_by, tsize, tnesting, tnestings, substitute, substitute_all, as_stx, as_atom, as_list, as_number, from_stxs, to_stxs}
use Rattle.model.specs.Evaluating.{Plain, stx_e, mk_stx, first, rest, link, same, pick, content, sets_of, remade, first_of, rest_of, picked, primitive, Id, id_of, as_id, as_ids, argument, applicable, is_local}
use Rattle.alike.proofs.Alike.{NewNumbers, SetsAlike, StxAlike, atoms, lists, StxsAlike, nils, conses, TreeAlike, vars, apps, funs, datums, lsts, stxs, TreesAlike, tnils, tconses, Same}
use Rattle.alike.proofs.Things.{nesting_alike}

-- ---- what may be absent

pub data OptionAlike {A : Type 0} (R : A → A → Type 0) : Option A → Option A → Type 0 where
  nones : OptionAlike R none none
  somes : {a b : A} → R a b → OptionAlike R (some a) (some b)

pub given_alike : {A B : Type 0} {R : A → A → Type 0} {S : B → B → Type 0} {o p : Option A} (f g : A → Option B) → OptionAlike R o p
    → ((a b : A) → R a b → OptionAlike S (f a) (g b)) → OptionAlike S (given o f) (given p g)
given_alike f g nones k = nones
given_alike f g (somes h) k = k _ _ h

same-given : {A B : Type 0} {S : B → B → Type 0} {o p : Option A} (f g : A → Option B) → OptionAlike (Same {A = A}) o p
    → ((a : A) → OptionAlike S (f a) (g a)) → OptionAlike S (given o f) (given p g)
same-given f g nones k = nones
same-given f g (somes Same.same) k = k _

same_option : {A : Type 0} (o : Option A) → OptionAlike (Same {A = A}) o o
same_option none = nones
same_option (some a) = somes Same.same

module _ (ρ : NewNumbers) where
  -- ---- counts, sizes, nesting, substitution

  pub tcount_alike : {l r : Trees} → TreesAlike ρ l r → tcount l ≡ tcount r
  unfolding tcount
  tcount_alike tnils = refl
  tcount_alike (tconses h i) = ap suc (tcount_alike i)

  module _ (w : Stx → ℕ) (k : (x y : Stx) → StxAlike ρ x y → w x ≡ w y) where
    mutual
      unfolding tsize_by

      pub tsize_by_alike : {t u : Tree} → TreeAlike ρ t u → tsize_by w t ≡ tsize_by w u
      tsize_by_alike vars = refl
      tsize_by_alike (apps h i) = ap₂ (λ (a b : ℕ). suc (a + b)) (tsize_by_alike h) (tsizes_by_alike i)
      tsize_by_alike (funs h) = ap suc (tsize_by_alike h)
      tsize_by_alike datums = refl
      tsize_by_alike (lsts i) = ap suc (tsizes_by_alike i)
      tsize_by_alike (stxs {x} {y} h) = k x y h

      tsizes_by_alike : {l r : Trees} → TreesAlike ρ l r → tsizes_by w l ≡ tsizes_by w r
      tsizes_by_alike tnils = refl
      tsizes_by_alike (tconses h i) = ap₂ (λ (a b : ℕ). a + b) (tsize_by_alike h) (tsizes_by_alike i)

  pub tsize_alike : {t u : Tree} → TreeAlike ρ t u → tsize t ≡ tsize u
  unfolding tsize
  tsize_alike h = tsize_by_alike (λ s. 1) (λ x y i. refl) h

  mutual
    unfolding tnesting

    pub tnesting_alike : {t u : Tree} → TreeAlike ρ t u → tnesting t ≡ tnesting u
    tnesting_alike vars = refl
    tnesting_alike (apps h i) = ap₂ (λ (a b : ℕ). suc (max a b)) (tnesting_alike h) (tnestings_alike i)
    tnesting_alike (funs h) = ap suc (tnesting_alike h)
    tnesting_alike datums = refl
    tnesting_alike (lsts i) = ap suc (tnestings_alike i)
    tnesting_alike (stxs h) = nesting_alike ρ h

    tnestings_alike : {l r : Trees} → TreesAlike ρ l r → tnestings l ≡ tnestings r
    tnestings_alike tnils = refl
    tnestings_alike (tconses h i) = ap₂ max (tnesting_alike h) (tnestings_alike i)

  choice_tree : (b : Bool) {t u v w : Tree} → TreeAlike ρ t v → TreeAlike ρ u w → TreeAlike ρ (when b then t else u) (when b then v else w)
  choice_tree true h i = h
  choice_tree false h i = i

  mutual
    unfolding substitute

    pub substitute_alike : (n : ℕ) {v w : Tree} → TreeAlike ρ v w → {t u : Tree} → TreeAlike ρ t u → TreeAlike ρ (substitute n v t) (substitute n w u)
    substitute_alike m k (vars {n}) = choice_tree (eqb n m) k vars
    substitute_alike n k (apps h i) = apps (substitute_alike n k h) (substitute_all_alike n k i)
    substitute_alike m k (funs {n} h) = choice_tree (eqb n m) (funs h) (funs (substitute_alike m k h))
    substitute_alike n k datums = datums
    substitute_alike n k (lsts i) = lsts (substitute_all_alike n k i)
    substitute_alike n k (stxs h) = stxs h

    substitute_all_alike : (n : ℕ) {v w : Tree} → TreeAlike ρ v w → {l r : Trees} → TreesAlike ρ l r
        → TreesAlike ρ (substitute_all n v l) (substitute_all n w r)
    substitute_all_alike n k tnils = tnils
    substitute_all_alike n k (tconses h i) = tconses (substitute_alike n k h) (substitute_all_alike n k i)

  -- ---- kinds of value

  pub as_stx_alike : {t u : Tree} → TreeAlike ρ t u → OptionAlike (StxAlike ρ) (as_stx t) (as_stx u)
  unfolding as_stx
  as_stx_alike vars = nones
  as_stx_alike (apps h i) = nones
  as_stx_alike (funs h) = nones
  as_stx_alike datums = nones
  as_stx_alike (lsts i) = nones
  as_stx_alike (stxs h) = somes h

  pub as_atom_alike : {t u : Tree} → TreeAlike ρ t u → OptionAlike (Same {A = Atom}) (as_atom t) (as_atom u)
  unfolding as_atom
  as_atom_alike vars = nones
  as_atom_alike (apps h i) = nones
  as_atom_alike (funs h) = nones
  as_atom_alike datums = somes Same.same
  as_atom_alike (lsts i) = nones
  as_atom_alike (stxs h) = nones

  pub as_list_alike : {t u : Tree} → TreeAlike ρ t u → OptionAlike (TreesAlike ρ) (as_list t) (as_list u)
  unfolding as_list
  as_list_alike vars = nones
  as_list_alike (apps h i) = nones
  as_list_alike (funs h) = nones
  as_list_alike datums = nones
  as_list_alike (lsts i) = somes i
  as_list_alike (stxs h) = nones

  from_stxs_alike : {l r : Stxs} → StxsAlike ρ l r → TreesAlike ρ (from_stxs l) (from_stxs r)
  unfolding from_stxs
  from_stxs_alike nils = tnils
  from_stxs_alike (conses h i) = tconses (stxs h) (from_stxs_alike i)

  to_stxs_alike : {l r : Trees} → TreesAlike ρ l r → OptionAlike (StxsAlike ρ) (to_stxs l) (to_stxs r)
  unfolding to_stxs
  to_stxs_alike tnils = somes nils
  to_stxs_alike (tconses h i) = given_alike _ _ (as_stx_alike h) (λ a b j. given_alike _ _ (to_stxs_alike i) (λ c d k. somes (conses j k)))

  -- ---- primitives

  content_alike : {x y : Stx} → StxAlike ρ x y → TreeAlike ρ (content x) (content y)
  unfolding content
  content_alike (atoms a h) = datums
  content_alike (lists h i) = lsts (from_stxs_alike i)

  sets_of_alike : {x y : Stx} → StxAlike ρ x y → SetsAlike ρ (sets_of x) (sets_of y)
  unfolding sets_of
  sets_of_alike (atoms a h) = h
  sets_of_alike (lists h i) = h

  remade_alike : {c d : Sets} → SetsAlike ρ c d → {t u : Tree} → TreeAlike ρ t u → OptionAlike (StxAlike ρ) (remade c t) (remade d u)
  unfolding remade
  remade_alike k vars = nones
  remade_alike k (apps h i) = nones
  remade_alike k (funs h) = nones
  remade_alike k (datums {a}) = somes (atoms a k)
  remade_alike k (lsts i) = given_alike _ _ (to_stxs_alike i) (λ a b j. somes (lists k j))
  remade_alike k (stxs h) = nones

  first_of_alike : (l r : Trees) → TreesAlike ρ l r → OptionAlike (TreeAlike ρ) (first_of l) (first_of r)
  unfolding first_of
  first_of_alike l r tnils = nones
  first_of_alike l r (tconses h i) = somes h

  rest_of_alike : (l r : Trees) → TreesAlike ρ l r → OptionAlike (TreeAlike ρ) (rest_of l) (rest_of r)
  unfolding rest_of
  rest_of_alike l r tnils = nones
  rest_of_alike l r (tconses h i) = somes (lsts i)

  picked_alike : (n : ℕ) {a b c d : Tree} → TreeAlike ρ a b → TreeAlike ρ c d → TreeAlike ρ (picked n a c) (picked n b d)
  unfolding picked
  picked_alike zero h i = i
  picked_alike (suc n) h i = h

  pub primitive_alike : (p : Plain) {a b c d e f : Tree} → TreeAlike ρ a b → TreeAlike ρ c d → TreeAlike ρ e f
      → OptionAlike (TreeAlike ρ) (primitive p a c e) (primitive p b d f)
  unfolding primitive
  primitive_alike stx_e h i j = given_alike _ _ (as_stx_alike h) (λ x y k. somes (content_alike k))
  primitive_alike mk_stx h i j =
      given_alike _ _ (as_stx_alike i) (λ x y k. given_alike _ _ (remade_alike (sets_of_alike k) h) (λ v w m. somes (stxs m)))
  primitive_alike first h i j = given_alike _ _ (as_list_alike h) first_of_alike
  primitive_alike rest h i j = given_alike _ _ (as_list_alike h) rest_of_alike
  primitive_alike link h i j = given_alike _ _ (as_list_alike i) (λ l r k. somes (lsts (tconses h k)))
  primitive_alike same h i j = same-given _ _ (as_atom_alike h) (λ x. same-given _ _ (as_atom_alike i) (λ y. somes datums))
  primitive_alike pick h i j =
      same-given _ _ (as_atom_alike h) (λ x. same-given _ _ (same_option (as_number x)) (λ k. somes (picked_alike k i j)))

  -- ---- identifiers (request T-08)

  pub data IdAlike : Id → Id → Type 0 where
    ids : {c d : Sets} {x : ℕ} → SetsAlike ρ c d → IdAlike (record { sets = c; symb = x }) (record { sets = d; symb = x })

  pub data IdsAlike : List Id → List Id → Type 0 where
    no-ids : IdsAlike [] []
    more-ids : {i j : Id} {l r : List Id} → IdAlike i j → IdsAlike l r → IdsAlike (i ∷ l) (j ∷ r)

  id_of_alike : (x y : Stx) → StxAlike ρ x y → OptionAlike IdAlike (id_of x) (id_of y)
  unfolding id_of
  id_of_alike x y (atoms (symbol n) h) = somes (ids h)
  id_of_alike x y (atoms (number n) h) = nones
  id_of_alike x y (atoms (point n) h) = nones
  id_of_alike x y (atoms (prim n) h) = nones
  id_of_alike x y (atoms (rung n) h) = nones
  id_of_alike x y (lists h i) = nones

  pub as_id_alike : {t u : Tree} → TreeAlike ρ t u → OptionAlike IdAlike (as_id t) (as_id u)
  unfolding as_id
  as_id_alike h = given_alike _ _ (as_stx_alike h) id_of_alike

  pub as_ids_alike : (l r : Trees) → TreesAlike ρ l r → OptionAlike IdsAlike (as_ids l) (as_ids r)
  unfolding as_ids
  as_ids_alike l r tnils = somes no-ids
  as_ids_alike l r (tconses {l = m} {r = n} h i) = given_alike _ _ (as_id_alike h) (λ a b j. given_alike _ _ (as_ids_alike m n i) (λ c d k. somes (more-ids j k)))

  -- ---- applying

  pub argument_alike : {l r : Trees} → TreesAlike ρ l r → (i : ℕ) → TreeAlike ρ (argument l i) (argument r i)
  unfolding argument
  argument_alike tnils i = lsts tnils
  argument_alike (tconses h j) zero = h
  argument_alike (tconses h j) (suc i) = argument_alike j i

  pub applicable_alike : {t u : Tree} → TreeAlike ρ t u → (n : ℕ) → applicable t n ≡ applicable u n
  unfolding applicable
  applicable_alike vars n = refl
  applicable_alike (apps h i) n = refl
  applicable_alike (funs h) n = refl
  applicable_alike datums n = refl
  applicable_alike (lsts i) n = refl
  applicable_alike (stxs h) n = refl

  pub is_local_alike : {t u : Tree} → TreeAlike ρ t u → is_local t ≡ is_local u
  unfolding is_local as_atom
  is_local_alike vars = refl
  is_local_alike (apps h i) = refl
  is_local_alike (funs h) = refl
  is_local_alike datums = refl
  is_local_alike (lsts i) = refl
  is_local_alike (stxs h) = refl
