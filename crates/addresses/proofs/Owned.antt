-- A tree whose variables all have their functions keeps that under substitution: what evaluating rests on.
use mathlib.Core.Path.{◌≡◌, refl, sym, ◌∙◌}
use mathlib.Core.Logic.{◌⊎◌, inl, inr}
use Prim.Native.Nat.{ℕ}
use mathlib.Core.Bool.{Bool, true, false, ◌||◌, false≢true}
use mathlib.Core.List.{List, [], ◌∷◌}
use lib.Dec.{eqb}
use Rattle.model.specs.Choice.{when◌then◌else◌}
use Rattle.model.specs.Objects.{Stx, atom, list, Stxs, nil, cons}
use Rattle.model.specs.Trees.{Tree, var, app, fun, datum, lst, stx, Trees, tnil, tcons, substitute, substitute_all, strip, strip_all}
use Rattle.model.specs.Meanings.{is_among}
use Rattle.model.specs.Jobs.{closed, closed_all}
use borrow.Author.Tests.{eq-eqb, eqb-true}
use Rattle.laws.proofs.Tests.{and_both, both_true, or_left, or_right}

or_cases : (a b : Bool) → (a || b) ≡ true → (a ≡ true) ⊎ (b ≡ true)
or_cases true b p = inl refl
or_cases false b p = inr p

-- every name of a is one of b, but perhaps x
abbrev Within : ℕ → List ℕ → List ℕ → Type 0
Within x a b = (y : ℕ) → is_among y a ≡ true → (eqb y x ≡ true) ⊎ (is_among y b ≡ true)

-- every name of a is one of b
abbrev Among : List ℕ → List ℕ → Type 0
Among a b = (y : ℕ) → is_among y a ≡ true → is_among y b ≡ true

among-cons : (z : ℕ) (a b : List ℕ) → Among a b → Among (z ∷ a) (z ∷ b)
unfolding is_among
among-cons z a b h y q = go (or_cases (eqb y z) (is_among y a) q)
  where
    go : (eqb y z ≡ true) ⊎ (is_among y a ≡ true) → (eqb y z || is_among y b) ≡ true
    go (inl p) = or_left (eqb y z) (is_among y b) p
    go (inr p) = or_right (eqb y z) (is_among y b) (h y p)

within-cons : (x z : ℕ) (a b : List ℕ) → Within x a b → Within x (z ∷ a) (z ∷ b)
unfolding is_among
within-cons x z a b h y q = go (or_cases (eqb y z) (is_among y a) q)
  where
    further : (eqb y x ≡ true) ⊎ (is_among y b ≡ true) → (eqb y x ≡ true) ⊎ ((eqb y z || is_among y b) ≡ true)
    further (inl p) = inl p
    further (inr p) = inr (or_right (eqb y z) (is_among y b) p)

    go : (eqb y z ≡ true) ⊎ (is_among y a ≡ true) → (eqb y x ≡ true) ⊎ ((eqb y z || is_among y b) ≡ true)
    go (inl p) = inr (or_left (eqb y z) (is_among y b) p)
    go (inr p) = further (h y p)

-- under a function of the name x itself nothing is excepted
within_own : (x z : ℕ) (a b : List ℕ) → Within x a b → eqb z x ≡ true → Among (z ∷ a) (z ∷ b)
unfolding is_among
within_own x z a b h e y q = go (within-cons x z a b h y q)
  where
    go : (eqb y x ≡ true) ⊎ ((eqb y z || is_among y b) ≡ true) → (eqb y z || is_among y b) ≡ true
    go (inl p) = or_left (eqb y z) (is_among y b) (eq-eqb y z (eqb-true y x p ∙ sym (eqb-true z x e)))
    go (inr p) = p

mutual
  unfolding closed

  closed-more : (a b : List ℕ) → Among a b → (t : Tree) → closed a t ≡ true → closed b t ≡ true
  closed-more a b h (var y) q = h y q
  closed-more a b h (app f l) q =
      let w = and_both (closed a f) (closed_all a l) q in
      both_true (closed b f) (closed_all b l) (closed-more a b h f w.0) (closed_all-more a b h l w.1)
  closed-more a b h (fun y t) q = closed-more (y ∷ a) (y ∷ b) (among-cons y a b h) t q
  closed-more a b h (datum d) q = refl
  closed-more a b h (lst l) q = closed_all-more a b h l q
  closed-more a b h (stx s) q = refl

  closed_all-more : (a b : List ℕ) → Among a b → (l : Trees) → closed_all a l ≡ true → closed_all b l ≡ true
  closed_all-more a b h tnil q = refl
  closed_all-more a b h (tcons t l) q =
      let w = and_both (closed a t) (closed_all a l) q in
      both_true (closed b t) (closed_all b l) (closed-more a b h t w.0) (closed_all-more a b h l w.1)

none-among : (b : List ℕ) → Among [] b
unfolding is_among
none-among b y q = absurd (false≢true q)

one_name : (x : ℕ) → Within x (x ∷ []) []
unfolding is_among
one_name x y q = or_cases (eqb y x) false q

-- a closed value put for the variable x
module _ (x : ℕ) (v : Tree) (cv : closed [] v ≡ true) where
  put_var : (a b : List ℕ) (y : ℕ) → Within x a b → is_among y a ≡ true → closed b (when eqb y x then v else var y) ≡ true
  unfolding closed
  put_var a b y h q = go (eqb y x) refl (h y q)
    where
      go : (t : Bool) → eqb y x ≡ t → (eqb y x ≡ true) ⊎ (is_among y b ≡ true) → closed b (when t then v else var y) ≡ true
      go true e p = closed-more [] b (none-among b) v cv
      go false e (inl p) = absurd (false≢true (sym e ∙ p))
      go false e (inr p) = p

  put_fun : (a b : List ℕ) (y : ℕ) (t : Tree) → Within x a b → closed (y ∷ a) t ≡ true
      → (Within x (y ∷ a) (y ∷ b) → closed (y ∷ b) (substitute x v t) ≡ true)
      → closed b (when eqb y x then fun y t else fun y (substitute x v t)) ≡ true
  unfolding closed
  put_fun a b y t h q below = go (eqb y x) refl
    where
      go : (c : Bool) → eqb y x ≡ c → closed b (when c then fun y t else fun y (substitute x v t)) ≡ true
      go true e = closed-more (y ∷ a) (y ∷ b) (within_own x y a b h e) t q
      go false e = below (within-cons x y a b h)

  mutual
    unfolding closed substitute

    closed_put : (a b : List ℕ) (t : Tree) → Within x a b → closed a t ≡ true → closed b (substitute x v t) ≡ true
    closed_put a b (var y) h q = put_var a b y h q
    closed_put a b (app f l) h q =
        let w = and_both (closed a f) (closed_all a l) q in
        both_true (closed b (substitute x v f)) (closed_all b (substitute_all x v l)) (closed_put a b f h w.0) (closed_all_put a b l h w.1)
    closed_put a b (fun y t) h q = put_fun a b y t h q (λ h'. closed_put (y ∷ a) (y ∷ b) t h' q)
    closed_put a b (datum d) h q = refl
    closed_put a b (lst l) h q = closed_all_put a b l h q
    closed_put a b (stx s) h q = refl

    closed_all_put : (a b : List ℕ) (l : Trees) → Within x a b → closed_all a l ≡ true → closed_all b (substitute_all x v l) ≡ true
    closed_all_put a b tnil h q = refl
    closed_all_put a b (tcons t l) h q =
        let w = and_both (closed a t) (closed_all a l) q in
        both_true (closed b (substitute x v t)) (closed_all b (substitute_all x v l)) (closed_put a b t h w.0) (closed_all_put a b l h w.1)

  -- applying a function whose body has only its own variable free
  pub closed-substitute : (t : Tree) → closed (x ∷ []) t ≡ true → closed [] (substitute x v t) ≡ true
  closed-substitute t q = closed_put (x ∷ []) [] t (one_name x) q

-- stripped data has no variables
mutual
  unfolding strip closed

  pub strip-closed : (around : List ℕ) (s : Stx) → closed around (strip s) ≡ true
  strip-closed around (atom c a) = refl
  strip-closed around (list c l) = strip_all-closed around l

  strip_all-closed : (around : List ℕ) (l : Stxs) → closed_all around (strip_all l) ≡ true
  strip_all-closed around nil = refl
  strip_all-closed around (cons s l) = rw (strip-closed around s) (strip_all-closed around l)
