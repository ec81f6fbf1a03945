-- Trees and values that keep every limit and have no variable without its function; and that primitives 0 to 6 make such values.
use mathlib.Core.Path.{◌≡◌, refl, ap, subst}
use Prim.Native.Nat.{ℕ, zero, suc, ◌≤◌, ◌<◌, max}
use native.Mathlib.Nat.{le_trans, le-max_left, le-max_right}
use native.Mathlib.Omega.{arith}
use mathlib.Core.Bool.{Bool, true, false}
use mathlib.Core.Option.{Option, none, some}
use mathlib.Core.List.{[]}
use lib.Dec.{eqb}
use Rattle.model.specs.Choice.{when◌then◌else◌, given}
use Rattle.model.specs.Limits.{most_nesting}
use Rattle.model.specs.Objects.{number, Sets, Stx, atom, list, Stxs, nil, cons, same_atom}
use Rattle.model.specs.Trees.{Tree, var, app, fun, datum, lst, stx, Trees, tnil, tcons, tnesting, tnestings, substitute, substitute_all, as_stx, as_atom, as_list, as_number, from_stxs, to_stxs}
use Rattle.model.specs.Steps.{State, made_tree}
use Rattle.model.specs.Evaluating.{Plain, stx_e, mk_stx, first, rest, link, same, pick, content, sets_of, remade, first_of, rest_of, picked, primitive, argument}
use Rattle.model.specs.Jobs.{closed, closed_all}
use Rattle.laws.specs.Ordered.{SetsIn}
use Rattle.codec_laws.specs.WellFormed.{StxFits, StxsFit, IsValue, TreeFits, TreesFit, ValuesFit}
use Rattle.laws.proofs.Tests.{and_both, both_true}
use Rattle.addresses.proofs.Outcomes.{Outcome, weaken, made_tree-out}
use Rattle.addresses.proofs.Owned.{closed-substitute}

-- ---- what may be absent

pub none≢some : {A : Type 0} (a : A) → none ≡ some a → ⊥
none≢some a e = subst code e tt
  where
    code : {A : Type 0} → Option A → Type 0
    code none = Unit {0}
    code (some b) = ⊥

pub some-value : {A : Type 0} (a b : A) → some a ≡ some b → a ≡ b
some-value a b e = cc

pub given-some : {A B : Type 0} (o : Option A) (f : A → Option B) (b : B) → given o f ≡ some b → (a : A) × (o ≡ some a) × (f a ≡ some b)
given-some none f b e = absurd (none≢some b e)
given-some (some a) f b e = (a, refl, e)

-- the objects and lists that values are
pub stx-is : (t : Tree) (s : Stx) → as_stx t ≡ some s → t ≡ stx s
unfolding as_stx
stx-is (var x) s e = absurd (none≢some s e)
stx-is (app h l) s e = absurd (none≢some s e)
stx-is (fun x b) s e = absurd (none≢some s e)
stx-is (datum a) s e = absurd (none≢some s e)
stx-is (lst l) s e = absurd (none≢some s e)
stx-is (stx x) s e = ap stx (some-value x s e)

pub list-is : (t : Tree) (l : Trees) → as_list t ≡ some l → t ≡ lst l
unfolding as_list
list-is (var x) l e = absurd (none≢some l e)
list-is (app h p) l e = absurd (none≢some l e)
list-is (fun x b) l e = absurd (none≢some l e)
list-is (datum a) l e = absurd (none≢some l e)
list-is (lst p) l e = ap lst (some-value p l e)
list-is (stx s) l e = absurd (none≢some l e)

-- ---- where k symbols, n names and m scopes are declared

module _ (k n m : ℕ) where
  -- a tree that keeps the limits and whose variables all have their functions
  pub record TreeGood (t : Tree) : Type 0 where
    pub fits : TreeFits k n m t
    pub owned : closed [] t ≡ true
    pub shallow : tnesting t ≤ most_nesting

  abbrev pub ValueGood : Tree → Type 0
  ValueGood t = TreeGood t × IsValue t

  abbrev pub TreesGood : Trees → Type 0
  TreesGood tnil = Unit {0}
  TreesGood (tcons t l) = TreeGood t × TreesGood l

  abbrev pub ValuesGood : Trees → Type 0
  ValuesGood tnil = Unit {0}
  ValuesGood (tcons t l) = ValueGood t × ValuesGood l

  -- ---- parts

  trees-good : (l : Trees) → TreesFit k n m l → closed_all [] l ≡ true → tnestings l ≤ most_nesting → TreesGood l
  unfolding closed tnesting
  trees-good tnil f c s = tt
  trees-good (tcons t l) f c s =
      let w = and_both (closed [] t) (closed_all [] l) c in (
        record { fits = f.0; owned = w.0; shallow = le_trans (le-max_left (tnesting t) (tnestings l)) s },
        trees-good l f.1 w.1 (le_trans (le-max_right (tnesting t) (tnestings l)) s),
      )

  pub app-parts : (f : Tree) (l : Trees) → TreeGood (app f l) → TreeGood f × TreesGood l
  unfolding closed tnesting most_nesting
  app-parts f l g =
      let w = and_both (closed [] f) (closed_all [] l) g.owned in
      let s : max (tnesting f) (tnestings l) ≤ 64 = le_trans (up (max (tnesting f) (tnestings l))) g.shallow in (
        record { fits = g.fits.0; owned = w.0; shallow = le_trans (le-max_left (tnesting f) (tnestings l)) s },
        trees-good l g.fits.1 w.1 (le_trans (le-max_right (tnesting f) (tnestings l)) s),
      )
    where
      up : (a : ℕ) → a ≤ suc a
      up a = omega arith

  -- ---- substitution

  if_fits : (b : Bool) (t u : Tree) → TreeFits k n m t → TreeFits k n m u → TreeFits k n m (when b then t else u)
  if_fits true t u i j = i
  if_fits false t u i j = j

  if_value : (b : Bool) (t u : Tree) → IsValue t → IsValue u → IsValue (when b then t else u)
  if_value true t u i j = i
  if_value false t u i j = j

  substitute-value : (x : ℕ) (v t : Tree) → IsValue t → IsValue (substitute x v t)
  unfolding substitute
  substitute-value x v (var y) i = absurd i
  substitute-value x v (app h l) i = absurd i
  substitute-value x v (fun y b) i = if_value (eqb y x) (fun y b) (fun y (substitute x v b)) tt tt
  substitute-value x v (datum a) i = tt
  substitute-value x v (lst l) i = tt
  substitute-value x v (stx s) i = tt

  mutual
    unfolding substitute

    substitute-fits : (x : ℕ) (v : Tree) → TreeFits k n m v → (t : Tree) → TreeFits k n m t → TreeFits k n m (substitute x v t)
    substitute-fits x v i (var y) j = if_fits (eqb y x) v (var y) i j
    substitute-fits x v i (app h l) j = (substitute-fits x v i h j.0, substitute_all-fits x v i l j.1)
    substitute-fits x v i (fun y b) j =
        if_fits (eqb y x) (fun y b) (fun y (substitute x v b)) j (j.0, substitute-fits x v i b j.1)
    substitute-fits x v i (datum a) j = j
    substitute-fits x v i (lst l) j = substitute_values_fits x v i l j
    substitute-fits x v i (stx s) j = j

    substitute_all-fits : (x : ℕ) (v : Tree) → TreeFits k n m v → (l : Trees) → TreesFit k n m l → TreesFit k n m (substitute_all x v l)
    substitute_all-fits x v i tnil j = tt
    substitute_all-fits x v i (tcons t l) j = (substitute-fits x v i t j.0, substitute_all-fits x v i l j.1)

    substitute_values_fits : (x : ℕ) (v : Tree) → TreeFits k n m v → (l : Trees) → ValuesFit k n m l → ValuesFit k n m (substitute_all x v l)
    substitute_values_fits x v i tnil j = tt
    substitute_values_fits x v i (tcons t l) j =
        (substitute-value x v t j.0, substitute-fits x v i t j.1, substitute_values_fits x v i l j.2)

  -- ---- primitives

  -- what a primitive makes, before it is tested for 17
  abbrev pub Made : Tree → Type 0
  Made v = TreeFits k n m v × (closed [] v ≡ true) × IsValue v

  from_stxs-fits : (l : Stxs) → StxsFit k m l → ValuesFit k n m (from_stxs l)
  unfolding from_stxs
  from_stxs-fits nil i = tt
  from_stxs-fits (cons s l) i = (tt, i.0, from_stxs-fits l i.1)

  from_stxs-closed : (l : Stxs) → closed_all [] (from_stxs l) ≡ true
  unfolding from_stxs closed
  from_stxs-closed nil = refl
  from_stxs-closed (cons s l) = from_stxs-closed l

  content-made : (s : Stx) → StxFits k m s → Made (content s)
  unfolding content closed
  content-made (atom c a) i = (i.1, refl, tt)
  content-made (list c l) i = (from_stxs-fits l i.1, from_stxs-closed l, tt)

  to_stxs-fits : (l : Trees) (r : Stxs) → ValuesFit k n m l → to_stxs l ≡ some r → StxsFit k m r
  unfolding to_stxs
  to_stxs-fits tnil r i e = subst (λ (z : Stxs). StxsFit k m z) (some-value nil r e) tt
  to_stxs-fits (tcons t l) r i e =
      let g = given-some (as_stx t) _ r e in
      let h = given-some (to_stxs l) _ r g.2 in
      subst (λ (z : Stxs). StxsFit k m z) (some-value (cons g.0 h.0) r h.2)
      (subst (λ (z : Tree). TreeFits k n m z) (stx-is t g.0 g.1) i.1, to_stxs-fits l h.0 i.2 h.1)

  sets_of_in : (s : Stx) → StxFits k m s → SetsIn m (sets_of s)
  unfolding sets_of
  sets_of_in (atom c a) i = i.0
  sets_of_in (list c l) i = i.0

  remade-fits : (c : Sets) (t : Tree) (r : Stx) → SetsIn m c → TreeFits k n m t → remade c t ≡ some r → StxFits k m r
  unfolding remade
  remade-fits c (var x) r i j e = absurd (none≢some r e)
  remade-fits c (app h l) r i j e = absurd (none≢some r e)
  remade-fits c (fun x b) r i j e = absurd (none≢some r e)
  remade-fits c (datum a) r i j e = subst (λ (z : Stx). StxFits k m z) (some-value (atom c a) r e) (i, j)
  remade-fits c (lst l) r i j e =
      let g = given-some (to_stxs l) _ r e in
      subst (λ (z : Stx). StxFits k m z) (some-value (list c g.0) r g.2) (i, to_stxs-fits l g.0 j g.1)
  remade-fits c (stx s) r i j e = absurd (none≢some r e)

  value_made : (v : Tree) → ValueGood v → Made v
  value_made v g = (g.0.fits, g.0.owned, g.1)

  picked-made : (j : ℕ) (a b : Tree) → ValueGood a → ValueGood b → Made (picked j a b)
  unfolding picked
  picked-made zero a b g h = value_made b h
  picked-made (suc j) a b g h = value_made a g

  first_made : (l : Trees) (v : Tree) → ValuesFit k n m l → closed_all [] l ≡ true → first_of l ≡ some v → Made v
  unfolding first_of closed
  first_made tnil v i c e = absurd (none≢some v e)
  first_made (tcons t l) v i c e = subst Made (some-value t v e) (i.1, (and_both (closed [] t) (closed_all [] l) c).0, i.0)

  rest-made : (l : Trees) (v : Tree) → ValuesFit k n m l → closed_all [] l ≡ true → rest_of l ≡ some v → Made v
  unfolding rest_of closed
  rest-made tnil v i c e = absurd (none≢some v e)
  rest-made (tcons t l) v i c e = subst Made (some-value (lst l) v e) (i.2, (and_both (closed [] t) (closed_all [] l) c).1, tt)

  -- the object, or the list, that a good value is
  stx-fits : (t : Tree) (s : Stx) → ValueGood t → as_stx t ≡ some s → StxFits k m s
  stx-fits t s g e = subst (λ (z : Tree). TreeFits k n m z) (stx-is t s e) g.0.fits

  list-fits : (t : Tree) (l : Trees) → ValueGood t → as_list t ≡ some l → ValuesFit k n m l
  list-fits t l g e = subst (λ (z : Tree). TreeFits k n m z) (list-is t l e) g.0.fits

  list-closed : (t : Tree) (l : Trees) → ValueGood t → as_list t ≡ some l → closed_all [] l ≡ true
  unfolding closed
  list-closed t l g e = subst (λ (z : Tree). closed [] z ≡ true) (list-is t l e) g.0.owned

  one_or_none : (b : Bool) → (when b then 1 else 0) < 4294967296
  one_or_none true = omega arith
  one_or_none false = omega arith

  pub primitive-made : (p : Plain) (a b c v : Tree) → ValueGood a → ValueGood b → ValueGood c → primitive p a b c ≡ some v → Made v
  unfolding primitive closed
  primitive-made stx_e a b c v i j l e =
      let g = given-some (as_stx a) _ v e in
      subst Made (some-value (content g.0) v g.2) (content-made g.0 (stx-fits a g.0 i g.1))
  primitive-made mk_stx a b c v i j l e =
      let g = given-some (as_stx b) _ v e in
      let h = given-some (remade (sets_of g.0) a) _ v g.2 in
      subst Made (some-value (stx h.0) v h.2)
      (remade-fits (sets_of g.0) a h.0 (sets_of_in g.0 (stx-fits b g.0 j g.1)) i.0.fits h.1, refl, tt)
  primitive-made first a b c v i j l e =
      let g = given-some (as_list a) _ v e in
      first_made g.0 v (list-fits a g.0 i g.1) (list-closed a g.0 i g.1) g.2
  primitive-made rest a b c v i j l e =
      let g = given-some (as_list a) _ v e in
      rest-made g.0 v (list-fits a g.0 i g.1) (list-closed a g.0 i g.1) g.2
  primitive-made link a b c v i j l e =
      let g = given-some (as_list b) _ v e in
      subst Made (some-value (lst (tcons a g.0)) v g.2) (
        (i.1, i.0.fits, list-fits b g.0 j g.1),
        both_true (closed [] a) (closed_all [] g.0) i.0.owned (list-closed b g.0 j g.1),
        tt,
      )
  primitive-made same a b c v i j l e =
      let g = given-some (as_atom a) _ v e in
      let h = given-some (as_atom b) _ v g.2 in
      subst Made (some-value (datum (number (when same_atom g.0 h.0 then 1 else 0))) v h.2) (one_or_none (same_atom g.0 h.0), refl, tt)
  primitive-made pick a b c v i j l e =
      let g = given-some (as_atom a) _ v e in
      let h = given-some (as_number g.0) _ v g.2 in
      subst Made (some-value (picked h.0 b c) v h.2) (picked-made h.0 b c j l)

  -- ---- arguments, and what is made of them

  pub argument-good : (l : Trees) (i : ℕ) → ValuesGood l → ValueGood (argument l i)
  unfolding argument closed tnesting most_nesting
  argument-good tnil i h = (record { fits = tt; owned = refl; shallow = omega arith }, tt)
  argument-good (tcons t l) zero h = h.0
  argument-good (tcons t l) (suc i) h = argument-good l i h.1

  made-good : (v : Tree) → Made v → tnesting v ≤ most_nesting → ValueGood v
  made-good v g s = (record { fits = g.0; owned = g.1; shallow = s }, g.2)

  -- what is made is tested
  pub made-value : (w : Tree) → Made w → (s : State) → Outcome Tree (λ v u. ValueGood v × (s ≡ u)) (made_tree w s)
  made-value w h s = weaken (made_tree-out w s) (λ y t p. (subst ValueGood p.0 (made-good w h p.2), p.1))

  -- the body of a function with a value put for its variable
  pub body_good : (x : ℕ) (b v : Tree) → TreeGood (fun x b) → ValueGood v → tnesting (substitute x v b) ≤ most_nesting → TreeGood (substitute x v b)
  unfolding closed
  body_good x b v g i q = record {
    fits = substitute-fits x v i.0.fits b g.fits.1;
    owned = closed-substitute x v i.0.owned b g.owned;
    shallow = q;
  }
