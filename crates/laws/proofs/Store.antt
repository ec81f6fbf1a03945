-- A store stays ascending when a new binding is put in its place.
use mathlib.Core.Path.{◌≡◌, refl, sym, ap, ap₂, ◌∙◌}
use mathlib.Core.Logic.{inl, inr}
use Prim.Native.Nat.{ℕ}
use native.Mathlib.Omega.{arith}
use mathlib.Core.Bool.{Bool, true, false, true≢false}
use mathlib.Core.List.{List, [], ◌∷◌}
use lib.Dec.{eqb, ltb}
use Rattle.model.specs.Choice.{when◌then◌else◌}
use Rattle.model.specs.Scopes.{Scopes, less_then, list_before, set_before, members}
use Rattle.model.specs.Resolving.{Bind, bind_before, insert}
use borrow.Author.Tests.{ltb-false, eqb-false, eqb-true}
use Rattle.laws.proofs.Members.{Small, add_all, set_of_members}
use Rattle.laws.proofs.ResolveRule.{In}
use Rattle.laws.specs.Ordered.{Ascending, Sorted}

-- not less either way: equal, and so is the rest neither way
less_neither : (x y : ℕ) (r t : Bool) → less_then (ltb x y) (eqb x y) r ≡ false → less_then (ltb y x) (eqb y x) t ≡ false
    → (x ≡ y) × (r ≡ false) × (t ≡ false)
unfolding less_then
less_neither x y r t p q = go (ltb x y) refl (ltb y x) refl (eqb x y) refl (eqb y x) refl p q
  where
    go : (a : Bool) → ltb x y ≡ a → (b : Bool) → ltb y x ≡ b → (c : Bool) → eqb x y ≡ c → (d : Bool) → eqb y x ≡ d
        → less_then a c r ≡ false → less_then b d t ≡ false → (x ≡ y) × (r ≡ false) × (t ≡ false)
    go true ea b eb c ec d ed p q = absurd (true≢false p)
    go false ea true eb c ec d ed p q = absurd (true≢false q)
    go false ea false eb true ec true ed p q = (eqb-true x y ec, p, q)
    go false ea false eb true ec false ed p q = absurd (eqb-false y x ed (sym (eqb-true x y ec)))
    go false ea false eb false ec d ed p q = absurd (eqb-false x y ec (omega (arith, ltb-false x y ea, ltb-false y x eb)))

list_total : (a b : List ℕ) → list_before a b ≡ false → list_before b a ≡ false → a ≡ b
unfolding list_before
list_total [] [] p q = refl
list_total [] (y ∷ b) p q = absurd (true≢false p)
list_total (x ∷ a) [] p q = absurd (true≢false q)
list_total (x ∷ a) (y ∷ b) p q =
    let g = less_neither x y (list_before a b) (list_before b a) p q in
    ap₂ (λ (z : ℕ) (l : List ℕ). z ∷ l) g.0 (list_total a b g.1 g.2)

set_total : (a b : Scopes) → Small a → Small b → set_before a b ≡ false → set_before b a ≡ false → a ≡ b
unfolding set_before
set_total a b ha hb p q =
    sym (set_of_members a ha) ∙ ap (λ (l : List ℕ). add_all l 0) (list_total (members a) (members b) p q) ∙ set_of_members b hb

-- two bindings in neither order have the same symbol and set
pub before_total : (a b : Bind) → Small a.set → Small b.set → bind_before a b ≡ false → bind_before b a ≡ false
    → (a.symb ≡ b.symb) × (a.set ≡ b.set)
unfolding bind_before
before_total a b ha hb p q =
    let g = less_neither a.symb b.symb (set_before a.set b.set) (set_before b.set a.set) p q in
    (g.0, set_total a.set b.set ha hb g.1 g.2)

abbrev pub Unlike : Bind → List Bind → Type 0
Unlike b l = (c : Bind) → In c l → Small c.set × (b.symb ≡ c.symb → b.set ≡ c.set → ⊥)

-- of two unlike bindings one is before the other
other_way : (b c : Bind) → Small b.set → Small c.set × (b.symb ≡ c.symb → b.set ≡ c.set → ⊥) → bind_before b c ≡ false → bind_before c b ≡ true
other_way b c h u e = go (bind_before c b) refl
  where
    go : (x : Bool) → bind_before c b ≡ x → bind_before c b ≡ true
    go true f = f
    go false f =
        let g = before_total b c h u.0 e f in
        absurd (u.1 g.0 g.1)

after-insert : (p b : Bind) (l : List Bind) → Small b.set → Unlike b l → bind_before p b ≡ true → Ascending p l → Ascending p (insert b l)
unfolding insert
after-insert p b [] h u q a = (q, tt)
after-insert p b (c ∷ l) h u q a = go (bind_before b c) refl (λ r. after-insert c b l h (λ d i. u d (inr i)) r a.1)
  where
    go : (t : Bool) → bind_before b c ≡ t → (bind_before c b ≡ true → Ascending c (insert b l)) → Ascending p (when t then b ∷ c ∷ l else c ∷ insert b l)
    go true e r = (q, (e, a.1))
    go false e r = (a.0, r (other_way b c h (u c (inl refl)) e))

pub insert_sorted : (b : Bind) (l : List Bind) → Small b.set → Unlike b l → Sorted l → Sorted (insert b l)
unfolding insert
insert_sorted b [] h u a = tt
insert_sorted b (c ∷ l) h u a = go (bind_before b c) refl
  where
    go : (t : Bool) → bind_before b c ≡ t → Sorted (when t then b ∷ c ∷ l else c ∷ insert b l)
    go true e = (e, a)
    go false e = after-insert c b l h (λ d i. u d (inr i)) (other_way b c h (u c (inl refl)) e) a
