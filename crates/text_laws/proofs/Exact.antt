-- Where `judged` finds no fault, the tokens are those of one object, and it is what is read.
use mathlib.Core.Path.{◌≡◌, refl, sym, ap, ◌∙◌, subst}
use Prim.Native.Nat.{ℕ, zero, suc}
use native.Mathlib.Omega.{arith}
use mathlib.Core.Bool.{Bool, true, false, ◌&&◌}
use mathlib.Core.List.{List, [], ◌∷◌}
use mathlib.Core.Option.{Option, none, some}
use mathlib.Core.Logic.{◌⊎◌, inl, inr}
use Rattle.model.specs.Choice.{when◌then◌else◌}
use lib.Dec.{eqb, eqb-suc-zero}
use Rattle.requests.specs.Tokens.{Leaf, Token, opening, closing, bad, one}
use Rattle.requests.specs.FromText.{TextRefusal, bad_text, unbalanced, made, refused, unless_second, at_last, judged, Obj, leaf, group, Objs, nothing, push, shut, built, the_object, unless, read_object}
use Rattle.text_laws.proofs.TextTrip.{toks, toks_all, object-read}

some≢none : (r : TextRefusal) → some r ≡ none → ⊥
some≢none r e = subst code e tt
  where
    code : Option TextRefusal → Type 0
    code (some r) = Unit {0}
    code none = ⊥

-- d lists are open, and after them nothing
abbrev Stack : ℕ → List Objs → Type 0
Stack zero ls = ls ≡ nothing ∷ []
Stack (suc d) [] = ⊥
Stack (suc d) (l ∷ ls) = Stack d ls

-- the tokens of a stack
unfoldable after : List Objs → List Token
after [] = []
after (l ∷ ls) = closing ∷ toks_all l (after ls)

unfoldable unbuilt : List Objs → List Token
unfolding after
unbuilt [] = []
unbuilt (l ∷ ls) = toks_all l (after ls)

after-some : (d : ℕ) (ls : List Objs) → Stack d ls → after ls ≡ closing ∷ unbuilt ls
unfolding after unbuilt
after-some zero [] s = absurd (no s)
  where
    code : List Objs → Type 0
    code [] = Unit {0}
    code (l ∷ ls) = ⊥

    no : [] ≡ nothing ∷ [] → ⊥
    no e = subst code e tt
after-some zero (l ∷ ls) s = refl
after-some (suc d) [] s = absurd s
after-some (suc d) (l ∷ ls) s = refl

abbrev Inside : ℕ → List Token → List Objs → Type 0
Inside d ts ls = Stack d ls × (unbuilt ls ≡ ts)

open_step : (d : ℕ) (ts : List Token) (ls : List Objs) → Inside (suc (suc d)) ts ls → Inside (suc d) (opening ∷ ts) (shut ls)
unfolding shut push unbuilt after toks
open_step d ts [] i = absurd i.0
open_step d ts (l ∷ []) i = absurd i.0
open_step d ts (l ∷ k ∷ ls) i = (i.0, ap (λ (z : List Token). opening ∷ z) i.1)

one-step : (d : ℕ) (x : Leaf) (ts : List Token) (ls : List Objs) → Inside (suc d) ts ls → Inside (suc d) (one x ∷ ts) (push (leaf x) ls)
unfolding push unbuilt toks
one-step d x ts [] i = absurd i.0
one-step d x ts (l ∷ ls) i = (i.0, ap (λ (z : List Token). one x ∷ z) i.1)

close_step : (d : ℕ) (ts : List Token) (ls : List Objs) → Inside d ts ls → Inside (suc d) (closing ∷ ts) (nothing ∷ ls)
unfolding unbuilt toks
close_step d ts ls i = (i.0, after-some d ls i.0 ∙ ap (λ (z : List Token). closing ∷ z) i.1)

nothing_left : unbuilt (nothing ∷ []) ≡ []
unfolding unbuilt toks
nothing_left = refl

last-list : (l : Objs) (ls : List Objs) → ls ≡ nothing ∷ [] → unbuilt (l ∷ ls) ≡ toks_all l (closing ∷ [])
unfolding unbuilt after toks
last-list l ls e = ap (λ (z : List Objs). toks_all l (after z)) e

toks_leaf : (l : Leaf) → one l ∷ [] ≡ toks (leaf l) []
unfolding toks
toks_leaf l = refl

toks_group : (l : Objs) → opening ∷ toks_all l (closing ∷ []) ≡ toks (group l) []
unfolding toks
toks_group l = refl

inside : (ts : List Token) (d : ℕ) → judged d true ts ≡ none → Inside d ts (built ts)
unfolding judged unless_second at_last built
inside [] zero e = (refl, nothing_left)
inside [] (suc d) e = absurd (some≢none unbalanced e)
inside (bad ∷ ts) d e = absurd (some≢none bad_text e)
inside (opening ∷ ts) zero e = absurd (some≢none bad_text e)
inside (opening ∷ ts) (suc d) e = open_step d ts (built ts) (inside ts (suc (suc d)) (rw (eqb-suc-zero d) at e))
inside (closing ∷ ts) zero e = absurd (some≢none unbalanced e)
inside (closing ∷ ts) (suc d) e = close_step d ts (built ts) (inside ts d e)
inside (one x ∷ ts) zero e = absurd (some≢none bad_text e)
inside (one x ∷ ts) (suc d) e = one-step d x ts (built ts) (inside ts (suc d) (rw (eqb-suc-zero d) at e))

-- no fault: the tokens are one object's
pub no-fault : (ts : List Token) → judged 0 false ts ≡ none → (x : Obj) × (ts ≡ toks x [])
unfolding judged unless_second at_last
no-fault [] e = absurd (some≢none bad_text e)
no-fault (bad ∷ ts) e = absurd (some≢none bad_text e)
no-fault (closing ∷ ts) e = absurd (some≢none unbalanced e)
no-fault (one l ∷ ts) e =
    let i = inside ts 0 e in
    (leaf l, ap (λ (z : List Token). one l ∷ z) (sym i.1 ∙ ap unbuilt i.0 ∙ nothing_left) ∙ toks_leaf l)
no-fault (opening ∷ ts) e = go (built ts) (inside ts 1 e)
  where
    go : (ls : List Objs) → Inside 1 ts ls → (x : Obj) × (opening ∷ ts ≡ toks x [])
    go [] i = absurd i.0
    go (l ∷ ls) i = (group l, ap (λ (z : List Token). opening ∷ z) (sym i.1 ∙ last-list l ls i.0) ∙ toks_group l)

-- what is read is the object whose tokens they are
pub refused≢made : {A : Type 0} (r : TextRefusal) (a : A) → refused r ≡ made a → ⊥
refused≢made r a e = let z : ◌≡◌ {A = ℕ} 0 1 = cc in omega arith

pub made-same : {A : Type 0} (a b : A) → made a ≡ made b → a ≡ b
made-same a b e = cc

pub read_exactly : (ts : List Token) (x : Obj) → read_object ts ≡ made x → ts ≡ toks x []
unfolding read_object unless
read_exactly ts x e = go (judged 0 false ts) refl e
  where
    go : (o : Option TextRefusal) → judged 0 false ts ≡ o → unless o (the_object (built ts)) ≡ made x → ts ≡ toks x []
    go (some r) p q = absurd (refused≢made r x q)
    go none p q =
        let f = no-fault ts p in
        f.1 ∙ ap (λ (z : Obj). toks z [])
        (made-same f.0 x (sym (object-read f.0) ∙ ap read_object (sym f.1) ∙ e))

-- and where there is no fault one is read: `judged` has all of 26 and 27
pub read_or_fault : (ts : List Token) → judged 0 false ts ≡ none → (x : Obj) × (read_object ts ≡ made x)
read_or_fault ts e =
    let f = no-fault ts e in
    (f.0, ap read_object f.1 ∙ object-read f.0)

-- ---- no other refusal comes from there

some_same : (a b : TextRefusal) → some a ≡ some b → b ≡ a
some_same a b e = cc

second-code : (d : ℕ) (b : Bool) (o : Option TextRefusal) (r : TextRefusal) → (o ≡ some r → (r ≡ bad_text) ⊎ (r ≡ unbalanced)) → unless_second d b o ≡ some r
    → (r ≡ bad_text) ⊎ (r ≡ unbalanced)
unfolding unless_second
second-code d b o r f e = go (b && eqb d 0) e
  where
    go : (t : Bool) → (when t then some bad_text else o) ≡ some r → (r ≡ bad_text) ⊎ (r ≡ unbalanced)
    go true q = inl (some_same bad_text r q)
    go false q = f q

pub judged-codes : (ts : List Token) (d : ℕ) (b : Bool) (r : TextRefusal) → judged d b ts ≡ some r → (r ≡ bad_text) ⊎ (r ≡ unbalanced)
unfolding judged at_last
judged-codes [] zero true r e = absurd (some≢none r (sym e))
judged-codes [] zero false r e = inl (some_same bad_text r e)
judged-codes [] (suc d) b r e = inr (some_same unbalanced r e)
judged-codes (bad ∷ ts) d b r e = inl (some_same bad_text r e)
judged-codes (opening ∷ ts) d b r e = second-code d b (judged (suc d) true ts) r (judged-codes ts (suc d) true r) e
judged-codes (closing ∷ ts) zero b r e = inr (some_same unbalanced r e)
judged-codes (closing ∷ ts) (suc d) b r e = judged-codes ts d b r e
judged-codes (one l ∷ ts) d b r e = second-code d b (judged d true ts) r (judged-codes ts d true r) e
