-- Words as first met, in the form of a loop: the words found so far stand in order, and a new one goes to the end.
use mathlib.Core.Path.{◌≡◌, refl, sym, ap, ◌∙◌}
use Prim.Native.Nat.{ℕ}
use mathlib.Core.Bool.{Bool, true, false, ◌||◌, false≢true}
use mathlib.Core.List.{List, [], ◌∷◌, ◌++◌, append_assoc}
use Rattle.model.specs.Choice.{when◌then◌else◌}
use Rattle.model.specs.Reading.{same_bytes, among}
use Rattle.requests.specs.Tokens.{word, number, point, prim, rung, Token, opening, closing, bad, one}
use Rattle.requests.specs.FromText.{met}

-- the same words, in any order
abbrev Alike : List (List ℕ) → List (List ℕ) → Type 0
Alike a b = (w : List ℕ) → among w a ≡ among w b

alike_cons : (v : List ℕ) (a b : List (List ℕ)) → Alike a b → Alike (v ∷ a) (v ∷ b)
unfolding among
alike_cons v a b h w = ap (λ (t : Bool). same_bytes w v || t) (h w)

pub met_alike : (ts : List Token) (a b : List (List ℕ)) → Alike a b → met a ts ≡ met b ts
unfolding met
met_alike [] a b h = refl
met_alike (one (word w) ∷ ts) a b h = go (among w a) (among w b) (h w) (met_alike ts a b h) (met_alike ts (w ∷ a) (w ∷ b) (alike_cons w a b h))
  where
    go : (s t : Bool) → s ≡ t → met a ts ≡ met b ts → met (w ∷ a) ts ≡ met (w ∷ b) ts
        → (when s then met a ts else w ∷ met (w ∷ a) ts) ≡ (when t then met b ts else w ∷ met (w ∷ b) ts)
    go true true e f g = f
    go false false e f g = ap (λ (l : List (List ℕ)). w ∷ l) g
    go true false e f g = absurd (false≢true (sym e))
    go false true e f g = absurd (false≢true e)
met_alike (one (number n) ∷ ts) a b h = met_alike ts a b h
met_alike (one (point n) ∷ ts) a b h = met_alike ts a b h
met_alike (one (prim n) ∷ ts) a b h = met_alike ts a b h
met_alike (one (rung n) ∷ ts) a b h = met_alike ts a b h
met_alike (opening ∷ ts) a b h = met_alike ts a b h
met_alike (closing ∷ ts) a b h = met_alike ts a b h
met_alike (bad ∷ ts) a b h = met_alike ts a b h

or_swap : (x y z : Bool) → (x || (y || z)) ≡ (y || (x || z))
or_swap true true z = refl
or_swap true false z = refl
or_swap false true z = refl
or_swap false false z = refl

at-end : (v : List ℕ) (a : List (List ℕ)) → Alike (v ∷ a) (a ++ (v ∷ []))
unfolding among
at-end v [] w = refl
at-end v (u ∷ a) w = or_swap (same_bytes w v) (same_bytes w u) (among w a) ∙ ap (λ (t : Bool). same_bytes w u || t) (at-end v a w)

-- a word that is not found yet goes to the end
pub met-new : (all : List (List ℕ)) (w : List ℕ) (ts : List Token) → among w all ≡ false → met all (one (word w) ∷ ts) ≡ w ∷ met (all ++ (w ∷ [])) ts
unfolding met
met-new all w ts e = rw e (ap (λ (l : List (List ℕ)). w ∷ l) (met_alike ts (w ∷ all) (all ++ (w ∷ [])) (at-end w all)))

pub met-old : (all : List (List ℕ)) (w : List ℕ) (ts : List Token) → among w all ≡ true → met all (one (word w) ∷ ts) ≡ met all ts
unfolding met
met-old all w ts e = rw e

-- the loop's step: `found` after the core words are all that is known
pub found-new : (core found : List (List ℕ)) (w : List ℕ) (ts : List Token) → among w (core ++ found) ≡ false
    → found ++ met (core ++ found) (one (word w) ∷ ts) ≡ (found ++ (w ∷ [])) ++ met (core ++ (found ++ (w ∷ []))) ts
found-new core found w ts e =
    ap (λ (l : List (List ℕ)). found ++ l)
    (met-new (core ++ found) w ts e ∙ ap (λ (l : List (List ℕ)). w ∷ met l ts) (append_assoc core found (w ∷ [])))
    ∙ sym (append_assoc found (w ∷ []) (met (core ++ (found ++ (w ∷ []))) ts))
