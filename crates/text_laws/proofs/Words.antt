-- Words: as first met they are all different and those of the text; numbering and spelling are inverse.
use mathlib.Core.Path.{◌≡◌, refl, sym, ap, ap₂, subst}
use Prim.Native.Nat.{ℕ, zero, suc, ◌+◌, ◌≤◌, ◌<◌, zero-le, suc-le-suc}
use native.Mathlib.Nat.{le_trans}
use native.Mathlib.Omega.{arith}
use mathlib.Core.Bool.{Bool, true, false, ◌||◌, false≢true}
use mathlib.Core.List.{List, [], ◌∷◌, ◌++◌}
use lib.Dec.{eqb}
use lib.ListN.{length, get_or}
use Rattle.model.specs.Choice.{when◌then◌else◌}
use Rattle.model.specs.Reading.{same_bytes, among}
use borrow.Author.Tests.{eqb-true, eq-eqb}
use Rattle.requests.specs.Tokens.{Leaf, word, number, point, prim, rung, Token, opening, closing, bad, one, place}
use Rattle.requests.specs.FromText.{met}
use Rattle.laws.proofs.Tests.{and_both, or_left, or_right}

pub same_eq : (w v : List ℕ) → same_bytes w v ≡ true → w ≡ v
unfolding same_bytes
same_eq [] [] e = refl
same_eq [] (y ∷ v) e = absurd (false≢true e)
same_eq (x ∷ w) [] e = absurd (false≢true e)
same_eq (x ∷ w) (y ∷ v) e =
    let a = and_both (eqb x y) (same_bytes w v) e in
    ap₂ (λ (b : ℕ) (l : List ℕ). b ∷ l) (eqb-true x y a.0) (same_eq w v a.1)

pub same_refl : (w : List ℕ) → same_bytes w w ≡ true
unfolding same_bytes
same_refl [] = refl
same_refl (x ∷ w) = rw (eq-eqb x x refl) (same_refl w)

-- ---- a word's place

pub place_back : (w : List ℕ) (l : List (List ℕ)) → among w l ≡ true → (get_or l (place w l) [] ≡ w) × (place w l < length l)
unfolding among place
place_back w [] e = absurd (false≢true e)
place_back w (v ∷ l) e = go (same_bytes w v) refl e (place_back w l)
  where
    go : (t : Bool) → same_bytes w v ≡ t → (t || among w l) ≡ true → (among w l ≡ true → (get_or l (place w l) [] ≡ w) × (place w l < length l))
        → (get_or (v ∷ l) (when t then 0 else suc (place w l)) [] ≡ w) × ((when t then 0 else suc (place w l)) < suc (length l))
    go true p q below = (sym (same_eq w v p), suc-le-suc zero-le)
    go false p q below = ((below q).0, suc-le-suc (below q).1)

-- a word is in a list where its place is
pub among-place : (w : List ℕ) (l : List (List ℕ)) → place w l < length l → among w l ≡ true
unfolding among place
among-place w [] h = absurd (none h)
  where
    none : place w [] < 0 → ⊥
    none k = omega arith
among-place w (v ∷ l) h = go (same_bytes w v) h (among-place w l)
  where
    go : (t : Bool) → (when t then 0 else suc (place w l)) < suc (length l) → (place w l < length l → among w l ≡ true) → (t || among w l) ≡ true
    go true k below = refl
    go false k below = below (omega arith)

pub not_among_place : (w : List ℕ) (l : List (List ℕ)) → length l ≤ place w l → among w l ≡ false
unfolding among place
not_among_place w [] h = refl
not_among_place w (v ∷ l) h = go (same_bytes w v) h (not_among_place w l)
  where
    go : (t : Bool) → suc (length l) ≤ (when t then 0 else suc (place w l)) → (length l ≤ place w l → among w l ≡ false) → (t || among w l) ≡ false
    go true k below = absurd (none k)
      where
        none : suc (length l) ≤ 0 → ⊥
        none j = omega arith
    go false k below = below (omega arith)

-- in two lists, one behind the other
pub place-first : (w : List ℕ) (a b : List (List ℕ)) → place w a < length a → place w (a ++ b) ≡ place w a
unfolding place
place-first w [] b h = absurd (none h)
  where
    none : place w [] < 0 → ⊥
    none k = omega arith
place-first w (v ∷ a) b h = go (same_bytes w v) h (place-first w a b)
  where
    go : (t : Bool) → (when t then 0 else suc (place w a)) < suc (length a) → (place w a < length a → place w (a ++ b) ≡ place w a)
        → (when t then 0 else suc (place w (a ++ b))) ≡ (when t then 0 else suc (place w a))
    go true k below = refl
    go false k below = ap suc (below (omega arith))

pub place-second : (w : List ℕ) (a b : List (List ℕ)) → length a ≤ place w a → place w (a ++ b) ≡ length a + place w b
unfolding place
place-second w [] b h = omega arith
place-second w (v ∷ a) b h = go (same_bytes w v) h (place-second w a b)
  where
    go : (t : Bool) → suc (length a) ≤ (when t then 0 else suc (place w a)) → (length a ≤ place w a → place w (a ++ b) ≡ length a + place w b)
        → (when t then 0 else suc (place w (a ++ b))) ≡ suc (length a) + place w b
    go true k below = absurd (none k)
      where
        none : suc (length a) ≤ 0 → ⊥
        none j = omega arith
    go false k below = let e = below (omega arith) in omega arith

pub place-most : (w : List ℕ) (l : List (List ℕ)) → place w l ≤ length l
unfolding place
place-most w [] = omega arith
place-most w (v ∷ l) = go (same_bytes w v) (place-most w l)
  where
    go : (t : Bool) → place w l ≤ length l → (when t then 0 else suc (place w l)) ≤ suc (length l)
    go true h = omega arith
    go false h = omega arith

pub at-among : (l : List (List ℕ)) (x : ℕ) → x < length l → among (get_or l x []) l ≡ true
unfolding among
at-among [] x h = absurd (none x h)
  where
    none : (x : ℕ) → x < 0 → ⊥
    none x h = omega arith
at-among (v ∷ l) zero h = rw (same_refl v)
at-among (v ∷ l) (suc x) h = go (same_bytes (get_or l x []) v) (at-among l x (less h))
  where
    less : suc x < suc (length l) → x < length l
    less k = omega arith

    go : (t : Bool) → among (get_or l x []) l ≡ true → (t || among (get_or l x []) l) ≡ true
    go true e = refl
    go false e = e

pub among-left : (w : List ℕ) (a b : List (List ℕ)) → among w a ≡ true → among w (a ++ b) ≡ true
unfolding among
among-left w [] b e = absurd (false≢true e)
among-left w (v ∷ a) b e = go (same_bytes w v) e (among-left w a b)
  where
    go : (t : Bool) → (t || among w a) ≡ true → (among w a ≡ true → among w (a ++ b) ≡ true) → (t || among w (a ++ b)) ≡ true
    go true e below = refl
    go false e below = below e

pub among_right : (w : List ℕ) (a b : List (List ℕ)) → among w b ≡ true → among w (a ++ b) ≡ true
unfolding among
among_right w [] b e = e
among_right w (v ∷ a) b e = go (same_bytes w v) (among_right w a b e)
  where
    go : (t : Bool) → among w (a ++ b) ≡ true → (t || among w (a ++ b)) ≡ true
    go true e = refl
    go false e = e

pub among-part : (w : List ℕ) (a b : List (List ℕ)) → among w (a ++ b) ≡ true → among w a ≡ false → among w b ≡ true
unfolding among
among-part w [] b e n = e
among-part w (v ∷ a) b e n = go (same_bytes w v) e n (among-part w a b)
  where
    go : (t : Bool) → (t || among w (a ++ b)) ≡ true → (t || among w a) ≡ false → (among w (a ++ b) ≡ true → among w a ≡ false → among w b ≡ true)
        → among w b ≡ true
    go true e n below = absurd (false≢true (sym n))
    go false e n below = below e n

-- ---- every word of the tokens is in a list

abbrev pub LeafIn : List (List ℕ) → Leaf → Type 0
LeafIn all (word w) = among w all ≡ true
LeafIn all (number n) = Unit {0}
LeafIn all (point n) = Unit {0}
LeafIn all (prim n) = Unit {0}
LeafIn all (rung n) = Unit {0}

abbrev pub Covered : List (List ℕ) → List Token → Type 0
Covered all [] = Unit {0}
Covered all (one l ∷ ts) = LeafIn all l × Covered all ts
Covered all (opening ∷ ts) = Covered all ts
Covered all (closing ∷ ts) = Covered all ts
Covered all (bad ∷ ts) = Covered all ts

abbrev Into : List (List ℕ) → List (List ℕ) → Type 0
Into a b = (w : List ℕ) → among w a ≡ true → among w b ≡ true

into_cons : (w : List ℕ) (seen l all : List (List ℕ)) → Into seen all → Into (w ∷ l) all → Into (w ∷ seen) all × Into l all × (among w all ≡ true)
unfolding among
into_cons w seen l all h k =
    (λ v e. first v (same_bytes v w) refl e, λ v e. k v (or_right (same_bytes v w) (among v l) e), k w (or_left (same_bytes w w) (among w l) (same_refl w)))
  where
    first : (v : List ℕ) (t : Bool) → same_bytes v w ≡ t → (t || among v seen) ≡ true → among v all ≡ true
    first v true p e = k v (or_left (same_bytes v w) (among v l) p)
    first v false p e = h v e

-- the words met cover the tokens
pub met_covers : (ts : List Token) (seen all : List (List ℕ)) → Into seen all → Into (met seen ts) all → Covered all ts
unfolding met
met_covers [] seen all h k = tt
met_covers (one (word w) ∷ ts) seen all h k = go (among w seen) refl k (met_covers ts seen all h) (met_covers ts (w ∷ seen) all)
  where
    go : (t : Bool) → among w seen ≡ t → Into (when t then met seen ts else w ∷ met (w ∷ seen) ts) all
        → (Into (met seen ts) all → Covered all ts)
        → (Into (w ∷ seen) all → Into (met (w ∷ seen) ts) all → Covered all ts)
        → (among w all ≡ true) × Covered all ts
    go true p k f g = (h w p, f k)
    go false p k f g =
        let a = into_cons w seen (met (w ∷ seen) ts) all h k in
        (a.2, g a.0 a.1)
met_covers (one (number n) ∷ ts) seen all h k = (tt, met_covers ts seen all h k)
met_covers (one (point n) ∷ ts) seen all h k = (tt, met_covers ts seen all h k)
met_covers (one (prim n) ∷ ts) seen all h k = (tt, met_covers ts seen all h k)
met_covers (one (rung n) ∷ ts) seen all h k = (tt, met_covers ts seen all h k)
met_covers (opening ∷ ts) seen all h k = met_covers ts seen all h k
met_covers (closing ∷ ts) seen all h k = met_covers ts seen all h k
met_covers (bad ∷ ts) seen all h k = met_covers ts seen all h k

pub covered_by_met : (core : List (List ℕ)) (ts : List Token) → Covered (core ++ met core ts) ts
covered_by_met core ts =
    met_covers ts core (core ++ met core ts) (λ w e. among-left w core (met core ts) e) (λ w e. among_right w core (met core ts) e)

-- ---- and are no more than the words of a list that covers the tokens

-- how many of l are not among those seen
unfoldable fresh : List (List ℕ) → List (List ℕ) → ℕ
fresh seen [] = 0
fresh seen (v ∷ l) = when among v seen then fresh seen l else suc (fresh seen l)

fresh_le : (seen l : List (List ℕ)) → fresh seen l ≤ length l
unfolding fresh
fresh_le seen [] = zero-le
fresh_le seen (v ∷ l) = go (among v seen) (fresh_le seen l)
  where
    go : (t : Bool) → fresh seen l ≤ length l → (when t then fresh seen l else suc (fresh seen l)) ≤ suc (length l)
    go true h = omega arith
    go false h = omega arith

fresh_fewer : (w : List ℕ) (seen l : List (List ℕ)) → fresh (w ∷ seen) l ≤ fresh seen l
unfolding fresh among
fresh_fewer w seen [] = zero-le
fresh_fewer w seen (v ∷ l) = go (same_bytes v w) (among v seen) (fresh_fewer w seen l)
  where
    go : (s t : Bool) → fresh (w ∷ seen) l ≤ fresh seen l
        → (when s || t then fresh (w ∷ seen) l else suc (fresh (w ∷ seen) l)) ≤ (when t then fresh seen l else suc (fresh seen l))
    go true true h = h
    go true false h = omega arith
    go false true h = h
    go false false h = omega arith

fresh_less : (w : List ℕ) (seen l : List (List ℕ)) → among w seen ≡ false → among w l ≡ true → suc (fresh (w ∷ seen) l) ≤ fresh seen l
unfolding fresh among
fresh_less w seen [] n e = absurd (false≢true e)
fresh_less w seen (v ∷ l) n e = go (same_bytes w v) refl e (fresh_less w seen l n)
  where
    same_v : same_bytes w v ≡ true → (same_bytes v w ≡ true) × (among v seen ≡ false)
    same_v p = subst (λ (z : List ℕ). (same_bytes z w ≡ true) × (among z seen ≡ false)) (same_eq w v p) (same_refl w, n)

    here : (s t : Bool) → s ≡ true → t ≡ false → fresh (w ∷ seen) l ≤ fresh seen l
        → suc (when s || t then fresh (w ∷ seen) l else suc (fresh (w ∷ seen) l)) ≤ (when t then fresh seen l else suc (fresh seen l))
    here true false p q h = suc-le-suc h
    here true true p q h = absurd (false≢true (sym q))
    here false t p q h = absurd (false≢true p)

    there : (s t : Bool) → suc (fresh (w ∷ seen) l) ≤ fresh seen l
        → suc (when s || t then fresh (w ∷ seen) l else suc (fresh (w ∷ seen) l)) ≤ (when t then fresh seen l else suc (fresh seen l))
    there true true h = h
    there true false h = omega arith
    there false true h = h
    there false false h = omega arith

    go : (t : Bool) → same_bytes w v ≡ t → (t || among w l) ≡ true → (among w l ≡ true → suc (fresh (w ∷ seen) l) ≤ fresh seen l)
        → suc (when same_bytes v w || among v seen then fresh (w ∷ seen) l else suc (fresh (w ∷ seen) l))
        ≤ (when among v seen then fresh seen l else suc (fresh seen l))
    go true p q below = here (same_bytes v w) (among v seen) (same_v p).0 (same_v p).1 (fresh_fewer w seen l)
    go false p q below = there (same_bytes v w) (among v seen) (below q)

-- a word of `all` that is not seen is in ws
abbrev Left : List (List ℕ) → List (List ℕ) → List (List ℕ) → Type 0
Left all seen ws = (w : List ℕ) → among w all ≡ true → among w seen ≡ false → among w ws ≡ true

left-cons : (w : List ℕ) (all seen ws : List (List ℕ)) → Left all seen ws → Left all (w ∷ seen) ws
unfolding among
left-cons w all seen ws h v e n = h v e (or-false (same_bytes v w) (among v seen) n)
  where
    or-false : (x y : Bool) → (x || y) ≡ false → y ≡ false
    or-false true y e = absurd (false≢true (sym e))
    or-false false y e = e

met-few : (ts : List Token) (all seen ws : List (List ℕ)) → Covered all ts → Left all seen ws → length (met seen ts) ≤ fresh seen ws
unfolding met
met-few [] all seen ws c h = zero-le
met-few (one (word w) ∷ ts) all seen ws c h =
    go (among w seen) refl (met-few ts all seen ws c.1 h) (met-few ts all (w ∷ seen) ws c.1 (left-cons w all seen ws h))
  where
    go : (t : Bool) → among w seen ≡ t → length (met seen ts) ≤ fresh seen ws → length (met (w ∷ seen) ts) ≤ fresh (w ∷ seen) ws
        → length (when t then met seen ts else w ∷ met (w ∷ seen) ts) ≤ fresh seen ws
    go true p f g = f
    go false p f g = le_trans (suc-le-suc g) (fresh_less w seen ws p (h w c.0 p))
met-few (one (number n) ∷ ts) all seen ws c h = met-few ts all seen ws c.1 h
met-few (one (point n) ∷ ts) all seen ws c h = met-few ts all seen ws c.1 h
met-few (one (prim n) ∷ ts) all seen ws c h = met-few ts all seen ws c.1 h
met-few (one (rung n) ∷ ts) all seen ws c h = met-few ts all seen ws c.1 h
met-few (opening ∷ ts) all seen ws c h = met-few ts all seen ws c h
met-few (closing ∷ ts) all seen ws c h = met-few ts all seen ws c h
met-few (bad ∷ ts) all seen ws c h = met-few ts all seen ws c h

pub met_no_more : (core ws : List (List ℕ)) (ts : List Token) → Covered (core ++ ws) ts → length (met core ts) ≤ length ws
met_no_more core ws ts c =
    le_trans (met-few ts (core ++ ws) core ws c (λ w e n. among-part w core ws e n)) (fresh_le core ws)
