-- T-02: n scans give n lines; the first lines of a longer recording are those of its first scans; and a line shows exactly the driven points.
use mathlib.Core.Path.{◌≡◌, refl, sym, ap, ◌∙◌}
use Prim.Native.Nat.{ℕ, zero, suc, ◌+◌, ◌≤◌, ◌<◌}
use native.Mathlib.Omega.{arith}
use mathlib.Core.Bool.{Bool, true, false}
use mathlib.Core.List.{List, [], ◌∷◌, ◌++◌}
use lib.Dec.{eqb}
use lib.ListN.{length, take, drop}
use lib.Seq.{drop-append_seam}
use borrow.Author.Tests.{eqb-true, eqb-false, eq-eqb, ne_eqb}
use Rattle.model.specs.Choice.{when◌then◌else◌}
use Rattle.model.specs.Trees.{Tree}
use Rattle.model.specs.Meanings.{is_among}
use Rattle.requests.specs.Recording.{Change}
use Rattle.requests.specs.Scanning.{State, scan, scans}
use Rattle.requests.specs.ScanJob.{line_after, ascending, driven_places, lines_from}

-- ---- n scans give n lines

pub as_many_lines : (t : Tree) (k : ℕ) (s : State) (r : List (List Change)) → length (lines_from t k s r) ≡ length r
unfolding lines_from
as_many_lines t k s [] = refl
as_many_lines t k s (c ∷ r) = ap suc (as_many_lines t (suc k) (scan t c s) r)

-- ---- the first lines of a longer recording are those of its first scans

pub first_lines : (m : ℕ) (t : Tree) (k : ℕ) (s : State) (r : List (List Change)) → take m (lines_from t k s r) ≡ lines_from t k s (take m r)
unfolding lines_from
first_lines zero t k s r = refl
first_lines (suc m) t k s [] = refl
first_lines (suc m) t k s (c ∷ r) = ap (λ (z : List (List ℕ)). line_after (driven_places t) k (scan t c s) ∷ z) (first_lines m t (suc k) (scan t c s) r)

-- ---- the others follow from the state after these: a scan depends on nothing but the state before it and its changes

pub lines_of_both : (t : Tree) (k : ℕ) (s : State) (a b : List (List Change))
    → lines_from t k s (a ++ b) ≡ lines_from t k s a ++ lines_from t (length a + k) (scans t a s) b
unfolding lines_from scans
lines_of_both t k s [] b = ap (λ (n : ℕ). lines_from t n s b) (none k)
  where
    none : (n : ℕ) → n ≡ 0 + n
    none n = omega arith
lines_of_both t k s (c ∷ a) b =
    ap (λ (z : List (List ℕ)). line_after (driven_places t) k (scan t c s) ∷ z)
    (lines_of_both t (suc k) (scan t c s) a b
    ∙ ap (λ (n : ℕ). lines_from t (suc k) (scan t c s) a ++ lines_from t n (scans t a (scan t c s)) b) (moved (length a) k))
  where
    moved : (m n : ℕ) → m + suc n ≡ suc m + n
    moved m n = omega arith

later_lines : (t : Tree) (k : ℕ) (s : State) (a b : List (List Change)) → drop (length a) (lines_from t k s (a ++ b)) ≡ lines_from t (length a + k) (scans t a s) b
later_lines t k s a b =
    ap (drop (length a)) (lines_of_both t k s a b)
    ∙ ap (λ (n : ℕ). drop n (lines_from t k s a ++ lines_from t (length a + k) (scans t a s) b)) (sym (as_many_lines t k s a))
    ∙ drop-append_seam (lines_from t k s a) (lines_from t (length a + k) (scans t a s) b)

-- after as many scans that left the same state, whatever they were
pub only_the_state : (t : Tree) (k : ℕ) (s s' : State) (a a' b : List (List Change)) → length a ≡ length a' → scans t a s ≡ scans t a' s'
    → drop (length a) (lines_from t k s (a ++ b)) ≡ drop (length a') (lines_from t k s' (a' ++ b))
only_the_state t k s s' a a' b e q = rw (later_lines t k s a b, later_lines t k s' a' b, e, q)

-- ---- a line shows exactly the driven points

below_none : (c x y : ℕ) (d : List ℕ) → y < x → is_among y (ascending c x d) ≡ false
unfolding ascending is_among
below_none zero x y d h = refl
below_none (suc c) x y d h = go (is_among x d) (below_none c (suc x) y d (omega arith))
  where
    go : (t : Bool) → is_among y (ascending c (suc x) d) ≡ false → is_among y (when t then x ∷ ascending c (suc x) d else ascending c (suc x) d) ≡ false
    go true q = rw (ne_eqb y x (λ e. omega arith)) q
    go false q = q

pub shown_exactly : (c x y : ℕ) (d : List ℕ) → x ≤ y → y < x + c → is_among y (ascending c x d) ≡ is_among y d
unfolding ascending is_among
shown_exactly zero x y d h k = absurd (omega arith)
shown_exactly (suc c) x y d h k = go (eqb x y) refl (λ q. shown_exactly c (suc x) y d q (omega arith))
  where
    same : x ≡ y → (t : Bool) → is_among x d ≡ t → is_among y (when t then x ∷ ascending c (suc x) d else ascending c (suc x) d) ≡ is_among y d
    same e true q = rw (eq-eqb y x (sym e)) (sym q ∙ ap (λ (z : ℕ). is_among z d) e)
    same e false q = below_none c (suc x) y d (omega arith) ∙ sym q ∙ ap (λ (z : ℕ). is_among z d) e

    other : (x ≡ y → ⊥) → is_among y (ascending c (suc x) d) ≡ is_among y d → (t : Bool)
        → is_among y (when t then x ∷ ascending c (suc x) d else ascending c (suc x) d) ≡ is_among y d
    other e q true = rw (ne_eqb y x (λ z. e (sym z))) q
    other e q false = q

    go : (t : Bool) → eqb x y ≡ t → (suc x ≤ y → is_among y (ascending c (suc x) d) ≡ is_among y d) → is_among y (when is_among x d then x ∷ ascending c (suc x) d else ascending c (suc x) d) ≡ is_among y d
    go true q f = same (eqb-true x y q) (is_among x d) refl
    go false q f = let e = eqb-false x y q in other e (f (omega arith)) (is_among x d)
