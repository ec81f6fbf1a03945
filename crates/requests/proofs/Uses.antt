-- T-10: as many things as the tree's size; the uses in one list behind another; and a question to a summary made from a tree is
-- answered as by counting the whole tree.
use Prim.Native.Nat.{ℕ, zero, suc, ◌+◌, ◌*◌, ◌≤◌, ◌<◌}
use mathlib.Core.Path.{◌≡◌, refl, ap, ap₂, ◌∙◌}
use mathlib.Core.Bool.{Bool, true, false}
use mathlib.Core.List.{List, [], ◌∷◌, ◌++◌}
use native.Mathlib.Omega.{arith}
use lib.Dec.{eqb}
use lib.ListN.{length, get_or, length-append, get_or-append}
use borrow.Author.Tests.{eq-eqb, ne_eqb}
use Rattle.model.specs.Choice.{when◌then◌else◌}
use Rattle.model.specs.Objects.{Name}
use Rattle.model.specs.Trees.{Tree, var, app, fun, datum, lst, stx, Trees, tnil, tcons, tsize, tsize_by, tsizes_by}
use Rattle.requests.specs.Uses.{Thing, things, things_all, is_use, uses, first_use, Entry, entry_of, entry_words, summary_words, summary_of, entry_in}

-- ---- size counts the things

unfoldable pub tsizes : Trees → ℕ
unfolding tsizes_by
tsizes l = tsizes_by (λ s. 1) l

mutual
  unfolding things things_all tsize tsizes tsize_by tsizes_by

  pub size-things : (t : Tree) → length (things t) ≡ tsize t
  size-things (var n) = refl
  size-things (app h l) = omega (arith, length-append (things h) (things_all l), size-things h, sizes-things l)
  size-things (fun n b) = omega (arith, size-things b)
  size-things (datum a) = refl
  size-things (lst l) = omega (arith, sizes-things l)
  size-things (stx s) = refl

  pub sizes-things : (l : Trees) → length (things_all l) ≡ tsizes l
  sizes-things tnil = refl
  sizes-things (tcons t l) = omega (arith, length-append (things t) (things_all l), size-things t, sizes-things l)

-- ---- the uses in a list, and in another behind it

pub uses-few : (n : Name) (l : List Thing) → uses n l ≤ length l
unfolding uses
uses-few n [] = omega arith
uses-few n (x ∷ l) = go (is_use n x) (uses-few n l)
  where
    go : (b : Bool) → uses n l ≤ length l → (when b then suc (uses n l) else uses n l) ≤ suc (length l)
    go true r = omega arith
    go false r = omega arith

pub uses_append : (n : Name) (a b : List Thing) → uses n (a ++ b) ≡ uses n a + uses n b
unfolding uses
uses_append n [] b = omega arith
uses_append n (x ∷ a) b = go (is_use n x) (uses_append n a b)
  where
    go : (t : Bool) → uses n (a ++ b) ≡ uses n a + uses n b → (when t then suc (uses n (a ++ b)) else uses n (a ++ b)) ≡ (when t then suc (uses n a) else uses n a) + uses n b
    go true r = omega arith
    go false r = r

pub first-within : (n : Name) (l : List Thing) → 0 < uses n l → first_use n l < length l
unfolding uses first_use
first-within n [] h = absurd (omega arith)
first-within n (x ∷ l) h = go (is_use n x) h (first-within n l)
  where
    go : (t : Bool) → 0 < (when t then suc (uses n l) else uses n l) → (0 < uses n l → first_use n l < length l)
        → (when t then 0 else when eqb (uses n l) 0 then 0 else suc (first_use n l)) < suc (length l)
    go true k r = omega arith
    go false k r = let e = ne_eqb (uses n l) 0 (λ q. omega arith) in rw e (omega (arith, r k))

-- where the first list has one, it is the first of both
pub first-left : (n : Name) (a b : List Thing) → 0 < uses n a → first_use n (a ++ b) ≡ first_use n a
unfolding uses first_use
first-left n [] b h = absurd (omega arith)
first-left n (x ∷ a) b h = go (is_use n x) h (first-left n a b)
  where
    go : (t : Bool) → 0 < (when t then suc (uses n a) else uses n a) → (0 < uses n a → first_use n (a ++ b) ≡ first_use n a)
        → (when t then 0 else when eqb (uses n (a ++ b)) 0 then 0 else suc (first_use n (a ++ b))) ≡ (when t then 0 else when eqb (uses n a) 0 then 0 else suc (first_use n a))
    go true k r = refl
    go false k r =
        let e = ne_eqb (uses n a) 0 (λ q. omega arith) in
        let d = ne_eqb (uses n (a ++ b)) 0 (λ q. omega (arith, uses_append n a b)) in
        rw (e, d) (ap suc (r k))

pub first_right : (n : Name) (a b : List Thing) → uses n a ≡ 0 → 0 < uses n b → first_use n (a ++ b) ≡ length a + first_use n b
unfolding uses first_use
first_right n [] b h k = omega arith
first_right n (x ∷ a) b h k = go (is_use n x) h (λ q. first_right n a b q k)
  where
    go : (t : Bool) → (when t then suc (uses n a) else uses n a) ≡ 0 → (uses n a ≡ 0 → first_use n (a ++ b) ≡ length a + first_use n b)
        → (when t then 0 else when eqb (uses n (a ++ b)) 0 then 0 else suc (first_use n (a ++ b))) ≡ suc (length a) + first_use n b
    go true q r = absurd (omega arith)
    go false q r =
        let d = ne_eqb (uses n (a ++ b)) 0 (λ z. omega (arith, uses_append n a b)) in
        rw d (omega (arith, r q))

pub first-none : (n : Name) (a : List Thing) → uses n a ≡ 0 → first_use n a ≡ 0
unfolding uses first_use
first-none n [] h = refl
first-none n (x ∷ a) h = go (is_use n x) h
  where
    go : (t : Bool) → (when t then suc (uses n a) else uses n a) ≡ 0 → (when t then 0 else when eqb (uses n a) 0 then 0 else suc (first_use n a)) ≡ 0
    go true q = refl
    go false q = rw (eq-eqb (uses n a) 0 q) refl

-- ---- the words of entries

pub entries_length : (k : ℕ) (n : Name) (e : Name → Entry) → length (entry_words k n e) ≡ 2 * k
unfolding entry_words
entries_length zero n e = refl
entries_length (suc k) n e = omega (arith, entries_length k (suc n) e)

pub summary-length : (size names : ℕ) (e : Name → Entry) → length (summary_words size names e) ≡ 2 + 2 * names
unfolding summary_words
summary-length size names e = omega (arith, entries_length names 0 e)

count_at : (k : ℕ) (n i : Name) (e : Name → Entry) → i < k → get_or (entry_words k n e) (2 * i) 0 ≡ (e (n + i)).count
unfolding entry_words
count_at zero n i e h = absurd (omega arith)
count_at (suc k) n zero e h = let z : n + 0 ≡ n = omega arith in rw z refl
count_at (suc k) n (suc i) e h =
    let z : 2 * suc i ≡ suc (suc (2 * i)) = omega arith in
    let y : suc n + i ≡ n + suc i = omega arith in
    rw z (count_at k (suc n) i e (omega arith) ∙ ap (λ (x : ℕ). (e x).count) y)

first-at : (k : ℕ) (n i : Name) (e : Name → Entry) → i < k → get_or (entry_words k n e) (suc (2 * i)) 0 ≡ (e (n + i)).first
unfolding entry_words
first-at zero n i e h = absurd (omega arith)
first-at (suc k) n zero e h = let z : n + 0 ≡ n = omega arith in rw z refl
first-at (suc k) n (suc i) e h =
    let z : 2 * suc i ≡ suc (suc (2 * i)) = omega arith in
    let y : suc n + i ≡ n + suc i = omega arith in
    rw z (first-at k (suc n) i e (omega arith) ∙ ap (λ (x : ℕ). (e x).first) y)

pub summary-count : (size names : ℕ) (e : Name → Entry) (n : Name) → n < names → get_or (summary_words size names e) (2 + 2 * n) 0 ≡ (e n).count
unfolding summary_words
summary-count size names e n h = let z : 2 + 2 * n ≡ suc (suc (2 * n)) = omega arith in let y : 0 + n ≡ n = omega arith in rw z (count_at names 0 n e h ∙ ap (λ (x : ℕ). (e x).count) y)

pub summary-first : (size names : ℕ) (e : Name → Entry) (n : Name) → n < names → get_or (summary_words size names e) (3 + 2 * n) 0 ≡ (e n).first
unfolding summary_words
summary-first size names e n h = let z : 3 + 2 * n ≡ suc (suc (suc (2 * n))) = omega arith in let y : 0 + n ≡ n = omega arith in rw z (first-at names 0 n e h ∙ ap (λ (x : ℕ). (e x).first) y)

-- ---- a question to a summary made from that tree, whatever words lie behind, equals counting the whole tree
pub question_counts_the_tree : (names : ℕ) (t : Tree) (behind : List ℕ) (n : Name) → n < names → entry_in (summary_of names t ++ behind) n ≡ entry_of (things t) n
unfolding entry_in summary_of
question_counts_the_tree names t behind n h =
    let w = summary_words (tsize t) names (entry_of (things t)) in
    let l = summary-length (tsize t) names (entry_of (things t)) in
    let c = get_or-append w behind 0 (2 + 2 * n) (omega arith) ∙ summary-count (tsize t) names (entry_of (things t)) n h in
    let f = get_or-append w behind 0 (3 + 2 * n) (omega arith) ∙ summary-first (tsize t) names (entry_of (things t)) n h in
    ap₂ (λ (x y : ℕ). record { count = x; first = y }) c f
