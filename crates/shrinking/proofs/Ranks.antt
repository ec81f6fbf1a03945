-- Renumbering the members of a set in order is one-to-one and ascending, and ends at their count. It extends to new numbers for all
-- scopes, no two the same.
use mathlib.Core.Path.{◌≡◌, refl, sym, ap, ap₂, ◌∙◌}
use Prim.Native.Nat.{ℕ, zero, suc, ◌+◌, ◌≤◌, ◌<◌}
use native.Mathlib.Nat.{le_refl, le_trans}
use native.Mathlib.Omega.{arith}
use mathlib.Core.Bool.{Bool, true, false, ◌||◌, true≢false, false≢true}
use mathlib.Core.List.{List, [], ◌∷◌}
use lib.Dec.{eqb, ltb, leb}
use lib.ListN.{length}
use Rattle.model.specs.Choice.{when◌then◌else◌}
use Rattle.model.specs.Scopes.{Scopes, has, members, less_then, list_before}
use borrow.Author.Tests.{eq-eqb, eqb-true, le-leb, le-ltb, leb-false, leb-true, lt-leb, lt-ltb, ltb-false, ltb-true, ne_eqb}
use Rattle.laws.proofs.Members.{member, Small, member_has}
use Rattle.alike.proofs.Alike.{NewNumbers}
use Rattle.alike.specs.Renumbering.{mapped}
use Rattle.shrinking.specs.Shrunk.{rank_in, rank}

rank-yes : (j : ℕ) (l : List ℕ) (k : ℕ) → j ≤ k → rank_in (j ∷ l) k ≡ suc (rank_in l k)
unfolding rank_in
rank-yes j l k h = rw (le-leb j k h)

rank-no : (j : ℕ) (l : List ℕ) (k : ℕ) → k < j → rank_in (j ∷ l) k ≡ rank_in l k
unfolding rank_in
rank-no j l k h = rw (lt-leb j k h)

rank-more : (j : ℕ) (l : List ℕ) (k : ℕ) → rank_in l k ≤ rank_in (j ∷ l) k
unfolding rank_in
rank-more j l k = go (leb j k)
  where
    go : (t : Bool) → rank_in l k ≤ (when t then suc (rank_in l k) else rank_in l k)
    go true = omega arith
    go false = le_refl (rank_in l k)

rank_mono : (l : List ℕ) (j k : ℕ) → j ≤ k → rank_in l j ≤ rank_in l k
unfolding rank_in
rank_mono [] j k h = le_refl 0
rank_mono (i ∷ l) j k h = go (leb i j) refl (rank_mono l j k h)
  where
    go : (t : Bool) → leb i j ≡ t → rank_in l j ≤ rank_in l k
        → (when t then suc (rank_in l j) else rank_in l j) ≤ (when leb i k then suc (rank_in l k) else rank_in l k)
    go true e r =
        let low : i ≤ j = leb-true i j e in
        omega (arith, rank-yes i l k (le_trans low h))
    go false e r = le_trans r (rank-more i l k)

-- strictly, at a member
pub rank_strict : (l : List ℕ) (j k : ℕ) → member k l ≡ true → j < k → rank_in l j < rank_in l k
unfolding member
rank_strict [] j k m h = absurd (false≢true m)
rank_strict (i ∷ l) j k m h = go (eqb k i) refl m (rank_strict l j k) (leb i j) refl
  where
    go : (s : Bool) → eqb k i ≡ s → (s || member k l) ≡ true → (member k l ≡ true → j < k → rank_in l j < rank_in l k)
        → (t : Bool) → leb i j ≡ t → rank_in (i ∷ l) j < rank_in (i ∷ l) k
    go true e f r true d =
        let low : i ≤ j = leb-true i j d in
        let is : k ≡ i = eqb-true k i e in
        absurd (no low is)
      where
        no : i ≤ j → k ≡ i → ⊥
        no a b = omega arith
    go true e f r false d =
        let is : k ≡ i = eqb-true k i e in
        let up : j < i = leb-false i j d in
        omega (arith, rank-yes i l k (same is), rank-no i l j up, rank_mono l j k (less h))
      where
        same : k ≡ i → i ≤ k
        same b = omega arith

        less : j < k → j ≤ k
        less b = omega arith
    go false e f r true d =
        let low : i ≤ j = leb-true i j d in
        omega (arith, rank-yes i l k (up low), rank-yes i l j low, r f h)
      where
        up : i ≤ j → i ≤ k
        up a = omega arith
    go false e f r false d =
        let up : j < i = leb-false i j d in
        omega (arith, rank-no i l j up, rank-more i l k, r f h)

pub rank_most : (l : List ℕ) (k : ℕ) → rank_in l k ≤ length l
unfolding rank_in
rank_most [] k = le_refl 0
rank_most (i ∷ l) k = go (leb i k) (rank_most l k)
  where
    go : (t : Bool) → rank_in l k ≤ length l → (when t then suc (rank_in l k) else rank_in l k) ≤ suc (length l)
    go true r = omega arith
    go false r = omega arith

rank-some : (l : List ℕ) (k : ℕ) → member k l ≡ true → 1 ≤ rank_in l k
unfolding member
rank-some [] k m = absurd (false≢true m)
rank-some (i ∷ l) k m = go (eqb k i) refl m (rank-some l k)
  where
    go : (s : Bool) → eqb k i ≡ s → (s || member k l) ≡ true → (member k l ≡ true → 1 ≤ rank_in l k) → 1 ≤ rank_in (i ∷ l) k
    go true e f r =
        let is : k ≡ i = eqb-true k i e in
        omega (arith, rank-yes i l k (same is))
      where
        same : k ≡ i → i ≤ k
        same b = omega arith
    go false e f r = omega (arith, r f, rank-more i l k)

-- ---- on members the order is kept

module _ (l : List ℕ) (j k : ℕ) (a : member j l ≡ true) (b : member k l ≡ true) where
  rank-ltb : ltb (rank_in l j) (rank_in l k) ≡ ltb j k
  rank-ltb = go (ltb j k) refl
    where
      go : (t : Bool) → ltb j k ≡ t → ltb (rank_in l j) (rank_in l k) ≡ t
      go true e = lt-ltb (rank_in l j) (rank_in l k) (rank_strict l j k b (ltb-true j k e))
      go false e = le-ltb (rank_in l j) (rank_in l k) (rank_mono l k j (ltb-false j k e))

  rank-one : rank_in l j ≡ rank_in l k → j ≡ k
  rank-one e = go (ltb j k) refl (ltb k j) refl
    where
      go : (s : Bool) → ltb j k ≡ s → (t : Bool) → ltb k j ≡ t → j ≡ k
      go true p t q = absurd (no (rank_strict l j k b (ltb-true j k p)))
        where
          no : rank_in l j < rank_in l k → ⊥
          no h = omega arith
      go false p true q = absurd (no (rank_strict l k j a (ltb-true k j q)))
        where
          no : rank_in l k < rank_in l j → ⊥
          no h = omega arith
      go false p false q = omega (arith, ltb-false j k p, ltb-false k j q)

  rank-eqb : eqb (rank_in l j) (rank_in l k) ≡ eqb j k
  rank-eqb = go (eqb j k) refl
    where
      go : (t : Bool) → eqb j k ≡ t → eqb (rank_in l j) (rank_in l k) ≡ t
      go true e = eq-eqb (rank_in l j) (rank_in l k) (ap (rank_in l) (eqb-true j k e))
      go false e = ne_eqb (rank_in l j) (rank_in l k) (λ d. true≢false (sym (eq-eqb j k (rank-one d)) ∙ e))

module _ (l : List ℕ) (j k : ℕ) (a : member j l ≡ true) where
  rank-leb : leb (rank_in l j) (rank_in l k) ≡ leb j k
  rank-leb = go (leb j k) refl
    where
      go : (t : Bool) → leb j k ≡ t → leb (rank_in l j) (rank_in l k) ≡ t
      go true e = le-leb (rank_in l j) (rank_in l k) (rank_mono l j k (leb-true j k e))
      go false e = lt-leb (rank_in l j) (rank_in l k) (rank_strict l k j a (leb-false j k e))

-- every number of the list is in l
abbrev pub AllIn : List ℕ → List ℕ → Type 0
AllIn l [] = Unit {0}
AllIn l (k ∷ r) = (member k l ≡ true) × AllIn l r

pub before-ranked : (l a b : List ℕ) → AllIn l a → AllIn l b → list_before (mapped (rank_in l) a) (mapped (rank_in l) b) ≡ list_before a b
unfolding list_before mapped less_then
before-ranked l [] [] p q = refl
before-ranked l [] (y ∷ b) p q = refl
before-ranked l (x ∷ a) [] p q = refl
before-ranked l (x ∷ a) (y ∷ b) p q = rw (rank-ltb l x y p.0 q.0, rank-eqb l x y p.0 q.0, before-ranked l a b p.1 q.1)

-- ranked a second time: nothing changes
pub rank_again : (l r : List ℕ) → AllIn l r → (j : ℕ) → rank_in (mapped (rank_in l) r) (rank_in l j) ≡ rank_in r j
unfolding mapped rank_in
rank_again l [] p j = refl
rank_again l (i ∷ r) p j = rw (rank-leb l i j p.0, rank_again l r p.1 j)

pub mapped_again : (l r : List ℕ) → AllIn l r → (f : ℕ → ℕ) → ((j : ℕ) → f (rank_in l j) ≡ rank_in l j)
    → mapped f (mapped (rank_in l) r) ≡ mapped (rank_in l) r
unfolding mapped
mapped_again l [] p f h = refl
mapped_again l (i ∷ r) p f h = ap₂ (λ (x : ℕ) (m : List ℕ). x ∷ m) (h i) (mapped_again l r p.1 f h)

-- scopes are numbered from 1
pub has-zero : (u : Scopes) → has 0 u ≡ false
unfolding has
has-zero u = refl

-- ---- extended to all scopes: what is dropped goes past all that remain

module _ (u : Scopes) (small : Small u) where
  spread : Bool → ℕ → ℕ
  spread true k = rank_in (members u) k
  spread false k = length (members u) + k

  pub extension : ℕ → ℕ
  unfolding spread
  extension zero = 0
  extension (suc k) = spread (has (suc k) u) (suc k)

  is_member : (k : ℕ) → has k u ≡ true → member k (members u) ≡ true
  is_member k e = member_has k u small ∙ e

  pub extension_is : (k : ℕ) → has k u ≡ true → extension k ≡ rank u k
  unfolding extension spread rank
  extension_is zero e = absurd (false≢true (sym (has-zero u) ∙ e))
  extension_is (suc k) e = rw e

  pub extension_out : (k : ℕ) → has (suc k) u ≡ false → extension (suc k) ≡ length (members u) + suc k
  unfolding extension spread
  extension_out k e = rw e

  pub extension_zero : extension 0 ≡ 0
  unfolding extension
  extension_zero = refl

  never_zero : (k : ℕ) (b : Bool) → has (suc k) u ≡ b → 0 ≡ spread b (suc k) → ⊥
  unfolding spread
  never_zero k true p d = omega (arith, rank-some (members u) (suc k) (is_member (suc k) p))
  never_zero k false p d = omega arith

  pub extension_one : (j k : ℕ) → extension j ≡ extension k → j ≡ k
  unfolding extension spread
  extension_one zero zero e = refl
  extension_one zero (suc k) e = absurd (never_zero k (has (suc k) u) refl e)
  extension_one (suc j) zero e = absurd (never_zero j (has (suc j) u) refl (sym e))
  extension_one (suc j) (suc k) e = go (has (suc j) u) refl (has (suc k) u) refl e
    where
      go : (a : Bool) → has (suc j) u ≡ a → (b : Bool) → has (suc k) u ≡ b → spread a (suc j) ≡ spread b (suc k) → suc j ≡ suc k
      go true p true q d = rank-one (members u) (suc j) (suc k) (is_member (suc j) p) (is_member (suc k) q) d
      go true p false q d = absurd (no d (rank_most (members u) (suc j)))
        where
          no : rank_in (members u) (suc j) ≡ length (members u) + suc k → rank_in (members u) (suc j) ≤ length (members u) → ⊥
          no x y = omega arith
      go false p true q d = absurd (no d (rank_most (members u) (suc k)))
        where
          no : length (members u) + suc j ≡ rank_in (members u) (suc k) → rank_in (members u) (suc k) ≤ length (members u) → ⊥
          no x y = omega arith
      go false p false q d = omega arith

  abbrev pub ranked : NewNumbers
  ranked = record { to = extension; one_to_one = extension_one }
