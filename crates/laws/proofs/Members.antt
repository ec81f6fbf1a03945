-- A set is its ascending list of members, and the list its set.
use mathlib.Core.Path.{◌≡◌, refl, sym, ap, ap₂, ◌∙◌, subst}
use mathlib.Core.Logic.{◌≢◌}
use Prim.Native.Nat.{ℕ, zero, suc, ◌+◌, ◌/◌, ◌%◌, ◌^◌, ◌≤◌, ◌<◌, zero-le}
use native.Mathlib.Nat.{not-suc-le-zero, add-zero, le_refl}
use native.Mathlib.Omega.{arith}
use mathlib.Core.Bool.{Bool, true, false, ◌||◌, false≢true, or-false}
use mathlib.Core.List.{List, [], ◌∷◌}
use lib.Dec.{eqb, ltb, leb}
use lib.Arith.{lt-one}
use Rattle.model.specs.Limits.{most_scopes}
use Rattle.model.specs.Scopes.{Scopes, digit, has, add, keep, members_from, members}
use borrow.Author.Tests.{ne_eqb, leb-true, leb-false, ltb-true, ltb-false, eq-eqb}
use Rattle.laws.proofs.ScopeSets.{digit-zero, has-add, has-none, set_ext}

-- ---- ascending lists

-- above p, at most n, strictly ascending
abbrev pub Asc : ℕ → ℕ → List ℕ → Type 0
Asc p n [] = Unit {0}
Asc p n (k ∷ l) = (p < k) × (k ≤ n) × Asc k n l

unfoldable pub member : ℕ → List ℕ → Bool
member j [] = false
member j (k ∷ l) = eqb j k || member j l

lower : (p q n : ℕ) (l : List ℕ) → q ≤ p → Asc p n l → Asc q n l
lower p q n [] h a = tt
lower p q n (k ∷ l) h a = (omega (arith, a.0), a.1, a.2)

-- nothing at or below p is a member
not-below : (p n : ℕ) (l : List ℕ) → Asc p n l → (j : ℕ) → j ≤ p → member j l ≡ false
unfolding member
not-below p n [] a j h = refl
not-below p n (k ∷ l) a j h =
    rw (ne_eqb j k (below a.0)) (not-below k n l a.2 j (omega (arith, a.0)))
  where
    below : p < k → j ≢ k
    below q = omega arith

-- nothing above n
not_above : (p n : ℕ) (l : List ℕ) → Asc p n l → (j : ℕ) → n < j → member j l ≡ false
unfolding member
not_above p n [] a j h = refl
not_above p n (k ∷ l) a j h = rw (ne_eqb j k (past a.1)) (not_above k n l a.2 j h)
  where
    past : k ≤ n → j ≢ k
    past q = omega arith

head_in : (k : ℕ) (l : List ℕ) → member k (k ∷ l) ≡ true
unfolding member
head_in k l = rw (eq-eqb k k refl)

tail_in : (j k : ℕ) (l : List ℕ) → j ≢ k → member j (k ∷ l) ≡ member j l
unfolding member
tail_in j k l h = rw (ne_eqb j k h)

-- two ascending lists with the same members are equal
pub asc_ext : (p n : ℕ) (l r : List ℕ) → Asc p n l → Asc p n r → ((j : ℕ) → member j l ≡ member j r) → l ≡ r
unfolding member
asc_ext p n [] [] a b h = refl
asc_ext p n [] (k ∷ r) a b h = absurd (false≢true (h k ∙ head_in k r))
asc_ext p n (k ∷ l) [] a b h = absurd (false≢true (sym (h k) ∙ head_in k l))
asc_ext p n (k ∷ l) (k' ∷ r) a b h = go (ltb k k') refl (ltb k' k) refl (asc_ext k n l r a.2)
  where
    miss : (x y : ℕ) (s t : List ℕ) → x < y → Asc y n t → member x (x ∷ s) ≡ member x (y ∷ t) → ⊥
    miss x y s t q c e =
        false≢true (sym (not-below y n t c x (omega arith)) ∙ sym (tail_in x y t (omega arith)) ∙ sym e ∙ head_in x s)

    tails : k ≡ k' → (j : ℕ) → member j l ≡ member j r
    tails e j = low (leb j k) refl
      where
        low : (t : Bool) → leb j k ≡ t → member j l ≡ member j r
        low true q =
            not-below k n l a.2 j (leb-true j k q) ∙ sym (not-below k' n r b.2 j (omega (arith, leb-true j k q)))
        low false q =
            sym (tail_in j k l (omega (arith, leb-false j k q))) ∙ h j ∙ tail_in j k' r (omega (arith, leb-false j k q))

    go : (s : Bool) → ltb k k' ≡ s → (t : Bool) → ltb k' k ≡ t
        → (Asc k n r → ((j : ℕ) → member j l ≡ member j r) → l ≡ r) → (k ∷ l) ≡ (k' ∷ r)
    go true q t q' rec = absurd (miss k k' l r (ltb-true k k' q) b.2 (h k))
    go false q true q' rec = absurd (miss k' k r l (ltb-true k' k q') a.2 (sym (h k')))
    go false q false q' rec =
        let e : k ≡ k' = omega (arith, ltb-false k k' q, ltb-false k' k q') in
        ap₂ (λ (x : ℕ) (m : List ℕ). x ∷ m) e (rec (subst (λ (x : ℕ). Asc x n r) (sym e) b.2) (tails e))

-- ---- the list of a set

pub half_pow : (m j : ℕ) → m < 2 ^ suc j → m / 2 < 2 ^ j
half_pow m j h = omega arith

pub members-none : (c n : ℕ) → members_from c n 0 ≡ []
unfolding members_from keep
members-none zero n = refl
members-none (suc c) n = members-none c (suc n)

-- a set below 2 ^ j has no member past the j-th
pub asc_members : (c p j n m : ℕ) → m < 2 ^ j → p + j ≤ n → Asc p n (members_from c (suc p) m)
unfolding members_from keep
asc_members zero p j n m h q = tt
asc_members (suc c) p zero n m h q =
    subst (λ (l : List ℕ). Asc p n l) (sym (ap (members_from (suc c) (suc p)) (lt-one h) ∙ members-none (suc c) (suc p))) tt
asc_members (suc c) p (suc j) n m h q = go (eqb (m % 2) 1) (asc_members c (suc p) j n (m / 2) (half_pow m j h) (omega arith))
  where
    go : (t : Bool) → Asc (suc p) n (members_from c (suc (suc p)) (m / 2)) → Asc p n (keep t (suc p) (members_from c (suc (suc p)) (m / 2)))
    go true a = (le_refl (suc p), omega arith, a)
    go false a = lower (suc p) p n (members_from c (suc (suc p)) (m / 2)) (omega arith) a

-- the members of the list are those of the set
member_digit : (c p i m : ℕ) → m < 2 ^ c → member (suc (p + i)) (members_from c (suc p) m) ≡ digit i m
unfolding members_from keep digit member
member_digit zero p i m h = sym (ap (digit i) (lt-one h) ∙ digit-zero i)
member_digit (suc c) p zero m h = go (eqb (m % 2) 1) refl
  where
    rest : List ℕ
    rest = members_from c (suc (suc p)) (m / 2)

    go : (t : Bool) → eqb (m % 2) 1 ≡ t → member (suc (p + 0)) (keep t (suc p) rest) ≡ t
    go true e = ap (λ (x : ℕ). member x (suc p ∷ rest)) (ap suc (add-zero p)) ∙ head_in (suc p) rest
    go false e =
        not-below (suc p) (suc p + c) rest (asc_members c (suc p) c (suc p + c) (m / 2) (half_pow m c h) (le_refl (suc p + c)))
        (suc (p + 0)) (omega arith)
member_digit (suc c) p (suc i) m h = go (eqb (m % 2) 1) (member_digit c (suc p) i (m / 2) (half_pow m c h))
  where
    rest : List ℕ
    rest = members_from c (suc (suc p)) (m / 2)

    past : suc (p + suc i) ≢ suc p
    past = omega arith

    move : suc (p + suc i) ≡ suc (suc p + i)
    move = omega arith

    go : (t : Bool) → member (suc (suc p + i)) rest ≡ digit i (m / 2) → member (suc (p + suc i)) (keep t (suc p) rest) ≡ digit i (m / 2)
    go true e = tail_in (suc (p + suc i)) (suc p) rest past ∙ ap (λ (x : ℕ). member x rest) move ∙ e
    go false e = ap (λ (x : ℕ). member x rest) move ∙ e

abbrev pub Small : Scopes → Type 0
Small m = m < 2 ^ 256

pub asc_of : (m n : ℕ) → m < 2 ^ n → Asc 0 n (members m)
unfolding members most_scopes
asc_of m n h = asc_members 256 0 n n m h (omega arith)

pub member_has : (j : ℕ) (m : Scopes) → Small m → member j (members m) ≡ has j m
unfolding members most_scopes has
member_has zero m h = not-below 0 256 (members_from 256 1 m) (asc_of m 256 h) 0 zero-le
member_has (suc i) m h = ap (λ (x : ℕ). member (suc x) (members_from 256 1 m)) (omega arith) ∙ member_digit 256 0 i m h

-- ---- from a list to a set

unfoldable pub add_all : List ℕ → Scopes → Scopes
add_all [] m = m
add_all (k ∷ l) m = add_all l (add k m)

pub swap_or : (x y z : Bool) → (x || (y || z)) ≡ ((y || x) || z)
swap_or true true z = refl
swap_or true false z = refl
swap_or false true z = refl
swap_or false false z = refl

pub has_add_all : (p n : ℕ) (l : List ℕ) → Asc p n l → (j : ℕ) (m : Scopes) → has j (add_all l m) ≡ (member j l || has j m)
unfolding add_all member
has_add_all p n [] a j m = refl
has_add_all p n (zero ∷ l) a j m = absurd (not-suc-le-zero a.0)
has_add_all p n (suc k ∷ l) a j m =
    has_add_all (suc k) n l a.2 j (add (suc k) m) ∙ ap (λ (x : Bool). member j l || x) (has-add j k m)
    ∙ swap_or (member j l) (eqb j (suc k)) (has j m)

-- the set of a set's list
pub set_of_members : (m : Scopes) → Small m → add_all (members m) 0 ≡ m
set_of_members m h =
    set_ext (add_all (members m) 0) m
    (λ j. has_add_all 0 256 (members m) (asc_of m 256 h) j 0 ∙ ap (λ (x : Bool). member j (members m) || x) (has-none j)
    ∙ or-false (member j (members m)) ∙ member_has j m h)

-- the list of a list's set
pub members_of_set : (l : List ℕ) → Asc 0 256 l → Small (add_all l 0) → members (add_all l 0) ≡ l
members_of_set l a h =
    asc_ext 0 256 (members (add_all l 0)) l (asc_of (add_all l 0) 256 h) a
    (λ j. member_has j (add_all l 0) h ∙ has_add_all 0 256 l a j 0 ∙ ap (λ (x : Bool). member j l || x) (has-none j)
    ∙ or-false (member j l))
