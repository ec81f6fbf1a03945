-- The order of sets, read off two sets from their low digits up.
use mathlib.Core.Path.{◌≡◌, refl, sym, ap, ap₂, ◌∙◌, subst}
use mathlib.Core.Bool.{Bool, true, false, not}
use mathlib.Core.List.{List, [], ◌∷◌}
use Prim.Native.Nat.{ℕ, zero, suc, ◌+◌, ◌-◌, ◌*◌, ◌/◌, ◌%◌, ◌^◌, ◌≤◌, ◌<◌}
use native.Mathlib.Nat.{pow-suc, mod-lt, zero-add, add-zero, suc-add, div-one}
use native.Mathlib.Omega.{arith}
use lib.Dec.{eqb, lit<}
use lib.Pow.{shr-shr, shr_lt, field, mod-mod-pow}
use borrow.Author.Tests.{eqb-true, eqb-false, eq-eqb, ne_eqb, lt-ltb, le-ltb}
use Rattle.model.specs.Limits.{most_scopes}
use Rattle.scopes.specs.Sets.{set_scopes}
use Rattle.model.specs.Scopes.{keep, members_from, members, less_then, list_before, set_before}
use Rattle.laws.proofs.Members.{members-none}

pub digit-one : (m : ℕ) → eqb (m % 2) 1 ≡ false → m % 2 ≡ 0
digit-one m e = let h : m % 2 ≡ 1 → ⊥ = eqb-false (m % 2) 1 e in bit (m % 2) (mod-lt m (lit< tt)) h
  where
    bit : (x : ℕ) → x < 2 → (x ≡ 1 → ⊥) → x ≡ 0
    bit zero s h = refl
    bit (suc zero) s h = absurd (h refl)
    bit (suc (suc x)) s h = omega arith

list_self : (l : List ℕ) → list_before l l ≡ false
unfolding list_before less_then
list_self [] = refl
list_self (x ∷ l) = rw (le-ltb x x (omega arith), eq-eqb x x refl) (list_self l)

pub half_less : (c m : ℕ) → m < 2 ^ suc c → m / 2 < 2 ^ c
half_less c m s = let e : 2 ^ suc c ≡ 2 ^ c * 2 = pow-suc 2 c in omega arith

-- ---- the members from n on

-- the first of a list that is not empty is n or larger
record First (n : ℕ) (l : List ℕ) : Type 0 where
  first : ℕ
  rest : List ℕ
  is : l ≡ first ∷ rest
  from : n ≤ first

first_member : (c n m : ℕ) → 0 < m → m < 2 ^ c → First n (members_from c n m)
unfolding members_from keep
first_member zero n m h s = absurd (let e : 2 ^ 0 ≡ 1 = refl in omega (arith, e))
first_member (suc c) n m h s = go (eqb (m % 2) 1) refl (λ p. first_member c (suc n) (m / 2) p (half_less c m s))
  where
    further : First (suc n) (members_from c (suc n) (m / 2)) → First n (members_from c (suc n) (m / 2))
    further f = record { first = f.first; rest = f.rest; is = f.is; from = omega (arith, f.from) }

    go : (t : Bool) → eqb (m % 2) 1 ≡ t → (0 < m / 2 → First (suc n) (members_from c (suc n) (m / 2)))
        → First n (keep t n (members_from c (suc n) (m / 2)))
    go true e below = record { first = n; rest = members_from c (suc n) (m / 2); is = refl; from = omega arith }
    go false e below = further (below (let z : m % 2 ≡ 0 = digit-one m e in omega arith))

-- ---- two sets

abbrev before_from : ℕ → ℕ → ℕ → ℕ → Bool
before_from c n a b = list_before (members_from c n a) (members_from c n b)

both-keep : (t : Bool) (n : ℕ) (k l : List ℕ) → list_before (keep t n k) (keep t n l) ≡ list_before k l
unfolding keep list_before less_then
both-keep true n k l = rw (le-ltb n n (omega arith), eq-eqb n n refl)
both-keep false n k l = refl

alike : (c n a b : ℕ) → a % 2 ≡ b % 2 → before_from (suc c) n a b ≡ before_from c (suc n) (a / 2) (b / 2)
unfolding members_from
alike c n a b e =
    let k : List ℕ = members_from c (suc n) (a / 2) in
    let l : List ℕ = members_from c (suc n) (b / 2) in
    ap (λ (d : ℕ). list_before (keep (eqb d 1) n k) (keep (eqb (b % 2) 1) n l)) e ∙ both-keep (eqb (b % 2) 1) n k l

-- n is in a alone: it comes before what b still has
ahead : (c n a b : ℕ) → a % 2 ≡ 1 → b % 2 ≡ 0 → b < 2 ^ suc c → 0 < b → before_from (suc c) n a b ≡ true
unfolding members_from keep list_before less_then
ahead c n a b p q s h =
    let f : First (suc n) (members_from c (suc n) (b / 2)) = first_member c (suc n) (b / 2) (omega arith) (half_less c b s) in
    rw (p, q, f.is, lt-ltb n f.first (omega (arith, f.from)))

longer : (c n a : ℕ) → a % 2 ≡ 1 → before_from (suc c) n a 0 ≡ false
unfolding members_from keep list_before
longer c n a p = rw (p, members-none c (suc n))

behind : (c n a b : ℕ) → a % 2 ≡ 0 → b % 2 ≡ 1 → a < 2 ^ suc c → 0 < a → before_from (suc c) n a b ≡ false
unfolding members_from keep list_before less_then
behind c n a b p q s h =
    let f : First (suc n) (members_from c (suc n) (a / 2)) = first_member c (suc n) (a / 2) (omega arith) (half_less c a s) in
    rw (p, q, f.is, le-ltb f.first n (omega (arith, f.from)), ne_eqb f.first n (λ e. omega (arith, f.from)))

prefix : (c n b : ℕ) → b % 2 ≡ 1 → before_from (suc c) n 0 b ≡ true
unfolding members_from keep list_before
prefix c n b q = rw (q, members-none c (suc n))

-- ---- what a walk over the low digits knows: x and y are left of a and b, and decide

pub record Alike (a b x y : ℕ) : Type 0 where
  pub count : ℕ
  pub from : ℕ
  pub left : x < 2 ^ count
  pub right : y < 2 ^ count
  pub decides : list_before (members_from count from x) (members_from count from y) ≡ set_before a b

-- sets that agree in their d low digits
many_alike : (d c n x y : ℕ) → x % 2 ^ d ≡ y % 2 ^ d → before_from (d + c) n x y ≡ before_from c (n + d) (x / 2 ^ d) (y / 2 ^ d)
many_alike zero c n x y e = rw (zero-add c, add-zero n, div-one x, div-one y)
many_alike (suc d) c n x y e =
    let plus : suc d ≡ d + 1 = omega arith in
    let low : (z : ℕ) → z % 2 ^ suc d % 2 ≡ z % 2 = λ z. ap (λ (k : ℕ). z % 2 ^ k % 2) plus ∙ mod-mod-pow z d 1 in
    let up : (z : ℕ) → z % 2 ^ suc d / 2 ≡ z / 2 % 2 ^ d = λ z. ap (λ (k : ℕ). z % 2 ^ k / 2) plus ∙ field z d 1 in
    let rest : (z : ℕ) → z / 2 / 2 ^ d ≡ z / 2 ^ suc d = λ z. shr-shr z 1 d ∙ ap (λ (k : ℕ). z / 2 ^ k) (let k : 1 + d ≡ suc d = omega arith in k) in
    ap (λ (k : ℕ). before_from k n x y) (suc-add d c)
    ∙ alike (d + c) n x y (sym (low x) ∙ ap (λ (z : ℕ). z % 2) e ∙ low y)
    ∙ many_alike d c (suc n) (x / 2) (y / 2) (sym (up x) ∙ ap (λ (z : ℕ). z / 2) e ∙ up y)
    ∙ ap (λ (k : ℕ). before_from c k (x / 2 / 2 ^ d) (y / 2 / 2 ^ d)) (let k : suc n + d ≡ n + suc d = omega arith in k)
    ∙ ap₂ (before_from c (n + suc d)) (rest x) (rest y)

pub agreeing : (a b d : ℕ) → d ≤ set_scopes → a < 2 ^ set_scopes → b < 2 ^ set_scopes → a % 2 ^ d ≡ b % 2 ^ d → Alike a b (a / 2 ^ d) (b / 2 ^ d)
unfolding set_before members most_scopes
agreeing a b d h f g e =
    let all : set_scopes ≡ d + (set_scopes - d) = omega arith in
    let k : set_scopes - d + d ≡ set_scopes = omega arith in
    record {
      count = set_scopes - d;
      from = 1 + d;
      left = shr_lt (set_scopes - d) d (rw k f);
      right = shr_lt (set_scopes - d) d (rw k g);
      decides = sym (many_alike d (set_scopes - d) 1 a b e) ∙ ap (λ (n : ℕ). before_from n 1 a b) (sym all);
    }

-- a law of x and y that differ, so that there is a digit to look at
differing : {a b x y : ℕ} (P : Bool → Type 0) → Alike a b x y → (x ≡ y → ⊥)
    → ((c n : ℕ) → x < 2 ^ suc c → y < 2 ^ suc c → P (before_from (suc c) n x y)) → P (set_before a b)
differing {a} {b} {x} {y} P w d f = subst P w.decides (go w.count w.left w.right)
  where
    go : (c : ℕ) → x < 2 ^ c → y < 2 ^ c → P (before_from c w.from x y)
    go zero h k = absurd (let e : 2 ^ 0 ≡ 1 = refl in d (omega (arith, e)))
    go (suc c) h k = f c w.from h k

pub before_self : (a b : ℕ) → a ≡ b → set_before a b ≡ false
unfolding set_before
before_self a b e = ap (λ (x : ℕ). list_before (members x) (members b)) e ∙ list_self (members b)

-- the lowest digit in which they differ is x's: x is first unless y has no more
pub mine : {a b x y : ℕ} → Alike a b x y → (x ≡ y → ⊥) → (x % 2 ≡ y % 2 → ⊥) → x % 2 ≡ 1 → set_before a b ≡ not (eqb y 0)
mine {x = x} {y} w d u p =
    differing (λ (r : Bool). r ≡ not (eqb y 0)) w d (λ c n h k. go c n k (eqb y 0) refl)
  where
    go : (c n : ℕ) → y < 2 ^ suc c → (t : Bool) → eqb y 0 ≡ t → before_from (suc c) n x y ≡ not t
    go c n k true e = ap (before_from (suc c) n x) (eqb-true y 0 e) ∙ longer c n x p
    go c n k false e = ahead c n x y p (omega arith) k (let z : y ≡ 0 → ⊥ = eqb-false y 0 e in omega arith)

-- it is y's: x is first only where it has no more
pub other : {a b x y : ℕ} → Alike a b x y → (x ≡ y → ⊥) → (x % 2 ≡ y % 2 → ⊥) → (x % 2 ≡ 1 → ⊥) → set_before a b ≡ eqb x 0
other {x = x} {y} w d u p =
    differing (λ (r : Bool). r ≡ eqb x 0) w d (λ c n h k. go c n h (eqb x 0) refl)
  where
    go : (c n : ℕ) → x < 2 ^ suc c → (t : Bool) → eqb x 0 ≡ t → before_from (suc c) n x y ≡ t
    go c n h true e = ap (λ (z : ℕ). before_from (suc c) n z y) (eqb-true x 0 e) ∙ prefix c n y (omega arith)
    go c n h false e = behind c n x y (omega arith) (omega arith) h (let z : x ≡ 0 → ⊥ = eqb-false x 0 e in omega arith)
