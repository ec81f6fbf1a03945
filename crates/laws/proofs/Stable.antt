-- Bindings made later change nothing that was resolved before, and a binder resolves to its own name.
use mathlib.Core.Path.{◌≡◌, refl, sym, ap, ◌∙◌}
use mathlib.Core.Logic.{◌⊎◌, inl, inr}
use Prim.Native.Nat.{ℕ, zero, suc, ◌^◌, ◌/◌, ◌≤◌, ◌<◌}
use native.Mathlib.Nat.{le_trans, not-suc-le-zero}
use native.Mathlib.Omega.{arith}
use mathlib.Core.Bool.{Bool, true, false, ◌&&◌, false≢true}
use mathlib.Core.List.{List, [], ◌∷◌}
use lib.Dec.{eqb}
use lib.Arith.{lt-one}
use Rattle.model.specs.Choice.{when◌then◌else◌}
use Rattle.model.specs.Scopes.{Scopes, digit, has, within}
use Rattle.model.specs.Resolving.{Bind, means, bind_before, insert, candidate, candidates, choose, resolve}
use Rattle.laws.proofs.ScopeSets.{digit-zero, within→sub, within-refl}
use Rattle.laws.proofs.Members.{half_pow}
use Rattle.laws.proofs.ResolveRule.{In, Largest, found, rule_one, resolve-is, candidates-sound, candidates_complete}

-- ---- no member above the bound

digit_above : (n k : ℕ) (m : Scopes) → m < 2 ^ n → n ≤ k → digit k m ≡ false
unfolding digit
digit_above zero k m h q = ap (digit k) (lt-one h) ∙ digit-zero k
digit_above (suc n) zero m h q = absurd (not-suc-le-zero q)
digit_above (suc n) (suc k) m h q = digit_above n k (m / 2) (half_pow m n h) (omega arith)

pub has_above : (n k : ℕ) (m : Scopes) → m < 2 ^ n → n < k → has k m ≡ false
unfolding has
has_above n zero m h q = refl
has_above n (suc k) m h q = digit_above n k m h (omega arith)

-- ---- bindings with a scope above n

pub record New (n : ℕ) (b : Bind) : Type 0 where
  pub scope : ℕ
  pub above : n < scope
  pub has_it : has scope b.set ≡ true

pub not-candidate : (n : ℕ) (b : Bind) → New n b → (x : ℕ) (s : Scopes) → s < 2 ^ n → candidate x s b ≡ false
unfolding candidate
not-candidate n b w x s h = go (eqb b.symb x) (within b.set s) refl
  where
    go : (p q : Bool) → within b.set s ≡ q → (p && q) ≡ false
    go true true e =
        absurd (false≢true (sym (has_above n w.scope s h w.above) ∙ within→sub b.set s e w.scope w.has_it))
    go true false e = refl
    go false q e = refl

-- inserting what is no candidate leaves the candidates as they are
candidates-insert : (x : ℕ) (s : Scopes) (b : Bind) (l : List Bind) → candidate x s b ≡ false
    → candidates x s (insert b l) ≡ candidates x s l
unfolding insert candidates
candidates-insert x s b [] e = rw e
candidates-insert x s b (c ∷ l) e = go (bind_before b c) (candidates-insert x s b l e)
  where
    cong : (t : Bool) (m k : List Bind) → m ≡ k → (when t then c ∷ m else m) ≡ (when t then c ∷ k else k)
    cong t m k p = ap (λ (z : List Bind). when t then c ∷ z else z) p

    go : (t : Bool) → candidates x s (insert b l) ≡ candidates x s l
        → candidates x s (when t then b ∷ c ∷ l else c ∷ insert b l) ≡ candidates x s (c ∷ l)
    go true r = rw e
    go false r = cong (candidate x s c) (candidates x s (insert b l)) (candidates x s l) r

-- ---- stores that grow by bindings with scopes above n

-- no binding of the store has b's symbol and set
abbrev pub Unbound : Bind → List Bind → Type 0
Unbound b l = (c : Bind) → In c l → b.symb ≡ c.symb → b.set ≡ c.set → ⊥

pub data Later (n : ℕ) (from : List Bind) : List Bind → Type 0 where
  same : Later n from from
  more : {l : List Bind} (b : Bind) → New n b → Unbound b l → Later n from l → Later n from (insert b l)

pub later_trans : (n m : ℕ) (a b c : List Bind) → n ≤ m → Later n a b → Later m b c → Later n a c
later_trans n m a b c h p same = p
later_trans n m a b c h p (more {l} d w u q) =
    more d (record { scope = w.scope; above = le_trans (ap-suc h) w.above; has_it = w.has_it }) u
    (later_trans n m a b l h p q)
  where
    ap-suc : n ≤ m → suc n ≤ suc m
    ap-suc k = omega arith

-- what was resolved stays resolved
pub candidates-later : (n : ℕ) (a b : List Bind) → Later n a b → (x : ℕ) (s : Scopes) → s < 2 ^ n → candidates x s b ≡ candidates x s a
candidates-later n a b same x s h = refl
candidates-later n a b (more {l} d w u q) x s h =
    candidates-insert x s d l (not-candidate n d w x s h) ∙ candidates-later n a l q x s h

pub resolve-later : (n : ℕ) (a b : List Bind) → Later n a b → (x : ℕ) (s : Scopes) → s < 2 ^ n → resolve x s b ≡ resolve x s a
unfolding resolve
resolve-later n a b q x s h = ap (choose x) (candidates-later n a b q x s h)

-- ---- the members of a grown store

pub insert-new : (b : Bind) (l : List Bind) → In b (insert b l)
unfolding insert
insert-new b [] = inl refl
insert-new b (c ∷ l) = go (bind_before b c) (insert-new b l)
  where
    go : (t : Bool) → In b (insert b l) → In b (when t then b ∷ c ∷ l else c ∷ insert b l)
    go true i = inl refl
    go false i = inr i

pub insert-old : (b d : Bind) (l : List Bind) → In d l → In d (insert b l)
unfolding insert
insert-old b d [] i = absurd i
insert-old b d (c ∷ l) i = go (bind_before b c) i (λ k. insert-old b d l k)
  where
    go : (t : Bool) → (d ≡ c) ⊎ In d l → (In d l → In d (insert b l)) → In d (when t then b ∷ c ∷ l else c ∷ insert b l)
    go true i r = inr i
    go false (inl p) r = inl p
    go false (inr k) r = inr (r k)

pub insert_cases : (b d : Bind) (l : List Bind) → In d (insert b l) → (d ≡ b) ⊎ In d l
unfolding insert
insert_cases b d [] (inl p) = inl p
insert_cases b d [] (inr i) = absurd i
insert_cases b d (c ∷ l) i = go (bind_before b c) i (λ k. insert_cases b d l k)
  where
    further : (d ≡ b) ⊎ In d l → (d ≡ b) ⊎ ((d ≡ c) ⊎ In d l)
    further (inl p) = inl p
    further (inr k) = inr (inr k)

    go : (t : Bool) → In d (when t then b ∷ c ∷ l else c ∷ insert b l) → (In d (insert b l) → (d ≡ b) ⊎ In d l) → (d ≡ b) ⊎ In d (c ∷ l)
    go true (inl p) r = inl p
    go true (inr k) r = inr k
    go false (inl p) r = inr (inl p)
    go false (inr k) r = further (r k)

pub later_in : (n : ℕ) (a b : List Bind) → Later n a b → (d : Bind) → In d a → In d b
later_in n a b same d i = i
later_in n a b (more {l} c w u q) d i = insert-old c d l (later_in n a l q d i)

-- ---- no two bindings of one symbol and set

abbrev pub Keys : List Bind → Type 0
Keys l = (b c : Bind) → In b l → In c l → b.symb ≡ c.symb → b.set ≡ c.set → b ≡ c

keys_insert : (b : Bind) (l : List Bind) → Unbound b l → Keys l → Keys (insert b l)
keys_insert b l u k c d i j p q = go (insert_cases b c l i) (insert_cases b d l j)
  where
    go : (c ≡ b) ⊎ In c l → (d ≡ b) ⊎ In d l → c ≡ d
    go (inl x) (inl y) = x ∙ sym y
    go (inl x) (inr y) =
        absurd (u d y (ap (λ (z : Bind). z.symb) (sym x) ∙ p) (ap (λ (z : Bind). z.set) (sym x) ∙ q))
    go (inr x) (inl y) =
        absurd (u c x (ap (λ (z : Bind). z.symb) (sym y) ∙ sym p) (ap (λ (z : Bind). z.set) (sym y) ∙ sym q))
    go (inr x) (inr y) = k c d x y p q

pub keys_later : (n : ℕ) (a b : List Bind) → Later n a b → Keys a → Keys b
keys_later n a b same k = k
keys_later n a b (more {l} d w u q) k = keys_insert d l u (keys_later n a l q k)

-- ---- an identifier whose set is bound resolves to that binding

pub resolve_own : (b : Bind) (l : List Bind) → Keys l → In b l → resolve b.symb b.set l ≡ means b.target
resolve_own b l k i =
    rule_one b.symb cs apart (resolve b.symb b.set l) (means b.target) (resolve-is b.symb b.set l) (found b top)
  where
    cs : List Bind
    cs = candidates b.symb b.set l

    apart : (c d : Bind) → In c cs → In d cs → c.set ≡ d.set → c ≡ d
    apart c d x y e =
        let p = candidates-sound b.symb b.set l c x in
        let q = candidates-sound b.symb b.set l d y in
        k c d p.stored q.stored (p.symbol-is ∙ sym q.symbol-is) e

    top : Largest b cs
    top = record {
      here = candidates_complete b.symb b.set l b (record { stored = i; symbol-is = refl; contained = within-refl b.set });
      above = λ c x. (candidates-sound b.symb b.set l c x).contained;
    }

-- ---- what holds a fresh scope is not bound yet

abbrev pub SetsBelow : ℕ → List Bind → Type 0
SetsBelow n l = (c : Bind) → In c l → c.set < 2 ^ n

pub fresh_unbound : (n : ℕ) (b : Bind) → New n b → (l : List Bind) → SetsBelow n l → Unbound b l
fresh_unbound n b w l h c i p q = false≢true (sym (has_above n w.scope c.set (h c i) w.above) ∙ ap (has w.scope) (sym q) ∙ w.has_it)
