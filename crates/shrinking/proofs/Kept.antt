-- The bindings that are kept: every candidate of every identifier is among them, so that what is dropped changes no name.
use mathlib.Core.Path.{◌≡◌, refl, sym, ap, ◌∙◌, subst}
use mathlib.Core.Logic.{inl, inr}
use Prim.Native.Nat.{ℕ, zero, suc, ◌^◌, ◌≤◌, ◌<◌}
use native.Mathlib.Nat.{le_refl}
use native.Mathlib.Omega.{arith}
use mathlib.Core.Bool.{Bool, true, false, true≢false}
use mathlib.Core.List.{List, [], ◌∷◌}
use lib.Dec.{eqb}
use lib.ListN.{length}
use lib.Bits.{bit_or, or_lt}
use lib.Pow.{pow_pos}
use Rattle.model.specs.Choice.{when◌then◌else◌}
use Rattle.model.specs.Scopes.{Scopes, within}
use Rattle.model.specs.Objects.{symbol, number, point, prim, rung, Sets, set_at, Stx, atom, list, Stxs, nil, cons}
use Rattle.model.specs.Resolving.{Bind, bind_before, candidate, candidates, choose, resolve}
use Rattle.laws.specs.Ordered.{Ascending, Sorted}
use Rattle.laws.proofs.ScopeSets.{Sub}
use Rattle.laws.proofs.ResolveRule.{In}
use Rattle.laws.proofs.Order.{before_trans}
use Rattle.codec_laws.specs.WellFormed.{StxFits, StxsFit, BindsFit}
use Rattle.laws.proofs.Tests.{and_both, both_true, or_left, or_right}
use Rattle.alike.proofs.ParseAlike.{Seen, SeenAll}
use Rattle.shrinking.specs.Shrunk.{contains, used_in, used_in_any, kept, joined, scopes_in, scopes_in_all, scopes_bound, remaining}
use Rattle.shrinking.proofs.Within.{sub_trans, or_sub_left, or_sub_right}

-- ---- what is kept

pub kept_in_lem : (x : Stx) (l : List Bind) (b : Bind) → In b (kept x l) → In b l
unfolding kept
kept_in_lem x [] b i = i
kept_in_lem x (c ∷ l) b i = go (used_in c x) (kept_in_lem x l b) i
  where
    go : (t : Bool) → (In b (kept x l) → In b l) → In b (when t then c ∷ kept x l else kept x l) → In b (c ∷ l)
    go true f (inl p) = inl p
    go true f (inr j) = inr (f j)
    go false f j = inr (f j)

pub kept-used : (x : Stx) (l : List Bind) (b : Bind) → In b (kept x l) → used_in b x ≡ true
unfolding kept
kept-used x [] b i = absurd i
kept-used x (c ∷ l) b i = go (used_in c x) refl (kept-used x l b) i
  where
    go : (t : Bool) → used_in c x ≡ t → (In b (kept x l) → used_in b x ≡ true) → In b (when t then c ∷ kept x l else kept x l) → used_in b x ≡ true
    go true e f (inl p) = ap (λ (z : Bind). used_in z x) p ∙ e
    go true e f (inr j) = f j
    go false e f j = f j

-- where all are used, all are kept
pub kept-all : (x : Stx) (l : List Bind) → ((b : Bind) → In b l → used_in b x ≡ true) → kept x l ≡ l
unfolding kept
kept-all x [] h = refl
kept-all x (c ∷ l) h = rw (h c (inl refl), kept-all x l (λ b i. h b (inr i)))

pub kept-length : (x : Stx) (l : List Bind) → length (kept x l) ≤ length l
unfolding kept
kept-length x [] = le_refl 0
kept-length x (c ∷ l) = go (used_in c x) (kept-length x l)
  where
    go : (t : Bool) → length (kept x l) ≤ length l → length (when t then c ∷ kept x l else kept x l) ≤ suc (length l)
    go true h = omega arith
    go false h = omega arith

pub kept-fit : (k m n : ℕ) (x : Stx) (l : List Bind) → BindsFit k m n l → BindsFit k m n (kept x l)
unfolding kept
kept-fit k m n x [] f = tt
kept-fit k m n x (c ∷ l) f = go (used_in c x) (kept-fit k m n x l f.1)
  where
    go : (t : Bool) → BindsFit k m n (kept x l) → BindsFit k m n (when t then c ∷ kept x l else kept x l)
    go true h = (f.0, h)
    go false h = h

skip : (b c : Bind) (l : List Bind) → bind_before b c ≡ true → Ascending c l → Ascending b l
skip b c [] e a = tt
skip b c (d ∷ l) e a = (before_trans b c d e a.0, a.1)

kept-ascending : (x : Stx) (b : Bind) (l : List Bind) → Ascending b l → Ascending b (kept x l)
unfolding kept
kept-ascending x b [] a = tt
kept-ascending x b (c ∷ l) a = go (used_in c x) (kept-ascending x c l a.1)
  where
    go : (t : Bool) → Ascending c (kept x l) → Ascending b (when t then c ∷ kept x l else kept x l)
    go true h = (a.0, h)
    go false h = skip b c (kept x l) a.0 h

pub kept_sorted : (x : Stx) (l : List Bind) → Sorted l → Sorted (kept x l)
unfolding kept
kept_sorted x [] a = tt
kept_sorted x (c ∷ l) a = go (used_in c x) (kept-ascending x c l a)
  where
    loose : (r : List Bind) → Ascending c r → Sorted r
    loose [] h = tt
    loose (d ∷ r) h = h.1

    go : (t : Bool) → Ascending c (kept x l) → Sorted (when t then c ∷ kept x l else kept x l)
    go true h = h
    go false h = loose (kept x l) h

-- ---- a candidate is kept

candidates-kept : (y : Stx) (x : ℕ) (s : Scopes) (l : List Bind) → ((b : Bind) → candidate x s b ≡ true → used_in b y ≡ true)
    → candidates x s (kept y l) ≡ candidates x s l
unfolding kept candidates
candidates-kept y x s [] h = refl
candidates-kept y x s (b ∷ l) h = go (used_in b y) refl (candidates-kept y x s l h)
  where
    go : (t : Bool) → used_in b y ≡ t → candidates x s (kept y l) ≡ candidates x s l
        → candidates x s (when t then b ∷ kept y l else kept y l) ≡ (when candidate x s b then b ∷ candidates x s l else candidates x s l)
    go true e r = ap (λ (z : List Bind). when candidate x s b then b ∷ z else z) r
    go false e r = test (candidate x s b) refl
      where
        test : (c : Bool) → candidate x s b ≡ c → candidates x s (kept y l) ≡ (when c then b ∷ candidates x s l else candidates x s l)
        test true q = absurd (true≢false (sym (h b q) ∙ e))
        test false q = r

-- what is dropped changes no name
pub resolve-kept : (y : Stx) (x : ℕ) (s : Scopes) (l : List Bind) → ((b : Bind) → candidate x s b ≡ true → used_in b y ≡ true)
    → resolve x s (kept y l) ≡ resolve x s l
unfolding resolve
resolve-kept y x s l h = ap (choose x) (candidates-kept y x s l h)

-- every candidate, at phase ph, of the identifier is used in y
abbrev pub Needed : ℕ → Stx → Sets → ℕ → Type 0
Needed ph y c x = (b : Bind) → candidate x (set_at ph c) b ≡ true → used_in b y ≡ true

contains-at : (m : Scopes) (ph : ℕ) (c : Sets) → within m (set_at ph c) ≡ true → contains m c ≡ true
unfolding contains set_at
contains-at m zero c e = or_left (within m c.at0) _ e
contains-at m (suc zero) c e = or_right (within m c.at0) _ (or_left (within m c.at1) _ e)
contains-at m (suc (suc ph)) c e = or_right (within m c.at0) _ (or_right (within m c.at1) _ e)

module _ (ph : ℕ) (y : Stx) where
  mutual
    unfolding used_in candidate

    -- of every identifier of a part
    part_needed : (x : Stx) → ((b : Bind) → used_in b x ≡ true → used_in b y ≡ true) → Seen (Needed ph y) x
    part_needed (atom c (symbol x)) h = λ b e.
        let g = and_both (eqb b.symb x) (within b.set (set_at ph c)) e in
        h b (both_true (eqb b.symb x) (contains b.set c) g.0 (contains-at b.set ph c g.1))
    part_needed (atom c (number x)) h = tt
    part_needed (atom c (point x)) h = tt
    part_needed (atom c (prim x)) h = tt
    part_needed (atom c (rung x)) h = tt
    part_needed (list c l) h = parts_needed l h

    parts_needed : (l : Stxs) → ((b : Bind) → used_in_any b l ≡ true → used_in b y ≡ true) → SeenAll (Needed ph y) l
    parts_needed nil h = tt
    parts_needed (cons s l) h =
        (part_needed s (λ b e. h b (or_left (used_in b s) (used_in_any b l) e)), parts_needed l (λ b e. h b (or_right (used_in b s) (used_in_any b l) e)))

  pub all_needed : Seen (Needed ph y) y
  all_needed = part_needed y (λ b e. e)

-- ---- the remaining scopes

bound_sub : (l : List Bind) (b : Bind) → In b l → Sub b.set (scopes_bound l)
unfolding scopes_bound
bound_sub [] b i = absurd i
bound_sub (c ∷ l) b (inl p) = subst (λ (z : Bind). Sub z.set (bit_or c.set (scopes_bound l))) (sym p) (or_sub_left c.set (scopes_bound l))
bound_sub (c ∷ l) b (inr i) = sub_trans _ _ _ (bound_sub l b i) (or_sub_right c.set (scopes_bound l))

pub kept_sub : (l : List Bind) (x : Stx) (b : Bind) → In b (kept x l) → Sub b.set (remaining l x)
unfolding remaining
kept_sub l x b i = sub_trans _ _ _ (bound_sub (kept x l) b i) (or_sub_left (scopes_bound (kept x l)) (scopes_in x))

pub root_sub : (l : List Bind) (x : Stx) → Sub (scopes_in x) (remaining l x)
unfolding remaining
root_sub l x = or_sub_right (scopes_bound (kept x l)) (scopes_in x)

mutual
  unfolding scopes_in joined

  stx-few : (k n : ℕ) (x : Stx) → StxFits k n x → scopes_in x < 2 ^ n
  stx-few k n (atom c a) f = or_lt n c.at0 _ f.0.0 (or_lt n c.at1 c.at2 f.0.1 f.0.2)
  stx-few k n (list c l) f =
      or_lt n (joined c) (scopes_in_all l) (or_lt n c.at0 _ f.0.0 (or_lt n c.at1 c.at2 f.0.1 f.0.2)) (stxs_few k n l f.1)

  stxs_few : (k n : ℕ) (l : Stxs) → StxsFit k n l → scopes_in_all l < 2 ^ n
  stxs_few k n nil f = pow_pos n
  stxs_few k n (cons s l) f = or_lt n (scopes_in s) (scopes_in_all l) (stx-few k n s f.0) (stxs_few k n l f.1)

binds-few : (k m n : ℕ) (l : List Bind) → BindsFit k m n l → scopes_bound l < 2 ^ n
unfolding scopes_bound
binds-few k m n [] f = pow_pos n
binds-few k m n (b ∷ l) f = or_lt n b.set (scopes_bound l) f.0.2 (binds-few k m n l f.1)

pub remaining-few : (k m n : ℕ) (l : List Bind) (x : Stx) → BindsFit k m n l → StxFits k n x → remaining l x < 2 ^ n
unfolding remaining
remaining-few k m n l x f g = or_lt n (scopes_bound (kept x l)) (scopes_in x) (binds-few k m n (kept x l) (kept-fit k m n x l f)) (stx-few k n x g)
