-- Request T-04: where an identifier is ambiguous there are always two candidates that no other contains, and the places told are those of the first
-- two: `two_compete`.
use mathlib.Core.Path.{◌≡◌, refl, sym, ap, ◌∙◌, subst}
use mathlib.Core.Logic.{◌⊎◌, inl, inr}
use Prim.Native.Nat.{ℕ, suc, ◌+◌, ◌≤◌, ◌<◌}
use native.Mathlib.Nat.{le_refl, zero-add, not-suc-le-zero}
use native.Mathlib.Omega.{arith}
use mathlib.Core.Bool.{Bool, true, false, not, ◌&&◌, false≢true}
use mathlib.Core.List.{List, [], ◌∷◌}
use lib.Dec.{eqb}
use lib.ListN.{length}
use Rattle.model.specs.Choice.{when◌then◌else◌}
use Rattle.model.specs.Scopes.{Scopes, within}
use Rattle.model.specs.Resolving.{Bind, bind_before, several, candidate, candidates, resolve}
use Rattle.model.specs.Competing.{Rivals, no_rivals, contained, uncontained, competes, competing, first_two, rivals}
use borrow.Author.Tests.{eqb-true, eq-eqb, not-true}
use Rattle.laws.specs.Ordered.{Ascending, Sorted}
use Rattle.laws.specs.Rivalry.{At, front, behind, Compete, Told}
use Rattle.laws.proofs.Tests.{and_both, both_true}
use Rattle.laws.proofs.ScopeSets.{within-refl, within_trans, within_antisym}
use Rattle.laws.proofs.ResolveRule.{In, candidates-sound, candidates_complete, ContainsAll, MissesOne, contains_all_or_misses_one}
use Rattle.laws.proofs.ResolveExactly.{Unclear, ambiguous_exactly}
use Rattle.laws.proofs.Order.{all_after, before-other, sorted_keys}

-- ---- containing

contained-is : (b c : Bind) → contained b c ≡ true → (within b.set c.set ≡ true) × (within c.set b.set ≡ false)
unfolding contained
contained-is b c e = go (within b.set c.set) (within c.set b.set) e
  where
    go : (u v : Bool) → (u && not v) ≡ true → (u ≡ true) × (v ≡ false)
    go true true e = absurd (false≢true e)
    go true false e = (refl, refl)
    go false v e = absurd (false≢true e)

not-contained : (b c : Bind) → within c.set b.set ≡ true → contained b c ≡ false
unfolding contained
not-contained b c e = go (within b.set c.set) (within c.set b.set) e
  where
    go : (u v : Bool) → v ≡ true → (u && not v) ≡ false
    go true v e = rw e
    go false v e = refl

-- not contained, and not the same: not within
not_within : (b c : Bind) → contained b c ≡ false → (b.set ≡ c.set → ⊥) → within b.set c.set ≡ false
unfolding contained
not_within b c e other = go (within b.set c.set) refl (within c.set b.set) refl e
  where
    go : (u : Bool) → within b.set c.set ≡ u → (v : Bool) → within c.set b.set ≡ v → (u && not v) ≡ false → u ≡ false
    go true p true q e = absurd (other (within_antisym b.set c.set p q))
    go true p false q e = absurd (false≢true (sym e))
    go false p v q e = refl

is-contained : (b c : Bind) → within b.set c.set ≡ true → within c.set b.set ≡ false → contained b c ≡ true
unfolding contained
is-contained b c p q = rw (p, q)

-- what does not contain a part does not contain the whole
still_not_contained : (m n d : Bind) → within m.set n.set ≡ true → contained m d ≡ false → contained n d ≡ false
still_not_contained m n d h e = go (contained n d) refl
  where
    back : within d.set n.set ≡ false → (v : Bool) → within d.set m.set ≡ v → v ≡ false
    back q true p = absurd (false≢true (sym q ∙ within_trans d.set m.set n.set p h))
    back q false p = refl

    part : (within n.set d.set ≡ true) × (within d.set n.set ≡ false) → contained m d ≡ true
    part w = is-contained m d (within_trans m.set n.set d.set h w.0) (back w.1 (within d.set m.set) refl)

    go : (t : Bool) → contained n d ≡ t → t ≡ false
    go true p = absurd (false≢true (sym e ∙ part (contained-is n d p)))
    go false p = refl

-- what `uncontained` tests
pub uncontained-is : (b : Bind) (l : List Bind) → uncontained b l ≡ true → (c : Bind) → In c l → contained b c ≡ false
unfolding uncontained
uncontained-is b [] e c i = absurd i
uncontained-is b (d ∷ l) e c (inl p) = ap (contained b) p ∙ not-true (contained b d) (and_both (not (contained b d)) (uncontained b l) e).0
uncontained-is b (d ∷ l) e c (inr i) = uncontained-is b l (and_both (not (contained b d)) (uncontained b l) e).1 c i

-- ---- over each candidate there is one that no other contains

-- c where it contains m
unfoldable up : Bind → Bind → Bind
up m c = when contained m c then c else m

up_cases : (P : Bind → Type 0) (m c : Bind) → (contained m c ≡ true → P c) → (contained m c ≡ false → P m) → P (up m c)
unfolding up
up_cases P m c p q = go (contained m c) refl
  where
    go : (t : Bool) → contained m c ≡ t → P (when t then c else m)
    go true e = p e
    go false e = q e

up_over : (m c : Bind) → within m.set (up m c).set ≡ true
up_over m c =
    up_cases (λ (z : Bind). within m.set z.set ≡ true) m c (λ e. (contained-is m c e).0) (λ e. within-refl m.set)

up_not_contained : (m c : Bind) → contained (up m c) c ≡ false
up_not_contained m c = up_cases (λ (z : Bind). contained z c ≡ false) m c (λ e. not-contained c c (within-refl c.set)) (λ e. e)

-- from m up, through l
unfoldable climb : Bind → List Bind → Bind
unfolding up
climb m [] = m
climb m (c ∷ l) = climb (up m c) l

climb_over : (m : Bind) (l : List Bind) → within m.set (climb m l).set ≡ true
unfolding climb
climb_over m [] = within-refl m.set
climb_over m (c ∷ l) = within_trans m.set (up m c).set (climb (up m c) l).set (up_over m c) (climb_over (up m c) l)

climb_in : (all : List Bind) (m : Bind) (l : List Bind) → In m all → ((c : Bind) → In c l → In c all) → In (climb m l) all
unfolding climb
climb_in all m [] i sub = i
climb_in all m (c ∷ l) i sub =
    climb_in all (up m c) l (up_cases (λ (z : Bind). In z all) m c (λ e. sub c (inl refl)) (λ e. i)) (λ d j. sub d (inr j))

climb_uncontained : (m : Bind) (l : List Bind) → uncontained (climb m l) l ≡ true
unfolding climb uncontained
climb_uncontained m [] = refl
climb_uncontained m (c ∷ l) =
    both_true (not (contained (climb (up m c) l) c)) (uncontained (climb (up m c) l) l)
    (ap not (still_not_contained (up m c) (climb (up m c) l) c (climb_over (up m c) l) (up_not_contained m c)))
    (climb_uncontained (up m c) l)

-- ---- places

pub at_from_1 : {b : Bind} {k : ℕ} {l : List Bind} → At b k l → 1 ≤ k
at_from_1 front = le_refl 1
at_from_1 (behind h) = omega arith

at_in : {b : Bind} {k : ℕ} {l : List Bind} → At b k l → In b l
at_in front = inl refl
at_in (behind h) = inr (at_in h)

-- two at one place are the same
pub at_one : {b c : Bind} {k : ℕ} {l : List Bind} → At b k l → At c k l → b ≡ c
at_one front front = refl
at_one front (behind h) = absurd (omega (arith, at_from_1 h))
at_one (behind h) front = absurd (omega (arith, at_from_1 h))
at_one (behind h) (behind g) = at_one h g

in_at : (b : Bind) (l : List Bind) → In b l → (k : ℕ) × At b k l
in_at b [] i = absurd i
in_at b (c ∷ l) (inl p) = (1, subst (λ (z : Bind). At b 1 (z ∷ l)) p front)
in_at b (c ∷ l) (inr i) =
    let g = in_at b l i in
    (suc g.0, behind g.1)

sorted_rest : (b : Bind) (l : List Bind) → Ascending b l → Sorted l
sorted_rest b [] a = tt
sorted_rest b (c ∷ l) a = a.1

-- in an ascending list what stands at an earlier place is before
at_before : {b c : Bind} {j k : ℕ} {l : List Bind} → Sorted l → At b j l → At c k l → j < k → bind_before b c ≡ true
at_before a front front h = absurd (omega arith)
at_before {b = b} {c = c} a (front {l = l}) (behind g) h = all_after b l a c (at_in g)
at_before a (behind g) front h = absurd (omega (arith, at_from_1 g))
at_before a (behind {c = d} {l = l} f) (behind g) h = at_before (sorted_rest d l a) f g (omega arith)

-- ---- the places of those that compete

-- k is one of l
abbrev Among : ℕ → List ℕ → Type 0
Among k [] = ⊥
Among k (a ∷ l) = (k ≡ a) ⊎ Among k l

-- ascending, from n on
abbrev Rising : ℕ → List ℕ → Type 0
Rising n [] = Unit {0}
Rising n (a ∷ l) = (n ≤ a) × Rising (suc a) l

rising_sooner : (n : ℕ) (l : List ℕ) → Rising (suc n) l → Rising n l
rising_sooner n [] r = tt
rising_sooner n (a ∷ l) r = (omega (arith, r.0), r.1)

rising_from : (n k : ℕ) (l : List ℕ) → Rising n l → Among k l → n ≤ k
rising_from n k [] r i = absurd i
rising_from n k (a ∷ l) r (inl p) = omega (arith, r.0)
rising_from n k (a ∷ l) r (inr i) = omega (arith, r.0, rising_from (suc a) k l r.1 i)

module _ (x : ℕ) (s : Scopes) (bs : List Bind) where
  competing-rises : (n : ℕ) (l : List Bind) → Rising n (competing x s bs n l)
  unfolding competing
  competing-rises n [] = tt
  competing-rises n (b ∷ l) = go (competes x s bs b) (competing-rises (suc n) l)
    where
      go : (t : Bool) → Rising (suc n) (competing x s bs (suc n) l) → Rising n (when t then n ∷ competing x s bs (suc n) l else competing x s bs (suc n) l)
      go true r = (le_refl n, r)
      go false r = rising_sooner n (competing x s bs (suc n) l) r

  -- who stands at a place that is told, where n are passed over
  abbrev Stands : ℕ → List Bind → ℕ → Type 0
  Stands n l k = (b : Bind) × (j : ℕ) × At b j l × (competes x s bs b ≡ true) × (k ≡ n + j)

  competing-stands : (n : ℕ) (l : List Bind) (k : ℕ) → Among k (competing x s bs (suc n) l) → Stands n l k
  unfolding competing
  competing-stands n [] k i = absurd i
  competing-stands n (b ∷ l) k i = go (λ g. competing-stands (suc n) l k g) (competes x s bs b) refl i
    where
      further : Stands (suc n) l k → Stands n (b ∷ l) k
      further (c, j, h, e, q) = (c, suc j, behind h, e, omega arith)

      go : (Among k (competing x s bs (suc (suc n)) l) → Stands (suc n) l k) → (t : Bool) → competes x s bs b ≡ t
          → Among k (when t then suc n ∷ competing x s bs (suc (suc n)) l else competing x s bs (suc (suc n)) l) → Stands n (b ∷ l) k
      go below true e (inl p) = (b, 1, front, e, omega arith)
      go below true e (inr g) = further (below g)
      go below false e g = further (below g)

  competing_tells : {b : Bind} (n : ℕ) {l : List Bind} {j : ℕ} → At b j l → competes x s bs b ≡ true → Among (n + j) (competing x s bs (suc n) l)
  unfolding competing
  competing_tells n front e = rw e (inl (omega arith))
  competing_tells {b = b} n (behind {k = k} {c = c} {l = l} h) e = go (competes x s bs c) (competing_tells (suc n) h e)
    where
      shifted : suc n + k ≡ n + suc k
      shifted = omega arith

      go : (t : Bool) → Among (suc n + k) (competing x s bs (suc (suc n)) l)
          → Among (n + suc k) (when t then suc n ∷ competing x s bs (suc (suc n)) l else competing x s bs (suc (suc n)) l)
      go true i = inr (subst (λ (z : ℕ). Among z (competing x s bs (suc (suc n)) l)) shifted i)
      go false i = subst (λ (z : ℕ). Among z (competing x s bs (suc (suc n)) l)) shifted i

  -- a candidate that no candidate contains competes
  climbed_competes : (m : Bind) → In m (candidates x s bs) → competes x s bs (climb m (candidates x s bs)) ≡ true
  unfolding competes candidate
  climbed_competes m i =
      let top = climb m (candidates x s bs) in
      let fits = candidates-sound x s bs top (climb_in (candidates x s bs) m (candidates x s bs) i (λ c j. j)) in
      both_true (candidate x s top) (uncontained top (candidates x s bs))
      (both_true (eqb top.symb x) (within top.set s) (eq-eqb top.symb x fits.symbol-is) fits.contained)
      (climb_uncontained m (candidates x s bs))

  -- what `competes` tests
  pub competes-is : (b : Bind) → competes x s bs b ≡ true
      → (b.symb ≡ x) × (within b.set s ≡ true) × ((c : Bind) → In c (candidates x s bs) → contained b c ≡ false)
  unfolding competes candidate
  competes-is b e =
      let h = and_both (candidate x s b) (uncontained b (candidates x s bs)) e in
      let g = and_both (eqb b.symb x) (within b.set s) h.0 in
      (eqb-true b.symb x g.0, g.1, uncontained-is b (candidates x s bs) h.1)

  -- two that compete, and are not the same
  record Two : Type 0 where
    one : Bind
    other : Bind
    one-stored : In one bs
    other-stored : In other bs
    one-competes : competes x s bs one ≡ true
    other-competes : competes x s bs other ≡ true
    different : one ≡ other → ⊥

  two-there : Unclear x s bs → Two
  two-there u = go (candidates x s bs) refl
    where
      stored : (m : Bind) → In m (candidates x s bs) → In (climb m (candidates x s bs)) (candidates x s bs)
      stored m i = climb_in (candidates x s bs) m (candidates x s bs) i (λ c j. j)

      -- over one that m misses there is another
      besides : (m c : Bind) → In m (candidates x s bs) → In c (candidates x s bs) → within c.set (climb m (candidates x s bs)).set ≡ false → Two
      besides m c i j e = record {
        one = climb m (candidates x s bs);
        other = climb c (candidates x s bs);
        one-stored = (candidates-sound x s bs _ (stored m i)).stored;
        other-stored = (candidates-sound x s bs _ (stored c j)).stored;
        one-competes = climbed_competes m i;
        other-competes = climbed_competes c j;
        different = λ p. false≢true (sym e ∙ ap (λ (z : Bind). within c.set z.set) p ∙ climb_over c (candidates x s bs));
      }

      from : (m : Bind) → In m (candidates x s bs) → ContainsAll (climb m (candidates x s bs)) (candidates x s bs) ⊎ MissesOne (climb m (candidates x s bs)) (candidates x s bs) → Two
      from m i (inl all) = absurd (u.no-largest (climb m (candidates x s bs)) (record { here = stored m i; above = all }))
      from m i (inr (c, j, e)) = besides m c i j e

      go : (l : List Bind) → candidates x s bs ≡ l → Two
      go [] e = absurd (u.there-are e)
      go (m ∷ l) e =
          let i : In m (candidates x s bs) = subst (λ (z : List Bind). In m z) (sym e) (inl refl) in
          from m i (contains_all_or_misses_one (climb m (candidates x s bs)) (candidates x s bs))

  -- who stands at place k and competes
  abbrev Placed : ℕ → Type 0
  Placed k = (b : Bind) × At b k bs × (competes x s bs b ≡ true)

  placed : (k : ℕ) → Among k (competing x s bs 1 bs) → Placed k
  placed k i = go (competing-stands 0 bs k i)
    where
      same : (j : ℕ) → k ≡ 0 + j → j ≡ k
      same j q = omega arith

      go : Stands 0 bs k → Placed k
      go (b, j, h, e, q) = (b, subst (λ (z : ℕ). At b z bs) (same j q) h, e)

  told : (b : Bind) (k : ℕ) → At b k bs → competes x s bs b ≡ true → Among k (competing x s bs 1 bs)
  told b k h e = subst (λ (z : ℕ). Among z (competing x s bs 1 bs)) (zero-add k) (competing_tells 0 h e)

  -- candidates at two places have different sets
  apart : Sorted bs → (b c : Bind) (j k : ℕ) → At b j bs → At c k bs → j < k → competes x s bs b ≡ true → competes x s bs c ≡ true → b.set ≡ c.set → ⊥
  apart a b c j k h g lt p q e = before-other b c (at_before a h g lt) ((competes-is b p).0 ∙ sym (competes-is c q).0) e

  -- of two that compete neither contains the other
  beside : (b c : Bind) → In c bs → competes x s bs b ≡ true → competes x s bs c ≡ true → (b.set ≡ c.set → ⊥) → within b.set c.set ≡ false
  beside b c i p q other =
      let h = competes-is c q in
      not_within b c ((competes-is b p).2 c (candidates_complete x s bs c (record { stored = i; symbol-is = h.0; contained = h.1 }))) other

  both-placed : Sorted bs → (j k : ℕ) → j < k → Placed j → Placed k
      → ((b : Bind) (i : ℕ) → At b i bs → competes x s bs b ≡ true → i < k → i ≡ j) → Compete x s bs (record { first = j; second = k })
  both-placed a j k lt (b, h, p) (c, g, q) none = record {
    one = b;
    other = c;
    first-place = h;
    second-place = g;
    in_order = lt;
    one-competes = p;
    other-competes = q;
    not_under = beside b c (at_in g) p q (apart a b c j k h g lt p q);
    not-over = beside c b (at_in h) q p (λ e. apart a b c j k h g lt p q (sym e));
    none_before = none;
  }

  -- at least two places are told, and those are the first
  first_two_lem : Sorted bs → Two → (l : List ℕ) → Rising 1 l → ((k : ℕ) → Among k l → Placed k)
      → ((b : Bind) (k : ℕ) → At b k bs → competes x s bs b ≡ true → Among k l) → Compete x s bs (first_two l)
  unfolding first_two
  first_two_lem a t [] r f g =
      let p = in_at t.one bs t.one-stored in
      absurd (g t.one p.0 p.1 t.one-competes)
  first_two_lem a t (j ∷ []) r f g =
      let p = in_at t.one bs t.one-stored in
      let q = in_at t.other bs t.other-stored in
      absurd (t.different (at_one (subst (λ (z : ℕ). At t.one z bs) (only p.0 (g t.one p.0 p.1 t.one-competes)) p.1)
      (subst (λ (z : ℕ). At t.other z bs) (only q.0 (g t.other q.0 q.1 t.other-competes)) q.1)))
    where
      only : (k : ℕ) → Among k (j ∷ []) → k ≡ j
      only k (inl e) = e
      only k (inr i) = absurd i
  first_two_lem a t (j ∷ (k ∷ l)) r f g =
      both-placed a j k r.1.0 (f j (inl refl)) (f k (inr (inl refl))) (λ b i h e lt. sooner i lt (g b i h e))
    where
      sooner : (i : ℕ) → i < k → Among i (j ∷ k ∷ l) → i ≡ j
      sooner i lt (inl e) = e
      sooner i lt (inr (inl e)) = absurd (omega arith)
      sooner i lt (inr (inr m)) = absurd (omega (arith, rising_from (suc k) i l r.1.1 m))

  -- where the identifier with symbol x and set s is ambiguous by bs, two compete, and `rivals` tells the places of the first two
  pub two_compete : Sorted bs → resolve x s bs ≡ several → Compete x s bs (rivals x s bs)
  unfolding rivals
  two_compete a e =
      first_two_lem a (two-there ((ambiguous_exactly x s bs (sorted_keys bs a)).0 e)) (competing x s bs 1 bs) (competing-rises 1 bs) placed told

pub told-competes : {p : Rivals} (t : Told p) → Compete t.symb t.set t.store p
told-competes t = subst (Compete t.symb t.set t.store) (sym t.is) (two_compete t.symb t.set t.store t.ascending t.unclear)

at_to_end : {b : Bind} {k : ℕ} {l : List Bind} → At b k l → k ≤ length l
at_to_end front = omega arith
at_to_end (behind h) = omega (arith, at_to_end h)

-- the places are counted from 1, in order, and within the bindings
pub places_are_in_order : {x : ℕ} {s : Scopes} {bs : List Bind} {p : Rivals} → Compete x s bs p → (1 ≤ p.first) × (p.first < p.second) × (p.second ≤ length bs)
places_are_in_order c = (at_from_1 c.first-place, c.in_order, at_to_end c.second-place)

-- so there are no places without a place
pub none_is_untold : Told no_rivals → ⊥
none_is_untold t = not-suc-le-zero (places_are_in_order (told-competes t)).0
