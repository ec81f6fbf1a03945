-- One pass resolves as the definition does: one candidate contains every other exactly where its set is the union of all.
use mathlib.Core.Path.{◌≡◌, refl, sym, ap, ◌∙◌, subst}
use mathlib.Core.Bool.{Bool, true, false, ◌&&◌, ◌||◌, false≢true}
use mathlib.Core.List.{List, [], ◌∷◌, ◌++◌, append_assoc, append-nil}
use Prim.Native.Nat.{ℕ}
use lib.Bits.{bit_or}
use Rattle.model.specs.Choice.{when◌then◌else◌}
use Rattle.model.specs.Scopes.{Scopes, has, within}
use Rattle.model.specs.Resolving.{Bind, means, several, candidate, candidates, over, largest, choose, resolve}
use Rattle.laws.proofs.Tests.{not_so}
use Rattle.laws.proofs.ScopeSets.{has-or, within→sub, sub→within, within-refl, within_trans, within-left, within_right}
use Rattle.store.specs.Pass.{unclear, Seen, none_seen, alone, joined, beyond_all, taking_by, taking, seeing, passing, meaning}

-- ---- the union of two sets

or_cases : (x y : Bool) {z : Bool} → (x ≡ true → z ≡ true) → (y ≡ true → z ≡ true) → (x || y) ≡ true → z ≡ true
or_cases true y f g e = f refl
or_cases false y f g e = g e

within_both : (a b c : Scopes) → within a c ≡ true → within b c ≡ true → within (bit_or a b) c ≡ true
within_both a b c p q =
    sub→within (bit_or a b) c
    (λ k h. or_cases (has k a) (has k b) (within→sub a c p k) (within→sub b c q k) (sym (has-or k a b) ∙ h))

-- ---- a test that fails

is-not : {t : Bool} → t ≡ false → t ≡ true → ⊥
is-not p q = false≢true (sym p ∙ q)

-- a is not contained in b, nor in what is contained in b; and what contains a is not contained in b
below-not : (a b c : Scopes) → within a b ≡ false → within c b ≡ true → within a c ≡ false
below-not a b c p q = not_so (within a c) (λ h. is-not p (within_trans a c b h q))

above_not : (a b c : Scopes) → within a b ≡ false → within a c ≡ true → within c b ≡ false
above_not a b c p q = not_so (within c b) (λ h. is-not p (within_trans a c b q h))

-- ---- a fact of every binding of a list

data All (P : Bind → Type 0) : List Bind → Type 0 where
  empty : All P []
  more : {b : Bind} {l : List Bind} → P b → All P l → All P (b ∷ l)

module _ {P : Bind → Type 0} where
  both : {a b : List Bind} → All P a → All P b → All P (a ++ b)
  both empty q = q
  both (more h p) q = more h (both p q)

  from-here : (a b : List Bind) → All P (a ++ b) → All P b
  from-here [] b p = p
  from-here (c ∷ a) b (more h p) = from-here a b p

  first_of : {b : Bind} {l : List Bind} → All P (b ∷ l) → P b
  first_of (more h p) = h

each : {P Q : Bind → Type 0} {l : List Bind} → ((b : Bind) → P b → Q b) → All P l → All Q l
each f empty = empty
each f (more {b} h p) = more (f b h) (each f p)

abbrev Within : Scopes → Bind → Type 0
Within u b = within b.set u ≡ true

abbrev Apart : Scopes → Bind → Type 0
Apart u b = within u b.set ≡ false

data Nonempty : List Bind → Type 0 where
  some : (b : Bind) (l : List Bind) → Nonempty (b ∷ l)

some_at : (a : List Bind) (b : Bind) (l : List Bind) → Nonempty (a ++ b ∷ l)
some_at [] b l = some b l
some_at (c ∷ a) b l = some c (a ++ b ∷ l)

-- ---- what is kept of the candidates l

data Sees : List Bind → Seen → Type 0 where
  none : Sees [] none_seen
  -- b contains all, and none before it does
  one : (pre : List Bind) (b : Bind) (post : List Bind) → All (Apart b.set) pre → All (Within b.set) (pre ++ b ∷ post)
      → Sees (pre ++ b ∷ post) (alone b)
  -- u is the union of all, and contained in none
  apart : (l : List Bind) (u : Scopes) → Nonempty l → All (Within u) l → All (Apart u) l
      → ((v : Scopes) → All (Within v) l → within u v ≡ true) → Sees l (record { order = unclear; union = u })

self : (b : Bind) → All (Within b.set) (b ∷ [])
self b = more (within-refl b.set) empty

-- d, which contains all so far, comes after those that contain less
largest_yet : (l : List Bind) (d : Bind) → All (Apart d.set) l → All (Within d.set) l → Sees (l ++ d ∷ []) (alone d)
largest_yet l d p q = one l d [] p (both q (self d))

-- d joins others with the union u, and neither contains all
joining : (l : List Bind) (u : Scopes) (d : Bind) → All (Within u) l → All (Apart (bit_or u d.set)) l
    → ((v : Scopes) → All (Within v) l → within u v ≡ true) → within u d.set ≡ false → Sees (l ++ d ∷ []) (joined u d)
joining l u d p q least h =
    apart (l ++ d ∷ []) (bit_or u d.set) (some_at l d [])
    (both (each (λ c k. within_trans c.set u (bit_or u d.set) k (within-left u d.set)) p)
    (more (within_right u d.set) empty))
    (both q (more (above_not u d.set (bit_or u d.set) h (within-left u d.set)) empty))
    (λ v a. within_both u d.set v (least v (front l a)) (first_of (from-here l (d ∷ []) a)))
  where
    front : {P : Bind → Type 0} (m : List Bind) → All P (m ++ d ∷ []) → All P m
    front [] a = empty
    front (c ∷ m) (more h a) = more h (front m a)

sees_more : {l : List Bind} {s : Seen} (d : Bind) → Sees l s → Sees (l ++ d ∷ []) (taking s d)
unfolding taking taking_by beyond_all
sees_more d none = one [] d [] empty (self d)
sees_more d (one pre b post p q) = go (within d.set b.set) refl (within b.set d.set) refl
  where
    all : List Bind
    all = pre ++ b ∷ post

    later : Sees (pre ++ b ∷ (post ++ d ∷ [])) (alone b) → Sees (all ++ d ∷ []) (alone b)
    later h = subst (λ (l : List Bind). Sees l (alone b)) (sym (append_assoc pre (b ∷ post) (d ∷ []))) h

    go : (t : Bool) → within d.set b.set ≡ t → (r : Bool) → within b.set d.set ≡ r
        → Sees (all ++ d ∷ []) (when t then alone b else (when r then alone d else joined b.set d))
    go true e r f =
        later (one pre b (post ++ d ∷ []) p (subst (All (Within b.set)) (append_assoc pre (b ∷ post) (d ∷ [])) (both q (more e empty))))
    go false e true f =
        largest_yet all d (each (λ c h. below-not d.set b.set c.set e h) q)
        (each (λ c h. within_trans c.set b.set d.set h f) q)
    go false e false f =
        joining all b.set d q
        (each (λ c h. below-not (bit_or b.set d.set) b.set c.set
        (above_not d.set b.set (bit_or b.set d.set) e (within_right b.set d.set)) h) q)
        (λ v a. first_of (from-here pre (b ∷ post) a))
        f
sees_more d (apart l u n p q least) = go (within u d.set) refl
  where
    go : (r : Bool) → within u d.set ≡ r → Sees (l ++ d ∷ []) (when r then alone d else joined u d)
    go true f =
        largest_yet l d (each (λ c h. above_not u c.set d.set h f) q)
        (each (λ c h. within_trans c.set u d.set h f) p)
    go false f =
        joining l u d p (each (λ c h. above_not u c.set (bit_or u d.set) h (within-left u d.set)) q) least f

-- ---- the definition's choice among the candidates seen

all-over : (b : Bind) {l : List Bind} → All (Within b.set) l → over b l ≡ true
unfolding over
all-over b empty = refl
all-over b (more h p) = rw h (all-over b p)

over-all : (b : Bind) (l : List Bind) → over b l ≡ true → All (Within b.set) l
unfolding over
over-all b [] e = empty
over-all b (c ∷ l) e = go (within c.set b.set) refl (λ h. over-all b l h) e
  where
    go : (t : Bool) → within c.set b.set ≡ t → (over b l ≡ true → All (Within b.set) l) → (t && over b l) ≡ true
        → All (Within b.set) (c ∷ l)
    go true h next e = more h (next e)
    go false h next e = absurd (false≢true e)

abbrev Lesser : List Bind → Bind → Type 0
Lesser all c = over c all ≡ false

found_at : (pre : List Bind) (b : Bind) (post all : List Bind) → All (Lesser all) pre → over b all ≡ true
    → largest (pre ++ b ∷ post) all ≡ means b.target
unfolding largest
found_at [] b post all empty h = rw h
found_at (c ∷ pre) b post all (more k p) h = rw k (found_at pre b post all p h)

found_none : (l all : List Bind) → All (Lesser all) l → largest l all ≡ several
unfolding largest
found_none [] all empty = refl
found_none (c ∷ l) all (more k p) = rw k (found_none l all p)

chosen : (x : ℕ) {l : List Bind} → Nonempty l → choose x l ≡ largest l l
unfolding choose
chosen x (some b l) = refl

sees_means : (x : ℕ) {l : List Bind} {s : Seen} → Sees l s → meaning x s ≡ choose x l
unfolding choose
sees_means x none = refl
sees_means x (one pre b post p q) =
    sym (chosen x (some_at pre b post)
    ∙ found_at pre b post (pre ++ b ∷ post)
    (each (λ c h. not_so (over c (pre ++ b ∷ post)) (λ k. is-not h (first_of (from-here pre (b ∷ post) (over-all c (pre ++ b ∷ post) k))))) p)
    (all-over b q))
sees_means x (apart l u n p q least) =
    sym (chosen x n ∙ found_none l l (each (λ c h. not_so (over c l) (λ k. is-not h (least c.set (over-all c l k)))) q))

-- ---- the pass

pass_on : (x : ℕ) (s : Scopes) (l : List Bind) {done : List Bind} {seen : Seen} → Sees done seen
    → meaning x (passing x s seen l) ≡ choose x (done ++ candidates x s l)
unfolding passing seeing candidates
pass_on x s [] {done} w = sees_means x w ∙ ap (choose x) (sym (append-nil done))
pass_on x s (b ∷ l) {done} {seen} w =
    go (candidate x s b) (pass_on x s l (sees_more b w) ∙ ap (choose x) (append_assoc done (b ∷ []) (candidates x s l))) (pass_on x s l w)
  where
    go : (t : Bool) → meaning x (passing x s (taking seen b) l) ≡ choose x (done ++ b ∷ candidates x s l)
        → meaning x (passing x s seen l) ≡ choose x (done ++ candidates x s l)
        → meaning x (passing x s (when t then taking seen b else seen) l)
        ≡ choose x (done ++ (when t then b ∷ candidates x s l else candidates x s l))
    go true p q = p
    go false p q = q

pub pass_resolves : (x : ℕ) (s : Scopes) (l : List Bind) → meaning x (passing x s none_seen l) ≡ resolve x s l
unfolding resolve
pass_resolves x s l = pass_on x s l none
