-- Reading a set, by the tests that the code makes.
use Prim.Native.Nat.{ℕ, zero, suc, ◌+◌, ◌-◌, ◌≤◌, ◌<◌}
use mathlib.Core.Path.{◌≡◌, refl, sym, ap, ◌∙◌}
use mathlib.Core.List.{List, [], ◌∷◌}
use mathlib.Core.Bool.{Bool, true, false, ◌&&◌, true≢false}
use native.Mathlib.Omega.{arith}
use lib.ListN.{length, get_or, drop, length-drop}
use lib.Seq.{drop-drop}
use Rattle.std.specs.Prelude.{Result, Ok, Err}
use lib.Dec.{eqb, ltb, leb}
use borrow.Author.Tests.{eqb-true, lt-ltb, le-ltb, le-leb, lt-leb}
use Rattle.model.specs.Refusals.{layout}
use Rattle.model.specs.Scopes.{Scopes, add}
use Rattle.model.specs.Objects.{Sets, no_sets}
use Rattle.model.specs.Reading.{Read, got, fault, next, need, byte, num, read_members, read_set, read_sets}
use Rattle.scopes.specs.declared.Scope.{Scope}
use Rattle.scopes.specs.Sets.{Declared, set_scopes}
use Rattle.refusals.specs.declared.Refusal.{Refusal}
use Rattle.refusals.specs.declared.Refusal.TheVariants.{Layout}
use Rattle.numbers.specs.declared.Cursor.{Cursor}
use Rattle.numbers.specs.Answers.{beside, read_at, place_at}
use Rattle.sets.specs.Seeing.{StartsEmpty}
use Rattle.numbers.proofs.Tails.{Tail, tail_give, tail_next, tail_need, num_tail}
use Rattle.numbers.proofs.Answering.{Took, took, read_shape, goes, gives, refuses, stops, err_same, ok_same, ok-err, row-rest}

-- ---- what is left is a tail

members_tail : (c n p : ℕ) (m : Scopes) (s : List ℕ) → Tail s (read_members c n p m s)
unfolding read_members
members_tail zero n p m s = tail_give m s
members_tail (suc c) n p m s = tail_next _ (num_tail s) (λ k t. tail_next _ (tail_need layout (ltb p k && leb k n) t) (λ x u. members_tail c n k (add k m) u))

pub set_tail : (n : ℕ) (s : List ℕ) → Tail s (read_set n s)
unfolding read_set
set_tail n s = tail_next _ (num_tail s) (λ c t. members_tail c n 0 0 t)

-- ---- members

pub declared : {k : Scope} {p n : ℕ} → p < k.0 → k.0 ≤ n → n ≤ set_scopes → Declared k
declared l h m = record { from_one = omega arith; most = omega arith }

members-more : (left n p : ℕ) (m : Scopes) (s : List ℕ) → (left ≡ 0 → ⊥)
    → read_members left n p m s ≡ next (num s) (λ k t. next (need layout (ltb p k && leb k n) t) (λ x. read_members (left - 1) n k (add k m)))
unfolding read_members
members-more zero n p m s h = absurd (h refl)
members-more (suc left) n p m s h = let e : left ≡ suc left - 1 = omega arith in ap (λ (j : ℕ). next (num s) (λ k t. next (need layout (ltb p k && leb k n) t) (λ x. read_members j n k (add k m)))) e

-- what the definition reads from the place reached on is what it reads from the start
pub record Members (at n : ℕ) (s : List ℕ) (count place left last : ℕ) (m : Scopes) : Type 0 where
  pub moved : at ≤ place
  pub within : place ≤ at + length s
  pub is : read_members count n 0 0 s ≡ read_members left n last m (drop (place - at) s)

pub members-start : {at n : ℕ} {s : List ℕ} {count left : ℕ} {m : Scopes} → left ≡ count → m ≡ 0 → Members at n s count at left 0 m
members-start {at} l e = let d : at - at ≡ 0 = omega arith in record { moved = omega arith; within = omega arith; is = rw (d, e, l) }

module _ {at n : ℕ} {s : List ℕ} {count place left last : ℕ} {m : Scopes} (w : Members at n s count place left last m) where
  pub members-read : {c : Cursor} → place ≡ c.at → left ≤ 0 → Ok (m, c) ≡ read_at (at + length s) (read_members count n 0 0 s)
  unfolding read_members
  members-read {c} p h =
      let e : left ≡ 0 = omega arith in
      let l = length-drop (place - at) s in
      let q : at + length s - length (drop (place - at) s) ≡ c.at = omega (arith, w.moved, w.within) in
      sym (ap (read_at (at + length s)) w.is ∙ rw (e, q))

  module _ {u : List ℕ} (i : u ≡ drop (place - at) s) where
    ends : place + length u ≡ at + length s
    ends = let l = ap length i ∙ length-drop (place - at) s in omega (arith, w.moved, w.within)

    pub members-fit : {k : ℕ} → at + length s ≤ k → place + length u ≤ k
    members-fit h = let e = ends in omega arith

    whole : {x : Result (Scopes × Cursor) Refusal} → x ≡ read_at (place + length u) (read_members left n last m u) → x ≡ read_at (at + length s) (read_members count n 0 0 s)
    whole a = rw (w.is, ← ends, ← i) a

    module _ (some : 0 < left) {r : Result (ℕ × Cursor) Refusal} (h : r ≡ read_at (place + length u) (num u)) where
      more : read_members left n last m u ≡ next (num u) (λ k t. next (need layout (ltb last k && leb k n) t) (λ x. read_members (left - 1) n k (add k m)))
      more = members-more left n last m u (λ e. omega arith)

      pub members_stop : {f : Refusal} → r ≡ Err f → Err f ≡ read_at (at + length s) (read_members count n 0 0 s)
      members_stop e = whole (rw more (stops read_shape beside (place + length u) (num u) _ h e))

      module _ {k : ℕ} {past : Cursor} (e : r ≡ Ok (k, past)) where
        pub member_low : k ≤ last → Err Layout ≡ read_at (at + length s) (read_members count n 0 0 s)
        member_low l = whole (rw more (refuses read_shape beside place (num u) _ h e (num_tail u) (λ v. rw (le-ltb last k l))))

        module _ (low : last < k) where
          pub member_over : n < k → Err Layout ≡ read_at (at + length s) (read_members count n 0 0 s)
          member_over l = whole (rw more (refuses read_shape beside place (num u) _ h e (num_tail u) (λ v. rw (lt-ltb last k low, lt-leb k n l))))

          pub member_more : {j : Scopes} {fewer : ℕ} → fewer ≡ left - 1 → k ≤ n → j ≡ add k m → Members at n s count past.at fewer k j
          member_more {j} o l d =
              let T : Took place u (num u) k past.at = took read_shape h e (num_tail u) in
              let q : place - at + (past.at - place) ≡ past.at - at = omega (arith, T.moved, w.moved) in
              let v : drop (past.at - place) u ≡ drop (past.at - at) s = ap (drop (past.at - place)) i ∙ drop-drop (past.at - place) (place - at) s ∙ ap (λ (y : ℕ). drop y s) q in
              record {
                moved = omega (arith, T.moved, w.moved);
                within = let y = ends in omega (arith, T.within);
                is = w.is ∙ rw (o, ← i, more, T.is, lt-ltb last k low, le-leb k n l, d, v);
              }

-- ---- the set

module _ (at n : ℕ) (s : List ℕ) {r : Result (ℕ × Cursor) Refusal} (h : r ≡ read_at (at + length s) (num s)) where
  pub set-stops : {f : Refusal} → r ≡ Err f → Err f ≡ read_at (at + length s) (read_set n s)
  unfolding read_set
  set-stops e = stops read_shape beside (at + length s) (num s) _ h e

  pub set-goes : {k : ℕ} {past : Cursor} {u : List ℕ} {x : Result (Scopes × Cursor) Refusal} → r ≡ Ok (k, past) → u ≡ drop (past.at - at) s → x ≡ read_at (past.at + length u) (read_members k n 0 0 u) → x ≡ read_at (at + length s) (read_set n s)
  unfolding read_set
  set-goes e i a = goes read_shape beside at (num s) _ h e (num_tail s) i a

-- ---- three sets

pub sets_tail : (n : ℕ) (s : List ℕ) → Tail s (read_sets n s)
unfolding read_sets
sets_tail n s = tail_next _ (set_tail n s) (λ a t. tail_next _ (set_tail n t) (λ b u. tail_next _ (set_tail n u) (λ c v. tail_give (record { at0 = a; at1 = b; at2 = c }) v)))

module _ (at n : ℕ) (s : List ℕ) {x : Result (Scopes × Cursor) Refusal} (h : x ≡ read_at (at + length s) (read_set n s)) where
  pub first_stops : {f : Refusal} → x ≡ Err f → Err f ≡ read_at (at + length s) (read_sets n s)
  unfolding read_sets
  first_stops e = stops read_shape beside (at + length s) (read_set n s) _ h e

  module _ {a : Scopes} {c : Cursor} (e : x ≡ Ok (a, c)) {u : List ℕ} (i : u ≡ drop (c.at - at) s) {y : Result (Scopes × Cursor) Refusal} (j : y ≡ read_at (c.at + length u) (read_set n u)) where
    pub second-stops : {f : Refusal} → y ≡ Err f → Err f ≡ read_at (at + length s) (read_sets n s)
    unfolding read_sets
    second-stops k = goes read_shape beside at (read_set n s) _ h e (set_tail n s) i (stops read_shape beside (c.at + length u) (read_set n u) _ j k)

    module _ {b : Scopes} {d : Cursor} (k : y ≡ Ok (b, d)) where
      pub first : Took at s (read_set n s) a c.at
      first = took read_shape h e (set_tail n s)

      pub second : Took c.at u (read_set n u) b d.at
      second = took read_shape j k (set_tail n u)

      module _ {v : List ℕ} (l : v ≡ drop (d.at - at) s) {z : Result (Scopes × Cursor) Refusal} (m : z ≡ read_at (d.at + length v) (read_set n v)) where
        behind : v ≡ drop (d.at - c.at) u
        behind = row-rest first i second l

        pub third-stops : {f : Refusal} → z ≡ Err f → Err f ≡ read_at (at + length s) (read_sets n s)
        unfolding read_sets
        third-stops o = goes read_shape beside at (read_set n s) _ h e (set_tail n s) i
            (goes read_shape beside c.at (read_set n u) _ j k (set_tail n u) behind (stops read_shape beside (d.at + length v) (read_set n v) _ m o))

        pub sets-read : {t : Scopes} {q : Cursor} → z ≡ Ok (t, q) → Ok (record { at0 = a; at1 = b; at2 = t }, q) ≡ read_at (at + length s) (read_sets n s)
        unfolding read_sets
        sets-read o = goes read_shape beside at (read_set n s) _ h e (set_tail n s) i
            (goes read_shape beside c.at (read_set n u) _ j k (set_tail n u) behind
            (gives read_shape beside d.at (read_set n v) _ m o (set_tail n v) (λ w. refl)))

-- ---- three empty sets

pub not-empty : {s : List ℕ} → false ≡ true → StartsEmpty s
not-empty e = absurd (true≢false (sym e))

pub starts : {s : List ℕ} {b : Bool} → 3 ≤ length s → get_or s 0 0 ≡ 0 → get_or s 1 0 ≡ 0 → b ≡ eqb (get_or s 2 0) 0 → b ≡ true → StartsEmpty s
starts {s} l e f g h = record { long = l; first = e; second = f; third = eqb-true (get_or s 2 0) 0 (sym g ∙ h) }

empty-set : (n b : ℕ) (s : List ℕ) → b ≡ 0 → read_set n (b ∷ s) ≡ got 0 s
unfolding read_set read_members num byte
empty-set n b s e = rw (lt-ltb b 128 (omega arith), e)

pub empty-sets : (at n : ℕ) (s : List ℕ) {v : Scopes} → StartsEmpty s → v ≡ 0 → Ok (record { at0 = v; at1 = v; at2 = v }, record { at = at + 3 }) ≡ read_at (at + length s) (read_sets n s)
unfolding read_sets no_sets
empty-sets at n [] h e = absurd (omega (arith, h.long))
empty-sets at n (a ∷ []) h e = absurd (omega (arith, h.long))
empty-sets at n (a ∷ b ∷ []) h e = absurd (omega (arith, h.long))
empty-sets at n (a ∷ b ∷ c ∷ s) h e =
    let p : at + length (a ∷ b ∷ c ∷ s) - length s ≡ at + 3 = omega arith in
    rw (empty-set n a (b ∷ c ∷ s) h.first, empty-set n b (c ∷ s) h.second, empty-set n c s h.third, e, p)

-- ---- the place past three sets

module _ (at n : ℕ) (s : List ℕ) where
  module _ {x : Result (Sets × Cursor) Refusal} (h : x ≡ read_at (at + length s) (read_sets n s)) where
    pub sets_skipped : {v : Sets} {p : Cursor} → x ≡ Ok (v, p) → Ok p ≡ place_at (at + length s) (read_sets n s)
    sets_skipped {v} {p} e = go (read_sets n s) (sym e ∙ h)
      where
        go : (g : Read Sets) → Ok (v, p) ≡ read_at (at + length s) g → Ok p ≡ place_at (at + length s) g
        go (got w rest) i = ap (λ (y : Cursor). Ok y) (ap (λ (y : Sets × Cursor). y.1) (ok_same i))
        go (fault r) i = absurd (ok-err i)

    pub skipping-stops : {f : Refusal} → x ≡ Err f → Err f ≡ place_at (at + length s) (read_sets n s)
    skipping-stops {f} e = go (read_sets n s) (sym e ∙ h)
      where
        go : (g : Read Sets) → Err f ≡ read_at (at + length s) g → Err f ≡ place_at (at + length s) g
        go (got w rest) i = absurd (ok-err (sym i))
        go (fault r) i = ap (λ (z : Refusal). Err z) (err_same i)

  pub empty_skipped : StartsEmpty s → Ok (record { at = at + 3 }) ≡ place_at (at + length s) (read_sets n s)
  empty_skipped h = sets_skipped (empty-sets at n s h refl) refl

pub ruleset set_laws = (empty_skipped, not-empty, starts, empty-sets, declared, set_tail, members-start, members-read, members-fit, members_stop, member_low, member_over, member_more, set-stops, set-goes, sets_tail)
