-- One thing noted in the entries of those before it.
use Prim.Native.Nat.{ℕ, zero, suc, ◌+◌, ◌*◌, ◌≤◌, ◌<◌}
use mathlib.Core.Path.{◌≡◌, refl, sym, ap, ◌∙◌}
use mathlib.Core.Bool.{Bool, true, false}
use mathlib.Core.List.{List, [], ◌∷◌, ◌++◌}
use native.Mathlib.Omega.{arith}
use lib.Dec.{eqb}
use lib.ListN.{length, get_or, set, length-set}
use lib.Seq.{get_or-set_same, get_or-set_other}
use borrow.Author.Tests.{eq-eqb, ne_eqb, eqb-true, eqb-false}
use Rattle.model.specs.Choice.{when◌then◌else◌}
use Rattle.requests.specs.Uses as u
use Rattle.requests.specs.Uses.{variable, other, is_use, uses, first_use}
use Rattle.requests.proofs.Uses.{uses_append, first-left, first_right, first-none}
use Rattle.places.specs.Reading.{thing_of}
use Rattle.places.specs.Counting.{Room, Holds, Kept, Notes}
use Rattle.places.specs.declared.Thing.{Thing}

-- ---- one thing behind a list

one : (n : ℕ) (x : u.Thing) → uses n (x ∷ []) ≡ (when is_use n x then 1 else 0)
unfolding uses
one n x = refl

more-not : (n : ℕ) (l : List u.Thing) (x : u.Thing) → is_use n x ≡ false → (uses n (l ++ x ∷ []) ≡ uses n l) × (first_use n (l ++ x ∷ []) ≡ first_use n l)
more-not n l x h =
    let z : uses n (x ∷ []) ≡ 0 = one n x ∙ rw h refl in
    let c : uses n (l ++ x ∷ []) ≡ uses n l = omega (arith, uses_append n l (x ∷ [])) in
    (c, go (uses n l) refl c)
  where
    go : (k : ℕ) → uses n l ≡ k → uses n (l ++ x ∷ []) ≡ uses n l → first_use n (l ++ x ∷ []) ≡ first_use n l
    go zero e c = first-none n (l ++ x ∷ []) (c ∙ e) ∙ sym (first-none n l e)
    go (suc k) e c = first-left n l (x ∷ []) (omega arith)

more_use : (n : ℕ) (l : List u.Thing) → uses n (l ++ variable n ∷ []) ≡ uses n l + 1
unfolding is_use
more_use n l =
    let z : uses n (variable n ∷ []) ≡ 1 = one n (variable n) ∙ rw (eq-eqb n n refl) refl in
    omega (arith, uses_append n l (variable n ∷ []))

first_more : (n : ℕ) (l : List u.Thing) → uses n l ≡ 0 → first_use n (l ++ variable n ∷ []) ≡ length l
unfolding is_use uses first_use
first_more n l h =
    let z : uses n (variable n ∷ []) ≡ 1 = one n (variable n) ∙ rw (eq-eqb n n refl) refl in
    let f : first_use n (variable n ∷ []) ≡ 0 = rw (eq-eqb n n refl) refl in
    omega (arith, first_right n l (variable n ∷ []) h (omega arith))

pub kept-all : (names : ℕ) (words : List ℕ) → Kept names words words
kept-all names words = record { long = refl; before = λ i h. refl; behind = λ i h. refl }

-- ---- no variable, or one that has no entry

holds_not : (names : ℕ) (l : List u.Thing) (x : u.Thing) (words : List ℕ) → ((n : ℕ) → n < names → is_use n x ≡ false) → Holds names l words → Holds names (l ++ x ∷ []) words
holds_not names l x words h o = record {
  counts = λ n k. o.counts n k ∙ sym (more-not n l x (h n k)).0;
  firsts = λ n k. o.firsts n k ∙ sym (more-not n l x (h n k)).1;
}

module _ (names place : ℕ) (t : Thing) (words : List ℕ) where
  pub note_other : (t.tag ≡ 0 → ⊥) → Notes names place t words words
  unfolding thing_of is_use
  note_other h = record { kept = kept-all names words; holds = λ l e o. rw (ne_eqb t.tag 0 h) (holds_not names l other words (λ n k. refl) o) }

  pub note_beyond : t.tag ≡ 0 → names ≤ t.content → Notes names place t words words
  unfolding thing_of is_use
  note_beyond e h = record {
    kept = kept-all names words;
    holds = λ l i o. rw (eq-eqb t.tag 0 e) (holds_not names l (variable t.content) words (λ n k. ne_eqb t.content n (λ q. omega arith)) o);
  }

  -- ---- a use, of a name that has an entry

  module _ (e : t.tag ≡ 0) (inside : t.content < names) (room : Room names words) {i : ℕ} (at : i ≡ 2 + 2 * t.content) where
    another : (n : ℕ) → (n ≡ t.content → ⊥) → is_use n (variable t.content) ≡ false
    unfolding is_use
    another n h = ne_eqb t.content n (λ q. h (sym q))

    again : (get_or words i 0 ≡ 0 → ⊥) → Notes names place t words (set words i (get_or words i 0 + 1))
    unfolding thing_of
    again some = record {
      kept = record {
        long = length-set words i (get_or words i 0 + 1);
        before = λ j h. get_or-set_other words i j (get_or words i 0 + 1) 0 (λ q. omega arith);
        behind = λ j h. get_or-set_other words i j (get_or words i 0 + 1) 0 (λ q. omega arith);
      };
      holds = λ l p o. rw (eq-eqb t.tag 0 e) (record { counts = λ n k. count n k l o; firsts = λ n k. first n k l o });
    }
      where
        count : (n : ℕ) → n < names → (l : List u.Thing) → Holds names l words → get_or (set words i (get_or words i 0 + 1)) (2 + 2 * n) 0 ≡ uses n (l ++ variable t.content ∷ [])
        count n k l o = by_name (eqb n t.content) refl
          where
            by_name : (b : Bool) → eqb n t.content ≡ b → get_or (set words i (get_or words i 0 + 1)) (2 + 2 * n) 0 ≡ uses n (l ++ variable t.content ∷ [])
            by_name true q =
                let j = eqb-true n t.content q in
                let p : 2 + 2 * n ≡ i = omega arith in
                rw (p, ← j) (get_or-set_same words i (get_or words i 0 + 1) 0 (omega (arith, room.long)) ∙ ap (λ (z : ℕ). z + 1) (ap (λ (z : ℕ). get_or words z 0) (sym p) ∙ o.counts n k) ∙ sym (more_use n l))
            by_name false q =
                let j = eqb-false n t.content q in
                get_or-set_other words i (2 + 2 * n) (get_or words i 0 + 1) 0 (λ z. j (omega arith)) ∙ o.counts n k ∙ sym (more-not n l (variable t.content) (another n j)).0

        first : (n : ℕ) → n < names → (l : List u.Thing) → Holds names l words → get_or (set words i (get_or words i 0 + 1)) (3 + 2 * n) 0 ≡ first_use n (l ++ variable t.content ∷ [])
        first n k l o = get_or-set_other words i (3 + 2 * n) (get_or words i 0 + 1) 0 (λ z. omega arith) ∙ o.firsts n k ∙ by_name (eqb n t.content) refl
          where
            go : (m : ℕ) → uses n l ≡ m → (uses n l ≡ 0 → ⊥) → 0 < uses n l
            go zero q h = absurd (h q)
            go (suc m) q h = omega arith

            by_name : (b : Bool) → eqb n t.content ≡ b → first_use n l ≡ first_use n (l ++ variable t.content ∷ [])
            by_name true q =
                let j = eqb-true n t.content q in
                let p : i ≡ 2 + 2 * n = omega arith in
                sym (first-left n l (variable t.content ∷ []) (go (uses n l) refl (λ z. some (rw p (o.counts n k ∙ z)))))
            by_name false q = sym (more-not n l (variable t.content) (another n (eqb-false n t.content q))).1

    first-use : get_or words i 0 ≡ 0 → Notes names place t words (set (set words i 1) (i + 1) place)
    unfolding thing_of
    first-use none = record {
      kept = record {
        long = length-set (set words i 1) (i + 1) place ∙ length-set words i 1;
        before = λ j h. get_or-set_other (set words i 1) (i + 1) j place 0 (λ q. omega arith) ∙ get_or-set_other words i j 1 0 (λ q. omega arith);
        behind = λ j h. get_or-set_other (set words i 1) (i + 1) j place 0 (λ q. omega arith) ∙ get_or-set_other words i j 1 0 (λ q. omega arith);
      };
      holds = λ l p o. rw (eq-eqb t.tag 0 e) (record { counts = λ n k. count n k l o; firsts = λ n k. first n k l p o });
    }
      where
        count : (n : ℕ) → n < names → (l : List u.Thing) → Holds names l words → get_or (set (set words i 1) (i + 1) place) (2 + 2 * n) 0 ≡ uses n (l ++ variable t.content ∷ [])
        count n k l o = get_or-set_other (set words i 1) (i + 1) (2 + 2 * n) place 0 (λ z. omega arith) ∙ by_name (eqb n t.content) refl
          where
            by_name : (b : Bool) → eqb n t.content ≡ b → get_or (set words i 1) (2 + 2 * n) 0 ≡ uses n (l ++ variable t.content ∷ [])
            by_name true q =
                let j = eqb-true n t.content q in
                let p : 2 + 2 * n ≡ i = omega arith in
                let z : uses n l ≡ 0 = sym (o.counts n k) ∙ rw p none in
                rw (p, ← j) (get_or-set_same words i 1 0 (omega (arith, room.long)) ∙ omega (arith, more_use n l))
            by_name false q =
                let j = eqb-false n t.content q in
                get_or-set_other words i (2 + 2 * n) 1 0 (λ z. j (omega arith)) ∙ o.counts n k ∙ sym (more-not n l (variable t.content) (another n j)).0

        first : (n : ℕ) → n < names → (l : List u.Thing) → length l ≡ place → Holds names l words → get_or (set (set words i 1) (i + 1) place) (3 + 2 * n) 0 ≡ first_use n (l ++ variable t.content ∷ [])
        first n k l p o = by_name (eqb n t.content) refl
          where
            by_name : (b : Bool) → eqb n t.content ≡ b → get_or (set (set words i 1) (i + 1) place) (3 + 2 * n) 0 ≡ first_use n (l ++ variable t.content ∷ [])
            by_name true q =
                let j = eqb-true n t.content q in
                let a : 2 + 2 * n ≡ i = omega arith in
                let c : 3 + 2 * n ≡ i + 1 = omega arith in
                let z : uses n l ≡ 0 = sym (o.counts n k) ∙ rw a none in
                rw (c, ← j) (get_or-set_same (set words i 1) (i + 1) place 0 (omega (arith, room.long, length-set words i 1)) ∙ sym (first_more n l z ∙ p))
            by_name false q =
                let j = eqb-false n t.content q in
                get_or-set_other (set words i 1) (i + 1) (3 + 2 * n) place 0 (λ z. j (omega arith)) ∙ get_or-set_other words i (3 + 2 * n) 1 0 (λ z. omega arith)
                ∙ o.firsts n k ∙ sym (more-not n l (variable t.content) (another n j)).1

    -- the code counts the use, and then asks whether it is the first
    counted : get_or (set words i (get_or words i 0 + 1)) i 0 ≡ get_or words i 0 + 1
    counted = get_or-set_same words i (get_or words i 0 + 1) 0 (omega (arith, room.long))

    pub note_again : (get_or (set words i (get_or words i 0 + 1)) i 0 ≡ 1 → ⊥) → Notes names place t words (set words i (get_or words i 0 + 1))
    note_again n = again (λ z. n (counted ∙ ap (λ (x : ℕ). x + 1) z))

    pub note_first : get_or (set words i (get_or words i 0 + 1)) i 0 ≡ 1 → Notes names place t words (set (set words i (get_or words i 0 + 1)) (i + 1) place)
    note_first e =
        let z : get_or words i 0 ≡ 0 = omega (arith, counted) in
        rw z (first-use z)

pub ruleset noting_laws = (note_other, note_beyond, note_again, note_first)
