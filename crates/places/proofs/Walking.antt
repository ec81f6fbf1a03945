-- The loops along so many things: one law for each way on and out.
use Prim.Native.Nat.{ℕ, zero, suc, ◌+◌, ◌-◌, ◌≤◌, ◌<◌}
use mathlib.Core.Path.{◌≡◌, refl, sym, ap, ◌∙◌}
use mathlib.Core.Bool.{Bool, true, false, ◌&&◌}
use mathlib.Core.List.{List, [], ◌∷◌, ◌++◌, append_assoc, append-nil}
use native.Mathlib.Omega.{arith}
use lib.Dec.{eqb}
use lib.ListN.{length, drop, length-drop, length-append}
use lib.Seq.{drop-drop}
use borrow.Author.Tests.{eq-eqb, ne_eqb, eqb-false}
use Rattle.model.specs.Choice.{when◌then◌else◌}
use Rattle.model.specs.Reading as m
use Rattle.requests.specs.Uses as u
use Rattle.requests.specs.Uses.{variable, other, is_use, uses, first_use}
use Rattle.requests.proofs.Uses.{uses-few, uses_append, first_right, first-within}
use Rattle.refusals.specs.declared.Refusal.{Refusal}
use Rattle.numbers.specs.declared.Cursor.{Cursor}
use Rattle.numbers.specs.Answers.{read_at}
use Rattle.std.specs.Prelude.{Result, Ok, Err, Some, None}
use Rattle.numbers.specs.Limits.{most_image}
use Rattle.numbers.proofs.Answering.{Took, took, refused, read_shape}
use Rattle.head.specs.declared.Counts.{Counts}
use Rattle.places.specs.Reading.{read_thing, thing_of, onward, along}
use Rattle.places.specs.Counting.{is_use_of, Room, Holds, Few, Kept, Notes, Clear, Tallied, found}
use Rattle.places.specs.declared.Thing.{Thing}
use Rattle.places.proofs.Things.{thing_tail}
use Rattle.places.proofs.Noting.{kept-all}

along-none : (k : Counts) (left : ℕ) (s : List ℕ) → left ≡ 0 → along k left s ≡ []
unfolding along
along-none k left s e = rw e refl

along-more : (k : Counts) (left : ℕ) (s : List ℕ) → 0 < left → along k left s ≡ onward (read_thing k s) (λ t rest. thing_of t ∷ along k (left - 1) rest)
unfolding along
along-more k zero s h = absurd (omega arith)
along-more k (suc left) s h = let e : left ≡ suc left - 1 = omega arith in ap (λ (j : ℕ). onward (read_thing k s) (λ t rest. thing_of t ∷ along k j rest)) e

-- the things met, and with those from the place reached on they are all of them
pub record Midway (k : Counts) (at : ℕ) (s : List ℕ) (count here place : ℕ) : Type 0 where
  pub moved : at ≤ here
  pub within : here ≤ at + length s
  pub reached : place ≤ count
  pub met : List u.Thing
  pub long : length met ≡ place
  pub is : along k count s ≡ met ++ along k (count - place) (drop (here - at) s)

midway_start : (k : Counts) (at : ℕ) (s : List ℕ) (count : ℕ) → Midway k at s count at 0
midway_start k at s count =
    let e : at - at ≡ 0 = omega arith in
    let z : count - 0 ≡ count = omega arith in
    record { moved = omega arith; within = omega arith; reached = omega arith; met = []; long = refl; is = rw (e, z) refl }

module _ {k : Counts} {at : ℕ} {s : List ℕ} {count here place : ℕ} (w : Midway k at s count here place) where
  midway_ends : count ≤ place → along k count s ≡ w.met
  midway_ends h =
      let e : count - place ≡ 0 = omega arith in
      w.is ∙ rw (along-none k (count - place) (drop (here - at) s) e) (append-nil w.met)

  module _ {v : List ℕ} (i : v ≡ drop (here - at) s) where
    ends : here + length v ≡ at + length s
    ends = let l = ap length i ∙ length-drop (here - at) s in omega (arith, w.moved, w.within)

    module _ (some : place < count) {r : Result (Thing × Cursor) Refusal} (h : r ≡ read_at (here + length v) (read_thing k v)) where
      goes_on : along k (count - place) (drop (here - at) s) ≡ onward (read_thing k v) (λ t rest. thing_of t ∷ along k (count - place - 1) rest)
      goes_on = ap (along k (count - place)) (sym i) ∙ along-more k (count - place) v (omega arith)

      midway_stops : {f : Refusal} → r ≡ Err f → along k count s ≡ w.met
      midway_stops e = w.is ∙ rw (goes_on, refused read_shape (here + length v) (read_thing k v) h e) (append-nil w.met)

      module _ {t : Thing} {past : Cursor} (e : r ≡ Ok (t, past)) where
        took_it : Took here v (read_thing k v) t past.at
        took_it = took read_shape h e (thing_tail k v)

        -- what was met, this thing, and the others
        onward-is : along k count s ≡ w.met ++ thing_of t ∷ along k (count - (place + 1)) (drop (past.at - at) s)
        onward-is =
            let z : here - at + (past.at - here) ≡ past.at - at = omega (arith, took_it.moved, w.moved) in
            let d : drop (past.at - here) v ≡ drop (past.at - at) s = ap (drop (past.at - here)) i ∙ drop-drop (past.at - here) (here - at) s ∙ ap (λ (y : ℕ). drop y s) z in
            let c : count - place - 1 ≡ count - (place + 1) = omega arith in
            w.is ∙ rw (goes_on, took_it.is, d, c) refl

        midway_more : Midway k at s count past.at (place + 1)
        midway_more = record {
          moved = omega (arith, took_it.moved, w.moved);
          within = let y = ends in omega (arith, took_it.within);
          reached = omega arith;
          met = w.met ++ thing_of t ∷ [];
          long = omega (arith, length-append w.met (thing_of t ∷ []), w.long);
          is = onward-is ∙ sym (append_assoc w.met (thing_of t ∷ []) (along k (count - (place + 1)) (drop (past.at - at) s)));
        }

-- ---- noted

pub record Noting (k : Counts) (at : ℕ) (s : List ℕ) (count : ℕ) (words₀ : List ℕ) (here place : ℕ) (words : List ℕ) : Type 0 where
  pub way : Midway k at s count here place
  pub kept : Kept k.names words₀ words
  pub holds : Holds k.names way.met words

kept_on : {names : ℕ} {a b c : List ℕ} → Kept names a b → Kept names b c → Kept names a c
kept_on p q = record { long = q.long ∙ p.long; before = λ i h. q.before i h ∙ p.before i h; behind = λ i h. q.behind i h ∙ p.behind i h }

pub noting_start : {k : Counts} {at : ℕ} {s words : List ℕ} {count : ℕ} → Clear k.names words → Noting k at s count words at 0 words
unfolding midway_start
noting_start {k} {at} {s} {words} {count} c = record { way = midway_start k at s count; kept = kept-all k.names words; holds = c }

module _ {k : Counts} {at : ℕ} {s : List ℕ} {count : ℕ} {words₀ : List ℕ} {here place : ℕ} {words : List ℕ} (w : Noting k at s count words₀ here place words) where
  pub noting_ends : count ≤ place → Tallied k.names (along k count s) words₀ words
  noting_ends h = record { kept = w.kept; holds = rw (midway_ends w.way h) w.holds }

  pub noting_room : Room k.names words₀ → Room k.names words
  noting_room r = record { few = r.few; long = omega (arith, r.long, w.kept.long) }

  pub noting_few : Few k.names words place
  noting_few n h = omega (arith, w.holds.counts n h, uses-few n w.way.met, w.way.long)

  pub noting_reached : count ≤ most_image → place ≤ most_image
  noting_reached h = omega (arith, w.way.reached)

  module _ {v : List ℕ} (i : v ≡ drop (here - at) s) where
    module _ (some : place < count) {r : Result (Thing × Cursor) Refusal} (h : r ≡ read_at (here + length v) (read_thing k v)) where
      pub noting_stops : {f : Refusal} → r ≡ Err f → Tallied k.names (along k count s) words₀ words
      noting_stops e = record { kept = w.kept; holds = rw (midway_stops w.way i some h e) w.holds }

      pub noting_more : {t : Thing} {past : Cursor} {words' : List ℕ} → r ≡ Ok (t, past) → Notes k.names place t words words' → Noting k at s count words₀ past.at (place + 1) words'
      unfolding midway_more
      noting_more e n = record { way = midway_more w.way i some h e; kept = kept_on w.kept n.kept; holds = n.holds w.way.met w.way.long w.holds }

pub ruleset tally_laws = (noting_start, noting_ends, noting_room, noting_few, noting_reached, noting_stops, noting_more)

-- ---- looked for

pub record Looking (k : Counts) (at : ℕ) (s : List ℕ) (count name here place : ℕ) : Type 0 where
  pub way : Midway k at s count here place
  pub none : uses name way.met ≡ 0

pub looking_start : {k : Counts} {at : ℕ} {s : List ℕ} {count name : ℕ} → Looking k at s count name at 0
unfolding uses midway_start
looking_start {k} {at} {s} {count} {name} = record { way = midway_start k at s count; none = refl }

use_is : (n : ℕ) (t : Thing) (b : Bool) → is_use_of n t ≡ b → is_use n (thing_of t) ≡ b
unfolding is_use_of is_use thing_of
use_is n t b e = go (eqb t.tag 0) refl e
  where
    go : (c : Bool) → eqb t.tag 0 ≡ c → (c && eqb t.content n) ≡ b → is_use n (when c then variable t.content else other) ≡ b
    go true q h = h
    go false q h = h

one_use : (n : ℕ) (x : u.Thing) (l : List u.Thing) → is_use n x ≡ true → (0 < uses n (x ∷ l)) × (first_use n (x ∷ l) ≡ 0)
unfolding uses first_use
one_use n x l h = (rw h (omega arith), rw h refl)

no_use : (n : ℕ) (x : u.Thing) → is_use n x ≡ false → uses n (x ∷ []) ≡ 0
unfolding uses
no_use n x h = rw h refl

module _ {k : Counts} {at : ℕ} {s : List ℕ} {count name here place : ℕ} (w : Looking k at s count name here place) where
  nowhere : along k count s ≡ w.way.met → None ≡ found name (along k count s)
  unfolding found
  nowhere e = rw (e, eq-eqb (uses name w.way.met) 0 w.none) refl

  pub looking_ends : count ≤ place → None ≡ found name (along k count s)
  looking_ends h = nowhere (midway_ends w.way h)

  module _ {v : List ℕ} (i : v ≡ drop (here - at) s) where
    module _ (some : place < count) {r : Result (Thing × Cursor) Refusal} (h : r ≡ read_at (here + length v) (read_thing k v)) where
      pub looking_stops : {f : Refusal} → r ≡ Err f → None ≡ found name (along k count s)
      looking_stops e = nowhere (midway_stops w.way i some h e)

      module _ {t : Thing} {past : Cursor} (e : r ≡ Ok (t, past)) where
        pub looking_found : {b : Bool} → b ≡ is_use_of name t → b ≡ true → Some place ≡ found name (along k count s)
        unfolding found
        looking_found p q =
            let x = one_use name (thing_of t) (along k (count - (place + 1)) (drop (past.at - at) s)) (use_is name t true (sym p ∙ q)) in
            let f = first_right name w.way.met (thing_of t ∷ along k (count - (place + 1)) (drop (past.at - at) s)) w.none x.0 in
            let c = uses_append name w.way.met (thing_of t ∷ along k (count - (place + 1)) (drop (past.at - at) s)) in
            let y = x.0 in
            let z = x.1 in
            rw (onward-is w.way i some h e, ne_eqb (uses name (w.way.met ++ thing_of t ∷ along k (count - (place + 1)) (drop (past.at - at) s))) 0 (λ j. omega arith))
            (ap (λ (j : ℕ). Some j) (let j : place ≡ first_use name (w.way.met ++ thing_of t ∷ along k (count - (place + 1)) (drop (past.at - at) s)) = omega (arith, w.way.long) in j))

        pub looking_more : {b : Bool} → b ≡ is_use_of name t → b ≡ false → Looking k at s count name past.at (place + 1)
        unfolding midway_more
        looking_more p q = record {
          way = midway_more w.way i some h e;
          none = omega (arith, uses_append name w.way.met (thing_of t ∷ []), no_use name (thing_of t) (use_is name t false (sym p ∙ q)), w.none);
        }

-- ---- what is found lies among the things read

along-few : (k : Counts) (n : ℕ) (s : List ℕ) → length (along k n s) ≤ n
unfolding along
along-few k zero s = omega arith
along-few k (suc n) s = by-read (read_thing k s) (λ rest. along-few k n rest)
  where
    by-read : (g : m.Read Thing) → ((rest : List ℕ) → length (along k n rest) ≤ n) → length (onward g (λ t rest. thing_of t ∷ along k n rest)) ≤ suc n
    by-read (m.got t rest) h = let l = h rest in omega arith
    by-read (m.fault r) h = omega arith

some-same : {v w : ℕ} → Some v ≡ Some w → v ≡ w
some-same e = cc

some-none : (v : ℕ) → Some v ≡ None → ⊥
some-none v e = let z : ◌≡◌ {A = ℕ} 0 1 = cc in omega arith

pub found-before : (k : Counts) (n count v : ℕ) (s : List ℕ) → Some v ≡ found n (along k count s) → v < count
unfolding found
found-before k n count v s e = by-uses (eqb (uses n (along k count s)) 0) refl e
  where
    positive : (m : ℕ) → (m ≡ 0 → ⊥) → 0 < m
    positive zero h = absurd (h refl)
    positive (suc m) h = omega arith

    by-uses : (b : Bool) → eqb (uses n (along k count s)) 0 ≡ b → Some v ≡ (when b then None else Some (first_use n (along k count s))) → v < count
    by-uses true q o = absurd (some-none v o)
    by-uses false q o =
        let i = some-same o in
        let p = positive (uses n (along k count s)) (eqb-false (uses n (along k count s)) 0 q) in
        omega (arith, along-few k count s, first-within n (along k count s) p)

pub ruleset find_laws = (looking_start, looking_ends, looking_stops, looking_found, looking_more)
