-- An entry brought up to date by the code is the definition's; and so are all of them.
use Prim.Native.Nat.{min, ℕ, ◌+◌, ◌-◌, ◌*◌, ◌≤◌, ◌<◌}
use mathlib.Core.Path.{◌≡◌, refl, sym, ap, ◌∙◌, subst}
use mathlib.Core.Bool.{Bool, true, false, not, ◌&&◌}
use mathlib.Core.List.{List}
use native.Mathlib.Omega.{arith}
use lib.Dec.{eqb, ltb, leb}
use lib.ListN.{length, get_or, set, length-set}
use lib.Seq.{get_or-set_same, get_or-set_other}
use borrow.Author.Tests.{eq-eqb, ne_eqb, lt-ltb, le-ltb, eqb-true, eqb-false, ltb-true, ltb-false, leb-true, leb-false}
use Rattle.std.specs.Prelude.{Option, Some, None}
use Rattle.model.specs.Choice.{when◌then◌else◌}
use Rattle.requests.specs.Uses.{uses, first_use, entry_in}
use Rattle.requests.specs.Replacing as q
use Rattle.requests.specs.Replacing.{largest, capped, count_after, searched, first_after}
use Rattle.numbers.specs.Limits.{most_image}
use Rattle.head.specs.declared.Counts.{Counts}
use Rattle.places.specs.declared.counting.Entry.{Entry}
use Rattle.places.specs.Reading.{along}
use Rattle.places.specs.Counting.{Room, Kept, found}
use Rattle.places.proofs.Walking.{found-before}
use Rattle.replacing.specs.declared.updating.Change.{Change}
use Rattle.replacing.specs.Updating.{stays_before, first_of, Small, Firsts, Means, entry_of, EntryAfter, RenewsEntry, Tells, Renewed, Renews}

-- ---- a sum that is too large

saturated : (n : ℕ) → min n 4294967295 ≡ capped n
unfolding capped largest
saturated n = by-test (leb n 4294967295) refl
  where
    by-test : (b : Bool) → leb n 4294967295 ≡ b → min n 4294967295 ≡ (when leb n 4294967295 then n else 4294967295)
    by-test true e = let l = leb-true n 4294967295 e in rw e (omega arith)
    by-test false e = let l = leb-false n 4294967295 e in rw e (omega arith)

-- ---- the first place, by the tests that the code makes

module _ (e : Entry) where
  module _ (n : ℕ) (come : Entry) (c : Change) where
    pub first-none : n ≡ 0 → Some 0 ≡ first_of e n come c
    unfolding first_of
    first-none h = rw (eq-eqb n 0 h) refl

    module _ (some : n ≡ 0 → ⊥) {b : Bool} (s : b ≡ stays_before e c.place) where
      pub first_stays : b ≡ true → Some e.first ≡ first_of e n come c
      unfolding first_of
      first_stays h = rw (ne_eqb n 0 some, sym s ∙ h) refl

      module _ (no : b ≡ false) where
        pub first-new : (come.count ≡ 0 → ⊥) → Some (c.place + come.first) ≡ first_of e n come c
        unfolding first_of
        first-new h = rw (ne_eqb n 0 some, sym s ∙ no, ne_eqb come.count 0 h) refl

        module _ (none : come.count ≡ 0) where
          pub first-searched : e.first < c.place + c.old → None ≡ first_of e n come c
          unfolding first_of
          first-searched h = rw (ne_eqb n 0 some, sym s ∙ no, eq-eqb come.count 0 none, lt-ltb e.first (c.place + c.old) h) refl

          pub first-moved : {x : ℕ} → c.place + c.old ≤ e.first → x ≡ min (e.first - c.old + c.new) 4294967295 → Some x ≡ first_of e n come c
          unfolding first_of
          first-moved h k = rw (ne_eqb n 0 some, sym s ∙ no, eq-eqb come.count 0 none, le-ltb e.first (c.place + c.old) h) (ap (λ (j : ℕ). Some j) (k ∙ saturated (e.first - c.old + c.new)))

pub ruleset first_laws = (first-none, first_stays, first-new, first-searched, first-moved)

-- ---- the definition's first place, where the code's is known

place_of : Option ℕ → ℕ → ℕ
place_of (Some x) d = x
place_of None d = d

chosen : (a b c d : Bool) (v w x z y : ℕ)
    → (when a then v else when b then w else when c then x else when d then y else z) ≡ place_of (when a then Some v else when b then Some w else when c then Some x else when d then None else Some z) y
unfolding place_of
chosen true b c d v w x z y = refl
chosen false true c d v w x z y = refl
chosen false false true d v w x z y = refl
chosen false false false true v w x z y = refl
chosen false false false false v w x z y = refl

module _ (e come : Entry) (gone count n x : ℕ) (c : Change) (s : List ℕ) (k : Counts) where
  module _ (M : q.Change) (W : Means M c count s k) (g : gone ≡ uses n M.old) (h : come.count ≡ uses n M.new) (f : come.first ≡ first_use n M.new) where
    count_agrees : {d : ℕ} → d ≡ e.count - gone → x ≡ min (d + come.count) 4294967295 → x ≡ count_after M n e.count
    unfolding count_after
    count_agrees {d} p r = r ∙ saturated (d + come.count) ∙ rw (p, g, h) refl

    first_agrees : x ≡ count_after M n e.count → first_after M n (entry_of e) ≡ place_of (first_of e x come c) (searched M n)
    unfolding first_after first_of stays_before
    first_agrees z =
        rw (← z, ← W.place_is, ← W.old-is, ← W.new_is, ← h, ← f)
        (chosen (eqb x 0) (not (eqb e.count 0) && ltb e.first c.place) (not (eqb come.count 0)) (ltb e.first (c.place + c.old)) 0 e.first (c.place + come.first) (capped (e.first - c.old + c.new)) (when eqb (uses n M.behind) 0 then 0 else c.place + c.new + first_use n M.behind))

some-same : {v w : ℕ} → Some v ≡ Some w → v ≡ w
some-same e = cc

some-none : (v : ℕ) → Some v ≡ None → ⊥
some-none v e = let z : ◌≡◌ {A = ℕ} 0 1 = cc in omega arith

module _ (e come : Entry) (gone count n x d : ℕ) (c : Change) (s : List ℕ) (k : Counts) (p : d ≡ e.count - gone) (r : x ≡ min (d + come.count) 4294967295) {y : Option ℕ} (fi : y ≡ first_of e x come c) where
  pub renew_is : {v : ℕ} → y ≡ Some v → RenewsEntry e gone come c count s k n (record { count = x; first = v })
  unfolding place_of
  renew_is {v} z M W g h f =
      let a = count_agrees e come gone count n x c s k M W g h f p r in
      record { count-is = a; first-is = sym (first_agrees e come gone count n x c s k M W g h f a ∙ ap (λ (j : Option ℕ). place_of j (searched M n)) (sym fi ∙ z)) }

  module _ (z : y ≡ None) {at : Option ℕ} (w : at ≡ found n (along k count s)) where
    search_is : (M : q.Change) → Means M c count s k → gone ≡ uses n M.old → come.count ≡ uses n M.new → come.first ≡ first_use n M.new → first_after M n (entry_of e) ≡ searched M n
    unfolding place_of
    search_is M W g h f = first_agrees e come gone count n x c s k M W g h f (count_agrees e come gone count n x c s k M W g h f p r) ∙ ap (λ (j : Option ℕ). place_of j (searched M n)) (sym fi ∙ z)

    found-is : (M : q.Change) → Means M c count s k → at ≡ (when eqb (uses n M.behind) 0 then None else Some (first_use n M.behind))
    unfolding found
    found-is M W = w ∙ rw W.behind-is refl

    pub renew_found : {v : ℕ} → at ≡ Some v → RenewsEntry e gone come c count s k n (record { count = x; first = c.place + c.new + v })
    unfolding searched
    renew_found {v} l M W g h f = record { count-is = count_agrees e come gone count n x c s k M W g h f p r; first-is = by-uses (eqb (uses n M.behind) 0) refl (sym l ∙ found-is M W) ∙ sym (search_is M W g h f) }
      where
        by-uses : (b : Bool) → eqb (uses n M.behind) 0 ≡ b → Some v ≡ (when eqb (uses n M.behind) 0 then None else Some (first_use n M.behind)) → c.place + c.new + v ≡ searched M n
        by-uses true j o = absurd (some-none v (o ∙ rw j refl))
        by-uses false j o = let i : v ≡ first_use n M.behind = some-same (o ∙ rw j refl) in rw (j, W.place_is, W.new_is, i) refl

    pub renew_lost : at ≡ None → RenewsEntry e gone come c count s k n (record { count = x; first = 0 })
    unfolding searched
    renew_lost l M W g h f = record { count-is = count_agrees e come gone count n x c s k M W g h f p r; first-is = by-uses (eqb (uses n M.behind) 0) refl (sym l ∙ found-is M W) ∙ sym (search_is M W g h f) }
      where
        by-uses : (b : Bool) → eqb (uses n M.behind) 0 ≡ b → None ≡ (when eqb (uses n M.behind) 0 then None else Some (first_use n M.behind)) → 0 ≡ searched M n
        by-uses true j o = rw j refl
        by-uses false j o = let z : None ≡ Some (first_use n M.behind) = o ∙ rw j refl in absurd (some-none (first_use n M.behind) (sym z))

    pub found-small : {v : ℕ} → at ≡ Some v → Small c → count ≤ most_image → c.place + c.new + v < 4294967296
    found-small {v} l S t = let b = found-before k n count v s (sym l ∙ w) in omega (arith, S.place-to, S.new-to)

pub ruleset entry_laws = (renew_is, renew_found, renew_lost, found-small)

-- ---- the loop over all names

smaller : {n : ℕ} (j : ℕ) → j < n + 1 → (j ≡ n → ⊥) → j < n
smaller {n} j h d = by_order (ltb j n) refl
  where
    by_order : (b : Bool) → ltb j n ≡ b → j < n
    by_order true e = ltb-true j n e
    by_order false e = absurd (d (let z = ltb-false j n e in omega arith))

pub record Renewing (old new : List ℕ) (c : Change) (count : ℕ) (s : List ℕ) (k : Counts) (words₀ : List ℕ) (n : ℕ) (words : List ℕ) : Type 0 where
  pub reached : n ≤ k.names
  pub kept : Kept k.names words₀ words
  pub later : (i : ℕ) → 2 + 2 * n ≤ i → get_or words i 0 ≡ get_or words₀ i 0
  pub renewed : (M : q.Change) → Means M c count s k → Tells M k.names old new → Renewed M n words₀ words

pub renew_start : {old new : List ℕ} {c : Change} {count : ℕ} {s : List ℕ} {k : Counts} {words : List ℕ} → Renewing old new c count s k words 0 words
renew_start = record {
  reached = omega arith;
  kept = record { long = refl; before = λ i h. refl; behind = λ i h. refl };
  later = λ i h. refl;
  renewed = λ M W T. record { counts = λ n h. absurd (omega arith); firsts = λ n h. absurd (omega arith) };
}

module _ {old new : List ℕ} {c : Change} {count : ℕ} {s : List ℕ} {k : Counts} {words₀ : List ℕ} {n : ℕ} {words : List ℕ} (w : Renewing old new c count s k words₀ n words) where
  pub renew_ends : k.names ≤ n → Renews old new c count s k words₀ words
  renew_ends h =
      let e : n ≡ k.names = omega (arith, w.reached) in
      record { kept = w.kept; renewed = λ M W T. subst (λ (j : ℕ). Renewed M j words₀ words) e (w.renewed M W T) }

  module _ (some : n < k.names) where
    module _ {i : ℕ} (at : i ≡ 2 + 2 * n) where
      pub word-inside : Room k.names words₀ → i < length words
      word-inside r = omega (arith, r.long, w.kept.long)

      pub first-few : Firsts k.names new → get_or new (i + 1) 0 ≤ most_image
      first-few h = let e : i + 1 ≡ 3 + 2 * n = omega arith in rw e (h n some)

      pub write_inside : Room k.names words₀ → (x : ℕ) → i + 1 < length (set words i x)
      write_inside r x = omega (arith, r.long, w.kept.long, length-set words i x)

      module _ (r : Room k.names words₀) {a : Entry} (R : RenewsEntry (record { count = get_or words i 0; first = get_or words (i + 1) 0 }) (get_or old i 0) (record { count = get_or new i 0; first = get_or new (i + 1) 0 }) c count s k n a) where
        abbrev after : List ℕ
        after = set (set words i a.count) (i + 1) a.first

        after-other : (j : ℕ) → (j ≡ i → ⊥) → (j ≡ i + 1 → ⊥) → get_or after j 0 ≡ get_or words j 0
        after-other j x y = get_or-set_other (set words i a.count) (i + 1) j a.first 0 y ∙ get_or-set_other words i j a.count 0 x

        after-count : get_or after (2 + 2 * n) 0 ≡ a.count
        after-count =
            ap (λ (j : ℕ). get_or after j 0) (sym at) ∙ get_or-set_other (set words i a.count) (i + 1) i a.first 0 (λ z. omega arith)
            ∙ get_or-set_same words i a.count 0 (word-inside r)

        after_first : get_or after (3 + 2 * n) 0 ≡ a.first
        after_first = let e : 3 + 2 * n ≡ i + 1 = omega arith in ap (λ (j : ℕ). get_or after j 0) e ∙ get_or-set_same (set words i a.count) (i + 1) a.first 0 (write_inside r a.count)

        count_was : get_or words i 0 ≡ get_or words₀ (2 + 2 * n) 0
        count_was = w.later i (omega arith) ∙ ap (λ (j : ℕ). get_or words₀ j 0) at

        first_was : get_or words (i + 1) 0 ≡ get_or words₀ (3 + 2 * n) 0
        first_was = let e : i + 1 ≡ 3 + 2 * n = omega arith in w.later (i + 1) (omega arith) ∙ ap (λ (j : ℕ). get_or words₀ j 0) e

        module _ (M : q.Change) (W : Means M c count s k) (T : Tells M k.names old new) where
          this : EntryAfter M n (record { count = get_or words i 0; first = get_or words (i + 1) 0 }) a
          this =
              let e : i + 1 ≡ 3 + 2 * n = omega arith in
              R M W (ap (λ (j : ℕ). get_or old j 0) at ∙ T.gone n some) (ap (λ (j : ℕ). get_or new j 0) at ∙ T.come n some) (ap (λ (j : ℕ). get_or new j 0) e ∙ T.come-first n some)

          this_count : a.count ≡ count_after M n (get_or words₀ (2 + 2 * n) 0)
          this_count = this.count-is ∙ ap (count_after M n) count_was

          this_first : a.first ≡ first_after M n (entry_in words₀ n)
          unfolding entry_in
          this_first =
              this.first-is ∙ ap (λ (x : ℕ). first_after M n (record { count = x; first = get_or words (i + 1) 0 })) count_was
              ∙ ap (λ (x : ℕ). first_after M n (record { count = get_or words₀ (2 + 2 * n) 0; first = x })) first_was

          all-counts : (j : ℕ) → j < n + 1 → get_or after (2 + 2 * j) 0 ≡ count_after M j (get_or words₀ (2 + 2 * j) 0)
          all-counts j h = by_name (eqb j n) refl
            where
              by_name : (b : Bool) → eqb j n ≡ b → get_or after (2 + 2 * j) 0 ≡ count_after M j (get_or words₀ (2 + 2 * j) 0)
              by_name true e = let z = eqb-true j n e in rw z (after-count ∙ this_count)
              by_name false e =
                  let z = eqb-false j n e in
                  after-other (2 + 2 * j) (λ y. z (omega arith)) (λ y. omega arith) ∙ (w.renewed M W T).counts j (smaller j h z)

          all_firsts : (j : ℕ) → j < n + 1 → get_or after (3 + 2 * j) 0 ≡ first_after M j (entry_in words₀ j)
          all_firsts j h = by_name (eqb j n) refl
            where
              by_name : (b : Bool) → eqb j n ≡ b → get_or after (3 + 2 * j) 0 ≡ first_after M j (entry_in words₀ j)
              by_name true e = let z = eqb-true j n e in rw z (after_first ∙ this_first)
              by_name false e =
                  let z = eqb-false j n e in
                  after-other (3 + 2 * j) (λ y. omega arith) (λ y. z (omega arith)) ∙ (w.renewed M W T).firsts j (smaller j h z)

        pub renew_more : Renewing old new c count s k words₀ (n + 1) after
        renew_more = record {
          reached = omega arith;
          kept = record {
            long = length-set (set words i a.count) (i + 1) a.first ∙ length-set words i a.count ∙ w.kept.long;
            before = λ j h. after-other j (λ y. omega arith) (λ y. omega arith) ∙ w.kept.before j h;
            behind = λ j h. after-other j (λ y. omega arith) (λ y. omega arith) ∙ w.kept.behind j h;
          };
          later = λ j h. after-other j (λ y. omega arith) (λ y. omega arith) ∙ w.later j (omega arith);
          renewed = λ M W T. record { counts = all-counts M W T; firsts = all_firsts M W T };
        }

pub ruleset renew_laws = (renew_start, renew_ends, first-few, renew_more)
