-- Bindings read one behind the other, by the tests that the code makes.
use mathlib.Core.Path.{◌≡◌, refl, sym, ap, ap₂, ◌∙◌}
use mathlib.Core.Bool.{Bool, true, false}
use mathlib.Core.List.{List, [], ◌∷◌}
use Prim.Native.Nat.{ℕ, zero, suc, ◌+◌, ◌-◌, ◌*◌, ◌≤◌, ◌<◌}
use Rattle.std.specs.Prelude.{Result, Ok, Err}
use native.Mathlib.Omega.{arith}
use lib.Dec.{leb}
use lib.ListN.{length, drop, length-drop}
use lib.Seq.{drop-drop}
use borrow.Author.Tests.{leb-true}
use Rattle.model.specs.Limits.{most_bindings}
use Rattle.model.specs.Refusals as m
use Rattle.model.specs.Refusals.{layout, over_limit}
use Rattle.model.specs.Scopes.{Scopes}
use Rattle.model.specs.Resolving.{Bind, bind_before}
use Rattle.model.specs.Reading.{Read, got, fault, next, need, num, num_below, num_up_to, read_set}
use Rattle.refusals.specs.Refusing.{refusal_of}
use Rattle.refusals.specs.declared.Refusal.{Refusal}
use Rattle.refusals.specs.declared.Refusal.TheVariants.{Layout}
use Rattle.refusals.proofs.Cases.{case_back}
use Rattle.numbers.specs.declared.Cursor.{Cursor}
use Rattle.numbers.specs.Answers.{beside, read_at, place_at}
use Rattle.numbers.proofs.Tails.{Tail, tail_give, tail_next, tail_need, below_tail, up_to_tail}
use Rattle.numbers.proofs.Answering.{Took, took, read_shape, goes, gives, stops, refused, row-rest, err_same, ok_same, ok-err}
use Rattle.sets.proofs.Reading.{set_tail}
use Rattle.store.specs.Words.{bind_at, binds_from, binds_of, Put}
use Rattle.store.proofs.Runs.{run_step, same-bind}
use Rattle.bindings.specs.Sections.{read_target, read_one, read_more, read_some, read_all, MoreRead, SomeRead}
use Rattle.head.specs.declared.Counts.{Counts}
use Rattle.store.specs.Sizes.{binding_size}

-- ---- what is left is a tail

target_tail : (n : Counts) (x : ℕ) (s : List ℕ) → Tail s (read_target n x s)
unfolding read_target
target_tail n x s = tail_next _ (below_tail n.names s) (λ t u. tail_next _ (set_tail n.scopes u) (λ a v. tail_give (record { symb = x; target = t; set = a }) v))

pub one_tail : (n : Counts) (s : List ℕ) → Tail s (read_one n s)
unfolding read_one
one_tail n s = tail_next _ (below_tail n.symbols s) (λ x u. target_tail n x u)

more_tail : (n : Counts) (k : ℕ) (p : Bind) (s : List ℕ) → Tail s (read_more n k p s)
unfolding read_more
more_tail n zero p s = tail_give [] s
more_tail n (suc k) p s =
    tail_next _ (one_tail n s) (λ b t. tail_next _ (tail_need layout (bind_before p b) t) (λ x u.
    tail_next _ (more_tail n k b u) (λ r v. tail_give (b ∷ r) v)))

some_tail : (n : Counts) (k : ℕ) (s : List ℕ) → Tail s (read_some n k s)
unfolding read_some
some_tail n zero s = tail_give [] s
some_tail n (suc k) s = tail_next _ (one_tail n s) (λ b t. tail_next _ (more_tail n k b t) (λ r v. tail_give (b ∷ r) v))

pub all_tail : (n : Counts) (s : List ℕ) → Tail s (read_all n s)
unfolding read_all
all_tail n s = tail_next _ (up_to_tail over_limit most_bindings s) (λ k t. some_tail n k t)

-- ---- one binding

module _ (at : ℕ) (n : Counts) (s : List ℕ) {x : Result (ℕ × Cursor) Refusal} (h : x ≡ read_at (at + length s) (num_below n.symbols s)) where
  pub symbol-stops : {f : Refusal} → x ≡ Err f → Err f ≡ read_at (at + length s) (read_one n s)
  unfolding read_one
  symbol-stops e = stops read_shape beside (at + length s) (num_below n.symbols s) _ h e

  module _ {a : ℕ} {c : Cursor} (e : x ≡ Ok (a, c)) {u : List ℕ} (i : u ≡ drop (c.at - at) s) {y : Result (ℕ × Cursor) Refusal} (j : y ≡ read_at (c.at + length u) (num_below n.names u)) where
    on-symbol : {z : Result (Bind × Cursor) Refusal} → z ≡ read_at (c.at + length u) (read_target n a u) → z ≡ read_at (at + length s) (read_one n s)
    unfolding read_one
    on-symbol k = goes read_shape beside at (num_below n.symbols s) _ h e (below_tail n.symbols s) i k

    pub target-stops : {f : Refusal} → y ≡ Err f → Err f ≡ read_at (at + length s) (read_one n s)
    unfolding read_target
    target-stops k = on-symbol (stops read_shape beside (c.at + length u) (num_below n.names u) _ j k)

    module _ {b : ℕ} {d : Cursor} (k : y ≡ Ok (b, d)) where
      pub symbol-took : Took at s (num_below n.symbols s) a c.at
      symbol-took = took read_shape h e (below_tail n.symbols s)

      pub target-took : Took c.at u (num_below n.names u) b d.at
      target-took = took read_shape j k (below_tail n.names u)

      module _ {v : List ℕ} (l : v ≡ drop (d.at - at) s) {z : Result (Scopes × Cursor) Refusal} (m : z ≡ read_at (d.at + length v) (read_set n.scopes v)) where
        behind-both : v ≡ drop (d.at - c.at) u
        behind-both = row-rest symbol-took i target-took l

        pub set-stops : {f : Refusal} → z ≡ Err f → Err f ≡ read_at (at + length s) (read_one n s)
        unfolding read_target
        set-stops o = on-symbol (goes read_shape beside c.at (num_below n.names u) _ j k (below_tail n.names u) behind-both (stops read_shape beside (d.at + length v) (read_set n.scopes v) _ m o))

        pub binding-read : {t : Scopes} {q : Cursor} → z ≡ Ok (t, q) → Ok (record { symb = a; target = b; set = t }, q) ≡ read_at (at + length s) (read_one n s)
        unfolding read_target
        binding-read o = on-symbol (goes read_shape beside c.at (num_below n.names u) _ j k (below_tail n.names u) behind-both (gives read_shape beside d.at (read_set n.scopes v) _ m o (set_tail n.scopes v) (λ w. refl)))

-- ---- a place, whatever was read

place-fault : {A : Type 0} (end : ℕ) (g : Read A) {f : Refusal} → g ≡ fault (refusal_of f) → Err f ≡ place_at end g
place-fault end g {f} e = rw e (ap (λ (x : Refusal). Err x) (sym (case_back f)))

-- a binding put before what is read
onto : Bind → Read (List Bind) → Read (List Bind)
onto b (got r v) = got (b ∷ r) v
onto b (fault c) = fault c

place_onto : (end : ℕ) (b : Bind) (g : Read (List Bind)) → place_at end (onto b g) ≡ place_at end g
unfolding onto
place_onto end b (got r v) = refl
place_onto end b (fault c) = refl

record Onto (b : Bind) (g : Read (List Bind)) (l : List Bind) : Type 0 where
  others : List Bind
  rest : List ℕ
  read : g ≡ got others rest
  is : l ≡ b ∷ others

onto_got : (b : Bind) (g : Read (List Bind)) (l : List Bind) (rest : List ℕ) → onto b g ≡ got l rest → Onto b g l
unfolding onto
onto_got b (got r v) l rest e = record { others = r; rest = v; read = refl; is = let q : b ∷ r ≡ l = cc in sym q }
onto_got b (fault c) l rest e = let z : ◌≡◌ {A = ℕ} 0 1 = cc in absurd (omega arith)

-- ---- the ones after the first

more-step : (c : Counts) (k : ℕ) (p : Bind) (s : List ℕ)
    → read_more c (suc k) p s ≡ next (read_one c s) (λ b t. next (need layout (bind_before p b) t) (λ x u. onto b (read_more c k b u)))
unfolding read_more onto
more-step c k p s = ap (next (read_one c s)) (λ j b t. next (need layout (bind_before p b) t) (λ x u. same b (read_more c k b u) j))
  where
    same : (b : Bind) (g : Read (List Bind)) → next g (λ r v. got (b ∷ r) v) ≡ onto b g
    same b (got r v) = refl
    same b (fault e) = refl

-- the ones before place k stand in the store, q the last of them: with the rest read behind q, all are read behind p
pub record Midway (c : Counts) (s : List ℕ) (at : ℕ) (p : Bind) (i n : ℕ) (was : List ℕ) (here k : ℕ) (q : Bind) (now : List ℕ) : Type 0 where
  pub moved : at ≤ here
  pub within : here ≤ at + length s
  pub inside : k ≤ n
  pub long : length now ≡ length was
  pub rest : (l : List ℕ) (r : Result Cursor Refusal) → MoreRead c (drop (here - at) s) (at + length s) q k n now l r → MoreRead c s (at + length s) p i n was l r

pub more-start : {c : Counts} {s : List ℕ} {at : ℕ} {p : Bind} {i n : ℕ} {l : List ℕ} → i ≤ n → Midway c s at p i n l at i p l
more-start {at = at} h =
    let e : at - at ≡ 0 = omega arith in
    record { moved = omega arith; within = omega arith; inside = h; long = refl; rest = λ l r w. rw e at w }

module _ {c : Counts} {s : List ℕ} {at : ℕ} {p : Bind} {i n : ℕ} {was : List ℕ} {here k : ℕ} {q : Bind} {now : List ℕ} (m : Midway c s at p i n was here k q now) where
  pub more-none : {end : Cursor} → here ≡ end.at → n ≤ k → MoreRead c s (at + length s) p i n was now (Ok end)
  unfolding read_more binds_from
  more-none {end} e h =
      let z : n - k ≡ 0 = omega arith in
      let d : at + length s - length (drop (here - at) s) ≡ end.at = omega (arith, length-drop (here - at) s) in
      m.rest now (Ok end) (record {
        kept = λ j x. refl;
        place = rw (z, d);
        held = rw z (λ b rest f. let y : ◌≡◌ {A = List Bind} [] b = cc in y);
      })

  module _ {u : List ℕ} (j : u ≡ drop (here - at) s) where
    same_end : here + length u ≡ at + length s
    same_end = omega (arith, ap length j ∙ length-drop (here - at) s)

    pub more-fits : {most : ℕ} → at + length s ≤ most → here + length u ≤ most
    more-fits h = rw same_end h

    module _ (some : k < n) {o : Result (Bind × Cursor) Refusal} (h : o ≡ read_at (here + length u) (read_one c u)) where
      step-here : read_more c (n - k) q u
          ≡ next (read_one c u) (λ d t. next (need layout (bind_before q d) t) (λ x v. onto d (read_more c (n - (k + 1)) d v)))
      step-here =
          let e : n - k ≡ suc (n - (k + 1)) = omega arith in
          ap (λ (y : ℕ). read_more c y q u) e ∙ more-step c (n - (k + 1)) q u

      -- nothing is stored where there is a fault
      refusing : {f : Refusal} → read_more c (n - k) q u ≡ fault (refusal_of f) → MoreRead c s (at + length s) p i n was now (Err f)
      refusing {f} e =
          let g : read_more c (n - k) q (drop (here - at) s) ≡ fault (refusal_of f) = rw j at e in
          m.rest now (Err f) (record {
            kept = λ y d. refl;
            place = place-fault (at + length s) (read_more c (n - k) q (drop (here - at) s)) g;
            held = λ d rest x. let z : ◌≡◌ {A = Read (List Bind)} (fault (refusal_of f)) (got d rest) = sym g ∙ x in let y : ◌≡◌ {A = ℕ} 0 1 = cc in absurd (omega arith);
          })

      pub more-stops : {f : Refusal} → o ≡ Err f → MoreRead c s (at + length s) p i n was now (Err f)
      more-stops e = refusing (step-here ∙ rw (refused read_shape (here + length u) (read_one c u) h e))

      module _ {b : Bind} {past : Cursor} (e : o ≡ Ok (b, past)) {t : Bool} (d : t ≡ bind_before q b) where
        there : Took here u (read_one c u) b past.at
        there = took read_shape h e (one_tail c u)

        pub more_disorder : t ≡ false → MoreRead c s (at + length s) p i n was now (Err Layout)
        more_disorder f = refusing (step-here ∙ rw (there.is, sym d ∙ f))

        module _ (f : t ≡ true) {now1 : List ℕ} (g : Put b now now1 k) where
          behind : drop (past.at - here) u ≡ drop (past.at - at) s
          behind =
              let T = there in
              let v : here - at + (past.at - here) ≡ past.at - at = omega arith in
              rw (j, drop-drop, v)

          on : read_more c (n - k) q (drop (here - at) s) ≡ onto b (read_more c (n - (k + 1)) b (drop (past.at - at) s))
          on = ap (read_more c (n - k) q) (sym j) ∙ step-here ∙ rw (there.is, sym d ∙ f, behind)

          goes_on : {l : List ℕ} {r : Result Cursor Refusal} → MoreRead c (drop (past.at - at) s) (at + length s) b (k + 1) n now1 l r
              → MoreRead c (drop (here - at) s) (at + length s) q k n now l r
          goes_on {l} {r} w = record {
            kept = λ y x. w.kept y (omega arith) ∙ g.before y x;
            place =
                w.place ∙ sym (place_onto (at + length s) b (read_more c (n - (k + 1)) b (drop (past.at - at) s)))
                ∙ ap (place_at (at + length s)) (sym on);
            held = λ bs rest x.
                let y = onto_got b (read_more c (n - (k + 1)) b (drop (past.at - at) s)) bs rest (sym on ∙ x) in
                run_step l n k some ∙ ap₂ (λ (z : Bind) (v : List Bind). z ∷ v) first (w.held y.others y.rest y.read) ∙ sym y.is;
          }
            where
              first : bind_at l k ≡ b
              first = same-bind l now1 k k (λ y x. w.kept (k * binding_size + y) (omega arith)) ∙ g.there

          pub more-goes : Midway c s at p i n was past.at (k + 1) b now1
          more-goes =
              let T = there in
              let z = same_end in
              record {
                moved = omega arith;
                within = omega arith;
                inside = omega arith;
                long = g.long ∙ m.long;
                rest = λ l r w. m.rest l r (goes_on w);
              }

-- ---- all of them

some-step : (c : Counts) (k : ℕ) (s : List ℕ) → read_some c (suc k) s ≡ next (read_one c s) (λ b t. onto b (read_more c k b t))
unfolding read_some onto
some-step c k s = ap (next (read_one c s)) (λ j b t. same b (read_more c k b t) j)
  where
    same : (b : Bind) (g : Read (List Bind)) → next g (λ r v. got (b ∷ r) v) ≡ onto b g
    same b (got r v) = refl
    same b (fault e) = refl

pub some-none : {c : Counts} {s : List ℕ} {at : Cursor} {n : ℕ} {l : List ℕ} → n ≡ 0 → SomeRead c s (at.at + length s) n l (Ok at)
unfolding read_some binds_of binds_from
some-none {c} {s} {at} {n} {l} e =
    let q : at.at + length s - length s ≡ at.at = omega arith in
    record {
      place = rw (e, q);
      held = rw e (λ b rest f. let d : ◌≡◌ {A = List Bind} [] b = cc in d);
    }

module _ (c : Counts) (s : List ℕ) (at n : ℕ) (l : List ℕ) (some : n ≡ 0 → ⊥) {q : Result (Bind × Cursor) Refusal} (h : q ≡ read_at (at + length s) (read_one c s)) where
  some-here : read_some c n s ≡ next (read_one c s) (λ d t. onto d (read_more c (n - 1) d t))
  some-here =
      let e : n ≡ suc (n - 1) = omega arith in
      ap (λ (k : ℕ). read_some c k s) e ∙ some-step c (n - 1) s

  pub some-stops : {f : Refusal} → q ≡ Err f → SomeRead c s (at + length s) n l (Err f)
  some-stops {f} e =
      let g : read_some c n s ≡ fault (refusal_of f) = some-here ∙ rw (refused read_shape (at + length s) (read_one c s) h e) in
      record {
        place = place-fault (at + length s) (read_some c n s) g;
        held = λ d rest x. let z : ◌≡◌ {A = Read (List Bind)} (fault (refusal_of f)) (got d rest) = sym g ∙ x in let y : ◌≡◌ {A = ℕ} 0 1 = cc in absurd (omega arith);
      }

  module _ {b : Bind} {past : Cursor} (e : q ≡ Ok (b, past)) {u : List ℕ} (j : u ≡ drop (past.at - at) s) where
    there-first : Took at s (read_one c s) b past.at
    there-first = took read_shape h e (one_tail c s)

    on_first : read_some c n s ≡ onto b (read_more c (n - 1) b u)
    on_first = some-here ∙ rw (there-first.is, ← j)

    pub some-goes : {l1 l2 : List ℕ} {r : Result Cursor Refusal} → Put b l l1 0 → MoreRead c u (past.at + length u) b 1 n l1 l2 r
        → SomeRead c s (at + length s) n l2 r
    unfolding binds_of
    some-goes {l1} {l2} {r} g w = record {
      place =
          w.place ∙ ap (λ (z : ℕ). place_at z (read_more c (n - 1) b u)) (rw j there-first.ends)
          ∙ sym (place_onto (at + length s) b (read_more c (n - 1) b u))
          ∙ ap (place_at (at + length s)) (sym on_first);
      held = λ bs rest x.
          let y : Onto b (read_more c (n - 1) b u) bs = onto_got b (read_more c (n - 1) b u) bs rest (sym on_first ∙ x) in
          ap (binds_from l2 0) (let z : n ≡ n - 0 = omega arith in z) ∙ run_step l2 n 0 (omega arith)
          ∙ ap₂ (λ (k : Bind) (m : List Bind). k ∷ m) first (w.held y.others y.rest y.read) ∙ sym y.is;
    }
      where
        first : bind_at l2 0 ≡ b
        first =
            same-bind l2 l1 0 0 (λ k x. w.kept (0 * binding_size + k) (omega arith)) ∙ g.there

-- ---- the count, and so many

up_to-small : (c : m.Refusal) (m : ℕ) (s : List ℕ) (n : ℕ) (rest : List ℕ) → num_up_to c m s ≡ got n rest → n ≤ m
unfolding num_up_to
up_to-small c m s n rest e = go (num s) e
  where
    test : (k : ℕ) (v : List ℕ) (t : Bool) → leb k m ≡ t → next (need c t v) (λ x u. got k u) ≡ got n rest → n ≤ m
    test k v true h f = let z : k ≡ n = cc in let y : k ≤ m = leb-true k m h in omega arith
    test k v false h f = let z : ◌≡◌ {A = ℕ} 0 1 = cc in absurd (omega arith)

    go : (g : Read ℕ) → next g (λ k v. next (need c (leb k m) v) (λ x u. got k u)) ≡ got n rest → n ≤ m
    go (got k v) f = test k v (leb k m) refl f
    go (fault d) f = let z : ◌≡◌ {A = ℕ} 0 1 = cc in absurd (omega arith)

-- what a place says of what was read
record Given (end : ℕ) (g : Read (List Bind)) (behind : Cursor) : Type 0 where
  all : List Bind
  rest : List ℕ
  read : g ≡ got all rest
  is : behind.at ≡ end - length rest

given : (end : ℕ) (g : Read (List Bind)) (behind : Cursor) → Ok behind ≡ place_at end g → Given end g behind
given end (got r v) behind e = record { all = r; rest = v; read = refl; is = ap (λ (k : Cursor). k.at) (ok_same e) }
given end (fault c) behind e = absurd (ok-err e)

withheld : (end : ℕ) (g : Read (List Bind)) (f : Refusal) → Err f ≡ place_at end g → Err f ≡ read_at end g
withheld end (got r v) f e = absurd (ok-err (sym e))
withheld end (fault c) f e = ap (λ (x : Refusal). Err x) (err_same e)

module _ (c : Counts) (s : List ℕ) (at : ℕ) {r : Result (ℕ × Cursor) Refusal} (h : r ≡ read_at (at + length s) (num_up_to over_limit 512 s)) where
  pub all-stops : {f : Refusal} → r ≡ Err f → Err f ≡ read_at (at + length s) (read_all c s)
  unfolding read_all most_bindings
  all-stops e = stops read_shape beside (at + length s) (num_up_to over_limit 512 s) _ h e

  module _ {n : ℕ} {past : Cursor} (e : r ≡ Ok (n, past)) where
    counted : Took at s (num_up_to over_limit 512 s) n past.at
    counted = took read_shape h e (up_to_tail over_limit 512 s)

    pub all-few : n ≤ 512
    all-few = up_to-small over_limit 512 s n (drop (past.at - at) s) counted.is

    module _ {u : List ℕ} (j : u ≡ drop (past.at - at) s) {l : List ℕ} {q : Result Cursor Refusal} (w : SomeRead c u (past.at + length u) n l q) where
      from-count : read_all c s ≡ read_some c n u
      unfolding read_all most_bindings
      from-count = rw (counted.is, ← j)

      one_end : past.at + length u ≡ at + length s
      one_end = rw j counted.ends

      pub all_withheld : {f : Refusal} → q ≡ Err f → Err f ≡ read_at (at + length s) (read_all c s)
      all_withheld {f} g =
          withheld (past.at + length u) (read_some c n u) f (sym g ∙ w.place)
          ∙ ap₂ (λ (z : ℕ) (k : Read (List Bind)). read_at z k) one_end (sym from-count)

      pub all-given : {behind : Cursor} → q ≡ Ok behind → Ok (binds_of l n, behind) ≡ read_at (at + length s) (read_all c s)
      all-given {behind} g =
          let y : Given (past.at + length u) (read_some c n u) behind = given (past.at + length u) (read_some c n u) behind (sym g ∙ w.place) in
          let z : behind ≡ record { at = at + length s - length y.rest } = λ k. record { at = (y.is ∙ ap (λ (d : ℕ). d - length y.rest) one_end) k } in
          ap₂ (λ (b : List Bind) (d : Cursor). Ok (b, d)) (w.held y.all y.rest y.read) z
          ∙ ap (read_at (at + length s)) (sym (from-count ∙ y.read))

pub ruleset loading_laws = (one_tail, some-none, some-stops, some-goes, all-stops, all-few, all_withheld, all-given)

pub ruleset more_laws = (more-start, more-none, more-fits, more-stops, more_disorder, more-goes)
