-- The bindings and the root behind them: one law for each way out.
use Rattle.std.specs.Prelude.{Result, Ok, Err}
use Prim.Native.Nat.{ℕ, ◌+◌, ◌-◌, ◌≤◌}
use mathlib.Core.Path.{◌≡◌, refl, ap, subst}
use mathlib.Core.List.{List, [], ◌∷◌}
use native.Mathlib.Omega.{arith}
use lib.ListN.{length, drop}
use Rattle.model.specs.Reading.{Read, got, fault, next, at_end}
use Rattle.refusals.specs.Refusing.{refusal_of}
use Rattle.refusals.specs.declared.Refusal.{Refusal}
use Rattle.numbers.specs.declared.Cursor.{Cursor}
use Rattle.numbers.specs.Answers.{read_at, seen}
use Rattle.numbers.proofs.Tails.{Tail}
use Rattle.numbers.proofs.Answering.{Took, took, refused, read_shape, whole, seen-refused}
use Rattle.store.specs.Words.{binds_of}
use Rattle.roots.specs.MeasuredObjects.{measure_stx}
use Rattle.roots.proofs.ObjectSizes.{object_tail}
use Rattle.roots.specs.Measuring.{then_end, whole_syntax}
use Rattle.roots.proofs.Whole.{root_tail}
use Rattle.bindings.specs.Sections.{read_all}
use Rattle.head.specs.declared.Counts.{Counts}
use Rattle.bindings.proofs.InTurn.{all_tail}
use Rattle.head.specs.declared.Front.{Front}
use Rattle.head.specs.Heads.{declares}
use Rattle.image.specs.Judging.{measure_rest, RestGood, BehindHead}
use Rattle.image.specs.declared.Judgement.{Judgement}

-- ---- the end of the image

last_tail : (n : Counts) (s : List ℕ) → Tail s (whole_syntax n s)
unfolding whole_syntax
last_tail n s = root_tail (measure_stx n.symbols n.scopes 64) s (object_tail n.symbols n.scopes 64 s)

-- what was read to the end left nothing
pub then_whole : {A : Type 0} (g : Read A) (k : A) (left : List ℕ) → next g (λ v t. next (at_end t) (λ x u. got v u)) ≡ got k left → g ≡ got k []
unfolding at_end
then_whole (fault c) k left e = let z : ◌≡◌ {A = ℕ} 0 1 = cc in absurd (omega arith)
then_whole {A} (got v []) k left e = let i : v ≡ k = cc in ap (λ (x : A). got x []) i
then_whole (got v (b ∷ t)) k left e = let z : ◌≡◌ {A = ℕ} 0 1 = cc in absurd (omega arith)

last-whole : (n : Counts) (s : List ℕ) (k : ℕ) (left : List ℕ) → whole_syntax n s ≡ got k left → measure_stx n.symbols n.scopes 64 s ≡ got k []
unfolding whole_syntax then_end
last-whole n s k left e = then_whole (measure_stx n.symbols n.scopes 64 s) k left e

-- ---- the bindings and the root

module _ (f : Front) (s l : List ℕ) where
  rest-bad : {x : Refusal} → measure_rest (declares f.head) s ≡ fault (refusal_of x) → BehindHead f s l (Err x)
  rest-bad g = record { is = g; good = λ j e. (let z : ◌≡◌ {A = ℕ} 0 1 = cc in absurd (omega arith)) }

  module _ {n : Counts} (ne : n ≡ declares f.head) (q : Result (ℕ × Cursor) Refusal) (h : seen (binds_of l) q ≡ read_at (f.end + length s) (read_all n s)) where
    declared : seen (binds_of l) q ≡ read_at (f.end + length s) (read_all (declares f.head) s)
    declared = subst (λ (k : Counts). seen (binds_of l) q ≡ read_at (f.end + length s) (read_all k s)) ne h

    pub binds_stop : {x : Refusal} {y : Result Judgement Refusal} → q ≡ Err x → y ≡ Err x → BehindHead f s l y
    unfolding measure_rest
    binds_stop {x} e y =
        let g : read_all (declares f.head) s ≡ fault (refusal_of x) = seen-refused (binds_of l) (f.end + length s) (read_all (declares f.head) s) declared e in
        rw y (rest-bad (rw g))

    module _ {count : ℕ} {past : Cursor} (e : q ≡ Ok (count, past)) {u : List ℕ} (i : u ≡ drop (past.at - f.end) s) {r : Result (ℕ × Cursor) Refusal} (k : r ≡ read_at (past.at + length u) (whole_syntax n u)) where
      held : Took f.end s (read_all (declares f.head) s) (binds_of l count) past.at
      held = took read_shape declared (whole (binds_of l) f.end s (read_all (declares f.head) s) declared e (all_tail (declares f.head) s)) (all_tail (declares f.head) s)

      rooted : r ≡ read_at (past.at + length u) (whole_syntax (declares f.head) u)
      rooted = subst (λ (m : Counts). r ≡ read_at (past.at + length u) (whole_syntax m u)) ne k

      pub rest-stops : {x : Refusal} {y : Result Judgement Refusal} → r ≡ Err x → y ≡ Err x → BehindHead f s l y
      unfolding measure_rest
      rest-stops {x} d y =
          let g : whole_syntax (declares f.head) u ≡ fault (refusal_of x) = refused read_shape (past.at + length u) (whole_syntax (declares f.head) u) rooted d in
          rw y (rest-bad (rw (held.is, ← i, g)))

      module _ {z : ℕ} {end : Cursor} (d : r ≡ Ok (z, end)) where
        -- the root, and that nothing is left behind it
        ended : whole_syntax (declares f.head) u ≡ got z (drop (end.at - past.at) u)
        ended = let T : Took past.at u (whole_syntax (declares f.head) u) z end.at = took read_shape rooted d (last_tail (declares f.head) u) in T.is

        measured : measure_stx (f.head.words + 4) f.head.scopes 64 (drop (past.at - f.end) s) ≡ got z []
        measured =
            subst (λ (v : List ℕ). measure_stx (f.head.words + 4) f.head.scopes 64 v ≡ got z []) i
            (last-whole (declares f.head) u z (drop (end.at - past.at) u) ended)

        sized : measure_rest (declares f.head) s ≡ got z []
        unfolding measure_rest whole_syntax then_end at_end
        sized = rw (held.is, measured)

        pub rest-good : count ≤ 512 → BehindHead f s l (Ok (record { front = f; root = past.at; size = z; bindings = count }))
        rest-good few =
            let T : Took f.end s (read_all (declares f.head) s) (binds_of l count) past.at = held in
            let j : Judgement = record { front = f; root = past.at; size = z; bindings = count } in
            let g : RestGood f s l j = record { front-is = refl; binds-read = T.is; few-binds = few; behind = T.moved; within = T.within; root_measured = measured } in
            record { is = sized; good = λ j' y. (let p : j ≡ j' = cc in subst (RestGood f s l) p g) }
