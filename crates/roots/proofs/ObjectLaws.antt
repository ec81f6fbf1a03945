-- Objects measured, by the tests that the code makes.
use Rattle.std.specs.Prelude.{Result, Ok, Err}
use Prim.Native.Nat.{ℕ, zero, suc, ◌+◌, ◌-◌, ◌*◌, ◌≤◌, ◌<◌}
use mathlib.Core.Path.{◌≡◌, refl, sym, ap, ◌∙◌}
use mathlib.Core.List.{List}
use native.Mathlib.Omega.{arith}
use lib.Dec.{eqb}
use lib.ListN.{length, drop, length-drop}
use lib.Seq.{drop-drop}
use borrow.Author.Tests.{eq-eqb, ne_eqb}
use mir.Syntax.{w32}
use mir.Val.{Fits}
use Rattle.model.specs.Limits.{last_point, last_primitive, last_rung_word}
use Rattle.model.specs.Refusals.{layout, over_limit}
use Rattle.model.specs.Reading.{Reader, next, num, num_up_to, num_below, read_sets}
use Rattle.refusals.specs.declared.Refusal.{Refusal}
use Rattle.refusals.specs.declared.Refusal.TheVariants.{Layout, OverLimit}
use Rattle.refusals.proofs.Cases.{case_back}
use Rattle.numbers.specs.declared.Cursor.{Cursor}
use Rattle.numbers.specs.Answers.{read_at, place_at, beside, seen}
use Rattle.numbers.proofs.Tails.{num_tail, up_to_tail}
use Rattle.numbers.proofs.Answering.{Took, took, refused, read_shape, goes, gives, stops, place_took, place-value, place-refused}
use Rattle.sets.proofs.Reading.{sets_tail}
use Rattle.scopes.specs.declared.Point.{Point}
use Rattle.roots.specs.Points.{number_of}
use Rattle.roots.specs.MeasuredObjects.{read_content_of, read_top, measure_parts, measure_content, measure_stx, measure_list}
use Rattle.roots.proofs.ObjectSizes.{content_tail, top_tail, object_tail, all_parts_tail, object-sized, all_parts_sized, sized-is, Inside}

-- ---- an atom's content

module _ (end symbols t : ℕ) (s : List ℕ) where
  pub content-symbol : {r : Result (ℕ × Cursor) Refusal} → t ≡ 0 → r ≡ read_at end (num_below symbols s) → r ≡ read_at end (read_content_of symbols t s)
  unfolding read_content_of
  content-symbol e h = rw e h

  pub content-number : {r : Result (ℕ × Cursor) Refusal} → t ≡ 1 → r ≡ read_at end (num s) → r ≡ read_at end (read_content_of symbols t s)
  unfolding read_content_of
  content-number e h = rw e h

  module _ (e : t ≡ 2) {x : Result (Point × Cursor) Refusal} (h : seen number_of x ≡ read_at end (num_up_to over_limit last_point s)) where
    pub content-point : {p : Point} {past : Cursor} → x ≡ Ok (p, past) → Ok (p.0, past) ≡ read_at end (read_content_of symbols t s)
    unfolding read_content_of
    content-point i = rw e (sym (ap (seen number_of) i) ∙ h)

    pub point-stops : {f : Refusal} → x ≡ Err f → Err f ≡ read_at end (read_content_of symbols t s)
    unfolding read_content_of
    point-stops i = rw e (sym (ap (seen number_of) i) ∙ h)

  pub content-primitive : {r : Result (ℕ × Cursor) Refusal} → t ≡ 3 → r ≡ read_at end (num_up_to over_limit 9 s) → r ≡ read_at end (read_content_of symbols t s)
  unfolding read_content_of last_primitive
  content-primitive e h = rw e h

  pub content-rung : {r : Result (ℕ × Cursor) Refusal} → t ≡ 4 → r ≡ read_at end (num_up_to over_limit 15 s) → r ≡ read_at end (read_content_of symbols t s)
  unfolding read_content_of last_rung_word
  content-rung e h = rw e h

  pub content-none : (t ≡ 0 → ⊥) → (t ≡ 1 → ⊥) → (t ≡ 2 → ⊥) → (t ≡ 3 → ⊥) → (t ≡ 4 → ⊥) → Err Layout ≡ read_at end (read_content_of symbols t s)
  unfolding read_content_of
  content-none a b c d e = go t a b c d e
    where
      go : (t : ℕ) → (t ≡ 0 → ⊥) → (t ≡ 1 → ⊥) → (t ≡ 2 → ⊥) → (t ≡ 3 → ⊥) → (t ≡ 4 → ⊥) → Err Layout ≡ read_at end (read_content_of symbols t s)
      go zero a b c d e = absurd (a refl)
      go (suc zero) a b c d e = absurd (b refl)
      go (suc (suc zero)) a b c d e = absurd (c refl)
      go (suc (suc (suc zero))) a b c d e = absurd (d refl)
      go (suc (suc (suc (suc zero)))) a b c d e = absurd (e refl)
      go (suc (suc (suc (suc (suc t))))) a b c d e = refl

-- ---- tag and sets

module _ (at scopes : ℕ) (s : List ℕ) {r : Result (ℕ × Cursor) Refusal} (h : r ≡ read_at (at + length s) (num_up_to layout 5 s)) where
  pub top-stops : {f : Refusal} → r ≡ Err f → Err f ≡ read_at (at + length s) (read_top scopes s)
  unfolding read_top
  top-stops e = stops read_shape beside (at + length s) (num_up_to layout 5 s) _ h e

  module _ {t : ℕ} {past : Cursor} {u : List ℕ} {x : Result Cursor Refusal} (e : r ≡ Ok (t, past)) (i : u ≡ drop (past.at - at) s) (k : x ≡ place_at (past.at + length u) (read_sets scopes u)) where
    pub top_sets_stop : {f : Refusal} → x ≡ Err f → Err f ≡ read_at (at + length s) (read_top scopes s)
    unfolding read_top
    top_sets_stop {f} d =
        goes read_shape beside at (num_up_to layout 5 s) _ h e (up_to_tail layout 5 s) i
        (rw (place-refused (past.at + length u) (read_sets scopes u) k d) (ap (λ (k : Refusal). Err k) (sym (case_back f))))

    pub top_read : {end : Cursor} → x ≡ Ok end → Ok (t, end) ≡ read_at (at + length s) (read_top scopes s)
    unfolding read_top
    top_read {end} d =
        let T = place_took past.at u (read_sets scopes u) k d (sets_tail scopes u) in
        let v = place-value past.at u (read_sets scopes u) k d (sets_tail scopes u) in
        let p : past.at + length u - length (drop (end.at - past.at) u) ≡ end.at = omega (arith, T.ends) in
        goes read_shape beside at (num_up_to layout 5 s) _ h e (up_to_tail layout 5 s) i (rw (v.is, p))

-- ---- an object

pub object_deep : (end symbols scopes levels : ℕ) (s : List ℕ) → levels ≡ 0 → Err OverLimit ≡ read_at end (measure_stx symbols scopes levels s)
unfolding measure_stx
object_deep end symbols scopes levels s e = rw e

object-is : (symbols scopes levels : ℕ) (s : List ℕ) → (levels ≡ 0 → ⊥)
    → measure_stx symbols scopes levels s ≡ next (read_top scopes s) (λ t. measure_content symbols (measure_stx symbols scopes (levels - 1)) t (eqb t 5))
unfolding measure_stx
object-is symbols scopes zero s h = absurd (h refl)
object-is symbols scopes (suc l) s h = let e : l ≡ suc l - 1 = omega arith in ap (λ (k : ℕ). next (read_top scopes s) (λ t. measure_content symbols (measure_stx symbols scopes k) t (eqb t 5))) e

module _ (at symbols scopes levels : ℕ) (s : List ℕ) (some : levels ≡ 0 → ⊥) {r : Result (ℕ × Cursor) Refusal} (h : r ≡ read_at (at + length s) (read_top scopes s)) where
  pub object-stops : {f : Refusal} → r ≡ Err f → Err f ≡ read_at (at + length s) (measure_stx symbols scopes levels s)
  object-stops e = rw (object-is symbols scopes levels s some) (stops read_shape beside (at + length s) (read_top scopes s) _ h e)

  module _ {t : ℕ} {past : Cursor} {u : List ℕ} (e : r ≡ Ok (t, past)) (i : u ≡ drop (past.at - at) s) where
    behind : {x : Result (ℕ × Cursor) Refusal} → x ≡ read_at (past.at + length u) (measure_content symbols (measure_stx symbols scopes (levels - 1)) t (eqb t 5) u) → x ≡ read_at (at + length s) (measure_stx symbols scopes levels s)
    behind a = rw (object-is symbols scopes levels s some) (goes read_shape beside at (read_top scopes s) _ h e (top_tail scopes s) i a)

    pub object-list : {x : Result (ℕ × Cursor) Refusal} → t ≡ 5 → x ≡ read_at (past.at + length u) (measure_list symbols scopes (levels - 1) u) → x ≡ read_at (at + length s) (measure_stx symbols scopes levels s)
    unfolding measure_content measure_list
    object-list q a = behind (rw (eq-eqb t 5 q) a)

    module _ (n : t ≡ 5 → ⊥) {x : Result (ℕ × Cursor) Refusal} (k : x ≡ read_at (past.at + length u) (read_content_of symbols t u)) where
      pub atom-stops : {f : Refusal} → x ≡ Err f → Err f ≡ read_at (at + length s) (measure_stx symbols scopes levels s)
      unfolding measure_content
      atom-stops d = behind (rw (ne_eqb t 5 n) (stops read_shape beside (past.at + length u) (read_content_of symbols t u) _ k d))

      pub atom-read : {v : ℕ} {end : Cursor} → x ≡ Ok (v, end) → Ok (1, end) ≡ read_at (at + length s) (measure_stx symbols scopes levels s)
      unfolding measure_content
      atom-read d = behind (rw (ne_eqb t 5 n) (gives read_shape beside past.at (read_content_of symbols t u) _ k d (content_tail symbols t u) (λ w. refl)))

-- ---- a list

module _ (at symbols scopes levels : ℕ) (s : List ℕ) {r : Result (ℕ × Cursor) Refusal} (h : r ≡ read_at (at + length s) (num s)) where
  pub list-stops : {f : Refusal} → r ≡ Err f → Err f ≡ read_at (at + length s) (measure_list symbols scopes levels s)
  unfolding measure_list
  list-stops e = stops read_shape beside (at + length s) (num s) _ h e

  module _ {c : ℕ} {past : Cursor} {u : List ℕ} {x : Result (ℕ × Cursor) Refusal} (e : r ≡ Ok (c, past)) (i : u ≡ drop (past.at - at) s) (k : x ≡ read_at (past.at + length u) (measure_parts c 0 (measure_stx symbols scopes levels) u)) where
    pub list_parts_stop : {f : Refusal} → x ≡ Err f → Err f ≡ read_at (at + length s) (measure_list symbols scopes levels s)
    unfolding measure_list
    list_parts_stop d =
        goes read_shape beside at (num s) _ h e (num_tail s) i
        (stops read_shape beside (past.at + length u) (measure_parts c 0 (measure_stx symbols scopes levels) u) _ k d)

    pub list_read : {n : ℕ} {end : Cursor} → x ≡ Ok (n, end) → Ok ((n + 1), end) ≡ read_at (at + length s) (measure_list symbols scopes levels s)
    unfolding measure_list
    list_read d =
        goes read_shape beside at (num s) _ h e (num_tail s) i
        (gives read_shape beside past.at (measure_parts c 0 (measure_stx symbols scopes levels) u) _ k d (all_parts_tail symbols scopes levels c u) (λ w. refl))

pub parts-small : (at symbols scopes levels c : ℕ) (u : List ℕ) {x : Result (ℕ × Cursor) Refusal} {n : ℕ} {end : Cursor} → x ≡ read_at (at + length u) (measure_parts c 0 (measure_stx symbols scopes levels) u) → x ≡ Ok (n, end)
    → at + length u ≤ 65536 → Fits w32 (n + 1)
parts-small at symbols scopes levels c u {n = n} {end = end} k d l =
    let T : Took at u (measure_parts c 0 (measure_stx symbols scopes levels) u) n end.at = took read_shape k d (all_parts_tail symbols scopes levels c u) in
    let z = sized-is (all_parts_sized symbols scopes levels c u) T.is in
    omega arith

-- ---- the parts

pub record Parts (at symbols scopes levels : ℕ) (s : List ℕ) (count place left sum : ℕ) : Type 0 where
  pub moved : at ≤ place
  pub within : place ≤ at + length s
  pub small : at + sum ≤ place
  pub is : measure_parts count 0 (measure_stx symbols scopes levels) s ≡ measure_parts left sum (measure_stx symbols scopes levels) (drop (place - at) s)

pub parts-start : {at symbols scopes levels : ℕ} {s : List ℕ} {count left : ℕ} → left ≡ count → Parts at symbols scopes levels s count at left 0
parts-start {at} q = let e : at - at ≡ 0 = omega arith in record { moved = omega arith; within = omega arith; small = omega arith; is = rw (e, q) }

parts_more_is : (part : Reader ℕ) (left sum : ℕ) (s : List ℕ) → 0 < left → measure_parts left sum part s ≡ next (part s) (λ n. measure_parts (left - 1) (sum + n) part)
unfolding measure_parts
parts_more_is part zero sum s h = absurd (omega arith)
parts_more_is part (suc left) sum s h = let e : left ≡ suc left - 1 = omega arith in ap (λ (k : ℕ). next (part s) (λ n. measure_parts k (sum + n) part)) e

module _ {at symbols scopes levels : ℕ} {s : List ℕ} {count place left sum : ℕ} (k : Parts at symbols scopes levels s count place left sum) where
  pub parts-inside : Inside at s place
  parts-inside = record { moved = k.moved; within = k.within }

  pub parts-read : {c : Cursor} → place ≡ c.at → left ≤ 0 → Ok (sum, c) ≡ read_at (at + length s) (measure_parts count 0 (measure_stx symbols scopes levels) s)
  unfolding measure_parts
  parts-read {c} p h =
      let x = k.moved in
      let y = k.within in
      let e : left ≡ 0 = omega arith in
      let l = length-drop (place - at) s in
      let q : at + length s - length (drop (place - at) s) ≡ c.at = omega arith in
      sym (ap (read_at (at + length s)) k.is ∙ rw (e, q))

  module _ (some : 0 < left) {u : List ℕ} (i : u ≡ drop (place - at) s) {r : Result (ℕ × Cursor) Refusal} (h : r ≡ read_at (place + length u) (measure_stx symbols scopes levels u)) where
    step : measure_parts count 0 (measure_stx symbols scopes levels) s ≡ next (measure_stx symbols scopes levels u) (λ n. measure_parts (left - 1) (sum + n) (measure_stx symbols scopes levels))
    step = k.is ∙ ap (measure_parts left sum (measure_stx symbols scopes levels)) (sym i) ∙ parts_more_is (measure_stx symbols scopes levels) left sum u some

    pub part-stops : {f : Refusal} → r ≡ Err f → Err f ≡ read_at (at + length s) (measure_parts count 0 (measure_stx symbols scopes levels) s)
    part-stops {f} e = sym (ap (read_at (at + length s)) step ∙ rw (refused read_shape (place + length u) (measure_stx symbols scopes levels u) h e, case_back))

    module _ {n : ℕ} {past : Cursor} (e : r ≡ Ok (n, past)) where
      T : Took place u (measure_stx symbols scopes levels u) n past.at
      T = took read_shape h e (object_tail symbols scopes levels u)

      long : length u ≡ length s - (place - at)
      long = ap length i ∙ length-drop (place - at) s

      rest : drop (past.at - place) u ≡ drop (past.at - at) s
      rest =
          let x = T.moved in
          let y = k.moved in
          let q : place - at + (past.at - place) ≡ past.at - at = omega arith in
          ap (drop (past.at - place)) i ∙ drop-drop (past.at - place) (place - at) s ∙ ap (λ (j : ℕ). drop j s) q

      spent : place + n ≤ past.at
      spent =
          let z = sized-is (object-sized symbols scopes levels u) T.is in
          let x = T.ends in
          omega arith

      pub part-fits : at + length s ≤ 65536 → Fits w32 (sum + n)
      part-fits l =
          let z = spent in
          let x = k.small in
          let y = k.within in
          let w = T.within in
          let v = long in
          let o = k.moved in
          omega arith

      pub part-more : {next : ℕ} → next + 1 ≡ left → Parts at symbols scopes levels s count past.at next (sum + n)
      part-more {next} q =
          let j : left - 1 ≡ next = omega arith in
          let z = spent in
          let x = k.small in
          let y = k.within in
          let w = T.within in
          let v = long in
          let o = k.moved in
          record { moved = omega arith; within = omega arith; small = omega arith; is = step ∙ rw (T.is, rest, j) }

-- ---- levels fall

pub list_less : {levels t : ℕ} → 3 * levels ≡ t → (levels ≡ 0 → ⊥) → 3 * (levels - 1) + 2 < t
list_less e h = omega arith

pub parts_less : (levels : ℕ) {t : ℕ} → 3 * levels + 2 ≡ t → 3 * levels + 1 < t
parts_less levels e = omega arith

pub object_less : (levels : ℕ) {t : ℕ} → 3 * levels + 1 ≡ t → 3 * levels < t
object_less levels e = omega arith
