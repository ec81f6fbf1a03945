-- Runs of bytes that end no piece, comments, and what is skipped before a token, by the tests that the code makes.
use Prim.Native.Nat.{ℕ, suc, ◌+◌, ◌-◌, ◌≤◌, ◌<◌}
use mathlib.Core.Path.{◌≡◌, refl, sym, ap, ◌∙◌, subst}
use mathlib.Core.List.{List, [], ◌∷◌}
use mathlib.Core.Bool.{Bool, true, false}
use native.Mathlib.Omega.{arith}
use native.Mathlib.Numerals.{add-one}
use lib.ListN.{length, get_or, take, drop, drop_of_length-le, length-drop}
use lib.Seq.{drop-cons, drop-drop}
use Rattle.std.specs.Prelude.{Option, Some, None, ltb}
use Rattle.std.specs.Option.{unwrap_or}
use Rattle.std.specs.List.{position_or_len}
use Rattle.std.proofs.lemmas.Bool.{ltb-true, ltb-false}
use Rattle.std.proofs.lemmas.List.Sums.{prefix_len-le-length}
use mathlib.Core.Bool.{cond, not}
use Rattle.model.specs.Choice.{when◌then◌else◌}
use Rattle.requests.specs.Tokens.{space, line_end, tokens}
use Rattle.text_laws.specs.Passes.{ending, run, after_run, after_line}
use Rattle.text_laws.proofs.JobLaws.{after_blank, after-comment}
use Rattle.numbers.proofs.Reading.{part-from}
use Rattle.tokens.specs.Walk.{RunEnds, LineEnds, Skipped}

-- the place that `position` finds, or the length
place_in : {X : Type 0} (p : X → Bool) (s : List X) → position_or_len p s ≤ length s
place_in p s = prefix_len-le-length (λ b. not (p b)) s

or_len : (t : Bool) (n l : ℕ) → ltb n l ≡ t → n ≤ l → unwrap_or (cond t (Some n) None) l ≡ n
or_len true n l e h = refl
or_len false n l e h = let k = ltb-false n l e in omega arith

module _ {X : Type 0} (p : X → Bool) (s : List X) {o : Option ℕ} (e : o ≡ cond (ltb (position_or_len p s) (length s)) (Some (position_or_len p s)) None) where
  pub place_or : unwrap_or o (length s) ≡ position_or_len p s
  place_or = ap (λ (o : Option ℕ). unwrap_or o (length s)) e ∙ or_len (ltb (position_or_len p s) (length s)) (position_or_len p s) (length s) refl (place_in p s)

  place_some : {i : ℕ} → o ≡ Some i → (i < length s) × (i ≡ position_or_len p s)
  place_some h = go (ltb (position_or_len p s) (length s)) refl (sym h ∙ e)
    where
      go : (t : Bool) {i : ℕ} → ltb (position_or_len p s) (length s) ≡ t → Some i ≡ cond t (Some (position_or_len p s)) None → (i < length s) × (i ≡ position_or_len p s)
      go true {i} k h = let q : i ≡ position_or_len p s = cc in let l = ltb-true (position_or_len p s) (length s) k in (omega arith, q)
      go false k h = absurd (let z : ◌≡◌ {A = ℕ} 0 1 = cc in omega arith)

  place_none : o ≡ None → length s ≤ position_or_len p s
  place_none h = go (ltb (position_or_len p s) (length s)) refl (sym h ∙ e)
    where
      go : (t : Bool) → ltb (position_or_len p s) (length s) ≡ t → None ≡ cond t (Some (position_or_len p s)) None → length s ≤ position_or_len p s
      go true k h = absurd (let z : ◌≡◌ {A = ℕ} 0 1 = cc in omega arith)
      go false k h = ltb-false (position_or_len p s) (length s) k

one_more : (n : ℕ) → suc n ≡ 1 + n
one_more n = omega arith

run-step : (b : ℕ) (s : List ℕ) (t : Bool) → take (position_or_len ending s) s ≡ run s → take (cond (not t) (1 + position_or_len ending s) 0) (b ∷ s) ≡ (when t then [] else b ∷ run s)
run-step b s true h = refl
run-step b s false h = subst (λ (n : ℕ). take n (b ∷ s) ≡ b ∷ run s) (one_more (position_or_len ending s)) (ap (λ (l : List ℕ). b ∷ l) h)

run_at : (s : List ℕ) → take (position_or_len ending s) s ≡ run s
unfolding run
run_at [] = refl
run_at (b ∷ s) = run-step b s (ending b) (run_at s)

after_run_at : (s : List ℕ) → drop (position_or_len ending s) s ≡ after_run s
unfolding after_run
after_run_at [] = refl
after_run_at (b ∷ s) = go (ending b) (after_run_at s)
  where
    go : (t : Bool) → drop (position_or_len ending s) s ≡ after_run s → drop (cond (not t) (1 + position_or_len ending s) 0) (b ∷ s) ≡ (when t then b ∷ s else after_run s)
    go true h = refl
    go false h = subst (λ (n : ℕ). drop n (b ∷ s) ≡ after_run s) (one_more (position_or_len ending s)) h

pub run_ends : (s : List ℕ) {n : ℕ} → n ≡ position_or_len ending s → RunEnds s n
run_ends s e = rw e (record { inside = place_in ending s; piece = run_at s; rest = after_run_at s })

-- ---- comments

after_line_at : (s : List ℕ) → drop (position_or_len line_end s + 1) s ≡ after_line s
unfolding after_line
after_line_at [] = refl
after_line_at (b ∷ s) = go (line_end b) (after_line_at s)
  where
    go : (t : Bool) → drop (position_or_len line_end s + 1) s ≡ after_line s → drop (cond (not t) (1 + position_or_len line_end s) 0 + 1) (b ∷ s) ≡ (when t then s else after_line s)
    go true h = refl
    go false h = let q : suc (position_or_len line_end s + 1) ≡ 1 + position_or_len line_end s + 1 = omega arith in subst (λ (n : ℕ). drop n (b ∷ s) ≡ after_line s) q h

module _ (s : List ℕ) {o : Option ℕ} (e : o ≡ cond (ltb (position_or_len line_end s) (length s)) (Some (position_or_len line_end s)) None) where
  pub line_some : {i : ℕ} → o ≡ Some i → LineEnds s (i + 1)
  line_some {i} h =
      let a = place_some line_end s e h in
      record { inside = omega (arith, a.0); rest = ap (λ (n : ℕ). drop (n + 1) s) a.1 ∙ after_line_at s }

  pub line_none : o ≡ None → LineEnds s (length s)
  line_none h =
      let k = place_none line_end s e h in
      let q : length s ≤ position_or_len line_end s + 1 = omega arith in
      record { inside = omega arith; rest = drop_of_length-le s (omega arith) ∙ sym (drop_of_length-le s q) ∙ after_line_at s }

-- ---- skipping

-- no byte before place i is a token's
pub record Before (s : List ℕ) (i : ℕ) : Type 0 where
  pub so_far : tokens (drop i s) ≡ tokens s

pub skip_start : {s : List ℕ} → Before s 0
skip_start = record { so_far = refl }

module _ {s : List ℕ} {i : ℕ} (p : Before s i) where
  pub skip_done : i ≤ length s → length s ≤ i → Skipped s i
  skip_done k h = record { inside = k; same = p.so_far; begins = λ l. absurd (over l) }
    where
      over : i < length s → ⊥
      over l = omega arith

  module _ {f : Bool} (h : i < length s) (q : f ≡ space (get_or s i 0)) where
    pub skip_blank : f ≡ true → Before s (i + 1)
    skip_blank t =
        record {
          so_far = ap (λ (n : ℕ). tokens (drop n s)) (add-one i)
              ∙ sym (after_blank (get_or s i 0) (drop (suc i) s) (sym q ∙ t)) ∙ ap tokens (sym (drop-cons s i 0 h)) ∙ p.so_far;
        }

    pub skip_stops : f ≡ false → (get_or s i 0 ≡ 59 → ⊥) → Skipped s i
    skip_stops t k = record { inside = omega arith; same = p.so_far; begins = λ l. (sym q ∙ t, k) }

  -- past a comment, where the rest of the text is handed on
  module _ {n : ℕ} (h : i < length s) (e : get_or s i 0 ≡ 59) (l : LineEnds (take (length s - (i + 1)) (drop (i + 1) s)) n) where
    line : LineEnds (drop (i + 1) s) n
    line = subst (λ (z : List ℕ). LineEnds z n) (part-from (i + 1) s) l

    pub skip_within : i + (1 + n) ≤ length s
    skip_within = let d = length-drop (i + 1) s in let m = line.inside in omega arith

    behind : Before s (i + 1 + n)
    behind =
        record {
          so_far = ap tokens (sym (drop-drop n (i + 1) s)) ∙ ap tokens line.rest ∙ sym (after-comment (drop (i + 1) s))
              ∙ ap (λ (k : ℕ). tokens (59 ∷ drop k s)) (add-one i)
              ∙ ap (λ (b : ℕ). tokens (b ∷ drop (suc i) s)) (sym e) ∙ ap tokens (sym (drop-cons s i 0 h)) ∙ p.so_far;
        }

    pub skip_comment : Before s (i + (1 + n))
    skip_comment = let q : i + 1 + n ≡ i + (1 + n) = omega arith in subst (Before s) q behind

pub ruleset skip_laws = (skip_start, skip_done, skip_blank, skip_stops, skip_within, skip_comment)
