-- Changes and scans checked one after another: one law for each way on and out.
use Prim.Native.Nat.{ℕ, zero, suc, ◌+◌, ◌-◌, ◌≤◌, ◌<◌}
use mathlib.Core.Path.{◌≡◌, refl, ap, ◌∙◌}
use mathlib.Core.Bool.{Bool, true, false, not, ◌||◌, or-false}
use mathlib.Core.List.{List, [], ◌∷◌}
use native.Mathlib.Omega.{arith}
use native.Mathlib.Numerals.{add-one}
use lib.Dec.{eqb}
use lib.ListN.{length, get_or, drop}
use Rattle.std.specs.Prelude.{Result, Ok, Err}
use Rattle.model.specs.Refusals as m
use Rattle.model.specs.Reading.{got, fault, next, give, num}
use Rattle.refusals.specs.Refusing.{refusal_of}
use Rattle.refusals.specs.declared.Refusal.{Refusal}
use Rattle.numbers.specs.declared.Cursor.{Cursor}
use Rattle.numbers.specs.Answers.{read_at, beside, kept}
use Rattle.numbers.proofs.Tails.{Tail, tail_give, tail_next, num_tail}
use Rattle.numbers.proofs.Answering.{Took, took, refused, read_shape, goes, stops, Kept, kept-got, kept-fault, kept_tail, kept_next}
use Rattle.requests.specs.Recording as r
use Rattle.requests.specs.Recording.{read_change, read_changes, read_scan, read_scans}
use Rattle.recordings.specs.Changes.{coded}
use Rattle.recordings.specs.Judging.{is_marked, changes_marked, or_marked, any_marked}
use Rattle.recordings.specs.declared.Change.{Change}
use Rattle.recordings.proofs.Several.{several-none, several-more, several-stops, Midway, behind-same, going, answered, stopped}
use Rattle.recordings.proofs.Changes.{Changed, a_change, no_change, change_tail}

-- ---- a mark

pub marked_now : {before : Bool} (marks : List ℕ) (x : ℕ) → before ≡ false → not (eqb (get_or marks x 0) 0) ≡ (before || is_marked marks x)
unfolding is_marked
marked_now marks x e = rw e

or-more : (a b c : Bool) → (a || (b || c)) ≡ ((a || b) || c)
or-more true b c = refl
or-more false b c = refl

-- ---- readers one after another

pub changes_tail : (n least : ℕ) (s : List ℕ) → Tail s (read_changes n least s)
unfolding read_changes
changes_tail zero least s = tail_give [] s
changes_tail (suc n) least s = tail_next _ (change_tail least s) (λ q t. tail_next _ (changes_tail n (suc q.place) t) (λ l u. tail_give (q ∷ l) u))

pub scan_tail : (s : List ℕ) → Tail s (read_scan s)
unfolding read_scan
scan_tail s = tail_next _ (num_tail s) (λ n t. changes_tail n 0 t)

pub scans_tail : (n : ℕ) (s : List ℕ) → Tail s (read_scans n s)
unfolding read_scans
scans_tail zero s = tail_give [] s
scans_tail (suc n) s = tail_next _ (scan_tail s) (λ q t. tail_next _ (scans_tail n t) (λ l u. tail_give (q ∷ l) u))

pub changes-none : (least : ℕ) (s : List ℕ) → read_changes 0 least s ≡ got [] s
unfolding read_changes
changes-none least s = refl

pub changes-more : (n least : ℕ) (s : List ℕ) → 0 < n
    → read_changes n least s ≡ next (read_change least s) (λ q t. next (read_changes (n - 1) (suc q.place) t) (λ l. give (q ∷ l)))
unfolding read_changes
changes-more zero least s h = absurd (omega arith)
changes-more (suc n) least s h =
    let e : n ≡ suc n - 1 = omega arith in
    ap (λ (k : ℕ). next (read_change least s) (λ q t. next (read_changes k (suc q.place) t) (λ l. give (q ∷ l)))) e

pub scans-none : (s : List ℕ) → read_scans 0 s ≡ got [] s
unfolding read_scans
scans-none s = refl

pub scans-more : (n : ℕ) (s : List ℕ) → 0 < n → read_scans n s ≡ next (read_scan s) (λ q t. next (read_scans (n - 1) t) (λ l. give (q ∷ l)))
unfolding read_scans
scans-more zero s h = absurd (omega arith)
scans-more (suc n) s h =
    let e : n ≡ suc n - 1 = omega arith in
    ap (λ (k : ℕ). next (read_scan s) (λ q t. next (read_scans k t) (λ l. give (q ∷ l)))) e

-- ---- the loop along changes

or-change : (marks : List ℕ) (d : Bool) (q : r.Change) (l : List r.Change) → or_marked marks d (q ∷ l) ≡ or_marked marks (d || is_marked marks q.place) l
unfolding changes_marked
or-change marks d q l = or-more d (is_marked marks q.place) (changes_marked marks l)

or_no_change : (marks : List ℕ) (d : Bool) → or_marked marks d [] ≡ d
unfolding changes_marked
or_no_change marks d = or-false d

module _ (marks : List ℕ) where
  change-none : (d : Bool) (n least : ℕ) (s : List ℕ) → n ≤ 0 → kept (or_marked marks d) (read_changes n least s) ≡ got d s
  change-none =
      several-none read_change read_changes (λ q. suc q.place) (or_marked marks) (λ d q. d || is_marked marks q.place) changes-none changes-more (or_no_change marks) (or-change marks)

  change-more : (d : Bool) (n least : ℕ) (s : List ℕ) → 0 < n → {q : r.Change} {rest : List ℕ} → read_change least s ≡ got q rest
      → kept (or_marked marks d) (read_changes n least s) ≡ kept (or_marked marks (d || is_marked marks q.place)) (read_changes (n - 1) (suc q.place) rest)
  change-more =
      several-more read_change read_changes (λ q. suc q.place) (or_marked marks) (λ d q. d || is_marked marks q.place) changes-none changes-more (or_no_change marks) (or-change marks)

  change_lacks : (d : Bool) (n least : ℕ) (s : List ℕ) → 0 < n → {c : m.Refusal} → read_change least s ≡ fault c → kept (or_marked marks d) (read_changes n least s) ≡ fault c
  change_lacks =
      several-stops read_change read_changes (λ q. suc q.place) (or_marked marks) (λ d q. d || is_marked marks q.place) changes-none changes-more (or_no_change marks) (or-change marks)

pub record CheckingChanges (at : ℕ) (s marks : List ℕ) (count : ℕ) (before : Bool) (here done least : ℕ) (d : Bool) : Type 0 where
  pub midway : Midway at s here (kept (or_marked marks before) (read_changes count 0 s)) (kept (or_marked marks d) (read_changes (count - done) least (drop (here - at) s)))

module _ {at : ℕ} {s marks : List ℕ} {count : ℕ} {before : Bool} {here done least : ℕ} {d : Bool} (w : CheckingChanges at s marks count before here done least d) where
  module _ {u : List ℕ} (i : u ≡ drop (here - at) s) where
    module _ (more : done < count) {x : Result (Change × Cursor) Refusal} (h : x ≡ read_at (here + length u) (kept coded (read_change least u))) where
      some : 0 < count - done
      some = omega arith

      pub changes_stop : {f : Refusal} → x ≡ Err f → Err f ≡ read_at (at + length s) (kept (or_marked marks before) (read_changes count 0 s))
      changes_stop {f} e =
          stopped w.midway
          (rw (← i) (change_lacks marks d (count - done) least u some (no_change here u least h e)))

      pub changes_on : {q : Change} {past : Cursor} {d' : Bool} → x ≡ Ok (q, past) → d' ≡ (d || is_marked marks q.place)
          → CheckingChanges at s marks count before past.at (done + 1) (q.place + 1) d'
      changes_on {q} {past} {d'} e m =
          let C : Changed here u least q past.at = a_change here u least h e in
          let b = behind-same w.midway i C.moved in
          let z : count - (done + 1) ≡ count - done - 1 = omega arith in
          record {
            midway = going w.midway i C.moved C.within
                (rw (← i, change-more marks d (count - done) least u some C.is, b, C.place_is, m, z, add-one q.place));
          }

pub changes-end : {at : ℕ} {s marks : List ℕ} {count : ℕ} {before : Bool} {done least : ℕ} {here : Cursor} {d : Bool} → CheckingChanges at s marks count before here.at done least d → count ≤ done
    → Ok (d, here) ≡ read_at (at + length s) (kept (or_marked marks before) (read_changes count 0 s))
changes-end {at} {s} {marks} {count} {done = done} {least = least} {here = here} {d = d} w h =
    answered w.midway (change-none marks d (count - done) least (drop (here.at - at) s) (omega arith))

-- ---- one scan

module _ (at : ℕ) (s marks : List ℕ) (before : Bool) {x : Result (ℕ × Cursor) Refusal} (h : x ≡ read_at (at + length s) (num s)) where
  pub scan-stops : {f : Refusal} → x ≡ Err f → Err f ≡ read_at (at + length s) (kept (or_marked marks before) (read_scan s))
  unfolding read_scan
  scan-stops e = rw (kept_next (or_marked marks before) (num s) (λ n. read_changes n 0)) (stops read_shape beside (at + length s) (num s) _ h e)

  pub scan-goes : {n : ℕ} {past : Cursor} {u : List ℕ} {y : Result (Bool × Cursor) Refusal} → x ≡ Ok (n, past) → u ≡ drop (past.at - at) s
      → y ≡ read_at (past.at + length u) (kept (or_marked marks before) (read_changes n 0 u)) → y ≡ read_at (at + length s) (kept (or_marked marks before) (read_scan s))
  unfolding read_scan
  scan-goes e i a = rw (kept_next (or_marked marks before) (num s) (λ n. read_changes n 0)) (goes read_shape beside at (num s) _ h e (num_tail s) i a)

-- ---- the loop along scans

abbrev or_scans : List ℕ → Bool → List (List r.Change) → Bool
or_scans marks d l = d || any_marked marks l

or-scan : (marks : List ℕ) (d : Bool) (q : List r.Change) (l : List (List r.Change)) → or_scans marks d (q ∷ l) ≡ or_scans marks (d || changes_marked marks q) l
unfolding any_marked
or-scan marks d q l = or-more d (changes_marked marks q) (any_marked marks l)

or_no_scan : (marks : List ℕ) (d : Bool) → or_scans marks d [] ≡ d
unfolding any_marked
or_no_scan marks d = or-false d

module _ (marks : List ℕ) where
  scan-none : (d : Bool) (n : ℕ) (s : List ℕ) → n ≤ 0 → kept (or_scans marks d) (read_scans n s) ≡ got d s
  scan-none d n s =
      several-none {S = Unit {0}} (λ k. read_scan) (λ n k. read_scans n) (λ l. tt) (or_scans marks) (λ d l. d || changes_marked marks l) (λ k. scans-none) (λ n k. scans-more n) (or_no_scan marks) (or-scan marks)
      d n tt s

  scan-more : (d : Bool) (n : ℕ) (s : List ℕ) → 0 < n → {q : List r.Change} {rest : List ℕ} → read_scan s ≡ got q rest
      → kept (or_scans marks d) (read_scans n s) ≡ kept (or_scans marks (d || changes_marked marks q)) (read_scans (n - 1) rest)
  scan-more d n s =
      several-more {S = Unit {0}} (λ k. read_scan) (λ n k. read_scans n) (λ l. tt) (or_scans marks) (λ d l. d || changes_marked marks l) (λ k. scans-none) (λ n k. scans-more n) (or_no_scan marks) (or-scan marks)
      d n tt s

  scan_said : (d : Bool) (n : ℕ) (s : List ℕ) → 0 < n → {q : List r.Change} {rest : List ℕ} {b : Bool} → read_scan s ≡ got q rest → or_marked marks d q ≡ b
      → kept (or_scans marks d) (read_scans n s) ≡ kept (or_scans marks b) (read_scans (n - 1) rest)
  scan_said d n s h {rest = rest} e v = scan-more d n s h e ∙ ap (λ (z : Bool). kept (or_scans marks z) (read_scans (n - 1) rest)) v

  scan_lacks : (d : Bool) (n : ℕ) (s : List ℕ) → 0 < n → {c : m.Refusal} → read_scan s ≡ fault c → kept (or_scans marks d) (read_scans n s) ≡ fault c
  scan_lacks d n s =
      several-stops {S = Unit {0}} (λ k. read_scan) (λ n k. read_scans n) (λ l. tt) (or_scans marks) (λ d l. d || changes_marked marks l) (λ k. scans-none) (λ n k. scans-more n) (or_no_scan marks) (or-scan marks)
      d n tt s

pub record CheckingScans (at : ℕ) (s marks : List ℕ) (count here done : ℕ) (d : Bool) : Type 0 where
  pub midway : Midway at s here (kept (any_marked marks) (read_scans count s)) (kept (or_scans marks d) (read_scans (count - done) (drop (here - at) s)))

module _ {at : ℕ} {s marks : List ℕ} {count here done : ℕ} {d : Bool} (w : CheckingScans at s marks count here done d) where
  module _ {u : List ℕ} (i : u ≡ drop (here - at) s) where
    module _ (more : done < count) {x : Result (Bool × Cursor) Refusal} (h : x ≡ read_at (here + length u) (kept (or_marked marks d) (read_scan u))) where
      a_scan : 0 < count - done
      a_scan = omega arith

      pub scans_stop : {f : Refusal} → x ≡ Err f → Err f ≡ read_at (at + length s) (kept (any_marked marks) (read_scans count s))
      scans_stop {f} e =
          let q : read_scan u ≡ fault (refusal_of f) = kept-fault (or_marked marks d) (read_scan u) (refusal_of f) (refused read_shape (here + length u) (kept (or_marked marks d) (read_scan u)) h e) in
          stopped w.midway (rw (← i) (scan_lacks marks d (count - done) u a_scan q))

      pub scans_on : {b : Bool} {past : Cursor} → x ≡ Ok (b, past) → CheckingScans at s marks count past.at (done + 1) b
      scans_on {b} {past} e =
          let T : Took here u (kept (or_marked marks d) (read_scan u)) b past.at = took read_shape h e (kept_tail (or_marked marks d) (scan_tail u)) in
          let K : Kept (or_marked marks d) (read_scan u) b (drop (past.at - here) u) = kept-got (or_marked marks d) (read_scan u) b (drop (past.at - here) u) T.is in
          let y = behind-same w.midway i T.moved in
          let z : count - (done + 1) ≡ count - done - 1 = omega arith in
          record { midway = going w.midway i T.moved T.within (rw (← i, scan_said marks d (count - done) u a_scan K.is K.value-is, y, z)) }

pub scans-end : {at : ℕ} {s marks : List ℕ} {count done : ℕ} {here : Cursor} {d : Bool} → CheckingScans at s marks count here.at done d → count ≤ done
    → Ok (d, here) ≡ read_at (at + length s) (kept (any_marked marks) (read_scans count s))
scans-end {at} {s} {marks} {count} {done = done} {here = here} {d = d} w h = answered w.midway (scan-none marks d (count - done) (drop (here.at - at) s) (omega arith))
