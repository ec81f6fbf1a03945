-- Changes taken into the points one after another: one law for each way on and out.
use Prim.Native.Nat.{ℕ, suc, ◌+◌, ◌-◌, ◌≤◌, ◌<◌}
use mathlib.Core.Path.{◌≡◌, refl, sym, ap, ◌∙◌}
use mathlib.Core.List.{List, [], ◌∷◌}
use native.Mathlib.Omega.{arith}
use native.Mathlib.Numerals.{add-one}
use lib.ListN.{length, set, drop, length-set}
use Rattle.std.specs.Prelude.{Result, Ok, Err}
use Rattle.model.specs.Refusals as m
use Rattle.model.specs.Reading.{Read, got, fault, num}
use Rattle.refusals.specs.Refusing.{refusal_of}
use Rattle.refusals.specs.declared.Refusal.{Refusal}
use Rattle.numbers.specs.declared.Cursor.{Cursor}
use Rattle.numbers.specs.Answers.{read_at, kept}
use Rattle.numbers.proofs.Tails.{num_tail}
use Rattle.numbers.proofs.Answering.{Took, took, refused, read_shape}
use Rattle.codec_laws.proofs.NumberTrip.{fault≢got}
use Rattle.bits.specs.Meeting.{last_mark}
use Rattle.requests.specs.Recording as r
use Rattle.requests.specs.Recording.{read_change, read_changes, read_scan}
use Rattle.requests.specs.Scanning.{changed}
use Rattle.recordings.specs.Changes.{coded}
use Rattle.recordings.specs.Taking.{Readable, Taken}
use Rattle.recordings.specs.declared.Change.{Change}
use Rattle.recordings.proofs.Several.{several-none, several-more, several-stops, Midway, behind-same, going}
use Rattle.recordings.proofs.Changes.{Changed, a_change, no_change, change-place}
use Rattle.recordings.proofs.Checking.{changes-none, changes-more}

abbrev into : List ℕ → List r.Change → List ℕ
into points l = changed l points

into_none : (points : List ℕ) → into points [] ≡ points
unfolding changed
into_none points = refl

into_more : (points : List ℕ) (q : r.Change) (l : List r.Change) → into points (q ∷ l) ≡ into (set points q.place q.value) l
unfolding changed
into_more points q l = refl

change-none : (points : List ℕ) (n least : ℕ) (s : List ℕ) → n ≤ 0 → kept (into points) (read_changes n least s) ≡ got points s
change-none = several-none read_change read_changes (λ q. suc q.place) into (λ p q. set p q.place q.value) changes-none changes-more into_none into_more

change-more : (points : List ℕ) (n least : ℕ) (s : List ℕ) → 0 < n → {q : r.Change} {rest : List ℕ} → read_change least s ≡ got q rest
    → kept (into points) (read_changes n least s) ≡ kept (into (set points q.place q.value)) (read_changes (n - 1) (suc q.place) rest)
change-more = several-more read_change read_changes (λ q. suc q.place) into (λ p q. set p q.place q.value) changes-none changes-more into_none into_more

change_lacks : (points : List ℕ) (n least : ℕ) (s : List ℕ) → 0 < n → {c : m.Refusal} → read_change least s ≡ fault c → kept (into points) (read_changes n least s) ≡ fault c
change_lacks = several-stops read_change read_changes (λ q. suc q.place) into (λ p q. set p q.place q.value) changes-none changes-more into_none into_more

-- what was judged has no fault
no-fault : {g : Read (List r.Change)} (points : List ℕ) (c : m.Refusal) → Readable g → kept (into points) g ≡ fault c → ⊥
no-fault points c h e = fault≢got c (into points h.changes) h.rest (sym e ∙ ap (kept (into points)) h.is)

-- ---- the loop along changes

pub record Taking (at : ℕ) (s points₀ : List ℕ) (count here done least : ℕ) (points : List ℕ) : Type 0 where
  pub midway : Midway at s here (kept (into points₀) (read_changes count 0 s)) (kept (into points) (read_changes (count - done) least (drop (here - at) s)))
  pub long : length points ≡ length points₀
  pub room : last_mark < length points
  pub readable : Readable (read_changes count 0 s)

module _ {at : ℕ} {s points₀ : List ℕ} {count here done least : ℕ} {points : List ℕ} (w : Taking at s points₀ count here done least points) where
  module _ {u : List ℕ} (i : u ≡ drop (here - at) s) where
    module _ (more : done < count) {x : Result (Change × Cursor) Refusal} (h : x ≡ read_at (here + length u) (kept coded (read_change least u))) where
      some : 0 < count - done
      some = omega arith

      pub taking_no_fault : {f : Refusal} {points' : List ℕ} {past : Cursor} → x ≡ Err f → Taken (read_changes count 0 s) points₀ at s points' past
      taking_no_fault {f} e =
          absurd (no-fault points₀ (refusal_of f) w.readable (w.midway.is ∙ rw (← i) (change_lacks points (count - done) least u some (no_change here u least h e))))

      pub taking-place : {q : Change} {past : Cursor} → x ≡ Ok (q, past) → q.place < length points
      taking-place e = let p = change-place here u least h e in let y = w.room in omega arith

      pub taking_on : {q : Change} {past : Cursor} → x ≡ Ok (q, past)
          → Taking at s points₀ count past.at (done + 1) (q.place + 1) (set points q.place q.value)
      taking_on {q} {past} e =
          let C : Changed here u least q past.at = a_change here u least h e in
          let b = behind-same w.midway i C.moved in
          let l : length (set points q.place q.value) ≡ length points = length-set points q.place q.value in
          let z : count - (done + 1) ≡ count - done - 1 = omega arith in
          record {
            midway = going w.midway i C.moved C.within (rw (← i, change-more points (count - done) least u some C.is, b, C.place_is, C.value-is, z, add-one q.place));
            long = l ∙ w.long;
            room = let y = w.room in omega arith;
            readable = w.readable;
          }

pub taking-end : {at : ℕ} {s points₀ : List ℕ} {count done least : ℕ} {points : List ℕ} {here : Cursor} → Taking at s points₀ count here.at done least points → count ≤ done
    → Taken (read_changes count 0 s) points₀ at s points here
taking-end {at} {s} {count = count} {done = done} {least = least} {points = points} {here = here} w h = record {
  moved = w.midway.moved;
  within = w.midway.within;
  is = w.midway.is ∙ change-none points (count - done) least (drop (here.at - at) s) (omega arith);
}

-- ---- one scan

module _ (at : ℕ) (s : List ℕ) {x : Result (ℕ × Cursor) Refusal} (h : x ≡ read_at (at + length s) (num s)) (w : Readable (read_scan s)) where
  pub scan_no_fault : {f : Refusal} {points points' : List ℕ} {past : Cursor} → x ≡ Err f → Taken (read_scan s) points at s points' past
  unfolding read_scan
  scan_no_fault {f} {points} e = absurd (no-fault points (refusal_of f) w (rw (refused read_shape (at + length s) (num s) h e)))

  module _ {n : ℕ} {past : Cursor} {u : List ℕ} (e : x ≡ Ok (n, past)) (i : u ≡ drop (past.at - at) s) where
    number_took : Took at s (num s) n past.at
    number_took = took read_shape h e (num_tail s)

    scan-is : read_scan s ≡ read_changes n 0 u
    unfolding read_scan
    scan-is = rw (number_took.is, ← i)

    pub scan-readable : Readable (read_changes n 0 u)
    scan-readable = record { changes = w.changes; rest = w.rest; is = sym scan-is ∙ w.is }

    pub scan-taken : {points points' : List ℕ} {y : Cursor} → Taken (read_changes n 0 u) points past.at u points' y → Taken (read_scan s) points at s points' y
    scan-taken {points} {points'} {y} t =
        let M : Midway at s past.at (read_scan s) (read_changes n 0 u) = record { moved = number_took.moved; within = number_took.within; is = scan-is } in
        let z = going M i t.moved t.within refl in
        record {
          moved = z.moved;
          within = z.within;
          is = ap (kept (into points)) scan-is ∙ t.is ∙ ap (got points') (behind-same M i t.moved);
        }
