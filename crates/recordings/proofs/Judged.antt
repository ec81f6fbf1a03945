-- A recording judged: one law for each way out.
use Prim.Native.Nat.{ℕ, ◌+◌, ◌-◌, ◌≤◌, ◌<◌}
use mathlib.Core.Path.{◌≡◌, refl, ◌∙◌}
use mathlib.Core.Bool.{Bool, true, false}
use mathlib.Core.List.{List, [], ◌∷◌}
use native.Mathlib.Omega.{arith}
use lib.ListN.{length, drop, length-drop}
use Rattle.std.specs.Prelude.{Result, Ok, Err}
use borrow.Author.Tests.{le-leb, lt-leb}
use Rattle.model.specs.Refusals.{layout}
use Rattle.model.specs.Reading.{got, fault, num, at_end}
use Rattle.refusals.specs.Refusing.{refusal_of}
use Rattle.refusals.specs.declared.Refusal.{Refusal}
use Rattle.numbers.specs.declared.Cursor.{Cursor}
use Rattle.numbers.specs.Answers.{read_at, kept}
use Rattle.numbers.specs.Limits.{most_image}
use Rattle.numbers.proofs.Tails.{num_tail}
use Rattle.numbers.proofs.Answering.{Took, took, refused, read_shape, Kept, kept-got, kept-fault, kept_tail}
use Rattle.requests.specs.Recording as r
use Rattle.requests.specs.Recording.{read_scans, read_to_end}
use Rattle.recordings.specs.Judging.{Judged, any_marked, judged_all, judged_count, judged_of}
use Rattle.recordings.specs.declared.RecordingRefusal.TheVariants.{Broken, Driven}
use Rattle.recordings.proofs.Checking.{scans_tail}

-- ---- behind the count of scans

at-end : (s : List ℕ) → length s ≤ 0 → at_end s ≡ got tt []
unfolding at_end
at-end [] h = refl
at-end (b ∷ s) h = absurd (omega arith)

not_at_end : (s : List ℕ) → 0 < length s → at_end s ≡ fault layout
unfolding at_end
not_at_end [] h = absurd (omega arith)
not_at_end (b ∷ s) h = refl

module _ (n : ℕ) (s : List ℕ) where
  to_end : {l : List (List r.Change)} {rest : List ℕ} → read_scans n s ≡ got l rest → length rest ≤ 0 → read_to_end n s ≡ got l []
  unfolding read_to_end
  to_end {rest = rest} e h = rw (e, at-end rest h)

  not_to_end : {l : List (List r.Change)} {rest : List ℕ} → read_scans n s ≡ got l rest → 0 < length rest → read_to_end n s ≡ fault layout
  unfolding read_to_end
  not_to_end {rest = rest} e h = rw (e, not_at_end rest h)

module _ (marks : List ℕ) (n : ℕ) (c : Cursor) (s : List ℕ) {x : Result (Bool × Cursor) Refusal} (h : x ≡ read_at (c.at + length s) (kept (any_marked marks) (read_scans n s))) where
  pub judged-fault : {f : Refusal} → x ≡ Err f → Err Broken ≡ judged_all marks n c (read_to_end n s)
  unfolding judged_all read_to_end
  judged-fault {f} e = rw (kept-fault (any_marked marks) (read_scans n s) (refusal_of f) (refused read_shape (c.at + length s) (kept (any_marked marks) (read_scans n s)) h e))

  module _ {d : Bool} {past : Cursor} (e : x ≡ Ok (d, past)) where
    whole : Took c.at s (kept (any_marked marks) (read_scans n s)) d past.at
    whole = took read_shape h e (kept_tail (any_marked marks) (scans_tail n s))

    all : Kept (any_marked marks) (read_scans n s) d (drop (past.at - c.at) s)
    all = kept-got (any_marked marks) (read_scans n s) d (drop (past.at - c.at) s) whole.is

    pub judged-longer : past.at < c.at + length s → Err Broken ≡ judged_all marks n c (read_to_end n s)
    unfolding judged_all
    judged-longer l =
        let z : 0 < length (drop (past.at - c.at) s) = let y = length-drop (past.at - c.at) s in omega (arith, whole.moved, whole.within) in
        rw (not_to_end n s all.is z)

    module _ (l : c.at + length s ≤ past.at) where
      ended : read_to_end n s ≡ got all.value []
      ended = let z : length (drop (past.at - c.at) s) ≤ 0 = let y = length-drop (past.at - c.at) s in omega (arith, whole.moved, whole.within) in to_end n s all.is z

      pub judged-driven : d ≡ true → Err Driven ≡ judged_all marks n c (read_to_end n s)
      unfolding judged_all
      judged-driven q = rw (ended, all.value-is ∙ q)

      pub judged-kept : d ≡ false → Ok (n, c) ≡ judged_all marks n c (read_to_end n s)
      unfolding judged_all
      judged-kept q = rw (ended, all.value-is ∙ q)

-- ---- the whole

pub judged-long : (marks s : List ℕ) → most_image < length s → Err Broken ≡ judged_of marks s
unfolding judged_of
judged-long marks s l = rw (lt-leb (length s) most_image l)

module _ (marks s : List ℕ) (l : length s ≤ most_image) {x : Result (ℕ × Cursor) Refusal} (h : x ≡ read_at (0 + length s) (num s)) where
  pub judged-nothing : {f : Refusal} → x ≡ Err f → Err Broken ≡ judged_of marks s
  unfolding judged_of judged_count
  judged-nothing e = rw (le-leb (length s) most_image l, refused read_shape (0 + length s) (num s) h e)

  pub judged-count : {n : ℕ} {past : Cursor} {u : List ℕ} {y : Judged} → x ≡ Ok (n, past) → u ≡ drop (past.at - 0) s → y ≡ judged_all marks n past (read_to_end n u) → y ≡ judged_of marks s
  unfolding judged_of judged_count
  judged-count {n} {past} {u} e i a =
      let T : Took 0 s (num s) n past.at = took read_shape h e (num_tail s) in
      let p : length s - length (drop (past.at - 0) s) ≡ past.at = let y = T.ends in omega (arith, T.within) in
      rw (le-leb (length s) most_image l, T.is, p, ← i) a
