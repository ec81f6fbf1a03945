-- A thing read, by the tests that the code makes.
use Prim.Native.Nat.{ℕ, ◌+◌, ◌-◌}
use mathlib.Core.Path.{◌≡◌, refl}
use mathlib.Core.List.{List}
use lib.Dec.{eqb}
use lib.ListN.{length, drop}
use borrow.Author.Tests.{eq-eqb, ne_eqb}
use Rattle.model.specs.Choice.{when◌then◌else◌}
use Rattle.model.specs.Limits.{most_nesting}
use Rattle.model.specs.Reading.{num}
use Rattle.refusals.specs.declared.Refusal.{Refusal}
use Rattle.numbers.specs.declared.Cursor.{Cursor}
use Rattle.numbers.specs.Answers.{beside, read_at}
use Rattle.std.specs.Prelude.{Result, Ok, Err}
use Rattle.numbers.proofs.Tails.{Tail, tail_give, tail_next, tail_if, num_tail, Shrinks, shrinks_next, num_shrinks}
use Rattle.numbers.proofs.Answering.{read_shape, goes, gives, stops}
use Rattle.head.specs.declared.Counts.{Counts}
use Rattle.roots.specs.MeasuredObjects.{measure_stx}
use Rattle.roots.proofs.ObjectSizes.{object_tail}
use Rattle.places.specs.Reading.{thing, read_content, read_held, read_atom, read_object, read_behind, read_thing}
use Rattle.places.specs.declared.Thing.{Thing}

-- ---- what is left is a tail

content_tail : (tag : ℕ) (s : List ℕ) → Tail s (read_content tag s)
unfolding read_content
content_tail tag s = tail_next _ (num_tail s) (λ x t. tail_give (thing tag x) t)

held_tail : (s : List ℕ) → Tail s (read_held s)
unfolding read_held
held_tail s = tail_next _ (num_tail s) (λ x t. tail_give (thing 3 0) t)

atom_tail : (s : List ℕ) → Tail s (read_atom s)
unfolding read_atom
atom_tail s = tail_next _ (num_tail s) (λ k t. held_tail t)

passed_tail : (k : Counts) (s : List ℕ) → Tail s (read_object k s)
unfolding read_object most_nesting
passed_tail k s = tail_next _ (object_tail k.symbols k.scopes 64 s) (λ n t. tail_give (thing 5 0) t)

behind_tail : (k : Counts) (tag : ℕ) (s : List ℕ) → Tail s (read_behind k tag s)
unfolding read_behind
behind_tail k tag s =
    tail_if (eqb tag 3) read_atom (when eqb tag 5 then read_object k else read_content tag) (atom_tail s)
    (tail_if (eqb tag 5) (read_object k) (read_content tag) (passed_tail k s) (content_tail tag s))

pub thing_tail : (k : Counts) (s : List ℕ) → Tail s (read_thing k s)
unfolding read_thing
thing_tail k s = tail_next _ (num_tail s) (behind_tail k)

pub thing_shrinks : (k : Counts) (s : List ℕ) → Shrinks s (read_thing k s)
unfolding read_thing
thing_shrinks k s = shrinks_next _ (num_shrinks s) (behind_tail k)

-- ---- one law for each way out

module _ (at : ℕ) (s : List ℕ) {r : Result (ℕ × Cursor) Refusal} (h : r ≡ read_at (at + length s) (num s)) where
  pub content-stops : (tag : ℕ) {f : Refusal} → r ≡ Err f → Err f ≡ read_at (at + length s) (read_content tag s)
  unfolding read_content
  content-stops tag e = stops read_shape beside (at + length s) (num s) _ h e

  pub content-read : (tag : ℕ) {x : ℕ} {past : Cursor} → r ≡ Ok (x, past) → Ok (record { tag = tag; content = x }, past) ≡ read_at (at + length s) (read_content tag s)
  unfolding read_content
  content-read tag e = gives read_shape beside at (num s) _ h e (num_tail s) (λ u. refl)

  pub atom-stops : {f : Refusal} → r ≡ Err f → Err f ≡ read_at (at + length s) (read_atom s)
  unfolding read_atom
  atom-stops e = stops read_shape beside (at + length s) (num s) _ h e

  module _ {k : ℕ} {past : Cursor} {u : List ℕ} {x : Result (ℕ × Cursor) Refusal} (e : r ≡ Ok (k, past)) (i : u ≡ drop (past.at - at) s) (a : x ≡ read_at (past.at + length u) (num u)) where
    pub held-stops : {f : Refusal} → x ≡ Err f → Err f ≡ read_at (at + length s) (read_atom s)
    unfolding read_atom read_held
    held-stops q = goes read_shape beside at (num s) _ h e (num_tail s) i (stops read_shape beside (past.at + length u) (num u) _ a q)

    pub held-read : {v : ℕ} {end : Cursor} → x ≡ Ok (v, end) → Ok (record { tag = 3; content = 0 }, end) ≡ read_at (at + length s) (read_atom s)
    unfolding read_atom read_held
    held-read q = goes read_shape beside at (num s) _ h e (num_tail s) i (gives read_shape beside past.at (num u) _ a q (num_tail u) (λ z. refl))

  pub thing-stops : (k : Counts) {f : Refusal} → r ≡ Err f → Err f ≡ read_at (at + length s) (read_thing k s)
  unfolding read_thing
  thing-stops k e = stops read_shape beside (at + length s) (num s) _ h e

  module _ (k : Counts) {t : ℕ} {past : Cursor} {u : List ℕ} {x : Result (Thing × Cursor) Refusal} (e : r ≡ Ok (t, past)) (i : u ≡ drop (past.at - at) s) where
    pub thing-atom : t ≡ 3 → x ≡ read_at (past.at + length u) (read_atom u) → x ≡ read_at (at + length s) (read_thing k s)
    unfolding read_thing read_behind
    thing-atom q a = goes read_shape beside at (num s) _ h e (num_tail s) i (rw (eq-eqb t 3 q) a)

    pub thing-object : (t ≡ 3 → ⊥) → t ≡ 5 → x ≡ read_at (past.at + length u) (read_object k u) → x ≡ read_at (at + length s) (read_thing k s)
    unfolding read_thing read_behind
    thing-object n q a = goes read_shape beside at (num s) _ h e (num_tail s) i (rw (ne_eqb t 3 n, eq-eqb t 5 q) a)

    pub thing-other : (t ≡ 3 → ⊥) → (t ≡ 5 → ⊥) → x ≡ read_at (past.at + length u) (read_content t u) → x ≡ read_at (at + length s) (read_thing k s)
    unfolding read_thing read_behind
    thing-other n q a = goes read_shape beside at (num s) _ h e (num_tail s) i (rw (ne_eqb t 3 n, ne_eqb t 5 q) a)

module _ (at : ℕ) (s : List ℕ) (k : Counts) {r : Result (ℕ × Cursor) Refusal} (h : r ≡ read_at (at + length s) (measure_stx k.symbols k.scopes 64 s)) where
  pub object-stops : {f : Refusal} → r ≡ Err f → Err f ≡ read_at (at + length s) (read_object k s)
  unfolding read_object most_nesting
  object-stops e = stops read_shape beside (at + length s) (measure_stx k.symbols k.scopes 64 s) _ h e

  pub object-read : {n : ℕ} {past : Cursor} → r ≡ Ok (n, past) → Ok (record { tag = 5; content = 0 }, past) ≡ read_at (at + length s) (read_object k s)
  unfolding read_object most_nesting
  object-read e = gives read_shape beside at (measure_stx k.symbols k.scopes 64 s) _ h e (object_tail k.symbols k.scopes 64 s) (λ u. refl)
