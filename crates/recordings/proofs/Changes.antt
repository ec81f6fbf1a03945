-- One change read, by the tests that the code makes.
use Prim.Native.Nat.{ℕ, ◌+◌, ◌-◌, ◌≤◌, ◌<◌}
use mathlib.Core.Path.{◌≡◌, refl, ap}
use mathlib.Core.List.{List}
use native.Mathlib.Omega.{arith}
use lib.Dec.{leb}
use lib.ListN.{length, drop}
use Rattle.std.specs.Prelude.{Result, Ok, Err}
use borrow.Author.Tests.{le-leb, lt-leb}
use mir.Syntax.{w8}
use mir.Val.{Fits}
use Rattle.model.specs.Limits.{last_point}
use Rattle.model.specs.Refusals.{layout}
use Rattle.model.specs.Reading as m
use Rattle.model.specs.Reading.{got, fault, next, give, num_up_to}
use Rattle.refusals.specs.Refusing.{refusal_of}
use Rattle.refusals.specs.declared.Refusal.{Refusal}
use Rattle.refusals.specs.declared.Refusal.TheVariants.{Layout}
use Rattle.numbers.specs.declared.Cursor.{Cursor}
use Rattle.numbers.specs.Answers.{read_at, beside, kept}
use Rattle.numbers.proofs.Tails.{Tail, tail_give, tail_next, tail_need, up_to_tail}
use Rattle.numbers.proofs.Answering.{Took, took, refused, read_shape, goes, gives, refuses, stops, Kept, kept-got, kept-fault, kept_tail, kept_next, need-yes, need-no}
use Rattle.bits.specs.Meeting.{last_mark}
use Rattle.requests.specs.Recording as r
use Rattle.requests.specs.Recording.{read_place, read_change}
use Rattle.requests.proofs.Recordings.{change-fits}
use Rattle.recordings.specs.Changes.{coded, read_value}
use Rattle.recordings.specs.declared.Change.{Change}

-- ---- what is left is a tail

pub place_tail : (least : ℕ) (s : List ℕ) → Tail s (read_place least s)
unfolding read_place
place_tail least s = tail_next _ (up_to_tail layout last_point s) (λ x t. tail_next _ (tail_need layout (leb least x) t) (λ y u. tail_give x u))

pub change_tail : (least : ℕ) (s : List ℕ) → Tail s (read_change least s)
unfolding read_change
change_tail least s = tail_next _ (place_tail least s) (λ x t. tail_next _ (up_to_tail layout 1 t) (λ v u. tail_give (record { place = x; value = v }) u))

-- ---- the point

module _ (at : ℕ) (s : List ℕ) (least : ℕ) {r : Result (ℕ × Cursor) Refusal} (h : r ≡ read_at (at + length s) (num_up_to layout last_mark s)) where
  pub place-stops : {f : Refusal} → r ≡ Err f → Err f ≡ read_at (at + length s) (read_place least s)
  unfolding read_place last_point
  place-stops e = stops read_shape beside (at + length s) (num_up_to layout last_mark s) _ h e

  module _ {x : ℕ} {past : Cursor} (e : r ≡ Ok (x, past)) where
    pub place-low : x < least → Err Layout ≡ read_at (at + length s) (read_place least s)
    unfolding read_place last_point
    place-low l = refuses read_shape beside at (num_up_to layout last_mark s) _ h e (up_to_tail layout last_mark s) (λ u. need-no layout _ u (lt-leb least x l))

    pub place_read : least ≤ x → Ok (x, past) ≡ read_at (at + length s) (read_place least s)
    unfolding read_place last_point
    place_read l = gives read_shape beside at (num_up_to layout last_mark s) _ h e (up_to_tail layout last_mark s) (λ u. need-yes layout _ u (le-leb least x l))

-- ---- the value

module _ (at : ℕ) (s : List ℕ) (x : ℕ) {r : Result (ℕ × Cursor) Refusal} (h : r ≡ read_at (at + length s) (num_up_to layout 1 s)) where
  pub value-stops : {f : Refusal} → r ≡ Err f → Err f ≡ read_at (at + length s) (read_value x s)
  unfolding read_value
  value-stops e = stops read_shape beside (at + length s) (num_up_to layout 1 s) _ h e

  pub value_read : {v : ℕ} {past : Cursor} → r ≡ Ok (v, past) → Ok (record { place = x; value = v }, past) ≡ read_at (at + length s) (read_value x s)
  unfolding read_value
  value_read e = gives read_shape beside at (num_up_to layout 1 s) _ h e (up_to_tail layout 1 s) (λ u. refl)

-- ---- both

value-coded : (x : ℕ) (s : List ℕ) → kept coded (next (num_up_to layout 1 s) (λ v. give (record { place = x; value = v }))) ≡ read_value x s
unfolding read_value
value-coded x s = kept_next coded (num_up_to layout 1 s) _

coded-change : (least : ℕ) (s : List ℕ) → kept coded (read_change least s) ≡ next (read_place least s) read_value
unfolding read_change
coded-change least s = go (read_place least s)
  where
    go : (g : m.Read ℕ) → kept coded (next g (λ x t. next (num_up_to layout 1 t) (λ v. give (record { place = x; value = v })))) ≡ next g read_value
    go (got x t) = value-coded x t
    go (fault c) = refl

module _ (at : ℕ) (s : List ℕ) (least : ℕ) {r : Result (ℕ × Cursor) Refusal} (h : r ≡ read_at (at + length s) (read_place least s)) where
  pub change-stops : {f : Refusal} → r ≡ Err f → Err f ≡ read_at (at + length s) (kept coded (read_change least s))
  change-stops e = rw (coded-change least s) (stops read_shape beside (at + length s) (read_place least s) read_value h e)

  pub change-goes : {x : ℕ} {past : Cursor} {u : List ℕ} {y : Result (Change × Cursor) Refusal} → r ≡ Ok (x, past) → u ≡ drop (past.at - at) s → y ≡ read_at (past.at + length u) (read_value x u)
      → y ≡ read_at (at + length s) (kept coded (read_change least s))
  change-goes e i a = rw (coded-change least s) (goes read_shape beside at (read_place least s) read_value h e (place_tail least s) i a)

-- ---- what a caller knows of it

-- what the definition read is the code's change q, and behind it comes what lies at `past`
pub record Changed (at : ℕ) (s : List ℕ) (least : ℕ) (q : Change) (past : ℕ) : Type 0 where
  pub moved : at ≤ past
  pub within : past ≤ at + length s
  pub change : r.Change
  pub is : read_change least s ≡ got change (drop (past - at) s)
  pub place_is : change.place ≡ q.place
  pub value-is : change.value ≡ q.value

module _ (at : ℕ) (s : List ℕ) (least : ℕ) {x : Result (Change × Cursor) Refusal} (h : x ≡ read_at (at + length s) (kept coded (read_change least s))) where
  pub no_change : {f : Refusal} → x ≡ Err f → read_change least s ≡ fault (refusal_of f)
  no_change {f} e = kept-fault coded (read_change least s) (refusal_of f) (refused read_shape (at + length s) (kept coded (read_change least s)) h e)

  module _ {q : Change} {past : Cursor} (e : x ≡ Ok (q, past)) where
    pub a_change : Changed at s least q past.at
    a_change =
        let T : Took at s (kept coded (read_change least s)) q past.at = took read_shape h e (kept_tail coded (change_tail least s)) in
        let K : Kept coded (read_change least s) q (drop (past.at - at) s) = kept-got coded (read_change least s) q (drop (past.at - at) s) T.is in
        record {
          moved = T.moved;
          within = T.within;
          change = K.value;
          is = K.is;
          place_is = ap (λ (c : Change). c.place) K.value-is;
          value-is = ap (λ (c : Change). c.value) K.value-is;
        }

    pub change-place : q.place ≤ last_mark
    unfolding last_point
    change-place =
        let C = a_change in
        let p : C.change.place ≤ last_mark = (change-fits least s (drop (past.at - at) s) C.change C.is).0 in
        omega (arith, C.place_is)

    pub change-room : q.place + 1 < 4294967296
    change-room = let p = change-place in omega arith

    change-small : q.value ≤ 1
    change-small =
        let C = a_change in
        let p : C.change.value ≤ 1 = (change-fits least s (drop (past.at - at) s) C.change C.is).1 in
        omega (arith, C.value-is)

    pub change-byte : Fits w8 q.value
    change-byte = let p = change-small in record { fits = omega arith }
