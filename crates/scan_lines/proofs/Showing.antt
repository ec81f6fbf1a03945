-- The parts of a line placed one behind another, in one loop over the listed points.
use Prim.Native.Nat.{ℕ, suc, ◌+◌, ◌≤◌, ◌<◌}
use mathlib.Core.Path.{◌≡◌, refl, ap, ◌∙◌, sym, subst}
use mathlib.Core.List.{List, [], ◌∷◌, ◌++◌, append_assoc}
use native.Mathlib.Omega.{arith}
use native.Mathlib.Numerals.{add-one}
use lib.ListN.{length, get_or, drop, length-append, drop_of_length-le}
use lib.Seq.{drop-cons}
use mir.Syntax.{w32, w64}
use mir.Val.{Fits}
use Rattle.model.specs.Jobs.{digits}
use Rattle.requests.specs.Scanning.{State}
use Rattle.requests.specs.ScanJob.{shown, line_after}
use Rattle.text.specs.Placing.{Placed}
use Rattle.text.proofs.Placing.{placed_then, placed-length, renamed, Placing, begun, ended, placing_more}
use Rattle.text.proofs.Decimal.{digits-before}
use Rattle.bits.specs.Meeting.{points}
use Rattle.scan_lines.specs.Lines.{Points, held, point_shown, line_of}

-- ---- digits, points and the line end, one behind another

digits_then : (k n : ℕ) (after rest : List ℕ) → digits k n (after ++ rest) ≡ digits k n after ++ rest
digits_then k n after rest =
    digits-before k n (after ++ rest)
    ∙ sym (append_assoc (digits k n []) after rest)
    ∙ ap (λ (l : List ℕ). l ++ rest) (sym (digits-before k n after))

pub point-is : (x v : ℕ) → point_shown x v ≡ (32 ∷ 64 ∷ []) ++ (digits 10 x [] ++ ((61 ∷ []) ++ digits 10 v []))
unfolding point_shown
point-is x v = ap (λ (l : List ℕ). 32 ∷ 64 ∷ l) (digits-before 10 x (61 ∷ digits 10 v []))

pub shown-first : (x : ℕ) (l values after : List ℕ) → shown (x ∷ l) values after ≡ point_shown x (get_or values x 0) ++ shown l values after
unfolding shown point_shown
shown-first x l values after =
    ap (λ (z : List ℕ). 32 ∷ 64 ∷ digits 10 x (61 ∷ z)) (digits-before 10 (get_or values x 0) (shown l values after))
    ∙ ap (λ (z : List ℕ). 32 ∷ 64 ∷ z) (digits_then 10 x (61 ∷ digits 10 (get_or values x 0) []) (shown l values after))

pub shown-before : (l values after : List ℕ) → shown l values after ≡ shown l values [] ++ after
unfolding shown
shown-before [] values after = refl
shown-before (x ∷ l) values after =
    shown-first x l values after
    ∙ ap (λ (z : List ℕ). point_shown x (get_or values x 0) ++ z) (shown-before l values after)
    ∙ sym (append_assoc (point_shown x (get_or values x 0)) (shown l values []) after)
    ∙ ap (λ (z : List ℕ). z ++ after) (sym (shown-first x l values []))

pub line_is_lem : (places : List ℕ) (k : ℕ) (s : State) → line_after places k s ≡ digits 10 k [] ++ (shown places s.points [] ++ (10 ∷ []))
unfolding line_after
line_is_lem places k s =
    digits-before 10 k (shown places s.points (10 ∷ []))
    ∙ ap (λ (z : List ℕ). digits 10 k [] ++ z) (shown-before places s.points (10 ∷ []))

pub point-long : (x v : ℕ) → length (point_shown x v) ≡ 2 + (length (digits 10 x []) + (1 + length (digits 10 v [])))
point-long x v =
    let e = ap length (point-is x v) in let l = length-append (digits 10 x []) ((61 ∷ []) ++ digits 10 v []) in
    omega arith

pub line_long : (places : List ℕ) (k : ℕ) (s : State) → length (line_after places k s) ≡ length (digits 10 k []) + (length (shown places s.points []) + 1)
line_long places k s =
    ap length (line_is_lem places k s)
    ∙ length-append (digits 10 k []) (shown places s.points [] ++ (10 ∷ []))
    ∙ ap (λ (n : ℕ). length (digits 10 k []) + n) (length-append (shown places s.points []) (10 ∷ []))

-- ---- one point

module _ (x v at : ℕ) (out : List ℕ) (r : at + length (point_shown x v) ≤ length out) where
  pub sign_room : at + 2 ≤ length out
  sign_room = let l = point-long x v in omega arith

  module _ {o₁ : List ℕ} {p : ℕ} (a : Placed out at (32 ∷ 64 ∷ []) o₁ p) where
    pub place-room : p + length (digits 10 x []) ≤ length o₁
    place-room = let l = point-long x v in let e = a.ends in let s = placed-length a in omega arith

    module _ {o₂ : List ℕ} {q : ℕ} (b : Placed o₁ p (digits 10 x []) o₂ q) where
      pub equals_room : q + 1 ≤ length o₂
      equals_room =
          let l = point-long x v in let e = a.ends in let s = placed-length a in let f = b.ends in let t = placed-length b in
          omega arith

      module _ {o₃ : List ℕ} {u : ℕ} (c : Placed o₂ q (61 ∷ []) o₃ u) where
        pub value_room : u + length (digits 10 v []) ≤ length o₃
        value_room =
            let l = point-long x v in let e = a.ends in let s = placed-length a in let f = b.ends in let t = placed-length b in
            let g = c.ends in let w = placed-length c in
            omega arith

        pub point-placed : {o₄ : List ℕ} {z : ℕ} → Placed o₃ u (digits 10 v []) o₄ z → Placed out at (point_shown x v) o₄ z
        point-placed d = renamed (sym (point-is x v)) (placed_then a (placed_then b (placed_then c d)))

pub ruleset point_laws = (sign_room, place-room, equals_room, value_room, point-placed, placed-length)

-- ---- all points

-- where the first i of them are placed
pub record Showing (out₀ : List ℕ) (at : ℕ) (places values out : List ℕ) (to i : ℕ) : Type 0 where
  pub placing : Placing out₀ at (shown places values []) out to (shown (drop i places) values [])

pub showing_begun : {out places values : List ℕ} {at : ℕ} → Showing out at places values out at 0
showing_begun = record { placing = begun }

module _ {places : List ℕ} (p : Points places) (i : ℕ) where
  pub place-wide : Fits w64 (get_or places i 0)
  place-wide = let b = p.below i in omega arith

  pub place-fits : Fits w32 (get_or places i 0)
  place-fits = let b = p.below i in omega arith

  pub place-valued : (values : List ℕ) → points ≤ length values → get_or places i 0 < length values
  place-valued values h = let b = p.below i in omega arith

module _ {out₀ : List ℕ} {at : ℕ} {places values out : List ℕ} {to i : ℕ} (w : Showing out₀ at places values out to i) where
  here : i < length places → Placing out₀ at (shown places values []) out to (point_shown (get_or places i 0) (get_or values (get_or places i 0) 0) ++ shown (drop (suc i) places) values [])
  here h =
      subst (λ (l : List ℕ). Placing out₀ at (shown places values []) out to l)
      (ap (λ (l : List ℕ). shown l values []) (drop-cons places i 0 h) ∙ shown-first (get_or places i 0) (drop (suc i) places) values [])
      w.placing

  pub point-room : at + length (shown places values []) ≤ length out₀ → i < length places
      → to + length (point_shown (get_or places i 0) (get_or values (get_or places i 0) 0)) ≤ length out
  point-room r h =
      let p = here h in let s = p.same in let e = p.ends in
      let l = length-append (point_shown (get_or places i 0) (get_or values (get_or places i 0) 0)) (shown (drop (suc i) places) values []) in
      omega arith

  pub showing_more : {out' : List ℕ} {p : ℕ} → i < length places → Placed out to (point_shown (get_or places i 0) (get_or values (get_or places i 0) 0)) out' p
      → Showing out₀ at places values out' p (i + 1)
  showing_more h a = rw (add-one i) (record { placing = placing_more (here h) a })

  pub showing_ended : length places ≤ i → Placed out₀ at (shown places values []) out to
  unfolding shown
  showing_ended h =
      ended (subst (λ (l : List ℕ). Placing out₀ at (shown places values []) out to (shown l values [])) (drop_of_length-le places h) w.placing)

pub ruleset showing_laws = (showing_begun, place-wide, place-fits, place-valued, point-room, showing_more, showing_ended, placed-length)

-- ---- the line

module _ (places : List ℕ) (k : ℕ) (values : List ℕ) (at : ℕ) (out : List ℕ) (r : at + length (line_of places k values) ≤ length out) where
  of_line : length (line_of places k values) ≡ length (digits 10 k []) + (length (shown places values []) + 1)
  unfolding line_of
  of_line = line_long places k (held values)

  pub number-room : at + length (digits 10 k []) ≤ length out
  number-room = let l = of_line in omega arith

  module _ {o₁ : List ℕ} {p : ℕ} (a : Placed out at (digits 10 k []) o₁ p) where
    pub points-room : p + length (shown places values []) ≤ length o₁
    points-room = let l = of_line in let e = a.ends in let s = placed-length a in omega arith

    module _ {o₂ : List ℕ} {q : ℕ} (b : Placed o₁ p (shown places values []) o₂ q) where
      pub end-room : q + 1 ≤ length o₂
      end-room =
          let l = of_line in let e = a.ends in let s = placed-length a in let f = b.ends in let t = placed-length b in
          omega arith

      pub line_placed : {o₃ : List ℕ} {u : ℕ} → Placed o₂ q (10 ∷ []) o₃ u → Placed out at (line_of places k values) o₃ u
      unfolding line_of
      line_placed c = renamed (sym (line_is_lem places k (held values))) (placed_then a (placed_then b c))

pub ruleset line_laws = (number-room, points-room, end-room, line_placed, placed-length)
