-- The driven points as the code lists them, and how long the lines of a recording are together.
use Prim.Native.Nat.{ℕ, zero, suc, ◌+◌, ◌≤◌, ◌<◌}
use mathlib.Core.Path.{◌≡◌, refl, ap, ◌∙◌, sym, subst}
use mathlib.Core.Bool.{Bool, true, false}
use mathlib.Core.List.{List, [], ◌∷◌}
use native.Mathlib.Omega.{arith}
use lib.Dec.{eqb}
use lib.ListN.{length, get_or, take, length-append}
use Rattle.model.specs.Choice.{when◌then◌else◌}
use Rattle.model.specs.Limits.{last_point}
use Rattle.model.specs.Objects.{point}
use Rattle.model.specs.Trees.{Tree, datum}
use Rattle.model.specs.Meanings.{is_among}
use Rattle.requests.specs.Panel.{driven}
use Rattle.requests.specs.Recording.{Change}
use Rattle.requests.specs.Scanning.{State, at_start, value_of, value_of_atom, scan, scans}
use Rattle.requests.specs.ScanJob.{shown, line_after, ascending, driven_places, lines_from, joined, text_of}
use Rattle.requests.proofs.Binary.{Binary, BinaryState, BinaryScans, value-binary, scans-binary}
use Rattle.text.proofs.Decimal.{one-digit}
use Rattle.bits.specs.Meeting.{points}
use Rattle.scan_lines.specs.Lines.{Marks, Lists, held, marked, marked_places, point_shown, line_of}
use Rattle.scan_lines.specs.Lengths.{number_length, places_length, fixed_length, lines_length}
use Rattle.scan_lines.proofs.Showing.{shown-first, point-long, line_long}

-- ---- the marks of the driven points

module _ {d marks : List ℕ} (m : Marks d marks) where
  marked-are : (c x : ℕ) → x + c ≤ points → marked c x marks ≡ ascending c x d
  unfolding marked ascending
  marked-are zero x h = refl
  marked-are (suc c) x h = go (is_among x d) (m.has x (omega arith)) (marked-are c (suc x) (omega arith))
    where
      go : (t : Bool) → get_or marks x 0 ≡ (when t then 1 else 0) → marked c (suc x) marks ≡ ascending c (suc x) d
          → (when eqb (get_or marks x 0) 0 then marked c (suc x) marks else x ∷ marked c (suc x) marks) ≡ (when t then x ∷ ascending c (suc x) d else ascending c (suc x) d)
      go true e q = rw (e, q)
      go false e q = rw (e, q)

  pub places_are : marked_places marks ≡ ascending points 0 d
  unfolding marked_places
  places_are = marked-are points 0 (omega arith)

module _ (t : Tree) {marks : List ℕ} (m : Marks (driven t) marks) where
  pub driven-are : marked_places marks ≡ driven_places t
  unfolding driven_places last_point
  driven-are = places_are m

  -- what is listed is what the definition's line shows
  pub listed-are : {places : List ℕ} {r : ℕ} → Lists marks places r → take r places ≡ driven_places t
  listed-are w = w.is ∙ driven-are

-- ---- how long

value-small : (s : State) → BinaryState s → (x : ℕ) → get_or s.points x 0 ≤ 1
unfolding value_of value_of_atom
value-small s h x = value-binary [] s h (datum (point x))

shown-long : (s : State) → BinaryState s → (l : List ℕ) → length (shown l s.points []) ≡ places_length l
unfolding shown places_length number_length
shown-long s h [] = refl
shown-long s h (x ∷ l) =
    let v = get_or s.points x 0 in
    let small : v < 10 = let q = value-small s h x in omega arith in
    let one = ap length (one-digit 9 v small) in
    let e = ap length (shown-first x l s.points []) in let a = length-append (point_shown x v) (shown l s.points []) in
    let p = point-long x v in let r = shown-long s h l in
    omega arith

pub line_length : (places : List ℕ) (k : ℕ) (s : State) → BinaryState s → length (line_after places k s) ≡ number_length k + suc (places_length places)
unfolding number_length
line_length places k s h = let e = line_long places k s in let p = shown-long s h places in omega arith

-- the same of the code's line, where each value is 0 or 1
pub line_of_length : (places : List ℕ) (k : ℕ) (values : List ℕ) → Binary values → length (line_of places k values) ≡ number_length k + suc (places_length places)
unfolding line_of
line_of_length places k values b = line_length places k (held values) (record { points = b; bits = tt })

module _ (t : Tree) where
  lines_length_lem : (r : List (List Change)) (k : ℕ) (s : State) → BinaryScans r → BinaryState s
      → length (joined (lines_from t k s r)) ≡ lines_length k (length r) (suc (places_length (driven_places t)))
  unfolding joined lines_from lines_length scans
  lines_length_lem [] k s b h = refl
  lines_length_lem (c ∷ r) k s b h =
      let next : BinaryState (scan t c s) = scans-binary t (c ∷ []) s (b.0, tt) h in
      let l = line_length (driven_places t) k (scan t c s) next in
      let others = lines_length_lem r (suc k) (scan t c s) b.1 next in
      let both = length-append (line_after (driven_places t) k (scan t c s)) (joined (lines_from t (suc k) (scan t c s) r)) in
      omega arith

  fixed_is : {marks : List ℕ} → Marks (driven t) marks → fixed_length marks ≡ suc (places_length (driven_places t))
  unfolding fixed_length
  fixed_is m = ap (λ (l : List ℕ). suc (places_length l)) (driven-are t m)

  -- the whole text is as long as the code says before any of it is written
  pub text-length : {marks : List ℕ} → Marks (driven t) marks → (r : List (List Change)) → BinaryScans r → BinaryState (at_start t)
      → length (text_of t r) ≡ lines_length 1 (length r) (fixed_length marks)
  unfolding text_of
  text-length {marks} m r b h =
      subst (λ (n : ℕ). length (joined (lines_from t 1 (at_start t) r)) ≡ lines_length 1 (length r) n) (sym (fixed_is m)) (lines_length_lem r 1 (at_start t) b h)
