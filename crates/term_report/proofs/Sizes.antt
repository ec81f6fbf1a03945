-- A file of up to 36,028,797,018,963,968 bytes (2 to the power of 55) is reported exactly: 64 bits hold its totals.
use mathlib.Core.Path.{◌≡◌, refl, sym, ap, ◌∙◌, subst}
use Prim.Native.Nat.{ℕ, zero, suc, ◌*◌, ◌≤◌}
use native.Mathlib.Omega.{arith}
use mathlib.Core.Bool.{Bool, true, false}
use mathlib.Core.Option.{Option, none, some}
use mathlib.Core.List.{List, [], ◌∷◌}
use lib.Dec.{leb}
use lib.ListN.{length, take, drop, length-drop}
use Rattle.model.specs.Choice.{when◌then◌else◌, given}
use Rattle.model.specs.Reading.{Read, got, fault, num}
use Rattle.model.specs.Jobs.{Line}
use Rattle.numbers.proofs.Tails.{Shrinks, shrinks_got, shrinks_fault, num_shrinks}
use Rattle.requests.specs.Report.{cut_off, and_then, first_of, images_of, answers_to, answers_in, units_of, report}
use Rattle.requests.proofs.Division.{one_image_at_a_time}
use Rattle.text.specs.Placing.{Placed}
use Rattle.reports.proofs.Exact.{Held, report-exact}
use Rattle.term_report.specs.Taking.{Reports}
use Rattle.term_report.proofs.Singles.{single-units}

-- ---- a file has no more images than bytes

none≢some : {A : Type 0} {a : A} → none ≡ some a → ⊥
none≢some e = let z : ◌≡◌ {A = ℕ} 0 1 = cc in omega arith

inside : {A : Type 0} {p q : A} → some p ≡ some q → p ≡ q
inside k = cc

-- there are at most n images, if any
abbrev AtMost : ℕ → Option (List (List ℕ)) → Type 0
AtMost n o = (x : List (List ℕ)) → o ≡ some x → length x ≤ n

one_more : (n : ℕ) (a : List ℕ) (o : Option (List (List ℕ))) → AtMost n o → AtMost (suc n) (given o (λ l. some (a ∷ l)))
one_more n a none h x e = absurd (none≢some e)
one_more n a (some y) h x e = let k = h y refl in let q : length (a ∷ y) ≡ length x = ap length (inside e) in omega arith

behind-few : (n k : ℕ) (rest : List ℕ) → length rest ≤ n → ((s : List ℕ) → length s ≤ n → AtMost n (images_of s)) → AtMost (suc n) (and_then images_of (cut_off (got k rest)))
unfolding cut_off
behind-few n k rest h f = by (leb k (length rest))
  where
    by : (t : Bool) → AtMost (suc n) (and_then images_of (when t then some (take k rest, drop k rest) else none))
    by true = one_more n (take k rest) (images_of (drop k rest)) (f (drop k rest) (let l = length-drop k rest in omega arith))
    by false = λ x e. absurd (none≢some e)

first-few : (n : ℕ) (s : List ℕ) (r : Read ℕ) → Shrinks s r → length s ≤ suc n → ((s : List ℕ) → length s ≤ n → AtMost n (images_of s)) → AtMost (suc n) (and_then images_of (cut_off r))
unfolding cut_off
first-few n s (got k rest) (shrinks_got l) h f = behind-few n k rest (omega arith) f
first-few n s (fault c) shrinks_fault h f = λ x e. absurd (none≢some e)

nothing-few : (n : ℕ) → AtMost n (images_of [])
unfolding first_of
nothing-few n x e = let q = ap length (inside (sym (one_image_at_a_time []) ∙ e)) in omega arith

some-few : (n b : ℕ) (s : List ℕ) → length s ≤ n → ((t : List ℕ) → length t ≤ n → AtMost n (images_of t)) → AtMost (suc n) (images_of (b ∷ s))
unfolding first_of
some-few n b s h f =
    subst (AtMost (suc n)) (sym (one_image_at_a_time (b ∷ s))) (first-few n (b ∷ s) (num (b ∷ s)) (num_shrinks (b ∷ s)) (omega arith) f)

images-few : (n : ℕ) (s : List ℕ) → length s ≤ n → AtMost n (images_of s)
images-few zero s h = by s h
  where
    by : (s : List ℕ) → length s ≤ 0 → AtMost 0 (images_of s)
    by [] h = nothing-few 0
    by (b ∷ s) h = absurd (omega arith)
images-few (suc n) s h = by s h (λ t k. images-few n t k)
  where
    by : (s : List ℕ) → length s ≤ suc n → ((t : List ℕ) → length t ≤ n → AtMost n (images_of t)) → AtMost (suc n) (images_of s)
    by [] h f = nothing-few (suc n)
    by (b ∷ s) h f = some-few n b s (omega arith) f

-- ---- and no answer takes more than the budget

units-few : (images : List (List ℕ)) → units_of (answers_to images) ≤ 400 * length images
unfolding answers_to units_of
units-few [] = omega arith
units-few (i ∷ l) = let h = units-few l in let k = single-units i in omega arith

as_many : (images : List (List ℕ)) → length (answers_to images) ≡ length images
unfolding answers_to
as_many [] = refl
as_many (i ∷ l) = ap suc (as_many l)

abbrev pub largest : ℕ
largest = 36028797018963968

answers_held : (images : List (List ℕ)) → length images ≤ largest → Held (answers_to images)
answers_held images h = let u = units-few images in let n = as_many images in record { units = omega arith; images = omega arith }

file-held : (file : List ℕ) → length file ≤ largest → (l : List Line) → answers_in file ≡ some l → Held l
unfolding answers_in
file-held file h l e = by (images_of file) (images-few (length file) file (omega arith)) e
  where
    by : (o : Option (List (List ℕ))) → AtMost (length file) o → given o (λ x. some (answers_to x)) ≡ some l → Held l
    by none f e = absurd (none≢some e)
    by (some x) f e = subst Held (inside e) (answers_held x (let k = f x refl in omega arith))

-- what is printed is document 02's report of the file
pub report-printed : {page page' : List ℕ} {n : ℕ} (r : Reports page page' n) → length r.file ≤ largest → Placed page 0 (report r.file) page' n
report-printed {page} {page'} {n} r h =
    subst (λ (b : List ℕ). Placed page 0 b page' n) (report-exact [] r.file (file-held r.file h)) r.is
