-- From the first byte to the last: the totals of the whole file stay the same while it is read, and at its end they are there.
use mathlib.Core.Path.{◌≡◌, refl, ap}
use Prim.Native.Nat.{ℕ, zero, suc, ◌<◌}
use native.Mathlib.Omega.{arith}
use mathlib.Core.Option.{Option, none, some}
use mathlib.Core.List.{List, [], ◌∷◌, append-nil}
use lib.ListN.{length, take}
use borrow.Author.Tests.{le-leb, lt-leb}
use Rattle.model.specs.Choice.{given}
use Rattle.model.specs.Reading.{got, byte, groups}
use Rattle.model.specs.Jobs.{Line}
use Rattle.requests.specs.Report.{cut_off, first_of, single, answers_to, answers_in}
use Rattle.requests.proofs.Division.{one_image_at_a_time}
use Rattle.reports.specs.declared.division.Reading.{Reading}
use Rattle.reports.specs.declared.division.Reading.TheVariants.{Between, Length, Image, Passing, Cut}
use Rattle.reports.specs.Dividing.{too_long_line, answers_from, Waits, Divides}
use Rattle.reports.specs.Totals.{Totals, counted, counted_all, totals_from, ended}

-- ---- the end of the file

nothing_in : answers_in [] ≡ some []
unfolding answers_in answers_to first_of
nothing_in = ap (λ (o : Option (List (List ℕ))). given o (λ l. some (answers_to l))) (one_image_at_a_time [])

groups-cut : (left w n : ℕ) → cut_off (groups left w n []) ≡ none
unfolding cut_off groups byte
groups-cut zero w n = refl
groups-cut (suc k) w n = refl

image-cut : (left : ℕ) → 0 < left → cut_off (got left []) ≡ none
unfolding cut_off
image-cut left h = rw (lt-leb left 0 h)

pub totals_ended : (here : Reading) (room : List ℕ) (t : Totals) → Waits here → totals_from here room t [] ≡ ended here t
unfolding totals_from answers_from ended counted_all
totals_ended Between room t h = ap (λ (o : Option (List Line)). given o (λ l. some (counted_all l t))) nothing_in
totals_ended (Length left w n) room t h = rw (groups-cut left w n)
totals_ended (Image have left) room t h = rw (image-cut left h.0)
totals_ended (Passing left) room t h = rw (image-cut left h)
totals_ended Cut room t h = refl

-- ---- an image is whole

whole-cut : (rest : List ℕ) → cut_off (got 0 rest) ≡ some ([], rest)
unfolding cut_off
whole-cut rest = rw (le-leb 0 (length rest) (omega arith))

one-counted : (o : Option (List Line)) (a : Line) (t : Totals) → given (given o (λ l. some (a ∷ l))) (λ l. some (counted_all l t)) ≡ given o (λ l. some (counted_all l (counted a t)))
unfolding counted_all
one-counted none a t = refl
one-counted (some l) a t = refl

pub image-counted : (have : ℕ) (room room' : List ℕ) (t : Totals) (rest : List ℕ)
    → totals_from (Image have 0) room t rest ≡ totals_from Between room' (counted (single (take have room)) t) rest
unfolding totals_from answers_from
image-counted have room room' t rest = rw (whole-cut rest, append-nil (take have room)) (one-counted (answers_in rest) (single (take have room)) t)

pub passed_counted : (room room' : List ℕ) (t : Totals) (rest : List ℕ) → totals_from (Passing 0) room t rest ≡ totals_from Between room' (counted too_long_line t) rest
unfolding totals_from answers_from
passed_counted room room' t rest = rw (whole-cut rest) (one-counted (answers_in rest) too_long_line t)

-- ---- a byte is taken

pub byte-taken : {here there : Reading} {b : ℕ} {room room' : List ℕ} (t : Totals) (rest : List ℕ) → Divides here b room there room'
    → totals_from here room t (b ∷ rest) ≡ totals_from there room' t rest
unfolding totals_from
byte-taken t rest d = ap (λ (o : Option (List Line)). given o (λ l. some (counted_all l t))) (d.is rest)
