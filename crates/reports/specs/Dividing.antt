-- What stands in the file, of where its reading stands: the bytes still to come say which answers are still to come.
use Rattle.std.specs.Prelude.{ℕ, ◌+◌, ◌≤◌, ◌<◌, ◌≡◌, Bool, true, false, List, ◌∷◌, ◌++◌, length, take}
use Rattle.std.proofs.Math.Option.{Option, none, some}
use Rattle.model.specs.Choice.{given}
use Rattle.model.specs.Reading.{Read, got, groups, num}
use Rattle.model.specs.Jobs.{Line}
use Rattle.numbers.specs.Limits.{most_image}
use Rattle.numbers.specs.Weights.{Weighed}
use Rattle.requests.specs.Report.{cut_off, single, answers_in}
use Rattle.reports.specs.declared.division.Reading.{Reading}
use Rattle.reports.specs.declared.division.Reading.TheVariants.{Between, Length, Image, Passing, Cut}

-- the answer to an image over 65,536 bytes
abbrev pub too_long_line : Line
too_long_line = record { code = 2; units = 0 }

-- the answer to an image that is cut off, and those behind it
abbrev pub answered : (List ℕ → Line) → Option (List ℕ × List ℕ) → Option (List Line)
answered answer o = given o (λ r. given (answers_in r.1) (λ l. some (answer r.0 ∷ l)))

-- the answers to the images that are not yet counted, where `room` holds the bytes that came of the first and `rest` is still to come; none
-- where the file is cut
unfoldable pub answers_from : Reading → List ℕ → List ℕ → Option (List Line)
unfolding answers_in cut_off groups single
answers_from Between room rest = answers_in rest
answers_from (Length left weight sum) room rest = answered single (cut_off (groups left weight sum rest))
answers_from (Image have left) room rest = answered (λ image. single (take have room ++ image)) (cut_off (got left rest))
answers_from (Passing left) room rest = answered (λ image. too_long_line) (cut_off (got left rest))
answers_from Cut room rest = none

-- a reading that may be there after a byte; an image may be whole
abbrev pub Reached : Reading → Type 0
Reached Between = Unit {0}
Reached (Length left weight sum) = Weighed left weight sum
Reached (Image have left) = have + left ≤ most_image
Reached (Passing left) = Unit {0}
Reached Cut = Unit {0}

-- a reading that waits for a byte: no image is whole
abbrev pub Waits : Reading → Type 0
Waits Between = Unit {0}
Waits (Length left weight sum) = Weighed left weight sum
Waits (Image have left) = (0 < left) × (have + left ≤ most_image)
Waits (Passing left) = 0 < left
Waits Cut = Unit {0}

-- what follows is an image, with the rest of its length before it, which `length` reads
pub record Comes (length : List ℕ → Read ℕ) (there : Reading) : Type 0 where
  pub reached : Reached there
  pub is : (room rest : List ℕ) → answered single (cut_off (length rest)) ≡ answers_from there room rest

-- behind the first group of a length, or one of the others
unfoldable pub FirstGroup : ℕ → Reading → Type 0
FirstGroup b there = Comes (λ rest. num (b ∷ rest)) there

unfoldable pub NextGroup : ℕ → ℕ → ℕ → ℕ → Reading → Type 0
NextGroup left weight sum b there = Comes (λ rest. groups left weight sum (b ∷ rest)) there

-- of a byte: the answers that are still to come stay the same
pub record Divides (here : Reading) (b : ℕ) (room : List ℕ) (there : Reading) (room' : List ℕ) : Type 0 where
  pub reached : Reached there
  pub same : length room' ≡ length room
  pub is : (rest : List ℕ) → answers_from here room (b ∷ rest) ≡ answers_from there room' rest

-- where a file may end
abbrev pub is_between : Reading → Bool
is_between Between = true
is_between (Length left weight sum) = false
is_between (Image have left) = false
is_between (Passing left) = false
is_between Cut = false
