-- Bytes of the file taken: the totals of the whole file stay the same.
use Rattle.std.specs.Prelude.{ℕ, ◌≤◌, ◌≡◌, List, [], ◌++◌, length}
use Rattle.numbers.specs.Limits.{most_image}
use Rattle.text.specs.Placing.{Placed}
use Rattle.reports.specs.declared.division.Reading.{Reading}
use Rattle.reports.specs.declared.division.Reading.TheVariants.{Between, Cut}
use Rattle.reports.specs.declared.totals.Sums.{Sums}
use Rattle.reports.specs.Dividing.{Waits}
use Rattle.reports.specs.Totals.{codes, Totals, totals_of, no_totals, totals_from, reported}
use Rattle.term_report.specs.declared.taking.Taken.{Taken}
use Rattle.term_report.specs.Singles.{Lent}

-- what is lent: a room for an image, and a count for each code; and the job's
pub record Room (room counts table out : List ℕ) : Type 0 where
  pub image : most_image ≤ length room
  pub all : codes ≤ length counts
  pub lent : Lent table out

-- a whole image is counted
pub record Settles (here : Reading) (room : List ℕ) (t : Totals) (there : Taken) (counts : List ℕ) : Type 0 where
  pub waits : Waits there.reading
  pub is : (rest : List ℕ) → totals_from here room t rest ≡ totals_from there.reading room (totals_of there.sums counts) rest

-- these bytes are taken
pub record Takes (bytes : List ℕ) (here : Taken) (room counts : List ℕ) (there : Taken) (room' counts' : List ℕ) : Type 0 where
  pub waits : Waits there.reading
  pub is : (rest : List ℕ) → totals_from here.reading room (totals_of here.sums counts) (bytes ++ rest)
      ≡ totals_from there.reading room' (totals_of there.sums counts') rest

-- where the program stands behind some file
pub record Stands (here : Taken) (room counts : List ℕ) : Type 0 where
  pub waits : Waits here.reading
  pub file : List ℕ
  pub is : (rest : List ℕ) → totals_from Between [] no_totals (file ++ rest) ≡ totals_from here.reading room (totals_of here.sums counts) rest

-- between two images
abbrev pub between_with : Sums → Taken
between_with s = record { reading = Between; sums = s }

abbrev pub at_start : Taken
at_start = between_with (record { units = 0; images = 0 })

-- nothing is known of the rest of the file
abbrev pub cut_with : Sums → Taken
cut_with s = record { reading = Cut; sums = s }

-- What is printed is the report of a file. Which one, no contract can say: it is what was read, and nothing is known of what a read gives.
pub record Reports (page page' : List ℕ) (n : ℕ) : Type 0 where
  pub file : List ℕ
  pub is : Placed page 0 (reported (totals_from Between [] no_totals file)) page' n
