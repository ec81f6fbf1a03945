-- What is kept of the answers: counts and sums of 64 bits. One that has come to the top stays there.
use Rattle.std.specs.Prelude.{ℕ, ◌+◌, List, [], ◌∷◌, leb, get_or, set, replicate}
use Rattle.std.proofs.Math.Option.{Option, none, some}
use Rattle.model.specs.Choice.{when◌then◌else◌, given}
use Rattle.model.specs.Jobs.{Line}
use Rattle.requests.specs.Report.{report_of, cut_line}
use Rattle.reports.specs.declared.totals.Sums.{Sums}
use Rattle.reports.specs.declared.division.Reading.{Reading}
use Rattle.reports.specs.Dividing.{answers_from, is_between}

-- how many codes are counted: the requests' last_code and those below it
abbrev pub codes : ℕ
codes = 33

-- the largest number of 64 bits
abbrev pub top : ℕ
top = 18446744073709551615

unfoldable pub capped : ℕ → ℕ
capped n = when leb n top then n else top

-- how often each code was given, the units of all answers, and the number of images
pub record Totals : Type 0 where
  pub counts : List ℕ
  pub units : ℕ
  pub images : ℕ

abbrev pub totals_of : Sums → List ℕ → Totals
totals_of s counts = record { counts = counts; units = s.units; images = s.images }

abbrev pub no_totals : Totals
no_totals = record { counts = replicate codes 0; units = 0; images = 0 }

-- with one answer more
unfoldable pub counted : Line → Totals → Totals
unfolding capped
counted a t = record {
  counts = set t.counts a.code (capped (get_or t.counts a.code 0 + 1));
  units = capped (t.units + a.units);
  images = capped (t.images + 1);
}

unfoldable pub counted_all : List Line → Totals → Totals
unfolding counted
counted_all [] t = t
counted_all (a ∷ l) t = counted_all l (counted a t)

-- the totals of the whole file, of where its reading stands and the bytes still to come; none where it is cut
unfoldable pub totals_from : Reading → List ℕ → Totals → List ℕ → Option Totals
unfolding answers_from counted_all
totals_from here room t rest = given (answers_from here room rest) (λ l. some (counted_all l t))

-- the same once no byte is to come
unfoldable pub ended : Reading → Totals → Option Totals
ended here t = when is_between here then some t else none

-- the report of the totals
unfoldable pub reported : Option Totals → List ℕ
unfolding report_of cut_line
reported none = cut_line
reported (some t) = report_of (λ c. get_or t.counts c 0) t.units t.images
