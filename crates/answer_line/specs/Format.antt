-- The lines of the replay stream: CODE UNITS NAME LENGTH FIRST SECOND TABLE OUTPUT, and in job 10 SUMMARY.
use Rattle.std.specs.Prelude.{ℕ, ◌+◌, ◌*◌, List, [], ◌∷◌, ◌++◌, Bool, true, ◌&&◌, eqb, leb, length, take, drop, get_or}
use Rattle.model.specs.Choice.{when◌then◌else◌}
use Rattle.model.specs.Limits.{words_per_unit}
use Rattle.model.specs.Jobs.{Answer, Result, digits}
use Rattle.text.specs.Hexadecimal.{hex_of}
use Rattle.answer_line.specs.Words.{bytes_of_words}

-- what every word of the table and every byte of the output is before a call
abbrev pub word_fill : ℕ
word_fill = 2779096485

abbrev pub byte_fill : ℕ
byte_fill = 90

unfoldable pub all_are : ℕ → List ℕ → Bool
all_are v [] = true
all_are v (x ∷ l) = eqb x v && all_are v l

-- the words of the budget are 0, and every later word has the fill
unfoldable pub is_clear : ℕ → List ℕ → Bool
unfolding words_per_unit all_are
is_clear budget table =
    leb (words_per_unit * budget) (length table)
    && (all_are 0 (take (words_per_unit * budget) table) && all_are word_fill (drop (words_per_unit * budget) table))

-- ---- columns, each but the last with a space behind it

-- a number in decimal
unfoldable pub number_column : ℕ → List ℕ
unfolding digits
number_column n = digits 10 n (32 ∷ [])

-- `kept`, `clear` or `bad`
unfoldable pub table_column : ℕ → List ℕ → List ℕ
unfolding all_are is_clear
table_column budget table =
    when all_are word_fill table then 107 ∷ 101 ∷ 112 ∷ 116 ∷ 32 ∷ []
    else when is_clear budget table then 99 ∷ 108 ∷ 101 ∷ 97 ∷ 114 ∷ 32 ∷ []
    else 98 ∷ 97 ∷ 100 ∷ 32 ∷ []

-- the written bytes in hexadecimal, or `-`
unfoldable pub written_column : ℕ → List ℕ → List ℕ
unfolding hex_of
written_column len output = when eqb len 0 then 45 ∷ [] else hex_of (take len output)

-- and `!` where a byte behind them lost the fill
unfoldable pub output_column : ℕ → List ℕ → List ℕ
unfolding written_column all_are
output_column len output = written_column len output ++ (when all_are byte_fill (drop len output) then [] else 33 ∷ [])

-- ---- the line

unfoldable pub number_columns : Answer → List ℕ
unfolding number_column
number_columns a = (number_column a.code ++ number_column a.units) ++ ((number_column a.name ++ number_column a.len) ++ (number_column a.first ++ number_column a.second))

unfoldable pub buffer_columns : ℕ → ℕ → List ℕ → List ℕ → List ℕ
unfolding table_column output_column
buffer_columns budget len table output = table_column budget table ++ output_column len output

-- of a job with that budget that ended so
unfoldable pub answer_columns : ℕ → Result → List ℕ
unfolding number_columns buffer_columns
answer_columns budget r = number_columns r.answer ++ buffer_columns budget r.answer.len r.table r.output

unfoldable pub answer_line : ℕ → Result → List ℕ
unfolding answer_columns
answer_line budget r = answer_columns budget r ++ 10 ∷ []

-- ---- job 10: a column more

-- the words of a summary: its size, its count of names, and two for each of these; other words may stand behind them
unfoldable pub summary_front : List ℕ → List ℕ
summary_front w = take (2 + 2 * get_or w 1 0) w

-- in hexadecimal, each word low byte first; or `-` after a refusal
unfoldable pub summary_column : ℕ → List ℕ → List ℕ
unfolding hex_of bytes_of_words summary_front
summary_column code w = when eqb code 0 then hex_of (bytes_of_words (summary_front w)) else 45 ∷ []

unfoldable pub replace_line : ℕ → Result → List ℕ → List ℕ
unfolding answer_columns summary_column
replace_line budget r w = answer_columns budget r ++ (32 ∷ (summary_column r.answer.code w ++ 10 ∷ []))
