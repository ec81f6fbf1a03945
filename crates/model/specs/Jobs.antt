-- Document 01, 'What the work covers' and 'Numbers given back': the four jobs, what each leaves in output and table, and the
-- program's line.
use Rattle.std.specs.Prelude.{ℕ, zero, suc, ◌+◌, ◌-◌, ◌*◌, ◌/◌, ◌%◌, Bool, true, ◌&&◌, List, [], ◌∷◌, ◌++◌, ltb, leb, length, drop, replicate}
use Rattle.model.specs.Choice.{when◌then◌else◌}
use Rattle.model.specs.Limits.{most_entries, most_budget, most_image, last_phase, words_per_unit, program_budget}
use Rattle.model.specs.Refusals.{Refusal, unowned, small_table, no_phase, too_long, code_of}
use Rattle.model.specs.Scopes.{no_scopes}
use Rattle.model.specs.Objects.{Name, Phase, Stx, size}
use Rattle.model.specs.Trees.{Tree, var, app, fun, datum, lst, stx, Trees, tnil, tcons, load_size}
use Rattle.model.specs.Competing.{Rivals, no_rivals}
use Rattle.model.specs.Reading.{Read, got, fault, Head, Image, read_syntax, read_tree_image, read_image}
use Rattle.model.specs.Writing.{syntax_bytes, tree_image_bytes}
use Rattle.model.specs.Meanings.{is_among, of_root, nowhere}
use Rattle.model.specs.Steps.{Units, State, Out, ok, no, Step, ◌>>◌, charge, resolve_at, identifier}
use Rattle.model.specs.Parsing.{parse}
use Rattle.model.specs.Expanding.{evaluate, expand}

-- ---- how a job ends, each after so many units

pub data Ending : Type 0 where
  -- with the bindings that compete, where it is 6
  refused : Refusal → Rivals → Units → Ending
  -- resolve: the name
  named : Name → Units → Ending
  -- the others: the written image
  written : List ℕ → Units → Ending

-- ---- what comes back: each answer has code, units, name and length, and since request T-04 the places of two bindings

pub record Answer : Type 0 where
  pub code : ℕ
  pub units : Units
  pub name : Name
  pub len : ℕ
  pub first : ℕ
  pub second : ℕ

unfoldable pub answer_of : Ending → Answer
unfolding code_of
answer_of (refused r p u) = record { code = code_of r; units = u; name = 0; len = 0; first = p.first; second = p.second }
answer_of (named n u) = record { code = 0; units = u; name = n; len = 0; first = 0; second = 0 }
answer_of (written b u) = record { code = 0; units = u; name = 0; len = length b; first = 0; second = 0 }

-- every refusal leaves the output untouched; success writes from its start and touches no byte after the image
unfoldable pub output_after : Ending → List ℕ → List ℕ
output_after (refused r p u) output = output
output_after (named n u) output = output
output_after (written b u) output = b ++ drop (length b) output

-- the words that the budget wants are zero and the rest untouched
unfoldable pub cleared : Units → List ℕ → List ℕ
unfolding words_per_unit
cleared budget table = replicate (words_per_unit * budget) 0 ++ drop (words_per_unit * budget) table

-- a job's answer, and output and table after it
pub record Result : Type 0 where
  pub answer : Answer
  pub output : List ℕ
  pub table : List ℕ

-- ---- The steps of a job, in this order. 1: code 5 comes before all else and leaves the table untouched; after all else the table is cleared

unfoldable pub budget_fits : Units → ℕ → Bool
unfolding most_budget words_per_unit
budget_fits budget words = leb budget most_budget && leb (words_per_unit * budget) words

unfoldable pub lent : Units → List ℕ → List ℕ → Ending → Result
unfolding budget_fits answer_of output_after cleared
lent budget table output e =
    when budget_fits budget (length table)
    then record { answer = answer_of e; output = output_after e output; table = cleared budget table }
    else record { answer = answer_of (refused small_table no_rivals 0); output = output; table = table }

-- ---- 2: the phase argument (12). 3: an image that is too long (2), and then from its front (1, 2, 4), with no units charged

unfoldable pub at_phase : Phase → Ending → Ending
unfolding last_phase
at_phase ph e = when leb ph last_phase then e else refused no_phase no_rivals 0

unfoldable pub with_image : {R : Type 0} → Read (Image R) → (Image R → Ending) → Ending
with_image (got i s) f = f i
with_image (fault r) f = refused r no_rivals 0

unfoldable pub start : Units → {R : Type 0} → Image R → State
start budget i = record { left = budget; names = i.head.names; scopes = i.head.scopes; binds = i.binds; prunable = no_scopes; uses = no_scopes }

-- the work's result and last state, or its refusal with the units charged before it
unfoldable pub worked : {A : Type 0} → Units → Out A → (A → State → Ending) → Ending
worked budget (ok a s) f = f a s
worked budget (no r p left) f = refused r p (budget - left)

-- ---- 7, the last: the result's length (20), for an output of `room` bytes

unfoldable pub fitted : ℕ → List ℕ → Units → Ending
unfolding most_image
fitted room b u = when leb (length b) room && leb (length b) most_image then written b u else refused too_long no_rivals u

-- the words read, the counts of names and scopes reached
unfoldable pub reached : Head → State → Head
reached h s = record { words = h.words; names = s.names; scopes = s.scopes }

-- ---- 5: the charge for loading (19). 6: the work of each job by its rules

unfoldable pub resolve_root : Phase → Stx → Step Name
unfolding charge size identifier resolve_at
resolve_root ph x = do
  charge (size x)
  identifier x (λ c n. resolve_at ph c n)

unfoldable pub expand_root : Phase → Stx → Step Stx
unfolding charge size expand most_entries
expand_root ph x = do
  charge (size x)
  expand most_entries (of_root ph) x

unfoldable pub parse_root : Stx → Step Tree
unfolding charge size parse most_entries
parse_root x = do
  charge (size x)
  parse most_entries 0 x

unfoldable pub evaluate_root : Tree → Step Tree
unfolding charge load_size evaluate most_entries
evaluate_root t = do
  charge (load_size t)
  evaluate most_entries nowhere t

-- ---- 4: code 3: every variable, outside syntax values, has an enclosing function of its name; `around` has the names of those

unfoldable mutual
  unfolding is_among

  pub closed : List Name → Tree → Bool
  closed around (var n) = is_among n around
  closed around (app h l) = closed around h && closed_all around l
  closed around (fun n b) = closed (n ∷ around) b
  closed around (datum a) = true
  closed around (lst l) = closed_all around l
  closed around (stx s) = true

  pub closed_all : List Name → Trees → Bool
  closed_all around tnil = true
  closed_all around (tcons t l) = closed around t && closed_all around l

-- ---- how each job ends, of the image's bytes, the phase, the budget and the output's length

unfoldable pub resolve_ending : List ℕ → Phase → Units → Ending
unfolding at_phase with_image read_image read_syntax worked start resolve_root
resolve_ending image ph budget =
    at_phase ph (with_image (read_image read_syntax image) (λ i.
    worked budget (resolve_root ph i.root (start budget i)) (λ n s. named n (budget - s.left))))

unfoldable pub expand_ending : List ℕ → Phase → Units → ℕ → Ending
unfolding at_phase with_image read_image read_syntax worked start expand_root fitted syntax_bytes reached
expand_ending image ph budget room =
    at_phase ph (with_image (read_image read_syntax image) (λ i.
    worked budget (expand_root ph i.root (start budget i)) (λ r s.
    fitted room (syntax_bytes (reached i.head s) s.binds r) (budget - s.left))))

unfoldable pub parse_ending : List ℕ → Units → ℕ → Ending
unfolding with_image read_image read_syntax worked start parse_root fitted tree_image_bytes reached
parse_ending image budget room =
    with_image (read_image read_syntax image) (λ i.
    worked budget (parse_root i.root (start budget i)) (λ r s.
    fitted room (tree_image_bytes (reached i.head s) r) (budget - s.left)))

unfoldable pub evaluate_ending : List ℕ → Units → ℕ → Ending
unfolding with_image read_image read_tree_image worked start evaluate_root fitted tree_image_bytes reached closed
evaluate_ending image budget room =
    with_image (read_image read_tree_image image) (λ i.
    when closed [] i.root
    then worked budget (evaluate_root i.root (start budget i)) (λ r s.
    fitted room (tree_image_bytes (reached i.head s) r) (budget - s.left))
    else refused unowned no_rivals 0)

-- ---- the four jobs, of what is lent: image, phase, budget, the table's contents and the output's contents

-- resolve writes nothing
unfoldable pub resolve_job : List ℕ → Phase → Units → List ℕ → Result
unfolding lent resolve_ending
resolve_job image ph budget table = lent budget table [] (resolve_ending image ph budget)

unfoldable pub expand_job : List ℕ → Phase → Units → List ℕ → List ℕ → Result
unfolding lent expand_ending
expand_job image ph budget table output = lent budget table output (expand_ending image ph budget (length output))

unfoldable pub parse_job : List ℕ → Units → List ℕ → List ℕ → Result
unfolding lent parse_ending
parse_job image budget table output = lent budget table output (parse_ending image budget (length output))

unfoldable pub evaluate_job : List ℕ → Units → List ℕ → List ℕ → Result
unfolding lent evaluate_ending
evaluate_job image budget table output = lent budget table output (evaluate_ending image budget (length output))

-- ---- the program: expands at phase 0, parses, and prints one line

pub record Line : Type 0 where
  pub code : ℕ
  pub units : Units

unfoldable pub line_of : Units → Ending → Line
unfolding code_of
line_of before (refused r p u) = record { code = code_of r; units = before + u }
line_of before (named n u) = record { code = 0; units = before + u }
line_of before (written b u) = record { code = 0; units = before + u }

-- if expanding is refused, the line shows its code and units only
unfoldable pub then_parsed : Ending → Line
unfolding line_of parse_ending program_budget most_image
then_parsed (refused r p u) = line_of 0 (refused r p u)
then_parsed (named n u) = line_of 0 (named n u)
then_parsed (written b u) = line_of u (parse_ending b program_budget most_image)

unfoldable pub program : List ℕ → Line
unfolding then_parsed expand_ending program_budget most_image
program image = then_parsed (expand_ending image 0 program_budget most_image)

-- the digits of n, at most k (no number of 32 bits has more than ten)
unfoldable pub digits : ℕ → ℕ → List ℕ → List ℕ
digits zero n after = after
digits (suc k) n after = when ltb n 10 then (48 + n) ∷ after else digits k (n / 10) ((48 + n % 10) ∷ after)

-- the word `code`, the code, the word `units`, the units, single spaces between
unfoldable pub line_bytes : Line → List ℕ
unfolding digits
line_bytes l =
    99 ∷ 111 ∷ 100 ∷ 101 ∷ 32 ∷ digits 10 l.code (32 ∷ 117 ∷ 110 ∷ 105 ∷ 116 ∷ 115 ∷ 32 ∷ digits 10 l.units (10 ∷ []))
