-- What is said of the words lent, and of a question to them.
use Rattle.std.specs.Prelude.{ℕ, ◌+◌, ◌*◌, ◌≤◌, ◌≡◌, Bool, ◌&&◌, List, eqb, leb, ltb, length, get_or, Result, Ok, Err}
use Rattle.model.specs.Choice.{when◌then◌else◌}
use Rattle.model.specs.Reading.{read_tree_image, read_image}
use Rattle.model.specs.Jobs.{Answer}
use Rattle.requests.specs.Uses as u
use Rattle.requests.specs.Uses.{uses_code, refused_answer, SummaryEnding, summary_in, summary_answer, summary_after, UsesEnding, uses_in, entry_in}
use Rattle.places.specs.Counting.{Kept, Clear}
use Rattle.head.specs.Fronts.{most_names}
use Rattle.summaries.specs.declared.opening.Opened.{Opened}
use Rattle.summaries.specs.declared.refusal.UsesRefusal.{UsesRefusal}
use Rattle.places.specs.declared.counting.Entry.{Entry}
use Rattle.summaries.specs.Refusing.{uses_refusal_of}

pub record Clears (names : ℕ) (words words' : List ℕ) : Type 0 where
  pub kept : Kept names words words'
  pub clear : Clear names words'

-- ---- the summary made

-- what comes back
abbrev pub answer_for : Result ℕ UsesRefusal → Answer
answer_for (Ok names) = record { code = 0; units = 0; name = 0; len = 4 * (2 + 2 * names); first = 0; second = 0 }
answer_for (Err f) = refused_answer (uses_refusal_of f)

-- an ending, as the code answers it and leaves the words lent
pub record Ends (e : SummaryEnding) (words words' : List ℕ) (r : Result ℕ UsesRefusal) : Type 0 where
  pub few : (n : ℕ) → r ≡ Ok n → n ≤ most_names
  pub answer : answer_for r ≡ summary_answer e
  pub left : words' ≡ summary_after e words

abbrev pub Makes : List ℕ → List ℕ → List ℕ → Result ℕ UsesRefusal → Type 0
Makes image words words' r = Ends (summary_in (length words) (read_image read_tree_image image)) words words' r

-- ---- a question

unfoldable pub belongs_to : List ℕ → Opened → Bool
belongs_to w o = leb (2 + 2 * o.counts.names) (length w) && eqb (get_or w 0 0) o.size && eqb (get_or w 1 0) o.counts.names

abbrev pub Belongs : List ℕ → Opened → Bool → Type 0
Belongs w o r = r ≡ belongs_to w o

abbrev pub told_by : Result Entry UsesRefusal → UsesEnding
told_by (Ok e) = u.told (record { count = e.count; first = e.first })
told_by (Err f) = u.refused (uses_refusal_of f)

unfoldable pub asked_of : List ℕ → Opened → ℕ → UsesEnding
unfolding belongs_to
asked_of w o n =
    when belongs_to w o then
    when ltb n o.counts.names then u.told (entry_in w n)
    else u.refused u.no_name
    else u.refused u.other_tree

abbrev pub AsksFrom : List ℕ → Opened → ℕ → Result Entry UsesRefusal → Type 0
AsksFrom w o n r = told_by r ≡ asked_of w o n

abbrev pub Asks : List ℕ → List ℕ → ℕ → Result Entry UsesRefusal → Type 0
Asks image w n r = told_by r ≡ uses_in w n (read_image read_tree_image image)
