-- Document 02, T-10, where is this bit used: the things of a tree, the summary that is kept beside it, and a question to a summary.
use Rattle.std.specs.Prelude.{ℕ, zero, suc, ◌+◌, ◌*◌, Bool, false, ◌&&◌, List, [], ◌∷◌, ◌++◌, eqb, ltb, leb, length, drop, get_or}
use Rattle.model.specs.Choice.{when◌then◌else◌}
use Rattle.model.specs.Refusals.{Refusal, too_long, code_of}
use Rattle.model.specs.Objects.{Name}
use Rattle.model.specs.Trees.{Tree, var, app, fun, datum, lst, stx, Trees, tnil, tcons, tsize}
use Rattle.model.specs.Reading.{Read, got, fault, Image, read_tree_image, read_image}
use Rattle.model.specs.Jobs.{Answer}

-- ---- the things that size counts, a whole before its parts, left to right. A thing's place is how many stand before it.

pub data Thing : Type 0 where
  variable : Name → Thing
  other : Thing

unfoldable mutual
  pub things : Tree → List Thing
  things (var n) = variable n ∷ []
  things (app h l) = other ∷ (things h ++ things_all l)
  things (fun n b) = other ∷ things b
  things (datum a) = other ∷ []
  things (lst l) = other ∷ things_all l
  things (stx s) = other ∷ []

  pub things_all : Trees → List Thing
  things_all tnil = []
  things_all (tcons t l) = things t ++ things_all l

-- ---- of a name: how many variables have it, and the place of the first, 0 if there is none

unfoldable pub is_use : Name → Thing → Bool
is_use n (variable m) = eqb m n
is_use n other = false

unfoldable pub uses : Name → List Thing → ℕ
unfolding is_use
uses n [] = 0
uses n (x ∷ l) = when is_use n x then suc (uses n l) else uses n l

unfoldable pub first_use : Name → List Thing → ℕ
unfolding is_use uses
first_use n [] = 0
first_use n (x ∷ l) = when is_use n x then 0 else when eqb (uses n l) 0 then 0 else suc (first_use n l)

-- ---- the summary: the tree's size, the count of names, and for each name from 0 its entry

pub record Entry : Type 0 where
  pub count : ℕ
  pub first : ℕ

unfoldable pub entry_of : List Thing → Name → Entry
unfolding uses first_use
entry_of l n = record { count = uses n l; first = first_use n l }

-- the entries e of k names, from n on
unfoldable pub entry_words : ℕ → Name → (Name → Entry) → List ℕ
entry_words zero n e = []
entry_words (suc k) n e = (e n).count ∷ (e n).first ∷ entry_words k (suc n) e

unfoldable pub summary_words : ℕ → ℕ → (Name → Entry) → List ℕ
unfolding entry_words
summary_words size names e = size ∷ names ∷ entry_words names 0 e

unfoldable pub summary_of : ℕ → Tree → List ℕ
unfolding summary_words tsize entry_of things
summary_of names t = summary_words (tsize t) names (entry_of (things t))

-- ---- the refusals: those of document 01, 29 the summary belongs to another tree, 30 name not in the image

pub data UsesRefusal : Type 0 where
  base : Refusal → UsesRefusal
  other_tree no_name : UsesRefusal

abbrev pub uses_code : UsesRefusal → ℕ
uses_code (base r) = code_of r
uses_code other_tree = 29
uses_code no_name = 30

unfoldable pub refused_answer : UsesRefusal → Answer
refused_answer r = record { code = uses_code r; units = 0; name = 0; len = 0; first = 0; second = 0 }

-- ---- making a summary, in `room` words. Code 3 is not asked: an open tree has a summary too.

pub data SummaryEnding : Type 0 where
  refused : UsesRefusal → SummaryEnding
  made : List ℕ → SummaryEnding

unfoldable pub summary_in : ℕ → Read (Image Tree) → SummaryEnding
unfolding summary_of
summary_in room (fault r) = refused (base r)
summary_in room (got i s) = when leb (2 + 2 * i.head.names) room then made (summary_of i.head.names i.root) else refused (base too_long)

unfoldable pub summary_answer : SummaryEnding → Answer
unfolding refused_answer
summary_answer (refused r) = refused_answer r
-- the length counts bytes, four for each word
summary_answer (made w) = record { code = 0; units = 0; name = 0; len = 4 * length w; first = 0; second = 0 }

-- every refusal leaves the words lent as they were
unfoldable pub summary_after : SummaryEnding → List ℕ → List ℕ
summary_after (refused r) lent = lent
summary_after (made w) lent = w ++ drop (length w) lent

pub record SummaryResult : Type 0 where
  pub answer : Answer
  pub summary : List ℕ

unfoldable pub summary_job : List ℕ → List ℕ → SummaryResult
unfolding summary_in summary_answer summary_after read_image read_tree_image
summary_job image lent =
    let e = summary_in (length lent) (read_image read_tree_image image) in
    record { answer = summary_answer e; summary = summary_after e lent }

-- ---- a question to the summary w: one entry is read

unfoldable pub entry_in : List ℕ → Name → Entry
entry_in w n = record { count = get_or w (2 + 2 * n) 0; first = get_or w (3 + 2 * n) 0 }

-- it is long enough, and has the tree's size and count of names
unfoldable pub belongs : List ℕ → Image Tree → Bool
unfolding tsize
belongs w i = leb (2 + 2 * i.head.names) (length w) && eqb (get_or w 0 0) (tsize i.root) && eqb (get_or w 1 0) i.head.names

pub data UsesEnding : Type 0 where
  refused : UsesRefusal → UsesEnding
  told : Entry → UsesEnding

unfoldable pub uses_in : List ℕ → Name → Read (Image Tree) → UsesEnding
unfolding belongs entry_in
uses_in w n (fault r) = refused (base r)
uses_in w n (got i s) =
    when belongs w i then
    when ltb n i.head.names then told (entry_in w n)
    else refused no_name
    else refused other_tree

-- what comes back; with a refusal both numbers are 0
pub record UsesAnswer : Type 0 where
  pub code : ℕ
  pub count : ℕ
  pub first : ℕ

unfoldable pub uses_answer : UsesEnding → UsesAnswer
uses_answer (refused r) = record { code = uses_code r; count = 0; first = 0 }
uses_answer (told e) = record { code = 0; count = e.count; first = e.first }

unfoldable pub uses_job : List ℕ → List ℕ → Name → UsesAnswer
unfolding uses_answer uses_in read_image read_tree_image
uses_job image w n = uses_answer (uses_in w n (read_image read_tree_image image))
