-- What the replacement says of the image, the summary and the output.
use Rattle.std.specs.Prelude.{ℕ, ◌+◌, ◌-◌, ◌*◌, ◌≤◌, ◌<◌, ◌≡◌, true, List, [], ◌++◌, length, drop, get_or, Result, Ok, Err}
use Rattle.model.specs.Trees as m
use Rattle.model.specs.Trees.{tsize}
use Rattle.model.specs.Reading.{got, read_tree_image, read_image}
use Rattle.model.specs.Jobs.{Answer}
use Rattle.requests.specs.Uses.{things, refused_answer}
use Rattle.requests.specs.Replacing.{spot_in, change_of, brought_up, read_part, ReplaceEnding, replace_in, replace_answer, output_after_replace, summary_after_replace}
use Rattle.numbers.specs.Limits.{most_image}
use Rattle.places.specs.Reading.{along}
use Rattle.places.specs.Standing.{At}
use Rattle.places.specs.Counting.{Room, Holds, Clear}
use Rattle.summaries.specs.declared.opening.Opened.{Opened}
use Rattle.summaries.specs.Opening.{OpenedAt}
use Rattle.summaries.specs.Making.{belongs_to}
use Rattle.summaries.specs.declared.refusal.UsesRefusal.{UsesRefusal}
use Rattle.summaries.specs.Refusing.{uses_refusal_of}
use Rattle.replacing.specs.declared.locating.Spot.{Spot}
use Rattle.replacing.specs.declared.updating.Change.{Change}
use Rattle.replacing.specs.Locating.{Found}
use Rattle.replacing.specs.Updating.{Firsts}

-- ---- the summary

-- the old part lies between two places of the image, and the new one is alone in `part`
pub record Parted (image : List ℕ) (o : Opened) (at end : ℕ) (part : List ℕ) (c : Change) : Type 0 where
  pub opened : OpenedAt image o
  pub new : m.Tree
  pub new-at : At o.counts part new []
  pub old-at : At o.counts (drop at image) (spot_in c.place opened.read.root).part (drop end image)
  pub old-is : c.old ≡ tsize (spot_in c.place opened.read.root).part
  pub new_is : c.new ≡ tsize new
  pub from : at ≤ end
  pub to : end ≤ length image
  pub behind-is : along o.counts (o.size - c.place - c.old) (drop end image) ≡ drop (c.place + c.old) (things opened.read.root)
  pub sums : c.place + c.old ≤ o.size

-- the words are a summary of that size and count of names
pub record Held (o : Opened) (words : List ℕ) : Type 0 where
  pub room : Room o.counts.names words
  pub size-told : get_or words 0 0 ≡ o.size
  pub names-told : get_or words 1 0 ≡ o.counts.names

-- words to tally in
pub record Cleared (o : Opened) (words : List ℕ) : Type 0 where
  pub room : Room o.counts.names words
  pub clear : Clear o.counts.names words

-- the words of both parts have room, and no first place is large
pub record Told (image : List ℕ) (o : Opened) (end : ℕ) (c : Change) (gone come : List ℕ) : Type 0 where
  pub at : ℕ
  pub part : List ℕ
  pub parts : Parted image o at end part c
  pub gone-room : Room o.counts.names gone
  pub come-room : Room o.counts.names come
  pub firsts : Firsts o.counts.names come

abbrev pub RenewsFrom : List ℕ → Opened → ℕ → Change → List ℕ → List ℕ → List ℕ → List ℕ → Type 0
RenewsFrom image o end c gone come words words' =
    (at : ℕ) (part : List ℕ) (P : Parted image o at end part c) → Holds o.counts.names (things (spot_in c.place P.opened.read.root).part) gone
    → Holds o.counts.names (things P.new) come
    → (words' ≡ brought_up (change_of c.place P.new P.opened.read.root) o.counts.names words ++ drop (2 + 2 * o.counts.names) words)

abbrev pub BringsUp : List ℕ → Opened → ℕ → ℕ → List ℕ → Change → List ℕ → List ℕ → Type 0
BringsUp image o at end part c words words' =
    (P : Parted image o at end part c) → words' ≡ brought_up (change_of c.place P.new P.opened.read.root) o.counts.names words ++ drop (2 + 2 * o.counts.names) words

-- ---- the whole

-- what comes back
abbrev pub answer_for : Result ℕ UsesRefusal → Answer
answer_for (Ok n) = record { code = 0; units = 0; name = 0; len = n; first = 0; second = 0 }
answer_for (Err f) = refused_answer (uses_refusal_of f)

-- an ending, as the code answers it and leaves summary and output
pub record Ends (e : ReplaceEnding) (words words' out out' : List ℕ) (r : Result ℕ UsesRefusal) : Type 0 where
  pub short : (n : ℕ) → r ≡ Ok n → n ≤ most_image
  pub answer : answer_for r ≡ replace_answer e
  pub words_left : words' ≡ summary_after_replace e words
  pub out-left : out' ≡ output_after_replace e out

abbrev pub Replaces : List ℕ → ℕ → List ℕ → List ℕ → List ℕ → List ℕ → List ℕ → Result ℕ UsesRefusal → Type 0
Replaces image place part words words' out out' r = Ends (replace_in (length out) words place part (read_image read_tree_image image)) words words' out out' r

-- the summary belongs to the tree, and the tree has the place
pub record Asked (image : List ℕ) (o : Opened) (place : ℕ) (words : List ℕ) : Type 0 where
  pub opened : OpenedAt image o
  pub belongs : belongs_to words o ≡ true
  pub inside : place < o.size

-- the place is found, and the part is one for that place
pub record Ready (image : List ℕ) (o : Opened) (spot : Spot) (place : ℕ) (part words : List ℕ) : Type 0 where
  pub asked : Asked image o place words
  pub found : Found o.counts (drop o.root image) o.root place asked.opened.read.root [] spot
  pub new : m.Tree
  pub reads : read_part asked.opened.read.head (spot_in place asked.opened.read.root) part ≡ got new []
  pub new-at : At o.counts part new []
