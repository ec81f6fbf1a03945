-- A walk along a root: what is still to come, as lists of objects, the innermost first.
use Rattle.std.specs.Prelude.{ℕ, ◌+◌, ◌-◌, ◌≤◌, ◌<◌, ◌≡◌, List, [], ◌∷◌, ◌++◌, length, drop, get_or, Option, None, Some}
use Rattle.model.specs.Objects.{Atom, tag_of, content_of, Sets, atom, list, Stxs, nil, cons, count, nestings}
use Rattle.model.specs.Writing.{stxs_bytes}
use Rattle.codec_laws.specs.WellFormed.{AtomFits, StxsFit}
use Rattle.requests.specs.Tokens.{Token, closing}
use Rattle.requests.specs.ToText.{spelled_all}
use Rattle.text_laws.proofs.TextTrip.{toks_all}
use Rattle.numbers.specs.Limits.{most_image}
use Rattle.text_printer.specs.declared.walking.Walk.{Walk}
use Rattle.text_printer.specs.declared.walking.Step.{Step}
use Rattle.text_printer.specs.declared.walking.Step.TheVariants as step

-- lists that can be open: one around the root, and 64 levels
abbrev pub most_open : ℕ
most_open = 65

-- the bytes to come
unfoldable pub bytes_ahead : List Stxs → List ℕ
unfolding stxs_bytes
bytes_ahead [] = []
bytes_ahead (l ∷ ls) = stxs_bytes l ++ bytes_ahead ls

-- the tokens to come behind a list whose end is a closing parenthesis
unfoldable pub behind : List (List ℕ) → List Stxs → List Token
behind all [] = []
behind all (l ∷ ls) = closing ∷ toks_all (spelled_all all l) (behind all ls)

unfoldable pub tokens_ahead : List (List ℕ) → Stxs → List Stxs → List Token
unfolding behind
tokens_ahead all l ls = toks_all (spelled_all all l) (behind all ls)

-- their counts stand in `left`, that of the innermost last
abbrev pub Counted : List ℕ → ℕ → List Stxs → Type 0
Counted left d [] = d ≡ 0
Counted left d (l ∷ ls) = (0 < d) × (get_or left (d - 1) 0 ≡ count l) × Counted left (d - 1) ls

-- none goes past the deepest level
abbrev pub Shallow : ℕ → List Stxs → Type 0
Shallow d [] = Unit {0}
Shallow d (l ∷ ls) = (d + nestings l ≤ most_open) × Shallow (d - 1) ls

-- where k symbols and n scopes are declared
abbrev pub AllFit : ℕ → ℕ → List Stxs → Type 0
AllFit k n [] = Unit {0}
AllFit k n (l ∷ ls) = StxsFit k n l × AllFit k n ls

-- the innermost list l and those around it, ls, are to come
pub record Standing (k n : ℕ) (image left : List ℕ) (w : Walk) (l : Stxs) (ls : List Stxs) : Type 0 where
  pub symbols-few : k < 4294967296
  pub scopes-few : n ≤ 256
  pub within : w.at ≤ length image
  pub short : length image ≤ most_image
  pub room : length left ≡ most_open
  pub bytes : drop w.at image ≡ bytes_ahead (l ∷ ls)
  pub counts : Counted left w.depth (l ∷ ls)
  pub shallow : Shallow w.depth (l ∷ ls)
  pub fits : AllFit k n (l ∷ ls)

pub record Walkable (image left : List ℕ) (w : Walk) : Type 0 where
  pub symbols : ℕ
  pub scopes : ℕ
  pub first : Stxs
  pub others : List Stxs
  pub stands : Standing symbols scopes image left w first others

-- ---- what a step says

pub record Opens (k n : ℕ) (image : List ℕ) (w : Walk) (l : Stxs) (ls : List Stxs) (left' : List ℕ) (w' : Walk) : Type 0 where
  pub sets : Sets
  pub parts : Stxs
  pub after : Stxs
  pub is : l ≡ cons (list sets parts) after
  pub onward : w.at < w'.at
  pub deeper : w'.depth ≡ w.depth + 1
  pub stands : Standing k n image left' w' parts (after ∷ ls)

pub record Closes (k n : ℕ) (image : List ℕ) (w : Walk) (l : Stxs) (ls : List Stxs) (left' : List ℕ) (w' : Walk) : Type 0 where
  pub next : Stxs
  pub others : List Stxs
  pub is : l ≡ nil
  pub around : ls ≡ next ∷ others
  pub same : w'.at ≡ w.at
  pub higher : w'.depth + 1 ≡ w.depth
  pub stands : Standing k n image left' w' next others

pub record Meets (k n : ℕ) (image : List ℕ) (w : Walk) (l : Stxs) (ls : List Stxs) (left' : List ℕ) (tag content : ℕ) (w' : Walk) : Type 0 where
  pub sets : Sets
  pub met : Atom
  pub after : Stxs
  pub is : l ≡ cons (atom sets met) after
  pub tag_is : tag_of met ≡ tag
  pub content-is : content_of met ≡ content
  pub atom-fits : AtomFits k met
  pub onward : w.at < w'.at
  pub level : w'.depth ≡ w.depth
  pub stands : Standing k n image left' w' after ls

abbrev pub ShowsStep : ℕ → ℕ → List ℕ → Walk → Stxs → List Stxs → List ℕ → Walk → Step → Type 0
ShowsStep k n image w l ls left' w' step.Open = Opens k n image w l ls left' w'
ShowsStep k n image w l ls left' w' step.Close = Closes k n image w l ls left' w'
ShowsStep k n image w l ls left' w' (step.Atom tag content) = Meets k n image w l ls left' tag content w'

abbrev pub ShowsSteps : ℕ → ℕ → List ℕ → Walk → Stxs → List Stxs → List ℕ → Option (Step × Walk) → Type 0
ShowsSteps k n image w l ls left' None = (l ≡ nil) × (ls ≡ [])
ShowsSteps k n image w l ls left' (Some r) = ShowsStep k n image w l ls left' r.1 r.0

pub record Steps (image left : List ℕ) (w : Walk) (left' : List ℕ) (r : Option (Step × Walk)) : Type 0 where
  pub same : length left' ≡ length left
  pub is : (k n : ℕ) (l : Stxs) (ls : List Stxs) → Standing k n image left w l ls → ShowsSteps k n image w l ls left' r
