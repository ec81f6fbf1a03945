-- Condition 3, one name is one address, from image bytes to image bytes. The theorem is `one_name_one_address` in proofs/Condition3:
-- it gives `OneNameOneAddress` for every image that the expand job at phase 0 answers with code 0, and for the image that it writes.
use Rattle.std.specs.Prelude.{ℕ, ◌-◌, ◌≤◌, ◌<◌, ◌≡◌, true, false, List, [], ◌∷◌, ◌++◌, length, take}
use Rattle.model.specs.Limits.{most_entries}
use Rattle.model.specs.Objects.{Stx}
use Rattle.model.specs.Trees.{Tree, var, app, fun, datum, lst, stx, Trees, tnil, tcons}
use Rattle.model.specs.Reading.{got, Image, read_syntax, read_tree_image, read_image}
use Rattle.model.specs.Writing.{tree_image_bytes}
use Rattle.model.specs.Meanings.{is_among}
use Rattle.model.specs.Steps.{ok}
use Rattle.model.specs.Parsing.{parse}
use Rattle.model.specs.Jobs.{Result, written, lent, budget_fits, start, closed, parse_job, evaluate_job}
use Rattle.addresses.specs.Charge.{entry_charge, parse_charge}

-- the names of a tree's functions, a whole before its parts, left to right
unfoldable mutual
  pub function_names : Tree → List ℕ
  function_names (var n) = []
  function_names (app h l) = function_names h ++ function_names_all l
  function_names (fun n b) = n ∷ function_names b
  function_names (datum a) = []
  function_names (lst l) = function_names_all l
  function_names (stx s) = []

  pub function_names_all : Trees → List ℕ
  function_names_all tnil = []
  function_names_all (tcons t l) = function_names t ++ function_names_all l

abbrev pub AllDifferent : List ℕ → Type 0
AllDifferent [] = Unit {0}
AllDifferent (n ∷ l) = (is_among n l ≡ false) × AllDifferent l

abbrev pub NoneBelow : ℕ → List ℕ → Type 0
NoneBelow least [] = Unit {0}
NoneBelow least (n ∷ l) = (least ≤ n) × NoneBelow least l

-- the image that a job wrote, from the start of its output
unfoldable pub image_written : Result → List ℕ
image_written r = take r.answer.len r.output

-- of an image and what it was expanded to
pub record OneNameOneAddress (image expanded : List ℕ) : Type 0 where
  -- both can be read: the expanded image keeps every limit
  pub given : Image Stx
  pub given_is : read_image read_syntax image ≡ got given []
  pub result : Image Stx
  pub result-is : read_image read_syntax expanded ≡ got result []
  -- the tree is what `parse` makes of the expanded image's root with any units that cover the entries, also more than a budget can be
  pub tree : Tree
  pub tree_is : (units : ℕ) → entry_charge 0 result.binds result.root ≤ units
      → parse most_entries 0 result.root (start units result) ≡ ok tree (start (units - entry_charge 0 result.binds result.root) result)
  -- the tree and the units of the parse job on the expanded image: it answers 0 and writes the tree wherever the budget covers the
  -- charge, and 19 wherever it does not (so always, where 4,096 does not cover it); the tree's image is never longer than its object's
  pub parses : (budget : ℕ) (table output : List ℕ) → budget_fits budget (length table) ≡ true
      → length (tree_image_bytes result.head tree) ≤ length output → parse_charge result.binds result.root ≤ budget
      → parse_job expanded budget table output
      ≡ lent budget table output (written (tree_image_bytes result.head tree) (parse_charge result.binds result.root))
  pub parses_no_less : (budget : ℕ) (table output : List ℕ) → budget_fits budget (length table) ≡ true
      → budget < parse_charge result.binds result.root → (parse_job expanded budget table output).answer.code ≡ 19
  -- and its image is read back as this tree
  pub readable : read_image read_tree_image (tree_image_bytes result.head tree) ≡ got (record { head = result.head; binds = []; root = tree }) []
  pub no_longer : length (tree_image_bytes result.head tree) ≤ length expanded
  -- every variable outside syntax values stands inside a function of its name
  pub owned : closed [] tree ≡ true
  -- all functions carry different names, none of them a name that was there before expansion
  pub different : AllDifferent (function_names tree)
  pub fresh : NoneBelow given.head.names (function_names tree)
  -- the evaluate job on the tree's image never answers 3
  pub never_unowned : (budget : ℕ) (table output : List ℕ) → (evaluate_job (tree_image_bytes result.head tree) budget table output).answer.code ≡ 3 → ⊥
