-- Document 02, T-11: what is promised of the smaller image. The theorem is `smaller_finished` (proofs/Finished): it gives `Finished` for every
-- well-formed image, expanded or not.
use Rattle.std.specs.Prelude.{ℕ, ◌≤◌, ◌≡◌, List, [], length}
use Rattle.model.specs.Scopes.{Scope, Scopes, members}
use Rattle.model.specs.Refusals.{layout, over_limit, wrong_kind, too_long}
use Rattle.model.specs.Objects.{Stx}
use Rattle.model.specs.Trees.{Tree, var, app, fun, datum, lst, stx, Trees, tnil, tcons}
use Rattle.model.specs.Competing.{no_rivals}
use Rattle.model.specs.Reading.{Read, got, fault, Image, read_syntax, read_tree_image, read_image}
use Rattle.model.specs.Writing.{tree_image_bytes}
use Rattle.model.specs.Jobs.{Ending, refused, written, parse_job}
use Rattle.alike.specs.Renumbering.{renumber_stx, SameBut}
use Rattle.shrinking.specs.Shrunk.{remaining, rank, with_scopes, shrunk, shrink_ending, smaller}

-- ---- a tree's image with the scopes of its syntax values renumbered alike, and their count adjusted

unfoldable mutual
  unfolding renumber_stx

  pub renumber_tree : (Scope → Scope) → Tree → Tree
  renumber_tree f (var n) = var n
  renumber_tree f (app h l) = app (renumber_tree f h) (renumber_trees f l)
  renumber_tree f (fun n b) = fun n (renumber_tree f b)
  renumber_tree f (datum a) = datum a
  renumber_tree f (lst l) = lst (renumber_trees f l)
  renumber_tree f (stx x) = stx (renumber_stx f x)

  pub renumber_trees : (Scope → Scope) → Trees → Trees
  renumber_trees f tnil = tnil
  renumber_trees f (tcons t l) = tcons (renumber_tree f t) (renumber_trees f l)

unfoldable pub tree_again : Scopes → Read (Image Tree) → List ℕ
unfolding tree_image_bytes with_scopes renumber_tree rank members
tree_again u (got i rest) = tree_image_bytes (with_scopes (length (members u)) i.head) (renumber_tree (rank u) i.root)
tree_again u (fault r) = []

unfoldable pub smaller_tree : Scopes → List ℕ → List ℕ
unfolding tree_again read_image read_tree_image
smaller_tree u image = tree_again u (read_image read_tree_image image)

-- ---- of any bytes: the job writes the smaller image, or answers 1, 2, 4 or 20 (`shrink_answers`, proofs/Finished)

pub data ShrinkEnds (image : List ℕ) : Ending → Type 0 where
  with_smaller : ShrinkEnds image (written (smaller image) 0)
  with_1 : ShrinkEnds image (refused layout no_rivals 0)
  with_2 : ShrinkEnds image (refused over_limit no_rivals 0)
  with_4 : ShrinkEnds image (refused wrong_kind no_rivals 0)
  with_20 : ShrinkEnds image (refused too_long no_rivals 0)

-- ---- of an image, read as i, and the smaller one

pub record Finished (image : List ℕ) (i : Image Stx) : Type 0 where
  -- it is well-formed, and is read as what was meant
  pub reads : read_image read_syntax (smaller image) ≡ got (shrunk i) []
  pub no_longer : length (smaller image) ≤ length image
  -- with enough output the job writes it
  pub writes : (room : ℕ) → length (smaller image) ≤ room → shrink_ending image room ≡ written (smaller image) 0
  -- doing it twice changes nothing more
  pub twice : smaller (smaller image) ≡ smaller image
  -- parsing both with the same budget and table, and enough output for each, gives the same code and units and the same tree
  pub parses : (budget : ℕ) (table one two : List ℕ) → ((parse_job image budget table one).answer.code ≡ 20 → ⊥)
      → ((parse_job (smaller image) budget table two).answer.code ≡ 20 → ⊥)
      → SameBut (smaller_tree (remaining i.binds i.root)) (parse_job image budget table one) (parse_job (smaller image) budget table two)
