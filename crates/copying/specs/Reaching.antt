-- What copying asks and gives at a part, with so many levels left.
use Rattle.std.specs.Prelude.{◌≡◌, List, ℕ, ◌+◌, ◌*◌, ◌≤◌, length}
use Rattle.model.specs.Objects as m
use Rattle.model.specs.Objects.{Atom, tag_of, content_of, Stx, Stxs, atom, list, size, sizes, nesting, nestings, on_sets, on_sets_all}
use Rattle.model.specs.Trees.{Tree, Trees, stx, from_stxs, strip, strip_all}
use Rattle.table.specs.Tags.{list_tag}
use Rattle.table.specs.Words.{Same}
use Rattle.table.specs.declared.Node.{Node}
use Rattle.table.specs.declared.Sets.{Sets}
use Rattle.things.specs.Rep.{Rep, RepP, sets_of}
use Rattle.things.specs.Making.{Roomy}
use Rattle.copying.specs.Copying.{Copyable}
use Rattle.table.specs.Sizes.{cell_size, node_size, part_size, table_size, most_budget}

-- ---- what is asked

pub record Reached (levels : ℕ) (l : List ℕ) (top i : ℕ) : Type 0 where
  pub object : Copyable l top i
  pub flat : nesting object.thing ≤ levels

-- of a chain
pub record ReachedP (levels : ℕ) (l : List ℕ) (top c : ℕ) : Type 0 where
  pub thing : Stxs
  pub shown : RepP l top c (from_stxs thing)
  pub charged : sizes thing ≤ most_budget
  pub room : top + part_size * sizes thing ≤ length l
  pub small : length l ≤ table_size
  pub low : 1 ≤ top
  pub flat : nestings thing ≤ levels

-- ---- what is made: the copy of an object ends with its node and takes the room exactly

pub data Copying : Type 0 where
  changing : (m.Sets → m.Sets) → Copying
  stripping : Copying

unfoldable pub copy_of : Copying → Stx → Tree
copy_of (changing f) x = stx (on_sets f x)
copy_of stripping x = strip x

unfoldable pub copies_of : Copying → Stxs → Trees
copies_of (changing f) ps = from_stxs (on_sets_all f ps)
copies_of stripping ps = strip_all ps

pub record CopyBy (w : Copying) (l' : List ℕ) (top at top' : ℕ) (x : Stx) : Type 0 where
  pub shown : Rep l' top' at (copy_of w x)
  pub room : top' + cell_size ≡ top + part_size * size x

pub record CopiedBy (w : Copying) (l l' : List ℕ) (top i at top' : ℕ) : Type 0 where
  pub kept : Same top l l'
  pub grows : top ≤ top'
  pub last : at + node_size ≡ top'
  pub means : (x : Stx) → Rep l top i (stx x) → size x ≤ most_budget → CopyBy w l' top at top' x

-- ---- the node of a copy, where the parts are copied already

pub record Puttable (l : List ℕ) (top : ℕ) (n : Node) : Type 0 where
  pub room : Roomy l top node_size
  pub kind : n.tag ≤ list_tag

pub record Put (w : Copying) (l l' : List ℕ) (top : ℕ) (n : Node) (c : Sets) (at top' : ℕ) : Type 0 where
  pub kept : Same top l l'
  pub place : at ≡ top
  pub grows : top' ≡ top + node_size
  pub is-atom : (a : Atom) → n ≡ record { tag = tag_of a; content = content_of a } → Rep l' top' at (copy_of w (atom (sets_of c) a))
  pub is-list : (ps : Stxs) → n.tag ≡ list_tag → RepP l top n.content (copies_of w ps) → Rep l' top' at (copy_of w (list (sets_of c) ps))

pub record PutStripped (l l' : List ℕ) (top : ℕ) (n : Node) (at top' : ℕ) : Type 0 where
  pub means : (c : Sets) → Put stripping l l' top n c at top'
