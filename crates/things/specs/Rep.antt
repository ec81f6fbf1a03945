-- How the table stands for trees and syntax objects.
use Rattle.std.specs.Prelude.{◌≡◌, List, ℕ, ◌+◌, ◌≤◌, ◌<◌, min}
use Rattle.model.specs.Objects as m
use Rattle.model.specs.Objects.{Atom, tag_of, content_of, Stxs, atom, list}
use Rattle.model.specs.Trees.{Tree, Trees, var, app, fun, datum, lst, stx, tnil, tcons, from_stxs, tsize, tnesting, tnestings}
use Rattle.table.specs.Tags.{list_tag, variable_tag, application_tag, function_tag, list_value_tag, atom_value_tag}
use Rattle.table.specs.Words.{get_node, get_sets, get_body, get_cell}
pub use Rattle.table.specs.Words.{sets_of}
use Rattle.things.specs.Weights.{tsizes, weights}
use Rattle.table.specs.Sizes.{cell_size, node_size, most_size}

-- Index i of the table l stands for a tree, all of it below top; and c for a chain of trees. What a node or cell points to lies below that
-- node or cell: so there are no circles, and what is made later changes nothing.
mutual
  pub data Rep (l : List ℕ) : ℕ → ℕ → Tree → Type 0 where
    is-var : {top i n : ℕ} → i + node_size ≤ top → get_node l i ≡ record { tag = variable_tag; content = n } → Rep l top i (var n)
    is-app : {top i c : ℕ} {h : Tree} {ts : Trees} → i + node_size ≤ top → get_node l i ≡ record { tag = application_tag; content = c } → RepP l i c (tcons h ts) → Rep l top i (app h ts)
    is-fun : {top i n b : ℕ} {t : Tree} → i + node_size ≤ top → get_node l i ≡ record { tag = function_tag; content = n }
        → get_body l i ≡ record { at = b; size = min most_size (tsize t); nesting = tnesting t }
        → Rep l i b t → Rep l top i (fun n t)
    is-datum : {top i : ℕ} {a : Atom} → i + node_size ≤ top → get_node l i ≡ record { tag = atom_value_tag + tag_of a; content = content_of a } → Rep l top i (datum a)
    is-lst : {top i c : ℕ} {ts : Trees} → i + node_size ≤ top → get_node l i ≡ record { tag = list_value_tag; content = c } → RepP l i c ts → Rep l top i (lst ts)
    is-atom : {top i : ℕ} {s : m.Sets} {a : Atom} → i + node_size ≤ top → get_node l i ≡ record { tag = tag_of a; content = content_of a }
        → sets_of (get_sets l i) ≡ s → Rep l top i (stx (atom s a))
    is-list : {top i c : ℕ} {s : m.Sets} {ps : Stxs} → i + node_size ≤ top → get_node l i ≡ record { tag = list_tag; content = c }
        → sets_of (get_sets l i) ≡ s → RepP l i c (from_stxs ps) → Rep l top i (stx (list s ps))

  pub data RepP (l : List ℕ) : ℕ → ℕ → Trees → Type 0 where
    is_none : {top : ℕ} → RepP l top 0 tnil
    is-part : {top c h r : ℕ} {t : Tree} {ts : Trees} → 0 < c → c + cell_size ≤ top
        → get_cell l c ≡ record { head = h; tail = r; weight = min most_size (weights (tcons t ts)); size = min most_size (tsizes (tcons t ts)); nesting = tnestings (tcons t ts) }
        → Rep l c h t → RepP l c r ts → RepP l top c (tcons t ts)
