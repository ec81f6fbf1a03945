-- What the definitions read: from s, a thing and what is left of s. Of the levels left and the head that they are given only the count of
-- scopes matters, since what was judged once is not judged again.
use Rattle.std.specs.Prelude.{◌≡◌, List, ℕ}
use Rattle.model.specs.Objects.{Atom, tag_of, content_of, Stx, Stxs}
use Rattle.model.specs.Trees.{Tree, Trees, fun, app, datum, lst, stx, tcons, from_stxs}
use Rattle.model.specs.Reading.{got, num, Head, read_parts, read_stx, read_trees, read_tree}
use Rattle.table.specs.Tags.{application_tag, list_value_tag}

pub data ObjectRead (scopes : ℕ) : List ℕ → Tree → List ℕ → Type 0 where
  object-read : (levels : ℕ) (h : Head) {s rest : List ℕ} {x : Stx} → h.scopes ≡ scopes → read_stx levels h s ≡ got x rest → ObjectRead scopes s (stx x) rest

-- so many parts
pub data ObjectsRead (scopes count : ℕ) : List ℕ → Trees → List ℕ → Type 0 where
  objects-read : (levels : ℕ) (h : Head) {s rest : List ℕ} (ps : Stxs) → h.scopes ≡ scopes → read_parts count (read_stx levels h) s ≡ got ps rest
      → ObjectsRead scopes count s (from_stxs ps) rest

-- `low` is the least tag that is taken: 0, or 2 for a value
pub data TreeRead (scopes : ℕ) : List ℕ → Tree → List ℕ → Type 0 where
  tree-read : (levels : ℕ) (h : Head) (low : ℕ) {s rest : List ℕ} {t : Tree} → h.scopes ≡ scopes → read_tree levels h low s ≡ got t rest → TreeRead scopes s t rest

pub data TreesRead (scopes count : ℕ) : List ℕ → Trees → List ℕ → Type 0 where
  trees-read : (levels : ℕ) (h : Head) (low : ℕ) {s rest : List ℕ} {ts : Trees} → h.scopes ≡ scopes → read_trees count (read_tree levels h low) s ≡ got ts rest
      → TreesRead scopes count s ts rest

-- ---- trees whose first numbers have been read

-- an atom as a value, behind its tag
pub data AtomRead (tag : ℕ) : List ℕ → Tree → List ℕ → Type 0 where
  atom-read : {s rest : List ℕ} {a : Atom} → tag_of a ≡ tag → num s ≡ got (content_of a) rest → AtomRead tag s (datum a) rest

-- a function, behind its name
pub data FunctionRead (scopes name : ℕ) : List ℕ → Tree → List ℕ → Type 0 where
  function_read : {s rest : List ℕ} {b : Tree} → TreeRead scopes s b rest → FunctionRead scopes name s (fun name b) rest

-- an application or list value, behind its count; `tag` is its tag in the table
pub data ListRead (scopes count : ℕ) : ℕ → List ℕ → Tree → List ℕ → Type 0 where
  application_read : {s rest : List ℕ} {h : Tree} {ts : Trees} → TreesRead scopes count s (tcons h ts) rest → ListRead scopes count application_tag s (app h ts) rest
  list_read : {s rest : List ℕ} {ts : Trees} → TreesRead scopes count s ts rest → ListRead scopes count list_value_tag s (lst ts) rest
