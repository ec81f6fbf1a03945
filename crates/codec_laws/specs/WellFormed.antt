-- What keeps every limit of an image: of the things that can be written, those that are read back.
use Rattle.std.specs.Prelude.{ℕ, ◌^◌, ◌≤◌, ◌<◌, ◌≡◌, true, not, ◌&&◌, List, [], ◌∷◌, length}
use Rattle.model.specs.Limits.{most_scopes, most_names, most_bindings, most_nesting, most_word_length, most_image, last_point, last_primitive, last_rung_word}
use Rattle.model.specs.Objects.{Atom, symbol, number, point, prim, rung, Stx, atom, list, Stxs, nil, cons, nesting}
use Rattle.model.specs.Trees.{Tree, var, app, fun, datum, lst, stx, Trees, tnil, tcons, tnesting}
use Rattle.model.specs.Resolving.{Bind}
use Rattle.model.specs.Reading.{good_word, among, core_words, Head, symbols}
use Rattle.model.specs.Writing.{syntax_bytes, tree_image_bytes}
use Rattle.laws.specs.Ordered.{SetsIn, Sorted}

-- every number of the list is a byte
abbrev pub Bytes : List ℕ → Type 0
Bytes [] = Unit {0}
Bytes (b ∷ s) = (b < 256) × Bytes s

-- ---- objects and trees, where k symbols, n names and m scopes are declared

abbrev pub AtomFits : ℕ → Atom → Type 0
AtomFits k (symbol x) = x < k
AtomFits k (number x) = x < 4294967296
AtomFits k (point x) = x ≤ last_point
AtomFits k (prim x) = x ≤ last_primitive
AtomFits k (rung x) = x ≤ last_rung_word

abbrev mutual
  pub StxFits : ℕ → ℕ → Stx → Type 0
  StxFits k m (atom c a) = SetsIn m c × AtomFits k a
  StxFits k m (list c l) = SetsIn m c × StxsFit k m l

  pub StxsFit : ℕ → ℕ → Stxs → Type 0
  StxsFit k m nil = Unit {0}
  StxsFit k m (cons s l) = StxFits k m s × StxsFit k m l

abbrev pub IsValue : Tree → Type 0
IsValue (var x) = ⊥
IsValue (app h l) = ⊥
IsValue (fun x b) = Unit {0}
IsValue (datum a) = Unit {0}
IsValue (lst l) = Unit {0}
IsValue (stx s) = Unit {0}

abbrev mutual
  pub TreeFits : ℕ → ℕ → ℕ → Tree → Type 0
  TreeFits k n m (var x) = x < n
  TreeFits k n m (app h l) = TreeFits k n m h × TreesFit k n m l
  TreeFits k n m (fun x b) = (x < n) × TreeFits k n m b
  TreeFits k n m (datum a) = AtomFits k a
  TreeFits k n m (lst l) = ValuesFit k n m l
  TreeFits k n m (stx s) = StxFits k m s

  pub TreesFit : ℕ → ℕ → ℕ → Trees → Type 0
  TreesFit k n m tnil = Unit {0}
  TreesFit k n m (tcons t l) = TreeFits k n m t × TreesFit k n m l

  -- the parts of a list value are values
  pub ValuesFit : ℕ → ℕ → ℕ → Trees → Type 0
  ValuesFit k n m tnil = Unit {0}
  ValuesFit k n m (tcons t l) = IsValue t × TreeFits k n m t × ValuesFit k n m l

-- ---- heads and bindings

-- words that differ from each other and from all of `seen`
abbrev pub WordsFit : List (List ℕ) → List (List ℕ) → Type 0
WordsFit seen [] = Unit {0}
WordsFit seen (w ∷ l) = (0 < length w) × (length w ≤ most_word_length) × ((good_word w && not (among w seen)) ≡ true) × WordsFit (w ∷ seen) l

pub record HeadFits (h : Head) : Type 0 where
  pub words-fit : WordsFit core_words h.words
  pub names-from : symbols h ≤ h.names
  pub names-to : h.names ≤ most_names
  pub scopes-to : h.scopes ≤ most_scopes

abbrev pub BindFits : ℕ → ℕ → ℕ → Bind → Type 0
BindFits k n m b = (b.symb < k) × (b.target < n) × (b.set < 2 ^ m)

abbrev pub BindsFit : ℕ → ℕ → ℕ → List Bind → Type 0
BindsFit k n m [] = Unit {0}
BindsFit k n m (b ∷ l) = BindFits k n m b × BindsFit k n m l

-- ---- whole images

-- kind 1: head, bindings and root
pub record SyntaxFits (h : Head) (l : List Bind) (r : Stx) : Type 0 where
  pub head-fits : HeadFits h
  pub binds-fit : BindsFit (symbols h) h.names h.scopes l
  pub ascending : Sorted l
  pub few : length l ≤ most_bindings
  pub root-fits : StxFits (symbols h) h.scopes r
  pub shallow : nesting r ≤ most_nesting
  pub short : length (syntax_bytes h l r) ≤ most_image

-- kind 2: head and root
pub record TreeImageFits (h : Head) (r : Tree) : Type 0 where
  pub head-fits : HeadFits h
  pub root-fits : TreeFits (symbols h) h.names h.scopes r
  pub shallow : tnesting r ≤ most_nesting
  pub short : length (tree_image_bytes h r) ≤ most_image
