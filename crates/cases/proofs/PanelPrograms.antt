-- How programs of the panel profile are written in cases, as images with no words, eight names and no scopes; and two such programs.
use Prim.Native.Nat.{ℕ}
use mathlib.Core.List.{List, []}
use Rattle.model.specs.Objects.{number, point, rung}
use Rattle.model.specs.Trees.{Tree, var, app, fun, datum, Trees, tnil, tcons}
use Rattle.model.specs.Writing.{tree_image_bytes}

abbrev pub image : Tree → List ℕ
image t = tree_image_bytes (record { words = []; names = 8; scopes = 0 }) t

infixr 15 ◌▹◌
abbrev pub ◌▹◌ : Tree → Trees → Trees
t ▹ l = tcons t l

abbrev pub at : ℕ → Tree
at x = datum (point x)

abbrev pub bit : ℕ → ℕ → Tree → Tree
bit n v b = app (fun n b) (datum (number v) ▹ tnil)

abbrev pub word : ℕ → Trees → Tree
word w l = app (datum (rung w)) l

abbrev pub and : Trees → Tree
and l = word 0 l

abbrev pub or : Trees → Tree
or l = word 1 l

abbrev pub all : Trees → Tree
all l = word 5 l

abbrev pub not : Tree → Tree
not e = word 2 (e ▹ tnil)

abbrev pub out : Tree → Tree → Tree
out p e = word 3 (p ▹ e ▹ tnil)

abbrev pub set : Tree → Tree → Tree
set n e = word 4 (n ▹ e ▹ tnil)

-- a latch: bit 5 starts at 0, is set by point 1 or itself, and drives point 12
abbrev pub latch : Tree
latch = bit 5 0 (all (set (var 5) (or (at 1 ▹ var 5 ▹ tnil)) ▹ out (at 12) (and (var 5 ▹ not (at 2) ▹ tnil)) ▹ tnil))

-- three bits, of which two have one name
abbrev pub three : Tree
three = bit 4 0 (all (bit 6 1 (set (var 6) (var 4)) ▹ bit 4 1 (out (at 0) (var 4)) ▹ tnil))
