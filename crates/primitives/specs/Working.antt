-- What the primitives ask and give.
use Rattle.std.specs.Prelude as std
use Rattle.std.specs.Prelude.{Some, None}
use Rattle.std.specs.Prelude.{◌≡◌, List, Bool, true, false, ◌&&◌, ℕ, ◌+◌, ◌≤◌, eqb}
use Rattle.std.proofs.Math.Option.{Option, none, some}
use Rattle.model.specs.Choice.{when◌then◌else◌}
use Rattle.model.specs.Objects.{Stxs}
use Rattle.model.specs.Trees.{Tree, Trees, tnil, tcons, tcount, from_stxs, to_stxs}
use Rattle.model.specs.Evaluating as m
use Rattle.model.specs.Evaluating.{Plain, plain, primitive_of, primitive, arity, argument}
use Rattle.table.specs.Words.{Same}
use Rattle.table.specs.declared.Node.{Node}
use Rattle.things.specs.Rep.{Rep, RepP}
use Rattle.things.specs.Making.{Roomy}
use Rattle.things.specs.declared.Made.{Made}
use Rattle.table.specs.Sizes.{unit_size}

-- ---- each of the rules' primitives, of as many values as it takes

unfoldable pub stx_e : Tree → Option Tree
unfolding primitive
stx_e a = primitive m.stx_e a a a

unfoldable pub mk_stx : Tree → Tree → Option Tree
unfolding primitive
mk_stx a b = primitive m.mk_stx a b b

unfoldable pub first : Tree → Option Tree
unfolding primitive
first a = primitive m.first a a a

unfoldable pub rest : Tree → Option Tree
unfolding primitive
rest a = primitive m.rest a a a

unfoldable pub linked : Tree → Tree → Option Tree
unfolding primitive
linked a b = primitive m.link a b b

unfoldable pub same : Tree → Tree → Option Tree
unfolding primitive
same a b = primitive m.same a b b

unfoldable pub pick : Tree → Tree → Tree → Option Tree
unfolding primitive
pick a b c = primitive m.pick a b c

-- ---- what is asked

-- a value, and room
pub record ReadyToApply (l : List ℕ) (top x : ℕ) : Type 0 where
  pub thing : Tree
  pub shown : Rep l top x thing
  pub room : Roomy l top unit_size

-- at most three values; an index past the last may be anything
pub data Given (l : List ℕ) (top : ℕ) : ℕ → ℕ → ℕ → Trees → Type 0 where
  no_more : {x y z : ℕ} → Given l top x y z tnil
  one_more : {x y z w : ℕ} {t : Tree} {ts : Trees} → Rep l top x t → Given l top y z w ts → Given l top x y z (tcons t ts)

pub record ReadyAll (l : List ℕ) (top p x y z : ℕ) : Type 0 where
  pub which : Plain
  pub is : primitive_of p ≡ some (plain which)
  pub thing : Trees
  pub given : Given l top x y z thing
  pub able : tcount thing ≡ arity (plain which)
  pub room : Roomy l top unit_size

-- ---- what is given

-- the value q, made of at most the words of a unit, or none
pub data Pieced (l l' : List ℕ) (top : ℕ) (q : Option Tree) : std.Option Made → Type 0 where
  wrong : q ≡ none → Pieced l l' top q None
  piece : (m : Made) (v : Tree) → q ≡ some v → Rep l' m.top m.at v → Same top l l' → top ≤ m.top → m.top ≤ top + unit_size → Pieced l l' top q (Some m)

pub record Does1 (f : Tree → Option Tree) (l l' : List ℕ) (top x : ℕ) (r : std.Option Made) : Type 0 where
  pub means : (t : Tree) → Rep l top x t → Pieced l l' top (f t) r

pub record Does2 (f : Tree → Tree → Option Tree) (l l' : List ℕ) (top x y : ℕ) (r : std.Option Made) : Type 0 where
  pub means : (t u : Tree) → Rep l top x t → Rep l top y u → Pieced l l' top (f t u) r

pub record Does3 (f : Tree → Tree → Tree → Option Tree) (l l' : List ℕ) (top x y z : ℕ) (r : std.Option Made) : Type 0 where
  pub means : (t u w : Tree) → Rep l top x t → Rep l top y u → Rep l top z w → Pieced l l' top (f t u w) r

pub record Works (l l' : List ℕ) (top p x y z : ℕ) (r : std.Option Made) : Type 0 where
  pub means : (q : Plain) → primitive_of p ≡ some (plain q) → (ts : Trees) → Given l top x y z ts → tcount ts ≡ arity (plain q)
      → Pieced l l' top (primitive q (argument ts 0) (argument ts 1) (argument ts 2)) r

-- a chain of syntax objects, or not
pub data Opened (ts : Trees) : Bool → Type 0 where
  all : (ps : Stxs) → ts ≡ from_stxs ps → to_stxs ts ≡ some ps → Opened ts true
  other : to_stxs ts ≡ none → Opened ts false

pub record AllSyntax (l : List ℕ) (c : ℕ) (r : Bool) : Type 0 where
  pub means : (top : ℕ) (ts : Trees) → RepP l top c ts → Opened ts r

-- 1 where tag and content agree
unfoldable pub agreed : Node → Node → ℕ
agreed a b = when eqb a.tag b.tag && eqb a.content b.content then 1 else 0
