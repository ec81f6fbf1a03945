-- How the table stands for the meanings of names.
use Rattle.std.specs.Prelude.{◌≡◌, List, ℕ, ◌+◌, ◌≤◌, ◌<◌, length}
use Rattle.std.proofs.Math.Option.{Option, none, some}
use Rattle.model.specs.Objects.{Sets, symbol, Stx, atom}
use Rattle.model.specs.Trees.{Tree, stx}
use Rattle.model.specs.Competing.{Rivals}
use Rattle.model.specs.Meanings as m
use Rattle.model.specs.Meanings.{lambda, let_syntax, quote, syntax, form_of, core, variable, macro, stopped, unknown, Env, core_only, core_meaning}
use Rattle.table.specs.Words.{get_entry, Same}
use Rattle.store.specs.Words.{binds_of}
use Rattle.store.specs.Rivalry as d
use Rattle.store.specs.Rivalry.{Decision, several, rivals_of}
use Rattle.things.specs.Rep.{Rep}
use Rattle.forms.specs.Names.{name_found}
use Rattle.stops.specs.Stops.{RepZ}
use Rattle.environment.specs.declared.Meaning.{Meaning}
use Rattle.environment.specs.declared.Meaning.TheVariants.{Lambda, LetSyntax, Quote, Syntax, Variable, Macro, Stopped, Unknown, Unclear}
use Rattle.table.specs.Sizes.{entry_size, table_size}

-- what an entry of that kind says of its name
pub data Meant (l : List ℕ) (top : ℕ) : ℕ → ℕ → m.Meaning → Type 0 where
  meant-variable : {i x : ℕ} {c : Sets} → Rep l top i (stx (atom c (symbol x))) → Meant l top 0 i (variable c x)
  meant-macro : {i : ℕ} {v : Tree} → Rep l top i v → Meant l top 1 i (macro v)

-- names are below this one: the model's most_names
abbrev pub most_names : ℕ
most_names = 1024

-- index e stands for the meanings, all of them below top
pub data RepE (l : List ℕ) : ℕ → ℕ → Env → Type 0 where
  is-core : {top : ℕ} → RepE l top 0 core_only
  is_entry : {top e n kind i r : ℕ} {w : m.Meaning} {env : Env} → 0 < e → e + entry_size ≤ top → n < most_names
      → get_entry l e ≡ record { at = i; next = r; name = record { 0 = n }; kind = kind }
      → Meant l e kind i w → RepE l e r env → RepE l top e (m.extend n w env)

pub record Known (l : List ℕ) (e : ℕ) : Type 0 where
  pub top : ℕ
  pub thing : Env
  pub shown : RepE l top e thing
  pub inside : top ≤ length l
  pub small : length l ≤ table_size

pub record Extended (l l' : List ℕ) (top n kind i next at top' : ℕ) : Type 0 where
  pub kept : Same top l l'
  pub grows : top' ≡ top + entry_size
  pub means : (w : m.Meaning) (env : Env) → n < most_names → Meant l top kind i w → RepE l top next env → RepE l' top' at (m.extend n w env)

-- what a head means, or which bindings compete for it
pub data HeadMeaning : Type 0 where
  has : m.Meaning → HeadMeaning
  unclear : Rivals → HeadMeaning

-- the binder at i is the variable's
pub record VariableAt (l : List ℕ) (top i : ℕ) (q : HeadMeaning) : Type 0 where
  pub sets : Sets
  pub symb : ℕ
  pub is : q ≡ has (variable sets symb)
  pub shown : Rep l top i (stx (atom sets (symbol symb)))

-- the value at i is the macro's
pub record MacroAt (l : List ℕ) (top i : ℕ) (q : HeadMeaning) : Type 0 where
  pub value : Tree
  pub is : q ≡ has (macro value)
  pub shown : Rep l top i value

-- what each case says of the rules' meaning q
unfoldable pub MeaningAs : List ℕ → ℕ → Meaning → HeadMeaning → Type 0
MeaningAs l top Lambda q = q ≡ has (core lambda)
MeaningAs l top LetSyntax q = q ≡ has (core let_syntax)
MeaningAs l top Quote q = q ≡ has (core quote)
MeaningAs l top Syntax q = q ≡ has (core syntax)
MeaningAs l top (Variable i) q = VariableAt l top i q
MeaningAs l top (Macro i) q = MacroAt l top i q
MeaningAs l top Stopped q = q ≡ has stopped
MeaningAs l top Unknown q = q ≡ has unknown
MeaningAs l top (Unclear p) q = q ≡ unclear (rivals_of p)

pub record MeaningIs (l : List ℕ) (top : ℕ) (q : HeadMeaning) (r : Meaning) : Type 0 where
  pub told : MeaningAs l top r q

pub record CoreMeans (n : ℕ) (r : Meaning) : Type 0 where
  pub means : (l : List ℕ) (top : ℕ) → MeaningIs l top (has (core_meaning (form_of n))) r

pub record Means (l : List ℕ) (e n : ℕ) (r : Meaning) : Type 0 where
  pub means : (top : ℕ) (env : Env) → RepE l top e env → MeaningIs l top (has (m.meaning n env)) r

pub record MeansAmong (l : List ℕ) (e z n : ℕ) (r : Meaning) : Type 0 where
  pub means : (top : ℕ) (env : Env) (zs : List ℕ) → RepE l top e env → RepZ l top z zs → MeaningIs l top (has (m.meaning_among n env zs)) r

unfoldable pub meaning_found : Option Decision → Env → List ℕ → HeadMeaning
meaning_found none env zs = has unknown
meaning_found (some (d.means n)) env zs = has (m.meaning_among n env zs)
meaning_found (some (several p)) env zs = unclear p

-- of the object at i
pub record MeansAt (ph : ℕ) (st : List ℕ) (n : ℕ) (l : List ℕ) (i e z : ℕ) (r : Meaning) : Type 0 where
  pub means : (top : ℕ) (x : Stx) (env : Env) (zs : List ℕ) → Rep l top i (stx x) → RepE l top e env → RepZ l top z zs
      → MeaningIs l top (meaning_found (name_found ph (binds_of st n) x) env zs) r
