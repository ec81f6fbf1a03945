-- The job resolve from its root on.
use Rattle.std.specs.Prelude.{◌≡◌, List, [], ℕ, Result, Ok, Err}
use Rattle.model.specs.Limits.{most_nesting}
use Rattle.model.specs.Refusals.{no_rule, ambiguous}
use Rattle.model.specs.Objects.{symbol, number, point, prim, rung, set_at, Stx, atom, list}
use Rattle.model.specs.Resolving.{Bind}
use Rattle.model.specs.Competing.{no_rivals}
use Rattle.model.specs.Reading.{got, Head, symbols, read_stx}
use Rattle.model.specs.Jobs.{Ending, refused, named}
use Rattle.store.specs.Words.{binds_of}
use Rattle.store.specs.Rivalry.{Decision, means, several, decided}
use Rattle.head.specs.declared.Counts.{Counts}
use Rattle.refusals.specs.declared.Refusal.{Refusal}
use Rattle.finish.specs.declared.Ending as code
use Rattle.finish.specs.declared.Ending.TheVariants.{Refused}
use Rattle.finish.specs.Ends.{ending_of}
use Rattle.image.specs.declared.Judgement.{Judgement}
use Rattle.image.specs.Judging.{syntax_kind, Good}

-- how resolving ends after u units
abbrev pub found_ending : Decision → ℕ → Ending
found_ending (means n) u = named n u
found_ending (several p) u = refused ambiguous p u

-- of the root x, charged for
unfoldable pub root_ending : ℕ → Stx → List Bind → ℕ → Ending
unfolding set_at decided
root_ending ph (atom c (symbol n)) bs u = found_ending (decided n (set_at ph c) bs) u
root_ending ph (atom c (number n)) bs u = refused no_rule no_rivals u
root_ending ph (atom c (point n)) bs u = refused no_rule no_rivals u
root_ending ph (atom c (prim n)) bs u = refused no_rule no_rivals u
root_ending ph (atom c (rung n)) bs u = refused no_rule no_rivals u
root_ending ph (list c l) bs u = refused no_rule no_rivals u

-- the counts are those of the head h
pub record Agree (n : Counts) (h : Head) : Type 0 where
  pub symbols-are : n.symbols ≡ symbols h
  pub scopes-are : n.scopes ≡ h.scopes

-- a fault is refused before the charge
abbrev pub ended : Result code.Ending Refusal → code.Ending
ended (Ok e) = e
ended (Err f) = Refused f 0

-- the root that stands at s
pub record RootEnds (n : Counts) (s : List ℕ) (ph : ℕ) (bs : List Bind) (u : ℕ) (r : Result code.Ending Refusal) : Type 0 where
  pub means : (h : Head) → Agree n h → (x : Stx) (rest : List ℕ) → read_stx most_nesting h s ≡ got x rest → ending_of [] (ended r) ≡ root_ending ph x bs u

-- the root of a judged image, after the charge for loading it
pub record Resolved (image store : List ℕ) (j : Judgement) (ph : ℕ) (r : code.Ending) : Type 0 where
  pub means : (g : Good syntax_kind image store j) → ending_of [] r ≡ root_ending ph g.image.root (binds_of store j.bindings) j.size
