-- Document 01, 'Parsing and evaluating': parsing an expanded object.
use Rattle.std.specs.Prelude.{zero, suc}
use Rattle.std.proofs.Math.Option.{Option, none, some}
use Rattle.model.specs.Refusals.{no_rule, too_many_entries}
use Rattle.model.specs.Objects.{Phase, symbol, number, point, prim, rung, Stx, atom, list, Stxs, nil, cons, size}
use Rattle.model.specs.Trees.{Tree, var, app, fun, datum, stx, Trees, tnil, tcons, strip}
use Rattle.model.specs.Meanings.{Form, lambda, let_syntax, quote, syntax, form_of}
use Rattle.model.specs.Steps.{Entries, Step, ◌>>=◌, ◌>>◌, done, refuse, charge, resolve_at, parts1, parts2, identifier}

-- the form that head h makes
unfoldable pub head_form : Phase → Stx → Step (Option Form)
unfolding resolve_at form_of
head_form ph (atom c (symbol x)) = do
  n ← resolve_at ph c x
  done (form_of n)
head_form ph (atom c (number x)) = done none
head_form ph (atom c (point x)) = done none
head_form ph (atom c (prim x)) = done none
head_form ph (atom c (rung x)) = done none
head_form ph (list c l) = done none

unfoldable pub parse_all : (Stx → Step Tree) → Stxs → Step Trees
parse_all self nil = done tnil
parse_all self (cons s l) = do
  t ← self s
  r ← parse_all self l
  done (tcons t r)

-- the list of head h and tail l, whose head makes the form
unfoldable pub parse_form : (Stx → Step Tree) → Phase → Option Form → Stx → Stxs → Step Tree
unfolding parts1 parts2 identifier resolve_at charge size strip parse_all
parse_form self ph (some lambda) h l = parts2 l (λ i body. identifier i (λ c x. do
  n ← resolve_at ph c x
  b ← self body
  done (fun n b)))
parse_form self ph (some let_syntax) h l = refuse no_rule
parse_form self ph (some quote) h l = parts1 l (λ s. do
  charge (size s)
  done (strip s))
parse_form self ph (some syntax) h l = parts1 l (λ s. done (stx s))
parse_form self ph none h l = do
  f ← self h
  r ← parse_all self l
  done (app f r)

-- one entry. A tree is never nested deeper than the object that it is parsed from, so nothing is tested for 17: `parse_keeps_limits`
-- (`addresses/proofs/ParseLimits`).
unfoldable pub parse_entry : (Stx → Step Tree) → Phase → Stx → Step Tree
unfolding resolve_at head_form parse_form
parse_entry self ph (atom c (symbol x)) = do
  n ← resolve_at ph c x
  done (var n)
parse_entry self ph (atom c (number x)) = done (datum (number x))
parse_entry self ph (atom c (point x)) = done (datum (point x))
parse_entry self ph (atom c (prim x)) = done (datum (prim x))
parse_entry self ph (atom c (rung x)) = done (datum (rung x))
parse_entry self ph (list c nil) = refuse no_rule
parse_entry self ph (list c (cons h l)) = do
  f ← head_form ph h
  parse_form self ph f h l

-- parse at a phase with d entries to spare
unfoldable pub parse : Entries → Phase → Stx → Step Tree
unfolding charge parse_entry
parse zero ph s = refuse too_many_entries
parse (suc d) ph s = do
  charge 1
  parse_entry (λ x. parse d ph x) ph s
