-- Document 01, 'Expanding'.
use Rattle.std.specs.Prelude.{zero, suc, ◌+◌, leb}
use Rattle.std.proofs.Math.Option.{Option, none, some}
use Rattle.model.specs.Limits.{last_phase}
use Rattle.model.specs.Refusals.{no_meaning, no_rule, no_syntax, no_phase, too_many_entries}
use Rattle.model.specs.Scopes.{Scope, no_scopes, add}
use Rattle.model.specs.Objects.{Name, Symbol, Phase, symbol, number, point, prim, rung, Sets, set_at, change_at, Stx, atom, list, Stxs, nil, cons}
use Rattle.model.specs.Trees.{Tree, app, stx, tnil, tcons, as_stx}
use Rattle.model.specs.Meanings.{lambda, let_syntax, quote, syntax, Meaning, core, variable, macro, stopped, unknown, extend, meaning_among, Surroundings, of_root, Place, nowhere, macro_use}
use Rattle.model.specs.Steps.{Entries, Step, ◌>>=◌, ◌>>◌, done, refuse, unless, charge, made, add_to, flip_in, prune_from, fresh_name, fresh_scope, prunable_now, use_scope, inside, bind, resolve_at, parts1, parts2, parts3, identifier}
use Rattle.model.specs.Evaluating.{Evaluator, Expander, eval_entry}
use Rattle.model.specs.Parsing.{parse}

-- what the head of a list means: `unknown` where it is no identifier
unfoldable pub head_meaning : Surroundings → Stx → Step Meaning
unfolding resolve_at meaning_among
head_meaning here (atom c (symbol x)) = do
  n ← resolve_at here.phase c x
  done (meaning_among n here.meanings here.stops)
head_meaning here (atom c (number x)) = done unknown
head_meaning here (atom c (point x)) = done unknown
head_meaning here (atom c (prim x)) = done unknown
head_meaning here (atom c (rung x)) = done unknown
head_meaning here (list c l) = done unknown

-- an identifier in expression place
unfoldable pub expand_name : Meaning → Step Stx
expand_name (core f) = refuse no_rule
expand_name (variable c x) = done (atom c (symbol x))
expand_name (macro v) = refuse no_rule
expand_name stopped = refuse no_rule
expand_name unknown = refuse no_meaning

-- ---- binders

pub record Binder : Type 0 where
  pub name : Name
  pub scope : Scope
  pub sets : Sets

-- a fresh name and scope for the binder with sets c and symbol x; the scope is added, at a charge of 1, and bound
unfoldable pub bind_fresh : Phase → Sets → Symbol → Step Binder
unfolding fresh_name fresh_scope charge change_at add bind set_at
bind_fresh ph c x = do
  n ← fresh_name
  k ← fresh_scope
  charge 1
  bind (record { symb = x; target = n; set = set_at ph (change_at (add k) ph c) })
  done (record { name = n; scope = k; sets = change_at (add k) ph c })

-- ---- where the parts of a form are expanded

-- a right-hand side: the phase above, core meanings, no stops
abbrev pub of_right_hand_side : Surroundings → Surroundings
of_right_hand_side here = of_root (here.phase + 1)

-- a binder's body: its name means m
abbrev pub of_body : Binder → Meaning → Surroundings → Surroundings
of_body b m here = record { phase = here.phase; meanings = extend b.name m here.meanings; stops = here.stops }

-- ---- forms. `self here x` expands x there, and `value place t` evaluates t there, as a further entry. What is expanded `inside` has no use scopes
-- yet, and a prunable set of its own: that of before for a part, with the binder's scope for a body, the empty one for a right-hand side.

unfoldable pub expand_all : (Stx → Step Stx) → Stxs → Step Stxs
expand_all self nil = done nil
expand_all self (cons s l) = do
  t ← self s
  r ← expand_all self l
  done (cons t r)

unfoldable pub expand_application : Expander → Surroundings → Sets → Stxs → Step Stx
unfolding expand_all inside made
expand_application self here c l = do
  r ← expand_all (λ x. inside (λ p. p) (self here x)) l
  made (list c r)

-- (lambda id body) with sets c and head h, where id has sets ci and symbol x
unfoldable pub expand_function : Expander → Surroundings → Sets → Stx → Sets → Symbol → Stx → Step Stx
unfolding bind_fresh add_to inside add made
expand_function self here c h ci x body = do
  b ← bind_fresh here.phase ci x
  in_scope_lem ← add_to b.scope here.phase body
  out ← inside (add b.scope) (self (of_body b (variable b.sets x) here) in_scope_lem)
  made (list c (cons h (cons (atom b.sets (symbol x)) (cons out nil))))

unfoldable pub expand_lambda : Expander → Surroundings → Sets → Stx → Stxs → Step Stx
unfolding parts2 identifier expand_function
expand_lambda self here c h l = parts2 l (λ i body. identifier i (λ ci x. expand_function self here c h ci x body))

unfoldable pub expand_syntax : Phase → Sets → Stx → Stxs → Step Stx
unfolding parts1 prunable_now prune_from
expand_syntax ph c h l = parts1 l (λ s. do
  p ← prunable_now
  t ← prune_from p ph s
  done (list c (cons h (cons t nil))))

-- (let-syntax id rhs body), where id has sets ci and symbol x; d: entries to spare for parsing the right-hand side
unfoldable pub expand_binding : Expander → Evaluator → Entries → Surroundings → Sets → Symbol → Stx → Stx → Step Stx
unfolding bind_fresh inside add_to add parse last_phase
expand_binding self value d here ci x rhs body = do
  b ← bind_fresh here.phase ci x
  unless no_phase (leb (here.phase + 1) last_phase)
  r ← inside (λ p. no_scopes) (self (of_right_hand_side here) rhs)
  t ← parse d (here.phase + 1) r
  v ← value nowhere t
  in_scope_lem ← add_to b.scope here.phase body
  inside (add b.scope) (self (of_body b (macro v) here) in_scope_lem)

unfoldable pub expand_let_syntax : Expander → Evaluator → Entries → Surroundings → Stxs → Step Stx
unfolding parts3 identifier expand_binding
expand_let_syntax self value d here l = parts3 l (λ i rhs body. identifier i (λ ci x. expand_binding self value d here ci x rhs body))

unfoldable pub or_no_syntax : Option Stx → Step Stx
or_no_syntax none = refuse no_syntax
or_no_syntax (some s) = done s

-- what the macro gives is expanded in the same expansion, not inside, so the scope of its use stays prunable there
unfoldable pub expand_macro : Expander → Evaluator → Surroundings → Tree → Stx → Step Stx
unfolding fresh_scope add_to flip_in use_scope as_stx or_no_syntax
expand_macro self value here v form = do
  use-scope ← fresh_scope
  intro ← fresh_scope
  used ← add_to use-scope here.phase form
  marked ← flip_in intro here.phase used
  use_scope use-scope
  r ← value (macro_use intro here) (app v (tcons (stx marked) tnil))
  s ← or_no_syntax (as_stx r)
  back ← flip_in intro here.phase s
  self here back

-- the list with sets c of head h and tail l, by the head's meaning. One that is stopped stays as it is
unfoldable pub expand_form : Expander → Evaluator → Entries → Surroundings → Sets → Stx → Stxs → Meaning → Step Stx
unfolding expand_lambda expand_let_syntax expand_syntax expand_macro expand_application parts1
expand_form self value d here c h l (core lambda) = expand_lambda self here c h l
expand_form self value d here c h l (core let_syntax) = expand_let_syntax self value d here l
expand_form self value d here c h l (core quote) = parts1 l (λ s. done (list c (cons h l)))
expand_form self value d here c h l (core syntax) = expand_syntax here.phase c h l
expand_form self value d here c h l (variable b x) = expand_application self here c (cons h l)
expand_form self value d here c h l (macro v) = expand_macro self value here v (list c (cons h l))
expand_form self value d here c h l stopped = done (list c (cons h l))
expand_form self value d here c h l unknown = expand_application self here c (cons h l)

unfoldable pub expand_entry : Expander → Evaluator → Entries → Surroundings → Stx → Step Stx
unfolding resolve_at meaning_among expand_name head_meaning expand_form
expand_entry self value d here (atom c (symbol x)) = do
  n ← resolve_at here.phase c x
  expand_name (meaning_among n here.meanings here.stops)
expand_entry self value d here (atom c (number x)) = done (atom c (number x))
expand_entry self value d here (atom c (point x)) = done (atom c (point x))
expand_entry self value d here (atom c (prim x)) = done (atom c (prim x))
expand_entry self value d here (atom c (rung x)) = done (atom c (rung x))
expand_entry self value d here (list c nil) = refuse no_rule
expand_entry self value d here (list c (cons h l)) = do
  m ← head_meaning here h
  expand_form self value d here c h l m

-- ---- evaluate and expand with d entries to spare: each is handed what both do with one less

unfoldable mutual
  unfolding charge eval_entry expand_entry

  pub evaluate : Entries → Place → Tree → Step Tree
  evaluate zero place t = refuse too_many_entries
  evaluate (suc d) place t = do
    charge 1
    eval_entry (λ there u. evaluate d there u) (λ there x. expand d there x) place t

  pub expand : Entries → Surroundings → Stx → Step Stx
  expand zero here s = refuse too_many_entries
  expand (suc d) here s = do
    charge 1
    expand_entry (λ there x. expand d there x) (λ there u. evaluate d there u) d here s
