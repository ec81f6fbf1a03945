-- The expander with four of its rules left open: so that a wrong rule can be put for one of them, in all else the expander as defined.
use Rattle.std.specs.Prelude.{ℕ, zero, suc, ◌-◌, List, length}
use Rattle.model.specs.Limits.{most_entries}
use Rattle.model.specs.Refusals.{no_rule, too_many_entries}
use Rattle.model.specs.Scopes.{Scope, add}
use Rattle.model.specs.Objects.{Symbol, Phase, symbol, number, point, prim, rung, Sets, set_at, change_at, Stx, atom, list, Stxs, nil, cons, size}
use Rattle.model.specs.Trees.{Tree}
use Rattle.model.specs.Reading.{read_syntax, read_image}
use Rattle.model.specs.Writing.{syntax_bytes}
use Rattle.model.specs.Meanings.{lambda, let_syntax, quote, syntax, Meaning, core, variable, macro, stopped, unknown, meaning_among, Surroundings, of_root, Place}
use Rattle.model.specs.Steps.{Units, Entries, Step, ok, done, refuse, charge, made, add_to, fresh_scope, inside, bind, resolve_at, parts1, parts2, identifier, ◌>>=◌, ◌>>◌}
use Rattle.model.specs.Evaluating.{Expander, Evaluator, eval_entry}
use Rattle.model.specs.Expanding.{head_meaning, expand_name, Binder, bind_fresh, of_body, expand_all, expand_syntax, expand_let_syntax, expand_macro}
use Rattle.model.specs.Jobs.{Ending, lent, at_phase, with_image, start, worked, fitted, reached}
use Rattle.proof_bench.specs.Meeting.{Expanding}

pub record Rules : Type 0 where
  -- a fresh name and scope for lambda's binder
  pub binder : Phase → Sets → Symbol → Step Binder
  -- lambda's body with the binder's scope
  pub in_scope : Scope → Phase → Stx → Step Stx
  -- what an identifier with its sets and symbol means
  pub means : Sets → Symbol → Meaning → Meaning
  -- the parts of an application
  pub parts : (Stx → Step Stx) → Stxs → Step Stxs

unfoldable pub ruled_function : Rules → Expander → Surroundings → Sets → Stx → Sets → Symbol → Stx → Step Stx
unfolding made inside add
ruled_function w self here c h ci x body = do
  b ← w.binder here.phase ci x
  in_scope_lem ← w.in_scope b.scope here.phase body
  out ← inside (add b.scope) (self (of_body b (variable b.sets x) here) in_scope_lem)
  made (list c (cons h (cons (atom b.sets (symbol x)) (cons out nil))))

unfoldable pub ruled_lambda : Rules → Expander → Surroundings → Sets → Stx → Stxs → Step Stx
unfolding parts2 identifier ruled_function
ruled_lambda w self here c h l = parts2 l (λ i body. identifier i (λ ci x. ruled_function w self here c h ci x body))

unfoldable pub ruled_application : Rules → Expander → Surroundings → Sets → Stxs → Step Stx
unfolding made inside
ruled_application w self here c l = do
  r ← w.parts (λ x. inside (λ p. p) (self here x)) l
  made (list c r)

unfoldable pub ruled_form : Rules → Expander → Evaluator → Entries → Surroundings → Sets → Stx → Stxs → Meaning → Step Stx
unfolding ruled_lambda expand_let_syntax expand_syntax expand_macro ruled_application parts1
ruled_form w self value d here c h l (core lambda) = ruled_lambda w self here c h l
ruled_form w self value d here c h l (core let_syntax) = expand_let_syntax self value d here l
ruled_form w self value d here c h l (core quote) = parts1 l (λ s. done (list c (cons h l)))
ruled_form w self value d here c h l (core syntax) = expand_syntax here.phase c h l
ruled_form w self value d here c h l (variable b x) = ruled_application w self here c (cons h l)
ruled_form w self value d here c h l (macro v) = expand_macro self value here v (list c (cons h l))
ruled_form w self value d here c h l stopped = done (list c (cons h l))
ruled_form w self value d here c h l unknown = ruled_application w self here c (cons h l)

unfoldable pub ruled_entry : Rules → Expander → Evaluator → Entries → Surroundings → Stx → Step Stx
unfolding resolve_at meaning_among expand_name head_meaning ruled_form
ruled_entry w self value d here (atom c (symbol x)) = do
  n ← resolve_at here.phase c x
  expand_name (w.means c x (meaning_among n here.meanings here.stops))
ruled_entry w self value d here (atom c (number x)) = done (atom c (number x))
ruled_entry w self value d here (atom c (point x)) = done (atom c (point x))
ruled_entry w self value d here (atom c (prim x)) = done (atom c (prim x))
ruled_entry w self value d here (atom c (rung x)) = done (atom c (rung x))
ruled_entry w self value d here (list c nil) = refuse no_rule
ruled_entry w self value d here (list c (cons h l)) = do
  m ← head_meaning here h
  ruled_form w self value d here c h l m

-- evaluating expands by the same rules (request T-08)
unfoldable mutual
  unfolding charge eval_entry ruled_entry

  pub ruled_evaluate : Entries → Rules → Place → Tree → Step Tree
  ruled_evaluate zero w place t = refuse too_many_entries
  ruled_evaluate (suc d) w place t = do
    charge 1
    eval_entry (λ there u. ruled_evaluate d w there u) (λ there x. ruled_expand d w there x) place t

  pub ruled_expand : Entries → Rules → Surroundings → Stx → Step Stx
  ruled_expand zero w here s = refuse too_many_entries
  ruled_expand (suc d) w here s = do
    charge 1
    ruled_entry w (λ there x. ruled_expand d w there x) (λ there u. ruled_evaluate d w there u) d here s

unfoldable pub ruled_root : Rules → Phase → Stx → Step Stx
unfolding charge size ruled_expand most_entries
ruled_root w ph x = do
  charge (size x)
  ruled_expand most_entries w (of_root ph) x

unfoldable pub ruled_ending : Rules → List ℕ → Phase → Units → ℕ → Ending
unfolding at_phase with_image read_image read_syntax worked start ruled_root fitted syntax_bytes reached
ruled_ending w image ph budget room =
    at_phase ph (with_image (read_image read_syntax image) (λ i.
    worked budget (ruled_root w ph i.root (start budget i)) (λ r s.
    fitted room (syntax_bytes (reached i.head s) s.binds r) (budget - s.left))))

unfoldable pub ruled : Rules → Expanding
unfolding lent ruled_ending
ruled w image ph budget table output = lent budget table output (ruled_ending w image ph budget (length output))

-- ---- the rules as defined

unfoldable pub right_rules : Rules
unfolding bind_fresh add_to expand_all
right_rules = record { binder = bind_fresh; in_scope = add_to; means = λ c x m. m; parts = expand_all }

-- ---- one wrong rule each

-- an application's first part expanded, the others copied
unfoldable pub expand_first : (Stx → Step Stx) → Stxs → Step Stxs
expand_first self nil = done nil
expand_first self (cons s l) = do
  t ← self s
  done (cons t l)

unfoldable pub copies_others : Rules
unfolding bind_fresh add_to expand_first
copies_others = record { binder = bind_fresh; in_scope = add_to; means = λ c x m. m; parts = expand_first }

-- the others expanded too, so that their units are charged, and copied all the same
unfoldable pub expand_keep_first : (Stx → Step Stx) → Stxs → Step Stxs
unfolding expand_all
expand_keep_first self nil = done nil
expand_keep_first self (cons s l) = do
  t ← self s
  r ← expand_all self l
  done (cons t l)

unfoldable pub copies_paid : Rules
unfolding bind_fresh add_to expand_keep_first
copies_paid = record { binder = bind_fresh; in_scope = add_to; means = λ c x m. m; parts = expand_keep_first }

-- the fresh name not advanced
unfoldable pub stale_binder : Phase → Sets → Symbol → Step Binder
unfolding fresh_scope charge change_at add bind set_at
stale_binder ph c x = do
  n ← (λ s. ok s.names s)
  k ← fresh_scope
  charge 1
  bind (record { symb = x; target = n; set = set_at ph (change_at (add k) ph c) })
  done (record { name = n; scope = k; sets = change_at (add k) ph c })

unfoldable pub stale_names : Rules
unfolding stale_binder add_to expand_all
stale_names = record { binder = stale_binder; in_scope = add_to; means = λ c x m. m; parts = expand_all }

-- the binder's scope not added to the body
unfoldable pub bare_bodies : Rules
unfolding bind_fresh expand_all
bare_bodies = record { binder = bind_fresh; in_scope = λ k ph x. done x; means = λ c x m. m; parts = expand_all }

-- an identifier answered with itself instead of its binder
unfoldable pub itself : Sets → Symbol → Meaning → Meaning
itself c x (core f) = core f
itself c x (variable b y) = variable c x
itself c x (macro v) = macro v
itself c x stopped = stopped
itself c x unknown = unknown

unfoldable pub own_identifiers : Rules
unfolding bind_fresh add_to itself expand_all
own_identifiers = record { binder = bind_fresh; in_scope = add_to; means = itself; parts = expand_all }
