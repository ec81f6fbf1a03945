-- Document 01, 'Expanding', its first paragraph, for expand, parse and evaluate alike: a job's state, what is charged, tested and
-- made, and fresh names and scopes.
use Rattle.std.specs.Prelude.{ℕ, ◌+◌, ◌-◌, Bool, true, false, List, ltb, leb, length}
use Rattle.model.specs.Choice.{when◌then◌else◌}
use Rattle.model.specs.Limits.{most_names, most_scopes, most_bindings, most_nesting}
use Rattle.model.specs.Refusals.{Refusal, ambiguous, no_rule, no_name_left, no_scope_left, no_binding_left, too_deep, over_budget}
use Rattle.model.specs.Scopes.{Scope, Scopes, no_scopes, add}
use Rattle.model.specs.Objects.{Name, Symbol, Phase, Sets, set_at, Atom, symbol, Stx, atom, list, Stxs, nil, cons, size, nesting, add_scope, flip_scope, prune_scopes}
use Rattle.model.specs.Trees.{Tree, tnesting}
use Rattle.model.specs.Resolving.{Bind, insert, Found, means, several, resolve}
use Rattle.model.specs.Competing.{Rivals, no_rivals, rivals}

abbrev pub Units : Type 0
Units = ℕ

-- entries to spare
abbrev pub Entries : Type 0
Entries = ℕ

-- units not yet charged; names and scopes reached: the next name is `names`, the next scope is `scopes + 1`; the bindings,
-- ascending; and the prunable set and the use scopes of the expansion in progress, which source document 000 hands on with the store
pub record State : Type 0 where
  pub left : Units
  pub names : ℕ
  pub scopes : ℕ
  pub binds : List Bind
  pub prunable : Scopes
  pub uses : Scopes

-- a value and the new state, or a refusal, the bindings that compete where it is 6, and the units not charged
pub data Out (A : Type 0) : Type 0 where
  ok : A → State → Out A
  no : Refusal → Rivals → Units → Out A

abbrev pub Step : Type 0 → Type 0
Step A = State → Out A

abbrev pub after : {A B : Type 0} → Out A → (A → Step B) → Out B
after (ok a s) f = f a s
after (no c p u) f = no c p u

infixl 10 ◌>>=◌
infixl 10 ◌>>◌
abbrev pub ◌>>=◌ : {A B : Type 0} → Step A → (A → Step B) → Step B
◌>>=◌ m f = λ s. after (m s) f

abbrev pub ◌>>◌ : {A B : Type 0} → Step A → Step B → Step B
◌>>◌ m n = λ s. after (m s) (λ a. n)

abbrev pub done : {A : Type 0} → A → Step A
done a = λ s. ok a s

abbrev pub refuse : {A : Type 0} → Refusal → Step A
refuse c = λ s. no c no_rivals s.left

-- refusal c unless the test holds
abbrev pub unless : Refusal → Bool → Step (Unit {0})
unless c true = done tt
unless c false = refuse c

-- ---- units

unfoldable pub charge : Units → Step (Unit {0})
charge n = λ s.
    when leb n s.left
    then ok tt (record { left = s.left - n; names = s.names; scopes = s.scopes; binds = s.binds; prunable = s.prunable; uses = s.uses })
    else no over_budget no_rivals s.left

-- ---- what is made is tested

unfoldable pub made : Stx → Step Stx
unfolding nesting most_nesting
made x = do
  unless too_deep (leb (nesting x) most_nesting)
  done x

unfoldable pub made_tree : Tree → Step Tree
unfolding tnesting most_nesting
made_tree t = do
  unless too_deep (leb (tnesting t) most_nesting)
  done t

-- ---- scopes of a piece at a phase. A change of sets changes no nesting, so it needs no test for 17: `add_scope_nesting`, `flip_scope-nesting` and
-- `prune_scopes-nesting` (`addresses/proofs/Fitting`).

unfoldable pub add_to : Scope → Phase → Stx → Step Stx
unfolding charge size add_scope
add_to k ph x = do
  charge (size x)
  done (add_scope k ph x)

unfoldable pub flip_in : Scope → Phase → Stx → Step Stx
unfolding charge size flip_scope
flip_in k ph x = do
  charge (size x)
  done (flip_scope k ph x)

unfoldable pub prune_from : Scopes → Phase → Stx → Step Stx
unfolding charge size prune_scopes
prune_from p ph x = do
  charge (size x)
  done (prune_scopes p ph x)

-- ---- the next name and the next scope

unfoldable pub fresh_name : Step Name
unfolding most_names
fresh_name = λ s.
    when ltb s.names most_names
    then ok s.names (record { left = s.left; names = s.names + 1; scopes = s.scopes; binds = s.binds; prunable = s.prunable; uses = s.uses })
    else no no_name_left no_rivals s.left

unfoldable pub fresh_scope : Step Scope
unfolding most_scopes
fresh_scope = λ s.
    when ltb s.scopes most_scopes
    then ok (s.scopes + 1) (record { left = s.left; names = s.names; scopes = s.scopes + 1; binds = s.binds; prunable = s.prunable; uses = s.uses })
    else no no_scope_left no_rivals s.left

-- ---- the prunable set and the use scopes of the expansion in progress

unfoldable pub prunable_now : Step Scopes
prunable_now = λ s. ok s.prunable s

-- request T-08: primitive 9 takes these off
unfoldable pub uses_now : Step Scopes
uses_now = λ s. ok s.uses s

unfoldable pub carrying : Scopes → Scopes → State → State
carrying p u s = record { left = s.left; names = s.names; scopes = s.scopes; binds = s.binds; prunable = p; uses = u }

-- k is prunable and a use scope for the rest of the expansion in progress
unfoldable pub use_scope : Scope → Step (Unit {0})
unfolding carrying add
use_scope k = λ s. ok tt (carrying (add k s.prunable) (add k s.uses) s)

-- m as an expansion of its own: with f of the prunable set and no use scopes, and afterwards with those of before
unfoldable pub inside : {A : Type 0} → (Scopes → Scopes) → Step A → Step A
unfolding carrying
inside f m = λ s. after (m (carrying (f s.prunable) no_scopes s)) (λ a t. ok a (carrying s.prunable s.uses t))

-- ---- bindings

-- the symbol and set of a binder are not bound yet, since it has just received a fresh scope: `no_binder_is_bound` (crate `addresses`)
unfoldable pub bind : Bind → Step (Unit {0})
unfolding most_bindings insert
bind b = λ s.
    when ltb (length s.binds) most_bindings
    then ok tt (record { left = s.left; names = s.names; scopes = s.scopes; binds = insert b s.binds; prunable = s.prunable; uses = s.uses })
    else no no_binding_left no_rivals s.left

-- where several fit and none contains the others, p competes
unfoldable pub name_of : Rivals → Found → Step Name
name_of p (means n) = done n
name_of p several = λ s. no ambiguous p s.left

-- the name of the identifier with symbol x and sets c
unfoldable pub resolve_at : Phase → Sets → Symbol → Step Name
unfolding name_of resolve rivals set_at
resolve_at ph c x = λ s. name_of (rivals x (set_at ph c) s.binds) (resolve x (set_at ph c) s.binds) s

-- ---- shapes: refusal 8 unless the list has exactly so many parts, or the object is an identifier

unfoldable pub parts1 : {A : Type 0} → Stxs → (Stx → Step A) → Step A
parts1 nil f = refuse no_rule
parts1 (cons a nil) f = f a
parts1 (cons a (cons b l)) f = refuse no_rule

unfoldable pub parts2 : {A : Type 0} → Stxs → (Stx → Stx → Step A) → Step A
parts2 nil f = refuse no_rule
parts2 (cons a nil) f = refuse no_rule
parts2 (cons a (cons b nil)) f = f a b
parts2 (cons a (cons b (cons c l))) f = refuse no_rule

unfoldable pub parts3 : {A : Type 0} → Stxs → (Stx → Stx → Stx → Step A) → Step A
parts3 nil f = refuse no_rule
parts3 (cons a nil) f = refuse no_rule
parts3 (cons a (cons b nil)) f = refuse no_rule
parts3 (cons a (cons b (cons c nil))) f = f a b c
parts3 (cons a (cons b (cons c (cons d l)))) f = refuse no_rule

unfoldable pub identifier : {A : Type 0} → Stx → (Sets → Symbol → Step A) → Step A
identifier (atom c (symbol x)) f = f c x
identifier (atom c (Atom.number x)) f = refuse no_rule
identifier (atom c (Atom.point x)) f = refuse no_rule
identifier (atom c (Atom.prim x)) f = refuse no_rule
identifier (atom c (Atom.rung x)) f = refuse no_rule
identifier (list c l) f = refuse no_rule
