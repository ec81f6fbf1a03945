-- States that keep the limits, and how expanding makes them grow: counts rise, bindings come with newer scopes, units fall, and
-- every limit that held still holds.
use mathlib.Core.Path.{◌≡◌, refl, sym, ap, ◌∙◌, subst}
use mathlib.Core.Logic.{inl, inr}
use Prim.Native.Nat.{ℕ, zero, suc, ◌+◌, ◌-◌, ◌^◌, ◌≤◌, ◌<◌}
use native.Mathlib.Nat.{le_refl, le_trans, le_of_eq, sub-le}
use native.Mathlib.Numerals.{add-one}
use native.Mathlib.Omega.{arith}
use mathlib.Core.Bool.{Bool, true, false}
use mathlib.Core.List.{List, [], ◌∷◌}
use lib.Dec.{eqb, leb, ltb}
use lib.ListN.{length}
use Rattle.model.specs.Choice.{when◌then◌else◌}
use Rattle.model.specs.Limits.{most_names, most_scopes, most_bindings}
use Rattle.model.specs.Refusals.{no_name_left, no_scope_left, no_binding_left, over_budget}
use Rattle.model.specs.Scopes.{Scopes, has, add}
use Rattle.model.specs.Objects.{Sets, set_at, change_at}
use Rattle.model.specs.Resolving.{Bind, bind_before, insert}
use Rattle.model.specs.Competing.{no_rivals}
use Rattle.model.specs.Steps.{State, ok, no, Step, after, charge, fresh_name, fresh_scope, bind}
use Rattle.model.specs.Expanding.{Binder, bind_fresh}
use Rattle.laws.specs.Ordered.{SetsIn, Sorted}
use Rattle.laws.proofs.Members.{Small}
use borrow.Author.Tests.{ltb-true, eq-eqb}
use Rattle.laws.proofs.Tests.{or_left}
use Rattle.laws.proofs.ScopeSets.{has-add}
use Rattle.laws.proofs.ResolveRule.{In}
use Rattle.laws.proofs.Order.{sorted_keys}
use Rattle.laws.proofs.Store.{insert_sorted}
use Rattle.laws.proofs.Stable.{New, Unbound, Later, same, more, later_trans, insert-new, fresh_unbound, Keys}
use Rattle.laws.proofs.StepLaws.{spend}
use Rattle.codec_laws.specs.WellFormed.{BindFits, BindsFit}
use Rattle.addresses.proofs.Outcomes.{Outcome, gives, stops, Kept}
use Rattle.addresses.proofs.Fitting.{set_more, sets_more, change_at_in, add_in}

-- ---- bindings that keep the limits

pub binds_in : (k n m : ℕ) (l : List Bind) → BindsFit k n m l → (b : Bind) → In b l → BindFits k n m b
binds_in k n m [] f b i = absurd i
binds_in k n m (c ∷ l) f b (inl e) = subst (λ (z : Bind). BindFits k n m z) (sym e) f.0
binds_in k n m (c ∷ l) f b (inr i) = binds_in k n m l f.1 b i

binds-more : (k : ℕ) {n n' m m' : ℕ} → n ≤ n' → m ≤ m' → (l : List Bind) → BindsFit k n m l → BindsFit k n' m' l
binds-more k g h [] f = tt
binds-more k g h (b ∷ l) f = ((f.0.0, le_trans f.0.1 g, set_more h b.set f.0.2), binds-more k g h l f.1)

insert-fits : (k n m : ℕ) (b : Bind) (l : List Bind) → BindFits k n m b → BindsFit k n m l → BindsFit k n m (insert b l)
unfolding insert
insert-fits k n m b [] f g = (f, tt)
insert-fits k n m b (c ∷ l) f g = go (bind_before b c) (insert-fits k n m b l f g.1)
  where
    go : (t : Bool) → BindsFit k n m (insert b l) → BindsFit k n m (when t then b ∷ c ∷ l else c ∷ insert b l)
    go true r = (f, g)
    go false r = (g.0, r)

pub insert-length : (b : Bind) (l : List Bind) → length (insert b l) ≡ suc (length l)
unfolding insert
insert-length b [] = refl
insert-length b (c ∷ l) = go (bind_before b c) (insert-length b l)
  where
    go : (t : Bool) → length (insert b l) ≡ suc (length l) → length (when t then b ∷ c ∷ l else c ∷ insert b l) ≡ suc (suc (length l))
    go true r = refl
    go false r = ap suc r

-- ---- states, where k symbols are declared

pub record StateFits (k : ℕ) (s : State) : Type 0 where
  pub core-first : 4 ≤ k
  pub names-from : k ≤ s.names
  pub names-to : s.names ≤ most_names
  pub scopes-to : s.scopes ≤ most_scopes
  pub binds-fit : BindsFit k s.names s.scopes s.binds
  pub ascending : Sorted s.binds
  pub few : length s.binds ≤ most_bindings

pub keys : (k : ℕ) (s : State) → StateFits k s → Keys s.binds
keys k s f = sorted_keys s.binds f.ascending

pub record Grows (k : ℕ) (s t : State) : Type 0 where
  pub names_le : s.names ≤ t.names
  pub scopes_le : s.scopes ≤ t.scopes
  -- each binding made holds a scope newer than all of s
  pub later : Later s.scopes s.binds t.binds
  pub left_le : t.left ≤ s.left
  pub keeps : StateFits k s → StateFits k t

pub grows-refl : (k : ℕ) (s : State) → Grows k s s
grows-refl k s =
    record { names_le = le_refl s.names; scopes_le = le_refl s.scopes; later = same; left_le = le_refl s.left; keeps = λ f. f }

pub grows_trans : (k : ℕ) (s t u : State) → Grows k s t → Grows k t u → Grows k s u
grows_trans k s t u p q = record {
  names_le = le_trans p.names_le q.names_le;
  scopes_le = le_trans p.scopes_le q.scopes_le;
  later = later_trans s.scopes t.scopes s.binds t.binds u.binds p.scopes_le p.later q.later;
  left_le = le_trans q.left_le p.left_le;
  keeps = λ f. q.keeps (p.keeps f);
}

fits_kept : (k : ℕ) (s t : State) → Kept s t → StateFits k s → StateFits k t
fits_kept k s t w f = record {
  core-first = f.core-first;
  names-from = subst (λ (z : ℕ). k ≤ z) w.names-is f.names-from;
  names-to = subst (λ (z : ℕ). z ≤ most_names) w.names-is f.names-to;
  scopes-to = subst (λ (z : ℕ). z ≤ most_scopes) w.scopes-is f.scopes-to;
  binds-fit = subst (λ (z : List Bind). BindsFit k t.names t.scopes z) w.binds-is
      (subst (λ (z : ℕ). BindsFit k z t.scopes s.binds) w.names-is (subst (λ (z : ℕ). BindsFit k s.names z s.binds) w.scopes-is f.binds-fit));
  ascending = subst Sorted w.binds-is f.ascending;
  few = subst (λ (z : List Bind). length z ≤ most_bindings) w.binds-is f.few;
}

pub kept-grows : (k : ℕ) (s t : State) → Kept s t → Grows k s t
kept-grows k s t w = record {
  names_le = le_of_eq w.names-is;
  scopes_le = le_of_eq w.scopes-is;
  later = subst (λ (z : List Bind). Later s.scopes s.binds z) w.binds-is same;
  left_le = w.left_le;
  keeps = fits_kept k s t w;
}

-- ---- a fresh scope

with_scope : State → State
with_scope s = record { left = s.left; names = s.names; scopes = s.scopes + 1; binds = s.binds; prunable = s.prunable; uses = s.uses }

up : (n : ℕ) → n ≤ n + 1
up n = omega arith

scope-fits : (k : ℕ) (s : State) → s.scopes < most_scopes → StateFits k s → StateFits k (with_scope s)
unfolding with_scope
scope-fits k s h f = record {
  core-first = f.core-first;
  names-from = f.names-from;
  names-to = f.names-to;
  scopes-to = le_trans (le_of_eq (add-one s.scopes)) h;
  binds-fit = binds-more k (le_refl s.names) (up s.scopes) s.binds f.binds-fit;
  ascending = f.ascending;
  few = f.few;
}

pub fresh_scope-out : (k : ℕ) (s : State) → Outcome ℕ (λ j t. Grows k s t × (j ≤ t.scopes)) (fresh_scope s)
unfolding fresh_scope with_scope
fresh_scope-out k s = go (ltb s.scopes most_scopes) refl
  where
    grown : s.scopes < most_scopes → Grows k s (with_scope s)
    grown h = record { names_le = le_refl s.names; scopes_le = up s.scopes; later = same; left_le = le_refl s.left; keeps = scope-fits k s h }

    go : (b : Bool) → ltb s.scopes most_scopes ≡ b
        → Outcome ℕ (λ j t. Grows k s t × (j ≤ t.scopes)) (when b then ok (s.scopes + 1) (with_scope s) else no no_scope_left no_rivals s.left)
    go true e = gives (s.scopes + 1) (with_scope s) (grown (ltb-true s.scopes most_scopes e), le_refl (s.scopes + 1))
    go false e = stops no_scope_left no_rivals s.left refl

-- ---- a fresh binder

-- the binding of symbol x with sets c, and the state in which it is made
unfoldable pub new_bind : ℕ → Sets → ℕ → State → Bind
new_bind ph c x s = record { symb = x; target = s.names; set = set_at ph (change_at (add (s.scopes + 1)) ph c) }

with_bind : ℕ → Sets → ℕ → State → State
with_bind ph c x s =
    record { left = s.left - 1; names = s.names + 1; scopes = s.scopes + 1; binds = insert (new_bind ph c x s) s.binds; prunable = s.prunable; uses = s.uses }

set-changed : (f : Scopes → Scopes) (ph : ℕ) (c : Sets) → set_at ph (change_at f ph c) ≡ f (set_at ph c)
unfolding set_at change_at
set-changed f zero c = refl
set-changed f (suc zero) c = refl
set-changed f (suc (suc p)) c = refl

pub set_at_in : (ph n : ℕ) (c : Sets) → SetsIn n c → set_at ph c < 2 ^ n
unfolding set_at
set_at_in zero n c i = i.0
set_at_in (suc zero) n c i = i.1
set_at_in (suc (suc p)) n c i = i.2

has_own : (j : ℕ) (a : Scopes) → has (suc j) (add (suc j) a) ≡ true
has_own j a = has-add (suc j) j a ∙ or_left (eqb (suc j) (suc j)) (has (suc j) a) (eq-eqb (suc j) (suc j) refl)

pub binder-set : (ph : ℕ) (c : Sets) (x : ℕ) (s : State) → (new_bind ph c x s).set ≡ add (s.scopes + 1) (set_at ph c)
unfolding new_bind
binder-set ph c x s = set-changed (add (s.scopes + 1)) ph c

-- its set holds the fresh scope, which no set made before has
bind-new : (ph : ℕ) (c : Sets) (x : ℕ) (s : State) → New s.scopes (new_bind ph c x s)
unfolding new_bind
bind-new ph c x s = record { scope = suc s.scopes; above = le_refl (suc s.scopes); has_it = own }
  where
    own : has (suc s.scopes) (set_at ph (change_at (add (s.scopes + 1)) ph c)) ≡ true
    own =
        ap (has (suc s.scopes)) (set-changed (add (s.scopes + 1)) ph c)
        ∙ ap (λ (z : ℕ). has (suc s.scopes) (add z (set_at ph c))) (add-one s.scopes) ∙ has_own s.scopes (set_at ph c)

binder-sets : (ph : ℕ) (c : Sets) (s : State) → SetsIn s.scopes c → SetsIn (s.scopes + 1) (change_at (add (s.scopes + 1)) ph c)
binder-sets ph c s i =
    change_at_in (s.scopes + 1) (add (s.scopes + 1)) (add_in (s.scopes + 1) (s.scopes + 1) (le_refl (s.scopes + 1))) ph c
    (sets_more (up s.scopes) c i)

-- so its symbol and set are not bound yet
pub bind_unbound : (k ph : ℕ) (c : Sets) (x : ℕ) (s : State) → StateFits k s → Unbound (new_bind ph c x s) s.binds
bind_unbound k ph c x s f =
    fresh_unbound s.scopes (new_bind ph c x s) (bind-new ph c x s) s.binds
    (λ d i. (binds_in k s.names s.scopes s.binds f.binds-fit d i).2)

bind-fits : (k ph : ℕ) (c : Sets) (x : ℕ) (s : State) → x < k → SetsIn s.scopes c → s.names < most_names → s.scopes < most_scopes
    → length s.binds < most_bindings → StateFits k s → StateFits k (with_bind ph c x s)
unfolding with_bind new_bind most_scopes
bind-fits k ph c x s hx i hn hs hb f = record {
  core-first = f.core-first;
  names-from = le_trans f.names-from (up s.names);
  names-to = le_trans (le_of_eq (add-one s.names)) hn;
  scopes-to = le_trans (le_of_eq (add-one s.scopes)) hs;
  binds-fit = insert-fits k (s.names + 1) (s.scopes + 1) B s.binds (hx, le_of_eq (sym (add-one s.names)), small)
      (binds-more k (up s.names) (up s.scopes) s.binds f.binds-fit);
  ascending = insert_sorted B s.binds (set_more (le_trans (le_of_eq (add-one s.scopes)) hs) B.set small) unlike f.ascending;
  few = le_trans (le_of_eq (insert-length B s.binds)) hb;
}
  where
    B : Bind
    B = record { symb = x; target = s.names; set = set_at ph (change_at (add (s.scopes + 1)) ph c) }

    small : set_at ph (change_at (add (s.scopes + 1)) ph c) < 2 ^ (s.scopes + 1)
    small = set_at_in ph (s.scopes + 1) (change_at (add (s.scopes + 1)) ph c) (binder-sets ph c s i)

    unlike : (d : Bind) → In d s.binds → Small d.set × (B.symb ≡ d.symb → B.set ≡ d.set → ⊥)
    unlike d j = (
      set_more f.scopes-to d.set (binds_in k s.names s.scopes s.binds f.binds-fit d j).2,
      bind_unbound k ph c x s f d j,
    )

-- what a fresh binder says
pub record Bound (k ph : ℕ) (x : ℕ) (s : State) (b : Binder) (t : State) : Type 0 where
  pub name-is : b.name ≡ s.names
  pub names-is : t.names ≡ suc s.names
  pub scope_le : b.scope ≤ t.scopes
  pub grows : Grows k s t
  pub sets_in : SetsIn t.scopes b.sets
  pub bound_in : In (record { symb = x; target = b.name; set = set_at ph b.sets }) t.binds

binder : ℕ → Sets → State → Binder
binder ph c s = record { name = s.names; scope = s.scopes + 1; sets = change_at (add (s.scopes + 1)) ph c }

binder_bound : (k ph : ℕ) (c : Sets) (x : ℕ) (s : State) → StateFits k s → x < k → SetsIn s.scopes c → s.names < most_names → s.scopes < most_scopes
    → length s.binds < most_bindings → Bound k ph x s (binder ph c s) (with_bind ph c x s)
unfolding binder with_bind new_bind
binder_bound k ph c x s f hx i hn hs hb = record {
  name-is = refl;
  names-is = add-one s.names;
  scope_le = le_refl (s.scopes + 1);
  grows = record {
    names_le = up s.names;
    scopes_le = up s.scopes;
    later = more (new_bind ph c x s) (bind-new ph c x s) (bind_unbound k ph c x s f) same;
    left_le = sub-le s.left 1;
    keeps = bind-fits k ph c x s hx i hn hs hb;
  };
  sets_in = binder-sets ph c s i;
  bound_in = insert-new (new_bind ph c x s) s.binds;
}

-- the four steps of a binder, each with what comes after it

with_name : State → State
with_name s = record { left = s.left; names = s.names + 1; scopes = s.scopes; binds = s.binds; prunable = s.prunable; uses = s.uses }

name_then : {B : Type 0} {Q : B → State → Type 0} (f : ℕ → Step B) (s : State)
    → (s.names < most_names → Outcome B Q (f s.names (with_name s))) → Outcome B Q (after (fresh_name s) f)
unfolding fresh_name with_name
name_then {B} {Q} f s h = go (ltb s.names most_names) refl
  where
    go : (b : Bool) → ltb s.names most_names ≡ b → Outcome B Q (after (when b then ok s.names (with_name s) else no no_name_left no_rivals s.left) f)
    go true e = h (ltb-true s.names most_names e)
    go false e = stops no_name_left no_rivals s.left refl

scope_then : {B : Type 0} {Q : B → State → Type 0} (f : ℕ → Step B) (s : State)
    → (s.scopes < most_scopes → Outcome B Q (f (s.scopes + 1) (with_scope s))) → Outcome B Q (after (fresh_scope s) f)
unfolding fresh_scope with_scope
scope_then {B} {Q} f s h = go (ltb s.scopes most_scopes) refl
  where
    go : (b : Bool) → ltb s.scopes most_scopes ≡ b → Outcome B Q (after (when b then ok (s.scopes + 1) (with_scope s) else no no_scope_left no_rivals s.left) f)
    go true e = h (ltb-true s.scopes most_scopes e)
    go false e = stops no_scope_left no_rivals s.left refl

charge_then : {B : Type 0} {Q : B → State → Type 0} (n : ℕ) (f : Unit {0} → Step B) (s : State)
    → Outcome B Q (f tt (spend n s)) → Outcome B Q (after (charge n s) f)
unfolding charge spend
charge_then {B} {Q} n f s h = go (leb n s.left)
  where
    go : (b : Bool) → Outcome B Q (after (when b then ok tt (spend n s) else no over_budget no_rivals s.left) f)
    go true = h
    go false = stops over_budget no_rivals s.left refl

bind_then : {B : Type 0} {Q : B → State → Type 0} (b : Bind) (f : Unit {0} → Step B) (s : State)
    → (length s.binds < most_bindings → Outcome B Q (f tt (record { left = s.left; names = s.names; scopes = s.scopes; binds = insert b s.binds; prunable = s.prunable; uses = s.uses })))
    → Outcome B Q (after (bind b s) f)
unfolding bind
bind_then {B} {Q} b f s h = go (ltb (length s.binds) most_bindings) refl
  where
    t : State
    t = record { left = s.left; names = s.names; scopes = s.scopes; binds = insert b s.binds; prunable = s.prunable; uses = s.uses }

    go : (x : Bool) → ltb (length s.binds) most_bindings ≡ x → Outcome B Q (after (when x then ok tt t else no no_binding_left no_rivals s.left) f)
    go true e = h (ltb-true (length s.binds) most_bindings e)
    go false e = stops no_binding_left no_rivals s.left refl

pub bind_fresh-out : (k ph : ℕ) (c : Sets) (x : ℕ) (s : State) → StateFits k s → x < k → SetsIn s.scopes c
    → Outcome Binder (Bound k ph x s) (bind_fresh ph c x s)
unfolding bind_fresh with_name with_scope spend binder with_bind new_bind
bind_fresh-out k ph c x s f hx i =
    name_then _ s (λ hn. scope_then _ (with_name s) (λ hs. charge_then 1 _ (with_scope (with_name s))
    (bind_then (new_bind ph c x s) _ (spend 1 (with_scope (with_name s)))
    (λ hb. gives (binder ph c s) (with_bind ph c x s) (binder_bound k ph c x s f hx i hn hs hb)))))
