-- What a step gives or refuses: what holds where it succeeds, and that it is not refused by 3.
use mathlib.Core.Path.{◌≡◌, refl, ◌∙◌, subst}
use Prim.Native.Nat.{ℕ, ◌≤◌}
use native.Mathlib.Nat.{le_refl, le_trans, sub-le}
use mathlib.Core.Bool.{Bool, true, false}
use lib.Dec.{leb}
use Rattle.model.specs.Choice.{when◌then◌else◌}
use Rattle.model.specs.Limits.{most_nesting}
use Rattle.model.specs.Refusals.{Refusal, layout, over_limit, unowned, wrong_kind, small_table, ambiguous, no_meaning, no_rule, no_syntax, not_applicable, wrong_argument, no_phase, no_name_left, no_scope_left, no_binding_left, too_deep, too_many_entries, over_budget, too_long, outside_use}
use Rattle.model.specs.Scopes.{Scopes, no_scopes, add}
use Rattle.model.specs.Objects.{symbol, number, point, prim, rung, Sets, set_at, Stx, atom, list, Stxs, nil, cons, size, nesting, add_scope, flip_scope, prune_scopes}
use Rattle.model.specs.Trees.{Tree, tnesting}
use Rattle.model.specs.Resolving.{Found, means, several, resolve}
use Rattle.model.specs.Competing.{Rivals, no_rivals, rivals}
use Rattle.model.specs.Steps.{State, Out, ok, no, Step, after, unless, charge, made, made_tree, add_to, flip_in, prune_from, carrying, use_scope, inside, name_of, resolve_at, parts1, parts2, parts3, identifier}
use borrow.Author.Tests.{leb-true}
use Rattle.laws.specs.Ordered.{Sorted}
use Rattle.laws.specs.Rivalry.{Told}
use Rattle.laws.proofs.StepLaws.{spend}

-- all but 3; with 6 come two that compete, and with no other refusal
abbrev pub Possible : Refusal → Rivals → Type 0
Possible layout p = p ≡ no_rivals
Possible over_limit p = p ≡ no_rivals
Possible unowned p = ⊥
Possible wrong_kind p = p ≡ no_rivals
Possible small_table p = p ≡ no_rivals
Possible ambiguous p = Told p
Possible no_meaning p = p ≡ no_rivals
Possible no_rule p = p ≡ no_rivals
Possible no_syntax p = p ≡ no_rivals
Possible not_applicable p = p ≡ no_rivals
Possible wrong_argument p = p ≡ no_rivals
Possible no_phase p = p ≡ no_rivals
Possible no_name_left p = p ≡ no_rivals
Possible no_scope_left p = p ≡ no_rivals
Possible no_binding_left p = p ≡ no_rivals
Possible too_deep p = p ≡ no_rivals
Possible too_many_entries p = p ≡ no_rivals
Possible over_budget p = p ≡ no_rivals
Possible too_long p = p ≡ no_rivals
Possible outside_use p = p ≡ no_rivals

-- P of what is given and the state after it
pub data Outcome (A : Type 0) (P : A → State → Type 0) : Out A → Type 0 where
  gives : (a : A) (t : State) → P a t → Outcome A P (ok a t)
  stops : (r : Refusal) (q : Rivals) (u : ℕ) → Possible r q → Outcome A P (no r q u)

pub chain : {A B : Type 0} {P : A → State → Type 0} {Q : B → State → Type 0} {o : Out A} (f : A → Step B) → Outcome A P o
    → ((a : A) (t : State) → P a t → Outcome B Q (f a t)) → Outcome B Q (after o f)
chain f (gives a t p) h = h a t p
chain f (stops r q u p) h = stops r q u p

-- what holds of a step's result says something else
pub weaken : {A : Type 0} {P Q : A → State → Type 0} {o : Out A} → Outcome A P o → ((a : A) (t : State) → P a t → Q a t) → Outcome A Q o
weaken (gives a t p) h = gives a t (h a t p)
weaken (stops r q u p) h = stops r q u p

-- ---- counts and bindings are kept, units are only charged

pub record Kept (s t : State) : Type 0 where
  pub names-is : s.names ≡ t.names
  pub scopes-is : s.scopes ≡ t.scopes
  pub binds-is : s.binds ≡ t.binds
  pub left_le : t.left ≤ s.left

pub kept_refl : (s : State) → Kept s s
kept_refl s = record { names-is = refl; scopes-is = refl; binds-is = refl; left_le = le_refl s.left }

pub kept_same : {s t : State} → s ≡ t → Kept s t
kept_same {s} e = subst (λ (z : State). Kept s z) e (kept_refl s)

pub kept_trans : {s t u : State} → Kept s t → Kept t u → Kept s u
kept_trans p q = record {
  names-is = p.names-is ∙ q.names-is;
  scopes-is = p.scopes-is ∙ q.scopes-is;
  binds-is = p.binds-is ∙ q.binds-is;
  left_le = le_trans q.left_le p.left_le;
}

pub kept_spend : (n : ℕ) (s : State) → Kept s (spend n s)
unfolding spend
kept_spend n s = record { names-is = refl; scopes-is = refl; binds-is = refl; left_le = sub-le s.left n }

-- the prunable set and the use scopes are no part of this
pub kept-carrying : (p u : Scopes) (s : State) → Kept s (carrying p u s)
unfolding carrying
kept-carrying p u s = record { names-is = refl; scopes-is = refl; binds-is = refl; left_le = le_refl s.left }

-- ---- the steps

pub use_scope-out : (k : ℕ) (s : State) → Outcome (Unit {0}) (λ v t. Kept s t) (use_scope k s)
unfolding use_scope
use_scope-out k s = gives tt (carrying (add k s.prunable) (add k s.uses) s) (kept-carrying (add k s.prunable) (add k s.uses) s)

-- an expansion of its own: what holds from a state that differs in the prunable set and the use scopes alone, to one that does
pub inside-out : {A : Type 0} {P : State → A → State → Type 0} {Q : A → State → Type 0} (f : Scopes → Scopes) (m : Step A) (s : State)
    → ((t : State) → Kept s t → Outcome A (P t) (m t)) → ((t : State) → Kept s t → (a : A) (u w : State) → Kept u w → P t a u → Q a w)
    → Outcome A Q (inside f m s)
unfolding inside
inside-out {A} {P} {Q} f m s h back = go (h here kept)
  where
    here : State
    here = carrying (f s.prunable) no_scopes s

    kept : Kept s here
    kept = kept-carrying (f s.prunable) no_scopes s

    go : {o : Out A} → Outcome A (P here) o → Outcome A Q (after o (λ a t. ok a (carrying s.prunable s.uses t)))
    go (gives a u p) = gives a (carrying s.prunable s.uses u) (back here kept a u (carrying s.prunable s.uses u) (kept-carrying s.prunable s.uses u) p)
    go (stops r q u p) = stops r q u p

pub charge-out : (n : ℕ) (s : State) → Outcome (Unit {0}) (λ v t. Kept s t) (charge n s)
unfolding charge spend
charge-out n s = go (leb n s.left)
  where
    go : (b : Bool) → Outcome (Unit {0}) (λ v t. Kept s t) (when b then ok tt (spend n s) else no over_budget no_rivals s.left)
    go true = gives tt (spend n s) (kept_spend n s)
    go false = stops over_budget no_rivals s.left refl

pub unless-out : (r : Refusal) → Possible r no_rivals → (b : Bool) (s : State) → Outcome (Unit {0}) (λ v t. (b ≡ true) × (s ≡ t)) (unless r b s)
unless-out r p true s = gives tt s (refl, refl)
unless-out r p false s = stops r no_rivals s.left p

-- something made, of nesting n, and tested
tested : {A : Type 0} (x : A) (n : ℕ) (s : State)
    → Outcome A (λ y t. (x ≡ y) × (s ≡ t) × (n ≤ most_nesting)) (after (unless too_deep (leb n most_nesting) s) (λ v. λ t. ok x t))
tested {A} x n s = go (leb n most_nesting) refl
  where
    go : (b : Bool) → leb n most_nesting ≡ b → Outcome A (λ y t. (x ≡ y) × (s ≡ t) × (n ≤ most_nesting)) (after (unless too_deep b s) (λ v. λ t. ok x t))
    go true e = gives x s (refl, refl, leb-true n most_nesting e)
    go false e = stops too_deep no_rivals s.left refl

pub made-out : (x : Stx) (s : State) → Outcome Stx (λ y t. (x ≡ y) × (s ≡ t) × (nesting x ≤ most_nesting)) (made x s)
unfolding made
made-out x s = tested x (nesting x) s

pub made_tree-out : (x : Tree) (s : State) → Outcome Tree (λ y t. (x ≡ y) × (s ≡ t) × (tnesting x ≤ most_nesting)) (made_tree x s)
unfolding made_tree
made_tree-out x s = tested x (tnesting x) s

-- what a piece becomes when its scopes are changed
changed : (n : ℕ) (y : Stx) (s : State) → Outcome Stx (λ z t. (y ≡ z) × Kept s t) (after (charge n s) (λ v. λ t. ok y t))
changed n y s = chain _ (charge-out n s) (λ v t k. gives y t (refl, k))

pub add_to-out : (k ph : ℕ) (x : Stx) (s : State) → Outcome Stx (λ y t. (add_scope k ph x ≡ y) × Kept s t) (add_to k ph x s)
unfolding add_to
add_to-out k ph x s = changed (size x) (add_scope k ph x) s

pub flip_in-out : (k ph : ℕ) (x : Stx) (s : State) → Outcome Stx (λ y t. (flip_scope k ph x ≡ y) × Kept s t) (flip_in k ph x s)
unfolding flip_in
flip_in-out k ph x s = changed (size x) (flip_scope k ph x) s

pub prune_from-out : (p : Scopes) (ph : ℕ) (x : Stx) (s : State) → Outcome Stx (λ y t. (prune_scopes p ph x ≡ y) × Kept s t) (prune_from p ph x s)
unfolding prune_from
prune_from-out p ph x s = changed (size x) (prune_scopes p ph x) s

pub resolve_at-out : (ph : ℕ) (c : Sets) (x : ℕ) (s : State) → Sorted s.binds
    → Outcome ℕ (λ n t. (resolve x (set_at ph c) s.binds ≡ means n) × (s ≡ t)) (resolve_at ph c x s)
unfolding resolve_at name_of
resolve_at-out ph c x s o = go (resolve x (set_at ph c) s.binds) refl
  where
    go : (f : Found) → resolve x (set_at ph c) s.binds ≡ f
        → Outcome ℕ (λ n t. (resolve x (set_at ph c) s.binds ≡ means n) × (s ≡ t)) (name_of (rivals x (set_at ph c) s.binds) f s)
    go (means n) e = gives n s (e, refl)
    go several e =
        stops ambiguous (rivals x (set_at ph c) s.binds) s.left
        (record { symb = x; set = set_at ph c; store = s.binds; ascending = o; unclear = e; is = refl })

-- ---- shapes

pub parts1-out : {A : Type 0} {P : A → State → Type 0} (l : Stxs) (f : Stx → Step A) (s : State)
    → ((a : Stx) → l ≡ cons a nil → Outcome A P (f a s)) → Outcome A P (parts1 l f s)
unfolding parts1
parts1-out nil f s h = stops no_rule no_rivals s.left refl
parts1-out (cons a nil) f s h = h a refl
parts1-out (cons a (cons b l)) f s h = stops no_rule no_rivals s.left refl

pub parts2-out : {A : Type 0} {P : A → State → Type 0} (l : Stxs) (f : Stx → Stx → Step A) (s : State)
    → ((a b : Stx) → l ≡ cons a (cons b nil) → Outcome A P (f a b s)) → Outcome A P (parts2 l f s)
unfolding parts2
parts2-out nil f s h = stops no_rule no_rivals s.left refl
parts2-out (cons a nil) f s h = stops no_rule no_rivals s.left refl
parts2-out (cons a (cons b nil)) f s h = h a b refl
parts2-out (cons a (cons b (cons c l))) f s h = stops no_rule no_rivals s.left refl

pub parts3-out : {A : Type 0} {P : A → State → Type 0} (l : Stxs) (f : Stx → Stx → Stx → Step A) (s : State)
    → ((a b c : Stx) → l ≡ cons a (cons b (cons c nil)) → Outcome A P (f a b c s)) → Outcome A P (parts3 l f s)
unfolding parts3
parts3-out nil f s h = stops no_rule no_rivals s.left refl
parts3-out (cons a nil) f s h = stops no_rule no_rivals s.left refl
parts3-out (cons a (cons b nil)) f s h = stops no_rule no_rivals s.left refl
parts3-out (cons a (cons b (cons c nil))) f s h = h a b c refl
parts3-out (cons a (cons b (cons c (cons d l)))) f s h = stops no_rule no_rivals s.left refl

pub identifier-out : {A : Type 0} {P : A → State → Type 0} (x : Stx) (f : Sets → ℕ → Step A) (s : State)
    → ((c : Sets) (n : ℕ) → x ≡ atom c (symbol n) → Outcome A P (f c n s)) → Outcome A P (identifier x f s)
unfolding identifier
identifier-out (atom c (symbol n)) f s h = h c n refl
identifier-out (atom c (number n)) f s h = stops no_rule no_rivals s.left refl
identifier-out (atom c (point n)) f s h = stops no_rule no_rivals s.left refl
identifier-out (atom c (prim n)) f s h = stops no_rule no_rivals s.left refl
identifier-out (atom c (rung n)) f s h = stops no_rule no_rivals s.left refl
identifier-out (list c l) f s h = stops no_rule no_rivals s.left refl
