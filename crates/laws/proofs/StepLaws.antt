-- What a step that succeeds says of its parts.
use mathlib.Core.Path.{◌≡◌, refl, subst}
use Prim.Native.Nat.{ℕ, ◌-◌, ◌≤◌}
use mathlib.Core.Bool.{Bool, true, false}
use lib.Dec.{leb}
use Rattle.model.specs.Choice.{when◌then◌else◌}
use Rattle.model.specs.Refusals.{Refusal, ambiguous, over_budget}
use Rattle.model.specs.Objects.{Sets, set_at}
use Rattle.model.specs.Resolving.{means, several, resolve}
use Rattle.model.specs.Competing.{Rivals, no_rivals, rivals}
use Rattle.model.specs.Steps.{State, Out, ok, no, Step, after, charge, name_of, resolve_at}
use borrow.Author.Tests.{leb-true}

pub no≢ok : {A : Type 0} (c : Refusal) {p : Rivals} (u : ℕ) (a : A) (s : State) → no c p u ≡ ok a s → ⊥
no≢ok c u a s e = subst code e tt
  where
    code : {A : Type 0} → Out A → Type 0
    code (no d q v) = Unit {0}
    code (ok b t) = ⊥

pub ok-value : {A : Type 0} (a b : A) (s t : State) → ok a s ≡ ok b t → a ≡ b
ok-value a b s t e = cc

pub ok-state : {A : Type 0} (a b : A) (s t : State) → ok a s ≡ ok b t → s ≡ t
ok-state a b s t e = cc

-- both steps of a sequence succeed
pub both_ok : {A B : Type 0} (o : Out A) (f : A → Step B) (b : B) (t : State) → after o f ≡ ok b t
    → (a : A) × (s : State) × (o ≡ ok a s) × (f a s ≡ ok b t)
both_ok (ok a s) f b t e = (a, s, refl, e)
both_ok (no c p u) f b t e = absurd (no≢ok c u b t e)

-- ---- units

-- n units charged
unfoldable pub spend : ℕ → State → State
spend n s = record { left = s.left - n; names = s.names; scopes = s.scopes; binds = s.binds; prunable = s.prunable; uses = s.uses }

pub charge-ok : (n : ℕ) (v : Unit {0}) (s t : State) → charge n s ≡ ok v t → (n ≤ s.left) × (spend n s ≡ t)
unfolding charge spend
charge-ok n v s t e = go (leb n s.left) refl e
  where
    go : (b : Bool) → leb n s.left ≡ b → (when b then ok tt (spend n s) else no over_budget no_rivals s.left) ≡ ok v t → (n ≤ s.left) × (spend n s ≡ t)
    go true q f = (leb-true n s.left q, ok-state tt v (spend n s) t f)
    go false q f = absurd (no≢ok over_budget s.left v t f)

-- ---- resolving

pub resolve_at-is : (ph : ℕ) (c : Sets) (x n : ℕ) (s : State) → resolve x (set_at ph c) s.binds ≡ means n → resolve_at ph c x s ≡ ok n s
unfolding resolve_at name_of
resolve_at-is ph c x n s e = rw e

pub resolve_at-several : (ph : ℕ) (c : Sets) (x : ℕ) (s : State) → resolve x (set_at ph c) s.binds ≡ several
    → resolve_at ph c x s ≡ no ambiguous (rivals x (set_at ph c) s.binds) s.left
unfolding resolve_at name_of
resolve_at-several ph c x s e = rw e
