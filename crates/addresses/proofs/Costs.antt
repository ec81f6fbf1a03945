-- A step that gives one thing for a fixed number of units, or is refused by 19 where they do not remain.
use mathlib.Core.Path.{◌≡◌, refl, sym, ap, subst}
use Prim.Native.Nat.{ℕ, ◌+◌, ◌-◌, ◌≤◌, ◌<◌, zero-le}
use native.Mathlib.Omega.{arith}
use mathlib.Core.Bool.{Bool, true, false}
use lib.Dec.{leb}
use Rattle.model.specs.Choice.{when◌then◌else◌}
use Rattle.model.specs.Refusals.{over_budget}
use Rattle.model.specs.Competing.{no_rivals}
use Rattle.model.specs.Steps.{State, Out, ok, no, Step, after, charge}
use borrow.Author.Tests.{leb-true, leb-false}
use Rattle.laws.proofs.StepLaws.{spend}

pub spend_spend : (a b : ℕ) (s : State) → spend b (spend a s) ≡ spend (a + b) s
unfolding spend
spend_spend a b s =
    ap (λ (z : ℕ). record { left = z; names = s.names; scopes = s.scopes; binds = s.binds; prunable = s.prunable; uses = s.uses }) (cut s.left)
  where
    cut : (n : ℕ) → n - a - b ≡ n - (a + b)
    cut n = omega arith

nothing-spent : (s : State) → spend 0 s ≡ s
unfolding spend
nothing-spent s = ap (λ (z : ℕ). record { left = z; names = s.names; scopes = s.scopes; binds = s.binds; prunable = s.prunable; uses = s.uses }) (same_left s.left)
  where
    same_left : (n : ℕ) → n - 0 ≡ n
    same_left n = omega arith

-- a for u units, from the state s
pub data Costs (A : Type 0) (a : A) (u : ℕ) (s : State) : Out A → Type 0 where
  paid : u ≤ s.left → Costs A a u s (ok a (spend u s))
  short : (v : ℕ) → s.left < u → Costs A a u s (no over_budget no_rivals v)

pub free : {A : Type 0} (a : A) (s : State) → Costs A a 0 s (ok a s)
free {A} a s = subst (λ (z : State). Costs A a 0 s (ok a z)) (nothing-spent s) (paid zero-le)

pub charge_costs : (n : ℕ) (s : State) → Costs (Unit {0}) tt n s (charge n s)
unfolding charge spend
charge_costs n s = go (leb n s.left) refl
  where
    go : (b : Bool) → leb n s.left ≡ b → Costs (Unit {0}) tt n s (when b then ok tt (spend n s) else no over_budget no_rivals s.left)
    go true e = paid (leb-true n s.left e)
    go false e = short s.left (leb-false n s.left e)

-- w units after u
later-paid : {B : Type 0} {b : B} {w : ℕ} (u : ℕ) (s : State) → u ≤ s.left → {o : Out B} → Costs B b w (spend u s) o → Costs B b (u + w) s o
unfolding spend
later-paid {B} {b} {w} u s h (paid q) =
    subst (λ (z : State). Costs B b (u + w) s (ok b z)) (sym (spend_spend u w s)) (paid (both s.left h q))
  where
    both : (n : ℕ) → u ≤ n → w ≤ n - u → u + w ≤ n
    both n p q = omega arith
later-paid {B} {b} {w} u s h (short v q) = short v (over s.left h q)
  where
    over : (n : ℕ) → u ≤ n → n - u < w → n < u + w
    over n p q = omega arith

pub costs_then : {A B : Type 0} {a : A} {b : B} {u w : ℕ} {s : State} {o : Out A} (f : A → Step B) → Costs A a u s o
    → Costs B b w (spend u s) (f a (spend u s)) → Costs B b (u + w) s (after o f)
costs_then {u = u} {s = s} f (paid h) k = later-paid u s h k
costs_then {u = u} {w = w} {s = s} f (short v h) k = short v (more s.left h)
  where
    more : (n : ℕ) → n < u → n < u + w
    more n p = omega arith

pub costs_map : {A B : Type 0} {a : A} {u : ℕ} {s : State} {o : Out A} (g : A → B) → Costs A a u s o
    → Costs B (g a) u s (after o (λ x. λ t. ok (g x) t))
costs_map g (paid h) = paid h
costs_map g (short v h) = short v h

-- enough units, or not enough
pub costs_enough : {A : Type 0} {a : A} {u : ℕ} {s : State} {o : Out A} → Costs A a u s o → u ≤ s.left → o ≡ ok a (spend u s)
costs_enough (paid h) q = refl
costs_enough {u = u} {s = s} (short v h) q = absurd (clash u s.left h q)
  where
    clash : (a b : ℕ) → b < a → a ≤ b → ⊥
    clash a b p q = omega arith

pub costs_short : {A : Type 0} {a : A} {u : ℕ} {s : State} {o : Out A} → Costs A a u s o → s.left < u → (v : ℕ) × (o ≡ no over_budget no_rivals v)
costs_short {u = u} {s = s} (paid h) q = absurd (clash u s.left h q)
  where
    clash : (a b : ℕ) → a ≤ b → b < a → ⊥
    clash a b p q = omega arith
costs_short (short v h) q = (v, refl)
