-- Who competes, test by test and place by place; and what resolving decides.
use mathlib.Core.Path.{◌≡◌, refl, sym, ap, ◌∙◌, subst}
use mathlib.Core.Bool.{Bool, true, false, not, ◌&&◌}
use mathlib.Core.List.{List, ◌∷◌}
use Prim.Native.Nat.{ℕ, suc, ◌+◌, ◌-◌, ◌≤◌, ◌<◌}
use native.Mathlib.Omega.{arith}
use Rattle.model.specs.Choice.{when◌then◌else◌}
use Rattle.model.specs.Scopes.{Scopes, within}
use Rattle.model.specs.Resolving as model
use Rattle.model.specs.Resolving.{Bind, candidate, candidates, resolve}
use Rattle.model.specs.Competing.{Rivals, no_rivals, contained, uncontained, competes, competing, first_two, rivals}
use Rattle.model.specs.Refusals.{ambiguous}
use Rattle.model.specs.Objects.{Sets, set_at}
use Rattle.model.specs.Steps.{State, Out, ok, no, name_of, resolve_at}
use Rattle.scopes.specs.declared.Name.{Name}
use Rattle.store.specs.declared.resolving.Standing.{Standing}
use Rattle.store.specs.declared.resolving.Standing.TheVariants.{Free, Clear, Unclear}
use Rattle.store.specs.declared.resolving.Resolving.{Resolving}
use Rattle.store.specs.Words.{bind_at, binds_from, binds_of}
use Rattle.store.specs.Pass.{order_of, seen_of, meaning_by, meaning}
use Rattle.std.specs.Prelude.{Option, Some, None}
use Rattle.store.specs.Rivalry.{Decision, means, several, decision, decided, competing_from, NextRival}
use Rattle.store.proofs.Runs.{run_step, run_end}

-- ---- the tests

and_no : (a : Bool) → (a && false) ≡ false
and_no true = refl
and_no false = refl

and_yes : (a : Bool) → (a && true) ≡ a
and_yes true = refl
and_yes false = refl

module _ (b c : Bind) {t : Bool} (k : t ≡ within c.set b.set) where
  pub not-contained : t ≡ true → false ≡ contained b c
  unfolding contained
  not-contained e = sym (ap (λ (z : Bool). within b.set c.set && not z) (sym k ∙ e) ∙ and_no (within b.set c.set))

  pub contained_where : {u : Bool} → t ≡ false → u ≡ within b.set c.set → u ≡ contained b c
  unfolding contained
  contained_where e h = h ∙ sym (ap (λ (z : Bool). within b.set c.set && not z) (sym k ∙ e) ∙ and_yes (within b.set c.set))

pub ruleset contained_laws = (not-contained, contained_where)

-- two tests in turn
module _ {t : Bool} (a b : Bool) (k : t ≡ a) where
  pub first-no : t ≡ false → false ≡ (a && b)
  first-no e = sym (ap (λ (z : Bool). z && b) (sym k ∙ e))

  pub first-yes : {u : Bool} → t ≡ true → u ≡ b → u ≡ (a && b)
  first-yes e h = h ∙ sym (ap (λ (z : Bool). z && b) (sym k ∙ e))

pub ruleset turn_laws = (first-no, first-yes)

-- ---- no other contains it

-- those from place i on, of n, decide
pub record Deciding (x : ℕ) (s : Scopes) (b : Bind) (l : List ℕ) (n i : ℕ) : Type 0 where
  pub inside : i ≤ n
  pub same : uncontained b (candidates x s (binds_from l i (n - i))) ≡ uncontained b (candidates x s (binds_of l n))

from_front : (l : List ℕ) (n : ℕ) → binds_from l 0 (n - 0) ≡ binds_of l n
unfolding binds_of
from_front l n = ap (binds_from l 0) (let e : n - 0 ≡ n = omega arith in e)

pub deciding_begun : (x : ℕ) (s : Scopes) (b : Bind) (l : List ℕ) (n : ℕ) → Deciding x s b l n 0
deciding_begun x s b l n = record { inside = omega arith; same = ap (λ (r : List Bind). uncontained b (candidates x s r)) (from_front l n) }

module _ {x : ℕ} {s : Scopes} {b : Bind} {l : List ℕ} {n i : ℕ} (w : Deciding x s b l n i) where
  pub deciding_ended : n ≤ i → true ≡ uncontained b (candidates x s (binds_of l n))
  unfolding uncontained candidates
  deciding_ended h = ap (λ (r : List Bind). uncontained b (candidates x s r)) (sym (run_end l n i h)) ∙ w.same

  module _ (h : i < n) {c : Bind} (e : c ≡ bind_at l i) {t : Bool} (k : t ≡ (candidate x s c && contained b c)) where
    unfoldable rest : Bool
    rest = uncontained b (candidates x s (binds_from l (i + 1) (n - (i + 1))))

    here : uncontained b (candidates x s (binds_of l n)) ≡ (not t && rest)
    unfolding uncontained candidates rest
    here =
        sym w.same
        ∙ ap (λ (r : List Bind). uncontained b (candidates x s r)) (run_step l n i h)
        ∙ by (candidate x s (bind_at l i))
        ∙ ap (λ (z : Bool). not z && rest) (sym (k ∙ ap (λ (z : Bind). candidate x s z && contained b z) e))
      where
        others : List Bind
        others = candidates x s (binds_from l (i + 1) (n - (i + 1)))

        by : (p : Bool) → uncontained b (when p then bind_at l i ∷ others else others) ≡ (not (p && contained b (bind_at l i)) && uncontained b others)
        by true = refl
        by false = refl

    pub deciding_stopped : t ≡ true → false ≡ uncontained b (candidates x s (binds_of l n))
    deciding_stopped q = sym (here ∙ ap (λ (z : Bool). not z && rest) q)

    pub deciding_on : t ≡ false → Deciding x s b l n (i + 1)
    unfolding rest
    deciding_on q = record { inside = omega arith; same = sym (here ∙ ap (λ (z : Bool). not z && rest) q) }

pub ruleset deciding_laws = (deciding_begun, deciding_ended, deciding_stopped, deciding_on)

-- ---- it competes

module _ (x : ℕ) (s : Scopes) (bs : List Bind) (b : Bind) {t : Bool} (k : t ≡ candidate x s b) where
  pub no_rival : t ≡ false → false ≡ competes x s bs b
  unfolding competes
  no_rival e = first-no (candidate x s b) (uncontained b (candidates x s bs)) k e

  pub rival_where : {u : Bool} → t ≡ true → u ≡ uncontained b (candidates x s bs) → u ≡ competes x s bs b
  unfolding competes
  rival_where e h = first-yes (candidate x s b) (uncontained b (candidates x s bs)) k e h

pub ruleset rival_laws = (no_rival, rival_where)

-- ---- the next that competes

-- none competes from `past` on and before place i
pub record Seeking (x : ℕ) (s : Scopes) (l : List ℕ) (n past i : ℕ) : Type 0 where
  pub inside : i ≤ n
  pub same : competing_from x s l n i ≡ competing_from x s l n past

pub seeking_begun : (x : ℕ) (s : Scopes) (l : List ℕ) {n past : ℕ} → past ≤ n → Seeking x s l n past past
seeking_begun x s l h = record { inside = h; same = refl }

module _ {x : ℕ} {s : Scopes} {l : List ℕ} {n past i : ℕ} (w : Seeking x s l n past i) where
  pub seeking_ended : n ≤ i → NextRival x s l n past None
  unfolding competing
  seeking_ended h = record {
    none = λ e. sym w.same ∙ ap (competing x s (binds_of l n) (suc i)) (run_end l n i h);
    some = λ k q. absurd (cc);
  }

  module _ (h : i < n) {c : Bind} (e : c ≡ bind_at l i) {t : Bool} (k : t ≡ competes x s (binds_of l n) c) where
    one_on : suc i ≡ i + 1
    one_on = omega arith

    there : competing_from x s l n past ≡ (when t then suc i ∷ competing_from x s l n (i + 1) else competing_from x s l n (i + 1))
    unfolding competing
    there =
        sym w.same
        ∙ ap (competing x s (binds_of l n) (suc i)) (run_step l n i h)
        ∙ ap (λ (z : Bool). when z then suc i ∷ after (suc i) else after (suc i)) (sym (k ∙ ap (competes x s (binds_of l n)) e))
        ∙ ap (λ (z : ℕ). when t then suc i ∷ after z else after z) one_on
      where
        after : ℕ → List ℕ
        after z = competing x s (binds_of l n) (suc z) (binds_from l (i + 1) (n - (i + 1)))

    pub seeking_found : t ≡ true → NextRival x s l n past (Some (i + 1))
    seeking_found q = record {
      none = λ z. absurd (cc);
      some = λ k z. subst (λ (k : ℕ). (k ≤ n) × (competing_from x s l n past ≡ k ∷ competing_from x s l n k)) (let e : i + 1 ≡ k = cc in e) (
        omega arith,
        there
            ∙ ap (λ (b : Bool). when b then suc i ∷ competing_from x s l n (i + 1) else competing_from x s l n (i + 1)) q
            ∙ ap (λ (z : ℕ). z ∷ competing_from x s l n (i + 1)) one_on,
      );
    }

    pub seeking_on : t ≡ false → Seeking x s l n past (i + 1)
    seeking_on q = record {
      inside = omega arith;
      same = sym (there ∙ ap (λ (b : Bool). when b then suc i ∷ competing_from x s l n (i + 1) else competing_from x s l n (i + 1)) q);
    }

pub ruleset seeking_laws = (seeking_begun, seeking_ended, seeking_found, seeking_on)

-- ---- the first two

module _ {x : ℕ} {s : Scopes} {l : List ℕ} {n : ℕ} {f : Option ℕ} (w : NextRival x s l n 0 f) where
  all : rivals x s (binds_of l n) ≡ first_two (competing_from x s l n 0)
  unfolding rivals
  all = ap (λ (r : List Bind). first_two (competing x s (binds_of l n) 1 r)) (sym (from_front l n))

  pub first-none : {q : Rivals} → f ≡ None → q ≡ no_rivals → q ≡ rivals x s (binds_of l n)
  unfolding first_two
  first-none z e = e ∙ sym (all ∙ ap first_two (w.none z))

  module _ {k : ℕ} (z : f ≡ Some k) where
    pub first-within : k ≤ n
    first-within = (w.some k z).0

    module _ {g : Option ℕ} (v : NextRival x s l n k g) where
      pub second_none : {q : Rivals} → g ≡ None → q ≡ no_rivals → q ≡ rivals x s (binds_of l n)
      unfolding first_two
      second_none y e = e ∙ sym (all ∙ ap first_two ((w.some k z).1 ∙ ap (λ (r : List ℕ). k ∷ r) (v.none y)))

      pub both_found : {m : ℕ} → g ≡ Some m → record { first = k; second = m } ≡ rivals x s (binds_of l n)
      unfolding first_two
      both_found {m} y = sym (all ∙ ap first_two ((w.some k z).1 ∙ ap (λ (r : List ℕ). k ∷ r) (v.some m y).1))

pub ruleset two_laws = (first-none, first-within, second_none, both_found)

-- ---- what resolving decides

module _ (self : Resolving) (x : ℕ) (p : Rivals) where
  standing_is : {o : Standing} → self.standing ≡ o → decision p (meaning_by x (order_of o)) ≡ decision p (meaning x (seen_of self))
  standing_is e = ap (λ (o : Standing). decision p (meaning_by x (order_of o))) (sym e)

  pub decided-free : self.standing ≡ Free → means x ≡ decision p (meaning x (seen_of self))
  decided-free e = standing_is e

  pub decided-clear : {m : Name} → self.standing ≡ Clear m → means m.0 ≡ decision p (meaning x (seen_of self))
  decided-clear e = standing_is e

  pub decided-unclear : {q : Rivals} → self.standing ≡ Unclear → q ≡ p → several q ≡ decision p (meaning x (seen_of self))
  decided-unclear e h = ap several h ∙ standing_is e

pub ruleset decided_laws = (decided-free, decided-clear, decided-unclear)

pub decided-is : (x : ℕ) (s : Scopes) (bs : List Bind) {d : Decision} {m : model.Found} → d ≡ decision (rivals x s bs) m → m ≡ resolve x s bs → d ≡ decided x s bs
unfolding decided
decided-is x s bs e h = e ∙ ap (decision (rivals x s bs)) h

-- a name goes on, and those that compete are told with code 6
abbrev pub step_of : Decision → State → Out ℕ
step_of (means n) y = ok n y
step_of (several p) y = no ambiguous p y.left

pub resolve_at-decided : (ph : ℕ) (c : Sets) (x : ℕ) (y : State) → resolve_at ph c x y ≡ step_of (decided x (set_at ph c) y.binds) y
unfolding resolve_at name_of decided
resolve_at-decided ph c x y = by (rivals x (set_at ph c) y.binds) (resolve x (set_at ph c) y.binds)
  where
    by : (p : Rivals) (f : model.Found) → name_of p f y ≡ step_of (decision p f) y
    by p (model.means n) = refl
    by p model.several = refl
