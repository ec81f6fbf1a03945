-- A candidate seen, by how the ones before it stand; and one place of the pass.
use mathlib.Core.Path.{◌≡◌, sym, ap, ap₂, ◌∙◌}
use mathlib.Core.Bool.{true, false}
use mathlib.Core.List.{List}
use Prim.Native.Nat.{ℕ, ◌+◌, ◌-◌, ◌≤◌, ◌<◌}
use native.Mathlib.Omega.{arith}
use Rattle.model.specs.Scopes.{Scopes, within}
use Rattle.model.specs.Resolving.{Bind, candidate, resolve}
use Rattle.scopes.specs.declared.Name.{Name}
use Rattle.scopes.specs.Sets.{scopes_of}
use Rattle.store.specs.declared.resolving.Standing.{Standing}
use Rattle.store.specs.declared.resolving.Standing.TheVariants.{Free, Clear, Unclear}
use Rattle.store.specs.declared.resolving.Resolving.{Resolving}
use Rattle.store.specs.Words.{bind_at, binds_from, binds_of}
use Rattle.store.specs.Pass.{Seen, alone, joined, order_of, seen_of, none_seen, beyond_all, taking_by, taking, seeing, passing, meaning}
use Rattle.store.proofs.Runs.{run_step, run_end}
use Rattle.store.proofs.Pass.{pass_resolves}

-- ---- taking, by cases

module _ (self : Resolving) (b : Bind) where
  standing_is : {s : Standing} → self.standing ≡ s → taking (seen_of self) b ≡ taking_by (order_of s) (scopes_of self.union) b
  unfolding taking
  standing_is e = ap (λ (s : Standing). taking_by (order_of s) (scopes_of self.union) b) e

  pub take-first : self.standing ≡ Free → alone b ≡ taking (seen_of self) b
  unfolding taking_by
  take-first e = sym (standing_is e)

  module _ {n : Name} (e : self.standing ≡ Clear n) where
    pub take-contained : within b.set (scopes_of self.union) ≡ true → seen_of self ≡ taking (seen_of self) b
    unfolding taking_by
    take-contained h =
        ap (λ (s : Standing). seen_of (record { standing = s; union = self.union })) e ∙ sym (standing_is e ∙ rw h)

    pub take-further : within b.set (scopes_of self.union) ≡ false → beyond_all (scopes_of self.union) b ≡ taking (seen_of self) b
    unfolding taking_by
    take-further h = sym (standing_is e ∙ rw h)

  pub take_also : self.standing ≡ Unclear → beyond_all (scopes_of self.union) b ≡ taking (seen_of self) b
  unfolding taking_by
  take_also e = sym (standing_is e)

module _ (u : Scopes) (b : Bind) where
  pub beyond_larger : within u b.set ≡ true → alone b ≡ beyond_all u b
  unfolding beyond_all
  beyond_larger h = rw h

  pub beyond_apart : within u b.set ≡ false → joined u b ≡ beyond_all u b
  unfolding beyond_all
  beyond_apart h = rw h

-- ---- the pass stands at place i: what is seen and what is left resolve

pub record Underway (x : ℕ) (s : Scopes) (l : List ℕ) (n : ℕ) (seen : Seen) (i : ℕ) : Type 0 where
  pub inside : i ≤ n
  pub resolves : meaning x (passing x s seen (binds_from l i (n - i))) ≡ resolve x s (binds_of l n)

pub pass_start : (x : ℕ) (s : Scopes) (l : List ℕ) (n : ℕ) (seen : Seen) → seen ≡ none_seen → Underway x s l n seen 0
unfolding binds_of
pass_start x s l n seen e = record {
  inside = omega arith;
  resolves =
      ap₂ (λ (w : Seen) (k : ℕ). meaning x (passing x s w (binds_from l 0 k))) e (let k : n - 0 ≡ n = omega arith in k)
      ∙ pass_resolves x s (binds_from l 0 n);
}

module _ {x : ℕ} {s : Scopes} {l : List ℕ} {n : ℕ} {seen : Seen} {i : ℕ} (w : Underway x s l n seen i) where
  pub pass_end : n ≤ i → meaning x seen ≡ resolve x s (binds_of l n)
  unfolding passing
  pass_end h = sym (ap (λ (r : List Bind). meaning x (passing x s seen r)) (run_end l n i h)) ∙ w.resolves

  pub pass_next : i < n → (b : Bind) → b ≡ bind_at l i → (after : Seen) → after ≡ seeing x s seen b → Underway x s l n after (i + 1)
  unfolding passing
  pass_next h b e after f = record {
    inside = omega arith;
    resolves =
        ap (λ (k : Seen). meaning x (passing x s k (binds_from l (i + 1) (n - (i + 1))))) (f ∙ ap (seeing x s seen) e)
        ∙ sym (ap (λ (r : List Bind). meaning x (passing x s seen r)) (run_step l n i h))
        ∙ w.resolves;
  }

-- ---- one binding

module _ (x : ℕ) (s : Scopes) (seen : Seen) (b : Bind) where
  pub see_candidate : candidate x s b ≡ true → taking seen b ≡ seeing x s seen b
  unfolding seeing
  see_candidate h = rw h

  pub see_other : candidate x s b ≡ false → seen ≡ seeing x s seen b
  unfolding seeing
  see_other h = rw h
