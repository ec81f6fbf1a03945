-- A whole object: the levels left are its own nesting at the start, and what is made is what the definitions name.
use mathlib.Core.Path.{◌≡◌, refl, sym, ap, ◌∙◌}
use mathlib.Core.List.{List}
use Prim.Native.Nat.{ℕ, ◌≤◌, min}
use native.Mathlib.Omega.{arith}
use Rattle.table.specs.Sizes.{most_size, most_budget}
use Rattle.model.specs.Objects.{Stx, size, add_scope, flip_scope, prune_scopes}
use Rattle.model.specs.Trees.{Trees, stx, strip}
use Rattle.laws.proofs.Sizes.{size-some}
use Rattle.scopes.specs.Sets.{scopes_of}
use Rattle.scopes.specs.declared.Scope.{Scope}
use Rattle.scopes.specs.declared.ScopeSet.{ScopeSet}
use Rattle.table.specs.declared.Cell.{Cell}
use Rattle.table.specs.declared.Node.{Node}
use Rattle.things.specs.Weights.{weights}
use Rattle.things.specs.Rep.{Rep, RepP, is_none, is-part, is-atom, is-list}
use Rattle.things.specs.Measuring.{Seen, Measured}
use Rattle.things.specs.declared.Extent.{Extent}
use Rattle.things.proofs.Weighing.{nest_stx, weights-from}
use Rattle.things.proofs.ByTag.{tag-low}
use Rattle.copying.specs.Working.{sound-add, sound-flip, sound-prune, sound-strip, strips, set_change, copying_of}
use Rattle.copying.specs.Copying.{Copyable, Copied}
use Rattle.copying.specs.Reaching.{Reached, Copying, copy_of, CopiedBy}
use Rattle.copying.specs.declared.Act.TheVariants.{Add, Flip, Prune, Strip}

module _ {l : List ℕ} {top i : ℕ} (r : Copyable l top i) where
  pub whole-seen : Seen l i
  whole-seen = record { top = top; thing = stx r.thing; shown = r.shown; inside = omega (arith, r.room, size-some r.thing); small = r.small }

  pub whole-reached : {x : Extent} → Measured l i x → Reached x.nesting l top i
  whole-reached m = record { object = r; flat = omega (arith, (m.means top (stx r.thing) r.shown).nesting, nest_stx r.thing) }

-- ---- whatever the index stands for has the size that was charged

chain-weight : {l : List ℕ} {top top' c : ℕ} {ts ts' : Trees} → RepP l top c ts → RepP l top' c ts' → min most_size (weights ts) ≡ min most_size (weights ts')
chain-weight is_none is_none = refl
chain-weight is_none (is-part a b q u v) = absurd (omega arith)
chain-weight (is-part a b q u v) is_none = absurd (omega arith)
chain-weight (is-part a b q u v) (is-part a' b' q' u' v') = ap (λ (x : Cell). x.weight) (sym q ∙ q')

same_size : {l : List ℕ} {top top' i : ℕ} {x y : Stx} → Rep l top i (stx x) → Rep l top' i (stx y) → min most_size (size x) ≡ min most_size (size y)
unfolding size
same_size (is-atom a q s) (is-atom a' q' s') = refl
same_size (is-atom {a = v} a q s) (is-list a' q' s' r') = absurd (omega (arith, ap (λ (n : Node). n.tag) (sym q ∙ q'), tag-low v))
same_size (is-list a q s r) (is-atom {a = v} a' q' s') = absurd (omega (arith, ap (λ (n : Node). n.tag) (sym q ∙ q'), tag-low v))
same_size (is-list {ps = ps} a q s r) (is-list {ps = ps'} a' q' s' r') =
    let e = ap (λ (n : Node). n.content) (sym q' ∙ q) in
    omega (arith, chain-weight r (rw e at r'), weights-from ps, weights-from ps')

-- ---- what is made

module _ {l l1 : List ℕ} {top i at top1 : ℕ} (r : Copyable l top i) where
  whole-copied : (w : Copying) → CopiedBy w l l1 top i at top1 → Copied (copy_of w) l l1 top i at top1
  whole-copied w m =
      record {
        kept = m.kept;
        grows = m.grows;
        means = λ x u.
            let few : size x ≤ most_budget = omega (arith, same_size r.shown u, r.charged) in
            let k = m.means x u few in
            record { shown = k.shown; room = omega (arith, k.room) };
      }

  pub scope_added : (k : Scope) (ph : ℕ) → CopiedBy (copying_of (record { act = Add k; phase = ph })) l l1 top i at top1
      → Copied (λ x. stx (add_scope k.0 ph x)) l l1 top i at top1
  unfolding copy_of copying_of strips set_change add_scope
  scope_added k ph m = whole-copied _ m

  pub scope_flipped : (k : Scope) (ph : ℕ) → CopiedBy (copying_of (record { act = Flip k; phase = ph })) l l1 top i at top1
      → Copied (λ x. stx (flip_scope k.0 ph x)) l l1 top i at top1
  unfolding copy_of copying_of strips set_change flip_scope
  scope_flipped k ph m = whole-copied _ m

  pub scopes_pruned : (p : ScopeSet) (ph : ℕ) → CopiedBy (copying_of (record { act = Prune p; phase = ph })) l l1 top i at top1
      → Copied (λ x. stx (prune_scopes (scopes_of p) ph x)) l l1 top i at top1
  unfolding copy_of copying_of strips set_change prune_scopes
  scopes_pruned p ph m = whole-copied _ m

  pub object_stripped : (ph : ℕ) → CopiedBy (copying_of (record { act = Strip; phase = ph })) l l1 top i at top1 → Copied strip l l1 top i at top1
  unfolding copy_of copying_of strips
  object_stripped ph m = whole-copied _ m

pub ruleset laws = (whole-seen, whole-reached, sound-add, sound-flip, sound-prune, sound-strip, scope_added, scope_flipped, scopes_pruned, object_stripped)
