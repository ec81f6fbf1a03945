-- Nodes that were stored stand for things.
use mathlib.Core.Path.{◌≡◌, sym, ◌∙◌, subst}
use mathlib.Core.List.{List}
use Prim.Native.Nat.{ℕ, ◌+◌, ◌≤◌}
use native.Mathlib.Omega.{arith}
use Rattle.model.specs.Objects as m
use Rattle.model.specs.Objects.{Atom, tag_of, content_of, Stxs, atom, list}
use Rattle.model.specs.Trees.{Tree, Trees, var, app, datum, lst, stx, tcons, from_stxs}
use Rattle.table.specs.Tags.{list_tag, variable_tag, application_tag, list_value_tag, atom_value_tag}
use Rattle.table.specs.declared.Node.{Node}
use Rattle.table.specs.declared.Sets.{Sets}
use Rattle.things.specs.Making.{Stored, StoredObject}
use Rattle.things.specs.Rep.{Rep, RepP, is-var, is-app, is-lst, is-datum, is-atom, is-list, sets_of}
use Rattle.things.proofs.Frame.{stays_p}
use Rattle.table.specs.Sizes.{node_size}

module _ {l l1 : List ℕ} {top at top1 : ℕ} where
  pub atom-stands : {n : Node} {c : Sets} {s : m.Sets} {a : Atom} → StoredObject l l1 top n c at top1 → n.tag ≡ tag_of a → n.content ≡ content_of a → sets_of c ≡ s → Rep l1 top1 at (stx (atom s a))
  atom-stands {n} p e f g =
      let z : at + node_size ≤ top1 = omega (arith, p.stored.place, p.stored.grows) in
      is-atom z (p.stored.node ∙ (λ j. record { tag = e j; content = f j })) (p.sets ∙ g)

  pub list-stands : {n : Node} {c : Sets} {s : m.Sets} {ps : Stxs} → StoredObject l l1 top n c at top1 → n.tag ≡ list_tag → sets_of c ≡ s → RepP l top n.content (from_stxs ps)
      → Rep l1 top1 at (stx (list s ps))
  list-stands {n} {ps = ps} p e g r =
      let z : at + node_size ≤ top1 = omega (arith, p.stored.place, p.stored.grows) in
      let q : RepP l1 at n.content (from_stxs ps) = subst (λ (k : ℕ). RepP l1 k n.content (from_stxs ps)) (sym p.stored.place) (stays_p r p.stored.kept) in
      is-list z (p.stored.node ∙ (λ j. record { tag = e j; content = n.content })) (p.sets ∙ g) q

  pub var-stands : {n : Node} {k : ℕ} → Stored l l1 top n at top1 → n.tag ≡ variable_tag → n.content ≡ k → Rep l1 top1 at (var k)
  var-stands p e f = let z : at + node_size ≤ top1 = omega (arith, p.place, p.grows) in is-var z (p.node ∙ (λ j. record { tag = e j; content = f j }))

  pub datum-stands : {n : Node} {a : Atom} → Stored l l1 top n at top1 → n.tag ≡ atom_value_tag + tag_of a → n.content ≡ content_of a → Rep l1 top1 at (datum a)
  datum-stands p e f = let z : at + node_size ≤ top1 = omega (arith, p.place, p.grows) in is-datum z (p.node ∙ (λ j. record { tag = e j; content = f j }))

  pub app-stands : {n : Node} {h : Tree} {ts : Trees} → Stored l l1 top n at top1 → n.tag ≡ application_tag → RepP l top n.content (tcons h ts) → Rep l1 top1 at (app h ts)
  app-stands {n} {h} {ts} p e r =
      let z : at + node_size ≤ top1 = omega (arith, p.place, p.grows) in
      let q : RepP l1 at n.content (tcons h ts) = subst (λ (k : ℕ). RepP l1 k n.content (tcons h ts)) (sym p.place) (stays_p r p.kept) in
      is-app z (p.node ∙ (λ j. record { tag = e j; content = n.content })) q

  pub lst-stands : {n : Node} {ts : Trees} → Stored l l1 top n at top1 → n.tag ≡ list_value_tag → RepP l top n.content ts → Rep l1 top1 at (lst ts)
  lst-stands {n} {ts} p e r =
      let z : at + node_size ≤ top1 = omega (arith, p.place, p.grows) in
      let q : RepP l1 at n.content ts = subst (λ (k : ℕ). RepP l1 k n.content ts) (sym p.place) (stays_p r p.kept) in
      is-lst z (p.node ∙ (λ j. record { tag = e j; content = n.content })) q
