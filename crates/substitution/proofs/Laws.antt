-- Substituting: one law for each way out.
use mathlib.Core.Path.{◌≡◌, refl, sym, ap, ◌∙◌}
use mathlib.Core.List.{List}
use Prim.Native.Nat.{ℕ, ◌+◌, ◌*◌, ◌≤◌, ◌<◌}
use native.Mathlib.Omega.{arith}
use borrow.Author.Tests.{eq-eqb, ne_eqb}
use lib.ListN.{length}
use Rattle.model.specs.Trees.{Tree, fun, tcons, tsize, substitute, substitute_all}
use Rattle.table.specs.Tags.{variable_tag, application_tag, function_tag, list_value_tag}
use Rattle.table.specs.Words.{get_node, get_body}
use Rattle.table.specs.declared.Node.{Node}
use Rattle.table.specs.declared.Body.{Body}
use Rattle.table.proofs.Laws.{same_refl, same_trans}
use Rattle.things.specs.Weights.{tsizes}
use Rattle.things.specs.Rep.{Rep, RepP, is-var, is-app, is-fun, is-lst, is-datum, is-atom, is-list}
use Rattle.things.specs.Making.{Roomy, Stored, Closable, Closed}
use Rattle.things.proofs.Weighing.{size-app, size-fun, size-lst, size_pos}
use Rattle.things.proofs.Frame.{below, stays_p}
use Rattle.things.proofs.ByTag.{tag_is, var-at, app-at, fun-at, lst-at}
use Rattle.substitution.specs.Substituting.{ReadyToSubstitute, ReadyP, ReadyB, ReadyL, Substituted, SubstitutedP, SubstitutedB, SubstitutedL}
use Rattle.table.specs.Sizes.{node_size}

-- ---- substitute

pub inside : {l : List ℕ} {top i v : ℕ} → ReadyToSubstitute l top i v → i + node_size ≤ length l
inside r = omega (arith, below r.shown, r.inside)

-- what is left as it is
shared : {l : List ℕ} {top i v : ℕ} (x : ℕ) → ((t w : Tree) → Rep l top i t → substitute x w t ≡ t) → Substituted l l top i x v i top
shared {l} {top} x f = record { kept = same_refl top l; grows = omega arith; means = λ t w a b. (rw (f t w a) a, omega (arith, size_pos t)) }

flat-same : {l : List ℕ} {top i : ℕ} {o : Node} {t : Tree} (x : ℕ) (w : Tree) (e : o ≡ get_node l i) → Rep l top i t
    → ¬ (o.tag ≡ variable_tag) → ¬ (o.tag ≡ application_tag) → ¬ (o.tag ≡ list_value_tag) → ¬ (o.tag ≡ function_tag) → substitute x w t ≡ t
unfolding substitute
flat-same x w e (is-var a q) n6 n7 n9 n8 = absurd (n6 (tag_is e q))
flat-same x w e (is-app a q r) n6 n7 n9 n8 = absurd (n7 (tag_is e q))
flat-same x w e (is-fun a q y r) n6 n7 n9 n8 = absurd (n8 (tag_is e q))
flat-same x w e (is-datum a q) n6 n7 n9 n8 = refl
flat-same x w e (is-lst a q r) n6 n7 n9 n8 = absurd (n9 (tag_is e q))
flat-same x w e (is-atom a q y) n6 n7 n9 n8 = refl
flat-same x w e (is-list a q y r) n6 n7 n9 n8 = refl

module _ {l : List ℕ} {top i v x : ℕ} {o : Node} (e : o ≡ get_node l i) where
  pub var-same : o.tag ≡ variable_tag → o.content ≡ x → Substituted l l top i x v v top
  unfolding substitute
  var-same h k =
      record {
        kept = same_refl top l;
        grows = omega arith;
        means = λ t w a b. let z : substitute x w t ≡ w = rw (var-at a e h, eq-eqb o.content x k) refl in (rw z b, omega (arith, size_pos t));
      }

  pub var-other : o.tag ≡ variable_tag → ¬ (o.content ≡ x) → Substituted l l top i x v i top
  unfolding substitute
  var-other h k = shared x (λ t w a. rw (var-at a e h, ne_eqb o.content x k) refl)

  pub fun-same : o.tag ≡ function_tag → x ≡ o.content → Substituted l l top i x v i top
  unfolding substitute
  fun-same h k =
      shared x (λ t w a.
      let p = fun-at a e h refl in
      let z : substitute x w (fun o.content p.body) ≡ fun o.content p.body = rw (eq-eqb o.content x (sym k)) refl in
      ap (substitute x w) p.is ∙ z ∙ sym p.is)

  pub other-same : ¬ (o.tag ≡ variable_tag) → ¬ (o.tag ≡ application_tag) → ¬ (o.tag ≡ list_value_tag) → ¬ (o.tag ≡ function_tag) → Substituted l l top i x v i top
  other-same n6 n7 n9 n8 = shared x (λ t w a. flat-same x w e a n6 n7 n9 n8)

  pub app-done : {l1 : List ℕ} {at top1 : ℕ} → o.tag ≡ application_tag → SubstitutedL l l1 top o.content application_tag x v at top1 → Substituted l l1 top i x v at top1
  unfolding substitute
  app-done h q =
      record {
        kept = q.kept;
        grows = q.grows;
        means = λ t w a b.
            let p = app-at a e h in
            let d = q.means (tcons p.first p.others) w p.shown b in
            rw p.is (is-app d.0.fits d.0.is d.0.shown, omega (arith, d.1, size-app p.first p.others));
      }

  pub lst-done : {l1 : List ℕ} {at top1 : ℕ} → o.tag ≡ list_value_tag → SubstitutedL l l1 top o.content list_value_tag x v at top1 → Substituted l l1 top i x v at top1
  unfolding substitute
  lst-done h q =
      record {
        kept = q.kept;
        grows = q.grows;
        means = λ t w a b.
            let p = lst-at a e h in
            let d = q.means p.parts w p.shown b in
            rw p.is (is-lst d.0.fits d.0.is d.0.shown, omega (arith, d.1, size-lst p.parts));
      }

module _ {l : List ℕ} {top i v : ℕ} {o : Node} (r : ReadyToSubstitute l top i v) (e : o ≡ get_node l i) where
  pub app-ready : o.tag ≡ application_tag → ReadyL l top o.content v
  app-ready h =
      let p = app-at r.shown e h in
      let big : tsize r.thing ≡ 1 + tsizes (tcons p.first p.others) = ap tsize p.is ∙ size-app p.first p.others in
      record { thing = tcons p.first p.others; value = r.value; shown = p.shown; given = r.given; room = omega (arith, big, r.room); small = r.small; low = r.low }

  pub app_less : {T : ℕ} → o.tag ≡ application_tag → i * 2 + 2 ≡ T → o.content * 2 + 1 < T
  app_less h k = omega (arith, (app-at r.shown e h).low)

  pub lst-ready : o.tag ≡ list_value_tag → ReadyL l top o.content v
  lst-ready h =
      let p = lst-at r.shown e h in
      let big : tsize r.thing ≡ 1 + tsizes p.parts = ap tsize p.is ∙ size-lst p.parts in
      record { thing = p.parts; value = r.value; shown = p.shown; given = r.given; room = omega (arith, big, r.room); small = r.small; low = r.low }

  pub lst_less : {T : ℕ} → o.tag ≡ list_value_tag → i * 2 + 2 ≡ T → o.content * 2 + 1 < T
  lst_less h k = omega (arith, (lst-at r.shown e h).low)

  module _ (h : o.tag ≡ function_tag) {y : Body} (f : y ≡ get_body l i) where
    pub body_ready : ReadyB l top y.at v
    body_ready =
        let p = fun-at r.shown e h f in
        let big : tsize r.thing ≡ 1 + tsize p.body = ap tsize p.is ∙ size-fun o.content p.body in
        record { thing = p.body; value = r.value; shown = p.shown; given = r.given; room = omega (arith, big, r.room); small = r.small; low = r.low }

    pub body_less : {T : ℕ} → i * 2 + 2 ≡ T → y.at * 2 + 3 < T
    body_less k = omega (arith, (fun-at r.shown e h f).low)

    pub fun-done : {x at top1 : ℕ} {l1 : List ℕ} → ¬ (x ≡ o.content) → SubstitutedB l l1 top y.at o.content x v at top1 → Substituted l l1 top i x v at top1
    unfolding substitute
    fun-done {x} n q =
        record {
          kept = q.kept;
          grows = q.grows;
          means = λ t w a b.
              let p = fun-at a e h f in
              let d = q.means p.body w p.shown b in
              rw (p.is, ne_eqb o.content x (λ z. n (sym z))) (d.0, omega (arith, d.1, size-fun o.content p.body));
        }

-- ---- substitute_list

module _ {l : List ℕ} {top c v : ℕ} (r : ReadyL l top c v) where
  pub list-parts : ReadyP l top c v
  list-parts = record { thing = r.thing; value = r.value; shown = r.shown; given = r.given; room = omega (arith, r.room); small = r.small; low = r.low }

  module _ {x at1 top1 : ℕ} {l1 : List ℕ} (p : SubstitutedP l l1 top c x v at1 top1) where
    pub list_roomy : length l1 ≡ length l → Roomy l1 top1 node_size
    list_roomy len =
        record {
          fits = omega (arith, (p.means r.thing r.value r.shown r.given).1, r.room);
          small = omega (arith, r.small);
          low = omega (arith, r.low, p.grows);
        }

    pub list_done : {l2 : List ℕ} {tag at2 top2 : ℕ} → Stored l1 l2 top1 (record { tag = tag; content = at1 }) at2 top2 → SubstitutedL l l2 top c tag x v at2 top2
    list_done {l2} {tag} {at2} {top2} s =
        record {
          kept = same_trans top top1 l l1 l2 p.grows p.kept s.kept;
          grows = omega (arith, p.grows, s.grows);
          means = λ ts w a b.
              let d = p.means ts w a b in
              let fits : at2 + node_size ≤ top2 = omega (arith, s.place, s.grows) in
              let chain : RepP l2 at2 at1 (substitute_all x w ts) = rw s.place (stays_p d.0 s.kept) in
              (record { chain = at1; fits = fits; is = s.node; shown = chain }, omega (arith, d.1, s.grows));
        }

-- ---- substitute_body

module _ {l : List ℕ} {top b v : ℕ} (r : ReadyB l top b v) where
  pub body_tree : ReadyToSubstitute l top b v
  body_tree = record { thing = r.thing; value = r.value; shown = r.shown; given = r.given; room = omega (arith, r.room); inside = omega (arith, r.room); small = r.small; low = r.low }

  module _ {x at1 top1 : ℕ} {l1 : List ℕ} (p : Substituted l l1 top b x v at1 top1) where
    pub body_closable : length l1 ≡ length l → Closable l1 top1 at1
    body_closable len =
        let d = p.means r.thing r.value r.shown r.given in
        record {
          thing = substitute x r.value r.thing;
          shown = d.0;
          room = record { fits = omega (arith, d.1, r.room); small = omega (arith, r.small); low = omega (arith, r.low, p.grows) };
        }

    pub body_done : {l2 : List ℕ} {n at2 top2 : ℕ} → Closed l1 l2 top1 n at1 at2 top2 → SubstitutedB l l2 top b n x v at2 top2
    body_done {l2} s =
        record {
          kept = same_trans top top1 l l1 l2 p.grows p.kept s.kept;
          grows = omega (arith, p.grows, s.grows);
          means = λ t w a c. let d = p.means t w a c in (s.means (substitute x w t) d.0, omega (arith, d.1, s.grows));
        }

pub ruleset laws = (inside, var-same, var-other, fun-same, other-same, app-done, lst-done, app-ready, app_less, lst-ready, lst_less, body_ready, body_less, fun-done, list-parts, list_roomy, list_done, body_tree, body_closable, body_done)
