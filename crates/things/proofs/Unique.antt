-- An index of a table stands for one thing only.
use mathlib.Core.Path.{◌≡◌, refl, sym, ap, ap₂, ◌∙◌}
use mathlib.Core.List.{List}
use mathlib.Core.Option.{some}
use Prim.Native.Nat.{ℕ, zero, suc}
use native.Mathlib.Omega.{arith}
use Rattle.model.specs.Objects.{Atom, symbol, number, point, prim, rung, tag_of, content_of, Stxs, nil, cons, atom, list}
use Rattle.model.specs.Trees.{Tree, Trees, var, app, fun, datum, lst, stx, tcons, from_stxs, to_stxs, as_stx}
use Rattle.table.specs.declared.Node.{Node}
use Rattle.table.specs.declared.Body.{Body}
use Rattle.table.specs.declared.Cell.{Cell}
use Rattle.things.specs.Rep.{Rep, RepP, is-var, is-app, is-fun, is-lst, is-datum, is-atom, is-list, is_none, is-part}
use Rattle.things.proofs.ByTag.{tag-low, var-at, app-at, fun-at, lst-at, datum-at, atom-at, list_at, part_at, none-at}

-- ---- an atom is its tag and content

named : ℕ → ℕ → Atom
named zero x = symbol x
named (suc zero) x = number x
named (suc (suc zero)) x = point x
named (suc (suc (suc zero))) x = prim x
named (suc (suc (suc (suc k)))) x = rung x

named-is : (a : Atom) → named (tag_of a) (content_of a) ≡ a
unfolding named tag_of content_of
named-is (symbol x) = refl
named-is (number x) = refl
named-is (point x) = refl
named-is (prim x) = refl
named-is (rung x) = refl

pub one-atom : (a b : Atom) → tag_of a ≡ tag_of b → content_of a ≡ content_of b → a ≡ b
one-atom a b t c = sym (named-is a) ∙ ap₂ named t c ∙ named-is b

-- ---- a chain of syntax objects comes from one list

pub back_from : (ps : Stxs) → to_stxs (from_stxs ps) ≡ some ps
unfolding to_stxs from_stxs as_stx
back_from nil = refl
back_from (cons s ps) = rw (back_from ps) refl

pub one_list : (ps qs : Stxs) → from_stxs ps ≡ from_stxs qs → ps ≡ qs
one_list ps qs e = let z : some ps ≡ some qs = sym (back_from ps) ∙ ap to_stxs e ∙ back_from qs in cc

-- ---- things and chains

mutual
  pub one : {l : List ℕ} {m n i : ℕ} {t u : Tree} → Rep l m i t → Rep l n i u → t ≡ u
  one (is-var a q) r = ap var (sym (ap (λ (o : Node). o.content) q)) ∙ sym (var-at r refl (ap (λ (o : Node). o.tag) q))
  one (is-app {h = h} {ts = ts} a q r) u =
      let p = app-at u refl (ap (λ (o : Node). o.tag) q) in
      let e : tcons h ts ≡ tcons p.first p.others = one_p r (rw (ap (λ (o : Node). o.content) q) at p).shown in
      let f : app h ts ≡ app p.first p.others = cc in
      f ∙ sym p.is
  one (is-fun {n = n} {t = t} a q y r) u =
      let p = fun-at u refl (ap (λ (o : Node). o.tag) q) refl in
      let e : t ≡ p.body = one r (rw (ap (λ (b : Body). b.at) y) at p).shown in
      ap₂ fun (sym (ap (λ (o : Node). o.content) q)) e ∙ sym p.is
  one (is-datum {a = x} a q) u =
      let p = datum-at u refl (omega (arith, ap (λ (o : Node). o.tag) q)) in
      let e : x ≡ p.value = one-atom x p.value (omega (arith, ap (λ (o : Node). o.tag) q, p.tag)) (sym (ap (λ (o : Node). o.content) q) ∙ p.content) in
      ap datum e ∙ sym p.is
  one (is-lst {ts = ts} a q r) u =
      let p = lst-at u refl (ap (λ (o : Node). o.tag) q) in
      let e : ts ≡ p.parts = one_p r (rw (ap (λ (o : Node). o.content) q) at p).shown in
      ap lst e ∙ sym p.is
  one (is-atom {s = s} {a = x} a q y) u =
      let p = atom-at u refl (omega (arith, ap (λ (o : Node). o.tag) q, tag-low x)) in
      let e : x ≡ p.value = one-atom x p.value (sym (ap (λ (o : Node). o.tag) q) ∙ p.tag) (sym (ap (λ (o : Node). o.content) q) ∙ p.content) in
      ap stx (ap₂ atom (sym y ∙ p.words) e) ∙ sym p.is
  one (is-list {s = s} {ps = ps} a q y r) u =
      let p = list_at u refl (ap (λ (o : Node). o.tag) q) in
      let e : ps ≡ p.parts = one_list ps p.parts (one_p r (rw (ap (λ (o : Node). o.content) q) at p).shown) in
      ap stx (ap₂ list (sym y ∙ p.words) e) ∙ sym p.is

  pub one_p : {l : List ℕ} {m n c : ℕ} {ts us : Trees} → RepP l m c ts → RepP l n c us → ts ≡ us
  one_p is_none r = sym (none-at r refl)
  one_p (is-part a b q h r) u =
      let p = part_at u (λ z. omega arith) refl in
      ap₂ tcons (one h (rw (ap (λ (x : Cell). x.head) q) at p).cell.shown) (one_p r (rw (ap (λ (x : Cell). x.tail) q) at p).cell.shown-others) ∙ sym p.is
