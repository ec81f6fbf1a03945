-- same and pick: one law for each way out.
use mathlib.Core.Path.{◌≡◌, refl, sym, ap, ◌∙◌}
use mathlib.Core.List.{List}
use mathlib.Core.Bool.{Bool, true, false, ◌&&◌}
use mathlib.Core.Option.{none, some}
use Prim.Native.Nat.{ℕ, zero, suc, ◌+◌, ◌≤◌, ◌<◌}
use native.Mathlib.Omega.{arith}
use borrow.Author.Tests.{eq-eqb, ne_eqb}
use mir.Val.{bool_byte}
use lib.Dec.{eqb, eqb-suc-suc}
use Rattle.std.specs.Prelude.{Some, None}
use Rattle.model.specs.Choice.{when◌then◌else◌}
use Rattle.model.specs.Objects as m
use Rattle.model.specs.Objects.{Atom, number, tag_of, content_of, same_atom}
use Rattle.model.specs.Trees.{Tree, datum, as_atom, as_number}
use Rattle.model.specs.Evaluating.{primitive, picked}
use Rattle.table.specs.Tags.{atom_value_tag, number_value_tag}
use Rattle.table.specs.Words.{get_node}
use Rattle.table.specs.declared.Node.{Node}
use Rattle.things.specs.Rep.{Rep, is-var, is-app, is-fun, is-lst, is-datum, is-atom, is-list}
use Rattle.things.specs.Making.{Stored}
use Rattle.things.specs.declared.Made.{Made}
use Rattle.things.proofs.ByTag.{tag_is, datum-at}
use Rattle.things.proofs.Making.{made-datum}
use Rattle.primitives.specs.Working.{wrong, Does2, Does3, same, pick, agreed}
use Rattle.primitives.proofs.Common.{node-room, read-inside, found, added, given-none}

-- ---- agree

-- of two tests the first that fails says how the whole is
module _ (a b : Node) {n : ℕ} {x : Bool} (e : n ≡ bool_byte x) where
  pub agree_kind : ¬ (a.tag ≡ b.tag) → x ≡ eqb a.tag b.tag → n ≡ agreed a b
  unfolding agreed
  agree_kind h k = let f : x ≡ false = k ∙ ne_eqb a.tag b.tag h in rw (ne_eqb a.tag b.tag h, e, f) refl

  pub agree_content : a.tag ≡ b.tag → x ≡ eqb a.content b.content → n ≡ agreed a b
  unfolding agreed
  agree_content h k = rw (eq-eqb a.tag b.tag h, e, k) (as_number (eqb a.content b.content))
    where
      as_number : (t : Bool) → bool_byte t ≡ (when true && t then 1 else 0)
      as_number true = refl
      as_number false = refl

-- ---- same

not-atom : {l : List ℕ} {top i : ℕ} {p : Node} {t : Tree} → p ≡ get_node l i → Rep l top i t → p.tag < atom_value_tag → as_atom t ≡ none
unfolding as_atom
not-atom e (is-var a q) h = refl
not-atom e (is-app a q r) h = refl
not-atom e (is-fun a q y r) h = refl
not-atom e (is-datum a q) h = absurd (omega (arith, tag_is e q))
not-atom e (is-lst a q r) h = refl
not-atom e (is-atom a q y) h = refl
not-atom e (is-list a q y r) h = refl

-- tags as values differ where the tags do
shifted : (n a b : ℕ) → eqb (n + a) (n + b) ≡ eqb a b
shifted zero a b = ap (λ (k : ℕ). eqb k (0 + b)) (let z : 0 + a ≡ a = omega arith in z) ∙ ap (eqb a) (let z : 0 + b ≡ b = omega arith in z)
shifted (suc n) a b =
    ap (λ (k : ℕ). eqb k (suc n + b)) (let z : suc n + a ≡ suc (n + a) = omega arith in z)
    ∙ ap (eqb (suc (n + a))) (let z : suc n + b ≡ suc (n + b) = omega arith in z)
    ∙ eqb-suc-suc (n + a) (n + b)
    ∙ shifted n a b

module _ {l : List ℕ} {top x y : ℕ} {p q : Node} (e : p ≡ get_node l x) (k : q ≡ get_node l y) where
  pub same-wrong : p.tag < atom_value_tag → Does2 same l l top x y None
  unfolding same primitive
  same-wrong h = record { means = λ t u a b. wrong (rw (not-atom e a h) refl) }

  pub same_wrong_2 : q.tag < atom_value_tag → Does2 same l l top x y None
  unfolding same primitive
  same_wrong_2 h = record { means = λ t u a b. wrong (rw (not-atom k b h) (given-none (as_atom t))) }

  pub same-is : {n : ℕ} {l1 : List ℕ} {d : Made} → atom_value_tag ≤ p.tag → atom_value_tag ≤ q.tag → n ≡ agreed p q
      → Stored l l1 top (record { tag = number_value_tag; content = n }) d.at d.top → Does2 same l l1 top x y (Some d)
  unfolding same primitive as_atom tag_of content_of same_atom agreed
  same-is {n} {l1} {d} hp hq h s =
      record {
        means = λ t u a b.
            let w = datum-at a e hp in
            let z = datum-at b k hq in
            let kinds : eqb p.tag q.tag ≡ eqb (tag_of w.value) (tag_of z.value) =
            ap (λ (j : ℕ). eqb j q.tag) w.tag ∙ ap (eqb (atom_value_tag + tag_of w.value)) z.tag ∙ shifted atom_value_tag (tag_of w.value) (tag_of z.value) in
            let contents : eqb p.content q.content ≡ eqb (content_of w.value) (content_of z.value) =
            ap (λ (j : ℕ). eqb j q.content) w.content ∙ ap (eqb (content_of w.value)) z.content in
            let is : (when same_atom w.value z.value then 1 else 0) ≡ n =
            sym (h ∙ ap (λ (c : Bool). when c && eqb p.content q.content then 1 else 0) kinds
            ∙ ap (λ (c : Bool). when eqb (tag_of w.value) (tag_of z.value) && c then 1 else 0) contents) in
            let value : same t u ≡ some (datum (number n)) =
            ap (λ (v : Tree). same v u) w.is ∙ ap (λ (v : Tree). same (datum w.value) v) z.is ∙ ap (λ (j : ℕ). some (datum (number j))) is in
            added (datum (number n)) value (made-datum (number n) s) s;
      }

-- ---- pick

none-picked : {l : List ℕ} {top x : ℕ} {p : Node} {t : Tree} (u v : Tree) → Rep l top x t → p ≡ get_node l x → ¬ (p.tag ≡ number_value_tag) → pick t u v ≡ none
unfolding pick primitive as_atom as_number tag_of
none-picked u v (is-var a q) e h = refl
none-picked u v (is-app a q r) e h = refl
none-picked u v (is-fun a q y r) e h = refl
none-picked u v (is-datum {a = m.symbol j} a q) e h = refl
none-picked u v (is-datum {a = m.number j} a q) e h = absurd (h (tag_is e q))
none-picked u v (is-datum {a = m.point j} a q) e h = refl
none-picked u v (is-datum {a = m.prim j} a q) e h = refl
none-picked u v (is-datum {a = m.rung j} a q) e h = refl
none-picked u v (is-lst a q r) e h = refl
none-picked u v (is-atom a q y) e h = refl
none-picked u v (is-list a q y r) e h = refl

number_at : {l : List ℕ} {top x : ℕ} {p : Node} {t : Tree} → Rep l top x t → p ≡ get_node l x → p.tag ≡ number_value_tag → t ≡ datum (number p.content)
unfolding tag_of content_of
number_at {p = p} {t = t} r e h = let w = datum-at r e (omega arith) in which w.value w.tag w.content w.is
  where
    which : (a : Atom) → p.tag ≡ atom_value_tag + tag_of a → p.content ≡ content_of a → t ≡ datum a → t ≡ datum (number p.content)
    which (m.symbol j) g c i = absurd (omega (arith, g))
    which (m.number j) g c i = i ∙ ap (λ (k : ℕ). datum (number k)) (sym c)
    which (m.point j) g c i = absurd (omega (arith, g))
    which (m.prim j) g c i = absurd (omega (arith, g))
    which (m.rung j) g c i = absurd (omega (arith, g))

pick_second : (n : ℕ) (u v : Tree) → n ≡ 0 → pick (datum (number n)) u v ≡ some v
unfolding pick primitive as_atom as_number picked
pick_second n u v h = rw h refl

pick_first : (n : ℕ) (u v : Tree) → ¬ (n ≡ 0) → pick (datum (number n)) u v ≡ some u
unfolding pick primitive as_atom as_number picked
pick_first zero u v h = absurd (h refl)
pick_first (suc n) u v h = refl

module _ {l : List ℕ} {top x y z : ℕ} {p : Node} (e : p ≡ get_node l x) where
  pub pick-wrong : ¬ (p.tag ≡ number_value_tag) → Does3 pick l l top x y z None
  pick-wrong h = record { means = λ t u v a b c. wrong (none-picked u v a e h) }

  pub pick-zero : p.tag ≡ number_value_tag → p.content ≡ 0 → Does3 pick l l top x y z (Some (record { at = z; top = top }))
  pick-zero h k = record { means = λ t u v a b c. found z v (ap (λ (w : Tree). pick w u v) (number_at a e h) ∙ pick_second p.content u v k) c }

  pub pick_other : p.tag ≡ number_value_tag → ¬ (p.content ≡ 0) → Does3 pick l l top x y z (Some (record { at = y; top = top }))
  pick_other h k = record { means = λ t u v a b c. found y u (ap (λ (w : Tree). pick w u v) (number_at a e h) ∙ pick_first p.content u v k) b }

pub ruleset laws = (node-room, read-inside, same-wrong, same_wrong_2, same-is, pick-wrong, pick-zero, pick_other)
