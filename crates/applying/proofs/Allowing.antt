-- The test for code 28.
use mathlib.Core.Path.{◌≡◌, refl, sym, ◌∙◌}
use mathlib.Core.List.{List}
use mathlib.Core.Bool.{Bool, true, false, not}
use Prim.Native.Nat.{ℕ}
use native.Mathlib.Omega.{arith}
use Rattle.model.specs.Objects as o
use Rattle.model.specs.Objects.{tag_of, content_of}
use Rattle.model.specs.Meanings as m
use Rattle.model.specs.Trees.{Tree, as_atom}
use Rattle.model.specs.Evaluating.{primitive_of, as_primitive, wants_use, is_local, allowed}
use Rattle.table.specs.Tags.{primitive_value_tag}
use Rattle.table.specs.Words.{get_node}
use Rattle.table.specs.declared.Node.{Node}
use Rattle.things.specs.Rep.{Rep, is-var, is-app, is-fun, is-lst, is-datum, is-atom, is-list}
use Rattle.things.proofs.ByTag.{tag_is}
use Rattle.things.proofs.Measuring.{node-inside}
use Rattle.environment.specs.declared.Place.{Place}
use Rattle.environment.specs.Places.{RepPlace, is-nowhere, is_use_lem}
use Rattle.applying.specs.Testing.{Permitted}
use Rattle.applying.proofs.Testing.{prim-is}

module _ {l : List ℕ} {f : ℕ} {p : Node} (e : p ≡ get_node l f) where
  local-is : {top : ℕ} {t : Tree} → Rep l top f t → p.tag ≡ primitive_value_tag → is_local t ≡ wants_use (primitive_of p.content)
  unfolding is_local as_atom as_primitive
  local-is r h = rw (prim-is e r h) refl

  none-local : {top : ℕ} {t : Tree} → Rep l top f t → ¬ (p.tag ≡ primitive_value_tag) → is_local t ≡ false
  unfolding is_local as_atom as_primitive wants_use tag_of
  none-local (is-var a q) h = refl
  none-local (is-app a q r) h = refl
  none-local (is-fun a q y r) h = refl
  none-local (is-datum {a = o.symbol x} a q) h = refl
  none-local (is-datum {a = o.number x} a q) h = refl
  none-local (is-datum {a = o.point x} a q) h = refl
  none-local (is-datum {a = o.prim x} a q) h = absurd (h (tag_is e q))
  none-local (is-datum {a = o.rung x} a q) h = refl
  none-local (is-lst a q r) h = refl
  none-local (is-atom a q y) h = refl
  none-local (is-list a q y r) h = refl

-- the test at a place, by whether the value is a local primitive
nowhere-not : {l : List ℕ} {top : ℕ} {place : Place} {q : m.Place} (t : Tree) {b : Bool} → RepPlace l top place q → place.intro.0 ≡ 0 → is_local t ≡ b → not b ≡ allowed q t
unfolding allowed
nowhere-not t (is-nowhere y) z i = rw i refl
nowhere-not t (is_use_lem d v y) z i = absurd (omega (arith, d.from_one, z))

other-yes : {l : List ℕ} {top : ℕ} {place : Place} {q : m.Place} (t : Tree) → RepPlace l top place q → is_local t ≡ false → true ≡ allowed q t
unfolding allowed
other-yes t (is-nowhere y) i = rw i refl
other-yes t (is_use_lem d v y) i = refl

use_yes : {l : List ℕ} {top : ℕ} {place : Place} {q : m.Place} (t : Tree) → RepPlace l top place q → ¬ (place.intro.0 ≡ 0) → true ≡ allowed q t
unfolding allowed
use_yes t (is-nowhere y) h = absurd (h y)
use_yes t (is_use_lem d v y) h = refl

module _ {l : List ℕ} {f : ℕ} {place : Place} where
  pub allowed-local : {p : Node} {b : Bool} → p ≡ get_node l f → place.intro.0 ≡ 0 → p.tag ≡ primitive_value_tag → b ≡ wants_use (primitive_of p.content) → Permitted l f place (not b)
  allowed-local e z h k = record { means = λ top t q r w. nowhere-not t w z (local-is e r h ∙ sym k) }

  pub allowed-other : {p : Node} → p ≡ get_node l f → ¬ (p.tag ≡ primitive_value_tag) → Permitted l f place true
  allowed-other e h = record { means = λ top t q r w. other-yes t w (none-local e r h) }

  pub allowed_in_use : ¬ (place.intro.0 ≡ 0) → Permitted l f place true
  allowed_in_use h = record { means = λ top t q r w. use_yes t w h }

pub ruleset allowing = (node-inside, allowed-local, allowed-other, allowed_in_use)
