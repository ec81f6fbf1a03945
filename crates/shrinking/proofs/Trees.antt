-- A tree that is like another, each within its scopes, is that tree renumbered: no dropped scope is left in it.
use mathlib.Core.Path.{◌≡◌, refl, sym, ap, ap₂, ◌∙◌}
use Prim.Native.Nat.{ℕ, zero, suc, ◌+◌, ◌^◌, ◌≤◌, ◌<◌}
use native.Mathlib.Omega.{arith}
use mathlib.Core.Bool.{Bool, true, false, true≢false, false≢true}
use lib.ListN.{length}
use Rattle.model.specs.Scopes.{Scopes, has, members}
use Rattle.model.specs.Objects.{Sets, Stx, atom, list, Stxs, cons, on_sets, on_sets_all}
use Rattle.model.specs.Trees.{Tree, app, fun, lst, stx, Trees, tcons}
use Rattle.laws.specs.Ordered.{SetsIn}
use Rattle.laws.proofs.ScopeSets.{Sub}
use Rattle.laws.proofs.Stable.{has_above}
use Rattle.laws.proofs.Members.{Small}
use Rattle.codec_laws.specs.WellFormed.{StxFits, StxsFit, TreeFits, TreesFit, ValuesFit}
use Rattle.alike.proofs.Alike.{NewNumbers, SetAlike, SetsAlike, StxAlike, atoms, lists, StxsAlike, nils, conses, TreeAlike, vars, apps, funs, datums, lsts, stxs, TreesAlike, tnils, tconses}
use Rattle.alike.specs.Renumbering.{renumber_set, renumber_sets, renumber_stx}
use Rattle.alike.proofs.SetLaws.{set-one}
use Rattle.alike.proofs.RenumberedSets.{most, small_of, sets_path}
use Rattle.shrinking.specs.Shrunk.{rank}
use Rattle.shrinking.specs.Finished.{renumber_tree, renumber_trees}
use Rattle.shrinking.proofs.Ranks.{has-zero, extension_out, ranked}
use Rattle.shrinking.proofs.Within.{set_like}

module _ (u : Scopes) (small : Small u) (n : ℕ) (few : n ≤ most) where
  abbrev ρ : NewNumbers
  ρ = ranked u small

  -- no dropped scope is in it
  sub_from : (a b : Scopes) → SetAlike ρ a b → b < 2 ^ length (members u) → Sub a u
  sub_from a b h s zero e = absurd (false≢true (sym (has-zero a) ∙ e))
  sub_from a b h s (suc k) e = go (has (suc k) u) refl
    where
      past : length (members u) < length (members u) + suc k
      past = omega arith

      go : (t : Bool) → has (suc k) u ≡ t → has (suc k) u ≡ true
      go true q = q
      go false q =
          absurd (true≢false (sym e ∙ h.same (suc k) ∙ ap (λ (x : ℕ). has x b) (extension_out u small k q)
          ∙ has_above (length (members u)) (length (members u) + suc k) b s past))

  set_is : (a b : Scopes) → a < 2 ^ n → b < 2 ^ length (members u) → SetAlike ρ a b → b ≡ renumber_set (rank u) a
  set_is a b f g h = set-one ρ a b (renumber_set (rank u) a) h (set_like u small a (small_of n a few f) (sub_from a b h g))

  sets-is : (c d : Sets) → SetsIn n c → SetsIn (length (members u)) d → SetsAlike ρ c d → d ≡ renumber_sets (rank u) c
  unfolding renumber_sets
  sets-is c d f g h =
      sets_path d.at0 (renumber_set (rank u) c.at0) d.at1 (renumber_set (rank u) c.at1) d.at2 (renumber_set (rank u) c.at2)
      (set_is c.at0 d.at0 f.0 g.0 h.alike0) (set_is c.at1 d.at1 f.1 g.1 h.alike1)
      (set_is c.at2 d.at2 f.2 g.2 h.alike2)

  mutual
    unfolding on_sets

    on_is : (k : ℕ) (x y : Stx) → StxAlike ρ x y → StxFits k n x → StxFits k (length (members u)) y → y ≡ on_sets (renumber_sets (rank u)) x
    on_is k x y (atoms {c} {d} a h) f g = ap (λ (z : Sets). atom z a) (sets-is c d f.0 g.0 h)
    on_is k x y (lists {c} {d} {l} {r} h i) f g = ap₂ (λ (z : Sets) (m : Stxs). list z m) (sets-is c d f.0 g.0 h) (all-is k l r i f.1 g.1)

    all-is : (k : ℕ) (l r : Stxs) → StxsAlike ρ l r → StxsFit k n l → StxsFit k (length (members u)) r → r ≡ on_sets_all (renumber_sets (rank u)) l
    all-is k l r nils f g = refl
    all-is k l r (conses {x} {y} {l = l₁} {r = r₁} h i) f g = ap₂ cons (on_is k x y h f.0 g.0) (all-is k l₁ r₁ i f.1 g.1)

  stx-is : (k : ℕ) (x y : Stx) → StxAlike ρ x y → StxFits k n x → StxFits k (length (members u)) y → y ≡ renumber_stx (rank u) x
  unfolding renumber_stx
  stx-is k x y h f g = on_is k x y h f g

  mutual
    unfolding renumber_tree

    pub tree_is : (k m : ℕ) (t v : Tree) → TreeAlike ρ t v → TreeFits k m n t → TreeFits k m (length (members u)) v → v ≡ renumber_tree (rank u) t
    tree_is k m t v vars f g = refl
    tree_is k m t v (apps {f = x} {g = y} {l} {r} h i) f g = ap₂ app (tree_is k m x y h f.0 g.0) (trees-are k m l r i f.1 g.1)
    tree_is k m t v (funs {n = x} {b} {c} h) f g = ap (fun x) (tree_is k m b c h f.1 g.1)
    tree_is k m t v datums f g = refl
    tree_is k m t v (lsts {l} {r} i) f g = ap lst (values-are k m l r i f g)
    tree_is k m t v (stxs {x} {y} h) f g = ap stx (stx-is k x y h f g)

    trees-are : (k m : ℕ) (l r : Trees) → TreesAlike ρ l r → TreesFit k m n l → TreesFit k m (length (members u)) r → r ≡ renumber_trees (rank u) l
    trees-are k m l r tnils f g = refl
    trees-are k m l r (tconses {t} {u = v} {l = l₁} {r = r₁} h i) f g =
        ap₂ tcons (tree_is k m t v h f.0 g.0) (trees-are k m l₁ r₁ i f.1 g.1)

    values-are : (k m : ℕ) (l r : Trees) → TreesAlike ρ l r → ValuesFit k m n l → ValuesFit k m (length (members u)) r → r ≡ renumber_trees (rank u) l
    values-are k m l r tnils f g = refl
    values-are k m l r (tconses {t} {u = v} {l = l₁} {r = r₁} h i) f g =
        ap₂ tcons (tree_is k m t v h f.1 g.1) (values-are k m l₁ r₁ i f.2 g.2)
