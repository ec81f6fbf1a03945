-- Along a tree's bytes as many things as its size are read, and they are its things.
use Prim.Native.Nat.{ℕ, suc, ◌+◌}
use mathlib.Core.Path.{◌≡◌, refl, sym, ap, ◌∙◌}
use mathlib.Core.List.{List, [], ◌∷◌, ◌++◌, append_assoc, append-nil}
use native.Mathlib.Omega.{arith}
use Rattle.model.specs.Trees as m
use Rattle.model.specs.Trees.{var, app, fun, datum, lst, stx, Trees, tnil, tcons, tsize, tsize_by, tsizes_by}
use Rattle.model.specs.Writing.{trees_bytes}
use Rattle.requests.specs.Uses as u
use Rattle.requests.specs.Uses.{things, things_all}
use Rattle.requests.proofs.Uses.{tsizes}
use Rattle.head.specs.declared.Counts.{Counts}
use Rattle.places.specs.Reading.{thing_of, along}
use Rattle.places.specs.Standing.{At}
use Rattle.places.proofs.Standing.{front, parts, things_parted, size_parted, AllAt, thing-read, parts_at, first-at, others-at}

-- what is read along so many things more than a tree's, or several trees'

pub record Along (k : Counts) (s : List ℕ) (size : ℕ) (l : List u.Thing) (rest : List ℕ) : Type 0 where
  pub read : (more : ℕ) → along k (size + more) s ≡ l ++ along k more rest

fuel : (k : Counts) (s : List ℕ) {a b : ℕ} → a ≡ b → along k a s ≡ along k b s
fuel k s e = ap (λ (n : ℕ). along k n s) e

pub step : (k : Counts) (n : ℕ) (s : List ℕ) (t : m.Tree) (rest : List ℕ) → At k s t rest → along k (suc n) s ≡ thing_of (front t) ∷ along k n (trees_bytes (parts t) ++ rest)
unfolding along
step k n s t rest a = rw (thing-read a) refl

none-along : {k : Counts} {rest : List ℕ} → Along k rest 0 [] rest
none-along {k} {rest} = record { read = λ more. fuel k rest (omega arith) }

module _ {k : Counts} {s : List ℕ} {rest : List ℕ} where
  from_parts : (t : m.Tree) → At k s t rest → Along k (trees_bytes (parts t) ++ rest) (tsizes (parts t)) (things_all (parts t)) rest → Along k s (tsize t) (things t) rest
  from_parts t a h = record {
    read = λ more. fuel k s (omega (arith, size_parted t)) ∙ step k (tsizes (parts t) + more) s t rest a ∙ ap (λ (z : List u.Thing). thing_of (front t) ∷ z) (h.read more)
        ∙ ap (λ (z : List u.Thing). z ++ along k more rest) (sym (things_parted t));
  }

  two-along : {mid : List ℕ} (x y : ℕ) (a b : List u.Thing) → Along k s x a mid → Along k mid y b rest → Along k s (x + y) (a ++ b) rest
  two-along {mid} x y a b p q = record {
    read = λ more. fuel k s (omega arith) ∙ p.read (y + more) ∙ ap (λ (z : List u.Thing). a ++ z) (q.read more) ∙ sym (append_assoc a b (along k more rest));
  }

mutual
  unfolding things things_all tsize tsizes tsize_by tsizes_by parts trees_bytes

  pub tree-along : (t : m.Tree) {k : Counts} {s rest : List ℕ} → At k s t rest → Along k s (tsize t) (things t) rest
  tree-along (var n) a = from_parts (var n) a none-along
  tree-along (app h l) a = let p = parts_at a in from_parts (app h l) a (two-along (tsize h) (tsizes l) (things h) (things_all l) (tree-along h (first-at p)) (trees-along l (others-at p)))
  tree-along (fun n b) a = let p = parts_at a in from_parts (fun n b) a (two-along (tsize b) 0 (things b) [] (tree-along b (first-at p)) none-along)
  tree-along (datum x) a = from_parts (datum x) a none-along
  tree-along (lst l) a = from_parts (lst l) a (trees-along l (parts_at a))
  tree-along (stx x) a = from_parts (stx x) a none-along

  trees-along : (l : Trees) {k : Counts} {s rest : List ℕ} → AllAt k s l rest → Along k s (tsizes l) (things_all l) rest
  trees-along tnil {k} {s} {rest} a = record { read = λ more. ap (along k (0 + more)) a.is ∙ fuel k rest (omega arith) }
  trees-along (tcons t l) a = two-along (tsize t) (tsizes l) (things t) (things_all l) (tree-along t (first-at a)) (trees-along l (others-at a))

-- all of it
pub along-tree : {k : Counts} {s : List ℕ} {t : m.Tree} {rest : List ℕ} → At k s t rest → along k (tsize t) s ≡ things t
unfolding along
along-tree {k} {s} {t} {rest} a = ap (λ (n : ℕ). along k n s) (let e : tsize t ≡ tsize t + 0 = omega arith in e) ∙ (tree-along t a).read 0 ∙ append-nil (things t)
