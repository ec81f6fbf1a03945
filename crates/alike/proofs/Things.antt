-- Of objects alike size and nesting are the same, and what is left of them when their sets are stripped is alike.
use mathlib.Core.Path.{◌≡◌, refl, ap, ap₂}
use Prim.Native.Nat.{ℕ, suc, ◌+◌, max}
use Rattle.model.specs.Objects.{Stx, Stxs, size, sizes, nesting, nestings}
use Rattle.model.specs.Trees.{strip, strip_all}
use Rattle.alike.proofs.Alike.{NewNumbers, StxAlike, atoms, lists, StxsAlike, nils, conses, TreeAlike, datums, lsts, TreesAlike, tnils, tconses}

module _ (ρ : NewNumbers) where
  mutual
    unfolding size

    pub size_alike : {x y : Stx} → StxAlike ρ x y → size x ≡ size y
    size_alike (atoms a h) = refl
    size_alike (lists h i) = ap suc (sizes_alike i)

    sizes_alike : {l r : Stxs} → StxsAlike ρ l r → sizes l ≡ sizes r
    sizes_alike nils = refl
    sizes_alike (conses h i) = ap₂ (λ (a b : ℕ). a + b) (size_alike h) (sizes_alike i)

  mutual
    unfolding nesting

    pub nesting_alike : {x y : Stx} → StxAlike ρ x y → nesting x ≡ nesting y
    nesting_alike (atoms a h) = refl
    nesting_alike (lists h i) = ap suc (nestings_alike i)

    nestings_alike : {l r : Stxs} → StxsAlike ρ l r → nestings l ≡ nestings r
    nestings_alike nils = refl
    nestings_alike (conses h i) = ap₂ max (nesting_alike h) (nestings_alike i)

  mutual
    unfolding strip

    pub strip_alike : {x y : Stx} → StxAlike ρ x y → TreeAlike ρ (strip x) (strip y)
    strip_alike (atoms a h) = datums
    strip_alike (lists h i) = lsts (strip_all_alike i)

    strip_all_alike : {l r : Stxs} → StxsAlike ρ l r → TreesAlike ρ (strip_all l) (strip_all r)
    strip_all_alike nils = tnils
    strip_all_alike (conses h i) = tconses (strip_alike h) (strip_all_alike i)
