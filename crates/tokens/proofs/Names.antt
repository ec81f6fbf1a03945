-- A word's place in a table of words, as `position` finds it.
use Prim.Native.Nat.{ℕ, suc, ◌+◌, ◌<◌, ◌≤◌}
use mathlib.Core.Path.{◌≡◌, refl, sym, ap, ◌∙◌}
use mathlib.Core.Bool.{Bool, true, false, cond, not}
use mathlib.Core.List.{List, [], ◌∷◌, map}
use native.Mathlib.Omega.{arith}
use lib.ListN.{length}
use lib.Dec.{ltb}
use Rattle.std.specs.Prelude.{Option, None, Some}
use Rattle.std.proofs.Common.{Bor}
use Rattle.std.specs.List.{position_or_len}
use Rattle.std.proofs.lemmas.Bool.{ltb-true, ltb-false}
use Rattle.model.specs.Choice.{when◌then◌else◌}
use Rattle.model.specs.Reading.{same_bytes}
use Rattle.requests.specs.Tokens.{place}

-- the place of the first entry that is w, or their number
abbrev place_at : List ℕ → List (Bor (List ℕ)) → ℕ
place_at w l = position_or_len (λ v. same_bytes w v.now) l

place_is : (w : List ℕ) (l : List (Bor (List ℕ))) → place_at w l ≡ place w (map (λ v. v.now) l)
unfolding place
place_is w [] = refl
place_is w (v ∷ l) = go (same_bytes w v.now) (place_is w l)
  where
    go : (t : Bool) → place_at w l ≡ place w (map (λ v. v.now) l) → cond (not t) (1 + place_at w l) 0 ≡ (when t then 0 else suc (place w (map (λ v. v.now) l)))
    go true h = refl
    go false h = let e : 1 + place_at w l ≡ suc (place_at w l) = omega arith in e ∙ ap suc h

module _ (w : List ℕ) (names : List (List ℕ)) (n : ℕ) where
  pub place_found : (l : List (Bor (List ℕ))) {r : Option ℕ} → map (λ v. v.now) l ≡ names → length l ≡ n
      → r ≡ cond (ltb (place_at w l) (length l)) (Some (place_at w l)) None → r ≡ (when ltb (place w names) n then Some (place w names) else None)
  place_found l e k h = h ∙ rw (k, place_is w l, e) (go (ltb (place w names) n))
    where
      go : (t : Bool) → cond t (Some (place w names)) None ≡ (when t then Some (place w names) else None)
      go true = refl
      go false = refl

  module _ {o : Option ℕ} (h : o ≡ (when ltb (place w names) n then Some (place w names) else None)) where
    pub place_some : {k : ℕ} → o ≡ Some k → (place w names < n) × (k ≡ place w names)
    place_some {k} f = go (ltb (place w names) n) refl (sym f ∙ h)
      where
        go : (t : Bool) → ltb (place w names) n ≡ t → Some k ≡ (when t then Some (place w names) else None) → (place w names < n) × (k ≡ place w names)
        go true e h = (ltb-true (place w names) n e, cc)
        go false e h = absurd (let z : ◌≡◌ {A = ℕ} 0 1 = cc in omega arith)

    pub place_none : o ≡ None → n ≤ place w names
    place_none f = go (ltb (place w names) n) refl (sym f ∙ h)
      where
        go : (t : Bool) → ltb (place w names) n ≡ t → None ≡ (when t then Some (place w names) else None) → n ≤ place w names
        go true e h = absurd (let z : ◌≡◌ {A = ℕ} 0 1 = cc in omega arith)
        go false e h = ltb-false (place w names) n e
