-- A set renumbered is like what it came from, and is the only one that is.
use mathlib.Core.Path.{◌≡◌, refl, sym, ap₂, ◌∙◌}
use Prim.Native.Nat.{ℕ, zero, suc, ◌^◌, ◌≤◌, ◌<◌}
use native.Mathlib.Omega.{arith}
use mathlib.Core.Bool.{Bool, true, false, ◌||◌, false≢true}
use mathlib.Core.List.{List, [], ◌∷◌}
use lib.Dec.{eqb}
use Rattle.model.specs.Scopes.{Scopes, has, add, members}
use Rattle.model.specs.Objects.{Sets}
use borrow.Author.Tests.{eqb-true}
use Rattle.laws.proofs.ScopeSets.{has-none, has-add}
use Rattle.laws.proofs.Members.{Asc, member, Small, asc_of, member_has}
use Rattle.addresses.proofs.Fitting.{set_more}
use Rattle.alike.proofs.Alike.{NewNumbers, SetAlike}
use Rattle.alike.specs.Renumbering.{mapped, set_of, renumber_set}
use Rattle.alike.proofs.SetLaws.{eqb-to, set-one}

-- how many scopes an image can have, as `Small` has it (laws, Members)
abbrev pub most : ℕ
most = 256

pub small_of : (n m : ℕ) → n ≤ most → m < 2 ^ n → Small m
small_of n m h q = set_more h m q

-- three sets, each the same
pub sets_path : (a b c d e f : Scopes) → a ≡ b → c ≡ d → e ≡ f
    → ◌≡◌ {A = Sets} (record { at0 = a; at1 = c; at2 = e }) (record { at0 = b; at1 = d; at2 = f })
sets_path a b c d e f p q r = cc

pub has_add_some : (j k : ℕ) (m : Scopes) → 1 ≤ k → has j (add k m) ≡ (eqb j k || has j m)
has_add_some j zero m h = absurd (no h)
  where
    no : 1 ≤ 0 → ⊥
    no h = omega arith
has_add_some j (suc k) m h = has-add j k m

module _ (ρ : NewNumbers) (zero_is : ρ.to 0 ≡ 0) where
  to_some : (k : ℕ) → 1 ≤ k → 1 ≤ ρ.to k
  to_some k h = go (ρ.to k) refl
    where
      go : (j : ℕ) → ρ.to k ≡ j → 1 ≤ j
      go zero e =
          let z : k ≡ 0 = ρ.one_to_one k 0 (e ∙ sym zero_is) in
          absurd (no z)
        where
          no : k ≡ 0 → ⊥
          no z = omega arith
      go (suc j) e = omega arith

  -- ---- a set

  set-has : (p n : ℕ) (l : List ℕ) → Asc p n l → (k : ℕ) → has (ρ.to k) (set_of (mapped ρ.to l)) ≡ member k l
  unfolding set_of mapped member
  set-has p n [] a k = has-none (ρ.to k)
  set-has p n (j ∷ l) a k =
      has_add_some (ρ.to k) (ρ.to j) (set_of (mapped ρ.to l)) (to_some j (some a.0))
      ∙ ap₂ (λ (x y : Bool). x || y) (sym (eqb-to ρ k j)) (set-has j n l a.2 k)
    where
      some : p < j → 1 ≤ j
      some h = omega arith

  set-from : (p n : ℕ) (l : List ℕ) → Asc p n l → (j : ℕ) → has j (set_of (mapped ρ.to l)) ≡ true → (k : ℕ) × (ρ.to k ≡ j)
  unfolding set_of mapped
  set-from p n [] a j e = absurd (false≢true (sym (has-none j) ∙ e))
  set-from p n (i ∷ l) a j e =
      go (eqb j (ρ.to i)) refl (sym (has_add_some j (ρ.to i) (set_of (mapped ρ.to l)) (to_some i (some a.0))) ∙ e) (set-from i n l a.2 j)
    where
      some : p < i → 1 ≤ i
      some h = omega arith

      go : (t : Bool) → eqb j (ρ.to i) ≡ t → (t || has j (set_of (mapped ρ.to l))) ≡ true
          → (has j (set_of (mapped ρ.to l)) ≡ true → (k : ℕ) × (ρ.to k ≡ j)) → (k : ℕ) × (ρ.to k ≡ j)
      go true q f r = (i, sym (eqb-true j (ρ.to i) q))
      go false q f r = r f

  pub renumber_set_alike : (m : Scopes) → Small m → SetAlike ρ m (renumber_set ρ.to m)
  unfolding renumber_set
  renumber_set_alike m h = record {
    same = λ k. sym (member_has k m h) ∙ sym (set-has 0 most (members m) (asc_of m most h) k);
    comes = λ j e. set-from 0 most (members m) (asc_of m most h) j e;
  }

  pub renumber_set-one : (a b : Scopes) → Small a → SetAlike ρ a b → b ≡ renumber_set ρ.to a
  renumber_set-one a b s h = set-one ρ a b (renumber_set ρ.to a) h (renumber_set_alike a s)
