-- The operations on sets keep sets alike, and containment and equality are the same on both sides. The map need only be one-to-one.
use mathlib.Core.Path.{◌≡◌, refl, sym, ap, ap₂, ◌∙◌, subst}
use Prim.Native.Nat.{ℕ, zero, suc}
use mathlib.Core.Bool.{Bool, true, false, not, ◌&&◌, ◌||◌, true≢false, false≢true}
use lib.Dec.{eqb}
use lib.Bits.{bit_or}
use Rattle.model.specs.Choice.{when◌then◌else◌}
use Rattle.model.specs.Scopes.{Scopes, has, only, add, flip, prune, within}
use Rattle.model.specs.Objects.{Sets, set_at, change_at}
use borrow.Author.Tests.{eqb-true, eq-eqb}
use Rattle.laws.proofs.Tests.{same_test}
use Rattle.laws.proofs.ScopeSets.{has-none, has-only, has-or, has-prune, within→sub, sub→within, within-refl, within_antisym}
use Rattle.alike.proofs.Alike.{NewNumbers, SetAlike, SetsAlike}

module _ (ρ : NewNumbers) where
  pub eqb-to : (j k : ℕ) → eqb j k ≡ eqb (ρ.to j) (ρ.to k)
  eqb-to j k =
      same_test (eqb j k) (eqb (ρ.to j) (ρ.to k))
      (λ e. eq-eqb (ρ.to j) (ρ.to k) (ap ρ.to (eqb-true j k e)))
      (λ e. eq-eqb j k (ρ.one_to_one j k (eqb-true (ρ.to j) (ρ.to k) e)))

  pub none_alike : SetAlike ρ 0 0
  none_alike = record {
    same = λ k. has-none k ∙ sym (has-none (ρ.to k));
    comes = λ j h. absurd (false≢true (sym (has-none j) ∙ h));
  }

  -- the set with scope k alone, where k is left as it is
  pub only_alike : (k : ℕ) → ρ.to k ≡ k → SetAlike ρ (only k) (only k)
  unfolding only
  only_alike zero f = none_alike
  only_alike (suc i) f = record {
    same = λ k. has-only k i ∙ eqb-to k (suc i) ∙ ap (eqb (ρ.to k)) f ∙ sym (has-only (ρ.to k) i);
    comes = λ j h. (suc i, f ∙ sym (eqb-true j (suc i) (sym (has-only j i) ∙ h)));
  }

  -- ---- an operation that goes by members

  -- scope k is in op a b as g says of a and of b
  abbrev ByMembers : (Scopes → Scopes → Scopes) → (Bool → Bool → Bool) → Type 0
  ByMembers op g = (k : ℕ) (a b : Scopes) → has k (op a b) ≡ g (has k a) (has k b)

  module _ (op : Scopes → Scopes → Scopes) (g : Bool → Bool → Bool) (has-op : ByMembers op g) (none : g false false ≡ false) where
    op_alike : (a b c d : Scopes) → SetAlike ρ a b → SetAlike ρ c d → SetAlike ρ (op a c) (op b d)
    op_alike a b c d h i = record {
      same = λ k. has-op k a c ∙ ap₂ g (h.same k) (i.same k) ∙ sym (has-op (ρ.to k) b d);
      comes = λ j e. from j (has j b) refl (has j d) refl (sym (has-op j b d) ∙ e);
    }
      where
        from : (j : ℕ) (x : Bool) → has j b ≡ x → (y : Bool) → has j d ≡ y → g (has j b) (has j d) ≡ true → (k : ℕ) × (ρ.to k ≡ j)
        from j true p y q e = h.comes j p
        from j false p true q e = i.comes j q
        from j false p false q e = absurd (false≢true (sym none ∙ ap₂ g (sym p) (sym q) ∙ e))

  pub or_alike : (a b c d : Scopes) → SetAlike ρ a b → SetAlike ρ c d → SetAlike ρ (bit_or a c) (bit_or b d)
  or_alike = op_alike bit_or ◌||◌ has-or refl

  pub add_alike : (k : ℕ) → ρ.to k ≡ k → (a b : Scopes) → SetAlike ρ a b → SetAlike ρ (add k a) (add k b)
  unfolding add
  add_alike k f a b h = or_alike (only k) (only k) a b (only_alike k f) h

  pub prune_alike : (p q : Scopes) → SetAlike ρ p q → (a b : Scopes) → SetAlike ρ a b → SetAlike ρ (prune p a) (prune q b)
  prune_alike p q i a b h = op_alike prune (λ x y. y && not x) has-prune refl p q a b i h

  -- by the test on each side: scope k is a member of both or of neither
  pub flip_alike : (k : ℕ) → ρ.to k ≡ k → (a b : Scopes) → SetAlike ρ a b → SetAlike ρ (flip k a) (flip k b)
  unfolding flip
  flip_alike k f a b h = go (has k a) (has k b) (h.same k ∙ ap (λ (j : ℕ). has j b) f)
    where
      go : (x y : Bool) → x ≡ y → SetAlike ρ (when x then prune (only k) a else add k a) (when y then prune (only k) b else add k b)
      go true true e = prune_alike (only k) (only k) (only_alike k f) a b h
      go true false e = absurd (true≢false e)
      go false true e = absurd (false≢true e)
      go false false e = add_alike k f a b h

  -- ---- containment and equality

  module _ (a b c d : Scopes) (h : SetAlike ρ a b) (i : SetAlike ρ c d) where
    within-there : within a c ≡ true → within b d ≡ true
    within-there e = sub→within b d (λ j t.
        let f = h.comes j t in
        ap (λ (x : ℕ). has x d) (sym f.1) ∙ sym (i.same f.0) ∙ within→sub a c e f.0 (h.same f.0 ∙ ap (λ (x : ℕ). has x b) f.1 ∙ t))

    within_back : within b d ≡ true → within a c ≡ true
    within_back e = sub→within a c (λ k t. i.same k ∙ within→sub b d e (ρ.to k) (sym (h.same k) ∙ t))

    pub within_alike : within a c ≡ within b d
    within_alike = same_test (within a c) (within b d) within-there within_back

  pub eq_there : (a b c d : Scopes) → SetAlike ρ a b → SetAlike ρ c d → a ≡ c → b ≡ d
  eq_there a b c d h i e =
      within_antisym b d (within-there a b c d h i (subst (λ (x : Scopes). within a x ≡ true) e (within-refl a)))
      (within-there c d a b i h (subst (λ (x : Scopes). within c x ≡ true) (sym e) (within-refl c)))

  pub eq_back : (a b c d : Scopes) → SetAlike ρ a b → SetAlike ρ c d → b ≡ d → a ≡ c
  eq_back a b c d h i e =
      within_antisym a c (within_back a b c d h i (subst (λ (x : Scopes). within b x ≡ true) e (within-refl b)))
      (within_back c d a b i h (subst (λ (x : Scopes). within d x ≡ true) (sym e) (within-refl d)))

  -- a set is like one set only
  pub set-one : (a b d : Scopes) → SetAlike ρ a b → SetAlike ρ a d → b ≡ d
  set-one a b d h i = eq_there a b a d h i refl

  -- ---- three sets

  pub set_at_alike : (ph : ℕ) (c d : Sets) → SetsAlike ρ c d → SetAlike ρ (set_at ph c) (set_at ph d)
  unfolding set_at
  set_at_alike zero c d h = h.alike0
  set_at_alike (suc zero) c d h = h.alike1
  set_at_alike (suc (suc p)) c d h = h.alike2

  pub change_at_alike : (f g : Scopes → Scopes) → ((a b : Scopes) → SetAlike ρ a b → SetAlike ρ (f a) (g b)) → (ph : ℕ) (c d : Sets) → SetsAlike ρ c d
      → SetsAlike ρ (change_at f ph c) (change_at g ph d)
  unfolding change_at
  change_at_alike f g k zero c d h = record { alike0 = k c.at0 d.at0 h.alike0; alike1 = h.alike1; alike2 = h.alike2 }
  change_at_alike f g k (suc zero) c d h = record { alike0 = h.alike0; alike1 = k c.at1 d.at1 h.alike1; alike2 = h.alike2 }
  change_at_alike f g k (suc (suc p)) c d h = record { alike0 = h.alike0; alike1 = h.alike1; alike2 = k c.at2 d.at2 h.alike2 }
