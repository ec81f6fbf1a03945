-- An object and the bindings of an image, renumbered and put in order, are like what they came from, keep the limits, and are the only ones that
-- are alike and in order.
use mathlib.Core.Path.{◌≡◌, refl, sym, ap, ap₂, ◌∙◌, subst}
use mathlib.Core.Logic.{◌⊎◌, inl, inr}
use Prim.Native.Nat.{ℕ, suc, ◌^◌, ◌≤◌, ◌<◌}
use native.Mathlib.Omega.{arith}
use mathlib.Core.Bool.{true}
use mathlib.Core.List.{List, [], ◌∷◌}
use lib.ListN.{length}
use lib.Pow.{pow_pos}
use Rattle.model.specs.Scopes.{Scopes, members}
use Rattle.model.specs.Objects.{Sets, Stx, atom, list, Stxs, nil, cons, on_sets, on_sets_all}
use Rattle.model.specs.Resolving.{Bind, bind_before, insert}
use Rattle.laws.specs.Ordered.{SetsIn, Sorted}
use Rattle.laws.proofs.Members.{Asc, Small, asc_of}
use Rattle.laws.proofs.ResolveRule.{In}
use Rattle.laws.proofs.Stable.{insert-new, insert-old, insert_cases}
use Rattle.laws.proofs.Order.{before_trans, before-other, all_after}
use Rattle.laws.proofs.Store.{insert_sorted}
use Rattle.codec_laws.specs.WellFormed.{StxFits, StxsFit, BindFits, BindsFit}
use Rattle.addresses.proofs.Fitting.{on_sets-fits, add_in}
use Rattle.addresses.proofs.States.{binds_in, insert-length}
use Rattle.alike.proofs.Alike.{NewNumbers, SetsAlike, BindAlike, StxAlike, atoms, lists, StxsAlike, nils, conses}
use Rattle.alike.specs.Renumbering.{mapped, set_of, renumber_set, renumber_sets, renumber_stx, renumber_bind}
use Rattle.numbering.specs.Renumbered.{renumber_binds}
use Rattle.alike.proofs.SetLaws.{eq_back}
use Rattle.alike.proofs.RenumberedSets.{most, small_of, sets_path, renumber_set_alike, renumber_set-one}
use Rattle.alike.proofs.Leads.{lead_in, Ranked, insert-ranked, sorted_ranked, sorted_lead}
use Rattle.alike.proofs.Stores.{StoreAlike, Origin}

-- ---- two ascending stores with the same bindings are equal

tail_sorted : (b : Bind) (l : List Bind) → Sorted (b ∷ l) → Sorted l
tail_sorted b [] a = tt
tail_sorted b (c ∷ l) a = a.1

not_self : (b : Bind) → bind_before b b ≡ true → ⊥
not_self b e = before-other b b e refl refl

sorted_ext : (l r : List Bind) → Sorted l → Sorted r → ((b : Bind) → In b l → In b r) → ((b : Bind) → In b r → In b l) → l ≡ r
sorted_ext [] [] a c f g = refl
sorted_ext [] (b ∷ r) a c f g = absurd (g b (inl refl))
sorted_ext (b ∷ l) [] a c f g = absurd (f b (inl refl))
sorted_ext (b ∷ l) (d ∷ r) a c f g =
    ap₂ (λ (x : Bind) (y : List Bind). x ∷ y) heads
    (sorted_ext l r (tail_sorted b l a) (tail_sorted d r c) (λ e i. there e i (f e (inr i))) (λ e i. back e i (g e (inr i))))
  where
    meet : (b ≡ d) ⊎ In b r → (d ≡ b) ⊎ In d l → b ≡ d
    meet (inl p) j = p
    meet (inr i) (inl p) = sym p
    meet (inr i) (inr j) = absurd (not_self b (before_trans b d b (all_after b l a d j) (all_after d r c b i)))

    heads : b ≡ d
    heads = meet (f b (inl refl)) (g d (inl refl))

    there : (e : Bind) → In e l → (e ≡ d) ⊎ In e r → In e r
    there e i (inl p) = absurd (not_self b (all_after b l a b (subst (λ (z : Bind). In z l) (p ∙ sym heads) i)))
    there e i (inr j) = j

    back : (e : Bind) → In e r → (e ≡ b) ⊎ In e l → In e l
    back e i (inl p) = absurd (not_self d (all_after d r c d (subst (λ (z : Bind). In z r) (p ∙ heads) i)))
    back e i (inr j) = j

-- the renumbered bindings are in order
renumbered-ranked : (f : ℕ → ℕ) (l : List Bind) → Ranked (renumber_binds f l)
unfolding renumber_binds
renumbered-ranked f [] = tt
renumbered-ranked f (b ∷ l) = insert-ranked (renumber_bind f b) (renumber_binds f l) (renumbered-ranked f l)

module _ (ρ : NewNumbers) (zero_is : ρ.to 0 ≡ 0) where
  -- ---- objects, where n scopes are declared

  module _ (n : ℕ) (few : n ≤ most) where
    sets_alike : (c : Sets) → SetsIn n c → SetsAlike ρ c (renumber_sets ρ.to c)
    unfolding renumber_sets
    sets_alike c f = record {
      alike0 = renumber_set_alike ρ zero_is c.at0 (small_of n c.at0 few f.0);
      alike1 = renumber_set_alike ρ zero_is c.at1 (small_of n c.at1 few f.1);
      alike2 = renumber_set_alike ρ zero_is c.at2 (small_of n c.at2 few f.2);
    }

    sets-one : (c d : Sets) → SetsIn n c → SetsAlike ρ c d → d ≡ renumber_sets ρ.to c
    unfolding renumber_sets
    sets-one c d f h =
        sets_path d.at0 (renumber_set ρ.to c.at0) d.at1 (renumber_set ρ.to c.at1) d.at2 (renumber_set ρ.to c.at2)
        (renumber_set-one ρ zero_is c.at0 d.at0 (small_of n c.at0 few f.0) h.alike0)
        (renumber_set-one ρ zero_is c.at1 d.at1 (small_of n c.at1 few f.1) h.alike1)
        (renumber_set-one ρ zero_is c.at2 d.at2 (small_of n c.at2 few f.2) h.alike2)

    mutual
      unfolding on_sets

      on_alike : (k : ℕ) (x : Stx) → StxFits k n x → StxAlike ρ x (on_sets (renumber_sets ρ.to) x)
      on_alike k (atom c a) f = atoms a (sets_alike c f.0)
      on_alike k (list c l) f = lists (sets_alike c f.0) (all_alike k l f.1)

      all_alike : (k : ℕ) (l : Stxs) → StxsFit k n l → StxsAlike ρ l (on_sets_all (renumber_sets ρ.to) l)
      all_alike k nil f = nils
      all_alike k (cons s l) f = conses (on_alike k s f.0) (all_alike k l f.1)

    pub renumber_stx_alike : (k : ℕ) (x : Stx) → StxFits k n x → StxAlike ρ x (renumber_stx ρ.to x)
    unfolding renumber_stx
    renumber_stx_alike k x f = on_alike k x f

    mutual
      unfolding on_sets

      on_one : (k : ℕ) (x y : Stx) → StxAlike ρ x y → StxFits k n x → y ≡ on_sets (renumber_sets ρ.to) x
      on_one k x y (atoms {c} {d} a h) f = ap (λ (z : Sets). atom z a) (sets-one c d f.0 h)
      on_one k x y (lists {c} {d} {l} {r} h i) f = ap₂ (λ (z : Sets) (m : Stxs). list z m) (sets-one c d f.0 h) (all_one k l r i f.1)

      all_one : (k : ℕ) (l r : Stxs) → StxsAlike ρ l r → StxsFit k n l → r ≡ on_sets_all (renumber_sets ρ.to) l
      all_one k l r nils f = refl
      all_one k l r (conses {x} {y} {l = l₁} {r = r₁} h i) f = ap₂ cons (on_one k x y h f.0) (all_one k l₁ r₁ i f.1)

    pub renumber_stx-one : (k : ℕ) (x y : Stx) → StxAlike ρ x y → StxFits k n x → y ≡ renumber_stx ρ.to x
    unfolding renumber_stx
    renumber_stx-one k x y h f = on_one k x y h f

    -- ---- where the rule stays within the n scopes

    module _ (up : (k : ℕ) → 1 ≤ k → k ≤ n → ρ.to k ≤ n) where
      set-small : (p : ℕ) (l : List ℕ) → Asc p n l → set_of (mapped ρ.to l) < 2 ^ n
      unfolding set_of mapped
      set-small p [] a = pow_pos n
      set-small p (j ∷ l) a = add_in (ρ.to j) n (up j (some a.0) a.1) (set_of (mapped ρ.to l)) (set-small j l a.2)
        where
          some : p < j → 1 ≤ j
          some h = omega arith

      renumber_set-small : (m : Scopes) → m < 2 ^ n → renumber_set ρ.to m < 2 ^ n
      unfolding renumber_set
      renumber_set-small m h = set-small 0 (members m) (asc_of m n h)

      sets-small : (c : Sets) → SetsIn n c → SetsIn n (renumber_sets ρ.to c)
      unfolding renumber_sets
      sets-small c f = (renumber_set-small c.at0 f.0, renumber_set-small c.at1 f.1, renumber_set-small c.at2 f.2)

      pub renumber_stx-fits : (k : ℕ) (x : Stx) → StxFits k n x → StxFits k n (renumber_stx ρ.to x)
      unfolding renumber_stx
      renumber_stx-fits k x f = on_sets-fits k n (renumber_sets ρ.to) sets-small x f

      -- ---- stores

      bind_like : (b : Bind) → b.set < 2 ^ n → BindAlike ρ b (renumber_bind ρ.to b)
      unfolding renumber_bind
      bind_like b h = record { symb-is = refl; target_is = refl; set_like = renumber_set_alike ρ zero_is b.set (small_of n b.set few h) }

      bind_path : (a b c d e f : ℕ) → a ≡ b → c ≡ d → e ≡ f
          → ◌≡◌ {A = Bind} (record { symb = a; target = c; set = e }) (record { symb = b; target = d; set = f })
      bind_path a b c d e f p q r = cc

      bind-one : (b c : Bind) → b.set < 2 ^ n → BindAlike ρ b c → c ≡ renumber_bind ρ.to b
      unfolding renumber_bind
      bind-one b c h a =
          bind_path c.symb b.symb c.target b.target c.set (renumber_set ρ.to b.set) (sym a.symb-is) (sym a.target_is)
          (renumber_set-one ρ zero_is b.set c.set (small_of n b.set few h) a.set_like)

      -- what is in the renumbered store, and from where
      renumbered_in : (b : Bind) (l : List Bind) → In b l → In (renumber_bind ρ.to b) (renumber_binds ρ.to l)
      unfolding renumber_binds
      renumbered_in b [] i = absurd i
      renumbered_in b (c ∷ l) (inl p) =
          subst (λ (z : Bind). In (renumber_bind ρ.to z) (insert (renumber_bind ρ.to c) (renumber_binds ρ.to l))) (sym p)
          (insert-new (renumber_bind ρ.to c) (renumber_binds ρ.to l))
      renumbered_in b (c ∷ l) (inr i) = insert-old (renumber_bind ρ.to c) (renumber_bind ρ.to b) (renumber_binds ρ.to l) (renumbered_in b l i)

      renumbered-from : (c : Bind) (l : List Bind) → In c (renumber_binds ρ.to l) → (b : Bind) × In b l × (c ≡ renumber_bind ρ.to b)
      unfolding renumber_binds
      renumbered-from c [] i = absurd i
      renumbered-from c (d ∷ l) i = go (insert_cases (renumber_bind ρ.to d) c (renumber_binds ρ.to l) i) (renumbered-from c l)
        where
          go : (c ≡ renumber_bind ρ.to d) ⊎ In c (renumber_binds ρ.to l)
              → (In c (renumber_binds ρ.to l) → (b : Bind) × In b l × (c ≡ renumber_bind ρ.to b))
              → (b : Bind) × In b (d ∷ l) × (c ≡ renumber_bind ρ.to b)
          go (inl p) f = (d, inl refl, p)
          go (inr j) f = let g = f j in (g.0, inr g.1, g.2)

      pub renumbered-length : (l : List Bind) → length (renumber_binds ρ.to l) ≡ length l
      unfolding renumber_binds
      renumbered-length [] = refl
      renumbered-length (b ∷ l) = insert-length (renumber_bind ρ.to b) (renumber_binds ρ.to l) ∙ ap suc (renumbered-length l)

      renumber_bind-fits : (k m : ℕ) (b : Bind) → BindFits k m n b → BindFits k m n (renumber_bind ρ.to b)
      unfolding renumber_bind
      renumber_bind-fits k m b h = (h.0, h.1, renumber_set-small b.set h.2)

      pub renumbered-fit : (k m : ℕ) (l : List Bind) → BindsFit k m n l → BindsFit k m n (renumber_binds ρ.to l)
      renumbered-fit k m l f = fit (renumber_binds ρ.to l) (λ c i. one c (renumbered-from c l i))
        where
          fit : (r : List Bind) → ((c : Bind) → In c r → BindFits k m n c) → BindsFit k m n r
          fit [] g = tt
          fit (c ∷ r) g = (g c (inl refl), fit r (λ d i. g d (inr i)))

          one : (c : Bind) → (b : Bind) × In b l × (c ≡ renumber_bind ρ.to b) → BindFits k m n c
          one c g = subst (BindFits k m n) (sym g.2) (renumber_bind-fits k m g.0 (binds_in k m n l f g.0 g.1))

      pub renumbered_sorted : (k m : ℕ) (l : List Bind) → BindsFit k m n l → Sorted l → Sorted (renumber_binds ρ.to l)
      unfolding renumber_binds renumber_bind
      renumbered_sorted k m [] f a = tt
      renumbered_sorted k m (b ∷ l) f a =
          insert_sorted (renumber_bind ρ.to b) (renumber_binds ρ.to l) (small_of n _ few (renumber_set-small b.set f.0.2))
          (λ c i. unlike c (renumbered-from c l i))
          (renumbered_sorted k m l f.1 (tail_sorted b l a))
        where
          unlike : (c : Bind) → (d : Bind) × In d l × (c ≡ renumber_bind ρ.to d)
              → Small c.set × (b.symb ≡ c.symb → renumber_set ρ.to b.set ≡ c.set → ⊥)
          unlike c g =
              let small : g.0.set < 2 ^ n = (binds_in k m n l f.1 g.0 g.1).2 in
              let set_is : c.set ≡ renumber_set ρ.to g.0.set = ap (λ (z : Bind). z.set) g.2 in (
                subst Small (sym set_is) (small_of n _ few (renumber_set-small g.0.set small)),
                (λ p q. before-other b g.0 (all_after b l a g.0 g.1) (p ∙ ap (λ (z : Bind). z.symb) g.2)
                    (eq_back ρ b.set _ g.0.set _ (renumber_set_alike ρ zero_is b.set (small_of n b.set few f.0.2))
                    (renumber_set_alike ρ zero_is g.0.set (small_of n g.0.set few small)) (q ∙ set_is))),
              )

      -- the renumbered store is like the store
      pub renumbered_alike : (k m : ℕ) (l : List Bind) → BindsFit k m n l → Sorted l → StoreAlike ρ l (renumber_binds ρ.to l)
      renumbered_alike k m l f a =
          let sorted : Sorted (renumber_binds ρ.to l) = renumbered_sorted k m l f a in
          record {
            ranked_l = sorted_ranked l a;
            ranked_r = renumbered-ranked ρ.to l;
            same_length = sym (renumbered-length l);
            there = λ b w. record {
              it = renumber_bind ρ.to b;
              like = bind_like b (binds_in k m n l f b (lead_in b l w)).2;
              leads = sorted_lead (renumber_binds ρ.to l) sorted (renumber_bind ρ.to b) (renumbered_in b l (lead_in b l w));
            };
            back = λ c w. origin c (renumbered-from c l (lead_in c (renumber_binds ρ.to l) w));
          }
        where
          origin : (c : Bind) → (b : Bind) × In b l × (c ≡ renumber_bind ρ.to b) → Origin ρ c l
          origin c g = record {
            it = g.0;
            like = subst (BindAlike ρ g.0) (sym g.2) (bind_like g.0 (binds_in k m n l f g.0 g.1).2);
            leads = sorted_lead l a g.0 g.1;
          }

      -- and the only ascending store that is
      pub renumbered-one : (k m : ℕ) (l r : List Bind) → BindsFit k m n l → Sorted l → Sorted r → StoreAlike ρ l r → r ≡ renumber_binds ρ.to l
      renumbered-one k m l r f a c h =
          sorted_ext r (renumber_binds ρ.to l) c (renumbered_sorted k m l f a) there (λ d i. back d (renumbered-from d l i))
        where
          there : (d : Bind) → In d r → In d (renumber_binds ρ.to l)
          there d i =
              let o = h.back d (sorted_lead r c d i) in
              let j : In o.it l = lead_in o.it l o.leads in
              subst (λ (z : Bind). In z (renumber_binds ρ.to l)) (sym (bind-one o.it d (binds_in k m n l f o.it j).2 o.like))
              (renumbered_in o.it l j)

          back : (d : Bind) → (b : Bind) × In b l × (d ≡ renumber_bind ρ.to b) → In d r
          back d g =
              let p = h.there g.0 (sorted_lead l a g.0 g.1) in
              subst (λ (z : Bind). In z r) (bind-one g.0 p.it (binds_in k m n l f g.0 g.1).2 p.like ∙ sym g.2)
              (lead_in p.it r p.leads)
