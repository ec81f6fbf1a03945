-- The first binding of each symbol and set in a store leads; the others of that symbol and set are never seen. What resolving answers, by the
-- leading bindings; what putting a binding in its place does to them. Nothing here asks that a symbol and set is bound once, so that a walk
-- through the rules need not carry it.
use mathlib.Core.Path.{◌≡◌, refl, sym, ap, ap₂, ◌∙◌, subst}
use mathlib.Core.Logic.{◌⊎◌, inl, inr}
use Prim.Native.Nat.{ℕ}
use mathlib.Core.Bool.{Bool, true, false, ◌&&◌, true≢false}
use mathlib.Core.List.{List, [], ◌∷◌}
use lib.Dec.{eqb}
use Rattle.model.specs.Choice.{when◌then◌else◌}
use Rattle.model.specs.Scopes.{Scopes, within}
use Rattle.model.specs.Resolving.{Bind, bind_before, insert, Found, means, several, candidate, candidates, over, largest, choose, resolve}
use borrow.Author.Tests.{eqb-true, eqb-false}
use Rattle.laws.specs.Ordered.{Sorted}
use Rattle.laws.proofs.Tests.{and_both, not_so}
use Rattle.laws.proofs.ScopeSets.{within_antisym}
use Rattle.laws.proofs.ResolveRule.{In, over-sound, over_complete}
use Rattle.laws.proofs.Stable.{Unbound, insert_cases}
use Rattle.laws.proofs.Order.{before_trans, before-other, all_after}

-- ---- the same symbol and set

pub record SameKey (b c : Bind) : Type 0 where
  pub symb-is : b.symb ≡ c.symb
  pub set_is : b.set ≡ c.set

key_or_not : (b c : Bind) → SameKey b c ⊎ (SameKey b c → ⊥)
key_or_not b c = go (eqb b.symb c.symb) refl (eqb b.set c.set) refl
  where
    go : (x : Bool) → eqb b.symb c.symb ≡ x → (y : Bool) → eqb b.set c.set ≡ y → SameKey b c ⊎ (SameKey b c → ⊥)
    go true p true q = inl (record { symb-is = eqb-true b.symb c.symb p; set_is = eqb-true b.set c.set q })
    go true p false q = inr (λ k. eqb-false b.set c.set q k.set_is)
    go false p y q = inr (λ k. eqb-false b.symb c.symb p k.symb-is)

key_of : (b c : Bind) → b ≡ c → SameKey b c
key_of b c e = record { symb-is = ap (λ (z : Bind). z.symb) e; set_is = ap (λ (z : Bind). z.set) e }

key_sym : (b c : Bind) → SameKey b c → SameKey c b
key_sym b c h = record { symb-is = sym h.symb-is; set_is = sym h.set_is }

pub key_trans : (b c d : Bind) → SameKey b c → SameKey c d → SameKey b d
key_trans b c d h k = record { symb-is = h.symb-is ∙ k.symb-is; set_is = h.set_is ∙ k.set_is }

-- what goes by the key alone
before_key : (b d c : Bind) → SameKey b d → bind_before b c ≡ bind_before d c
unfolding bind_before
before_key b d c h = rw (h.symb-is, h.set_is)

candidate_key : (x : ℕ) (s : Scopes) (b c : Bind) → SameKey b c → candidate x s b ≡ candidate x s c
unfolding candidate
candidate_key x s b c h = rw (h.symb-is, h.set_is)

over_key : (b c : Bind) (l : List Bind) → b.set ≡ c.set → over b l ≡ over c l
unfolding over
over_key b c [] e = refl
over_key b c (d ∷ l) e = ap₂ (λ (p q : Bool). p && q) (ap (within d.set) e) (over_key b c l e)

-- ---- the leading bindings

abbrev pub Lead : Bind → List Bind → Type 0
Lead b [] = ⊥
Lead b (c ∷ l) = (b ≡ c) ⊎ ((SameKey b c → ⊥) × Lead b l)

pub lead_in : (b : Bind) (l : List Bind) → Lead b l → In b l
lead_in b [] w = w
lead_in b (c ∷ l) (inl e) = inl e
lead_in b (c ∷ l) (inr w) = inr (lead_in b l w.1)

-- one for each key
lead_one : (b c : Bind) (l : List Bind) → Lead b l → Lead c l → SameKey b c → b ≡ c
lead_one b c [] w v k = absurd w
lead_one b c (d ∷ l) (inl p) (inl q) k = p ∙ sym q
lead_one b c (d ∷ l) (inl p) (inr v) k = absurd (v.0 (subst (SameKey c) p (key_sym b c k)))
lead_one b c (d ∷ l) (inr w) (inl q) k = absurd (w.0 (subst (SameKey b) q k))
lead_one b c (d ∷ l) (inr w) (inr v) k = lead_one b c l w.1 v.1 k

-- every binding has one of its key that leads
pub in_lead : (b : Bind) (l : List Bind) → In b l → (d : Bind) × SameKey b d × Lead d l
in_lead b [] i = absurd i
in_lead b (c ∷ l) (inl e) = (c, key_of b c e, inl refl)
in_lead b (c ∷ l) (inr i) = go (in_lead b l i) (key_or_not b c)
  where
    go : (d : Bind) × SameKey b d × Lead d l → SameKey b c ⊎ (SameKey b c → ⊥) → (d : Bind) × SameKey b d × Lead d (c ∷ l)
    go r (inl k) = (c, k, inl refl)
    go r (inr n) = (r.0, r.1, inr ((λ k. n (key_trans b r.0 c r.1 k)), r.2))

-- ---- putting a binding in its place

-- none of l is before b; and so on
abbrev pub NoneBefore : Bind → List Bind → Type 0
NoneBefore b l = (c : Bind) → In c l → bind_before c b ≡ false

abbrev pub Ranked : List Bind → Type 0
Ranked [] = Unit {0}
Ranked (b ∷ l) = NoneBefore b l × Ranked l

-- not before what is before it
not_back : (b c : Bind) → bind_before b c ≡ true → bind_before c b ≡ false
not_back b c e = not_so (bind_before c b) (λ f. before-other b b (before_trans b c b e f) refl refl)

pub insert-ranked : (b : Bind) (l : List Bind) → Ranked l → Ranked (insert b l)
unfolding insert
insert-ranked b [] r = ((λ c i. absurd i), tt)
insert-ranked b (c ∷ l) r = go (bind_before b c) refl (insert-ranked b l r.1)
  where
    go : (t : Bool) → bind_before b c ≡ t → Ranked (insert b l) → Ranked (when t then b ∷ c ∷ l else c ∷ insert b l)
    go true e s = (none, r)
      where
        none : NoneBefore b (c ∷ l)
        none d (inl p) = ap (λ (z : Bind). bind_before z b) p ∙ not_back b c e
        none d (inr i) = not_so (bind_before d b) (λ f. true≢false (sym (before_trans d b c f e) ∙ r.0 d i))
    go false e s = (none, s)
      where
        none : NoneBefore c (insert b l)
        none d i = case (insert_cases b d l i)
          where
            case : (d ≡ b) ⊎ In d l → bind_before d c ≡ false
            case (inl p) = ap (λ (z : Bind). bind_before z c) p ∙ e
            case (inr j) = r.0 d j

-- where b would be put first, its key is not bound
first_unbound : (b c : Bind) (l : List Bind) → NoneBefore c l → bind_before b c ≡ true → Unbound b (c ∷ l)
first_unbound b c l r e d (inl p) x y = before-other b c e (x ∙ ap (λ (z : Bind). z.symb) p) (y ∙ ap (λ (z : Bind). z.set) p)
first_unbound b c l r e d (inr i) x y = true≢false (sym e ∙ before_key b d c (record { symb-is = x; set_is = y }) ∙ r d i)

-- what leads still leads
pub lead_old : (b d : Bind) (l : List Bind) → Ranked l → Lead d l → Lead d (insert b l)
unfolding insert
lead_old b d [] r w = absurd w
lead_old b d (c ∷ l) r w = go (bind_before b c) refl (lead_old b d l r.1) w
  where
    go : (t : Bool) → bind_before b c ≡ t → (Lead d l → Lead d (insert b l)) → Lead d (c ∷ l) → Lead d (when t then b ∷ c ∷ l else c ∷ insert b l)
    go true e f v = inr ((λ k. first_unbound b c l r.0 e d (lead_in d (c ∷ l) v) (sym k.symb-is) (sym k.set_is)), v)
    go false e f (inl p) = inl p
    go false e f (inr v) = inr (v.0, f v.1)

-- b leads where its key was not bound
pub lead_new : (b : Bind) (l : List Bind) → Unbound b l → Lead b (insert b l)
unfolding insert
lead_new b [] u = inl refl
lead_new b (c ∷ l) u = go (bind_before b c) (lead_new b l (λ d i. u d (inr i)))
  where
    go : (t : Bool) → Lead b (insert b l) → Lead b (when t then b ∷ c ∷ l else c ∷ insert b l)
    go true w = inl refl
    go false w = inr ((λ k. u c (inl refl) k.symb-is k.set_is), w)

-- and nothing else does
pub lead_cases : (b d : Bind) (l : List Bind) → Ranked l → Lead d (insert b l) → Lead d l ⊎ ((d ≡ b) × Unbound b l)
unfolding insert
lead_cases b d [] r (inl e) = inr (e, (λ c i. absurd i))
lead_cases b d [] r (inr w) = absurd w.1
lead_cases b d (c ∷ l) r w = go (bind_before b c) refl (lead_cases b d l r.1) w
  where
    also : (SameKey b c → ⊥) → Unbound b l → Unbound b (c ∷ l)
    also n u e (inl p) x y = n (record { symb-is = x ∙ ap (λ (z : Bind). z.symb) p; set_is = y ∙ ap (λ (z : Bind). z.set) p })
    also n u e (inr i) x y = u e i x y

    further : (SameKey d c → ⊥) → Lead d l ⊎ ((d ≡ b) × Unbound b l) → Lead d (c ∷ l) ⊎ ((d ≡ b) × Unbound b (c ∷ l))
    further n (inl v) = inl (inr (n, v))
    further n (inr v) = inr (v.0, also (subst (λ (z : Bind). SameKey z c → ⊥) v.0 n) v.1)

    go : (t : Bool) → bind_before b c ≡ t → (Lead d (insert b l) → Lead d l ⊎ ((d ≡ b) × Unbound b l))
        → Lead d (when t then b ∷ c ∷ l else c ∷ insert b l) → Lead d (c ∷ l) ⊎ ((d ≡ b) × Unbound b (c ∷ l))
    go true e f (inl p) = inr (p, first_unbound b c l r.0 e)
    go true e f (inr v) = inl v.1
    go false e f (inl p) = inl (inl p)
    go false e f (inr v) = further v.0 (f v.1)

-- ---- ascending stores

pub sorted_ranked : (l : List Bind) → Sorted l → Ranked l
sorted_ranked [] a = tt
sorted_ranked (b ∷ []) a = ((λ c i. absurd i), tt)
sorted_ranked (b ∷ c ∷ l) a = ((λ d i. not_back b d (all_after b (c ∷ l) a d i)), sorted_ranked (c ∷ l) a.1)

-- in an ascending store every binding leads
pub sorted_lead : (l : List Bind) → Sorted l → (b : Bind) → In b l → Lead b l
sorted_lead [] a b i = absurd i
sorted_lead (c ∷ l) a b (inl e) = inl e
sorted_lead (c ∷ []) a b (inr i) = absurd i
sorted_lead (c ∷ d ∷ l) a b (inr i) =
    inr ((λ k. before-other c b (all_after c (d ∷ l) a b i) (sym k.symb-is) (sym k.set_is)), sorted_lead (d ∷ l) a.1 b i)

-- ---- resolving, by the bindings that lead

pub record Top (x : ℕ) (s : Scopes) (l : List Bind) (b : Bind) : Type 0 where
  pub leads : Lead b l
  pub fits : candidate x s b ≡ true
  pub above : (c : Bind) → Lead c l → candidate x s c ≡ true → within c.set b.set ≡ true

pub data LeadRule (x : ℕ) (s : Scopes) (l : List Bind) : Found → Type 0 where
  free : ((b : Bind) → Lead b l → candidate x s b ≡ false) → LeadRule x s l (means x)
  found : (b : Bind) → Top x s l b → LeadRule x s l (means b.target)
  unclear : (b : Bind) → Lead b l → candidate x s b ≡ true → ((c : Bind) → Top x s l c → ⊥) → LeadRule x s l several

candidate-symbol : (x : ℕ) (s : Scopes) (d : Bind) → candidate x s d ≡ true → d.symb ≡ x
unfolding candidate
candidate-symbol x s d e = eqb-true d.symb x (and_both (eqb d.symb x) (within d.set s) e).0

-- one answer only
pub lead_rule_one : (x : ℕ) (s : Scopes) (l : List Bind) (f g : Found) → LeadRule x s l f → LeadRule x s l g → f ≡ g
lead_rule_one x s l f g (free n) (free m) = refl
lead_rule_one x s l f g (free n) (found b h) = absurd (true≢false (sym h.fits ∙ n b h.leads))
lead_rule_one x s l f g (free n) (unclear b w e m) = absurd (true≢false (sym e ∙ n b w))
lead_rule_one x s l f g (found b h) (free n) = absurd (true≢false (sym h.fits ∙ n b h.leads))
lead_rule_one x s l f g (found b h) (found c k) = ap (λ (z : Bind). means z.target) (lead_one b c l h.leads k.leads keys)
  where
    keys : SameKey b c
    keys = record {
      symb-is = candidate-symbol x s b h.fits ∙ sym (candidate-symbol x s c k.fits);
      set_is = within_antisym b.set c.set (k.above b h.leads h.fits) (h.above c k.leads k.fits);
    }
lead_rule_one x s l f g (found b h) (unclear c w e m) = absurd (m b h)
lead_rule_one x s l f g (unclear b w e n) (free m) = absurd (true≢false (sym e ∙ m b w))
lead_rule_one x s l f g (unclear b w e n) (found c k) = absurd (n c k)
lead_rule_one x s l f g (unclear b w e n) (unclear c v d m) = refl

-- ---- the candidates that lead

lead_candidate : (x : ℕ) (s : Scopes) (b : Bind) (l : List Bind) → Lead b (candidates x s l) → Lead b l × (candidate x s b ≡ true)
unfolding candidates
lead_candidate x s b [] w = absurd w
lead_candidate x s b (c ∷ l) w = go (candidate x s c) refl (lead_candidate x s b l) w
  where
    go : (t : Bool) → candidate x s c ≡ t → (Lead b (candidates x s l) → Lead b l × (candidate x s b ≡ true))
        → Lead b (when t then c ∷ candidates x s l else candidates x s l) → Lead b (c ∷ l) × (candidate x s b ≡ true)
    go true e f (inl p) = (inl p, ap (candidate x s) p ∙ e)
    go true e f (inr v) = (inr (v.0, (f v.1).0), (f v.1).1)
    go false e f v =
        (inr ((λ k. true≢false (sym (f v).1 ∙ candidate_key x s b c k ∙ e)), (f v).0), (f v).1)

candidate_lead : (x : ℕ) (s : Scopes) (b : Bind) (l : List Bind) → Lead b l → candidate x s b ≡ true → Lead b (candidates x s l)
unfolding candidates
candidate_lead x s b [] w h = absurd w
candidate_lead x s b (c ∷ l) w h = go (candidate x s c) refl (λ v. candidate_lead x s b l v h) w
  where
    go : (t : Bool) → candidate x s c ≡ t → (Lead b l → Lead b (candidates x s l)) → Lead b (c ∷ l)
        → Lead b (when t then c ∷ candidates x s l else candidates x s l)
    go true e f (inl p) = inl p
    go true e f (inr v) = inr (v.0, f v.1)
    go false e f (inl p) = absurd (true≢false (sym h ∙ ap (candidate x s) p ∙ e))
    go false e f (inr v) = f v.1

-- ---- the search

-- what `largest l all` finds: the first of l that contains all
data Search (all l : List Bind) : Found → Type 0 where
  hit : (b : Bind) → Lead b l → over b all ≡ true → Search all l (means b.target)
  miss : ((b : Bind) → In b l → over b all ≡ false) → Search all l several

largest-is : (all l : List Bind) → Search all l (largest l all)
unfolding largest
largest-is all [] = miss (λ b i. absurd i)
largest-is all (b ∷ l) = go (over b all) refl (largest-is all l)
  where
    further : {f : Found} → over b all ≡ false → Search all l f → Search all (b ∷ l) f
    further e (hit c w h) =
        hit c (inr ((λ k. true≢false (sym h ∙ over_key c b all k.set_is ∙ e)), w)) h
    further e (miss n) = miss none
      where
        none : (c : Bind) → In c (b ∷ l) → over c all ≡ false
        none c (inl p) = ap (λ (z : Bind). over z all) p ∙ e
        none c (inr i) = n c i

    go : (t : Bool) → over b all ≡ t → Search all l (largest l all) → Search all (b ∷ l) (when t then means b.target else largest l all)
    go true e r = hit b (inl refl) e
    go false e r = further e r

module _ (x : ℕ) (s : Scopes) (l : List Bind) where
  -- contains all candidates, where it contains those that lead
  over_leads : (b : Bind) → ((c : Bind) → Lead c l → candidate x s c ≡ true → within c.set b.set ≡ true) → over b (candidates x s l) ≡ true
  over_leads b h = over_complete b (candidates x s l) (λ c i.
      let g = in_lead c (candidates x s l) i in
      let w = lead_candidate x s g.0 l g.2 in
      ap (λ (z : Scopes). within z b.set) g.1.set_is ∙ h g.0 w.0 w.1)

  top_of : (b : Bind) → Lead b (candidates x s l) → over b (candidates x s l) ≡ true → Top x s l b
  top_of b w e =
      let g = lead_candidate x s b l w in
      record {
        leads = g.0;
        fits = g.1;
        above = λ c v h. over-sound b (candidates x s l) e c (lead_in c (candidates x s l) (candidate_lead x s c l v h));
      }

  choose-is : (cs : List Bind) → cs ≡ candidates x s l → LeadRule x s l (choose x cs)
  unfolding choose
  choose-is [] q =
      free (λ b w. not_so (candidate x s b) (λ h.
      subst (λ (z : List Bind). In b z) (sym q) (lead_in b (candidates x s l) (candidate_lead x s b l w h))))
  choose-is (b ∷ cs) q = go (largest (b ∷ cs) (b ∷ cs)) (largest-is (b ∷ cs) (b ∷ cs))
    where
      first : Lead b (candidates x s l)
      first = subst (λ (z : List Bind). Lead b z) q (inl refl)

      go : (f : Found) → Search (b ∷ cs) (b ∷ cs) f → LeadRule x s l f
      go f (hit c w h) = found c (top_of c (subst (λ (z : List Bind). Lead c z) q w) (subst (λ (z : List Bind). over c z ≡ true) q h))
      go f (miss n) =
          let g = lead_candidate x s b l first in
          unclear b g.0 g.1 (λ c t.
          let i : In c (candidates x s l) = lead_in c (candidates x s l) (candidate_lead x s c l t.leads t.fits) in
          true≢false (sym (subst (λ (z : List Bind). over c z ≡ true) (sym q) (over_leads c t.above))
          ∙ n c (subst (λ (z : List Bind). In c z) (sym q) i)))

  -- the rule that resolving follows
  pub resolve_leads : LeadRule x s l (resolve x s l)
  unfolding resolve
  resolve_leads = choose-is (candidates x s l) refl
