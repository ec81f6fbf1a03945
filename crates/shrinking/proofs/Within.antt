-- Sets, objects and bindings within the remaining scopes u, renumbered in order: they are like what they were, within as many scopes as remain, and
-- in the same order.
use mathlib.Core.Path.{◌≡◌, refl, sym, ap, ap₂, ◌∙◌, subst}
use mathlib.Core.Logic.{◌⊎◌, inl, inr}
use Prim.Native.Nat.{ℕ, suc, ◌+◌, ◌^◌, ◌≤◌, ◌<◌, zero-le}
use native.Mathlib.Nat.{le_refl, le_trans}
use native.Mathlib.Omega.{arith}
use mathlib.Core.Bool.{Bool, or-false, true, ◌||◌}
use mathlib.Core.List.{List, [], ◌∷◌}
use lib.Dec.{eqb, ltb}
use lib.ListN.{length}
use lib.Bits.{bit_or}
use lib.Pow.{pow_pos}
use Rattle.model.specs.Scopes.{Scopes, has, members, less_then, list_before, set_before}
use Rattle.model.specs.Objects.{Sets, Stx, atom, list, Stxs, nil, cons, on_sets, on_sets_all}
use Rattle.model.specs.Resolving.{Bind, bind_before}
use borrow.Author.Tests.{eq-eqb}
use Rattle.laws.specs.Ordered.{SetsIn, Ascending, Sorted}
use Rattle.laws.proofs.Tests.{or_left, or_right}
use Rattle.laws.proofs.ScopeSets.{Sub, within-left, within_right, has-none, set_ext, within→sub}
use Rattle.laws.proofs.Members.{Asc, member, Small, asc_of, member_has, add_all, has_add_all, members_of_set}
use Rattle.laws.proofs.ResolveRule.{In}
use Rattle.codec_laws.specs.WellFormed.{StxFits, StxsFit, BindsFit}
use Rattle.codec_laws.proofs.SetTrip.{add_all_small, asc_length}
use Rattle.alike.proofs.Alike.{NewNumbers, SetAlike, SetsAlike, BindAlike, StxAlike, atoms, lists, StxsAlike, nils, conses}
use Rattle.alike.specs.Renumbering.{mapped, set_of, renumber_set, renumber_sets, renumber_stx, renumber_bind}
use Rattle.alike.proofs.Leads.{lead_in, sorted_ranked, sorted_lead}
use Rattle.alike.proofs.Stores.{StoreAlike, Origin}
use Rattle.alike.proofs.RenumberedSets.{most, small_of, has_add_some, renumber_set_alike}
use Rattle.shrinking.specs.Shrunk.{joined, scopes_in, scopes_in_all, rank_in, rank, renumber_each}
use Rattle.shrinking.proofs.Ranks.{rank_strict, rank_most, AllIn, before-ranked, extension, extension_is, extension_zero, ranked}

-- ---- lists

asc_widen : (p r n o : ℕ) (l : List ℕ) → r ≤ p → n ≤ o → Asc p n l → Asc r o l
asc_widen p r n o [] h k a = tt
asc_widen p r n o (j ∷ l) h k a = (omega (arith, a.0), le_trans a.1 k, asc_widen j j n o l (le_refl j) k a.2)

mapped_agree : (f g : ℕ → ℕ) (l : List ℕ) → ((k : ℕ) → member k l ≡ true → f k ≡ g k) → mapped f l ≡ mapped g l
unfolding mapped member
mapped_agree f g [] h = refl
mapped_agree f g (k ∷ l) h =
    ap₂ (λ (x : ℕ) (m : List ℕ). x ∷ m) (h k (or_left (eqb k k) (member k l) (eq-eqb k k refl)))
    (mapped_agree f g l (λ j e. h j (or_right (eqb j k) (member j l) e)))

all_in : (l r : List ℕ) → ((k : ℕ) → member k r ≡ true → member k l ≡ true) → AllIn l r
unfolding member
all_in l [] h = tt
all_in l (k ∷ r) h = (h k (or_left (eqb k k) (member k r) (eq-eqb k k refl)), all_in l r (λ j e. h j (or_right (eqb j k) (member j r) e)))

has-set_of : (p n : ℕ) (l : List ℕ) → Asc p n l → (j : ℕ) → has j (set_of l) ≡ member j l
unfolding set_of member
has-set_of p n [] a j = has-none j
has-set_of p n (k ∷ l) a j = has_add_some j k (set_of l) (some a.0) ∙ ap (λ (x : Bool). eqb j k || x) (has-set_of k n l a.2 j)
  where
    some : p < k → 1 ≤ k
    some h = omega arith

set_of-is : (p n : ℕ) (l : List ℕ) → Asc p n l → set_of l ≡ add_all l 0
set_of-is p n l a =
    set_ext (set_of l) (add_all l 0)
    (λ j. has-set_of p n l a j ∙ sym (has_add_all p n l a j 0 ∙ ap (λ (x : Bool). member j l || x) (has-none j) ∙ or-false (member j l)))

asc_mapped : (u p n : ℕ) (l : List ℕ) → Asc p n l → AllIn (members u) l
    → Asc (rank_in (members u) p) (length (members u)) (mapped (rank_in (members u)) l)
unfolding mapped
asc_mapped u p n [] a i = tt
asc_mapped u p n (k ∷ l) a i = (rank_strict (members u) p k i.0 a.0, rank_most (members u) k, asc_mapped u k n l a.2 i.1)

pub each-length : (f : ℕ → ℕ) (l : List Bind) → length (renumber_each f l) ≡ length l
unfolding renumber_each
each-length f [] = refl
each-length f (b ∷ l) = ap suc (each-length f l)

pub mapped-length : (f : ℕ → ℕ) (l : List ℕ) → length (mapped f l) ≡ length l
unfolding mapped
mapped-length f [] = refl
mapped-length f (k ∷ l) = ap suc (mapped-length f l)

-- ---- sets within u

pub sub_trans : (a b c : Scopes) → Sub a b → Sub b c → Sub a c
sub_trans a b c f g k h = g k (f k h)

pub or_sub_left : (a b : Scopes) → Sub a (bit_or a b)
or_sub_left a b = within→sub a (bit_or a b) (within-left a b)

pub or_sub_right : (a b : Scopes) → Sub b (bit_or a b)
or_sub_right a b = within→sub b (bit_or a b) (within_right a b)

-- every set of an object, and of each binding, is within u
abbrev pub SetsUnder : Scopes → Sets → Type 0
SetsUnder u c = Sub c.at0 u × Sub c.at1 u × Sub c.at2 u

abbrev mutual
  pub Under : Scopes → Stx → Type 0
  Under u (atom c a) = SetsUnder u c
  Under u (list c l) = SetsUnder u c × UnderAll u l

  pub UnderAll : Scopes → Stxs → Type 0
  UnderAll u nil = Unit {0}
  UnderAll u (cons s l) = Under u s × UnderAll u l

abbrev pub BindUnder : Scopes → ℕ → Bind → Type 0
BindUnder u n b = (b.set < 2 ^ n) × Sub b.set u

abbrev pub BindsUnder : Scopes → ℕ → List Bind → Type 0
BindsUnder u n l = (b : Bind) → In b l → BindUnder u n b

-- no more members than scopes
pub count-within : (u : Scopes) (n : ℕ) → u < 2 ^ n → length (members u) ≤ n
count-within u n h = go (asc_length 0 n (members u) (asc_of u n h))
  where
    go : 0 + length (members u) ≤ n ⊎ (members u ≡ []) → length (members u) ≤ n
    go (inl k) = omega arith
    go (inr e) = omega (arith, ap length e)

module _ (u : Scopes) (small : Small u) where
  abbrev ρ : NewNumbers
  ρ = ranked u small

  -- how many scopes remain
  abbrev count : ℕ
  count = length (members u)

  pub count_most : count ≤ most
  count_most = count-within u most small

  module _ (m : Scopes) (s : Small m) (sub : Sub m u) where
    inside : (k : ℕ) → member k (members m) ≡ true → has k u ≡ true
    inside k e = sub k (sym (member_has k m s) ∙ e)

    pub in_all : AllIn (members u) (members m)
    in_all = all_in (members u) (members m) (λ k e. member_has k u small ∙ inside k e)

    agreed : renumber_set (extension u small) m ≡ renumber_set (rank u) m
    unfolding renumber_set
    agreed = ap set_of (mapped_agree (extension u small) (rank u) (members m) (λ k e. extension_is u small k (inside k e)))

    pub set_like : SetAlike ρ m (renumber_set (rank u) m)
    set_like = subst (SetAlike ρ m) agreed (renumber_set_alike ρ (extension_zero u small) m s)

    asc_new : Asc 0 count (mapped (rank u) (members m))
    unfolding rank
    asc_new =
        asc_widen (rank_in (members u) 0) 0 count count (mapped (rank_in (members u)) (members m)) zero-le (le_refl count)
        (asc_mapped u 0 most (members m) (asc_of m most s) in_all)

    pub set-few : renumber_set (rank u) m < 2 ^ count
    unfolding renumber_set
    set-few =
        subst (λ (x : ℕ). x < 2 ^ count) (sym (set_of-is 0 count (mapped (rank u) (members m)) asc_new))
        (add_all_small 0 count (mapped (rank u) (members m)) 0 asc_new (pow_pos count))

    pub members-new : members (renumber_set (rank u) m) ≡ mapped (rank u) (members m)
    unfolding renumber_set
    members-new =
        ap members (set_of-is 0 count (mapped (rank u) (members m)) asc_new)
        ∙ members_of_set (mapped (rank u) (members m)) (asc_widen 0 0 count most (mapped (rank u) (members m)) (le_refl 0) count_most asc_new)
        (small_of count _ count_most (add_all_small 0 count (mapped (rank u) (members m)) 0 asc_new (pow_pos count)))

  before-new : (a b : Scopes) → Small a → Sub a u → Small b → Sub b u
      → set_before (renumber_set (rank u) a) (renumber_set (rank u) b) ≡ set_before a b
  unfolding set_before rank
  before-new a b p q r s =
      ap₂ list_before (members-new a p q) (members-new b r s) ∙ before-ranked (members u) (members a) (members b) (in_all a p q) (in_all b r s)

  -- ---- objects

  sets_under : (c : Sets) → Sub (joined c) u → SetsUnder u c
  unfolding joined
  sets_under c h = (
    sub_trans _ _ u (or_sub_left c.at0 _) h,
    sub_trans _ _ u (sub_trans _ _ _ (or_sub_left c.at1 c.at2) (or_sub_right c.at0 _)) h,
    sub_trans _ _ u (sub_trans _ _ _ (or_sub_right c.at1 c.at2) (or_sub_right c.at0 _)) h,
  )

  mutual
    unfolding scopes_in

    pub under : (x : Stx) → Sub (scopes_in x) u → Under u x
    under (atom c a) h = sets_under c h
    under (list c l) h =
        let here = sub_trans _ _ u (or_sub_left (joined c) (scopes_in_all l)) h in
        let below = sub_trans _ _ u (or_sub_right (joined c) (scopes_in_all l)) h in
        (sets_under c here, under_all l below)

    under_all : (l : Stxs) → Sub (scopes_in_all l) u → UnderAll u l
    under_all nil h = tt
    under_all (cons s l) h =
        let first = sub_trans _ _ u (or_sub_left (scopes_in s) (scopes_in_all l)) h in
        let others = sub_trans _ _ u (or_sub_right (scopes_in s) (scopes_in_all l)) h in
        (under s first, under_all l others)

  module _ (n : ℕ) (few : n ≤ most) where
    sets_like : (c : Sets) → SetsIn n c → SetsUnder u c → SetsAlike ρ c (renumber_sets (rank u) c)
    unfolding renumber_sets
    sets_like c f h = record {
      alike0 = set_like c.at0 (small_of n c.at0 few f.0) h.0;
      alike1 = set_like c.at1 (small_of n c.at1 few f.1) h.1;
      alike2 = set_like c.at2 (small_of n c.at2 few f.2) h.2;
    }

    sets-few : (c : Sets) → SetsIn n c → SetsUnder u c → SetsIn count (renumber_sets (rank u) c)
    unfolding renumber_sets
    sets-few c f h = (
      set-few c.at0 (small_of n c.at0 few f.0) h.0,
      set-few c.at1 (small_of n c.at1 few f.1) h.1,
      set-few c.at2 (small_of n c.at2 few f.2) h.2,
    )

    mutual
      unfolding on_sets

      on_like : (k : ℕ) (x : Stx) → StxFits k n x → Under u x → StxAlike ρ x (on_sets (renumber_sets (rank u)) x)
      on_like k (atom c a) f h = atoms a (sets_like c f.0 h)
      on_like k (list c l) f h = lists (sets_like c f.0 h.0) (all_like k l f.1 h.1)

      all_like : (k : ℕ) (l : Stxs) → StxsFit k n l → UnderAll u l → StxsAlike ρ l (on_sets_all (renumber_sets (rank u)) l)
      all_like k nil f h = nils
      all_like k (cons s l) f h = conses (on_like k s f.0 h.0) (all_like k l f.1 h.1)

    pub root_like : (k : ℕ) (x : Stx) → StxFits k n x → Under u x → StxAlike ρ x (renumber_stx (rank u) x)
    unfolding renumber_stx
    root_like k x f h = on_like k x f h

    mutual
      unfolding on_sets

      on_few : (k : ℕ) (x : Stx) → StxFits k n x → Under u x → StxFits k count (on_sets (renumber_sets (rank u)) x)
      on_few k (atom c a) f h = (sets-few c f.0 h, f.1)
      on_few k (list c l) f h = (sets-few c f.0 h.0, all-few k l f.1 h.1)

      all-few : (k : ℕ) (l : Stxs) → StxsFit k n l → UnderAll u l → StxsFit k count (on_sets_all (renumber_sets (rank u)) l)
      all-few k nil f h = tt
      all-few k (cons s l) f h = (on_few k s f.0 h.0, all-few k l f.1 h.1)

    pub root-fits : (k : ℕ) (x : Stx) → StxFits k n x → Under u x → StxFits k count (renumber_stx (rank u) x)
    unfolding renumber_stx
    root-fits k x f h = on_few k x f h

    -- ---- bindings

    bind-before : (a b : Bind) → BindUnder u n a → BindUnder u n b
        → bind_before (renumber_bind (rank u) a) (renumber_bind (rank u) b) ≡ bind_before a b
    unfolding bind_before renumber_bind
    bind-before a b p q =
        ap (λ (x : Bool). less_then (ltb a.symb b.symb) (eqb a.symb b.symb) x)
        (before-new a.set b.set (small_of n a.set few p.0) p.1 (small_of n b.set few q.0) q.1)

    bind_like : (b : Bind) → BindUnder u n b → BindAlike ρ b (renumber_bind (rank u) b)
    unfolding renumber_bind
    bind_like b p = record { symb-is = refl; target_is = refl; set_like = set_like b.set (small_of n b.set few p.0) p.1 }

    each-ascending : (b : Bind) (l : List Bind) → BindsUnder u n (b ∷ l) → Ascending b l
        → Ascending (renumber_bind (rank u) b) (renumber_each (rank u) l)
    unfolding renumber_each
    each-ascending b [] w a = tt
    each-ascending b (c ∷ l) w a = (bind-before b c (w b (inl refl)) (w c (inr (inl refl))) ∙ a.0, each-ascending c l (λ d i. w d (inr i)) a.1)

    pub each_sorted : (l : List Bind) → BindsUnder u n l → Sorted l → Sorted (renumber_each (rank u) l)
    unfolding renumber_each
    each_sorted [] w a = tt
    each_sorted (b ∷ l) w a = each-ascending b l w a

    each_in : (b : Bind) (l : List Bind) → In b l → In (renumber_bind (rank u) b) (renumber_each (rank u) l)
    unfolding renumber_each
    each_in b [] i = absurd i
    each_in b (c ∷ l) (inl p) = inl (ap (renumber_bind (rank u)) p)
    each_in b (c ∷ l) (inr i) = inr (each_in b l i)

    each_from : (c : Bind) (l : List Bind) → In c (renumber_each (rank u) l) → (b : Bind) × In b l × (c ≡ renumber_bind (rank u) b)
    unfolding renumber_each
    each_from c [] i = absurd i
    each_from c (d ∷ l) (inl p) = (d, inl refl, p)
    each_from c (d ∷ l) (inr i) = let g = each_from c l i in (g.0, inr g.1, g.2)

    pub each-fit : (k m : ℕ) (l : List Bind) → BindsFit k m n l → BindsUnder u n l → BindsFit k m count (renumber_each (rank u) l)
    unfolding renumber_each renumber_bind
    each-fit k m [] f w = tt
    each-fit k m (b ∷ l) f w =
        let p = w b (inl refl) in
        ((f.0.0, f.0.1, set-few b.set (small_of n b.set few p.0) p.1), each-fit k m l f.1 (λ c i. w c (inr i)))

    pub each_alike : (l : List Bind) → BindsUnder u n l → Sorted l → StoreAlike ρ l (renumber_each (rank u) l)
    each_alike l w a =
        let sorted : Sorted (renumber_each (rank u) l) = each_sorted l w a in
        record {
          ranked_l = sorted_ranked l a;
          ranked_r = sorted_ranked (renumber_each (rank u) l) sorted;
          same_length = sym (each-length (rank u) l);
          there = λ b v. record {
            it = renumber_bind (rank u) b;
            like = bind_like b (w b (lead_in b l v));
            leads = sorted_lead (renumber_each (rank u) l) sorted (renumber_bind (rank u) b) (each_in b l (lead_in b l v));
          };
          back = λ c v. origin c (each_from c l (lead_in c (renumber_each (rank u) l) v));
        }
      where
        origin : (c : Bind) → (b : Bind) × In b l × (c ≡ renumber_bind (rank u) b) → Origin ρ c l
        origin c g = record {
          it = g.0;
          like = subst (BindAlike ρ g.0) (sym g.2) (bind_like g.0 (w g.0 g.1));
          leads = sorted_lead l a g.0 g.1;
        }
