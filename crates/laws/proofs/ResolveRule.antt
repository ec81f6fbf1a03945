-- What resolving answers: the symbol where no binding is a candidate, the target of the one candidate that contains the
-- others, and `several` exactly where there are candidates and none contains all.
use mathlib.Core.Path.{◌≡◌, refl, sym, ap, ◌∙◌, subst}
use mathlib.Core.Logic.{◌⊎◌, inl, inr, ◌≢◌}
use Prim.Native.Nat.{ℕ}
use mathlib.Core.Bool.{Bool, true, false, false≢true}
use mathlib.Core.List.{List, [], ◌∷◌}
use lib.Dec.{eqb}
use Rattle.model.specs.Choice.{when◌then◌else◌}
use Rattle.model.specs.Scopes.{Scopes, within}
use Rattle.model.specs.Resolving.{Bind, Found, means, several, candidate, candidates, over, largest, choose, resolve}
use borrow.Author.Tests.{eqb-true, eq-eqb}
use Rattle.laws.proofs.Tests.{and_both, both_true}
use Rattle.laws.proofs.ScopeSets.{within_antisym}

-- b is one of l
abbrev pub In : Bind → List Bind → Type 0
In b [] = ⊥
In b (c ∷ l) = (b ≡ c) ⊎ In b l

-- b is one of l and contains all of l
pub record Largest (b : Bind) (l : List Bind) : Type 0 where
  pub here : In b l
  pub above : (c : Bind) → In c l → within c.set b.set ≡ true

-- b contains all of l; one of l is not contained in b
abbrev pub ContainsAll : Bind → List Bind → Type 0
ContainsAll b l = (c : Bind) → In c l → within c.set b.set ≡ true

abbrev pub MissesOne : Bind → List Bind → Type 0
MissesOne b l = (c : Bind) × In c l × (within c.set b.set ≡ false)

pub contains_all_or_misses_one : (b : Bind) (l : List Bind) → ContainsAll b l ⊎ MissesOne b l
contains_all_or_misses_one b [] = inl (λ c i. absurd i)
contains_all_or_misses_one b (d ∷ l) = go (within d.set b.set) refl (contains_all_or_misses_one b l)
  where
    both : within d.set b.set ≡ true → ContainsAll b l → ContainsAll b (d ∷ l)
    both e all c (inl p) = ap (λ (z : Bind). within z.set b.set) p ∙ e
    both e all c (inr i) = all c i

    go : (t : Bool) → within d.set b.set ≡ t → ContainsAll b l ⊎ MissesOne b l → ContainsAll b (d ∷ l) ⊎ MissesOne b (d ∷ l)
    go true e (inl all) = inl (both e all)
    go true e (inr (c, i, q)) = inr (c, inr i, q)
    go false e r = inr (d, inl refl, e)

-- what the rule says of candidates l of the symbol x
pub data Rule (x : ℕ) (l : List Bind) : Found → Type 0 where
  free : l ≡ [] → Rule x l (means x)
  found : (b : Bind) → Largest b l → Rule x l (means b.target)
  unclear : l ≢ [] → ((b : Bind) → Largest b l → ⊥) → Rule x l several

-- ---- the tests

pub over-sound : (b : Bind) (l : List Bind) → over b l ≡ true → (c : Bind) → In c l → within c.set b.set ≡ true
unfolding over
over-sound b [] e c i = absurd i
over-sound b (d ∷ l) e c (inl p) =
    ap (λ (z : Bind). within z.set b.set) p ∙ (and_both (within d.set b.set) (over b l) e).0
over-sound b (d ∷ l) e c (inr i) = over-sound b l (and_both (within d.set b.set) (over b l) e).1 c i

pub over_complete : (b : Bind) (l : List Bind) → ((c : Bind) → In c l → within c.set b.set ≡ true) → over b l ≡ true
unfolding over
over_complete b [] h = refl
over_complete b (d ∷ l) h =
    both_true (within d.set b.set) (over b l) (h d (inl refl)) (over_complete b l (λ c i. h c (inr i)))

-- ---- the search

-- `largest l all` is right where l is a part of all, and nothing of all outside l is largest
largest-is : (x : ℕ) (l all : List Bind) → all ≢ [] → ((b : Bind) → In b l → In b all)
    → ((b : Bind) → Largest b all → In b l) → Rule x all (largest l all)
unfolding largest
largest-is x [] all ne sub rest = unclear ne (λ b g. rest b g)
largest-is x (b ∷ l) all ne sub rest =
    by_test (over b all) refl (λ miss. largest-is x l all ne (λ c i. sub c (inr i)) (λ c g. skip c g miss (rest c g)))
  where
    skip : (c : Bind) → Largest c all → (over b all ≡ true → ⊥) → (c ≡ b) ⊎ In c l → In c l
    skip c g miss (inl p) = absurd (miss (over_complete b all (λ d i. subst (λ (z : Bind). within d.set z.set ≡ true) p (g.above d i))))
    skip c g miss (inr i) = i

    by_test : (t : Bool) → over b all ≡ t → ((over b all ≡ true → ⊥) → Rule x all (largest l all))
        → Rule x all (when t then means b.target else largest l all)
    by_test true e next = found b (record { here = sub b (inl refl); above = over-sound b all e })
    by_test false e next = next (λ h. false≢true (sym e ∙ h))

cons≢nil : (b : Bind) (l : List Bind) → (b ∷ l) ≢ []
cons≢nil b l e = subst (λ (z : List Bind). code z) e tt
  where
    code : List Bind → Type 0
    code [] = ⊥
    code (c ∷ m) = Unit {0}

choose-is : (x : ℕ) (l : List Bind) → Rule x l (choose x l)
unfolding choose
choose-is x [] = free refl
choose-is x (b ∷ l) = largest-is x (b ∷ l) (b ∷ l) (cons≢nil b l) (λ c i. i) (λ c g. g.here)

-- ---- the candidates are the bindings of the symbol whose set is contained

pub record Candidate (x : ℕ) (s : Scopes) (bs : List Bind) (b : Bind) : Type 0 where
  pub stored : In b bs
  pub symbol-is : b.symb ≡ x
  pub contained : within b.set s ≡ true

pub candidates-sound : (x : ℕ) (s : Scopes) (bs : List Bind) (b : Bind) → In b (candidates x s bs) → Candidate x s bs b
unfolding candidates candidate
candidates-sound x s [] b i = absurd i
candidates-sound x s (c ∷ l) b i = go (λ k. candidates-sound x s l b k) (candidate x s c) refl i
  where
    further : Candidate x s l b → Candidate x s (c ∷ l) b
    further k = record { stored = inr k.stored; symbol-is = k.symbol-is; contained = k.contained }

    go : (In b (candidates x s l) → Candidate x s l b) → (t : Bool) → candidate x s c ≡ t
        → In b (when t then c ∷ candidates x s l else candidates x s l) → Candidate x s (c ∷ l) b
    go below true e (inl p) =
        let h = and_both (eqb c.symb x) (within c.set s) e in
        record {
          stored = inl p;
          symbol-is = ap (λ (z : Bind). z.symb) p ∙ eqb-true c.symb x h.0;
          contained = ap (λ (z : Bind). within z.set s) p ∙ h.1;
        }
    go below true e (inr k) = further (below k)
    go below false e k = further (below k)

pub candidates_complete : (x : ℕ) (s : Scopes) (bs : List Bind) (b : Bind) → Candidate x s bs b → In b (candidates x s bs)
unfolding candidates candidate
candidates_complete x s [] b k = absurd k.stored
candidates_complete x s (c ∷ l) b k =
    go k.stored (λ i. candidates_complete x s l b (record { stored = i; symbol-is = k.symbol-is; contained = k.contained }))
    (candidate x s c) refl
  where
    passes : (b ≡ c) → candidate x s c ≡ true
    passes p =
        ap (λ (z : Bind). candidate x s z) (sym p)
        ∙ both_true (eqb b.symb x) (within b.set s) (eq-eqb b.symb x k.symbol-is) k.contained

    go : (b ≡ c) ⊎ In b l → (In b l → In b (candidates x s l)) → (t : Bool) → candidate x s c ≡ t
        → In b (when t then c ∷ candidates x s l else candidates x s l)
    go (inl p) below true e = inl p
    go (inl p) below false e = absurd (false≢true (sym e ∙ passes p))
    go (inr i) below true e = inr (below i)
    go (inr i) below false e = below i

-- ---- the theorem

pub resolve-is : (x : ℕ) (s : Scopes) (bs : List Bind) → Rule x (candidates x s bs) (resolve x s bs)
unfolding resolve
resolve-is x s bs = choose-is x (candidates x s bs)

-- no two bindings of l have the same set (all are of one symbol)
abbrev pub Apart : List Bind → Type 0
Apart l = (b c : Bind) → In b l → In c l → b.set ≡ c.set → b ≡ c

-- the rule leaves one answer only
pub rule_one : (x : ℕ) (l : List Bind) → Apart l → (f g : Found) → Rule x l f → Rule x l g → f ≡ g
rule_one x l ap! f g (free e) (free e') = refl
rule_one x l ap! f g (free e) (found b h) = absurd (subst (λ (z : List Bind). In b z) e h.here)
rule_one x l ap! f g (free e) (unclear ne h) = absurd (ne e)
rule_one x l ap! f g (found b h) (free e) = absurd (subst (λ (z : List Bind). In b z) e h.here)
rule_one x l ap! f g (found b h) (found c k) =
    ap (λ (z : Bind). means z.target)
    (ap! b c h.here k.here (within_antisym b.set c.set (k.above b h.here) (h.above c k.here)))
rule_one x l ap! f g (found b h) (unclear ne k) = absurd (k b h)
rule_one x l ap! f g (unclear ne h) (free e) = absurd (ne e)
rule_one x l ap! f g (unclear ne h) (found b k) = absurd (h b k)
rule_one x l ap! f g (unclear ne h) (unclear ne' k) = refl
