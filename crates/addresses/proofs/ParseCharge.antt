-- Where parse succeeds it has charged exactly what `entry_charge` says.
use mathlib.Core.Path.{◌≡◌, refl, sym, ap, ◌∙◌, subst}
use Prim.Native.Nat.{ℕ, zero, suc, ◌+◌, ◌-◌, ◌≤◌, ◌<◌, zero-le}
use native.Mathlib.Nat.{add-zero}
use native.Mathlib.Omega.{arith}
use mathlib.Core.Bool.{Bool, true, false}
use mathlib.Core.Option.{Option, none, some}
use mathlib.Core.List.{List, ◌∷◌}
use lib.Dec.{leb}
use Rattle.model.specs.Choice.{when◌then◌else◌}
use Rattle.model.specs.Refusals.{no_rule, too_many_entries, over_budget}
use Rattle.model.specs.Objects.{symbol, number, point, prim, rung, set_at, Stx, atom, list, Stxs, nil, cons, size, sizes}
use Rattle.model.specs.Trees.{Tree, var, app, fun, datum, stx, Trees, tnil, tcons, strip}
use Rattle.model.specs.Resolving.{Bind, means, resolve}
use Rattle.model.specs.Competing.{no_rivals}
use Rattle.model.specs.Meanings.{Form, lambda, let_syntax, quote, syntax, form_of}
use Rattle.model.specs.Steps.{State, Out, ok, no, Step, charge, name_of, resolve_at}
use Rattle.model.specs.Parsing.{head_form, parse_all, parse_form, parse_entry, parse}
use borrow.Author.Tests.{leb-true}
use Rattle.laws.specs.Ordered.{Sorted}
use Rattle.laws.proofs.StepLaws.{spend}
use Rattle.addresses.specs.Charge.{form_made, form_at, sum_of, last_of, size_after_head, inside_charge, entry_charge, entry_charges}
use Rattle.addresses.proofs.Outcomes.{Outcome, gives, stops, chain, resolve_at-out, parts1-out, parts2-out, identifier-out}
use Rattle.addresses.proofs.Costs.{Costs, paid, short, spend_spend}

-- from s to u exactly n units were charged, and nothing else changed
pub record Spent (n : ℕ) (s u : State) : Type 0 where
  pub enough : n ≤ s.left
  pub is : spend n s ≡ u

spent-none : (s : State) → Spent 0 s s
unfolding spend
spent-none s = record {
  enough = zero-le;
  is = ap (λ (z : ℕ). record { left = z; names = s.names; scopes = s.scopes; binds = s.binds; prunable = s.prunable; uses = s.uses }) (same_left s.left);
}
  where
    same_left : (n : ℕ) → n - 0 ≡ n
    same_left n = omega arith

spent_then : (a b : ℕ) (s t u : State) → Spent a s t → Spent b t u → Spent (a + b) s u
unfolding spend
spent_then a b s t u p q = record {
  enough = both s.left p.enough (subst (λ (z : State). b ≤ z.left) (sym p.is) q.enough);
  is = sym (spend_spend a b s) ∙ ap (spend b) p.is ∙ q.is;
}
  where
    both : (n : ℕ) → a ≤ n → b ≤ n - a → a + b ≤ n
    both n h k = omega arith

spent-binds : (n : ℕ) (s u : State) → Spent n s u → s.binds ≡ u.binds
unfolding spend
spent-binds n s u p = ap (λ (z : State). z.binds) p.is

charge-spent : (n : ℕ) (s : State) → Outcome (Unit {0}) (λ v t. Spent n s t) (charge n s)
unfolding charge spend
charge-spent n s = go (leb n s.left) refl
  where
    go : (b : Bool) → leb n s.left ≡ b → Outcome (Unit {0}) (λ v t. Spent n s t) (when b then ok tt (spend n s) else no over_budget no_rivals s.left)
    go true e = gives tt (spend n s) (record { enough = leb-true n s.left e; is = refl })
    go false e = stops over_budget no_rivals s.left refl

-- the bindings of the state s, in order
pub record Binds (bs : List Bind) (s : State) : Type 0 where
  pub are : s.binds ≡ bs
  pub ascending : Sorted bs

later : {bs : List Bind} {s t : State} → Binds bs s → s.binds ≡ t.binds → Binds bs t
later q e = record { are = sym e ∙ q.are; ascending = q.ascending }

in_order : {bs : List Bind} {s : State} → Binds bs s → Sorted s.binds
in_order q = subst Sorted (sym q.are) q.ascending

-- what a further entry charges
abbrev ParseSpends : ℕ → List Bind → (Stx → Step Tree) → Type 0
ParseSpends ph bs self = (x : Stx) (s : State) → Binds bs s → Outcome Tree (λ t u. Spent (entry_charge ph bs x) s u) (self x s)

all_spends : (ph : ℕ) (bs : List Bind) (self : Stx → Step Tree) → ParseSpends ph bs self → (l : Stxs) (s : State) → Binds bs s
    → Outcome Trees (λ r u. Spent (sum_of (entry_charges ph bs l)) s u) (parse_all self l s)
unfolding parse_all entry_charge sum_of
all_spends ph bs self h nil s q = gives tnil s (spent-none s)
all_spends ph bs self h (cons x l) s q =
    chain _ (h x s q) (λ t u a. chain _ (all_spends ph bs self h l u (later q (spent-binds (entry_charge ph bs x) s u a))) (λ r v b.
    gives (tcons t r) v (spent_then (entry_charge ph bs x) (sum_of (entry_charges ph bs l)) s u v a b)))

-- the head is resolved by the bindings alone
head-out : (ph : ℕ) (bs : List Bind) (h : Stx) (l : Stxs) (s : State) → Binds bs s
    → Outcome (Option Form) (λ f u. (form_at ph bs (cons h l) ≡ f) × (s ≡ u)) (head_form ph h s)
unfolding head_form form_at form_made resolve_at name_of
head-out ph bs (atom c (symbol x)) l s q = chain _ (resolve_at-out ph c x s (in_order q)) (λ n t r. gives (form_of n) t (made n r, r.1))
  where
    made : (n : ℕ) {t : State} → (resolve x (set_at ph c) s.binds ≡ means n) × (s ≡ t) → form_at ph bs (cons (atom c (symbol x)) l) ≡ form_of n
    made n r = rw (ap (resolve x (set_at ph c)) (sym q.are) ∙ r.0)
head-out ph bs (atom c (number x)) l s q = gives none s (refl, refl)
head-out ph bs (atom c (point x)) l s q = gives none s (refl, refl)
head-out ph bs (atom c (prim x)) l s q = gives none s (refl, refl)
head-out ph bs (atom c (rung x)) l s q = gives none s (refl, refl)
head-out ph bs (list c p) l s q = gives none s (refl, refl)

-- what is charged inside a list whose head makes the form f
abbrev Inside : ℕ → List Bind → Option Form → Stx → Stxs → State → Tree → State → Type 0
Inside ph bs f h l s t u = Spent (inside_charge f (entry_charges ph bs (cons h l)) (cons h l)) s u

form_spends : (ph : ℕ) (bs : List Bind) (self : Stx → Step Tree) → ParseSpends ph bs self → (f : Option Form) (h : Stx) (l : Stxs) (s : State) → Binds bs s
    → Outcome Tree (Inside ph bs f h l s) (parse_form self ph f h l s)
unfolding parse_form inside_charge entry_charge sum_of last_of size_after_head size
form_spends ph bs self rec none h l s q =
    chain _ (rec h s q) (λ t u a. chain _ (all_spends ph bs self rec l u (later q (spent-binds (entry_charge ph bs h) s u a))) (λ r v b.
    gives (app t r) v (spent_then (entry_charge ph bs h) (sum_of (entry_charges ph bs l)) s u v a b)))
form_spends ph bs self rec (some lambda) h l s q =
    parts2-out l _ s (λ i body e. identifier-out i _ s (λ c x e'. chain _ (resolve_at-out ph c x s (in_order q)) (λ n t r.
    chain _ (rec body t (later q (ap (λ (z : State). z.binds) r.1))) (λ b u a.
    gives (fun n b) u (subst (λ (z : Stxs). Spent (last_of (entry_charge ph bs h ∷ entry_charges ph bs z)) s u) (sym e)
    (subst (λ (z : State). Spent (entry_charge ph bs body) z u) (sym r.1) a))))))
form_spends ph bs self rec (some let_syntax) h l s q = stops no_rule no_rivals s.left refl
form_spends ph bs self rec (some quote) h l s q =
    parts1-out l _ s (λ d e. chain _ (charge-spent (size d) s) (λ v u a.
    gives (strip d) u (subst (λ (z : Stxs). Spent (sizes z) s u) (sym e) (subst (λ (z : ℕ). Spent z s u) (sym (add-zero (size d))) a))))
form_spends ph bs self rec (some syntax) h l s q = parts1-out l _ s (λ d e. gives (stx d) s (spent-none s))

-- what an entry charges after its own unit
unit_less : ℕ → List Bind → Stx → ℕ
unit_less ph bs (atom c a) = 0
unit_less ph bs (list c l) = inside_charge (form_at ph bs l) (entry_charges ph bs l) l

entry_spends : (ph : ℕ) (bs : List Bind) (self : Stx → Step Tree) → ParseSpends ph bs self → (x : Stx) (s : State) → Binds bs s
    → Outcome Tree (λ t u. Spent (unit_less ph bs x) s u) (parse_entry self ph x s)
unfolding parse_entry unit_less
entry_spends ph bs self rec (atom c (symbol x)) s q =
    chain _ (resolve_at-out ph c x s (in_order q)) (λ n t r. gives (var n) t (subst (λ (z : State). Spent 0 s z) r.1 (spent-none s)))
entry_spends ph bs self rec (atom c (number x)) s q = gives (datum (number x)) s (spent-none s)
entry_spends ph bs self rec (atom c (point x)) s q = gives (datum (point x)) s (spent-none s)
entry_spends ph bs self rec (atom c (prim x)) s q = gives (datum (prim x)) s (spent-none s)
entry_spends ph bs self rec (atom c (rung x)) s q = gives (datum (rung x)) s (spent-none s)
entry_spends ph bs self rec (list c nil) s q = stops no_rule no_rivals s.left refl
entry_spends ph bs self rec (list c (cons h l)) s q =
    chain _ (head-out ph bs h l s q) (λ f u r.
    subst (λ (z : State). Outcome Tree (λ t v. Spent (inside_charge (form_at ph bs (cons h l)) (entry_charges ph bs (cons h l)) (cons h l)) s v) (parse_form self ph f h l z)) r.1
    (subst (λ (z : Option Form). Outcome Tree (λ t v. Spent (inside_charge z (entry_charges ph bs (cons h l)) (cons h l)) s v) (parse_form self ph f h l s)) (sym r.0)
    (form_spends ph bs self rec f h l s q)))

one_more : (ph : ℕ) (bs : List Bind) (x : Stx) → 1 + unit_less ph bs x ≡ entry_charge ph bs x
unfolding unit_less entry_charge
one_more ph bs (atom c a) = refl
one_more ph bs (list c l) = refl

pub parse_spends : (d ph : ℕ) (bs : List Bind) → ParseSpends ph bs (parse d ph)
unfolding parse
parse_spends zero ph bs x s q = stops too_many_entries no_rivals s.left refl
parse_spends (suc d) ph bs x s q =
    chain _ (charge-spent 1 s) (λ v t a.
    more t a (entry_spends ph bs (λ y. parse d ph y) (parse_spends d ph bs) x t (later q (spent-binds 1 s t a))))
  where
    more : (t : State) → Spent 1 s t → {o : Out Tree} → Outcome Tree (λ w u. Spent (unit_less ph bs x) t u) o → Outcome Tree (λ w u. Spent (entry_charge ph bs x) s u) o
    more t a (gives w u b) = gives w u (subst (λ (z : ℕ). Spent z s u) (one_more ph bs x) (spent_then 1 (unit_less ph bs x) s t u a b))
    more t a (stops r q u b) = stops r q u b

-- so the cost of a tree that parse gives is that charge
pub cost_is_charge : (t : Tree) (c n : ℕ) (s : State) {o : Out Tree} → Costs Tree t c s o → Outcome Tree (λ w u. Spent n s u) o → s.left ≡ c → c ≡ n
unfolding spend
cost_is_charge t c n s (paid h) (gives w u p) e = same s.left h p.enough (ap (λ (z : State). z.left) p.is)
  where
    same : (l : ℕ) → c ≤ l → n ≤ l → l - n ≡ l - c → c ≡ n
    same l a b q = omega arith
cost_is_charge t c n s (short v h) o e = absurd (clash s.left h e)
  where
    clash : (l : ℕ) → l < c → l ≡ c → ⊥
    clash l a b = omega arith
