-- The name of an identifier: one law for each way out; and what a caller knows of it.
use mathlib.Core.Path.{◌≡◌, refl, sym, ap, ap₂, ◌∙◌}
use mathlib.Core.List.{List}
use mathlib.Core.Option.{none, some}
use Prim.Native.Nat.{ℕ, zero, suc}
use native.Mathlib.Omega.{arith}
use Rattle.std.specs.Prelude.{Result, Ok, Err}
use Rattle.model.specs.Refusals.{no_rule, ambiguous}
use Rattle.model.specs.Objects as m
use Rattle.model.specs.Objects.{Atom, symbol, number, point, prim, rung, tag_of, content_of, Stx, atom, list, set_at}
use Rattle.model.specs.Trees.{stx}
use Rattle.model.specs.Competing as c
use Rattle.model.specs.Competing.{no_rivals}
use Rattle.model.specs.Steps.{State, Step, no, after, resolve_at, identifier}
use Rattle.model.specs.Meanings as p
use Rattle.model.specs.Meanings.{form_of}
use Rattle.scopes.specs.Sets.{scopes_of}
use Rattle.store.specs.Words.{binds_of}
use Rattle.store.specs.Rivalry as d
use Rattle.store.specs.Rivalry.{several, rivals_of, decided, found_of}
use Rattle.store.specs.declared.rivals.Rivals.{Rivals}
use Rattle.store.proofs.Competing.{resolve_at-decided}
use Rattle.scopes.specs.declared.Name.{Name}
use Rattle.table.specs.Words.{get_node, get_sets}
use Rattle.table.specs.declared.Node.{Node}
use Rattle.table.specs.declared.Sets.{Sets}
use Rattle.things.specs.Rep.{Rep, is-atom, is-list, sets_of}
use Rattle.things.proofs.ByTag.{tag_is, content-is}
use Rattle.things.proofs.Measuring.{node-inside}
use Rattle.forms.specs.Names.{name_found, naming_of, Names}
use Rattle.forms.specs.declared.Naming.{Naming}
use Rattle.forms.specs.declared.Naming.TheVariants.{Named, Unclear, Unnamed}

-- ---- the set at a phase

module _ (c : Sets) (n : ℕ) where
  pub set_at_0 : n ≡ 0 → scopes_of c.at0 ≡ set_at n (sets_of c)
  unfolding set_at
  set_at_0 h = rw h refl

  pub set_at_1 : n ≡ 1 → scopes_of c.at1 ≡ set_at n (sets_of c)
  unfolding set_at
  set_at_1 h = rw h refl

pub set_at_2 : (c : Sets) (n : ℕ) → ¬ (n ≡ 0) → ¬ (n ≡ 1) → scopes_of c.at2 ≡ set_at n (sets_of c)
unfolding set_at
set_at_2 c zero h k = absurd (h refl)
set_at_2 c (suc zero) h k = absurd (k refl)
set_at_2 c (suc (suc n)) h k = refl

-- ---- the name

module _ {l : List ℕ} (st : List ℕ) (n ph : ℕ) {i : ℕ} {o : Node} (e : o ≡ get_node l i) where
  pub unnamed : ¬ (o.tag ≡ 0) → Names ph st n l i Unnamed
  unfolding name_found tag_of
  unnamed h = record { means = λ top x r. by r }
    where
      by : {top : ℕ} {x : Stx} → Rep l top i (stx x) → none ≡ name_found ph (binds_of st n) x
      by (is-atom {a = symbol k} a q y) = absurd (h (tag_is e q))
      by (is-atom {a = number k} a q y) = refl
      by (is-atom {a = point k} a q y) = refl
      by (is-atom {a = prim k} a q y) = refl
      by (is-atom {a = rung k} a q y) = refl
      by (is-list a q y r) = refl

  module _ (h : o.tag ≡ 0) {c : Sets} (f : c ≡ get_sets l i) {z : ℕ} (g : z ≡ set_at ph (sets_of c)) (w : Result Name Rivals)
      (k : found_of w ≡ decided o.content z (binds_of st n)) where
    found-is : (top : ℕ) (x : Stx) → Rep l top i (stx x) → name_found ph (binds_of st n) x ≡ some (found_of w)
    unfolding name_found tag_of content_of
    found-is top x r = by r
      where
        by : {x : Stx} → Rep l top i (stx x) → name_found ph (binds_of st n) x ≡ some (found_of w)
        by (is-atom {s = s} {a = symbol j} a q y) =
            let set : z ≡ set_at ph s = g ∙ ap (λ (d : Sets). set_at ph (sets_of d)) f ∙ ap (set_at ph) y in
            let same : decided o.content z (binds_of st n) ≡ decided j (set_at ph s) (binds_of st n) =
            ap₂ (λ (u : ℕ) (v : ℕ). decided u v (binds_of st n)) (content-is e q) set in
            ap some (sym (k ∙ same))
        by (is-atom {a = number j} a q y) = absurd (omega (arith, tag_is e q, h))
        by (is-atom {a = point j} a q y) = absurd (omega (arith, tag_is e q, h))
        by (is-atom {a = prim j} a q y) = absurd (omega (arith, tag_is e q, h))
        by (is-atom {a = rung j} a q y) = absurd (omega (arith, tag_is e q, h))
        by (is-list a q y r) = absurd (omega (arith, tag_is e q, h))

    pub named : {v : Name} → w ≡ Ok v → Names ph st n l i (Named v)
    named j = record { means = λ top x r. sym (found-is top x r ∙ ap (λ (u : Result Name Rivals). some (found_of u)) j) }

    pub unclear : {v : Rivals} → w ≡ Err v → Names ph st n l i (Unclear v)
    unclear j = record { means = λ top x r. sym (found-is top x r ∙ ap (λ (u : Result Name Rivals). some (found_of u)) j) }

-- ---- what a caller knows

module _ {ph n : ℕ} {l st : List ℕ} {i top : ℕ} {x : Stx} {r : Naming} (p : Names ph st n l i r) (q : Rep l top i (stx x)) where
  pub on_named : {v : Name} → r ≡ Named v → name_found ph (binds_of st n) x ≡ some (d.means v.0)
  on_named e = sym (p.means top x q) ∙ ap naming_of e

  pub on_unclear : {v : Rivals} → r ≡ Unclear v → name_found ph (binds_of st n) x ≡ some (several (rivals_of v))
  on_unclear e = sym (p.means top x q) ∙ ap naming_of e

  pub on_unnamed : r ≡ Unnamed → name_found ph (binds_of st n) x ≡ none
  on_unnamed e = sym (p.means top x q) ∙ ap naming_of e

pub some_is : {A : Type 0} {a b : A} → some a ≡ some b → a ≡ b
some_is e = cc

-- resolving an identifier that the rules look at
module _ (ph : ℕ) (y : State) where
  module _ {A : Type 0} (f : ℕ → Step A) where
    pub identifier-named : (x : Stx) {k : ℕ} → name_found ph y.binds x ≡ some (d.means k) → identifier x (λ c s z. after (resolve_at ph c s z) f) y ≡ f k y
    unfolding name_found identifier
    identifier-named (atom c (symbol s)) h = rw (resolve_at-decided ph c s y, some_is h) refl
    identifier-named (atom c (number s)) h = let z : ◌≡◌ {A = ℕ} 0 1 = cc in absurd (omega arith)
    identifier-named (atom c (point s)) h = let z : ◌≡◌ {A = ℕ} 0 1 = cc in absurd (omega arith)
    identifier-named (atom c (prim s)) h = let z : ◌≡◌ {A = ℕ} 0 1 = cc in absurd (omega arith)
    identifier-named (atom c (rung s)) h = let z : ◌≡◌ {A = ℕ} 0 1 = cc in absurd (omega arith)
    identifier-named (list c s) h = let z : ◌≡◌ {A = ℕ} 0 1 = cc in absurd (omega arith)

    pub identifier-unclear : (x : Stx) {p : c.Rivals} → name_found ph y.binds x ≡ some (several p) → identifier x (λ c s z. after (resolve_at ph c s z) f) y ≡ no ambiguous p y.left
    unfolding name_found identifier
    identifier-unclear (atom c (symbol s)) h = rw (resolve_at-decided ph c s y, some_is h) refl
    identifier-unclear (atom c (number s)) h = let z : ◌≡◌ {A = ℕ} 0 1 = cc in absurd (omega arith)
    identifier-unclear (atom c (point s)) h = let z : ◌≡◌ {A = ℕ} 0 1 = cc in absurd (omega arith)
    identifier-unclear (atom c (prim s)) h = let z : ◌≡◌ {A = ℕ} 0 1 = cc in absurd (omega arith)
    identifier-unclear (atom c (rung s)) h = let z : ◌≡◌ {A = ℕ} 0 1 = cc in absurd (omega arith)
    identifier-unclear (list c s) h = let z : ◌≡◌ {A = ℕ} 0 1 = cc in absurd (omega arith)

  pub identifier_unnamed : {A : Type 0} (x : Stx) (f : m.Sets → ℕ → Step A) → name_found ph y.binds x ≡ none → identifier x f y ≡ no no_rule no_rivals y.left
  unfolding name_found identifier
  identifier_unnamed (atom c (symbol s)) f h = let z : ◌≡◌ {A = ℕ} 0 1 = cc in absurd (omega arith)
  identifier_unnamed (atom c (number s)) f h = refl
  identifier_unnamed (atom c (point s)) f h = refl
  identifier_unnamed (atom c (prim s)) f h = refl
  identifier_unnamed (atom c (rung s)) f h = refl
  identifier_unnamed (list c s) f h = refl

-- ---- the core form of a name

pub form_0 : (n : ℕ) → n ≡ 0 → some p.lambda ≡ form_of n
unfolding form_of
form_0 n h = rw h refl

pub form_1 : (n : ℕ) → n ≡ 1 → some p.let_syntax ≡ form_of n
unfolding form_of
form_1 n h = rw h refl

pub form_2 : (n : ℕ) → n ≡ 2 → some p.quote ≡ form_of n
unfolding form_of
form_2 n h = rw h refl

pub form_3 : (n : ℕ) → n ≡ 3 → some p.syntax ≡ form_of n
unfolding form_of
form_3 n h = rw h refl

pub form_none : (n : ℕ) → ¬ (n ≡ 0) → ¬ (n ≡ 1) → ¬ (n ≡ 2) → ¬ (n ≡ 3) → none ≡ form_of n
unfolding form_of
form_none zero a b c d = absurd (a refl)
form_none (suc zero) a b c d = absurd (b refl)
form_none (suc (suc zero)) a b c d = absurd (c refl)
form_none (suc (suc (suc zero))) a b c d = absurd (d refl)
form_none (suc (suc (suc (suc n)))) a b c d = refl

pub ruleset laws = (form_0, form_1, form_2, form_3, form_none, node-inside, set_at_0, set_at_1, set_at_2, unnamed, named, unclear)
