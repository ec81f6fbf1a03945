-- The rules of parsing, each in the shape that a way out of the code asks for.
use mathlib.Core.Path.{◌≡◌, refl, sym, ap}
use mathlib.Core.Option.{Option, none, some}
use Prim.Native.Nat.{ℕ}
use native.Mathlib.Omega.{arith}
use Rattle.model.specs.Refusals.{Refusal, ambiguous, no_rule}
use Rattle.model.specs.Objects.{Atom, symbol, number, point, prim, rung, tag_of, Sets, Stx, atom, list, Stxs, nil, cons}
use Rattle.model.specs.Trees.{Tree, app, datum, Trees, tcons}
use Rattle.model.specs.Competing.{Rivals, no_rivals}
use Rattle.model.specs.Steps.{State, Out, ok, no, after, Step, identifier}
use Rattle.model.specs.Meanings as p
use Rattle.model.specs.Meanings.{form_of}
use Rattle.model.specs.Parsing.{head_form, parse_all, parse_form, parse_entry, parse}
use Rattle.store.specs.Rivalry as d
use Rattle.store.specs.Rivalry.{several}
use Rattle.store.proofs.Competing.{resolve_at-decided}
use Rattle.forms.specs.Names.{name_found}
use Rattle.forms.proofs.Names.{some_is}
use Rattle.steps.proofs.Laws.{Entry, then_ok, then_no}
use Rattle.parse.specs.Parsing.{name_rule, lambda_rule, data_rule, quote_rule, syntax_rule, application_rule, function_rule}

pub parse_entry_lem : (ph : ℕ) (x : Stx) → Entry (λ d. parse d ph x) (λ d. parse_entry (λ y. parse d ph y) ph x)
unfolding parse
parse_entry_lem ph x = record { none = λ y. refl; some = λ d y. refl }

module _ (self : Stx → Step Tree) (ph : ℕ) (y : State) where
  pub entry_atom : (c : Sets) (a : Atom) → ¬ (tag_of a ≡ 0) → parse_entry self ph (atom c a) y ≡ ok (datum a) y
  unfolding parse_entry tag_of
  entry_atom c (symbol n) h = absurd (h refl)
  entry_atom c (number n) h = refl
  entry_atom c (point n) h = refl
  entry_atom c (prim n) h = refl
  entry_atom c (rung n) h = refl

  pub entry_symbol : (c : Sets) (n : ℕ) → parse_entry self ph (atom c (symbol n)) y ≡ name_rule ph (atom c (symbol n)) y
  unfolding parse_entry name_rule identifier
  entry_symbol c n = refl

  pub entry_empty : (c : Sets) → parse_entry self ph (list c nil) y ≡ no no_rule no_rivals y.left
  unfolding parse_entry
  entry_empty c = refl

  -- the head's form
  head-named : (h : Stx) {n : ℕ} → name_found ph y.binds h ≡ some (d.means n) → head_form ph h y ≡ ok (form_of n) y
  unfolding head_form name_found
  head-named (atom c (symbol x)) e = rw (resolve_at-decided ph c x y, some_is e) refl
  head-named (atom c (number x)) e = let z : ◌≡◌ {A = ℕ} 0 1 = cc in absurd (omega arith)
  head-named (atom c (point x)) e = let z : ◌≡◌ {A = ℕ} 0 1 = cc in absurd (omega arith)
  head-named (atom c (prim x)) e = let z : ◌≡◌ {A = ℕ} 0 1 = cc in absurd (omega arith)
  head-named (atom c (rung x)) e = let z : ◌≡◌ {A = ℕ} 0 1 = cc in absurd (omega arith)
  head-named (list c l) e = let z : ◌≡◌ {A = ℕ} 0 1 = cc in absurd (omega arith)

  head-unclear : (h : Stx) {p : Rivals} → name_found ph y.binds h ≡ some (several p) → head_form ph h y ≡ no ambiguous p y.left
  unfolding head_form name_found
  head-unclear (atom c (symbol x)) e = rw (resolve_at-decided ph c x y, some_is e) refl
  head-unclear (atom c (number x)) e = let z : ◌≡◌ {A = ℕ} 0 1 = cc in absurd (omega arith)
  head-unclear (atom c (point x)) e = let z : ◌≡◌ {A = ℕ} 0 1 = cc in absurd (omega arith)
  head-unclear (atom c (prim x)) e = let z : ◌≡◌ {A = ℕ} 0 1 = cc in absurd (omega arith)
  head-unclear (atom c (rung x)) e = let z : ◌≡◌ {A = ℕ} 0 1 = cc in absurd (omega arith)
  head-unclear (list c l) e = let z : ◌≡◌ {A = ℕ} 0 1 = cc in absurd (omega arith)

  head_unnamed : (h : Stx) → name_found ph y.binds h ≡ none → head_form ph h y ≡ ok none y
  unfolding head_form name_found
  head_unnamed (atom c (symbol x)) e = let z : ◌≡◌ {A = ℕ} 0 1 = cc in absurd (omega arith)
  head_unnamed (atom c (number x)) e = refl
  head_unnamed (atom c (point x)) e = refl
  head_unnamed (atom c (prim x)) e = refl
  head_unnamed (atom c (rung x)) e = refl
  head_unnamed (list c l) e = refl

  module _ (c : Sets) (h : Stx) (ps : Stxs) where
    pub list-named : {n : ℕ} → name_found ph y.binds h ≡ some (d.means n) → parse_entry self ph (list c (cons h ps)) y ≡ parse_form self ph (form_of n) h ps y
    unfolding parse_entry
    list-named e = then_ok _ (head-named h e)

    pub list-unclear : {p : Rivals} → name_found ph y.binds h ≡ some (several p) → parse_entry self ph (list c (cons h ps)) y ≡ no ambiguous p y.left
    unfolding parse_entry
    list-unclear e = then_no _ (head-unclear h e)

    pub list_unnamed : name_found ph y.binds h ≡ none → parse_entry self ph (list c (cons h ps)) y ≡ application_rule self h ps y
    unfolding parse_entry parse_form application_rule
    list_unnamed e = then_ok _ (head_unnamed h e)

  -- the forms
  module _ (h : Stx) (ps : Stxs) {o : Option p.Form} where
    pub form_lambda : some p.lambda ≡ o → parse_form self ph o h ps y ≡ lambda_rule self ph ps y
    unfolding parse_form lambda_rule function_rule
    form_lambda e = rw (sym e) refl

    pub form_let_syntax : some p.let_syntax ≡ o → parse_form self ph o h ps y ≡ no no_rule no_rivals y.left
    unfolding parse_form
    form_let_syntax e = rw (sym e) refl

    pub form_quote : some p.quote ≡ o → parse_form self ph o h ps y ≡ quote_rule ps y
    unfolding parse_form quote_rule data_rule
    form_quote e = rw (sym e) refl

    pub form_syntax : some p.syntax ≡ o → parse_form self ph o h ps y ≡ syntax_rule ps y
    unfolding parse_form syntax_rule
    form_syntax e = rw (sym e) refl

    pub form_other : none ≡ o → parse_form self ph o h ps y ≡ application_rule self h ps y
    unfolding parse_form application_rule
    form_other e = rw (sym e) refl

-- ---- an application is its chain's parts

pub record ApplicationIs (self : Stx → Step Tree) (h : Stx) (ps : Stxs) (y z : State) (ts : Trees) : Type 0 where
  pub first : Tree
  pub others : Trees
  pub is : ts ≡ tcons first others
  pub rule : application_rule self h ps y ≡ ok (app first others) z

module _ (self : Stx → Step Tree) (h : Stx) (ps : Stxs) (y : State) where
  parts-after : (f : Tree) (ts : Trees) (z : State) (o : Out Trees) → after o (λ r. λ s. ok (tcons f r) s) ≡ ok ts z
      → (r : Trees) × ((ts ≡ tcons f r) × (after o (λ r. λ s. ok (app f r) s) ≡ ok (app f r) z))
  parts-after f ts z (ok r s) e =
      let a : ts ≡ tcons f r = cc in
      let b : s ≡ z = cc in
      (r, (a, ap (λ (s : State). ok (app f r) s) b))
  parts-after f ts z (no c p u) e = let w : ◌≡◌ {A = ℕ} 0 1 = cc in absurd (omega arith)

  head-after : (ts : Trees) (z : State) (o : Out Tree) → after o (λ t. λ s. after (parse_all self ps s) (λ r. λ s. ok (tcons t r) s)) ≡ ok ts z
      → (f : Tree) × ((r : Trees) × ((ts ≡ tcons f r) × (after o (λ t. λ s. after (parse_all self ps s) (λ r. λ s. ok (app t r) s)) ≡ ok (app f r) z)))
  head-after ts z (ok f s) e = (f, parts-after f ts z (parse_all self ps s) e)
  head-after ts z (no c p u) e = let w : ◌≡◌ {A = ℕ} 0 1 = cc in absurd (omega arith)

  pub application_is : {ts : Trees} {z : State} → parse_all self (cons h ps) y ≡ ok ts z → ApplicationIs self h ps y z ts
  unfolding parse_all application_rule
  application_is {ts} {z} e = let d = head-after ts z (self h y) e in record { first = d.0; others = d.1.0; is = d.1.1.0; rule = d.1.1.1 }

  parts-no : (f : Tree) (c : Refusal) (p : Rivals) (u : ℕ) (o : Out Trees) → after o (λ r. λ s. ok (tcons f r) s) ≡ no c p u → after o (λ r. λ s. ok (app f r) s) ≡ no c p u
  parts-no f c p u (ok r s) e = let w : ◌≡◌ {A = ℕ} 0 1 = cc in absurd (omega arith)
  parts-no f c p u (no d q v) e = cc

  head-no : (c : Refusal) (p : Rivals) (u : ℕ) (o : Out Tree) → after o (λ t. λ s. after (parse_all self ps s) (λ r. λ s. ok (tcons t r) s)) ≡ no c p u
      → after o (λ t. λ s. after (parse_all self ps s) (λ r. λ s. ok (app t r) s)) ≡ no c p u
  head-no c p u (ok f s) e = parts-no f c p u (parse_all self ps s) e
  head-no c p u (no d q v) e = cc

  pub application_no : {c : Refusal} {p : Rivals} {u : ℕ} → parse_all self (cons h ps) y ≡ no c p u → application_rule self h ps y ≡ no c p u
  unfolding parse_all application_rule
  application_no {c} {p} {u} e = head-no c p u (self h y) e
