-- The rules of expanding, each in the shape that a way out of the code asks for.
use mathlib.Core.Path.{◌≡◌, refl, sym, ◌∙◌}
use Prim.Native.Nat.{ℕ, ◌+◌}
use lib.Dec.{leb}
use Rattle.model.specs.Limits.{last_phase}
use Rattle.model.specs.Refusals.{ambiguous, no_rule, no_phase}
use Rattle.model.specs.Scopes.{no_scopes, add}
use Rattle.model.specs.Objects.{Atom, symbol, number, point, prim, rung, tag_of, Sets, Stx, atom, list, Stxs, nil, cons}
use Rattle.model.specs.Trees.{Tree, app, stx, tnil, tcons, as_stx}
use Rattle.model.specs.Competing.{Rivals, no_rivals}
use Rattle.model.specs.Meanings as m
use Rattle.model.specs.Meanings.{core, variable, macro, stopped, unknown}
use Rattle.model.specs.Evaluating.{Evaluator, Expander, eval_entry}
use Rattle.model.specs.Steps.{State, ok, no, after, Step, add_to, flip_in, unless, fresh_scope, use_scope, inside}
use Rattle.model.specs.Parsing as p
use Rattle.model.specs.Expanding as rules
use Rattle.model.specs.Expanding.{expand_application, expand_function, expand_lambda, expand_syntax, expand_binding, expand_let_syntax, expand_macro, expand_form, expand_entry, evaluate, expand, bind_fresh, of_right_hand_side, of_body, or_no_syntax}
use Rattle.environment.specs.Meanings.{has, unclear, meaning_found}
use Rattle.environment.proofs.Laws.{head-means, head-unclear}
use Rattle.forms.specs.Names.{name_found}
use Rattle.steps.proofs.Laws.{Entry, then_ok, then_no, after-after}
use Rattle.scoping.specs.Changing.{change_rule}
use Rattle.scoping.specs.Fresh.{Marked, marks_rule, mark_rule}
use Rattle.expand.specs.Leaves.{name_rule, quote_rule, used_rule, back_rule}
use Rattle.expand.specs.Values.{evaluation, value_rule, transcribe_rule}
use Rattle.expand.specs.InPlace.{Further, further_rule, scoped_rule, defined_rule, rhs_rule, binding_rule, rewritten_rule}
use Rattle.expand.specs.Cycle.{expansion, abstraction_rule}

pub expand_entry_lem : (here : m.Surroundings) (x : Stx) → Entry (λ d. expand d here x) (λ d. expand_entry (expansion d) (evaluation d) d here x)
unfolding expand
expand_entry_lem here x = record { none = λ y. refl; some = λ d y. refl }

pub evaluate_entry : (q : m.Place) (t : Tree) → Entry (λ d. evaluate d q t) (λ d. eval_entry (evaluation d) (expansion d) q t)
unfolding evaluate
evaluate_entry q t = record { none = λ y. refl; some = λ d y. refl }

abbrev marked_by : ℕ → ℕ → Stx → Step Marked
marked_by u k x = λ s. ok (record { object = x; uses = u; intro = k }) s

module _ (self : Expander) (value : Evaluator) (d : ℕ) (here : m.Surroundings) (y : State) where
  pub entry_atom : (c : Sets) (a : Atom) → ¬ (tag_of a ≡ 0) → expand_entry self value d here (atom c a) y ≡ ok (atom c a) y
  unfolding expand_entry tag_of
  entry_atom c (symbol n) h = absurd (h refl)
  entry_atom c (number n) h = refl
  entry_atom c (point n) h = refl
  entry_atom c (prim n) h = refl
  entry_atom c (rung n) h = refl

  pub entry_symbol : (c : Sets) (n : ℕ) → expand_entry self value d here (atom c (symbol n)) y ≡ name_rule here c n y
  unfolding expand_entry name_rule
  entry_symbol c n = refl

  pub entry_empty : (c : Sets) → expand_entry self value d here (list c nil) y ≡ no no_rule no_rivals y.left
  unfolding expand_entry
  entry_empty c = refl

  module _ (c : Sets) (h : Stx) (ps : Stxs) where
    pub list-means : {w : m.Meaning} → meaning_found (name_found here.phase y.binds h) here.meanings here.stops ≡ has w → expand_entry self value d here (list c (cons h ps)) y ≡ expand_form self value d here c h ps w y
    unfolding expand_entry
    list-means z = then_ok _ (head-means here.phase here.meanings here.stops y h z)

    pub list-unclear : {p : Rivals} → meaning_found (name_found here.phase y.binds h) here.meanings here.stops ≡ unclear p → expand_entry self value d here (list c (cons h ps)) y ≡ no ambiguous p y.left
    unfolding expand_entry
    list-unclear z = then_no _ (head-unclear here.phase here.meanings here.stops y h z)

    pub form_lambda : expand_form self value d here c h ps (core m.lambda) y ≡ expand_lambda self here c h ps y
    unfolding expand_form
    form_lambda = refl

    pub form_let_syntax : expand_form self value d here c h ps (core m.let_syntax) y ≡ expand_let_syntax self value d here ps y
    unfolding expand_form
    form_let_syntax = refl

    pub form_quote : expand_form self value d here c h ps (core m.quote) y ≡ quote_rule (list c (cons h ps)) ps y
    unfolding expand_form quote_rule
    form_quote = refl

    pub form_syntax : expand_form self value d here c h ps (core m.syntax) y ≡ expand_syntax here.phase c h ps y
    unfolding expand_form
    form_syntax = refl

    pub form_variable : (b : Sets) (x : ℕ) → expand_form self value d here c h ps (variable b x) y ≡ expand_application self here c (cons h ps) y
    unfolding expand_form
    form_variable b x = refl

    pub form_macro : (v : Tree) → expand_form self value d here c h ps (macro v) y ≡ expand_macro self value here v (list c (cons h ps)) y
    unfolding expand_form
    form_macro v = refl

    pub form_stopped : expand_form self value d here c h ps stopped y ≡ ok (list c (cons h ps)) y
    unfolding expand_form
    form_stopped = refl

    pub form_unknown : expand_form self value d here c h ps unknown y ≡ expand_application self here c (cons h ps) y
    unfolding expand_form
    form_unknown = refl

  -- a binder, and then the rest
  pub function_split : (c : Sets) (h : Stx) (ci : Sets) (x : ℕ) (body : Stx) → expand_function self here c h ci x body y ≡ after (bind_fresh here.phase ci x y) (λ b. abstraction_rule self here c h b x body)
  unfolding expand_function abstraction_rule scoped_rule
  function_split c h ci x body = sym (simp after-after)

  -- the body that is expanded in a form's place, and then its expansion
  scoped_split : (b : rules.Binder) (w : m.Meaning) (body : Stx) (s : State) → after (scoped_rule here b w body s) (further_rule self) ≡ after (add_to b.scope here.phase body s) (λ z. inside (add b.scope) (self (of_body b w here) z))
  unfolding scoped_rule
  scoped_split b w body s = after-after {B = Further} (add_to b.scope here.phase body s) (λ z. λ s1. ok (record { object = z; there = of_body b w here; scope = b.scope }) s1) (further_rule self)

  defined_split : (b : rules.Binder) (r body : Stx) (s : State)
      → after (defined_rule value d here b r body s) (further_rule self)
      ≡ after (p.parse d (here.phase + 1) r s) (λ t. λ s1. after (value m.nowhere t s1) (λ v. λ s2. after (add_to b.scope here.phase body s2) (λ z. inside (add b.scope) (self (of_body b (macro v) here) z))))
  unfolding defined_rule value_rule
  defined_split b r body s =
      after-after (value_rule value d (here.phase + 1) r s) (λ v. scoped_rule here b (macro v) body) (further_rule self)
      ∙ after-after (p.parse d (here.phase + 1) r s) (λ t. value m.nowhere t) (λ v. λ s1. after (scoped_rule here b (macro v) body s1) (further_rule self))
      ∙ (λ i. after (p.parse d (here.phase + 1) r s) (λ t. λ s1. after (value m.nowhere t s1) (λ v. λ s2. (scoped_split b (macro v) body s2) i)))

  -- what the right-hand side expands to
  abbrev right_side : Stx → Step Stx
  right_side right = inside (λ q. no_scopes) (self (of_right_hand_side here) right)

  rhs_split : (b : rules.Binder) (right body : Stx) (s : State)
      → after (rhs_rule self value d here b right body s) (further_rule self)
      ≡ after (unless no_phase (leb (here.phase + 1) last_phase) s) (λ u. λ s1. after (right_side right s1) (λ r. λ s2. after (defined_rule value d here b r body s2) (further_rule self)))
  unfolding rhs_rule
  rhs_split b right body s =
      after-after (unless no_phase (leb (here.phase + 1) last_phase) s) (λ u. λ s1. after (right_side right s1) (λ r. defined_rule value d here b r body)) (further_rule self)
      ∙ (λ i. after (unless no_phase (leb (here.phase + 1) last_phase) s) (λ u. λ s1. (after-after (right_side right s1) (λ r. defined_rule value d here b r body) (further_rule self)) i))

  pub binding_split : (ci : Sets) (x : ℕ) (rhs body : Stx) → expand_binding self value d here ci x rhs body y ≡ after (binding_rule self value d here ci x rhs body y) (further_rule self)
  unfolding expand_binding binding_rule
  binding_split ci x rhs body =
      sym (after-after (bind_fresh here.phase ci x y) (λ b. rhs_rule self value d here b rhs body) (further_rule self)
      ∙ (λ i. after (bind_fresh here.phase ci x y) (λ b. λ s. (rhs_split b rhs body s) i))
      ∙ (λ i. after (bind_fresh here.phase ci x y) (λ b. λ s. after (unless no_phase (leb (here.phase + 1) last_phase) s) (λ u. λ s1. after (right_side rhs s1) (λ r. λ s2. (defined_split b r body s2) i)))))

  -- what a macro makes of the marked form, and its expansion; the scope of the use is prunable in both
  abbrev transcribed : Tree → ℕ → ℕ → Stx → Step Stx
  transcribed v u k x = λ s. after (use_scope u s) (λ w. λ s1. after (transcribe_rule value k here v x s1) (λ z. self here z))

  transcribed_split : (v : Tree) (u k : ℕ) (x : Stx) (s : State)
      → transcribed v u k x s ≡ after (use_scope u s) (λ w. λ s1. after (value (m.macro_use k here) (app v (tcons (stx x) tnil)) s1) (λ r. λ s2. after (or_no_syntax (as_stx r) s2) (λ z. λ s3. after (flip_in k here.phase z s3) (λ b. self here b))))
  unfolding transcribe_rule back_rule
  transcribed_split v u k x s =
      (λ i. after (use_scope u s) (λ w. λ s1. (after-after (value (m.macro_use k here) (app v (tcons (stx x) tnil)) s1) (λ r. back_rule here.phase k r) (λ b. self here b)) i))
      ∙ (λ i. after (use_scope u s) (λ w. λ s1. after (value (m.macro_use k here) (app v (tcons (stx x) tnil)) s1) (λ r. λ s2. (after-after (or_no_syntax (as_stx r) s2) (λ z. flip_in k here.phase z) (λ b. self here b)) i)))

  marks_split : (v : Tree) (form : Stx) (u k : ℕ) (s : State)
      → after (marks_rule here.phase u k form s) (λ w. transcribed v w.uses w.intro w.object) ≡ after (add_to u here.phase form s) (λ used. λ s1. after (flip_in k here.phase used s1) (λ marked. transcribed v u k marked))
  unfolding marks_rule add_to flip_in change_rule
  marks_split v form u k s =
      after-after {B = Marked} (add_to u here.phase form s) (λ used. λ s1. after (flip_in k here.phase used s1) (marked_by u k)) (λ w. transcribed v w.uses w.intro w.object)
      ∙ (λ i. after (add_to u here.phase form s) (λ used. λ s1. (after-after {B = Marked} (flip_in k here.phase used s1) (marked_by u k) (λ w. transcribed v w.uses w.intro w.object)) i))

  macro-marked : (v : Tree) (form : Stx) → expand_macro self value here v form y ≡ after (mark_rule here.phase form y) (λ w. transcribed v w.uses w.intro w.object)
  unfolding expand_macro mark_rule
  macro-marked v form =
      sym (after-after (fresh_scope y) (λ u. λ s. after (fresh_scope s) (λ k. marks_rule here.phase u k form)) (λ w. transcribed v w.uses w.intro w.object)
      ∙ (λ i. after (fresh_scope y) (λ u. λ s. (after-after (fresh_scope s) (λ k. marks_rule here.phase u k form) (λ w. transcribed v w.uses w.intro w.object)) i))
      ∙ (λ i. after (fresh_scope y) (λ u. λ s. after (fresh_scope s) (λ k. λ s1. (marks_split v form u k s1) i)))
      ∙ (λ i. after (fresh_scope y) (λ u. λ s. after (fresh_scope s) (λ k. λ s1. after (add_to u here.phase form s1) (λ used. λ s2. after (flip_in k here.phase used s2) (λ marked. λ s3. (transcribed_split v u k marked s3) i))))))

  -- the mark and the use scope, and then what the macro makes of it
  used_split : (v : Tree) (form : Stx) → after (rewritten_rule value here v form y) (λ z. self here z) ≡ after (mark_rule here.phase form y) (λ w. transcribed v w.uses w.intro w.object)
  unfolding rewritten_rule used_rule
  used_split v form = simp after-after

  pub macro_split : (v : Tree) (form : Stx) → expand_macro self value here v form y ≡ after (rewritten_rule value here v form y) (λ z. self here z)
  macro_split v form = macro-marked v form ∙ sym (used_split v form)
