-- With the rules as defined, `ruled` is the expand job; with one wrong rule it does not meet that job's contract. So condition 2 rejects the
-- third sham, which copies all parts of an application but the first (by its units, and by what it writes alone), and three slips: a fresh
-- name not advanced, a body without its binder's scope, an identifier answered with itself. Of the slips condition 3 rejects the first by itself.
use mathlib.Core.Path.{◌≡◌, refl, sym, ap, ◌∙◌, fun_ext}
use Prim.Native.Nat.{ℕ, zero, suc, ◌-◌}
use native.Mathlib.Omega.{arith}
use mathlib.Core.List.{List, []}
use lib.ListN.{length, get_or}
use Rattle.model.specs.Limits.{most_entries}
use Rattle.model.specs.Refusals.{layout}
use Rattle.model.specs.Objects.{symbol, number, point, prim, rung, Sets, Stx, atom, list, Stxs, nil, cons, size}
use Rattle.model.specs.Trees.{Tree}
use Rattle.model.specs.Reading.{fault, read_syntax, read_image}
use Rattle.model.specs.Steps.{State, Step, after, charge}
use Rattle.model.specs.Expanding.{head_meaning, expand_form, expand_entry, evaluate, expand}
use Rattle.model.specs.Writing.{syntax_bytes}
use Rattle.model.specs.Meanings.{lambda, let_syntax, quote, syntax, Meaning, core, variable, macro, stopped, unknown, Surroundings, of_root, Place}
use Rattle.model.specs.Evaluating.{Expander, Evaluator, eval_entry}
use Rattle.model.specs.Jobs.{Result, lent, at_phase, with_image, start, worked, fitted, reached, expand_root, expand_ending, expand_job}
use Rattle.codec_laws.proofs.NumberTrip.{fault≢got}
use Rattle.addresses.specs.OneNameOneAddress.{image_written}
use Rattle.proof_bench.specs.Meeting.{Expanding, MeetsExpand}
use Rattle.proof_bench.specs.Rules.{ruled_form, ruled_entry, ruled_evaluate, ruled_expand, ruled_root, ruled_ending, ruled, right_rules, copies_others, copies_paid, stale_names, bare_bodies, own_identifiers}
use Rattle.proof_bench.specs.Shams.{WritesCopies, Condition3Of}
use Rattle.proof_bench.proofs.Samples.{identity, applied, doubled, nested, words, room, expanded, identity_code, identity_image, applied_units, doubled_code, doubled_units, doubled_length, nested_length, identity_call, applied_call, doubled_call, nested_call, as_defined, code_is, image-is, units-are}

-- ---- with the rules as defined

right_form : (self : Expander) (value : Evaluator) (d : ℕ) (here : Surroundings) (c : Sets) (h : Stx) (l : Stxs) (m : Meaning)
    → ruled_form right_rules self value d here c h l m ≡ expand_form self value d here c h l m
unfolding ruled_form right_rules expand_form
right_form self value d here c h l (core lambda) = refl
right_form self value d here c h l (core let_syntax) = refl
right_form self value d here c h l (core quote) = refl
right_form self value d here c h l (core syntax) = refl
right_form self value d here c h l (variable b x) = refl
right_form self value d here c h l (macro v) = refl
right_form self value d here c h l stopped = refl
right_form self value d here c h l unknown = refl

right_entry : (self : Expander) (value : Evaluator) (d : ℕ) (here : Surroundings) (x : Stx)
    → ruled_entry right_rules self value d here x ≡ expand_entry self value d here x
unfolding ruled_entry right_rules expand_entry
right_entry self value d here (atom c (symbol x)) = refl
right_entry self value d here (atom c (number x)) = refl
right_entry self value d here (atom c (point x)) = refl
right_entry self value d here (atom c (prim x)) = refl
right_entry self value d here (atom c (rung x)) = refl
right_entry self value d here (list c nil) = refl
right_entry self value d here (list c (cons h l)) =
    ap (λ (f : Meaning → Step Stx). λ (s : State). after (head_meaning here h s) f) (fun_ext (λ m. right_form self value d here c h l m))

-- expanders, and evaluators, that agree are equal
same_expander : (a b : Expander) → ((here : Surroundings) (x : Stx) → a here x ≡ b here x) → a ≡ b
same_expander a b h = fun_ext (λ here. fun_ext (λ x. h here x))

same_evaluator : (a b : Evaluator) → ((place : Place) (t : Tree) → a place t ≡ b place t) → a ≡ b
same_evaluator a b h = fun_ext (λ place. fun_ext (λ t. h place t))

mutual
  unfolding ruled_expand expand

  right_evaluate : (d : ℕ) (place : Place) (t : Tree) → ruled_evaluate d right_rules place t ≡ evaluate d place t
  right_evaluate zero place t = refl
  right_evaluate (suc d) place t =
      ap (λ (value : Evaluator). λ (s : State). after (charge 1 s) (λ (v : Unit {0}). eval_entry value (λ there y. ruled_expand d right_rules there y) place t))
      (same_evaluator (λ there u. ruled_evaluate d right_rules there u) (λ there u. evaluate d there u) (λ there u. right_evaluate d there u))
      ∙ ap (λ (self : Expander). λ (s : State). after (charge 1 s) (λ (v : Unit {0}). eval_entry (λ there u. evaluate d there u) self place t))
      (same_expander (λ there y. ruled_expand d right_rules there y) (λ there y. expand d there y) (λ there y. right_expand d there y))

  right_expand : (d : ℕ) (here : Surroundings) (x : Stx) → ruled_expand d right_rules here x ≡ expand d here x
  right_expand zero here x = refl
  right_expand (suc d) here x =
      ap (λ (self : Expander). λ (s : State). after (charge 1 s) (λ (v : Unit {0}). ruled_entry right_rules self (λ there u. ruled_evaluate d right_rules there u) d here x))
      (same_expander (λ there y. ruled_expand d right_rules there y) (λ there y. expand d there y) (λ there y. right_expand d there y))
      ∙ ap (λ (value : Evaluator). λ (s : State). after (charge 1 s) (λ (v : Unit {0}). ruled_entry right_rules (λ there y. expand d there y) value d here x))
      (same_evaluator (λ there u. ruled_evaluate d right_rules there u) (λ there u. evaluate d there u) (λ there u. right_evaluate d there u))
      ∙ ap (λ (g : Step Stx). λ (s : State). after (charge 1 s) (λ (v : Unit {0}). g)) (right_entry (λ there y. expand d there y) (λ there u. evaluate d there u) d here x)

right_root : (ph : ℕ) (x : Stx) → ruled_root right_rules ph x ≡ expand_root ph x
unfolding ruled_root expand_root
right_root ph x =
    ap (λ (g : Step Stx). λ (s : State). after (charge (size x) s) (λ (v : Unit {0}). g)) (right_expand most_entries (of_root ph) x)

right_ending : (image : List ℕ) (ph budget output : ℕ) → ruled_ending right_rules image ph budget output ≡ expand_ending image ph budget output
unfolding ruled_ending expand_ending
right_ending image ph budget output =
    ap (λ (root : Stx → Step Stx). at_phase ph (with_image (read_image read_syntax image) (λ i.
    worked budget (root i.root (start budget i)) (λ r s. fitted output (syntax_bytes (reached i.head s) s.binds r) (budget - s.left)))))
    (fun_ext (λ x. right_root ph x))

pub right_rules_are_the_job : (image : List ℕ) (ph budget : ℕ) (table output : List ℕ)
    → ruled right_rules image ph budget table output ≡ expand_job image ph budget table output
unfolding ruled expand_job
right_rules_are_the_job image ph budget table output = ap (lent budget table output) (right_ending image ph budget (length output))

-- ---- the third sham: the first part of an application expanded, the others copied

copied-units : (ruled copies_others applied 0 32 words room).answer.units ≡ 8
unfolding applied words room ruled copies_others
copied-units = refl

pub copying_the_others_is_rejected : MeetsExpand (ruled copies_others) → ⊥
copying_the_others_is_rejected meets = clash (sym copied-units ∙ units-are (ruled copies_others) meets applied applied_call ∙ applied_units)
  where
    clash : ◌≡◌ {A = ℕ} 8 12 → ⊥
    clash q = omega arith

-- and by what it writes, whatever the units: both answer 0, and the second function is written as it was given
pub copied-code : (ruled copies_others doubled 0 32 words room).answer.code ≡ 0
unfolding doubled words room ruled copies_others
copied-code = refl

copied-length : length (image_written (ruled copies_others doubled 0 32 words room)) ≡ 58
unfolding doubled words room ruled copies_others image_written
copied-length = refl

pub copying_the_others_writes_another_image : image_written (ruled copies_others doubled 0 32 words room) ≡ image_written (expanded doubled) → ⊥
copying_the_others_writes_another_image e = clash (sym copied-length ∙ ap length e ∙ doubled_length)
  where
    clash : ◌≡◌ {A = ℕ} 58 64 → ⊥
    clash q = omega arith

pub writing_copies_is_rejected : (f : Expanding) → WritesCopies f → MeetsExpand f → ⊥
writing_copies_is_rejected f sham meets =
    copying_the_others_writes_another_image
    (sym (sham doubled 0 32 words room doubled_call (code_is f meets doubled doubled_call doubled_code)) ∙ image-is f meets doubled doubled_call)

-- so too where the others' units are charged: here they are the right ones, and the image is another
paid-units : (ruled copies_paid doubled 0 32 words room).answer.units ≡ 18
unfolding doubled words room ruled copies_paid
paid-units = refl

paid-length : length (image_written (ruled copies_paid doubled 0 32 words room)) ≡ 62
unfolding doubled words room ruled copies_paid image_written
paid-length = refl

pub copied_for_the_right_units : (ruled copies_paid doubled 0 32 words room).answer.units ≡ (expanded doubled).answer.units
copied_for_the_right_units = paid-units ∙ sym doubled_units

pub charging_and_copying_is_rejected : MeetsExpand (ruled copies_paid) → ⊥
charging_and_copying_is_rejected meets =
    clash (sym paid-length ∙ ap length (image-is (ruled copies_paid) meets doubled doubled_call) ∙ doubled_length)
  where
    clash : ◌≡◌ {A = ℕ} 62 64 → ⊥
    clash q = omega arith

-- ---- a fresh name not advanced: the image has no made name

stale_image : get_or (image_written (ruled stale_names identity 0 32 words room)) 4 0 ≡ 0
unfolding identity words room ruled stale_names image_written
stale_image = refl

pub stale_names_are_rejected : MeetsExpand (ruled stale_names) → ⊥
stale_names_are_rejected meets = clash (sym stale_image ∙ ap (λ (l : List ℕ). get_or l 4 0) (image-is (ruled stale_names) meets identity identity_call ∙ identity_image))
  where
    clash : ◌≡◌ {A = ℕ} 0 1 → ⊥
    clash q = omega arith

-- and by condition 3: its binding's target is no declared name, so what is written cannot be read
stale_code : (ruled stale_names identity 0 32 words room).answer.code ≡ 0
unfolding identity words room ruled stale_names
stale_code = refl

stale_unread : read_image read_syntax (image_written (ruled stale_names identity 0 32 words room)) ≡ fault layout
unfolding identity words room ruled stale_names image_written read_image read_syntax
stale_unread = refl

pub stale_names_break_condition_3 : Condition3Of (ruled stale_names) → ⊥
stale_names_break_condition_3 holds =
    let o = holds identity 32 words room identity_call stale_code in
    fault≢got layout o.result [] (sym stale_unread ∙ o.result-is)

-- ---- a body without its binder's scope: its x has no meaning

bare_code : (ruled bare_bodies identity 0 32 words room).answer.code ≡ 7
unfolding identity words room ruled bare_bodies
bare_code = refl

pub bare_bodies_are_rejected : MeetsExpand (ruled bare_bodies) → ⊥
bare_bodies_are_rejected meets =
    clash (sym bare_code ∙ ap (λ (z : Result). z.answer.code) (as_defined (ruled bare_bodies) meets identity identity_call) ∙ identity_code)
  where
    clash : ◌≡◌ {A = ℕ} 7 0 → ⊥
    clash q = omega arith

-- ---- an identifier answered with itself: it keeps the scope of the inner binder

own_length : (ruled own_identifiers nested 0 32 words room).answer.len ≡ 60
unfolding nested words room ruled own_identifiers
own_length = refl

pub own_identifiers_are_rejected : MeetsExpand (ruled own_identifiers) → ⊥
own_identifiers_are_rejected meets =
    clash (sym own_length ∙ ap (λ (z : Result). z.answer.len) (as_defined (ruled own_identifiers) meets nested nested_call) ∙ nested_length)
  where
    clash : ◌≡◌ {A = ℕ} 60 59 → ⊥
    clash q = omega arith
