-- Units never rise, and fall at each entry; names are never given back: of evaluating, parsing and expanding. Two uses of the one walk.
use mathlib.Core.Path.{◌≡◌, refl, sym, ap, subst}
use Prim.Native.Nat.{ℕ, zero, suc, ◌-◌, ◌≤◌, ◌<◌}
use native.Mathlib.Nat.{le_refl, le_trans, sub-le}
use native.Mathlib.Omega.{arith}
use mathlib.Core.Bool.{Bool, true, false}
use lib.Dec.{leb, ltb}
use lib.ListN.{length}
use Rattle.model.specs.Limits.{most_names, most_scopes, most_bindings}
use Rattle.model.specs.Refusals.{Refusal, too_many_entries}
use Rattle.model.specs.Choice.{when◌then◌else◌}
use Rattle.model.specs.Scopes.{Scopes, no_scopes}
use Rattle.model.specs.Objects.{set_at, Stx}
use Rattle.model.specs.Trees.{Tree}
use Rattle.model.specs.Resolving.{Found, means, several, resolve}
use Rattle.model.specs.Competing.{Rivals, rivals}
use Rattle.model.specs.Meanings.{Surroundings, Place}
use Rattle.model.specs.Steps.{State, Out, ok, no, Step, after, charge, fresh_name, fresh_scope, carrying, prunable_now, uses_now, use_scope, inside, bind, name_of, resolve_at}
use Rattle.model.specs.Evaluating.{eval_entry}
use Rattle.model.specs.Parsing.{parse_entry, parse}
use Rattle.model.specs.Expanding.{expand_entry, expand, evaluate}
use Rattle.laws.proofs.StepLaws.{no≢ok, both_ok, spend, charge-ok}
use Rattle.laws.proofs.Walk.{Walkable, Resolves, Makes, eval_entry_walks, evaluate_walks, apply_local_walks, parse_entry_walks, parse_walks, expand_entry_walks, expand_walks}

-- ---- units

-- the units left after a step, granted or refused
unfoldable pub left_of : {A : Type 0} → Out A → ℕ
left_of (ok a t) = t.left
left_of (no r p u) = u

-- a step that leaves at most the units that it had
abbrev pub UnitsFall : (A : Type 0) → Step A → Type 0
UnitsFall A m = (s : State) → left_of (m s) ≤ s.left

after-left : {A B : Type 0} (o : Out A) (f : A → Step B) (n : ℕ) → left_of o ≤ n → ((a : A) → UnitsFall B (f a)) → left_of (after o f) ≤ n
unfolding left_of
after-left (ok a t) f n h k = le_trans (k a t) h
after-left (no r p u) f n h k = h

-- both ways of a test leave at most n
choice_left : {A : Type 0} (b : Bool) (x y : Out A) (n : ℕ) → left_of x ≤ n → left_of y ≤ n → left_of (when b then x else y) ≤ n
choice_left true x y n h k = h
choice_left false x y n h k = k

named-left : (p : Rivals) (f : Found) → UnitsFall ℕ (name_of p f)
unfolding name_of left_of
named-left p (means n) s = le_refl s.left
named-left p several s = le_refl s.left

pub units_fall : Walkable UnitsFall
unfolding left_of charge
units_fall = record {
  in_turn = λ m f h k s. after-left (m s) f s.left (h s) k;
  of_done = λ a s. le_refl s.left;
  of_refuse = λ r h s. le_refl s.left;
  of_charge = λ n s. choice_left (leb n s.left) _ _ s.left (sub-le s.left n) (le_refl s.left);
}

units-resolving : Resolves UnitsFall
unfolding left_of resolve_at
units-resolving ph c x s = named-left (rivals x (set_at ph c) s.binds) (resolve x (set_at ph c) s.binds) s

-- the prunable set put back, whatever it was
put_back_left : {A : Type 0} (o : Out A) (p u : Scopes) → left_of (after o (λ a t. ok a (carrying p u t))) ≡ left_of o
unfolding left_of carrying
put_back_left (ok a t) p u = refl
put_back_left (no r q v) p u = refl

units_making : Makes UnitsFall
unfolding left_of fresh_name fresh_scope bind prunable_now uses_now use_scope inside carrying
units_making = record {
  of_fresh_name = λ s. choice_left (ltb s.names most_names) _ _ s.left (le_refl s.left) (le_refl s.left);
  of_fresh_scope = λ s. choice_left (ltb s.scopes most_scopes) _ _ s.left (le_refl s.left) (le_refl s.left);
  of_bind = λ b s. choice_left (ltb (length s.binds) most_bindings) _ _ s.left (le_refl s.left) (le_refl s.left);
  of_prunable_now = λ s. le_refl s.left;
  of_uses_now = λ s. le_refl s.left;
  of_use_scope = λ k s. le_refl s.left;
  of_inside = λ f m h s. subst (λ (n : ℕ). n ≤ s.left) (sym (put_back_left (m (carrying (f s.prunable) no_scopes s)) s.prunable s.uses)) (h (carrying (f s.prunable) no_scopes s));
}

-- ---- names

-- the names reached after a step that is granted; n where it is refused
unfoldable pub names_of : {A : Type 0} → Out A → ℕ → ℕ
names_of (ok a t) n = t.names
names_of (no r p u) n = n

-- a step that leaves at least the names that it had
abbrev pub NamesStay : (A : Type 0) → Step A → Type 0
NamesStay A m = (s : State) → s.names ≤ names_of (m s) s.names

names_since : {B : Type 0} (o : Out B) (n k : ℕ) → n ≤ k → k ≤ names_of o k → n ≤ names_of o n
unfolding names_of
names_since (ok b u) n k h j = le_trans h j
names_since (no r p u) n k h j = le_refl n

after-names : {A B : Type 0} (o : Out A) (f : A → Step B) (n : ℕ) → n ≤ names_of o n → ((a : A) → NamesStay B (f a)) → n ≤ names_of (after o f) n
unfolding names_of
after-names (ok a t) f n h k = names_since (f a t) n t.names h (k a t)
after-names (no r p u) f n h k = h

choice_names : {A : Type 0} (b : Bool) (x y : Out A) (n : ℕ) → n ≤ names_of x n → n ≤ names_of y n → n ≤ names_of (when b then x else y) n
choice_names true x y n h k = h
choice_names false x y n h k = k

named-names : (p : Rivals) (f : Found) → NamesStay ℕ (name_of p f)
unfolding name_of names_of
named-names p (means n) s = le_refl s.names
named-names p several s = le_refl s.names

pub names_stay : Walkable NamesStay
unfolding names_of charge
names_stay = record {
  in_turn = λ m f h k s. after-names (m s) f s.names (h s) k;
  of_done = λ a s. le_refl s.names;
  of_refuse = λ r h s. le_refl s.names;
  of_charge = λ n s. choice_names (leb n s.left) _ _ s.names (le_refl s.names) (le_refl s.names);
}

names-resolving : Resolves NamesStay
unfolding names_of resolve_at
names-resolving ph c x s = named-names (rivals x (set_at ph c) s.binds) (resolve x (set_at ph c) s.binds) s

put_back_names : {A : Type 0} (o : Out A) (p u : Scopes) (n : ℕ) → names_of (after o (λ a t. ok a (carrying p u t))) n ≡ names_of o n
unfolding names_of carrying
put_back_names (ok a t) p u n = refl
put_back_names (no r q v) p u n = refl

names_making : Makes NamesStay
unfolding names_of fresh_name fresh_scope bind prunable_now uses_now use_scope inside carrying
names_making = record {
  of_fresh_name = λ s. choice_names (ltb s.names most_names) _ _ s.names (omega arith) (le_refl s.names);
  of_fresh_scope = λ s. choice_names (ltb s.scopes most_scopes) _ _ s.names (le_refl s.names) (le_refl s.names);
  of_bind = λ b s. choice_names (ltb (length s.binds) most_bindings) _ _ s.names (le_refl s.names) (le_refl s.names);
  of_prunable_now = λ s. le_refl s.names;
  of_uses_now = λ s. le_refl s.names;
  of_use_scope = λ k s. le_refl s.names;
  of_inside = λ f m h s. subst (λ (n : ℕ). s.names ≤ n) (sym (put_back_names (m (carrying (f s.prunable) no_scopes s)) s.prunable s.uses s.names)) (h (carrying (f s.prunable) no_scopes s));
}

-- ---- both, of the three

-- a step that leaves at most the units, and at least the names, that it had
pub record NoRise {A : Type 0} (m : Step A) : Type 0 where
  pub at_most : UnitsFall A m
  pub names-from : NamesStay A m

pub evaluate_no_rise : (d : ℕ) (place : Place) (t : Tree) → NoRise (evaluate d place t)
evaluate_no_rise d place t =
    record { at_most = evaluate_walks UnitsFall units_fall units-resolving units_making d place t; names-from = evaluate_walks NamesStay names_stay names-resolving names_making d place t }

pub parse_no_rise : (d ph : ℕ) (x : Stx) → NoRise (parse d ph x)
parse_no_rise d ph x = record { at_most = parse_walks UnitsFall units_fall units-resolving d ph x; names-from = parse_walks NamesStay names_stay names-resolving d ph x }

pub expand_no_rise : (d : ℕ) (here : Surroundings) (x : Stx) → NoRise (expand d here x)
expand_no_rise d here x =
    record { at_most = expand_walks UnitsFall units_fall units-resolving units_making d here x; names-from = expand_walks NamesStay names_stay names-resolving names_making d here x }

-- ---- an entry that succeeds costs at least one unit

-- what starts with the charge of an entry
entry_falls : {A : Type 0} (m : Step A) → UnitsFall A m → (a : A) (s t : State) → after (charge 1 s) (λ u. m) ≡ ok a t → t.left < s.left
unfolding left_of spend
entry_falls {A = A} m h a s t e =
    let g = both_ok (charge 1 s) (λ u. m) a t e in
    let c = charge-ok 1 g.0 s g.1 g.2 in
    let left_is : g.1.left ≡ s.left - 1 = sym (ap (λ (x : State). x.left) c.1) in
    let most : left_of (ok a t) ≤ g.1.left = subst (λ (o : Out A). left_of o ≤ g.1.left) g.3 (h g.1) in
    omega (arith, c.0, left_is, most)

pub evaluate-falls : (d : ℕ) (place : Place) (x v : Tree) (s t : State) → evaluate d place x s ≡ ok v t → t.left < s.left
unfolding evaluate
evaluate-falls zero place x v s t e = absurd (no≢ok too_many_entries s.left v t e)
evaluate-falls (suc d) place x v s t e =
    entry_falls (eval_entry (λ there y. evaluate d there y) (λ there y. expand d there y) place x)
    (eval_entry_walks UnitsFall units_fall (λ there y. evaluate d there y) (λ there y. expand d there y) place
    (λ y. evaluate_walks UnitsFall units_fall units-resolving units_making d place y)
    (apply_local_walks UnitsFall units_fall units-resolving units_making (λ there y. expand d there y) (λ there y. expand_walks UnitsFall units_fall units-resolving units_making d there y) place) x) v s t e

pub parse-falls : (d ph : ℕ) (x : Stx) (r : Tree) (s t : State) → parse d ph x s ≡ ok r t → t.left < s.left
unfolding parse
parse-falls zero ph x r s t e = absurd (no≢ok too_many_entries s.left r t e)
parse-falls (suc d) ph x r s t e =
    entry_falls (parse_entry (λ y. parse d ph y) ph x) (parse_entry_walks UnitsFall units_fall units-resolving (λ y. parse d ph y) (λ y. parse_walks UnitsFall units_fall units-resolving d ph y) ph x) r s t e

pub expand-falls : (d : ℕ) (here : Surroundings) (x r : Stx) (s t : State) → expand d here x s ≡ ok r t → t.left < s.left
unfolding expand
expand-falls zero here x r s t q = absurd (no≢ok too_many_entries s.left r t q)
expand-falls (suc d) here x r s t q =
    entry_falls (expand_entry (λ there y. expand d there y) (λ there y. evaluate d there y) d here x)
    (expand_entry_walks UnitsFall units_fall units-resolving units_making
    (λ there y. expand d there y) (λ there y. expand_walks UnitsFall units_fall units-resolving units_making d there y)
    (λ there y. evaluate d there y) (λ there y. evaluate_walks UnitsFall units_fall units-resolving units_making d there y) d here x) r s t q

-- ---- of a step that is granted, and of one that is refused

pub names-after : {A : Type 0} (m : Step A) → NoRise m → (a : A) (s t : State) → m s ≡ ok a t → s.names ≤ t.names
unfolding names_of
names-after {A = A} m h a s t e = subst (λ (o : Out A). s.names ≤ names_of o s.names) e (h.names-from s)

pub left_after_refusal : {A : Type 0} (m : Step A) → NoRise m → (r : Refusal) {p : Rivals} (u : ℕ) (s : State) → m s ≡ no r p u → u ≤ s.left
unfolding left_of
left_after_refusal {A = A} m h r u s e = subst (λ (o : Out A). left_of o ≤ s.left) e (h.at_most s)
