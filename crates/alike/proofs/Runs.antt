-- Two runs side by side. From states that belong together either both are refused by the same code with the same units left, or both give results
-- alike and states that belong together. Which bindings compete (T-04) is free on each side, since it goes by image order.
use mathlib.Core.Path.{◌≡◌, ap, subst}
use Prim.Native.Nat.{ℕ}
use mathlib.Core.Bool.{Bool, true, false, true≢false, false≢true}
use lib.Dec.{leb}
use Rattle.model.specs.Choice.{when◌then◌else◌}
use Rattle.model.specs.Refusals.{Refusal, ambiguous, over_budget}
use Rattle.model.specs.Objects.{Sets, set_at}
use Rattle.model.specs.Resolving.{Found, means, several, resolve}
use Rattle.model.specs.Competing.{Rivals, no_rivals, rivals}
use Rattle.model.specs.Steps.{State, Out, ok, no, Step, after, done, refuse, unless, charge, name_of, resolve_at}
use Rattle.laws.proofs.StepLaws.{spend}
use Rattle.alike.proofs.Alike.{Same, same}

-- which states belong together: they have the same units left, and still belong together after the same charge
pub record Pairing : Type 1 where
  pub rel : State → State → Type 0
  pub left_is : (s t : State) → rel s t → s.left ≡ t.left
  pub spent : (n : ℕ) (s t : State) → rel s t → rel (spend n s) (spend n t)

pub data OutAlike (w : Pairing) {A : Type 0} (R : A → A → Type 0) : Out A → Out A → Type 0 where
  oks : {a b : A} {s t : State} → R a b → w.rel s t → OutAlike w R (ok a s) (ok b t)
  nos : {r : Refusal} {p q : Rivals} {u : ℕ} → OutAlike w R (no r p u) (no r q u)

pub record StepAlike (w : Pairing) {A : Type 0} (R : A → A → Type 0) (m n : Step A) : Type 0 where
  pub run : (s t : State) → w.rel s t → OutAlike w R (m s) (n t)

-- ---- one step after another

pub after_alike : {w : Pairing} {A B : Type 0} {R : A → A → Type 0} {S : B → B → Type 0} {o p : Out A} (f g : A → Step B) → OutAlike w R o p
    → ((a b : A) → R a b → StepAlike w S (f a) (g b)) → OutAlike w S (after o f) (after p g)
after_alike f g (oks {a} {b} {s} {t} r h) k = (k a b r).run s t h
after_alike f g nos k = nos

pub then_alike : {w : Pairing} {A B : Type 0} {R : A → A → Type 0} {S : B → B → Type 0} {m n : Step A} (f g : A → Step B) → StepAlike w R m n
    → ((a b : A) → R a b → StepAlike w S (f a) (g b)) → StepAlike w S (λ s. after (m s) f) (λ s. after (n s) g)
then_alike f g h k = record { run = λ s t i. after_alike f g (h.run s t i) k }

-- the same result
pub then_same : {w : Pairing} {A B : Type 0} {S : B → B → Type 0} {m n : Step A} (f g : A → Step B) → StepAlike w (Same {A = A}) m n
    → ((a : A) → StepAlike w S (f a) (g a)) → StepAlike w S (λ s. after (m s) f) (λ s. after (n s) g)
then_same {w} {A} {B} {S} f g h k = then_alike f g h go
  where
    go : (a b : A) → Same a b → StepAlike w S (f a) (g b)
    go a b same = k a

pub done_alike : {w : Pairing} {A : Type 0} {R : A → A → Type 0} {a b : A} → R a b → StepAlike w R (done a) (done b)
done_alike r = record { run = λ s t h. oks r h }

no_alike : {w : Pairing} {A : Type 0} {R : A → A → Type 0} (c : Refusal) (p q : Rivals) (u v : ℕ) → u ≡ v → OutAlike w R (no c p u) (no c q v)
no_alike {w} {A} {R} c p q u v e = subst (λ (x : ℕ). OutAlike w R (no c p u) (no c q x)) e nos

pub refuse_alike : {w : Pairing} {A : Type 0} {R : A → A → Type 0} (c : Refusal) → StepAlike w R (refuse c) (refuse c)
refuse_alike {w} c = record { run = λ s t h. no_alike c no_rivals no_rivals s.left t.left (w.left_is s t h) }

pub unless_alike : {w : Pairing} (c : Refusal) (x y : Bool) → x ≡ y → StepAlike w (Same {A = Unit {0}}) (unless c x) (unless c y)
unless_alike c true true e = done_alike same
unless_alike c true false e = absurd (true≢false e)
unless_alike c false true e = absurd (false≢true e)
unless_alike c false false e = refuse_alike c

-- ---- units

pub charge_alike : {w : Pairing} (n : ℕ) → StepAlike w (Same {A = Unit {0}}) (charge n) (charge n)
unfolding charge spend
charge_alike {w} n =
    record { run = λ s t h. go s t h (leb n s.left) (leb n t.left) (ap (leb n) (w.left_is s t h)) }
  where
    paid : State → Bool → Out (Unit {0})
    paid s b = when b then ok tt (spend n s) else no over_budget no_rivals s.left

    go : (s t : State) → w.rel s t → (x y : Bool) → x ≡ y → OutAlike w (Same {A = Unit {0}}) (paid s x) (paid t y)
    go s t h true true e = oks same (w.spent n s t h)
    go s t h true false e = absurd (true≢false e)
    go s t h false true e = absurd (false≢true e)
    go s t h false false e = no_alike over_budget no_rivals no_rivals s.left t.left (w.left_is s t h)

pub charges_alike : {w : Pairing} (m n : ℕ) → m ≡ n → StepAlike w (Same {A = Unit {0}}) (charge m) (charge n)
charges_alike {w} m n e = subst (λ (x : ℕ). StepAlike w Same (charge m) (charge x)) e (charge_alike m)

-- a charge, then what is computed
pub charged_alike : {w : Pairing} {A : Type 0} {R : A → A → Type 0} (m n : ℕ) (a b : A) → m ≡ n → R a b
    → StepAlike w R (λ s. after (charge m s) (λ u. done a)) (λ s. after (charge n s) (λ u. done b))
charged_alike m n a b e r = then_same _ _ (charges_alike m n e) (λ u. done_alike r)

-- ---- resolving, where the answers agree

name_alike : {w : Pairing} (p q : Rivals) (f : Found) → StepAlike w (Same {A = ℕ}) (name_of p f) (name_of q f)
unfolding name_of
name_alike p q (means n) = done_alike same
name_alike {w} p q several = record { run = λ s t h. no_alike ambiguous p q s.left t.left (w.left_is s t h) }

pub resolve_at_agree : {w : Pairing} (ph : ℕ) (c d : Sets) (x : ℕ)
    → ((s t : State) → w.rel s t → resolve x (set_at ph c) s.binds ≡ resolve x (set_at ph d) t.binds)
    → StepAlike w (Same {A = ℕ}) (resolve_at ph c x) (resolve_at ph d x)
unfolding resolve_at
resolve_at_agree {w} ph c d x k = record { run = λ s t h. go s t h (k s t h) }
  where
    answer : Sets → State → Found
    answer e s = resolve x (set_at ph e) s.binds

    told : Sets → State → Rivals
    told e s = rivals x (set_at ph e) s.binds

    go : (s t : State) → w.rel s t → answer c s ≡ answer d t
        → OutAlike w Same (name_of (told c s) (answer c s) s) (name_of (told d t) (answer d t) t)
    go s t h e =
        subst (λ (f : Found). OutAlike w Same (name_of (told c s) (answer c s) s) (name_of (told d t) f t)) e
        ((name_alike (told c s) (told d t) (answer c s)).run s t h)
