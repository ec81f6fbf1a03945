-- Things read one after another, gathered as they are read: one law for each way on, whatever the things are. And the place of a loop that
-- does so.
use Prim.Native.Nat.{ℕ, ◌+◌, ◌-◌, ◌≤◌, ◌<◌}
use mathlib.Core.Path.{◌≡◌, refl, sym, ap, ◌∙◌}
use mathlib.Core.List.{List, [], ◌∷◌}
use native.Mathlib.Omega.{arith}
use lib.ListN.{length, drop, length-drop}
use lib.Seq.{drop-drop}
use Rattle.std.specs.Prelude.{Ok, Err}
use Rattle.model.specs.Refusals as m
use Rattle.model.specs.Reading.{Read, Reader, got, fault, next, give}
use Rattle.refusals.specs.Refusing.{refusal_of}
use Rattle.refusals.specs.declared.Refusal.{Refusal}
use Rattle.refusals.proofs.Cases.{case_back}
use Rattle.numbers.specs.Answers.{read_at, kept}
use Rattle.numbers.specs.declared.Cursor.{Cursor}

-- `one` reads a thing, knowing what `step` keeps of the thing before; `many` reads so many; `f a` is what comes of a list, where `a` was
-- gathered before it
module _ {X S A : Type 0} (one : S → Reader X) (many : ℕ → S → Reader (List X)) (step : X → S) (f : A → List X → A) (add : A → X → A)
    (many-none : (k : S) (s : List ℕ) → many 0 k s ≡ got [] s)
    (many_more : (n : ℕ) (k : S) (s : List ℕ) → 0 < n → many n k s ≡ next (one k s) (λ x t. next (many (n - 1) (step x) t) (λ l. give (x ∷ l))))
    (f-none : (a : A) → f a [] ≡ a) (f-more : (a : A) (x : X) (l : List X) → f a (x ∷ l) ≡ f (add a x) l) where
  more_of : (a : A) (x : X) (g : Read (List X)) → kept (f a) (next g (λ l. give (x ∷ l))) ≡ kept (f (add a x)) g
  more_of a x (got l rest) = ap (λ (b : A). got b rest) (f-more a x l)
  more_of a x (fault c) = refl

  pub several-none : (a : A) (n : ℕ) (k : S) (s : List ℕ) → n ≤ 0 → kept (f a) (many n k s) ≡ got a s
  several-none a n k s h = let e : n ≡ 0 = omega arith in rw (e, many-none k s) (ap (λ (b : A). got b s) (f-none a))

  module _ (a : A) (n : ℕ) (k : S) (s : List ℕ) (h : 0 < n) where
    pub several-more : {x : X} {rest : List ℕ} → one k s ≡ got x rest → kept (f a) (many n k s) ≡ kept (f (add a x)) (many (n - 1) (step x) rest)
    several-more {x} {rest} e = rw (many_more n k s h, e) (more_of a x (many (n - 1) (step x) rest))

    pub several-stops : {c : m.Refusal} → one k s ≡ fault c → kept (f a) (many n k s) ≡ fault c
    several-stops e = rw (many_more n k s h, e) refl

-- ---- a loop along s, which is at `at`: what comes of all is what comes of the rest
pub record Midway {A : Type 0} (at : ℕ) (s : List ℕ) (here : ℕ) (whole ahead : Read A) : Type 0 where
  pub moved : at ≤ here
  pub within : here ≤ at + length s
  pub is : whole ≡ ahead

module _ {A : Type 0} {at : ℕ} {s : List ℕ} {here : ℕ} {whole ahead : Read A} (w : Midway at s here whole ahead) where
  pub left-long : length (drop (here - at) s) ≡ at + length s - here
  left-long = let l = length-drop (here - at) s in omega (arith, w.moved, w.within)

  module _ {u : List ℕ} (i : u ≡ drop (here - at) s) where
    pub ends_same : here + length u ≡ at + length s
    ends_same = let l = ap length i ∙ left-long in omega (arith, w.moved, w.within)

    pub behind-same : {past : ℕ} → here ≤ past → drop (past - here) u ≡ drop (past - at) s
    behind-same {past} h =
        let z : here - at + (past - here) ≡ past - at = omega (arith, w.moved) in
        ap (drop (past - here)) i ∙ drop-drop (past - here) (here - at) s ∙ ap (λ (n : ℕ). drop n s) z

    pub going : {past : ℕ} {ahead' : Read A} → here ≤ past → past ≤ here + length u → ahead ≡ ahead' → Midway at s past whole ahead'
    going h k e = record { moved = omega (arith, w.moved); within = let y = ends_same in omega arith; is = w.is ∙ e }

-- ---- the answer at the end, and at a fault

module _ {A : Type 0} {at : ℕ} {s : List ℕ} {whole ahead : Read A} where
  pub answered : {here : Cursor} {a : A} → Midway at s here.at whole ahead → ahead ≡ got a (drop (here.at - at) s) → Ok (a, here) ≡ read_at (at + length s) whole
  answered {here} w e =
      let p : at + length s - length (drop (here.at - at) s) ≡ here.at = let l = left-long w in omega (arith, w.within) in
      rw (w.is, e, p)

  pub stopped : {here : ℕ} {f : Refusal} → Midway at s here whole ahead → ahead ≡ fault (refusal_of f) → Err f ≡ read_at (at + length s) whole
  stopped {f = f} w e = rw (w.is, e) (ap (λ (r : Refusal). Err r) (sym (case_back f)))
