-- The ways in which a job ends.
use Prim.Native.Nat.{ℕ, ◌≤◌, ◌<◌}
use mathlib.Core.Path.{◌≡◌, refl, sym, ap, ◌∙◌}
use mathlib.Core.List.{List, ◌++◌}
use mathlib.Core.Logic.{◌⊎◌, inl, inr}
use mathlib.Core.Bool.{Bool, true, false, ◌&&◌}
use native.Mathlib.Omega.{arith}
use lib.ListN.{length, take, drop, length-append}
use lib.Seq.{take_at}
use lib.Dec.{leb}
use borrow.Author.Tests.{le-leb, lt-leb}
use Rattle.model.specs.Limits.{most_image}
use Rattle.model.specs.Refusals.{too_long}
use Rattle.model.specs.Jobs as m
use Rattle.model.specs.Jobs.{fitted, output_after}
use Rattle.model.specs.Competing.{no_rivals}
use Rattle.refusals.specs.Refusing.{refusal_of}
use Rattle.store.specs.declared.rivals.Rivals.{Rivals}
use Rattle.store.specs.Rivalry.{rivals_of}
use Rattle.refusals.specs.declared.Refusal.{Refusal}
use Rattle.refusals.specs.declared.Refusal.TheVariants as refusal
use Rattle.finish.specs.declared.Ending.TheVariants.{Refused, Stopped, Written}
use Rattle.finish.specs.Ends.{EndsAs}

-- a refusal leaves the output untouched
pub ends-refused : {e : m.Ending} {f : Refusal} {u : ℕ} (out : List ℕ) → e ≡ m.refused (refusal_of f) no_rivals u → EndsAs e out out (Refused f u)
unfolding output_after
ends-refused out q = record { is = sym q; left = sym (ap (λ (x : m.Ending). output_after x out) q); inside = omega arith; short = omega arith }

pub ends-stopped : {e : m.Ending} {f : Refusal} {p : Rivals} {u : ℕ} (out : List ℕ) → e ≡ m.refused (refusal_of f) (rivals_of p) u → EndsAs e out out (Stopped f p u)
unfolding output_after
ends-stopped out q = record { is = sym q; left = sym (ap (λ (x : m.Ending). output_after x out) q); inside = omega arith; short = omega arith }

pub and_no : (a : Bool) → (a && false) ≡ false
and_no true = refl
and_no false = refl

module _ (b out : List ℕ) (u : ℕ) where
  fitted-is : length b ≤ length out → length b ≤ 65536 → fitted (length out) b u ≡ m.written b u
  unfolding fitted most_image
  fitted-is h k = rw (le-leb (length b) (length out) h, le-leb (length b) 65536 k)

  fitted-not : (length out < length b) ⊎ (65536 < length b) → fitted (length out) b u ≡ m.refused too_long no_rivals u
  unfolding fitted most_image
  fitted-not (inl h) = rw (lt-leb (length b) (length out) h)
  fitted-not (inr h) = rw (lt-leb (length b) 65536 h, and_no (leb (length b) (length out)))

  pub ends_too_long : (length out < length b) ⊎ (65536 < length b) → EndsAs (fitted (length out) b u) out out (Refused refusal.TooLong u)
  ends_too_long h = ends-refused out (fitted-not h)

  pub ends-written : {n : ℕ} {out' : List ℕ} → n ≡ length b → length b ≤ length out → length b ≤ 65536 → out' ≡ b ++ drop (length b) out → EndsAs (fitted (length out) b u) out out' (Written n u)
  unfolding output_after
  ends-written {n} {out'} q h k o =
      let e = fitted-is h k in
      let long = ap length o ∙ length-append b (drop (length b) out) in
      record {
        is = ap (λ (x : List ℕ). m.written x u) (ap (take n) o ∙ take_at b (drop (length b) out) n (sym q)) ∙ sym e;
        left = o ∙ sym (ap (λ (x : m.Ending). output_after x out) e);
        inside = omega arith;
        short = omega arith;
      }
