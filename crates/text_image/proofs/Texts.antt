-- The image and the fault lie within the bytes that they are shown from.
use Prim.Native.Nat.{ℕ, ◌≤◌}
use mathlib.Core.Path.{◌≡◌, sym, subst}
use mathlib.Core.List.{List}
use native.Mathlib.Omega.{arith}
use lib.ListN.{length, take, replicate, length-append, length-replicate}
use lib.Seq.{length-take-le}
use Rattle.std.specs.Prelude.{Result, Err}
use Rattle.requests.specs.FromText.{made, refused}
use Rattle.requests.specs.TextJobs.{TextEnding, TextResult, text_answer, output_after_text, text_result, read_ending, read_job}
use Rattle.text_reader.specs.declared.judging.Fault.{Fault}
use Rattle.text_reader.specs.Judging.{place_of, Judges}
use Rattle.tokens.proofs.NextLaws.{from-within}

-- ---- the text

pub room-long : 1048577 ≡ length (replicate {A = ℕ} 1048577 0)
room-long = sym (length-replicate {A = ℕ} 1048577 0)

pub front_long : (s : List ℕ) (n : ℕ) → n ≤ length s → n ≡ length (take n s)
front_long s n h = sym (length-take-le n s h)

-- ---- the image

ending-within : (e : TextEnding) (output : List ℕ) → (text_result e output).answer.len ≤ length (text_result e output).output
unfolding text_result text_answer output_after_text
ending-within (refused r) output = omega arith
ending-within (made b) output = simp length-append (omega arith)

module _ (text out : List ℕ) {out' : List ℕ} {code units name len first second : ℕ}
    (e : record { answer = record { code = code; units = units; name = name; len = len; first = first; second = second }; output = out' } ≡ read_job text out) where
  pub image-within : len ≤ length out'
  unfolding read_job
  image-within = subst (λ (z : TextResult). z.answer.len ≤ length z.output) (sym e) (ending-within (read_ending text (length out)) out)

  pub image-long : len ≡ length (take len out')
  image-long = front_long out' len image-within

-- ---- the fault

pub fault-within : {text : List ℕ} {r : Result (Unit {0}) Fault} → Judges text r → {f : Fault} → r ≡ Err f → f.at ≤ length text
fault-within {text} h e = subst (λ (z : Result (Unit {0}) Fault). place_of z ≤ length text) e h.inside

pub ruleset text_laws = (front_long, image-within, image-long, fault-within, from-within)
