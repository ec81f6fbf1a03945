-- The job: one law for each way out.
use Prim.Native.Nat.{ℕ, ◌+◌, ◌-◌, ◌≤◌, ◌<◌}
use mathlib.Core.Path.{◌≡◌, refl, sym, ap, ◌∙◌, subst}
use mathlib.Core.Bool.{Bool, true, false, ◌&&◌}
use mathlib.Core.List.{List, [], ◌∷◌, ◌++◌, append_assoc}
use mathlib.Core.Option.{none}
use native.Mathlib.Omega.{arith}
use lib.ListN.{length}
use Rattle.model.specs.Choice.{when◌then◌else◌}
use Rattle.model.specs.Limits.{core_names}
use Rattle.model.specs.Refusals.{over_limit}
use Rattle.model.specs.Reading.{core_words}
use Rattle.model.specs.Writing.{num_bytes, words_bytes, head_bytes, binds_bytes}
use Rattle.laws.proofs.Tests.{and_both}
use Rattle.requests.specs.Tokens.{Token, tokens}
use Rattle.requests.specs.FromText.{base, refused, judged, met, all_fit}
use Rattle.requests.specs.TextJobs.{TextEnding, fitted, read_ending}
use Rattle.text_laws.specs.Passes.{token_bytes, head_of, passes_within, passes_bytes, after_faults, read_passes}
use Rattle.text_laws.proofs.JobLaws.{read_as_passes}
use Rattle.refusals.specs.declared.Refusal.TheVariants.{TooLong}
use Rattle.text.specs.Placing.{Placed}
use Rattle.text.proofs.Placing.{placed-length}
use Rattle.text_endings.specs.declared.TextRefusal.{TextRefusal}
use Rattle.text_endings.specs.declared.TextRefusal.TheVariants.{Base}
use Rattle.std.specs.Prelude.{Result, Ok, Err}
use Rattle.refusals.specs.declared.Refusal.{Refusal}
use Rattle.text_reader.specs.declared.judging.Fault.{Fault}
use Rattle.text_reader.specs.Judging.{fault_of, Judges}
use Rattle.text_reader.specs.Found.{found}
use Rattle.text_reader.specs.Limiting.{WordsMet, LimitedAs, Limited}
use Rattle.text_reader.specs.Items.{Sound}
use Rattle.text_endings.specs.Ending.{Room, Measured, Ends}
use Rattle.text_endings.proofs.EndLaws.{room_small, len-fits, ends-refused, there_is_room, ends_too_long, ends-written}
use Rattle.text_reader.specs.Writing.{head_from, image_from, ImageRoom}
use Rattle.text_reader.specs.Job.{Writes, Reads}

-- ---- code 20, or the image

module _ {text spans : List ℕ} {n : ℕ} {out : List ℕ} {room len : ℕ} (r : Room (length out) room) (m : Measured (image_from text spans n) room len) where
  pub image_too_long : room < len → Writes text spans n out out (Err (Base TooLong))
  image_too_long h = record { ends = ends_too_long r m h }

  module _ (h : len ≤ room) where
    pub image-room : Sound text spans n 0 → ImageRoom out text spans n
    image-room s = let f = there_is_room r m h in record { sound = s; short = f.1; room = f.0 }

    pub image-written : {out' : List ℕ} {p : ℕ} → Placed out 0 (image_from text spans n) out' p → Writes text spans n out out' (Ok len)
    image-written w = record { ends = ends-written r m h w.is }

pub ruleset write_laws = (room_small, len-fits, image_too_long, image-room, image-written, placed-length)

-- ---- code 2, or what comes after the limits

no_zeros : num_bytes 0 ≡ 0 ∷ []
unfolding num_bytes
no_zeros = refl

no-binds : binds_bytes [] ≡ []
unfolding binds_bytes
no-binds = refl

-- three counts of nothing
regroup : (a b c d : List ℕ) → (a ++ (b ++ (c ++ (0 ∷ 0 ∷ 0 ∷ [])))) ++ d ≡ ((((((a ++ b) ++ c) ++ (0 ∷ [])) ++ (0 ∷ [])) ++ (0 ∷ [])) ++ []) ++ d
regroup a b c d = simp append_assoc

-- the image of the passes is that which the code writes
image-is : (ts : List Token) (ws : List (List ℕ)) → ws ≡ met core_words ts → head_from ws ++ token_bytes (core_words ++ ws) ts ≡ passes_bytes ts
unfolding passes_bytes head_of head_bytes core_names
image-is ts ws e =
    ap (λ (l : List (List ℕ)). head_from l ++ token_bytes (core_words ++ l) ts) e
    ∙ zeros (met core_words ts)
  where
    zeros : (l : List (List ℕ)) → head_from l ++ token_bytes (core_words ++ l) ts
        ≡ ((((num_bytes 1 ++ num_bytes (length l)) ++ words_bytes l) ++ num_bytes (4 + length l - 4 - length l)) ++ num_bytes 0) ++ num_bytes 0 ++ binds_bytes [] ++ token_bytes (core_words ++ l) ts
    zeros l =
        let z : 4 + length l - 4 - length l ≡ 0 = omega arith in
        rw (z, no_zeros, no-binds) (regroup (num_bytes 1) (num_bytes (length l)) (words_bytes l) (token_bytes (core_words ++ l) ts))

within-fits : (ts : List Token) → passes_within ts ≡ true → all_fit ts ≡ true
unfolding passes_within
within-fits ts e = (and_both (all_fit ts) _ (and_both (all_fit ts && _) _ e).0).0

module _ (text out : List ℕ) (clean : judged 0 false (tokens text) ≡ none) where
  after : (b : Bool) → passes_within (tokens text) ≡ b
      → read_ending text (length out) ≡ (when b then fitted (length out) (passes_bytes (tokens text)) else refused (base over_limit))
  unfolding read_passes after_faults
  after b e = read_as_passes text (length out) ∙ rw (clean, e)

module _ {text spans : List ℕ} {r : Result ℕ Refusal} (h : Limited text spans r) where
  pub job_over : {out : List ℕ} → judged 0 false (tokens text) ≡ none → {f : Refusal} → r ≡ Err f → Reads text out out (Err (Base f))
  job_over {out} clean {f} e =
      let a = subst (LimitedAs text spans) e h.is in
      ends-refused (Base f) (rw a.0 (after text out clean false a.1))

  module _ {n : ℕ} (e : r ≡ Ok n) where
    met_all : WordsMet text spans n
    met_all = subst (LimitedAs text spans) e h.is

    pub job_sound : Sound text spans n 0
    job_sound = record { within = omega arith; stored = met_all.stored; fits = within-fits (tokens text) met_all.within }

    pub job_written : {out out' : List ℕ} {q : Result ℕ TextRefusal} → judged 0 false (tokens text) ≡ none → Writes text spans n out out' q → Reads text out out' q
    job_written {out} {out'} {q} clean w =
        subst (λ (z : TextEnding). Ends z out out' q)
        (ap (fitted (length out)) (image-is (tokens text) (found text spans n) met_all.words) ∙ sym (after text out clean true met_all.within)) w.ends

pub ruleset limited_laws = (job_over, job_sound, job_written)

-- ---- 26 and 27

module _ {text : List ℕ} {r : Result (Unit {0}) Fault} (h : Judges text r) where
  pub job_fault : {out : List ℕ} {f : Fault} → r ≡ Err f → Reads text out out (Err f.refusal)
  unfolding read_passes after_faults
  job_fault {out} {f} e = ends-refused f.refusal (read_as_passes text (length out) ∙ rw (sym h.is ∙ ap fault_of e))

  pub job_fine : {u : Unit {0}} → r ≡ Ok u → judged 0 false (tokens text) ≡ none
  job_fine e = sym h.is ∙ ap fault_of e

pub ruleset judged_laws = (job_fault, job_fine)
