-- What the equations that the public functions meet say of condition 3.
use Prim.Native.Nat.{ℕ, suc, ◌≤◌, ◌<◌}
use mathlib.Core.Path.{◌≡◌, sym, ap, ◌∙◌, subst}
use mathlib.Core.Bool.{true}
use mathlib.Core.List.{List, [], ◌∷◌}
use lib.ListN.{length, get_or, take, drop}
use Rattle.model.specs.Writing.{tree_image_bytes}
use Rattle.model.specs.Jobs.{Ending, written, answer_of, output_after, Answer, Result, lent, budget_fits, expand_ending, expand_job, parse_job, evaluate_job}
use Rattle.codec_laws.specs.WellFormed.{Bytes}
use Rattle.addresses.specs.Charge.{parse_charge}
use Rattle.addresses.specs.OneNameOneAddress.{image_written, OneNameOneAddress}
use Rattle.addresses.proofs.Endings.{after-ending, lent-within, expand_job-is, take_whole}
use Rattle.addresses.proofs.Condition3.{one_name_one_address}
use Rattle.one_address.specs.Keeping.{Keeps, Parses, NeverUnowned}

lent-enough : (budget : ℕ) (table output : List ℕ) (e : Ending) → budget_fits budget (length table) ≡ true → lent budget table output e ≡ after-ending budget table output e
unfolding lent
lent-enough budget table output e h = rw h

-- bytes that are read one by one
bytes : (s : List ℕ) → ((n : ℕ) → get_or s n 0 < 256) → Bytes s
bytes [] h = tt
bytes (b ∷ s) h = (h 0, bytes s (λ n. h (suc n)))

module _ {a : Answer} {output' table' : List ℕ} (budget : ℕ) (table output : List ℕ) where
  pub keeps : (image : List ℕ) → record { answer = a; output = output'; table = table' } ≡ expand_job image 0 budget table output → ((n : ℕ) → get_or image n 0 < 256) → Keeps image output' a
  unfolding image_written
  keeps image e h =
      record {
        kept = λ q. subst (λ (z : Result). OneNameOneAddress image (image_written z)) (sym e)
            (one_name_one_address image (bytes image h) budget table output (ap (λ (z : Result). z.answer.code) (sym e) ∙ q));
        within = subst (λ (z : Result). z.answer.len ≤ length z.output) (sym (e ∙ expand_job-is image 0 budget table output)) (lent-within budget table output (expand_ending image 0 budget (length output)));
      }

  pub parses : (expanded : List ℕ) → record { answer = a; output = output'; table = table' } ≡ parse_job expanded budget table output → Parses expanded budget table output output' a
  unfolding answer_of output_after
  parses expanded e =
      record {
        parsed = λ o fits room enough.
            let b = tree_image_bytes o.result.head o.tree in
            let w = e ∙ o.parses budget table output fits room enough ∙ lent-enough budget table output (written b (parse_charge o.result.binds o.result.root)) fits in
            (ap (λ (z : Result). z.answer.code) w, ap (λ (z : Result). z.answer.units) w, ap (λ (z : Result). take z.answer.len z.output) w ∙ take_whole b (drop (length b) output));
      }

  pub never_unowned : (tree : List ℕ) → record { answer = a; output = output'; table = table' } ≡ evaluate_job tree budget table output → NeverUnowned tree a
  never_unowned tree e =
      record {
        owned = λ o t q.
            let w = e ∙ ap (λ (z : List ℕ). evaluate_job z budget table output) t in
            o.never_unowned budget table output (ap (λ (z : Result). z.answer.code) (sym w) ∙ q);
      }

pub ruleset keeping = (parses, never_unowned)
