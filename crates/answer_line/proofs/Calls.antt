-- The job that a call asks for, by the tests of its number, and its line.
use Prim.Native.Nat.{ℕ, ◌/◌, ◌%◌, ◌≤◌, ◌<◌}
use mathlib.Core.Path.{◌≡◌, refl, ap, ◌∙◌, subst}
use mathlib.Core.List.{List, [], ◌∷◌, ◌++◌}
use native.Mathlib.Omega.{arith}
use lib.ListN.{length, replicate, length-replicate}
use borrow.Author.Tests.{eq-eqb, ne_eqb, le-leb, lt-leb}
use Rattle.model.specs.Jobs.{Answer, Result, resolve_job, expand_job, parse_job, evaluate_job}
use Rattle.requests.specs.Panel.{PanelRefusal, PanelEnding, refused, panel_of, room_for, bits_after, PanelResult, panel_job}
use Rattle.requests.specs.TextJobs.{read_job, print_job}
use Rattle.requests.specs.Uses.{SummaryResult, summary_job, UsesAnswer, uses_job}
use Rattle.requests.specs.Replacing.{ReplaceResult, replace_job}
use Rattle.requests.specs.ScanJob.{ScanRefusal, ScanEnding, stopped, scan_of, scan_room, output_after_scans, ScanResult, scan_job}
use Rattle.shrinking.specs.ShrinkJob.{shrink_job}
use Rattle.text.specs.Placing.{Placed}
use Rattle.text.proofs.Placing.{renamed}
use Rattle.answer_line.specs.Format.{word_fill, byte_fill, answer_line, replace_line}
use Rattle.answer_line.specs.Numbers.{answered}
use Rattle.answer_line.specs.Words.{bytes_fill, bytes_of, bytes_of_words, words_of}
use Rattle.answer_line.specs.Calls.{keeping, job_of, laid_out, panel_bytes, summary_bytes, scan_bytes, text_bytes, shrink_bytes, request_of, leaving, fresh_job, told_bytes, uses_result, uses_line, replaced_line, replace_call, call_line}
use Rattle.answer_line.proofs.Laying.{laid_over_fill, filled_output}

module _ (job : ℕ) (image : List ℕ) (ph budget : ℕ) (table output : List ℕ) where
  pub job_resolve : {a : Answer} {t : List ℕ} → job ≡ 0 → record { answer = a; output = []; table = t } ≡ resolve_job image ph budget table
      → record { answer = a; output = output; table = t } ≡ job_of job image ph budget table output
  unfolding job_of keeping
  job_resolve h e = ap (keeping output) e ∙ simp (eq-eqb job 0 h)

module _ (job : ℕ) (image : List ℕ) (ph budget : ℕ) (table output : List ℕ) {r : Result} where
  pub job_expand : (job ≡ 0 → ⊥) → job ≡ 1 → r ≡ expand_job image ph budget table output → r ≡ job_of job image ph budget table output
  unfolding job_of
  job_expand n h e = e ∙ simp (ne_eqb job 0 n, eq-eqb job 1 h)

  pub job_parse : (job ≡ 0 → ⊥) → (job ≡ 1 → ⊥) → job ≡ 2 → r ≡ parse_job image budget table output → r ≡ job_of job image ph budget table output
  unfolding job_of
  job_parse n m h e = e ∙ simp (ne_eqb job 0 n, ne_eqb job 1 m, eq-eqb job 2 h)

  pub job_evaluate : (job ≡ 0 → ⊥) → (job ≡ 1 → ⊥) → (job ≡ 2 → ⊥) → r ≡ evaluate_job image budget table output → r ≡ job_of job image ph budget table output
  unfolding job_of
  job_evaluate n m k e = e ∙ simp (ne_eqb job 0 n, ne_eqb job 1 m, ne_eqb job 2 k)

-- words that came back are laid over an output that was filled
words-laid : (bytes many : ℕ) (a : Answer) (words : List ℕ) {out out' : List ℕ} {past : ℕ} → many ≡ bytes / 4 → out ≡ replicate bytes byte_fill → length words ≡ many
    → Placed out 0 (bytes_of_words words) out' past → record { answer = a; output = out'; table = [] } ≡ laid_out a words bytes
unfolding laid_out
words-laid bytes many a words {out' = out'} {past = past} n q s w =
    ap {B = Result} (λ (o : List ℕ). record { answer = a; output = o; table = [] })
    (laid_over_fill bytes byte_fill words (s ∙ n) (subst (λ (o : List ℕ). Placed o 0 (bytes_of_words words) out' past) q w))

-- they were lent filled
whole_words : (bytes : ℕ) {many : ℕ} {lent : List ℕ} → many ≡ bytes / 4 → lent ≡ replicate many bytes_fill → lent ≡ replicate (bytes / 4) bytes_fill
whole_words bytes n p = p ∙ ap (λ (k : ℕ). replicate k bytes_fill) n

module _ (image : List ℕ) (bytes many : ℕ) {lent words out out' : List ℕ} {a : Answer} {past : ℕ} (n : many ≡ bytes / 4) (p : lent ≡ replicate many bytes_fill)
    (q : out ≡ replicate bytes byte_fill) where
  pub panel-laid : record { answer = a; bits = words } ≡ panel_job image lent → length words ≡ many → Placed out 0 (bytes_of_words words) out' past
      → record { answer = a; output = out'; table = [] } ≡ panel_bytes image bytes
  unfolding panel_bytes
  panel-laid e s w =
      words-laid bytes many a words n q s w
      ∙ ap {B = Result} (λ (r : PanelResult). laid_out r.answer r.bits bytes) (e ∙ ap (panel_job image) (whole_words bytes n p))

  pub summary-laid : record { answer = a; summary = words } ≡ summary_job image lent → length words ≡ many → Placed out 0 (bytes_of_words words) out' past
      → record { answer = a; output = out'; table = [] } ≡ summary_bytes image bytes
  unfolding summary_bytes
  summary-laid e s w =
      words-laid bytes many a words n q s w
      ∙ ap {B = Result} (λ (r : SummaryResult). laid_out r.answer r.summary bytes) (e ∙ ap (summary_job image) (whole_words bytes n p))

-- a refusal leaves every byte of the output as it was filled
pub panel-refused : (image : List ℕ) (bytes : ℕ) {r : PanelRefusal} → room_for (bytes / 4) (panel_of image) ≡ refused r → (panel_bytes image bytes).output ≡ replicate bytes byte_fill
unfolding panel_bytes laid_out panel_job bits_after
panel-refused image bytes h =
    ap (λ (e : PanelEnding). bytes_of_words (bits_after e (replicate (bytes / 4) bytes_fill)) ++ replicate (bytes % 4) byte_fill)
    (ap (λ (k : ℕ). room_for k (panel_of image)) (length-replicate (bytes / 4) bytes_fill) ∙ h)
    ∙ filled_output bytes

-- the output was lent filled
pub scan_filled : (image recording : List ℕ) (bytes : ℕ) {out out' : List ℕ} {a : Answer} → out ≡ replicate bytes byte_fill
    → record { answer = a; output = out' } ≡ scan_job image recording out → record { answer = a; output = out'; table = [] } ≡ scan_bytes image recording bytes
unfolding scan_bytes
scan_filled image recording bytes p e =
    ap {B = Result} (λ (r : ScanResult). record { answer = r.answer; output = r.output; table = [] }) (e ∙ ap (scan_job image recording) p)

-- a refusal leaves every byte of the output as it was filled
pub scan-refused : (image recording : List ℕ) (bytes : ℕ) {r : ScanRefusal} → scan_room bytes (scan_of image recording) ≡ stopped r
    → (scan_bytes image recording bytes).output ≡ replicate bytes byte_fill
unfolding scan_bytes scan_job output_after_scans
scan-refused image recording bytes h =
    ap (λ (e : ScanEnding). output_after_scans e (replicate bytes byte_fill))
    (ap (λ (k : ℕ). scan_room k (scan_of image recording)) (length-replicate bytes byte_fill) ∙ h)

module _ (job : ℕ) (image second : List ℕ) (bytes : ℕ) {r : Result} where
  pub request_panel : job ≡ 4 → r ≡ panel_bytes image bytes → r ≡ request_of job image second bytes
  unfolding request_of
  request_panel h e = e ∙ simp (eq-eqb job 4 h)

  pub request_scan : (job ≡ 4 → ⊥) → job ≡ 5 → r ≡ scan_bytes image second bytes → r ≡ request_of job image second bytes
  unfolding request_of
  request_scan n h e = e ∙ simp (ne_eqb job 4 n, eq-eqb job 5 h)

  pub request_summary : job ≡ 8 → r ≡ summary_bytes image bytes → r ≡ request_of job image second bytes
  unfolding request_of
  request_summary h e = e ∙ simp (ne_eqb job 4 (λ q. omega arith), ne_eqb job 5 (λ q. omega arith), ne_eqb job 6 (λ q. omega arith), eq-eqb job 8 h)

-- the output was lent filled
module _ (job : ℕ) (image second : List ℕ) (bytes : ℕ) {out out' : List ℕ} {a : Answer} (p : out ≡ replicate bytes byte_fill) where
  pub request_read : (job ≡ 4 → ⊥) → (job ≡ 5 → ⊥) → job ≡ 6 → record { answer = a; output = out' } ≡ read_job image out
      → record { answer = a; output = out'; table = [] } ≡ request_of job image second bytes
  unfolding request_of text_bytes
  request_read n m h e = ap text_bytes (e ∙ ap (read_job image) p) ∙ simp (ne_eqb job 4 n, ne_eqb job 5 m, eq-eqb job 6 h)

  pub request_shrink : (job ≡ 4 → ⊥) → (job ≡ 5 → ⊥) → (job ≡ 6 → ⊥) → (job ≡ 8 → ⊥) → job ≡ 11 → record { answer = a; output = out' } ≡ shrink_job image out
      → record { answer = a; output = out'; table = [] } ≡ request_of job image second bytes
  unfolding request_of shrink_bytes
  request_shrink n m k j h e = ap shrink_bytes (e ∙ ap (shrink_job image) p) ∙ simp (ne_eqb job 4 n, ne_eqb job 5 m, ne_eqb job 6 k, ne_eqb job 8 j, eq-eqb job 11 h)

  pub request_print : (job ≡ 4 → ⊥) → (job ≡ 5 → ⊥) → (job ≡ 6 → ⊥) → (job ≡ 8 → ⊥) → (job ≡ 11 → ⊥) → record { answer = a; output = out' } ≡ print_job image out
      → record { answer = a; output = out'; table = [] } ≡ request_of job image second bytes
  unfolding request_of text_bytes
  request_print n m k j l e = ap text_bytes (e ∙ ap (print_job image) p) ∙ simp (ne_eqb job 4 n, ne_eqb job 5 m, ne_eqb job 6 k, ne_eqb job 8 j, ne_eqb job 11 l)

module _ (job : ℕ) (image second : List ℕ) (ph budget words bytes : ℕ) where
  pub request_fresh : {a : Answer} {table output : List ℕ} → 3 < job → table ≡ replicate words word_fill
      → record { answer = a; output = output; table = [] } ≡ request_of job image second bytes
      → record { answer = a; output = output; table = table } ≡ fresh_job job image second ph budget words bytes
  unfolding fresh_job leaving
  request_fresh h p e = (λ i. leaving (p i) (e i)) ∙ simp (lt-leb job 3 h)

module _ (job : ℕ) (image second : List ℕ) (ph budget words bytes : ℕ) {r : Result} where
  pub job_fresh : {table output : List ℕ} → job ≤ 3 → table ≡ replicate words word_fill → output ≡ replicate bytes byte_fill → r ≡ job_of job image ph budget table output
      → r ≡ fresh_job job image second ph budget words bytes
  unfolding fresh_job
  job_fresh h p q e = e ∙ (λ i. job_of job image ph budget (p i) (q i)) ∙ simp (le-leb job 3 h)

-- ---- a question to a summary

record_of : {a b : Answer} {o p t : List ℕ} → a ≡ b → o ≡ p → ◌≡◌ {A = Result} (record { answer = a; output = o; table = t }) (record { answer = b; output = p; table = t })
record_of {t = t} e f = λ i. record { answer = e i; output = f i; table = t }

module _ (budget : ℕ) (table : List ℕ) (count first : ℕ) {out out' : List ℕ} {code at past : ℕ} {a : Answer} where
  pub told-placed : {pair : List ℕ} {end : ℕ} → code ≡ 0 → a ≡ answered code 8 → Placed (0 ∷ 0 ∷ 0 ∷ 0 ∷ 0 ∷ 0 ∷ 0 ∷ 0 ∷ []) 0 (bytes_of_words (count ∷ first ∷ [])) pair end
      → Placed out at (answer_line budget (record { answer = a; output = pair; table = table })) out' past
      → Placed out at (answer_line budget (uses_result table (record { code = code; count = count; first = first }))) out' past
  unfolding uses_result told_bytes bytes_of_words bytes_of
  told-placed h k f p = renamed (ap (answer_line budget) (record_of k f.is ∙ simp (eq-eqb code 0 h))) p

  pub untold_placed : (code ≡ 0 → ⊥) → a ≡ answered code 0 → Placed out at (answer_line budget (record { answer = a; output = []; table = table })) out' past
      → Placed out at (answer_line budget (uses_result table (record { code = code; count = count; first = first }))) out' past
  unfolding uses_result told_bytes
  untold_placed h k p = renamed (ap (answer_line budget) (record_of k refl ∙ simp (ne_eqb code 0 h))) p

pub uses-placed : (image summary : List ℕ) (n budget : ℕ) (table : List ℕ) {lent out out' : List ℕ} {a : UsesAnswer} {at past : ℕ} → lent ≡ words_of summary → a ≡ uses_job image lent n
    → Placed out at (answer_line budget (uses_result table a)) out' past → Placed out at (uses_line image summary n budget table) out' past
unfolding uses_line
uses-placed image summary n budget table w e p = renamed (ap (λ (u : UsesAnswer). answer_line budget (uses_result table u)) (e ∙ ap (λ (l : List ℕ). uses_job image l n) w)) p

-- ---- a replacement

pub replaced_job : (image summary part : List ℕ) (place bytes : ℕ) {lent output : List ℕ} {r : ReplaceResult} → lent ≡ words_of summary → output ≡ replicate bytes byte_fill
    → r ≡ replace_job image place part lent output → r ≡ replace_job image place part (words_of summary) (replicate bytes byte_fill)
replaced_job image summary part place bytes w f e = e ∙ (λ i. replace_job image place part (w i) (f i))

pub replace_placed : (image summary : List ℕ) (place budget : ℕ) (table : List ℕ) (bytes : ℕ) {part given words output out out' : List ℕ} {a b : Answer} {at past : ℕ} → given ≡ part → b ≡ a
    → record { answer = a; summary = words; output = output } ≡ replace_job image place given (words_of summary) (replicate bytes byte_fill)
    → Placed out at (replace_line budget (record { answer = b; output = output; table = table }) words) out' past → Placed out at (replace_call image summary part place budget table bytes) out' past
unfolding replace_call replaced_line
replace_placed image summary place budget table bytes {words = words} {output} p b e w =
    renamed
    (ap (λ (x : Answer). replace_line budget (record { answer = x; output = output; table = table }) words) b
    ∙ ap (replaced_line budget table) (e ∙ ap (λ (l : List ℕ). replace_job image place l (words_of summary) (replicate bytes byte_fill)) p))
    w

-- ---- the line

module _ (job : ℕ) (image second third : List ℕ) (ph budget words bytes : ℕ) {out out' : List ℕ} {at past : ℕ} where
  pub line_of_uses : {table : List ℕ} → job ≡ 9 → table ≡ replicate words word_fill → Placed out at (uses_line image second ph budget table) out' past
      → Placed out at (call_line job image second third ph budget words bytes) out' past
  unfolding call_line
  line_of_uses h f p = renamed (ap (uses_line image second ph budget) f ∙ simp (eq-eqb job 9 h)) p

  pub line_of_replace : {table : List ℕ} → (job ≡ 9 → ⊥) → job ≡ 10 → table ≡ replicate words word_fill → Placed out at (replace_call image second third ph budget table bytes) out' past
      → Placed out at (call_line job image second third ph budget words bytes) out' past
  unfolding call_line
  line_of_replace n h f p =
      renamed (ap (λ (t : List ℕ). replace_call image second third ph budget t bytes) f ∙ simp (ne_eqb job 9 n, eq-eqb job 10 h)) p

  pub line_of_call : (job ≡ 9 → ⊥) → (job ≡ 10 → ⊥) → Placed out at (answer_line budget (fresh_job job image second ph budget words bytes)) out' past
      → Placed out at (call_line job image second third ph budget words bytes) out' past
  unfolding call_line
  line_of_call n m p = renamed (simp (ne_eqb job 9 n, ne_eqb job 10 m)) p

-- the answer of any other job, whose numbers the line shows
pub fresh-placed : (job : ℕ) (image second : List ℕ) (ph budget words bytes : ℕ) {table output out out' : List ℕ} {a b : Answer} {at past : ℕ} → b ≡ a
    → record { answer = a; output = output; table = table } ≡ fresh_job job image second ph budget words bytes
    → Placed out at (answer_line budget (record { answer = b; output = output; table = table })) out' past
    → Placed out at (answer_line budget (fresh_job job image second ph budget words bytes)) out' past
fresh-placed job image second ph budget words bytes {table} {output} q e w =
    renamed (ap (λ (x : Answer). answer_line budget (record { answer = x; output = output; table = table })) q ∙ ap (answer_line budget) e) w

pub ruleset request_laws = (scan_filled, request_panel, request_scan, request_summary, request_read, request_shrink, request_print)

pub ruleset answer_laws = (job_resolve, job_expand, job_parse, job_evaluate, request_fresh, job_fresh)

pub ruleset told_laws = (told-placed, untold_placed)

pub ruleset uses_laws = (uses-placed, replaced_job, replace_placed)

pub ruleset line_laws = (line_of_uses, line_of_replace, line_of_call)
