-- What a call of the replay stream asks for, and the line that answers it.
use Rattle.std.specs.Prelude.{ℕ, ◌/◌, ◌%◌, List, [], ◌∷◌, ◌++◌, eqb, leb, replicate}
use Rattle.model.specs.Choice.{when◌then◌else◌}
use Rattle.model.specs.Jobs.{Answer, Result, resolve_job, expand_job, parse_job, evaluate_job}
use Rattle.requests.specs.Panel.{panel_job}
use Rattle.requests.specs.ScanJob.{scan_job}
use Rattle.requests.specs.TextJobs.{TextResult, read_job, print_job}
use Rattle.requests.specs.Uses.{summary_job, UsesAnswer, uses_job}
use Rattle.requests.specs.Replacing.{ReplaceResult, replace_job}
use Rattle.shrinking.specs.ShrinkJob.{ShrinkResult, shrink_job}
use Rattle.answer_line.specs.Format.{word_fill, byte_fill, answer_line, replace_line}
use Rattle.answer_line.specs.Numbers.{answered}
use Rattle.answer_line.specs.Words.{bytes_fill, bytes_of_words, words_of}

-- resolve is not lent the output, which stays
unfoldable pub keeping : List ℕ → Result → Result
keeping output r = record { answer = r.answer; output = output; table = r.table }

-- the job of document 01 with that number: resolve 0, expand 1, parse 2, evaluate 3, of image, phase, budget, table and output
unfoldable pub job_of : ℕ → List ℕ → ℕ → ℕ → List ℕ → List ℕ → Result
job_of job image ph budget table output =
    when eqb job 0 then keeping output (resolve_job image ph budget table)
    else when eqb job 1 then expand_job image ph budget table output
    else when eqb job 2 then parse_job image budget table output
    else evaluate_job image budget table output

-- words that came back, with an output of so many bytes: what is over is no whole word, and stays as it was filled
unfoldable pub laid_out : Answer → List ℕ → ℕ → Result
laid_out a words bytes = record { answer = a; output = bytes_of_words words ++ replicate (bytes % 4) byte_fill; table = [] }

-- the panel check (job 4) and the summary of a tree (job 8) with an output of so many bytes, filled before the call: it is lent as words
unfoldable pub panel_bytes : List ℕ → ℕ → Result
unfolding laid_out
panel_bytes image bytes = let r = panel_job image (replicate (bytes / 4) bytes_fill) in laid_out r.answer r.bits bytes

unfoldable pub summary_bytes : List ℕ → ℕ → Result
unfolding laid_out
summary_bytes image bytes = let r = summary_job image (replicate (bytes / 4) bytes_fill) in laid_out r.answer r.summary bytes

-- the scan runner (job 5) with an output of so many bytes, filled before the call
unfoldable pub scan_bytes : List ℕ → List ℕ → ℕ → Result
scan_bytes image recording bytes =
    let r = scan_job image recording (replicate bytes byte_fill) in record { answer = r.answer; output = r.output; table = [] }

-- text to image (job 6) and image to text (job 7), with an output filled before the call; a text stands in the image's place
unfoldable pub text_bytes : TextResult → Result
text_bytes r = record { answer = r.answer; output = r.output; table = [] }

-- the smaller image (job 11), likewise
unfoldable pub shrink_bytes : ShrinkResult → Result
shrink_bytes r = record { answer = r.answer; output = r.output; table = [] }

-- the request of document 02 with that number, of image, second input and count of the output's bytes
unfoldable pub request_of : ℕ → List ℕ → List ℕ → ℕ → Result
request_of job image second bytes =
    when eqb job 4 then panel_bytes image bytes
    else when eqb job 5 then scan_bytes image second bytes
    else when eqb job 6 then text_bytes (read_job image (replicate bytes byte_fill))
    else when eqb job 8 then summary_bytes image bytes
    else when eqb job 11 then shrink_bytes (shrink_job image (replicate bytes byte_fill))
    else text_bytes (print_job image (replicate bytes byte_fill))

-- it is not lent the table, which stays
unfoldable pub leaving : List ℕ → Result → Result
leaving table r = record { answer = r.answer; output = r.output; table = table }

-- with a table of so many words and an output of so many bytes, filled before the call; `second` is the input behind the image, which is
-- empty where a job has none
unfoldable pub fresh_job : ℕ → List ℕ → List ℕ → ℕ → ℕ → ℕ → ℕ → Result
fresh_job job image second ph budget words bytes =
    when leb job 3 then job_of job image ph budget (replicate words word_fill) (replicate bytes byte_fill)
    else leaving (replicate words word_fill) (request_of job image second bytes)

-- ---- a question to a summary (job 9), which stands behind the image as bytes. Count and first place are its output; none is lent.

unfoldable pub told_bytes : UsesAnswer → List ℕ
unfolding bytes_of_words
told_bytes a = when eqb a.code 0 then bytes_of_words (a.count ∷ a.first ∷ []) else []

unfoldable pub uses_result : List ℕ → UsesAnswer → Result
unfolding told_bytes
uses_result table a =
    record { answer = answered a.code (when eqb a.code 0 then 8 else 0); output = told_bytes a; table = table }

-- the name n
unfoldable pub uses_line : List ℕ → List ℕ → ℕ → ℕ → List ℕ → List ℕ
unfolding uses_result words_of
uses_line image summary n budget table = answer_line budget (uses_result table (uses_job image (words_of summary) n))

-- ---- a replacement (job 10), with a summary and a part behind the image, and an output of so many bytes, filled before the call

unfoldable pub replaced_line : ℕ → List ℕ → ReplaceResult → List ℕ
replaced_line budget table r = replace_line budget (record { answer = r.answer; output = r.output; table = table }) r.summary

-- at a place
unfoldable pub replace_call : List ℕ → List ℕ → List ℕ → ℕ → ℕ → List ℕ → ℕ → List ℕ
unfolding replaced_line words_of
replace_call image summary part place budget table bytes = replaced_line budget table (replace_job image place part (words_of summary) (replicate bytes byte_fill))

-- ---- any call: image, the inputs behind it, phase (or name, or place), budget, and how many words and bytes are lent

unfoldable pub call_line : ℕ → List ℕ → List ℕ → List ℕ → ℕ → ℕ → ℕ → ℕ → List ℕ
unfolding uses_line replace_call
call_line job image second third ph budget words bytes =
    when eqb job 9 then uses_line image second ph budget (replicate words word_fill)
    else when eqb job 10 then replace_call image second third ph budget (replicate words word_fill) bytes
    else answer_line budget (fresh_job job image second ph budget words bytes)
