-- The job: how long the text is, and one law for each way out.
use mathlib.Core.Path.{◌≡◌, refl, sym, ap, ◌∙◌, subst}
use Prim.Native.Nat.{ℕ, ◌+◌, ◌≤◌, ◌<◌}
use native.Mathlib.Omega.{arith}
use mathlib.Core.List.{List, ◌++◌}
use lib.ListN.{length, take, drop, replicate, length-replicate}
use lib.Seq.{sets, sets-eq, length-take-le}
use borrow.Author.Tests.{le-leb, lt-leb}
use Rattle.std.specs.Prelude.{Result, Ok, Err}
use Rattle.std.specs.Result.{IsErrAnd}
use Rattle.refusals.proofs.Handing.{handed_on}
use Rattle.model.specs.Limits.{last_point}
use Rattle.requests.specs.Scanning.{State, at_start}
use Rattle.requests.specs.ScanJob.{joined, lines_from, text_of, ScanEnding, printed, scan_room, scan_answer, output_after_scans}
use Rattle.requests.specs.Binary.{BinaryState}
use Rattle.requests.proofs.Starts.{starts-binary}
use Rattle.refusals.specs.declared.Refusal.TheVariants.{TooLong}
use Rattle.panel_check.specs.declared.refusal.PanelRefusal.TheVariants.{Base}
use Rattle.bits.specs.Meeting as meeting
use Rattle.ladder.specs.Running.{Fits, instructions_of}
use Rattle.scan_lines.specs.Lines.{Lists}
use Rattle.scan_lines.specs.Lengths.{fixed_length, lines_length}
use Rattle.scan_lines.proofs.Driven.{listed-points}
use Rattle.scan_lines.proofs.Texts.{listed-are, text-length}
use Rattle.scan_runner.specs.declared.refusal.ScanRefusal.{ScanRefusal}
use Rattle.scan_runner.specs.declared.refusal.ScanRefusal.TheVariants.{Panel}
use Rattle.scan_runner.specs.declared.preparation.Prepared.{Prepared}
use Rattle.scan_runner.specs.Preparing.{Stands, Prepares}
use Rattle.scan_runner.specs.Running.{Due, Runnable, Ran, Standing, Ends, RunsPrepared, Runs}
use Rattle.scan_runner.proofs.Reading.{scans-binary, scans_many}

-- ---- what stands, at the start

module _ {recording marks code bits : List ℕ} {p : Prepared} {text : List ℕ} (s : Stands recording marks code bits p text) where
  start-binary : BinaryState (at_start s.tree)
  start-binary = starts-binary s.tree s.programmed.code_of.program

  pub text-long : length text ≡ lines_length 1 p.scans (fixed_length marks)
  text-long =
      let r = s.recorded in
      ap length s.text-is
      ∙ text-length s.tree s.programmed.marked s.changes (scans-binary p.scans (drop p.first.at recording) s.changes r.reads) start-binary
      ∙ ap (λ (n : ℕ). lines_length 1 n (fixed_length marks)) (scans_many p.scans (drop p.first.at recording) s.changes r.reads)

  pub due-first : {points places : List ℕ} {r : ℕ} → Lists marks places r → points ≡ replicate meeting.points 0
      → Due recording p.first.at p.scans 0 (take p.words code) (take r places) points (take p.bits bits) text
  unfolding text_of at_start last_point
  due-first {points} w e =
      let g = s.programmed in
      let t = s.tree in
      let same : record { points = points; bits = take p.bits bits } ≡ at_start t = λ i. record { points = e i; bits = g.bits_are i } in
      let b : BinaryState (record { points = points; bits = take p.bits bits }) = subst BinaryState (sym same) start-binary in
      let n : length (take p.bits bits) ≡ p.bits = length-take-le p.bits bits g.bits-within in
      record {
        tree = t;
        code_of = g.code_of;
        listed = listed-are t g.marked w;
        points-listed = listed-points w;
        ready = record {
          points-room = let k = ap length e ∙ length-replicate {A = ℕ} meeting.points 0 in omega arith;
          points-binary = b.points;
          bits-binary = b.bits;
          fits = subst (λ (x : ℕ). Fits x 0 (instructions_of (take p.words code))) (sym n) (subst (Fits p.bits 0) (sym g.code_of.code_is) g.fits);
        };
        short = s.recorded.short;
        within = s.recorded.within;
        changes = s.changes;
        reads = s.recorded.reads;
        text-is = s.text-is ∙ ap (λ (x : State). joined (lines_from t 1 x s.changes)) (sym same);
      }

-- ---- what was prepared

module _ {recording marks code points bits : List ℕ} {p : Prepared} (s : Standing recording marks code points bits p) where
  pub words-within : p.words ≤ length code
  words-within = s.stands.programmed.words-within

  pub bits-within : p.bits ≤ length bits
  bits-within = s.stands.programmed.bits-within

  pub words-taken : length (take p.words code) ≡ p.words
  words-taken = length-take-le p.words code words-within

  pub bits-taken : length (take p.bits bits) ≡ p.bits
  bits-taken = length-take-le p.bits bits bits-within

  pub places_taken : {places : List ℕ} {r : ℕ} → Lists marks places r → length (take r places) ≡ r
  places_taken {places} {r} w = length-take-le r places w.within

  module _ {fixed total : ℕ} (f : fixed ≡ fixed_length marks) (n : total ≡ lines_length 1 p.scans fixed) where
    total_is : {text : List ℕ} → Stands recording marks code bits p text → length text ≡ total
    total_is k = text-long k ∙ ap (lines_length 1 p.scans) (sym f) ∙ sym n

    pub prepared_too_long : {out : List ℕ} → length out < total → RunsPrepared recording marks code bits p out out (Err (Panel (Base TooLong)))
    unfolding scan_room scan_answer output_after_scans
    prepared_too_long {out} h = record { ends = λ text k. by text (total_is k) }
      where
        by : (text : List ℕ) → length text ≡ total → Ends (scan_room (length out) (printed text)) out out (Err (Panel (Base TooLong)))
        by text e =
            let l : length out < length text = omega arith in
            record { answer = rw (lt-leb (length text) (length out) l); left = rw (lt-leb (length text) (length out) l) }

    module _ {out : List ℕ} (h : total ≤ length out) {places : List ℕ} {r : ℕ} (w : Lists marks places r) where
      pub prepared_runnable : Runnable recording p.first.at p.scans (take p.words code) (take r places) points (take p.bits bits) out
      prepared_runnable = record {
        text = s.text;
        due = due-first s.stands w s.points-are;
        room = let e = total_is s.stands in omega arith;
      }

      pub prepared_ran : {out' : List ℕ} → Ran recording p.first.at p.scans (take p.words code) (take r places) points (take p.bits bits) out out'
          → RunsPrepared recording marks code bits p out out' (Ok total)
      unfolding scan_room scan_answer output_after_scans
      prepared_ran {out'} q = record { ends = λ text k. by text (total_is k) (q.is text (due-first k w s.points-are)) }
        where
          by : (text : List ℕ) → length text ≡ total → out' ≡ sets out 0 text → Ends (scan_room (length out) (printed text)) out out' (Ok total)
          by text e q =
              let l : length text ≤ length out = omega arith in
              let z : 0 + length text ≡ length text = omega arith in
              record {
                answer = rw (le-leb (length text) (length out) l, e);
                left = q ∙ sets-eq text out 0 (omega arith) ∙ ap (λ (n : ℕ). text ++ drop n out) z ∙ rw (le-leb (length text) (length out) l);
              }

-- ---- behind the preparation

module _ {image recording marks code bits : List ℕ} {k : Result Prepared ScanRefusal} (h : Prepares image recording marks code bits k) where
  job_refused : {f : ScanRefusal} {out : List ℕ} → k ≡ Err f → Runs image recording out out (Err f)
  unfolding scan_room scan_answer output_after_scans
  job_refused {f} {out} e = let z = h.refused f e in record { answer = rw z; left = rw z }

  -- what `?` hands on
  pub job_handed : {f : ScanRefusal} {out : List ℕ} {r : Result ℕ ScanRefusal} → k ≡ Err f → IsErrAnd r (λ e. e ≡ f) → Runs image recording out out r
  job_handed {out = out} e q = subst (Runs image recording out out) (sym (handed_on q refl)) (job_refused e)

  module _ {p : Prepared} (e : k ≡ Ok p) where
    pub job_standing : {points : List ℕ} → meeting.points ≤ length marks → points ≡ replicate meeting.points 0 → Standing recording marks code points bits p
    job_standing l q = let m = h.ready p e in record { text = m.text; stands = m.stands; marks-long = l; points-are = q }

    pub job_ran : {out out' : List ℕ} {r : Result ℕ ScanRefusal} → RunsPrepared recording marks code bits p out out' r → Runs image recording out out' r
    job_ran {out} {out'} {r} q =
        let m = h.ready p e in
        subst (λ (z : ScanEnding). Ends (scan_room (length out) z) out out' r) (sym m.says) (q.ends m.text m.stands)

-- ---- room

pub code-room : 32768 ≤ length (replicate {A = ℕ} 32768 0)
code-room = let e : length (replicate {A = ℕ} 32768 0) ≡ 32768 = length-replicate {A = ℕ} 32768 0 in omega arith

pub places_room : meeting.points ≤ length (replicate {A = ℕ} 1024 0)
places_room = let e : length (replicate {A = ℕ} 1024 0) ≡ 1024 = length-replicate {A = ℕ} 1024 0 in omega arith
