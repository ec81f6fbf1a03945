-- The loop over the scans: the lines due from here on, and one scan and one line more.
use mathlib.Core.Path.{◌≡◌, refl, sym, ap, ◌∙◌, subst}
use Prim.Native.Nat.{ℕ, suc, ◌+◌, ◌-◌, ◌≤◌, ◌<◌}
use native.Mathlib.Omega.{arith}
use native.Mathlib.Numerals.{add-one}
use mathlib.Core.List.{List, [], ◌++◌}
use lib.ListN.{length, drop, length-drop, length-append}
use lib.Seq.{drop-drop}
use Rattle.model.specs.Reading.{got}
use Rattle.requests.specs.Recording.{Change, read_scan, read_scans}
use Rattle.requests.specs.Scanning.{State, scan}
use Rattle.requests.specs.ScanJob.{line_after, driven_places, lines_from, joined}
use Rattle.numbers.specs.declared.Cursor.{Cursor}
use Rattle.text.specs.Placing.{Placed}
use Rattle.text.proofs.Placing.{Placing, begun, ended, placed-length, placing_more}
use Rattle.ladder.specs.Running.{instructions_of, Fits}
use Rattle.scan_lines.specs.Lines.{line_of}
use Rattle.scan_runner.specs.Stepping.{Scannable, Scanned}
use Rattle.scan_runner.specs.Running.{Due, Runnable, Ran}
use Rattle.scan_runner.proofs.Reading.{First, first_of, none_left}

-- ---- one scan more

-- the line of this scan, and what is due behind it
pub record Next (recording : List ℕ) (n done : ℕ) (code places points bits text : List ℕ) (r : ℕ) : Type 0 where
  pub rest : List ℕ
  pub due : Due recording r n (suc done) code places points bits rest
  pub text-is : text ≡ line_of places (suc done) points ++ rest

module _ {recording : List ℕ} {at n done : ℕ} {code places points bits text : List ℕ} (d : Due recording at (suc n) done code places points bits text) {s : List ℕ} (i : s ≡ drop (at - 0) recording) where
  here : s ≡ drop at recording
  here = let z : at - 0 ≡ at = omega arith in i ∙ ap (λ (k : ℕ). drop k recording) z

  long : at + length s ≡ length recording
  long = let l = ap length here ∙ length-drop at recording in let w = d.within in omega arith

  first : First n (drop at recording) d.changes
  first = first_of n (drop at recording) d.changes d.reads

  reads_here : read_scan s ≡ got first.changes first.mid
  reads_here = ap read_scan here ∙ first.reads

  pub due_scannable : Scannable at s code points bits
  due_scannable = record {
    short = let l = long in let k = d.short in omega arith;
    readable = record { changes = first.changes; rest = first.mid; is = reads_here };
    ready = d.ready;
  }

  module _ {points' bits' : List ℕ} {r : Cursor} (z : Scanned at s code points bits points' bits' r) (k : length points' ≡ length points) (l : length bits' ≡ length bits) where
    after : State
    after = record { points = points'; bits = bits' }

    state : record { points = points'; bits = bits' } ≡ scan d.tree first.changes (record { points = points; bits = bits })
    state = z.state-is d.tree d.code_of first.changes first.mid reads_here

    mid_is : first.mid ≡ drop r.at recording
    mid_is =
        let m = z.moved in
        let e : at + (r.at - at) ≡ r.at = omega arith in
        z.behind first.changes first.mid reads_here
        ∙ ap (drop (r.at - at)) here
        ∙ drop-drop (r.at - at) at recording
        ∙ ap (λ (x : ℕ). drop x recording) e

    pub due-next : Next recording n done code places points' bits' text r.at
    unfolding joined lines_from line_of
    due-next =
        let t = d.tree in
        let b = z.binary t d.code_of in
        record {
          rest = joined (lines_from t (suc (suc done)) (record { points = points'; bits = bits' }) first.others);
          due = record {
            tree = t;
            code_of = d.code_of;
            listed = d.listed;
            points-listed = d.points-listed;
            ready = record {
              points-room = let y = d.ready.points-room in omega arith;
              points-binary = b.points;
              bits-binary = b.bits;
              fits = subst (λ (x : ℕ). Fits x 0 (instructions_of code)) (sym l) d.ready.fits;
            };
            short = d.short;
            within = let y = long in let w = z.within in omega arith;
            changes = first.others;
            reads = ap (read_scans n) (sym mid_is) ∙ first.reads-others;
            text-is = refl;
          };
          text-is =
              d.text-is
              ∙ ap (λ (c : List (List Change)). joined (lines_from t (suc done) (record { points = points; bits = bits }) c)) first.is
              ∙ ap (λ (x : State). line_after (driven_places t) (suc done) x ++ joined (lines_from t (suc (suc done)) x first.others)) (sym state)
              ∙ ap (λ (x : List ℕ). line_after x (suc done) (record { points = points'; bits = bits' }) ++ joined (lines_from t (suc (suc done)) (record { points = points'; bits = bits' }) first.others))
              (sym d.listed);
        }

pub nothing-due : {recording : List ℕ} {at done : ℕ} {code places points bits text : List ℕ} → Due recording at 0 done code places points bits text → text ≡ []
unfolding joined lines_from
nothing-due {recording} {at} {done} {points = points} {bits = bits} d =
    d.text-is
    ∙ ap (λ (c : List (List Change)). joined (lines_from d.tree (suc done) (record { points = points; bits = bits }) c)) (none_left (drop at recording) d.changes d.reads)

-- ---- the loop

-- where the lines of as many scans as are done are placed
pub record Gone (recording : List ℕ) (scans : ℕ) (code places out₀ text : List ℕ) (here at done : ℕ) (points bits out : List ℕ) : Type 0 where
  pub left : ℕ
  pub sum : left + done ≡ scans
  pub rest : List ℕ
  pub due : Due recording here left done code places points bits rest
  pub placing : Placing out₀ 0 text out at rest

pub record Going (recording : List ℕ) (first scans : ℕ) (code places points₀ bits₀ out₀ : List ℕ) (here at done : ℕ) (points bits out : List ℕ) : Type 0 where
  pub goes : (text : List ℕ) → Due recording first scans 0 code places points₀ bits₀ text → Gone recording scans code places out₀ text here at done points bits out
  pub points-long : length points ≡ length points₀
  pub bits-long : length bits ≡ length bits₀
  pub out-long : length out ≡ length out₀

pub going_start : {recording : List ℕ} {first scans : ℕ} {code places points bits out : List ℕ} → Going recording first scans code places points bits out first 0 0 points bits out
going_start {scans = scans} = record {
  goes = λ text d. record { left = scans; sum = omega arith; rest = text; due = d; placing = begun };
  points-long = refl;
  bits-long = refl;
  out-long = refl;
}

module _ {recording : List ℕ} {first scans : ℕ} {code places points₀ bits₀ out₀ : List ℕ} (q : Runnable recording first scans code places points₀ bits₀ out₀) {here at done : ℕ} {points bits out : List ℕ}
    (w : Going recording first scans code places points₀ bits₀ out₀ here at done points bits out) where
  gone : Gone recording scans code places out₀ q.text here at done points bits out
  gone = w.goes q.text q.due

  pub here-within : here ≤ length recording
  here-within = gone.due.within

  pub going_ended : scans ≤ done → Ran recording first scans code places points₀ bits₀ out₀ out
  going_ended h = record {
    is = λ text d.
        let g = w.goes text d in
        let e : g.left ≡ 0 = let s = g.sum in omega arith in
        let r : g.rest ≡ [] = nothing-due (subst (λ (n : ℕ). Due recording here n done code places points bits g.rest) e g.due) in
        (ended (subst (λ (l : List ℕ). Placing out₀ 0 text out at l) r g.placing)).is;
  }

  module _ (some : done < scans) where
    due_now : {text : List ℕ} → (g : Gone recording scans code places out₀ text here at done points bits out) → Due recording here (suc (g.left - 1)) done code places points bits g.rest
    due_now g =
        let s = g.sum in
        let e : g.left ≡ suc (g.left - 1) = omega arith in
        subst (λ (n : ℕ). Due recording here n done code places points bits g.rest) e g.due

    module _ {s : List ℕ} (i : s ≡ drop here recording) where
      ahead : s ≡ drop (here - 0) recording
      ahead = let z : here ≡ here - 0 = omega arith in i ∙ ap (λ (k : ℕ). drop k recording) z

      pub going_scannable : Scannable here s code points bits
      going_scannable = due_scannable (due_now gone) ahead

      module _ {points' bits' : List ℕ} {r : Cursor} (z : Scanned here s code points bits points' bits' r) (k : length points' ≡ length points) (l : length bits' ≡ length bits) where
        line_more : {text : List ℕ} → (g : Gone recording scans code places out₀ text here at done points bits out) → Next recording (g.left - 1) done code places points' bits' g.rest r.at
        line_more g = due-next (due_now g) ahead z k l

        pub line_room : at + length (line_of places (done + 1) points') ≤ length out
        line_room =
            let g = gone in
            let n = line_more g in
            let e = ap length n.text-is in
            let a = length-append (line_of places (suc done) points') n.rest in
            let p = g.placing.ends in
            let o = g.placing.same in
            let y = q.room in
            rw (add-one done) (omega arith)

        pub going_on : {out' : List ℕ} {p : ℕ} → Placed out at (line_of places (done + 1) points') out' p
            → Going recording first scans code places points₀ bits₀ out₀ r.at p (done + 1) points' bits' out'
        going_on {out'} {p} a =
            rw (add-one done)
            (record {
              goes = λ text d.
                  let g = w.goes text d in
                  let n = line_more g in
                  record {
                    left = g.left - 1;
                    sum = let s = g.sum in omega arith;
                    rest = n.rest;
                    due = n.due;
                    placing = placing_more (subst (λ (l : List ℕ). Placing out₀ 0 text out at l) n.text-is g.placing) (rw (add-one done) at a);
                  };
              points-long = k ∙ w.points-long;
              bits-long = l ∙ w.bits-long;
              out-long = placed-length a ∙ w.out-long;
            })
