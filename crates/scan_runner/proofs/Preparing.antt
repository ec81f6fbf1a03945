-- Before the first scan: one law for each way out.
use mathlib.Core.Path.{◌≡◌, refl, sym, ap, ◌∙◌, subst}
use Prim.Native.Nat.{ℕ, ◌≤◌}
use native.Mathlib.Omega.{arith}
use native.Mathlib.Nat.{min-le_right}
use mathlib.Core.List.{List, []}
use lib.ListN.{length, take, drop, length-take, length-map}
use Rattle.std.specs.Prelude.{Result, Ok, Err}
use Rattle.std.specs.Result.{IsErrAnd}
use Rattle.refusals.proofs.Handing.{handed_on}
use Rattle.model.specs.Limits.{most_scopes, most_nesting}
use Rattle.model.specs.Trees.{Tree}
use Rattle.model.specs.Reading.{Read, got, fault, symbols, read_tree, read_tree_image, read_image}
use Rattle.codec_laws.specs.WellFormed.{Bytes}
use Rattle.codec_laws.proofs.Sequence.{bytes_drop}
use Rattle.codec_laws.proofs.TreeTrip.{tree_w}
use Rattle.requests.specs.Panel.{is_program, driven, bits_of, listed, profile, of_image, panel_of}
use Rattle.requests.specs.ScanJob.{panel, text_of, stopped, with_recording, then_scanned, scan_of_image, scan_of}
use Rattle.requests.specs.Panel as p
use Rattle.requests.proofs.Starts.{as_many_starts}
use Rattle.numbers.specs.declared.Cursor.{Cursor}
use Rattle.bits.specs.Meeting.{points, NoMarks}
use Rattle.panel_check.specs.declared.Program.{Program}
use Rattle.panel_check.specs.declared.refusal.PanelRefusal.{PanelRefusal}
use Rattle.panel_check.specs.Refusing.{panel_refusal_of}
use Rattle.panel_check.specs.Checking.{RootGood, Passes, ending_in, Checks}
use Rattle.recordings.specs.declared.RecordingRefusal.{RecordingRefusal}
use Rattle.recordings.specs.declared.RecordingRefusal.TheVariants.{Broken, Driven}
use Rattle.recordings.specs.Judging.{Judged, judged_of}
use Rattle.recordings.proofs.Meaning.{Plays, means_broken, means-driven, means-kept}
use Rattle.ladder.specs.Code.{operands, word_of, rungs}
use Rattle.ladder.specs.Running.{instructions_of, Fits}
use Rattle.ladder.proofs.Fitting.{program-fits}
use Rattle.ladder.proofs.Words.{words_back}
use Rattle.wiring.specs.declared.Wired.{Wired}
use Rattle.wiring.specs.Wiring as w
use Rattle.scan_runner.specs.declared.refusal.ScanRefusal.{ScanRefusal}
use Rattle.scan_runner.specs.declared.refusal.ScanRefusal.TheVariants as refusal
use Rattle.scan_runner.specs.declared.preparation.Prepared.{Prepared}
use Rattle.scan_runner.specs.Refusing.{scan_refusal_of, refusal_from}
use Rattle.scan_runner.specs.Stepping.{CodeOf}
use Rattle.scan_runner.specs.Preparing.{WiresRoot, Programmed, Recorded, Made, Prepares}
use Rattle.scan_runner.proofs.Reading.{scans-fit}

-- ---- the root

pub root-wired : {image : List ℕ} {root : ℕ} {s code bits : List ℕ} {r : Wired} → s ≡ drop root image → w.Tells s code bits r → WiresRoot image root code bits r
root-wired {image} {root} i t g e few =
    t g.read.head g.read.root g.head-fits (subst Bytes (sym i) (bytes_drop root image g.bytes)) (ap (read_tree most_nesting g.read.head 0) i ∙ g.root-reads) e few

-- ---- a program that is accepted, and its recording

-- by the panel check, whatever names it kept
pub record Accepted (image marks : List ℕ) (q : Program) : Type 0 where
  pub names : List ℕ
  pub checks : Checks image marks names (Ok q)

module _ {image marks : List ℕ} {q : Program} (a : Accepted image marks q) where
  abbrev passes : Passes image marks a.names q
  passes = a.checks.passes q refl

  abbrev tree : Tree
  tree = passes.good.read.root

  pub accepted_root : RootGood image q.root
  accepted_root = passes.good

  listed-is : profile tree ≡ listed (take q.bits a.names)
  unfolding panel_of of_image
  listed-is = ap of_image (sym passes.good.reads) ∙ a.checks.is

  then_is : (r : List ℕ) → scan_of image r ≡ with_recording r tree
  unfolding scan_of scan_of_image then_scanned
  then_is r = rw (passes.good.reads, listed-is)

  module _ (r : List ℕ) {x : Judged} (j : x ≡ judged_of marks r) where
    says : (f : RecordingRefusal) → x ≡ Err f → scan_of image r ≡ stopped (scan_refusal_of (refusal_from f))
    says Broken e = then_is r ∙ means_broken tree marks passes.marked r (sym j ∙ e)
    says Driven e = then_is r ∙ means-driven tree marks passes.marked r (sym j ∙ e)

    pub recording_refused : (code bits : List ℕ) {f : RecordingRefusal} → x ≡ Err f → Prepares image r marks code bits (Err (refusal_from f))
    recording_refused code bits {f} e = record {
      refused = λ g d. let z : refusal_from f ≡ g = cc in says f e ∙ ap (λ (y : ScanRefusal). stopped (scan_refusal_of y)) z;
      ready = λ p d. absurd (let z : ◌≡◌ {A = ℕ} 0 1 = cc in omega arith);
    }

    module _ {n : ℕ} {c : Cursor} (e : x ≡ Ok (n, c)) {code bits : List ℕ} {v : Wired} (h : WiresRoot image q.root code bits v) where
      abbrev prepared : Prepared
      prepared = record { words = v.words; bits = v.bits; scans = n; first = c }

      holds : w.Holds tree code bits v
      holds = h passes.good passes.program (let f = passes.few in let k = passes.counted in omega arith)

      counted : v.bits ≡ length (bits_of tree)
      counted = holds.counted

      fits : Fits v.bits 0 (rungs [] 0 tree)
      unfolding most_scopes
      fits =
          let g = passes.good in
          let head = g.read.head in
          let t = tree_w most_nesting head g.head-fits.scopes-to 0 tree (drop q.root image) [] (bytes_drop q.root image g.bytes) g.root-reads in
          let k : length (bits_of tree) ≤ v.bits = let y = counted in omega arith in
          program-fits v.bits (symbols head) head.names head.scopes tree passes.program t.1 t.2 g.owned k

      code_of : CodeOf tree (take v.words code)
      code_of = record {
        program = passes.program;
        code_is =
            let k : v.bits ≤ operands = let y = counted in let f = passes.few in let m = passes.counted in omega arith in
            ap instructions_of holds.code_is ∙ words_back v.bits k 0 (rungs [] 0 tree) fits;
      }

      -- what is taken is as long as asked only where there is so much
      taken-within : (m : ℕ) (l : List ℕ) → length (take m l) ≡ m → m ≤ length l
      taken-within m l k = subst (λ (z : ℕ). z ≤ length l) (sym (length-take m l) ∙ k) (min-le_right m (length l))

      programmed : Programmed marks code bits prepared tree
      unfolding bits_of
      programmed = record {
        marked = record { has = passes.marked };
        words-within = taken-within v.words code (ap length holds.code_is ∙ length-map (rungs [] 0 tree) word_of ∙ sym holds.words_are);
        code_of = code_of;
        fits = fits;
        bits-within = taken-within v.bits bits (ap length holds.bits_are ∙ as_many_starts tree passes.program ∙ sym counted);
        bits_are = holds.bits_are;
      }

      plays : Plays tree r n c
      plays = means-kept tree marks passes.marked r (sym j ∙ e)

      recorded : Recorded r prepared plays.scans
      recorded = record {
        short = plays.short;
        few = scans-fit marks r n c (sym j ∙ e) plays.short plays.within plays.scans plays.ahead.is;
        within = plays.within;
        reads = plays.ahead.is;
      }

      pub recording_kept : Prepares image r marks code bits (Ok (record { words = v.words; bits = v.bits; scans = n; first = c }))
      recording_kept = record {
        refused = λ f d. absurd (let z : ◌≡◌ {A = ℕ} 0 1 = cc in omega arith);
        ready = λ p d.
            let z : prepared ≡ p = cc in
            subst (Made image r marks code bits) z
            (record {
              text = text_of tree plays.scans;
              says = then_is r ∙ plays.prints;
              stands = record { tree = tree; programmed = programmed; changes = plays.scans; recorded = recorded; text-is = refl };
            });
      }

-- ---- behind the panel check

pub marks-kept : {marks : List ℕ} (marks' : List ℕ) → NoMarks marks → length marks' ≡ length marks → points ≤ length marks'
marks-kept marks' m e = let l = m.long in omega arith

module _ {image marks names : List ℕ} {k : Result Program PanelRefusal} (h : Checks image marks names k) where
  pub check_passed : {q : Program} → k ≡ Ok q → Accepted image marks q
  check_passed e = record { names = names; checks = subst (Checks image marks names) e h }

  refused-is : {f : PanelRefusal} → k ≡ Err f → panel_of image ≡ p.refused (panel_refusal_of f)
  refused-is e = h.is ∙ ap (ending_in names) e

  pub check_refused : {f : PanelRefusal} (r code bits : List ℕ) → k ≡ Err f → Prepares image r marks code bits (Err (refusal.Panel f))
  unfolding panel_of of_image scan_of scan_of_image then_scanned
  check_refused {f} r code bits e = record {
    refused = λ x d. let z : refusal.Panel f ≡ x = cc in by (read_image read_tree_image image) refl (refused-is e) ∙ ap (λ (y : ScanRefusal). stopped (scan_refusal_of y)) z;
    ready = λ q d. absurd (let z : ◌≡◌ {A = ℕ} 0 1 = cc in omega arith);
  }
    where
      by : {y : p.PanelRefusal} (g : Read _) → read_image read_tree_image image ≡ g → panel_of image ≡ p.refused y → scan_of image r ≡ stopped (panel y)
      by {y} (got i s) u v = let z : profile i.root ≡ p.refused y = sym (rw u) ∙ v in rw (u, z)
      by {y} (fault c) u v = let z : p.refused (p.base c) ≡ p.refused y = sym (rw u) ∙ v in let m : p.base c ≡ y = cc in rw u (ap (λ (b : p.PanelRefusal). stopped (panel b)) m)

-- what `?` hands on
pub prepares_handed : {image recording marks code bits : List ℕ} {r : Result Prepared ScanRefusal} {f : ScanRefusal} → IsErrAnd r (λ e. e ≡ f) → Prepares image recording marks code bits (Err f) → Prepares image recording marks code bits r
prepares_handed {image} {recording} {marks} {code} {bits} h w = subst (Prepares image recording marks code bits) (sym (handed_on h refl)) w
