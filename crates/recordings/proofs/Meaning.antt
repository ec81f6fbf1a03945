-- What a caller knows of a recording that was judged, and of a scan taken from it.
use Prim.Native.Nat.{ℕ, zero, suc, ◌-◌, ◌≤◌, ◌<◌}
use mathlib.Core.Path.{◌≡◌, refl, sym, ap, ◌∙◌, subst}
use mathlib.Core.Bool.{Bool, true, false, not}
use mathlib.Core.List.{List, [], ◌∷◌}
use native.Mathlib.Omega.{arith}
use lib.Dec.{eqb, leb}
use lib.ListN.{length, drop, length-drop}
use Rattle.std.specs.Prelude.{Ok, Err}
use borrow.Author.Tests.{le-leb, leb-true}
use Rattle.model.specs.Choice.{when◌then◌else◌}
use Rattle.model.specs.Limits as limits
use Rattle.model.specs.Limits.{last_point}
use Rattle.model.specs.Refusals as m
use Rattle.model.specs.Trees.{Tree}
use Rattle.model.specs.Reading.{Read, got, fault, num, at_end}
use Rattle.model.specs.Meanings.{is_among}
use Rattle.numbers.specs.declared.Cursor.{Cursor}
use Rattle.numbers.specs.Answers.{kept}
use Rattle.numbers.specs.Limits.{most_image}
use Rattle.numbers.proofs.Tails.{Behind, Tail, tail_got, num_tail}
use Rattle.codec_laws.proofs.NumberTrip.{got-value, got-rest}
use Rattle.codec_laws.proofs.Sequence.{next-got}
use Rattle.codec_laws.proofs.ImageLaws.{end_w}
use Rattle.requests.specs.Panel.{driven}
use Rattle.requests.specs.Recording.{Change, read_change, read_changes, read_scan, read_scans, read_to_end, read_recording}
use Rattle.requests.specs.Scanning.{changed}
use Rattle.requests.specs.ScanJob.{stopped, printed, bad_recording, driven_change, changes_driven, any_driven, text_of, recorded, with_recording}
use Rattle.requests.proofs.Recordings.{change-fits}
use Rattle.recordings.specs.Judging.{MarksOf, Judged, is_marked, changes_marked, any_marked, judged_all, judged_count, judged_of}
use Rattle.recordings.specs.Taking.{Readable, Taken}
use Rattle.recordings.specs.declared.RecordingRefusal.TheVariants.{Broken, Driven}
use Rattle.recordings.proofs.Checking.{scans-more}

-- ---- a change that is read names a mark where it names a driven point

module _ (d marks : List ℕ) (h : MarksOf d marks) where
  told : (b : Bool) → not (eqb (when b then 1 else 0) 0) ≡ b
  told true = refl
  told false = refl

  mark_is : (x : ℕ) → x ≤ last_point → is_marked marks x ≡ is_among x d
  unfolding is_marked last_point
  mark_is x l = rw (h x (omega arith)) (told (is_among x d))

  changes-same : (c least : ℕ) (s rest : List ℕ) (r : List Change) → read_changes c least s ≡ got r rest → changes_marked marks r ≡ changes_driven d r
  unfolding read_changes changes_marked changes_driven
  changes-same zero least s rest r e = subst (λ (l : List Change). changes_marked marks l ≡ changes_driven d l) (got-value [] r s rest e) refl
  changes-same (suc c) least s rest r e =
      let a = next-got (read_change least s) _ r rest e in
      let b = next-got (read_changes c (suc a.0.place) a.1) _ r rest a.3 in
      subst (λ (l : List Change). changes_marked marks l ≡ changes_driven d l) (got-value (a.0 ∷ b.0) r b.1 rest b.3)
      (rw (mark_is a.0.place (change-fits least s a.1 a.0 a.2).0, changes-same c (suc a.0.place) a.1 b.1 b.0 b.2))

  scan-same : (s rest : List ℕ) (r : List Change) → read_scan s ≡ got r rest → changes_marked marks r ≡ changes_driven d r
  unfolding read_scan
  scan-same s rest r e = let a = next-got (num s) _ r rest e in changes-same a.0 0 a.1 rest r a.3

  scans-same : (n : ℕ) (s rest : List ℕ) (r : List (List Change)) → read_scans n s ≡ got r rest → any_marked marks r ≡ any_driven d r
  unfolding read_scans any_marked any_driven
  scans-same zero s rest r e = subst (λ (l : List (List Change)). any_marked marks l ≡ any_driven d l) (got-value [] r s rest e) refl
  scans-same (suc n) s rest r e =
      let a = next-got (read_scan s) _ r rest e in
      let b = next-got (read_scans n a.1) _ r rest a.3 in
      subst (λ (l : List (List Change)). any_marked marks l ≡ any_driven d l) (got-value (a.0 ∷ b.0) r b.1 rest b.3)
      (rw (scan-same s a.1 a.0 a.2, scans-same n a.1 b.1 b.0 b.2))

-- ---- a recording that was judged

-- n scans and nothing behind them
pub record ToEnd (n : ℕ) (s : List ℕ) (r : List (List Change)) : Type 0 where
  pub is : read_scans n s ≡ got r []
  pub count : length r ≡ n

scans_many : (n : ℕ) (s rest : List ℕ) (r : List (List Change)) → read_scans n s ≡ got r rest → length r ≡ n
unfolding read_scans
scans_many zero s rest r e = sym (ap length (got-value [] r s rest e))
scans_many (suc n) s rest r e =
    let a = next-got (read_scan s) _ r rest e in
    let b = next-got (read_scans n a.1) _ r rest a.3 in
    sym (ap length (got-value (a.0 ∷ b.0) r b.1 rest b.3)) ∙ ap suc (scans_many n a.1 b.1 b.0 b.2)

to_end : (n : ℕ) (s rest : List ℕ) (r : List (List Change)) → read_to_end n s ≡ got r rest → ToEnd n s r
unfolding read_to_end
to_end n s rest r e =
    let a = next-got (read_scans n s) _ r rest e in
    let b = next-got (at_end a.1) _ r rest a.3 in
    let v : a.0 ≡ r = got-value a.0 r b.1 rest b.3 in
    let z : a.1 ≡ [] = end_w a.1 b.1 b.0 b.2 in
    let q : read_scans n s ≡ got r [] = a.2 ∙ ap (λ (l : List (List Change)). got l a.1) v ∙ ap (got r) z in
    record { is = q; count = scans_many n s [] r q }

read_on : (s : List ℕ) {n : ℕ} {rest : List ℕ} → num s ≡ got n rest → read_recording s ≡ read_to_end n rest
unfolding read_recording
read_on s e = rw e

read-nothing : (s : List ℕ) {c : m.Refusal} → num s ≡ fault c → read_recording s ≡ fault c
unfolding read_recording
read-nothing s e = rw e

no_recording : (t : Tree) (c : m.Refusal) → recorded t (fault c) ≡ stopped bad_recording
unfolding recorded
no_recording t c = refl

too_long_lem : (s : List ℕ) (t : Tree) → leb (length s) most_image ≡ false → with_recording s t ≡ stopped bad_recording
unfolding with_recording limits.most_image
too_long_lem s t e = rw e

-- the lines of these scans are what the definition prints, and the first scan is at c
pub record Plays (t : Tree) (s : List ℕ) (n : ℕ) (c : Cursor) : Type 0 where
  pub short : length s ≤ most_image
  pub scans : List (List Change)
  pub prints : with_recording s t ≡ printed (text_of t scans)
  pub within : c.at ≤ length s
  pub ahead : ToEnd n (drop c.at s) scans

abbrev Means : Tree → List ℕ → Judged → Type 0
Means t s (Ok r) = Plays t s r.0 r.1
Means t s (Err Broken) = with_recording s t ≡ stopped bad_recording
Means t s (Err Driven) = with_recording s t ≡ stopped driven_change

module _ (t : Tree) (marks : List ℕ) (h : MarksOf (driven t) marks) (s : List ℕ) where
  short-is : length s ≤ most_image → with_recording s t ≡ recorded t (read_recording s)
  unfolding with_recording limits.most_image
  short-is l = rw (le-leb (length s) most_image l)

  module _ (l : length s ≤ most_image) (n : ℕ) (rest : List ℕ) (b : Behind s rest) (q : read_recording s ≡ read_to_end n rest) where
    plays : (r : List (List Change)) → ToEnd n rest r → with_recording s t ≡ printed (text_of t r) → Plays t s n (record { at = length s - length rest })
    plays r w e =
        let z : length rest ≡ length s - b.by = ap length b.is ∙ length-drop b.by s in
        let y : length s - length rest ≡ b.by = omega (arith, b.within) in
        let x : drop (length s - length rest) s ≡ rest = rw y (sym b.is) in
        record { short = l; scans = r; prints = e; within = omega arith; ahead = rw x w }

    by-scans : (g : Read (List (List Change))) → read_to_end n rest ≡ g → Means t s (judged_all marks n (record { at = length s - length rest }) g)
    unfolding judged_all recorded
    by-scans (fault c) e = short-is l ∙ ap (recorded t) (q ∙ e)
    by-scans (got r left) e =
        let w : ToEnd n rest r = to_end n rest left r e in
        go (any_marked marks r) (scans-same (driven t) marks h n rest [] r w.is) w
      where
        go : (m : Bool) → m ≡ any_driven (driven t) r → ToEnd n rest r → Means t s (when m then Err Driven else Ok (n, record { at = length s - length rest }))
        go true k w = short-is l ∙ ap (recorded t) (q ∙ e) ∙ rw (← k)
        go false k w = plays r w (short-is l ∙ ap (recorded t) (q ∙ e) ∙ rw (← k))

  by_count : length s ≤ most_image → (g : Read ℕ) → num s ≡ g → Tail s g → Means t s (judged_count marks (length s) g)
  unfolding judged_count
  by_count l (fault c) e w = short-is l ∙ ap (recorded t) (read-nothing s e) ∙ no_recording t c
  by_count l (got n rest) e (tail_got b) = by-scans l n rest b (read_on s e) (read_to_end n rest) refl

  pub means : Means t s (judged_of marks s)
  unfolding judged_of
  means = go (leb (length s) most_image) refl
    where
      go : (b : Bool) → leb (length s) most_image ≡ b → Means t s (when b then judged_count marks (length s) (num s) else Err Broken)
      go true e = by_count (leb-true (length s) most_image e) (num s) refl (num_tail s)
      go false e = too_long_lem s t e

  pub means_broken : judged_of marks s ≡ Err Broken → with_recording s t ≡ stopped bad_recording
  means_broken e = subst (Means t s) e means

  pub means-driven : judged_of marks s ≡ Err Driven → with_recording s t ≡ stopped driven_change
  means-driven e = subst (Means t s) e means

  pub means-kept : {n : ℕ} {c : Cursor} → judged_of marks s ≡ Ok (n, c) → Plays t s n c
  means-kept e = subst (Means t s) e means

-- ---- one scan after another

-- of scans that lie ahead, the changes of the first are in the points, and the others lie behind the place r
pub record OneTaken (n : ℕ) (u : List ℕ) (scans : List (List Change)) (points : List ℕ) (at : ℕ) (points' : List ℕ) (r : Cursor) : Type 0 where
  pub changes : List Change
  pub later : List (List Change)
  pub scans-are : scans ≡ changes ∷ later
  pub points-are : points' ≡ changed changes points
  pub ahead : ToEnd (n - 1) (drop (r.at - at) u) later

module _ {n : ℕ} {u : List ℕ} {scans : List (List Change)} (some : 0 < n) (w : ToEnd n u scans) where
  -- the first scan, what is left behind it, and the others
  parts : (c : List Change) × (rest : List ℕ) × (l : List (List Change)) × (read_scan u ≡ got c rest) × (read_scans (n - 1) rest ≡ got l []) × (scans ≡ c ∷ l)
  parts =
      let a = next-got (read_scan u) _ scans [] (sym (scans-more n u some) ∙ w.is) in
      let b = next-got (read_scans (n - 1) a.1) _ scans [] a.3 in
      (a.0, a.1, b.0, a.2, b.2 ∙ ap (got b.0) (got-rest (a.0 ∷ b.0) scans b.1 [] b.3), sym (got-value (a.0 ∷ b.0) scans b.1 [] b.3))

  pub next-readable : Readable (read_scan u)
  next-readable = let p = parts in record { changes = p.0; rest = p.1; is = p.3 }

  pub one-taken : {points : List ℕ} {at : ℕ} {points' : List ℕ} {r : Cursor} → Taken (read_scan u) points at u points' r → OneTaken n u scans points at points' r
  one-taken {points} {at} {points'} {r} t =
      let p = parts in
      let e : got (changed p.0 points) p.1 ≡ got points' (drop (r.at - at) u) = sym (ap (kept (λ l. changed l points)) p.3) ∙ t.is in
      let z : p.1 ≡ drop (r.at - at) u = got-rest (changed p.0 points) points' p.1 (drop (r.at - at) u) e in
      let q : read_scans (n - 1) (drop (r.at - at) u) ≡ got p.2 [] = ap (read_scans (n - 1)) (sym z) ∙ p.4 in
      record {
        changes = p.0;
        later = p.2;
        scans-are = p.5;
        points-are = sym (got-value (changed p.0 points) points' p.1 (drop (r.at - at) u) e);
        ahead = record { is = q; count = scans_many (n - 1) (drop (r.at - at) u) [] p.2 q };
      }
