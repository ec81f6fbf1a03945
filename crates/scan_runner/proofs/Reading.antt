-- What was read of a recording: its values are 0 or 1, each scan has a byte at least, and one scan more.
use mathlib.Core.Path.{◌≡◌, sym, ap, ◌∙◌, subst}
use Prim.Native.Nat.{ℕ, zero, suc, ◌-◌, ◌≤◌, ◌<◌}
use native.Mathlib.Omega.{arith}
use mathlib.Core.Bool.{Bool, true, false}
use mathlib.Core.List.{List, [], ◌∷◌}
use lib.Dec.{leb}
use lib.ListN.{length, take, drop, length-drop}
use lib.Seq.{take-length}
use Rattle.std.specs.Prelude.{Ok, Err}
use Rattle.model.specs.Choice.{when◌then◌else◌}
use Rattle.model.specs.Reading.{Read, got, fault, num}
use Rattle.codec_laws.proofs.NumberTrip.{got-value, got-rest, fault≢got}
use Rattle.codec_laws.proofs.Sequence.{next-got}
use Rattle.numbers.specs.Limits.{most_image}
use Rattle.numbers.specs.declared.Cursor.{Cursor}
use Rattle.numbers.proofs.Tails.{Shrinks, shrinks_got, shrinks_fault, shrinks_next, num_shrinks}
use Rattle.requests.specs.Recording.{Change, read_change, read_changes, read_scan, read_scans, read_to_end}
use Rattle.requests.proofs.Binary.{BinaryChanges, BinaryScans}
use Rattle.requests.proofs.Recordings.{change-fits}
use Rattle.recordings.specs.declared.RecordingRefusal.TheVariants.{Broken, Driven}
use Rattle.recordings.specs.Judging.{Judged, any_marked, judged_all, judged_count, judged_of}
use Rattle.recordings.proofs.Checking.{changes_tail}
use Rattle.scan_lines.specs.Lengths.{most_scans}

-- ---- a slice to the end

pub to_end : (l : List ℕ) (n : ℕ) → take (length l - n) (drop n l) ≡ drop n l
to_end l n = rw (← length-drop n l) (take-length (drop n l))

-- ---- values are 0 or 1

changes-binary : (n least : ℕ) (s rest : List ℕ) (l : List Change) → read_changes n least s ≡ got l rest → BinaryChanges l
unfolding read_changes
changes-binary zero least s rest l e = subst BinaryChanges (got-value [] l s rest e) tt
changes-binary (suc n) least s rest l e =
    let a = next-got (read_change least s) _ l rest e in
    let b = next-got (read_changes n (suc a.0.place) a.1) _ l rest a.3 in
    subst BinaryChanges (got-value (a.0 ∷ b.0) l b.1 rest b.3)
    ((change-fits least s a.1 a.0 a.2).1, changes-binary n (suc a.0.place) a.1 b.1 b.0 b.2)

pub scan-binary : (s rest : List ℕ) (l : List Change) → read_scan s ≡ got l rest → BinaryChanges l
unfolding read_scan
scan-binary s rest l e = let a = next-got (num s) _ l rest e in changes-binary a.0 0 a.1 rest l a.3

-- ---- the first of several scans

pub record First (n : ℕ) (s : List ℕ) (r : List (List Change)) : Type 0 where
  pub changes : List Change
  pub mid : List ℕ
  pub others : List (List Change)
  pub reads : read_scan s ≡ got changes mid
  pub reads-others : read_scans n mid ≡ got others []
  pub is : r ≡ changes ∷ others

pub first_of : (n : ℕ) (s : List ℕ) (r : List (List Change)) → read_scans (suc n) s ≡ got r [] → First n s r
unfolding read_scans
first_of n s r e =
    let a = next-got (read_scan s) _ r [] e in
    let b = next-got (read_scans n a.1) _ r [] a.3 in
    record {
      changes = a.0;
      mid = a.1;
      others = b.0;
      reads = a.2;
      reads-others = b.2 ∙ ap (got b.0) (got-rest (a.0 ∷ b.0) r b.1 [] b.3);
      is = sym (got-value (a.0 ∷ b.0) r b.1 [] b.3);
    }

pub none_left : (s : List ℕ) (r : List (List Change)) → read_scans 0 s ≡ got r [] → r ≡ []
unfolding read_scans
none_left s r e = sym (got-value [] r s [] e)

pub scans-binary : (n : ℕ) (s : List ℕ) (r : List (List Change)) → read_scans n s ≡ got r [] → BinaryScans r
scans-binary zero s r e = subst BinaryScans (sym (none_left s r e)) tt
scans-binary (suc n) s r e =
    let f = first_of n s r e in
    subst BinaryScans (sym f.is) (scan-binary s f.mid f.changes f.reads, scans-binary n f.mid f.others f.reads-others)

pub scans_many : (n : ℕ) (s : List ℕ) (r : List (List Change)) → read_scans n s ≡ got r [] → length r ≡ n
scans_many zero s r e = ap length (none_left s r e)
scans_many (suc n) s r e = let f = first_of n s r e in ap length f.is ∙ ap suc (scans_many n f.mid f.others f.reads-others)

-- ---- each scan has a byte at least, and their count too

scan_shrinks : (s : List ℕ) → Shrinks s (read_scan s)
unfolding read_scan
scan_shrinks s = shrinks_next _ (num_shrinks s) (λ n t. changes_tail n 0 t)

shorter : {A : Type 0} {a : A} {s rest : List ℕ} {g : Read A} → g ≡ got a rest → Shrinks s g → length rest < length s
shorter {a = a} {rest = rest} e (shrinks_got {rest = t} k) = let z = got-rest _ a t rest e in let l = ap length z in omega arith
shorter {a = a} {rest = rest} e (shrinks_fault {r = c}) = absurd (fault≢got c a rest e)

scans-bytes : (n : ℕ) (s : List ℕ) (r : List (List Change)) → read_scans n s ≡ got r [] → n ≤ length s
scans-bytes zero s r e = omega arith
scans-bytes (suc n) s r e =
    let f = first_of n s r e in
    let k = shorter f.reads (scan_shrinks s) in
    let m = scans-bytes n f.mid f.others f.reads-others in
    omega arith

first-behind : (marks s : List ℕ) (n : ℕ) (c : Cursor) → judged_of marks s ≡ Ok (n, c) → 0 < c.at
unfolding judged_of judged_count judged_all
first-behind marks s n c = go (leb (length s) most_image)
  where
    scans : (m : ℕ) (a : Cursor) (g : Read (List (List Change))) → judged_all marks m a g ≡ Ok (n, c) → a ≡ c
    scans m a (got r rest) d = by (any_marked marks r) d
      where
        by : (b : Bool) → when◌then◌else◌ {A = Judged} b (Err Driven) (Ok (m, a)) ≡ Ok (n, c) → a ≡ c
        by true e = absurd (let z : ◌≡◌ {A = ℕ} 0 1 = cc in omega arith)
        by false e = let z : ◌≡◌ {A = ℕ × Cursor} (m, a) (n, c) = cc in ap (λ (p : ℕ × Cursor). p.1) z
    scans m a (fault f) e = absurd (let z : ◌≡◌ {A = ℕ} 0 1 = cc in omega arith)

    count : (g : Read ℕ) → Shrinks s g → judged_count marks (length s) g ≡ Ok (n, c) → 0 < c.at
    count (got m rest) (shrinks_got k) e = let z = ap (λ (a : Cursor). a.at) (scans m (record { at = length s - length rest }) (read_to_end m rest) e) in omega arith
    count (fault f) k e = absurd (let z : ◌≡◌ {A = ℕ} 0 1 = cc in omega arith)

    go : (b : Bool) → (when b then judged_count marks (length s) (num s) else Err Broken) ≡ Ok (n, c) → 0 < c.at
    go true e = count (num s) (num_shrinks s) e
    go false e = absurd (let z : ◌≡◌ {A = ℕ} 0 1 = cc in omega arith)

pub scans-fit : (marks s : List ℕ) (n : ℕ) (c : Cursor) → judged_of marks s ≡ Ok (n, c) → length s ≤ most_image → c.at ≤ length s → (r : List (List Change))
    → read_scans n (drop c.at s) ≡ got r [] → n < most_scans
scans-fit marks s n c j short within r e =
    let f = first-behind marks s n c j in
    let b = scans-bytes n (drop c.at s) r e in
    let l = length-drop c.at s in
    omega arith
