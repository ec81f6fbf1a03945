-- T-02: a point that no rung drives has what was recorded last for it, or 0; and the number of points stays.
use mathlib.Core.Path.{◌≡◌, refl, sym, ap, ◌∙◌, subst}
use mathlib.Core.Logic.{◌≢◌}
use Prim.Native.Nat.{ℕ, suc, ◌+◌, ◌<◌}
use mathlib.Core.Bool.{Bool, true, false, ◌||◌, false≢true}
use mathlib.Core.List.{List, [], ◌∷◌, ◌++◌}
use lib.Dec.{eqb}
use lib.ListN.{length, get_or, set, length-set, length-replicate, get_or-replicate}
use lib.Seq.{get_or-set_same, get_or-set_other}
use borrow.Author.Tests.{eqb-true, eqb-false}
use Rattle.model.specs.Choice.{when◌then◌else◌}
use Rattle.model.specs.Limits.{last_point}
use Rattle.model.specs.Objects.{symbol, number, point, prim, rung}
use Rattle.model.specs.Trees.{Tree, var, app, fun, datum, lst, stx, Trees, tnil, tcons}
use Rattle.model.specs.Meanings.{is_among}
use Rattle.requests.specs.Panel as p
use Rattle.requests.specs.Panel.{Word, bit, and, or, out, all, free, head_word, bits_of, point_of, first_point, driven_of, driven, driven_inside, driven_all}
use Rattle.requests.specs.Recording.{Change}
use Rattle.requests.specs.Scanning.{State, at_start, Bit, value_of_first, write_point, write_bit, drive, assign, out_rung, set_rung, work_of, work, work_inside, work_all, changed, change, scan, scans}
use Rattle.requests.specs.Written.{recorded_in, recorded_last}
use Rattle.requests.proofs.Rungs.{work-keeps}

-- ---- a point that is not driven keeps what the changes gave it

pub not-among : (x y : ℕ) → is_among x (y ∷ []) ≡ false → x ≢ y
unfolding is_among
not-among x y e = go (eqb x y) refl e
  where
    go : (t : Bool) → eqb x y ≡ t → (t || false) ≡ false → x ≢ y
    go true p q = absurd (false≢true (sym q))
    go false p q = eqb-false x y p

pub among_neither : (x : ℕ) (a b : List ℕ) → is_among x (a ++ b) ≡ false → (is_among x a ≡ false) × (is_among x b ≡ false)
unfolding is_among
among_neither x [] b e = (refl, e)
among_neither x (y ∷ a) b e = go (eqb x y) e (λ q. among_neither x a b q)
  where
    go : (t : Bool) → (t || is_among x (a ++ b)) ≡ false → (is_among x (a ++ b) ≡ false → (is_among x a ≡ false) × (is_among x b ≡ false))
        → ((t || is_among x a) ≡ false) × (is_among x b ≡ false)
    go true q f = absurd (false≢true (sym q))
    go false q f = f q

module _ (x : ℕ) where
  -- point x in s is as in s₀
  abbrev SamePoint : State → State → Type 0
  SamePoint s₀ s = get_or s.points x 0 ≡ get_or s₀.points x 0

  drive-other : (q : Tree) (v : ℕ) (s : State) → is_among x (point_of q) ≡ false → SamePoint s (drive q v s)
  unfolding drive point_of write_point
  drive-other (var n) v s e = refl
  drive-other (app f l) v s e = refl
  drive-other (fun n b) v s e = refl
  drive-other (datum (symbol y)) v s e = refl
  drive-other (datum (number y)) v s e = refl
  drive-other (datum (point y)) v s e = get_or-set_other s.points y x v 0 (not-among x y e)
  drive-other (datum (prim y)) v s e = refl
  drive-other (datum (rung y)) v s e = refl
  drive-other (lst l) v s e = refl
  drive-other (stx y) v s e = refl

  out-other : (around : List Bit) (l : Trees) (s : State) → is_among x (first_point l) ≡ false → SamePoint s (out_rung around l s)
  unfolding out_rung first_point
  out-other around tnil s e = refl
  out-other around (tcons q l) s e = drive-other q (value_of_first around s l) s e

  assign-points : (around : List Bit) (q : Tree) (v : ℕ) (s : State) → (assign around q v s).points ≡ s.points
  unfolding assign write_bit
  assign-points around (var n) v s = refl
  assign-points around (app f l) v s = refl
  assign-points around (fun n b) v s = refl
  assign-points around (datum a) v s = refl
  assign-points around (lst l) v s = refl
  assign-points around (stx y) v s = refl

  set-points : (around : List Bit) (l : Trees) (s : State) → (set_rung around l s).points ≡ s.points
  unfolding set_rung
  set-points around tnil s = refl
  set-points around (tcons q l) s = assign-points around q (value_of_first around s l) s

  of_undriven : (w : Word) (around : List Bit) (l : Trees) (s body parts : State) (d e : List ℕ)
      → (is_among x d ≡ false → SamePoint s body) → (is_among x e ≡ false → SamePoint s parts)
      → is_among x (driven_of w l d e) ≡ false → SamePoint s (work_of w around l s body parts)
  unfolding work_of driven_of
  of_undriven bit around l s body parts d e f g h = f h
  of_undriven and around l s body parts d e f g h = refl
  of_undriven or around l s body parts d e f g h = refl
  of_undriven p.not around l s body parts d e f g h = refl
  of_undriven out around l s body parts d e f g h = out-other around l s h
  of_undriven p.set around l s body parts d e f g h = ap (λ (z : List ℕ). get_or z x 0) (set-points around l s)
  of_undriven all around l s body parts d e f g h = g h
  of_undriven free around l s body parts d e f g h = refl

  mutual
    unfolding work work_inside work_all driven driven_inside driven_all

    pub work_undriven : (around : List Bit) (next : ℕ) (t : Tree) (s : State) → is_among x (driven t) ≡ false → SamePoint s (work around next t s)
    work_undriven around next (var n) s h = refl
    work_undriven around next (app f l) s h =
        of_undriven (head_word f) around l s (work_inside around next f s) (work_all around next l s) (driven_inside f) (driven_all l)
        (λ e. inside_undriven around next f s e) (λ e. all_undriven around next l s e) h
    work_undriven around next (fun n b) s h = refl
    work_undriven around next (datum a) s h = refl
    work_undriven around next (lst l) s h = refl
    work_undriven around next (stx y) s h = refl

    inside_undriven : (around : List Bit) (next : ℕ) (t : Tree) (s : State) → is_among x (driven_inside t) ≡ false → SamePoint s (work_inside around next t s)
    inside_undriven around next (var n) s h = refl
    inside_undriven around next (app f l) s h = refl
    inside_undriven around next (fun n b) s h = work_undriven (record { name = n; address = next } ∷ around) (suc next) b s h
    inside_undriven around next (datum a) s h = refl
    inside_undriven around next (lst l) s h = refl
    inside_undriven around next (stx y) s h = refl

    all_undriven : (around : List Bit) (next : ℕ) (l : Trees) (s : State) → is_among x (driven_all l) ≡ false → SamePoint s (work_all around next l s)
    all_undriven around next tnil s h = refl
    all_undriven around next (tcons t l) s h =
        let n = among_neither x (driven t) (driven_all l) h in
        all_undriven around (next + length (bits_of t)) l (work around next t s) n.1 ∙ work_undriven around next t s n.0

-- ---- how many points and bits there are does not change

abbrev Sized : ℕ → State → Type 0
Sized n s = length s.points ≡ n

point-sized : (n x v : ℕ) (s : State) → Sized n s → Sized n (write_point x v s)
unfolding write_point
point-sized n x v s h = length-set s.points x v ∙ h

drive-sized : (n : ℕ) (q : Tree) (v : ℕ) (s : State) → Sized n s → Sized n (drive q v s)
unfolding drive
drive-sized n (var y) v s h = h
drive-sized n (app f l) v s h = h
drive-sized n (fun y b) v s h = h
drive-sized n (datum (symbol y)) v s h = h
drive-sized n (datum (number y)) v s h = h
drive-sized n (datum (point y)) v s h = point-sized n y v s h
drive-sized n (datum (prim y)) v s h = h
drive-sized n (datum (rung y)) v s h = h
drive-sized n (lst l) v s h = h
drive-sized n (stx y) v s h = h

out-sized : (n : ℕ) (around : List Bit) (l : Trees) (s : State) → Sized n s → Sized n (out_rung around l s)
unfolding out_rung
out-sized n around tnil s h = h
out-sized n around (tcons q l) s h = drive-sized n q (value_of_first around s l) s h

set-sized : (n : ℕ) (around : List Bit) (l : Trees) (s : State) → Sized n s → Sized n (set_rung around l s)
set-sized n around l s h = ap length (set-points 0 around l s) ∙ h

changed-sized : (c : List Change) (points : List ℕ) → length (changed c points) ≡ length points
unfolding changed
changed-sized [] points = refl
changed-sized (c ∷ l) points = changed-sized l (set points c.place c.value) ∙ length-set points c.place c.value

change-sized : (n : ℕ) (c : List Change) (s : State) → Sized n s → Sized n (change c s)
unfolding change
change-sized n c s h = changed-sized c s.points ∙ h

pub scan-sized : (n : ℕ) (t : Tree) (c : List Change) (s : State) → Sized n s → Sized n (scan t c s)
unfolding scan
scan-sized n t c s h = work-keeps (Sized n) (out-sized n) (set-sized n) [] 0 t (change c s) (change-sized n c s h)

-- ---- so an undriven point shows what was recorded last

written_at : (l : List ℕ) (y v x : ℕ) → x < length l → get_or (set l y v) x 0 ≡ (when eqb x y then v else get_or l x 0)
written_at l y v x h = go (eqb x y) refl
  where
    go : (t : Bool) → eqb x y ≡ t → get_or (set l y v) x 0 ≡ (when t then v else get_or l x 0)
    go true e =
        let q = eqb-true x y e in
        ap (λ (z : ℕ). get_or (set l y v) z 0) q ∙ get_or-set_same l y v 0 (subst (λ (z : ℕ). z < length l) q h)
    go false e = get_or-set_other l y x v 0 (eqb-false x y e)

changed_records : (x : ℕ) (c : List Change) (points : List ℕ) → x < length points → get_or (changed c points) x 0 ≡ recorded_in x c (get_or points x 0)
unfolding changed recorded_in
changed_records x [] points h = refl
changed_records x (c ∷ l) points h =
    let k : x < length (set points c.place c.value) = rw (length-set points c.place c.value) h in
    changed_records x l (set points c.place c.value) k ∙ ap (λ (z : ℕ). recorded_in x l z) (written_at points c.place c.value x h)

change_records : (n x : ℕ) → x < n → (c : List Change) (s : State) → Sized n s → get_or (change c s).points x 0 ≡ recorded_in x c (get_or s.points x 0)
unfolding change
change_records n x h c s k = changed_records x c s.points (subst (λ (z : ℕ). x < z) (sym k) h)

scan_records : (n x : ℕ) → x < n → (t : Tree) → is_among x (driven t) ≡ false → (c : List Change) (s : State) → Sized n s
    → get_or (scan t c s).points x 0 ≡ recorded_in x c (get_or s.points x 0)
unfolding scan
scan_records n x h t d c s k = work_undriven x [] 0 t (change c s) d ∙ change_records n x h c s k

pub scans-record : (n x : ℕ) → x < n → (t : Tree) → is_among x (driven t) ≡ false → (r : List (List Change)) (s : State) → Sized n s
    → get_or (scans t r s).points x 0 ≡ recorded_last x r (get_or s.points x 0)
unfolding scans recorded_last
scans-record n x h t d [] s k = refl
scans-record n x h t d (c ∷ r) s k =
    scans-record n x h t d r (scan t c s) (scan-sized n t c s k) ∙ ap (λ (z : ℕ). recorded_last x r z) (scan_records n x h t d c s k)

start-sized : (t : Tree) → Sized 1024 (at_start t)
unfolding at_start last_point
start-sized t = length-replicate {A = ℕ} 1024 0

start-zero : (t : Tree) (x : ℕ) → x < 1024 → get_or (at_start t).points x 0 ≡ 0
unfolding at_start last_point
start-zero t x h = get_or-replicate 1024 x 0 0 h

pub undriven_shows_recorded : (t : Tree) (x : ℕ) → x < 1024 → is_among x (driven t) ≡ false → (r : List (List Change))
    → get_or (scans t r (at_start t)).points x 0 ≡ recorded_last x r 0
undriven_shows_recorded t x h d r =
    scans-record 1024 x h t d r (at_start t) (start-sized t) ∙ ap (λ (z : ℕ). recorded_last x r z) (start-zero t x h)
