-- T-02: a bit that no `set` writes keeps its start value.
use mathlib.Core.Path.{◌≡◌, refl, ap, ◌∙◌}
use Prim.Native.Nat.{ℕ, suc, ◌+◌}
use mathlib.Core.Bool.{false}
use mathlib.Core.List.{List, [], ◌∷◌}
use lib.ListN.{length, get_or}
use lib.Seq.{get_or-set_other}
use Rattle.model.specs.Objects.{symbol, number, point, prim, rung}
use Rattle.model.specs.Trees.{Tree, var, app, fun, datum, lst, stx, Trees, tnil, tcons}
use Rattle.model.specs.Meanings.{is_among}
use Rattle.requests.specs.Panel as p
use Rattle.requests.specs.Panel.{Word, bit, and, or, out, all, free, head_word, bits_of}
use Rattle.requests.specs.Recording.{Change}
use Rattle.requests.specs.Scanning.{State, at_start, starts, Bit, address_in, value_of_first, write_point, write_bit, drive, assign, out_rung, set_rung, work_of, work, work_inside, work_all, change, scan, scans}
use Rattle.requests.specs.Written.{address_of, first_address, assigned_of, assigned, assigned_inside, assigned_all}
use Rattle.requests.proofs.Undriven.{not-among, among_neither}

module _ (x : ℕ) where
  abbrev SameBit : State → State → Type 0
  SameBit s₀ s = get_or s.bits x 0 ≡ get_or s₀.bits x 0

  assign_other : (around : List Bit) (q : Tree) (v : ℕ) (s : State) → is_among x (address_of around q) ≡ false → SameBit s (assign around q v s)
  unfolding assign address_of write_bit
  assign_other around (var n) v s e = get_or-set_other s.bits (address_in around n) x v 0 (not-among x (address_in around n) e)
  assign_other around (app f l) v s e = refl
  assign_other around (fun n b) v s e = refl
  assign_other around (datum a) v s e = refl
  assign_other around (lst l) v s e = refl
  assign_other around (stx y) v s e = refl

  set_other : (around : List Bit) (l : Trees) (s : State) → is_among x (first_address around l) ≡ false → SameBit s (set_rung around l s)
  unfolding set_rung first_address
  set_other around tnil s e = refl
  set_other around (tcons q l) s e = assign_other around q (value_of_first around s l) s e

  drive-bits : (q : Tree) (v : ℕ) (s : State) → (drive q v s).bits ≡ s.bits
  unfolding drive write_point
  drive-bits (var n) v s = refl
  drive-bits (app f l) v s = refl
  drive-bits (fun n b) v s = refl
  drive-bits (datum (symbol y)) v s = refl
  drive-bits (datum (number y)) v s = refl
  drive-bits (datum (point y)) v s = refl
  drive-bits (datum (prim y)) v s = refl
  drive-bits (datum (rung y)) v s = refl
  drive-bits (lst l) v s = refl
  drive-bits (stx y) v s = refl

  out-bits : (around : List Bit) (l : Trees) (s : State) → (out_rung around l s).bits ≡ s.bits
  unfolding out_rung
  out-bits around tnil s = refl
  out-bits around (tcons q l) s = drive-bits q (value_of_first around s l) s

  of_unset : (w : Word) (around : List Bit) (l : Trees) (s body parts : State) (d e : List ℕ)
      → (is_among x d ≡ false → SameBit s body) → (is_among x e ≡ false → SameBit s parts)
      → is_among x (assigned_of w around l d e) ≡ false → SameBit s (work_of w around l s body parts)
  unfolding work_of assigned_of
  of_unset bit around l s body parts d e f g h = f h
  of_unset and around l s body parts d e f g h = refl
  of_unset or around l s body parts d e f g h = refl
  of_unset p.not around l s body parts d e f g h = refl
  of_unset out around l s body parts d e f g h = ap (λ (z : List ℕ). get_or z x 0) (out-bits around l s)
  of_unset p.set around l s body parts d e f g h = set_other around l s h
  of_unset all around l s body parts d e f g h = g h
  of_unset free around l s body parts d e f g h = refl

  mutual
    unfolding work work_inside work_all assigned assigned_inside assigned_all

    pub work_unset : (around : List Bit) (next : ℕ) (t : Tree) (s : State) → is_among x (assigned around next t) ≡ false → SameBit s (work around next t s)
    work_unset around next (var n) s h = refl
    work_unset around next (app f l) s h =
        of_unset (head_word f) around l s (work_inside around next f s) (work_all around next l s) (assigned_inside around next f) (assigned_all around next l)
        (λ e. inside_unset around next f s e) (λ e. all_unset around next l s e) h
    work_unset around next (fun n b) s h = refl
    work_unset around next (datum a) s h = refl
    work_unset around next (lst l) s h = refl
    work_unset around next (stx y) s h = refl

    inside_unset : (around : List Bit) (next : ℕ) (t : Tree) (s : State) → is_among x (assigned_inside around next t) ≡ false → SameBit s (work_inside around next t s)
    inside_unset around next (var n) s h = refl
    inside_unset around next (app f l) s h = refl
    inside_unset around next (fun n b) s h = work_unset (record { name = n; address = next } ∷ around) (suc next) b s h
    inside_unset around next (datum a) s h = refl
    inside_unset around next (lst l) s h = refl
    inside_unset around next (stx y) s h = refl

    all_unset : (around : List Bit) (next : ℕ) (l : Trees) (s : State) → is_among x (assigned_all around next l) ≡ false → SameBit s (work_all around next l s)
    all_unset around next tnil s h = refl
    all_unset around next (tcons t l) s h =
        let n = among_neither x (assigned around next t) (assigned_all around (next + length (bits_of t)) l) h in
        all_unset around (next + length (bits_of t)) l (work around next t s) n.1 ∙ work_unset around next t s n.0

  scan_unset : (t : Tree) → is_among x (assigned [] 0 t) ≡ false → (c : List Change) (s : State) → SameBit s (scan t c s)
  unfolding scan change
  scan_unset t d c s = work_unset [] 0 t (change c s) d

  pub scans_unset : (t : Tree) → is_among x (assigned [] 0 t) ≡ false → (r : List (List Change)) (s : State) → SameBit s (scans t r s)
  unfolding scans
  scans_unset t d [] s = refl
  scans_unset t d (c ∷ r) s = scans_unset t d r (scan t c s) ∙ scan_unset t d c s

start-bit : (t : Tree) (a : ℕ) → get_or (at_start t).bits a 0 ≡ get_or (starts t) a 0
unfolding at_start
start-bit t a = refl

pub unset_keeps_start : (t : Tree) (a : ℕ) → is_among a (assigned [] 0 t) ≡ false → (r : List (List Change))
    → get_or (scans t r (at_start t)).bits a 0 ≡ get_or (starts t) a 0
unset_keeps_start t a d r = scans_unset a t d r (at_start t) ∙ start-bit t a
