-- T-02: what every rung keeps, a scan's rungs keep.
use Prim.Native.Nat.{ℕ, suc, ◌+◌}
use mathlib.Core.List.{List, ◌∷◌}
use lib.ListN.{length}
use Rattle.model.specs.Trees.{Tree, var, app, fun, datum, lst, stx, Trees, tnil, tcons}
use Rattle.requests.specs.Panel as p
use Rattle.requests.specs.Panel.{Word, bit, and, or, out, all, free, head_word, bits_of}
use Rattle.requests.specs.Scanning.{State, Bit, out_rung, set_rung, work_of, work, work_inside, work_all}

module _ (P : State → Type 0) (by_out : (around : List Bit) (l : Trees) (s : State) → P s → P (out_rung around l s)) (by-set : (around : List Bit) (l : Trees) (s : State) → P s → P (set_rung around l s)) where
  of_keeps : (w : Word) (around : List Bit) (l : Trees) (s body parts : State) → P s → P body → P parts → P (work_of w around l s body parts)
  unfolding work_of
  of_keeps bit around l s body parts h b q = b
  of_keeps and around l s body parts h b q = h
  of_keeps or around l s body parts h b q = h
  of_keeps p.not around l s body parts h b q = h
  of_keeps out around l s body parts h b q = by_out around l s h
  of_keeps p.set around l s body parts h b q = by-set around l s h
  of_keeps all around l s body parts h b q = q
  of_keeps free around l s body parts h b q = h

  mutual
    unfolding work work_inside work_all

    pub work-keeps : (around : List Bit) (next : ℕ) (t : Tree) (s : State) → P s → P (work around next t s)
    work-keeps around next (var n) s h = h
    work-keeps around next (app f l) s h =
        of_keeps (head_word f) around l s (work_inside around next f s) (work_all around next l s) h (inside-keeps around next f s h) (all_keep around next l s h)
    work-keeps around next (fun n b) s h = h
    work-keeps around next (datum a) s h = h
    work-keeps around next (lst l) s h = h
    work-keeps around next (stx x) s h = h

    inside-keeps : (around : List Bit) (next : ℕ) (t : Tree) (s : State) → P s → P (work_inside around next t s)
    inside-keeps around next (var n) s h = h
    inside-keeps around next (app f l) s h = h
    inside-keeps around next (fun n b) s h = work-keeps (record { name = n; address = next } ∷ around) (suc next) b s h
    inside-keeps around next (datum a) s h = h
    inside-keeps around next (lst l) s h = h
    inside-keeps around next (stx x) s h = h

    all_keep : (around : List Bit) (next : ℕ) (l : Trees) (s : State) → P s → P (work_all around next l s)
    all_keep around next tnil s h = h
    all_keep around next (tcons t l) s h = all_keep around (next + length (bits_of t)) l (work around next t s) (work-keeps around next t s h)
