-- What the code takes, the definition reads.
use Prim.Native.Nat.{ℕ, zero, suc, ◌-◌}
use mathlib.Core.Path.{◌≡◌, refl, sym, ap, ◌∙◌}
use mathlib.Core.Bool.{true, not, false≢true, ◌&&◌}
use mathlib.Core.List.{List}
use native.Mathlib.Omega.{arith}
use lib.Dec.{eqb, leb}
use lib.ListN.{get_or, set}
use Rattle.std.specs.Prelude.{Option, Some, None}
use borrow.Author.Tests.{le-leb, eqb-true}
use Rattle.model.specs.Refusals.{layout, over_limit}
use Rattle.model.specs.Limits.{last_point, last_rung_word}
use Rattle.model.specs.Objects.{number, point, rung, Stx}
use Rattle.model.specs.Trees.{Tree, var, app, fun, datum, Trees, tnil, tcons}
use Rattle.model.specs.Reading as m
use Rattle.model.specs.Reading.{Reader, got, next, need, num, num_up_to, num_below, read_atom, read_stx, read_trees, read_app, read_tree_body, read_tree}
use Rattle.laws.proofs.Tests.{and_both}
use Rattle.codec_laws.proofs.NumberTrip.{fault≢got}
use Rattle.codec_laws.proofs.Sequence.{next-got, need-got}
use Rattle.profile.specs.declared.rules.Wanted.{Wanted}
use Rattle.profile.specs.declared.rules.Wanted.TheVariants.{Program, Expression, Point, Variable, Start}
use Rattle.profile.specs.declared.rules.Rule.{Rule}
use Rattle.profile.specs.Rules.{takes_count, takes_variable, takes_point, takes_atom}
use Rattle.profile.specs.Taking.{take_variable, take_atom, take_word, take_all, take_arguments, bit_with, head_by, take_head, take_application, take_body, take_tree}
use Rattle.profile.proofs.Suits.{none-taken}

-- something is read, up to here
pub record Reads {A : Type 0} (g : m.Read A) (rest : List ℕ) : Type 0 where
  pub value : A
  pub is : g ≡ got value rest

then_got : {A B : Type 0} (g : m.Read A) (x : A) (u : List ℕ) (j : A → Reader B) (y : m.Read B) → g ≡ got x u → j x u ≡ y → next g j ≡ y
then_got g x u j y e d = rw e d

got_tail : {A : Type 0} (x y : A) (u v : List ℕ) → got x u ≡ got y v → u ≡ v
got_tail x y u v e = cc

-- ---- what has no parts

variable-reads : (names : ℕ) (table : List ℕ) (w : Wanted) (s rest : List ℕ) → take_variable names table w s ≡ got tt rest → Reads (num_below names s) rest
unfolding take_variable
variable-reads names table w s rest e =
    let g = next-got (num_below names s) _ tt rest e in
    let n = next-got (need layout (not (eqb (get_or table g.0 0) 0)) g.1) _ tt rest g.3 in
    let q = need-got layout (not (eqb (get_or table g.0 0) 0)) n.0 g.1 n.1 n.2 in
    let p = need-got layout (takes_variable w) tt n.1 rest n.3 in
    record { value = g.0; is = g.2 ∙ ap (got g.0) (q.1 ∙ p.1) }

point-read : (h : m.Head) (k x : ℕ) (u rest : List ℕ) → takes_point k x ≡ true → num u ≡ got x rest → Reads (read_atom h k u) rest
unfolding takes_point read_atom num_up_to last_point
point-read h k x u rest t e =
    let b = and_both (eqb k 2) (leb x 1023) t in
    record { value = point x; is = rw (eqb-true k 2 b.0, e, b.1) }

number_read : (h : m.Head) (k x : ℕ) (u rest : List ℕ) → (eqb k 1 && leb x 1) ≡ true → num u ≡ got x rest → Reads (read_atom h k u) rest
unfolding read_atom
number_read h k x u rest t e =
    let b = and_both (eqb k 1) (leb x 1) t in
    record { value = number x; is = rw (eqb-true k 1 b.0, e) }

atom-read : (h : m.Head) (w : Wanted) (k x : ℕ) (u rest : List ℕ) → takes_atom w k x ≡ true → num u ≡ got x rest → Reads (read_atom h k u) rest
unfolding takes_atom
atom-read h Program k x u rest t e = absurd (false≢true t)
atom-read h Expression k x u rest t e = point-read h k x u rest t e
atom-read h Point k x u rest t e = point-read h k x u rest t e
atom-read h Variable k x u rest t e = absurd (false≢true t)
atom-read h Start k x u rest t e = number_read h k x u rest t e

-- the kind, and the atom
record AtomAt (h : m.Head) (s rest : List ℕ) : Type 0 where
  kind : ℕ
  behind : List ℕ
  tagged_so : num s ≡ got kind behind
  atom : Reads (read_atom h kind behind) rest

datum-reads : (h : m.Head) (s rest : List ℕ) → AtomAt h s rest → Reads (next (num s) (λ t u. next (read_atom h t u) (λ a v. got (datum a) v))) rest
datum-reads h s rest a =
    record {
      value = datum a.atom.value;
      is = then_got (num s) a.kind a.behind _ _ a.tagged_so (then_got (read_atom h a.kind a.behind) a.atom.value rest (λ a v. got (datum a) v) _ a.atom.is refl);
    }

atom-reads : (h : m.Head) (w : Wanted) (s rest : List ℕ) → take_atom w s ≡ got tt rest → AtomAt h s rest
unfolding take_atom
atom-reads h w s rest e =
    let g = next-got (num s) _ tt rest e in
    let k = next-got (num g.1) _ tt rest g.3 in
    let q = need-got layout (takes_atom w g.0 k.0) tt k.1 rest k.3 in
    record { kind = g.0; behind = g.1; tagged_so = g.2; atom = atom-read h w g.0 k.0 g.1 rest q.0 (k.2 ∙ ap (got k.0) q.1) }

word_read : (h : m.Head) (k x : ℕ) (u rest : List ℕ) → eqb k 4 ≡ true → num_up_to over_limit last_rung_word u ≡ got x rest → Reads (read_atom h k u) rest
unfolding read_atom
word_read h k x u rest t e = record { value = rung x; is = rw (eqb-true k 4 t, e) }

word-reads : (h : m.Head) (w : Wanted) (r : Option Rule) (s rest : List ℕ) → take_word w s ≡ got r rest → AtomAt h s rest
unfolding take_word
word-reads h w r s rest e =
    let g = next-got (num s) _ r rest e in
    let n = next-got (need layout (eqb g.0 4) g.1) _ r rest g.3 in
    let q = need-got layout (eqb g.0 4) n.0 g.1 n.1 n.2 in
    let k = next-got (num_up_to over_limit last_rung_word n.1) _ r rest n.3 in
    let z : k.1 ≡ rest = got_tail _ r k.1 rest k.3 in
    record { kind = g.0; behind = n.1; tagged_so = g.2 ∙ ap (got g.0) q.1; atom = word_read h g.0 k.0 n.1 rest q.0 (k.2 ∙ ap (got k.0) z) }

-- ---- parts

module _ (tree : Reader Tree) (part : Wanted → Reader (Unit {0})) (reads : (w : Wanted) (s rest : List ℕ) → part w s ≡ got tt rest → Reads (tree s) rest) where
  all_read : (w : Wanted) (c : ℕ) (s rest : List ℕ) → take_all c (part w) s ≡ got tt rest → Reads (read_trees c tree s) rest
  unfolding take_all read_trees
  all_read w zero s rest e = record { value = tnil; is = ap (got tnil) (got_tail tt tt s rest e) }
  all_read w (suc c) s rest e =
      let g = next-got (part w s) _ tt rest e in
      let t = reads w s g.1 g.2 in
      let l = all_read w c g.1 rest g.3 in
      record { value = tcons t.value l.value; is = rw (t.is, l.is) }

  arguments_read : (r : Option Rule) (c : ℕ) (s rest : List ℕ) → take_arguments part r c s ≡ got tt rest → Reads (read_trees c tree s) rest
  unfolding take_arguments read_trees
  arguments_read None c s rest e = absurd (fault≢got layout tt rest e)
  arguments_read (Some r) zero s rest e =
      let n = next-got (need layout (takes_count r 0) s) _ tt rest e in
      let q = need-got layout (takes_count r 0) n.0 s n.1 n.2 in
      absurd (false≢true (sym (none-taken r) ∙ q.0))
  arguments_read (Some r) (suc c) s rest e =
      let n = next-got (need layout (takes_count r (suc c)) s) _ tt rest e in
      let q = need-got layout (takes_count r (suc c)) n.0 s n.1 n.2 in
      let g = next-got (part r.first n.1) _ tt rest n.3 in
      let t = reads r.first n.1 g.1 g.2 in
      let z : suc c - 1 ≡ c = omega arith in
      let l = all_read r.others c g.1 rest (ap (λ (k : ℕ). take_all k (part r.others) g.1) (sym z) ∙ g.3) in
      record { value = tcons t.value l.value; is = ap (λ (u : List ℕ). read_trees (suc c) tree u) q.1 ∙ rw (t.is, l.is) }

-- ---- an application, and a function

application_read : (tree : Reader Tree) (n : ℕ) (u v rest : List ℕ) (f : Tree) (l : Trees) → not (eqb n 0) ≡ true → tree u ≡ got f v → read_trees (n - 1) tree v ≡ got l rest → read_app n tree u ≡ got (app f l) rest
unfolding read_app
application_read tree zero u v rest f l t d e = absurd (false≢true t)
application_read tree (suc c) u v rest f l t d e =
    let z : suc c - 1 ≡ c = omega arith in
    let k : read_trees c tree v ≡ got l rest = ap (λ (k : ℕ). read_trees k tree v) (sym z) ∙ e in
    rw (d, k)

module _ (h : m.Head) (tree value : Reader Tree) (object : Reader Stx) where
  -- what follows the tag
  module _ (table : List ℕ) (part : Wanted → Reader (Unit {0})) (head : Wanted → Reader (Option Rule)) (reads : (w : Wanted) (s rest : List ℕ) → part w s ≡ got tt rest → Reads (tree s) rest)
      (heads : (w : Wanted) (r : Option Rule) (s rest : List ℕ) → head w s ≡ got r rest → Reads (tree s) rest) where
    application_reads : (w : Wanted) (s rest : List ℕ) → take_application part head w s ≡ got tt rest → Reads (next (num s) (λ n. read_app n tree)) rest
    unfolding take_application
    application_reads w s rest e =
        let g = next-got (num s) _ tt rest e in
        let n = next-got (need layout (not (eqb g.0 0)) g.1) _ tt rest g.3 in
        let q = need-got layout (not (eqb g.0 0)) n.0 g.1 n.1 n.2 in
        let r = next-got (head w n.1) _ tt rest n.3 in
        let f = heads w r.0 n.1 r.1 r.2 in
        let l = arguments_read tree part reads r.0 (g.0 - 1) r.1 rest r.3 in
        record {
          value = app f.value l.value;
          is = then_got (num s) g.0 n.1 (λ n. read_app n tree) _ (g.2 ∙ ap (got g.0) q.1) (application_read tree g.0 n.1 r.1 rest f.value l.value q.0 f.is l.is);
        }

    body_reads : (w : Wanted) (t : ℕ) (s rest : List ℕ) → take_body h.names table part head w t s ≡ got tt rest → Reads (read_tree_body h tree value object t s) rest
    unfolding take_body read_tree_body
    body_reads w zero s rest e =
        let n = variable-reads h.names table w s rest e in
        record { value = var n.value; is = then_got (num_below h.names s) n.value rest (λ n t. got (var n) t) _ n.is refl }
    body_reads w (suc zero) s rest e = application_reads w s rest e
    body_reads w (suc (suc zero)) s rest e = absurd (fault≢got layout tt rest e)
    body_reads w (suc (suc (suc zero))) s rest e = datum-reads h s rest (atom-reads h w s rest e)
    body_reads w (suc (suc (suc (suc t)))) s rest e = absurd (fault≢got layout tt rest e)

  -- what follows the head's tag
  module _ (inside : ℕ → Reader (Unit {0})) (reads : (n : ℕ) (s rest : List ℕ) → inside n s ≡ got tt rest → Reads (tree s) rest) where
    bit-reads : (w : Wanted) (r : Option Rule) (s rest : List ℕ) → bit_with h.names inside w s ≡ got r rest → Reads (next (num_below h.names s) (λ n u. next (tree u) (λ b v. got (fun n b) v))) rest
    unfolding bit_with
    bit-reads w r s rest e =
        let g = next-got (num_below h.names s) _ r rest e in
        let k = next-got (inside g.0 g.1) _ r rest g.3 in
        let b = reads g.0 g.1 k.1 k.2 in
        let z : k.1 ≡ rest = got_tail _ r k.1 rest k.3 in
        record {
          value = fun g.0 b.value;
          is = then_got (num_below h.names s) g.0 g.1 (λ n u. next (tree u) (λ b v. got (fun n b) v)) _ g.2 (then_got (tree g.1) b.value rest (λ b v. got (fun g.0 b) v) _ (b.is ∙ ap (got b.value) z) refl);
        }

    head-reads : (w : Wanted) (t : ℕ) (r : Option Rule) (s rest : List ℕ) → head_by h.names inside w t s ≡ got r rest → Reads (read_tree_body h tree value object t s) rest
    unfolding head_by read_tree_body
    head-reads w zero r s rest e = absurd (fault≢got layout r rest e)
    head-reads w (suc zero) r s rest e = absurd (fault≢got layout r rest e)
    head-reads w (suc (suc zero)) r s rest e = bit-reads w r s rest e
    head-reads w (suc (suc (suc zero))) r s rest e = datum-reads h s rest (word-reads h w r s rest e)
    head-reads w (suc (suc (suc (suc t)))) r s rest e = absurd (fault≢got layout r rest e)

-- ---- a tree, and a head

-- any tag is at least 0
tagged : (j : ℕ → Reader Tree) (t : ℕ) (s u rest : List ℕ) → num s ≡ got t u → Reads (j t u) rest → Reads (next (num s) (λ t u. next (need layout (leb 0 t) u) (λ x. j t))) rest
tagged j t s u rest e r = record { value = r.value; is = rw (e, le-leb 0 t (omega arith)) r.is }

mutual
  unfolding read_tree take_tree take_head

  pub tree-read : (l : ℕ) (h : m.Head) (table : List ℕ) (w : Wanted) (s rest : List ℕ) → take_tree h.names l table w s ≡ got tt rest → Reads (read_tree l h 0 s) rest
  tree-read zero h table w s rest e = absurd (fault≢got layout tt rest e)
  tree-read (suc l) h table w s rest e =
      let g = next-got (num s) _ tt rest e in
      tagged (read_tree_body h (read_tree l h 0) (read_tree l h 2) (read_stx (suc l) h)) g.0 s g.1 rest g.2
      (body_reads h (read_tree l h 0) (read_tree l h 2) (read_stx (suc l) h) table (take_tree h.names l table) (take_head h.names l table)
      (λ w s rest e. tree-read l h table w s rest e) (λ w r s rest e. head_read l h table w r s rest e) w g.0 g.1 rest g.3)

  head_read : (l : ℕ) (h : m.Head) (table : List ℕ) (w : Wanted) (r : Option Rule) (s rest : List ℕ) → take_head h.names l table w s ≡ got r rest → Reads (read_tree l h 0 s) rest
  head_read zero h table w r s rest e = absurd (fault≢got layout r rest e)
  head_read (suc l) h table w r s rest e =
      let g = next-got (num s) _ r rest e in
      tagged (read_tree_body h (read_tree l h 0) (read_tree l h 2) (read_stx (suc l) h)) g.0 s g.1 rest g.2
      (head-reads h (read_tree l h 0) (read_tree l h 2) (read_stx (suc l) h) (λ n. take_tree h.names l (set table n 1) Program)
      (λ n s rest e. tree-read l h (set table n 1) Program s rest e) w g.0 r g.1 rest g.3)
