-- Along the bytes of a program its bits are met, in order of address, and the points that it drives.
use Prim.Native.Nat.{ℕ, zero, suc, ◌≤◌}
use mathlib.Core.Path.{◌≡◌, refl, sym, ap, ap₂, ◌∙◌}
use mathlib.Core.Bool.{Bool, true, false, false≢true}
use mathlib.Core.List.{List, [], ◌∷◌, ◌++◌, append_assoc, append-nil}
use native.Mathlib.Omega.{arith}
use lib.Dec.{eqb, leb, eqb-suc-zero}
use lib.ListN.{length}
use borrow.Author.Tests.{lt-ltb, ne_eqb}
use Rattle.model.specs.Limits.{most_scopes, most_names, last_point}
use Rattle.model.specs.Objects.{Atom, symbol, number, point, prim, rung, tag_of, content_of}
use Rattle.model.specs.Trees.{Tree, var, app, fun, datum, lst, stx, Trees, tnil, tcons, tcount}
use Rattle.model.specs.Reading.{Head, got, read_tree, symbols}
use Rattle.model.specs.Writing.{tree_bytes}
use Rattle.laws.proofs.Tests.{and_both}
use Rattle.codec_laws.specs.WellFormed.{Bytes, TreeFits, TreesFit, HeadFits}
use Rattle.codec_laws.proofs.TreeTrip.{Counts, tree_w}
use Rattle.numbers.specs.Limits.{most_image}
use Rattle.addresses.specs.OneNameOneAddress.{function_names, function_names_all}
use Rattle.requests.specs.Panel.{word_numbered, word_of, head_word, is_point, is_point_tree, is_variable, is_binary, is_start, is_expression_of, is_expression, are_expressions, is_rung, is_program_of, is_program, is_program_inside, are_programs, most_bits, bits_of, point_of, first_point, driven_of, driven, driven_inside, driven_all}
use Rattle.bits.specs.Meeting.{room, last_mark, points, Met, none, is_out, meet, along, met_in, Holds}
use Rattle.bits.specs.declared.Gathered.{Gathered}
use Rattle.bits.proofs.Walked.{Plain, PlainAll, walked, walked_all, tree_walked}

-- what was met, where the word `out` was not the last token
abbrev met : List ℕ → List ℕ → Met
met names seen = record { names = names; seen = seen; driving = false }

met-same : {a b c d : List ℕ} → a ≡ b → c ≡ d → met a c ≡ met b d
met-same p q = ap₂ met p q

-- ---- nothing is met in it: no function, and no point that is driven

record Still (t : Tree) : Type 0 where
  plain : Plain t
  quiet : (names seen : List ℕ) → walked t (met names seen) ≡ met names seen
  nameless : function_names t ≡ []

record StillAll (l : Trees) : Type 0 where
  plain : PlainAll l
  quiet : (names seen : List ℕ) → walked_all l (met names seen) ≡ met names seen
  nameless : function_names_all l ≡ []

still_none : StillAll tnil
unfolding walked_all function_names_all
still_none = record { plain = tt; quiet = λ n s. refl; nameless = refl }

still_more : (t : Tree) (l : Trees) → Still t → StillAll l → StillAll (tcons t l)
unfolding walked_all function_names_all
still_more t l p q = record {
  plain = (p.plain, q.plain);
  quiet = λ n s. ap (walked_all l) (p.quiet n s) ∙ q.quiet n s;
  nameless = ap₂ (λ (a b : List ℕ). a ++ b) p.nameless q.nameless;
}

still_variable : (n : ℕ) → Still (var n)
unfolding walked meet is_out function_names
still_variable n = record { plain = tt; quiet = λ n s. refl; nameless = refl }

still_application : (h : Tree) (l : Trees) → Still h → StillAll l → Still (app h l)
unfolding walked meet is_out function_names
still_application h l p q = record {
  plain = (p.plain, q.plain);
  quiet = λ n s. ap (walked_all l) (p.quiet n s) ∙ q.quiet n s;
  nameless = ap₂ (λ (a b : List ℕ). a ++ b) p.nameless q.nameless;
}

still_point : (a : Atom) → is_point a ≡ true → Still (datum a)
unfolding is_point walked meet is_out function_names tag_of content_of
still_point (symbol x) e = absurd (false≢true e)
still_point (number x) e = absurd (false≢true e)
still_point (point x) e = record { plain = tt; quiet = λ n s. refl; nameless = refl }
still_point (prim x) e = absurd (false≢true e)
still_point (rung x) e = absurd (false≢true e)

still_binary : (t : Tree) → is_binary t ≡ true → Still t
unfolding is_binary walked meet is_out function_names tag_of content_of
still_binary (var n) e = absurd (false≢true e)
still_binary (app h l) e = absurd (false≢true e)
still_binary (fun n b) e = absurd (false≢true e)
still_binary (datum (symbol x)) e = absurd (false≢true e)
still_binary (datum (number x)) e = record { plain = tt; quiet = λ n s. refl; nameless = refl }
still_binary (datum (point x)) e = absurd (false≢true e)
still_binary (datum (prim x)) e = absurd (false≢true e)
still_binary (datum (rung x)) e = absurd (false≢true e)
still_binary (lst l) e = absurd (false≢true e)
still_binary (stx s) e = absurd (false≢true e)

still_start : (l : Trees) → is_start l ≡ true → StillAll l
unfolding is_start tcount
still_start tnil e = absurd (false≢true e)
still_start (tcons t tnil) e = still_more t tnil (still_binary t (and_both (is_binary t) true e).0) still_none
still_start (tcons t (tcons r l)) e = absurd (false≢true (sym (eqb-suc-zero (tcount l)) ∙ (and_both (is_binary t) (eqb (suc (tcount l)) 0) e).1))

-- a rung word other than `out`
still_word : (n : ℕ) → (n ≡ 3 → ⊥) → Still (datum (rung n))
unfolding walked meet is_out function_names tag_of content_of
still_word n h = record { plain = tt; quiet = λ a s. rw (ne_eqb n 3 h); nameless = refl }

-- ---- expressions

record ExpressionHead (h : Tree) (parts : Bool) : Type 0 where
  are : parts ≡ true
  still : Still h

word-head : (n count : ℕ) (parts : Bool) → is_expression_of (word_numbered n) count parts ≡ true → ExpressionHead (datum (rung n)) parts
unfolding word_numbered is_expression_of
word-head zero count parts e = record { are = (and_both (leb 2 count) parts e).1; still = still_word 0 (λ q. omega arith) }
word-head (suc zero) count parts e = record { are = (and_both (leb 2 count) parts e).1; still = still_word 1 (λ q. omega arith) }
word-head (suc (suc zero)) count parts e = record { are = (and_both (eqb count 1) parts e).1; still = still_word 2 (λ q. omega arith) }
word-head (suc (suc (suc zero))) count parts e = absurd (false≢true e)
word-head (suc (suc (suc (suc zero)))) count parts e = absurd (false≢true e)
word-head (suc (suc (suc (suc (suc zero))))) count parts e = absurd (false≢true e)
word-head (suc (suc (suc (suc (suc (suc n)))))) count parts e = absurd (false≢true e)

expression_head : (h : Tree) (count : ℕ) (parts : Bool) → is_expression_of (head_word h) count parts ≡ true → ExpressionHead h parts
unfolding head_word word_of is_expression_of
expression_head (var n) count parts e = absurd (false≢true e)
expression_head (app h l) count parts e = absurd (false≢true e)
expression_head (fun n b) count parts e = absurd (false≢true e)
expression_head (datum (symbol x)) count parts e = absurd (false≢true e)
expression_head (datum (number x)) count parts e = absurd (false≢true e)
expression_head (datum (point x)) count parts e = absurd (false≢true e)
expression_head (datum (prim x)) count parts e = absurd (false≢true e)
expression_head (datum (rung x)) count parts e = word-head x count parts e
expression_head (lst l) count parts e = absurd (false≢true e)
expression_head (stx s) count parts e = absurd (false≢true e)

mutual
  unfolding is_expression are_expressions

  still_expression : (t : Tree) → is_expression t ≡ true → Still t
  still_expression (var n) e = still_variable n
  still_expression (app h l) e = let r = expression_head h (tcount l) (are_expressions l) e in still_application h l r.still (still_expressions l r.are)
  still_expression (fun n b) e = absurd (false≢true e)
  still_expression (datum a) e = still_point a e
  still_expression (lst l) e = absurd (false≢true e)
  still_expression (stx s) e = absurd (false≢true e)

  still_expressions : (l : Trees) → are_expressions l ≡ true → StillAll l
  still_expressions tnil e = still_none
  still_expressions (tcons t l) e =
      let r = and_both (is_expression t) (are_expressions l) e in
      still_more t l (still_expression t r.0) (still_expressions l r.1)

-- ---- its functions' names are met, and these points

record Tells (t : Tree) (x : List ℕ) : Type 0 where
  plain : Plain t
  tells : (names seen : List ℕ) → walked t (met names seen) ≡ met (names ++ function_names t) (seen ++ x)

record TellsAll (l : Trees) (x : List ℕ) : Type 0 where
  plain : PlainAll l
  tells : (names seen : List ℕ) → walked_all l (met names seen) ≡ met (names ++ function_names_all l) (seen ++ x)

tells_none : TellsAll tnil []
unfolding walked_all function_names_all
tells_none = record { plain = tt; tells = λ n s. met-same (sym (append-nil n)) (sym (append-nil s)) }

tells_more : (t : Tree) (l : Trees) (x y : List ℕ) → Tells t x → TellsAll l y → TellsAll (tcons t l) (x ++ y)
unfolding walked_all function_names_all
tells_more t l x y p q = record {
  plain = (p.plain, q.plain);
  tells = λ n s. ap (walked_all l) (p.tells n s) ∙ q.tells (n ++ function_names t) (s ++ x) ∙ met-same (append_assoc n (function_names t) (function_names_all l)) (append_assoc s x y);
}

still_tells : (l : Trees) → StillAll l → TellsAll l []
still_tells l q = record {
  plain = q.plain;
  tells = λ n s. q.quiet n s ∙ met-same (sym (append-nil n) ∙ ap (λ (z : List ℕ). n ++ z) (sym q.nameless)) (sym (append-nil s));
}

tells_function : (n : ℕ) (b : Tree) (x : List ℕ) → Tells b x → Tells (fun n b) x
unfolding walked meet is_out function_names
tells_function n b x p = record { plain = p.plain; tells = λ a s. p.tells (a ++ n ∷ []) s ∙ met-same (append_assoc a (n ∷ []) (function_names b)) refl }

-- a function, and its start value
tells_start : (h : Tree) (l : Trees) (x : List ℕ) → Tells h x → StillAll l → Tells (app h l) x
unfolding walked meet is_out function_names
tells_start h l x p q = record {
  plain = (p.plain, q.plain);
  tells = λ n s. ap (walked_all l) (p.tells n s) ∙ q.quiet (n ++ function_names h) (s ++ x)
      ∙ met-same (ap (λ (z : List ℕ). n ++ z) (sym (append-nil (function_names h)) ∙ ap (λ (z : List ℕ). function_names h ++ z) (sym q.nameless))) refl;
}

-- a word that drives nothing, and its parts
tells_parts : (h : Tree) (l : Trees) (x : List ℕ) → Still h → TellsAll l x → Tells (app h l) x
unfolding walked meet is_out function_names
tells_parts h l x p q = record {
  plain = (p.plain, q.plain);
  tells = λ n s. ap (walked_all l) (p.quiet n s) ∙ q.tells n s ∙ met-same (ap (λ (z : List ℕ). n ++ (z ++ function_names_all l)) (sym p.nameless)) refl;
}

-- `out` of a point
tells_out : (x : ℕ) (l : Trees) → x ≤ last_point → StillAll l → Tells (app (datum (rung 3)) (tcons (datum (point x)) l)) (x ∷ [])
unfolding walked walked_all meet is_out function_names function_names_all tag_of content_of last_point
tells_out x l h q = record {
  plain = (tt, (tt, q.plain));
  tells = λ n s. rw (lt-ltb x points (omega arith)) (q.quiet n (s ++ x ∷ []) ∙ met-same (sym (append-nil n) ∙ ap (λ (z : List ℕ). n ++ z) (sym q.nameless)) refl);
}

-- ---- programs

module _ (k n m : ℕ) where
  out_tells : (l : Trees) → TreesFit k n m l → is_rung is_point_tree l ≡ true → Tells (app (datum (rung 3)) l) (first_point l)
  unfolding is_rung is_point_tree is_point first_point point_of
  out_tells tnil f e = absurd (false≢true e)
  out_tells (tcons (var x) l) f e = absurd (false≢true e)
  out_tells (tcons (app h p) l) f e = absurd (false≢true e)
  out_tells (tcons (fun x b) l) f e = absurd (false≢true e)
  out_tells (tcons (datum (symbol x)) l) f e = absurd (false≢true e)
  out_tells (tcons (datum (number x)) l) f e = absurd (false≢true e)
  out_tells (tcons (datum (point x)) l) f e = tells_out x l f.0 (still_expressions l (and_both (eqb (tcount l) 1) (are_expressions l) e).1)
  out_tells (tcons (datum (prim x)) l) f e = absurd (false≢true e)
  out_tells (tcons (datum (rung x)) l) f e = absurd (false≢true e)
  out_tells (tcons (lst p) l) f e = absurd (false≢true e)
  out_tells (tcons (stx s) l) f e = absurd (false≢true e)

  set_tells : (l : Trees) → is_rung is_variable l ≡ true → Tells (app (datum (rung 4)) l) []
  unfolding is_rung is_variable
  set_tells tnil e = absurd (false≢true e)
  set_tells (tcons (var x) l) e =
      tells_parts (datum (rung 4)) (tcons (var x) l) [] (still_word 4 (λ q. omega arith))
      (still_tells (tcons (var x) l) (still_more (var x) l (still_variable x) (still_expressions l (and_both (eqb (tcount l) 1) (are_expressions l) e).1)))
  set_tells (tcons (app h p) l) e = absurd (false≢true e)
  set_tells (tcons (fun x b) l) e = absurd (false≢true e)
  set_tells (tcons (datum a) l) e = absurd (false≢true e)
  set_tells (tcons (lst p) l) e = absurd (false≢true e)
  set_tells (tcons (stx s) l) e = absurd (false≢true e)

  word_tells : (w : ℕ) (l : Trees) (body parts : Bool) (x y : List ℕ) → TreesFit k n m l → is_program_of (word_numbered w) l body parts ≡ true → (parts ≡ true → TellsAll l y)
      → Tells (app (datum (rung w)) l) (driven_of (word_numbered w) l x y)
  unfolding word_numbered is_program_of driven_of
  word_tells zero l body parts x y f e r = absurd (false≢true e)
  word_tells (suc zero) l body parts x y f e r = absurd (false≢true e)
  word_tells (suc (suc zero)) l body parts x y f e r = absurd (false≢true e)
  word_tells (suc (suc (suc zero))) l body parts x y f e r = out_tells l f e
  word_tells (suc (suc (suc (suc zero)))) l body parts x y f e r = set_tells l e
  word_tells (suc (suc (suc (suc (suc zero))))) l body parts x y f e r = tells_parts (datum (rung 5)) l y (still_word 5 (λ q. omega arith)) (r (and_both (leb 1 (tcount l)) parts e).1)
  word_tells (suc (suc (suc (suc (suc (suc w)))))) l body parts x y f e r = absurd (false≢true e)

  application_tells : (h : Tree) (l : Trees) → TreesFit k n m l → is_program_of (head_word h) l (is_program_inside h) (are_programs l) ≡ true
      → (is_program_inside h ≡ true → Tells h (driven_inside h)) → (are_programs l ≡ true → TellsAll l (driven_all l))
      → Tells (app h l) (driven_of (head_word h) l (driven_inside h) (driven_all l))
  unfolding head_word word_of is_program_of driven_of
  application_tells (var x) l f e i r = absurd (false≢true e)
  application_tells (app h p) l f e i r = absurd (false≢true e)
  application_tells (fun x b) l f e i r =
      let q = and_both (is_program_inside (fun x b)) (is_start l) e in
      tells_start (fun x b) l (driven_inside (fun x b)) (i q.0) (still_start l q.1)
  application_tells (datum (symbol x)) l f e i r = absurd (false≢true e)
  application_tells (datum (number x)) l f e i r = absurd (false≢true e)
  application_tells (datum (point x)) l f e i r = absurd (false≢true e)
  application_tells (datum (prim x)) l f e i r = absurd (false≢true e)
  application_tells (datum (rung w)) l f e i r = word_tells w l (is_program_inside (datum (rung w))) (are_programs l) (driven_inside (datum (rung w))) (driven_all l) f e r
  application_tells (lst p) l f e i r = absurd (false≢true e)
  application_tells (stx s) l f e i r = absurd (false≢true e)

  mutual
    unfolding is_program is_program_inside are_programs driven driven_inside driven_all

    program_tells : (t : Tree) → TreeFits k n m t → is_program t ≡ true → Tells t (driven t)
    program_tells (var x) f e = absurd (false≢true e)
    program_tells (app h l) f e = application_tells h l f.1 e (λ i. inside_tells h f.0 i) (λ r. programs_tell l f.1 r)
    program_tells (fun x b) f e = absurd (false≢true e)
    program_tells (datum a) f e = absurd (false≢true e)
    program_tells (lst l) f e = absurd (false≢true e)
    program_tells (stx s) f e = absurd (false≢true e)

    inside_tells : (t : Tree) → TreeFits k n m t → is_program_inside t ≡ true → Tells t (driven_inside t)
    inside_tells (var x) f e = absurd (false≢true e)
    inside_tells (app h l) f e = absurd (false≢true e)
    inside_tells (fun x b) f e = tells_function x b (driven b) (program_tells b f.1 e)
    inside_tells (datum a) f e = absurd (false≢true e)
    inside_tells (lst l) f e = absurd (false≢true e)
    inside_tells (stx s) f e = absurd (false≢true e)

    programs_tell : (l : Trees) → TreesFit k n m l → are_programs l ≡ true → TellsAll l (driven_all l)
    programs_tell tnil f e = tells_none
    programs_tell (tcons t l) f e =
        let r = and_both (is_program t) (are_programs l) e in
        tells_more t l (driven t) (driven_all l) (program_tells t f.0 r.0) (programs_tell l f.1 r.1)

-- ---- the limits are the definitions'

pub room-is : room ≡ most_bits
unfolding most_bits
room-is = refl

pub last-is : last_mark ≡ last_point
unfolding last_point
last-is = refl

-- ---- along the bytes

program_walked : (h : Head) → Counts h → (t : Tree) → TreeFits (symbols h) h.names h.scopes t → length (tree_bytes t) ≤ most_image → is_program t ≡ true
    → along (length (tree_bytes t)) none (tree_bytes t ++ []) ≡ met_in t
unfolding bits_of
program_walked h k t f s e =
    let r = program_tells (symbols h) h.names h.scopes t f e in
    tree_walked h k t f r.plain s none ∙ r.tells [] []

counts : (h : Head) → HeadFits h → Counts h
unfolding most_scopes most_names
counts h f = record { scopes-few = f.scopes-to; names-few = f.names-to; symbols-few = omega (arith, f.names-from, f.names-to) }

-- s is a root, behind which the image ends
module _ (l : ℕ) (h : Head) (s : List ℕ) (t : Tree) (f : HeadFits h) (b : Bytes s) (short : length s ≤ most_image) (r : read_tree l h 0 s ≡ got t []) (e : is_program t ≡ true) where
  pub program-met : along (length s) none s ≡ met_in t
  program-met =
      let k = counts h f in
      let w = tree_w l h k.scopes-few 0 t s [] b r in
      let q : s ≡ tree_bytes t ++ [] = w.0.0 in
      let z : length s ≡ length (tree_bytes t) = ap length (q ∙ append-nil (tree_bytes t)) in
      ap₂ (λ (n : ℕ) (x : List ℕ). along n none x) z q ∙ program_walked h k t w.1 (rw (← z) short) e

  pub program-held : {marks names : List ℕ} {g : Gathered} → Holds (along (length s) none s) marks names g → Holds (met_in t) marks names g
  program-held c = rw program-met at c
