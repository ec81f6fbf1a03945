-- 26 and 27, by the tests that the code makes.
use Prim.Native.Nat.{ℕ, zero, suc, ◌+◌, ◌-◌, ◌≤◌, ◌<◌}
use mathlib.Core.Path.{◌≡◌, refl, sym, ap, ◌∙◌}
use mathlib.Core.Bool.{Bool, true, false, ◌&&◌}
use mathlib.Core.List.{List, [], ◌∷◌}
use mathlib.Core.Option.{some}
use native.Mathlib.Omega.{arith}
use native.Mathlib.Numerals.{add-one}
use lib.ListN.{length, drop}
use lib.Dec.{eqb}
use Rattle.model.specs.Choice.{when◌then◌else◌}
use Rattle.requests.specs.Tokens.{Leaf, Token, opening, closing, bad, one, tokens}
use Rattle.requests.specs.FromText.{TextRefusal, bad_text, unless_second, at_last, judged}
use Rattle.requests.specs.FromText as asked
use Rattle.tokens.specs.declared.pieces.Piece as pieces
use Rattle.std.specs.Prelude.{Option, None, Some, Result, Ok, Err}
use Rattle.tokens.specs.declared.Token as code
use Rattle.tokens.specs.declared.Token.TheVariants.{Open, Close, Piece}
use Rattle.tokens.specs.Pieces.{is_bad}
use Rattle.tokens.specs.Nexts.{Goes, NextIs}
use Rattle.tokens.proofs.Uses.{next-end, next_open, next_close, next-piece, piece-bad, piece-leaf, onward_laws}
use Rattle.text_endings.specs.declared.TextRefusal.TheVariants.{BadText, Unbalanced}
use Rattle.text_reader.specs.declared.judging.Fault.{Fault}
use Rattle.text_reader.specs.Judging.{Lasts, Judges}

-- ---- a second object, and the end

pub last_open : {depth : ℕ} {begun : Bool} {at : ℕ} → 0 < depth → Lasts depth begun at (Err (record { refusal = Unbalanced; at = at }))
unfolding at_last
last_open {depth} {begun} {at} h = record { is = go depth h; place = omega arith }
  where
    go : (n : ℕ) → 0 < n → some asked.unbalanced ≡ at_last n begun
    go zero h = absurd (omega arith)
    go (suc n) h = refl

module _ {depth : ℕ} {begun : Bool} {at : ℕ} (h : depth ≤ 0) where
  pub last_fine : begun ≡ true → Lasts depth begun at (Ok tt)
  unfolding at_last
  last_fine e = let z : depth ≡ 0 = omega arith in record { is = rw (z, e); place = omega arith }

  pub last_none : begun ≡ false → Lasts depth begun at (Err (record { refusal = BadText; at = at }))
  unfolding at_last
  last_none e = let z : depth ≡ 0 = omega arith in record { is = rw (z, e); place = omega arith }

pub ruleset last_laws = (last_open, last_fine, last_none)

-- ---- the pass

-- from `at` on with so many depth, what is judged is the text
pub record Judging (text : List ℕ) (at depth : ℕ) (begun : Bool) : Type 0 where
  pub within : at ≤ length text
  pub shallow : depth ≤ at
  pub so_far : judged depth begun (tokens (drop at text)) ≡ judged 0 false (tokens text)

pub judging_start : {text : List ℕ} → Judging text 0 0 false
judging_start = record { within = omega arith; shallow = omega arith; so_far = refl }

after-end : (d : ℕ) (b : Bool) → judged d b [] ≡ at_last d b
unfolding judged
after-end d b = refl

after-bad : (d : ℕ) (b : Bool) (ts : List Token) → judged d b (bad ∷ ts) ≡ some bad_text
unfolding judged
after-bad d b ts = refl

after-opening : (d : ℕ) (b s : Bool) (ts : List Token) → (b && eqb d 0) ≡ s → judged d b (opening ∷ ts) ≡ (when s then some bad_text else judged (suc d) true ts)
unfolding judged unless_second
after-opening d b s ts e = rw e

after-leaf : (d : ℕ) (b s : Bool) (l : Leaf) (ts : List Token) → (b && eqb d 0) ≡ s → judged d b (one l ∷ ts) ≡ (when s then some bad_text else judged d true ts)
unfolding judged unless_second
after-leaf d b s l ts e = rw e

after-closing : (d : ℕ) (b : Bool) (ts : List Token) → (d ≡ 0 → ⊥) → judged d b (closing ∷ ts) ≡ judged (d - 1) b ts
unfolding judged
after-closing zero b ts n = absurd (n refl)
after-closing (suc d) b ts n = ap (λ (k : ℕ). judged k b ts) (omega arith)

after_unopened : (d : ℕ) (b : Bool) (ts : List Token) → d ≡ 0 → judged d b (closing ∷ ts) ≡ some asked.unbalanced
unfolding judged
after_unopened d b ts e = rw e

module _ {text : List ℕ} {at depth : ℕ} {begun : Bool} (j : Judging text at depth begun) {r : Option (code.Token × ℕ)} (h : NextIs text at r) where
  pub judge_end : {q : Result (Unit {0}) Fault} → r ≡ None → Lasts depth begun at q → Judges text q
  judge_end e l = record { is = l.is ∙ sym (after-end depth begun) ∙ ap (judged depth begun) (sym (next-end h e)) ∙ j.so_far; inside = let p = l.place in let w = j.within in omega arith }

  -- the token here is k, and the rest comes after `to`
  module _ {to : ℕ} {k : Token} (g : Goes text at to k) where
    stops : (f : TextRefusal) → judged depth begun (k ∷ tokens (drop to text)) ≡ some f → some f ≡ judged 0 false (tokens text)
    stops f e = sym e ∙ ap (judged depth begun) (sym g.here) ∙ j.so_far

    on : (d : ℕ) (b : Bool) → d ≤ to → judged depth begun (k ∷ tokens (drop to text)) ≡ judged d b (tokens (drop to text)) → Judging text to d b
    on d b l e = record { within = g.within; shallow = l; so_far = sym e ∙ ap (judged depth begun) (sym g.here) ∙ j.so_far }

  module _ {to : ℕ} {s : Bool} {t : code.Token} (e : r ≡ Some (t, to)) (i : t ≡ Open) (q : s ≡ (begun && eqb depth 0)) where
    pub judge_second : s ≡ true → Judges text (Err (record { refusal = BadText; at = at }))
    judge_second y = record { is = stops (next_open h e i) bad_text (after-opening depth begun true (tokens (drop to text)) (sym q ∙ y)); inside = j.within }

    pub judge_open : s ≡ false → Judging text to (depth + 1) true
    judge_open y =
        let g = next_open h e i in
        let l = j.shallow in
        let m = g.onward in
        on g (depth + 1) true (omega arith) (after-opening depth begun false (tokens (drop to text)) (sym q ∙ y) ∙ ap (λ (k : ℕ). judged k true (tokens (drop to text))) (sym (add-one depth)))

  module _ {to : ℕ} {t : code.Token} (e : r ≡ Some (t, to)) (i : t ≡ Close) where
    pub judge_unopened : depth ≡ 0 → Judges text (Err (record { refusal = Unbalanced; at = at }))
    judge_unopened z = record { is = stops (next_close h e i) asked.unbalanced (after_unopened depth begun (tokens (drop to text)) z); inside = j.within }

    pub judge_close : (depth ≡ 0 → ⊥) → Judging text to (depth - 1) begun
    judge_close n =
        let g = next_close h e i in
        let l = j.shallow in
        let m = g.onward in
        on g (depth - 1) begun (omega arith) (after-closing depth begun (tokens (drop to text)) n)

  module _ {p : pieces.Piece} {from to : ℕ} {b : Bool} {t : code.Token} (e : r ≡ Some (t, to)) (i : t ≡ Piece p from) (w : b ≡ is_bad p) where
    pub judge_bad : b ≡ true → Judges text (Err (record { refusal = BadText; at = at }))
    judge_bad y =
        let a = next-piece h e i in
        record { is = stops a.goes bad_text (ap (λ (k : Token). judged depth begun (k ∷ tokens (drop to text))) (piece-bad a (sym w ∙ y)) ∙ after-bad depth begun (tokens (drop to text))); inside = j.within }

    module _ (good : b ≡ false) {s : Bool} (q : s ≡ (begun && eqb depth 0)) where
      leaf-is : judged depth begun ((next-piece h e i).token ∷ tokens (drop to text)) ≡ (when s then some bad_text else judged depth true (tokens (drop to text)))
      leaf-is =
          let a = next-piece h e i in
          let l = piece-leaf a (sym w ∙ good) in
          ap (λ (k : Token). judged depth begun (k ∷ tokens (drop to text))) l.1 ∙ after-leaf depth begun s l.0 (tokens (drop to text)) (sym q)

      pub judge_second_leaf : s ≡ true → Judges text (Err (record { refusal = BadText; at = at }))
      judge_second_leaf y =
          record { is = stops (next-piece h e i).goes bad_text (leaf-is ∙ ap (λ (u : Bool). when u then some bad_text else judged depth true (tokens (drop to text))) y); inside = j.within }

      pub judge_leaf : s ≡ false → Judging text to depth true
      judge_leaf y =
          let a = next-piece h e i in
          let l = j.shallow in
          let m = a.goes.onward in
          on a.goes depth true (omega arith) (leaf-is ∙ ap (λ (u : Bool). when u then some bad_text else judged depth true (tokens (drop to text))) y)

pub ruleset judge_laws = (judging_start, judge_end, judge_second, judge_open, judge_unopened, judge_close, judge_bad, judge_second_leaf, judge_leaf, onward_laws)
