-- What comes next in a text, by the tests that the code makes.
use Prim.Native.Nat.{ℕ, zero, suc, ◌+◌, ◌-◌, ◌≤◌, ◌<◌}
use mathlib.Core.Path.{◌≡◌, refl, sym, ap, ap₂, ◌∙◌, subst}
use mathlib.Core.List.{List, [], ◌∷◌}
use mathlib.Core.Bool.{false}
use native.Mathlib.Omega.{arith}
use native.Mathlib.Numerals.{add-one}
use lib.ListN.{length, get_or, take, drop, length-drop, drop_of_length-le}
use lib.Seq.{drop-cons, drop-drop, get_or-drop}
use borrow.Author.Tests.{ne_eqb}
use Rattle.numbers.proofs.Reading.{part-from}
use Rattle.requests.specs.Tokens.{space, paren, token_of, tokens}
use Rattle.text_laws.specs.Passes.{ending, run, after_run}
use Rattle.text_laws.proofs.TextTrip.{after_open, after_close}
use Rattle.text_laws.proofs.JobLaws.{after-piece}
use Rattle.tokens.specs.Walk.{RunEnds, Skipped}
use Rattle.tokens.specs.Pieces.{PieceIs}
use Rattle.tokens.specs.Nexts.{part, NextIs}
use Rattle.tokens.specs.declared.pieces.Piece as pieces
use Rattle.tokens.specs.declared.Token.TheVariants.{Open, Close, Piece}
use Rattle.std.specs.Prelude.{None, Some}

no-tokens : tokens [] ≡ []
unfolding tokens
no-tokens = refl

run-first : (b : ℕ) (s : List ℕ) → ending b ≡ false → (run (b ∷ s) ≡ b ∷ run s) × (after_run (b ∷ s) ≡ after_run s)
unfolding run after_run
run-first b s e = (rw e, rw e)

parts_no_piece : (b : ℕ) → space b ≡ false → (b ≡ 59 → ⊥) → (b ≡ 40 → ⊥) → (b ≡ 41 → ⊥) → (ending b ≡ false) × (paren b ≡ false)
unfolding ending paren
parts_no_piece b s x y z = (simp (s, ne_eqb b 40 y, ne_eqb b 41 z, ne_eqb b 59 x), simp (ne_eqb b 40 y, ne_eqb b 41 z))

-- n bytes are skipped from `at` on
module _ (t : List ℕ) (at : ℕ) {n : ℕ} (inside : at ≤ length t) (k : Skipped (take (length t - at) (drop at t)) n) where
  skipped : Skipped (drop at t) n
  skipped = subst (λ (z : List ℕ). Skipped z n) (part-from at t) k

  rest : tokens (drop at t) ≡ tokens (drop (at + n) t)
  rest = sym skipped.same ∙ ap tokens (drop-drop n at t)

  pub from-within : at + n ≤ length t
  from-within = let l = skipped.inside in let d = length-drop at t in omega arith

  pub next-end : length t ≤ at + n → NextIs t at None
  next-end h = record { is = rest ∙ ap tokens (drop_of_length-le t h) ∙ no-tokens }

  module _ (h : at + n < length t) where
    first : drop (at + n) t ≡ get_or t (at + n) 0 ∷ drop (at + n + 1) t
    first = rw (add-one, drop-cons t (at + n) 0 h)

    pub next_open : get_or t (at + n) 0 ≡ 40 → NextIs t at (Some (Open, at + n + 1))
    next_open e = record {
      is = record {
        onward = omega arith;
        within = omega arith;
        here = rest ∙ ap tokens first ∙ ap (λ (b : ℕ). tokens (b ∷ drop (at + n + 1) t)) e ∙ after_open (drop (at + n + 1) t);
      };
    }

    pub next_close : get_or t (at + n) 0 ≡ 41 → NextIs t at (Some (Close, at + n + 1))
    next_close e = record {
      is = record {
        onward = omega arith;
        within = omega arith;
        here = rest ∙ ap tokens first ∙ ap (λ (b : ℕ). tokens (b ∷ drop (at + n + 1) t)) e ∙ after_close (drop (at + n + 1) t);
      };
    }

    -- the byte there is no blank and begins no comment
    begins : (space (get_or t (at + n) 0) ≡ false) × (get_or t (at + n) 0 ≡ 59 → ⊥)
    begins =
        subst (λ (b : ℕ). (space b ≡ false) × (b ≡ 59 → ⊥)) (get_or-drop at t n 0)
        (skipped.begins (let d = length-drop at t in omega arith))

    module _ (y : get_or t (at + n) 0 ≡ 40 → ⊥) (z : get_or t (at + n) 0 ≡ 41 → ⊥) {m : ℕ} (r : RunEnds (take (length t - (at + n)) (drop (at + n) t)) m) where
      plain : (ending (get_or t (at + n) 0) ≡ false) × (paren (get_or t (at + n) 0) ≡ false)
      plain = parts_no_piece (get_or t (at + n) 0) begins.0 begins.1 y z

      ends : RunEnds (drop (at + n) t) m
      ends = subst (λ (l : List ℕ). RunEnds l m) (part-from (at + n) t) r

      within-here : at + n + m ≤ length t
      within-here = let l = ends.inside in let d = length-drop (at + n) t in omega arith

      the_run : take m (drop (at + n) t) ≡ get_or t (at + n) 0 ∷ run (drop (at + n + 1) t)
      the_run = ends.piece ∙ ap run first ∙ (run-first (get_or t (at + n) 0) (drop (at + n + 1) t) plain.0).0

      the_rest : drop (at + n + m) t ≡ after_run (drop (at + n + 1) t)
      the_rest = sym (drop-drop m (at + n) t) ∙ ends.rest ∙ ap after_run first ∙ (run-first (get_or t (at + n) 0) (drop (at + n + 1) t) plain.0).1

      some : 0 < m
      some = go m the_run
        where
          go : (m : ℕ) → take m (drop (at + n) t) ≡ get_or t (at + n) 0 ∷ run (drop (at + n + 1) t) → 0 < m
          go zero e = absurd (let q = ap length e in omega arith)
          go (suc m) e = omega arith

      the_part : part t (at + n) (at + n + m) ≡ get_or t (at + n) 0 ∷ run (drop (at + n + 1) t)
      the_part = let d : at + n + m - (at + n) ≡ m = omega arith in ap (λ (k : ℕ). take k (drop (at + n) t)) d ∙ the_run

      piece-here : {q : pieces.Piece} → PieceIs (part t (at + n) (at + n + m)) q → NextIs t at (Some (Piece q (at + n), at + n + m))
      piece-here {q} w =
          let no : paren (get_or (part t (at + n) (at + n + m)) 0 0) ≡ false = ap (λ (l : List ℕ). paren (get_or l 0 0)) the_part ∙ plain.1 in
          let s = some in
          record {
            is = record {
              token = token_of (part t (at + n) (at + n + m));
              goes = record {
                onward = omega arith;
                within = within-here;
                here = rest ∙ ap tokens first ∙ after-piece (get_or t (at + n) 0) (drop (at + n + 1) t) plain.0
                    ∙ ap₂ (λ (w l : List ℕ). token_of w ∷ tokens l) (sym the_part) (sym the_rest);
              };
              begins = omega arith;
              ends = omega arith;
              means = w.is no;
            };
          }

    pub next-piece : {b : ℕ} → b ≡ get_or t (at + n) 0 → (b ≡ 40 → ⊥) → (b ≡ 41 → ⊥) → {m : ℕ} → RunEnds (take (length t - (at + n)) (drop (at + n) t)) m
        → {q : pieces.Piece} → PieceIs (part t (at + n) (at + n + m)) q → NextIs t at (Some (Piece q (at + n), at + n + m))
    next-piece e y z r w = piece-here (λ k. y (e ∙ k)) (λ k. z (e ∙ k)) r w

-- a run ends in the text
pub to-within : (t : List ℕ) (i : ℕ) {m : ℕ} → i ≤ length t → RunEnds (take (length t - i) (drop i t)) m → i + m ≤ length t
to-within t i {m} h r =
    let l : m ≤ length (take (length t - i) (drop i t)) = r.inside in
    let e = ap length (part-from i t) in let d = length-drop i t in omega arith

pub ruleset next_laws = (from-within, next-end, next_open, next_close, to-within, next-piece)
