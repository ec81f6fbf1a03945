-- Words taken out of bytes, one after another.
use Prim.Native.Nat.{ℕ, zero, suc, ◌+◌, ◌*◌, ◌/◌, ◌≤◌, ◌<◌}
use mathlib.Core.Path.{◌≡◌, refl, sym, ◌∙◌}
use mathlib.Core.List.{List, [], ◌∷◌}
use native.Mathlib.Omega.{arith}
use native.Mathlib.Nat.{div-mul-le_self}
use borrow.Author.Count.{below_more}
use lib.ListN.{length, get_or, set, length-set}
use lib.Seq.{get_or-set_same, get_or-set_other, ext_get_or}
use Rattle.answer_line.specs.Words.{word_of, words_of}

pub words-length : (l : List ℕ) → length (words_of l) ≡ length l / 4
unfolding words_of
words-length [] = refl
words-length (a ∷ []) = refl
words-length (a ∷ b ∷ []) = refl
words-length (a ∷ b ∷ c ∷ []) = refl
words-length (a ∷ b ∷ c ∷ d ∷ l) = let e = words-length l in omega arith

-- the word at i is that of the four bytes from 4 i on
words-at : (l : List ℕ) (i : ℕ) → i < length (words_of l) → get_or (words_of l) i 0 ≡ word_of (get_or l (4 * i) 0) (get_or l (4 * i + 1) 0) (get_or l (4 * i + 2) 0) (get_or l (4 * i + 3) 0)
unfolding words_of
words-at [] i h = absurd (omega arith)
words-at (a ∷ []) i h = absurd (omega arith)
words-at (a ∷ b ∷ []) i h = absurd (omega arith)
words-at (a ∷ b ∷ c ∷ []) i h = absurd (omega arith)
words-at (a ∷ b ∷ c ∷ d ∷ l) zero h = refl
words-at (a ∷ b ∷ c ∷ d ∷ l) (suc i) h =
    let p : 4 * suc i ≡ suc (suc (suc (suc (4 * i)))) = omega arith in
    let q : 4 * suc i + 1 ≡ suc (suc (suc (suc (4 * i + 1)))) = omega arith in
    let r : 4 * suc i + 2 ≡ suc (suc (suc (suc (4 * i + 2)))) = omega arith in
    let s : 4 * suc i + 3 ≡ suc (suc (suc (suc (4 * i + 3)))) = omega arith in
    rw (q, r, s, p) (words-at l i (omega arith))

-- the first i words are taken
pub record Taking (bytes words₀ words : List ℕ) (i : ℕ) : Type 0 where
  pub within : i ≤ length words
  pub room : length words * 4 ≤ length bytes
  pub kept : length words ≡ length words₀
  pub all : length words ≡ length (words_of bytes)
  pub same : (k : ℕ) → k < i → get_or words k 0 ≡ get_or (words_of bytes) k 0

pub taking-begun : {bytes words : List ℕ} → length words ≡ length bytes / 4 → Taking bytes words words 0
taking-begun {bytes} e =
    record { within = omega arith; room = (let d = div-mul-le_self (length bytes) 4 in omega arith); kept = refl; all = e ∙ sym (words-length bytes); same = λ k h. absurd (omega arith) }

module _ {bytes words₀ words : List ℕ} {i : ℕ} (w : Taking bytes words₀ words i) where
  pub taking-more : {v : ℕ} → i < length words → v ≡ word_of (get_or bytes (4 * i) 0) (get_or bytes (4 * i + 1) 0) (get_or bytes (4 * i + 2) 0) (get_or bytes (4 * i + 3) 0)
      → Taking bytes words₀ (set words i v) (i + 1)
  taking-more {v} h e =
      let l = length-set words i v in
      record {
        within = omega arith;
        room = let r = w.room in omega arith;
        kept = l ∙ w.kept;
        all = l ∙ w.all;
        same =
            below_more _ _ (λ k lt. get_or-set_other words i k v 0 (λ q. omega arith) ∙ w.same k lt)
            (get_or-set_same words i v 0 h ∙ e ∙ sym (words-at bytes i (let a = w.all in omega arith)));
      }

  pub taking-ended : {n : ℕ} → n ≡ length words₀ → n ≤ i → words ≡ words_of bytes
  taking-ended e h = ext_get_or 0 words (words_of bytes) w.all (λ k l. w.same k (omega (arith, w.kept)))

pub ruleset taking_laws = (taking-begun, taking-more, taking-ended)
