-- A token read, by the tests that the code makes.
use Prim.Native.Nat.{ℕ, ◌+◌, ◌-◌}
use mathlib.Core.Path.{◌≡◌, refl}
use mathlib.Core.List.{List}
use lib.Dec.{eqb}
use lib.ListN.{length, drop}
use Rattle.std.specs.Prelude.{Result, Ok, Err}
use borrow.Author.Tests.{eq-eqb, ne_eqb}
use Rattle.model.specs.Reading.{num}
use Rattle.refusals.specs.declared.Refusal.{Refusal}
use Rattle.numbers.specs.declared.Cursor.{Cursor}
use Rattle.numbers.specs.Answers.{read_at, beside}
use Rattle.numbers.proofs.Tails.{Tail, tail_give, tail_next, tail_if, num_tail}
use Rattle.numbers.proofs.Answering.{read_shape, goes, gives, stops}
use Rattle.bits.specs.Tokens.{read_content, read_kind, read_behind, read_token}
use Rattle.bits.specs.declared.Token.{Token}

-- ---- what is left is a tail

content_tail : (tag kind : ℕ) (s : List ℕ) → Tail s (read_content tag kind s)
unfolding read_content
content_tail tag kind s = tail_next _ (num_tail s) (λ x t. tail_give (record { tag = tag; kind = kind; content = x }) t)

kind_tail : (s : List ℕ) → Tail s (read_kind s)
unfolding read_kind
kind_tail s = tail_next _ (num_tail s) (λ k t. content_tail 3 k t)

behind_tail : (tag : ℕ) (s : List ℕ) → Tail s (read_behind tag s)
unfolding read_behind
behind_tail tag s = tail_if (eqb tag 3) read_kind (read_content tag 0) (kind_tail s) (content_tail tag 0 s)

pub token_tail : (s : List ℕ) → Tail s (read_token s)
unfolding read_token
token_tail s = tail_next _ (num_tail s) behind_tail

-- ---- one law for each way out

module _ (at : ℕ) (s : List ℕ) {r : Result (ℕ × Cursor) Refusal} (h : r ≡ read_at (at + length s) (num s)) where
  pub content-stops : (tag kind : ℕ) {f : Refusal} → r ≡ Err f → Err f ≡ read_at (at + length s) (read_content tag kind s)
  unfolding read_content
  content-stops tag kind e = stops read_shape beside (at + length s) (num s) _ h e

  pub content-read : (tag kind : ℕ) {x : ℕ} {past : Cursor} → r ≡ Ok (x, past) → Ok (record { tag = tag; kind = kind; content = x }, past) ≡ read_at (at + length s) (read_content tag kind s)
  unfolding read_content
  content-read tag kind e = gives read_shape beside at (num s) _ h e (num_tail s) (λ u. refl)

  pub kind-stops : {f : Refusal} → r ≡ Err f → Err f ≡ read_at (at + length s) (read_kind s)
  unfolding read_kind
  kind-stops e = stops read_shape beside (at + length s) (num s) _ h e

  pub kind-read : {k : ℕ} {past : Cursor} {u : List ℕ} {x : Result (Token × Cursor) Refusal} → r ≡ Ok (k, past) → u ≡ drop (past.at - at) s → x ≡ read_at (past.at + length u) (read_content 3 k u) → x ≡ read_at (at + length s) (read_kind s)
  unfolding read_kind
  kind-read e i a = goes read_shape beside at (num s) _ h e (num_tail s) i a

  pub token-stops : {f : Refusal} → r ≡ Err f → Err f ≡ read_at (at + length s) (read_token s)
  unfolding read_token
  token-stops e = stops read_shape beside (at + length s) (num s) _ h e

  module _ {t : ℕ} {past : Cursor} {u : List ℕ} {x : Result (Token × Cursor) Refusal} (e : r ≡ Ok (t, past)) (i : u ≡ drop (past.at - at) s) where
    pub token-atom : t ≡ 3 → x ≡ read_at (past.at + length u) (read_kind u) → x ≡ read_at (at + length s) (read_token s)
    unfolding read_token read_behind
    token-atom q a = goes read_shape beside at (num s) _ h e (num_tail s) i (rw (eq-eqb t 3 q) a)

    pub token-other : (t ≡ 3 → ⊥) → x ≡ read_at (past.at + length u) (read_content t 0 u) → x ≡ read_at (at + length s) (read_token s)
    unfolding read_token read_behind
    token-other q a = goes read_shape beside at (num s) _ h e (num_tail s) i (rw (ne_eqb t 3 q) a)
