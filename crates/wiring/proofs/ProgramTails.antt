-- What is left after a program's reading is a tail of what was there, and for two bytes that were taken there is a word at most.
use Prim.Native.Nat.{ℕ, zero, suc, ◌+◌, ◌-◌, ◌*◌, ◌≤◌}
use mathlib.Core.Path.{◌≡◌, ap}
use mathlib.Core.Bool.{Bool, true, false}
use mathlib.Core.List.{List, [], ◌∷◌, ◌++◌}
use native.Mathlib.Omega.{arith}
use lib.Dec.{eqb, ltb, leb}
use lib.ListN.{length, set, length-append}
use Rattle.model.specs.Choice.{when◌then◌else◌}
use Rattle.model.specs.Refusals.{layout}
use Rattle.model.specs.Reading as m
use Rattle.model.specs.Reading.{Reader, got, next, need}
use Rattle.codec_laws.proofs.NumberTrip.{fault≢got}
use Rattle.codec_laws.proofs.Sequence.{next-got, need-got, moved}
use Rattle.numbers.proofs.Tails.{Tail, tail_fault, tail_give, tail_next, tail_need, tail_if}
use Rattle.bits.specs.declared.Token.{Token}
use Rattle.bits.specs.Tokens.{read_token}
use Rattle.bits.specs.Meeting.{room}
use Rattle.bits.proofs.Tokens.{token_tail}
use Rattle.wiring.specs.Words.{operands, place_word}
use Rattle.wiring.specs.Wiring.{wire_tree, Given, nothing, both, wire_coil, wire_rung, start_number, wire_bit, wire_programs, wire_by, wire_head, wire_program}
use Rattle.wiring.proofs.Tails.{token-two, tree_tail, tree-few}

-- ---- tails

coil_tail : (table : List ℕ) (t : Token) (w s : List ℕ) → Tail s (wire_coil table t w s)
unfolding wire_coil
coil_tail table t w s = tail_next _ (tail_need layout (ltb t.content operands) s) (λ x u. tail_give (record { words = w ++ place_word table 9 10 t ∷ []; starts = [] }) u)

pub rung_tail : (table : List ℕ) (l : ℕ) (s : List ℕ) → Tail s (wire_rung table l s)
unfolding wire_rung
rung_tail table l s = tail_next _ (token_tail s) (λ t u. tail_next _ (tree_tail table l 0 u) (λ w v. coil_tail table t w v))

pub start_tail : (s : List ℕ) → Tail s (start_number s)
unfolding start_number
start_tail s = tail_next _ (token_tail s) (λ t u. tail_next _ (tail_need layout (leb t.content 1) u) (λ x v. tail_give t.content v))

module _ (part : ℕ → Reader Given) (h : (n : ℕ) (s : List ℕ) → Tail s (part n s)) where
  pub programs_tail : (n next : ℕ) (before : Given) (s : List ℕ) → Tail s (wire_programs part next before n s)
  unfolding wire_programs
  programs_tail zero next before s = tail_give before s
  programs_tail (suc n) next before s = tail_next _ (h (next + length before.starts) s) (λ g u. programs_tail n next (both before g) u)

module _ (part : List ℕ → ℕ → Reader Given) (h : (table : List ℕ) (n : ℕ) (s : List ℕ) → Tail s (part table n s)) (rung : Reader Given) (k : (s : List ℕ) → Tail s (rung s)) where
  bit_tail : (table : List ℕ) (next name : ℕ) (s : List ℕ) → Tail s (wire_bit part table next name s)
  unfolding wire_bit
  bit_tail table next name s =
      tail_next _ (tail_need layout (ltb name operands) s) (λ x t. tail_next _ (tail_need layout (ltb next room) t) (λ y u.
      tail_next _ (h (set table name next) (next + 1) u) (λ g v. tail_next _ (start_tail v) (λ n w. tail_give (record { words = g.words; starts = n ∷ g.starts }) w))))

  by_tail : (table : List ℕ) (next n : ℕ) (t : Token) (s : List ℕ) → Tail s (wire_by part rung table next n t s)
  unfolding wire_by
  by_tail table next n t s =
      tail_if (eqb t.tag 2) (wire_bit part table next t.content) _ (bit_tail table next t.content s)
      (tail_if (eqb t.content 5) (wire_programs (part table) next nothing (n - 1)) rung (programs_tail (part table) (h table) (n - 1) next nothing s) (k s))

  head_tail : (table : List ℕ) (next n : ℕ) (s : List ℕ) → Tail s (wire_head part rung table next n s)
  unfolding wire_head
  head_tail table next n s = tail_next _ (token_tail s) (λ t u. by_tail table next n t u)

pub program_tail : (l : ℕ) (table : List ℕ) (next : ℕ) (s : List ℕ) → Tail s (wire_program l table next s)
unfolding wire_program
program_tail zero table next s = tail_fault
program_tail (suc l) table next s = tail_next _ (token_tail s) (λ t u. head_tail (wire_program l) (program_tail l) (wire_rung table l) (rung_tail table l) table next t.content u)

-- ---- few words

abbrev Few : ℕ → List ℕ → m.Read Given → Type 0
Few k s g = (x : Given) (rest : List ℕ) → g ≡ got x rest → 2 * length x.words + length rest ≤ k + length s

few-got : (k : ℕ) (s : List ℕ) (g : Given) (u : List ℕ) → 2 * length g.words + length u ≤ k + length s → Few k s (got g u)
few-got k s g u h x rest e = moved (λ (y : Given) (v : List ℕ). 2 * length y.words + length v ≤ k + length s) g x u rest e h

coil-few : (table : List ℕ) (t : Token) (w s : List ℕ) → Few (2 * length w + 2) s (wire_coil table t w s)
unfolding wire_coil
coil-few table t w s x rest e =
    let g = next-got (need layout (ltb t.content operands) s) _ x rest e in
    let q = need-got layout (ltb t.content operands) g.0 s g.1 g.2 in
    let z = ap length q.1 in
    let l = length-append w (place_word table 9 10 t ∷ []) in
    few-got (2 * length w + 2) s (record { words = w ++ place_word table 9 10 t ∷ []; starts = [] }) g.1 (omega arith) x rest g.3

pub rung-few : (table : List ℕ) (l : ℕ) (s : List ℕ) → Few 0 s (wire_rung table l s)
unfolding wire_rung
rung-few table l s x rest e =
    let g = next-got (read_token s) _ x rest e in
    let p = next-got (wire_tree table l 0 g.1) _ x rest g.3 in
    let a = token-two s g.0 g.1 g.2 in
    let b = tree-few table l 0 g.1 p.0 p.1 p.2 in
    let c = coil-few table g.0 p.0 p.1 x rest p.3 in
    omega arith

start-few : (s : List ℕ) (n : ℕ) (rest : List ℕ) → start_number s ≡ got n rest → length rest ≤ length s
unfolding start_number
start-few s n rest e =
    let g = next-got (read_token s) _ n rest e in
    let a = token-two s g.0 g.1 g.2 in
    let p = next-got (need layout (leb g.0.content 1) g.1) _ n rest g.3 in
    let q = need-got layout (leb g.0.content 1) p.0 g.1 p.1 p.2 in
    let z = ap length q.1 in
    moved (λ (y : ℕ) (v : List ℕ). length v ≤ length s) g.0.content n p.1 rest p.3 (omega arith)

module _ (part : ℕ → Reader Given) (h : (n : ℕ) (s : List ℕ) → Few 0 s (part n s)) where
  pub programs_few : (n next : ℕ) (before : Given) (s : List ℕ) → Few (2 * length before.words) s (wire_programs part next before n s)
  unfolding wire_programs
  programs_few zero next before s x rest e = few-got (2 * length before.words) s before s (omega arith) x rest e
  programs_few (suc n) next before s x rest e =
      let g = next-got (part (next + length before.starts) s) _ x rest e in
      let a = h (next + length before.starts) s g.0 g.1 g.2 in
      let b = programs_few n next (both before g.0) g.1 x rest g.3 in
      let l = length-append before.words g.0.words in
      omega arith

module _ (part : List ℕ → ℕ → Reader Given) (h : (table : List ℕ) (n : ℕ) (s : List ℕ) → Few 0 s (part table n s)) (rung : Reader Given) (k : (s : List ℕ) → Few 0 s (rung s)) where
  bit-few : (table : List ℕ) (next name : ℕ) (s : List ℕ) → Few 0 s (wire_bit part table next name s)
  unfolding wire_bit
  bit-few table next name s x rest e =
      let a = next-got (need layout (ltb name operands) s) _ x rest e in
      let p = need-got layout (ltb name operands) a.0 s a.1 a.2 in
      let b = next-got (need layout (ltb next room) a.1) _ x rest a.3 in
      let q = need-got layout (ltb next room) b.0 a.1 b.1 b.2 in
      let g = next-got (part (set table name next) (next + 1) b.1) _ x rest b.3 in
      let c = h (set table name next) (next + 1) b.1 g.0 g.1 g.2 in
      let v = next-got (start_number g.1) _ x rest g.3 in
      let d = start-few g.1 v.0 v.1 v.2 in
      let y = ap length p.1 in
      let z = ap length q.1 in
      few-got 0 s (record { words = g.0.words; starts = v.0 ∷ g.0.starts }) v.1 (omega arith) x rest v.3

  by-few : (table : List ℕ) (next n : ℕ) (t : Token) (s : List ℕ) → Few 0 s (wire_by part rung table next n t s)
  unfolding wire_by
  by-few table next n t s = go (eqb t.tag 2) (eqb t.content 5)
    where
      go : (a b : Bool) → Few 0 s ((when a then wire_bit part table next t.content else when b then wire_programs (part table) next nothing (n - 1) else rung) s)
      go true b = bit-few table next t.content s
      go false true = programs_few (part table) (h table) (n - 1) next nothing s
      go false false = k s

  head_few : (table : List ℕ) (next n : ℕ) (s : List ℕ) → Few 0 s (wire_head part rung table next n s)
  unfolding wire_head
  head_few table next n s x rest e =
      let g = next-got (read_token s) _ x rest e in
      let a = token-two s g.0 g.1 g.2 in
      let b = by-few table next n g.0 g.1 x rest g.3 in
      omega arith

pub program-few : (l : ℕ) (table : List ℕ) (next : ℕ) (s : List ℕ) → Few 0 s (wire_program l table next s)
unfolding wire_program
program-few zero table next s x rest e = absurd (fault≢got layout x rest e)
program-few (suc l) table next s x rest e =
    let g = next-got (read_token s) _ x rest e in
    let a = token-two s g.0 g.1 g.2 in
    let b = head_few (wire_program l) (program-few l) (wire_rung table l) (rung-few table l) table next g.0.content g.1 x rest g.3 in
    omega arith
