-- Programs in programs: bits, and several behind the word `all`.
use Prim.Native.Nat.{ℕ, zero, suc, ◌+◌, ◌-◌, ◌*◌, ◌≤◌, ◌<◌}
use mathlib.Core.Path.{◌≡◌, refl, sym, ap, ap₂, ◌∙◌}
use mathlib.Core.List.{List, ◌∷◌, ◌++◌}
use mathlib.Core.Logic.{◌⊎◌, inl, inr}
use native.Mathlib.Omega.{arith}
use native.Mathlib.Numerals.{add-one}
use lib.ListN.{length, drop, set, length-drop, length-append}
use lib.Seq.{sets, length-sets, drop-drop}
use borrow.Author.Tests.{eq-eqb, ne_eqb, lt-ltb, le-ltb}
use Rattle.std.specs.Prelude.{Result, Ok, Err}
use Rattle.model.specs.Reading as m
use Rattle.model.specs.Reading.{Reader, got, fault, next}
use Rattle.refusals.specs.declared.Refusal.{Refusal}
use Rattle.refusals.specs.declared.Refusal.TheVariants.{Layout}
use Rattle.numbers.specs.declared.Cursor.{Cursor}
use Rattle.numbers.specs.Answers.{read_at}
use Rattle.numbers.proofs.Answering.{read_shape, Took, took, refused}
use Rattle.bits.specs.declared.Token.{Token}
use Rattle.bits.specs.Tokens.{read_token}
use Rattle.bits.specs.Meeting.{room}
use Rattle.wiring.specs.declared.Wired.{Wired}
use Rattle.wiring.specs.Words.{operands, most_words}
use Rattle.wiring.specs.Wiring.{Given, nothing, both, wire_rung, start_number, wire_bit, wire_programs, wire_by, wire_head, wire_program, after, Wires, WiresRung, inside, Fits}
use Rattle.wiring.proofs.Runs.{run_more, set_before}
use Rattle.wiring.proofs.ProgramTails.{start_tail, program_tail, program-few}
use Rattle.wiring.proofs.Expressions.{token_took, next_on}
use Rattle.wiring.proofs.Programs.{wires_fault, wires_moved, wires_got, Came, came, wires_refused, fits_still}

-- ---- a program

pub program-is : (l : ℕ) (table : List ℕ) (n : ℕ) (s : List ℕ) → (l ≡ 0 → ⊥) → wire_program l table n s ≡ next (read_token s) (λ t. wire_head (wire_program (l - 1)) (wire_rung table (l - 1)) table n t.content)
unfolding wire_program
program-is zero table n s h = absurd (h refl)
program-is (suc l) table n s h =
    let e : l ≡ suc l - 1 = omega arith in ap (λ (k : ℕ). next (read_token s) (λ t. wire_head (wire_program k) (wire_rung table k) table n t.content)) e

module _ (at l : ℕ) (w₀ : Wired) (table s code bits : List ℕ) where
  pub program_deep : {code' bits' : List ℕ} → l ≡ 0 → Wires w₀ (at + length s) (wire_program l table w₀.bits s) code bits code' bits' (Err Layout)
  unfolding wire_program
  program_deep e = wires_fault (rw e)

  module _ (some : l ≡ 0 → ⊥) {r : Result (Token × Cursor) Refusal} (h : r ≡ read_at (at + length s) (read_token s)) where
    pub program-stops : {f : Refusal} {code' bits' : List ℕ} → r ≡ Err f → Wires w₀ (at + length s) (wire_program l table w₀.bits s) code bits code' bits' (Err f)
    program-stops e = wires_fault (program-is l table w₀.bits s some ∙ rw (refused read_shape (at + length s) (read_token s) h e))

    pub program-goes : {t : Token} {past : Cursor} {u code' bits' : List ℕ} {x : Result (Wired × Cursor) Refusal} → r ≡ Ok (t, past) → u ≡ drop (past.at - at) s
        → Wires w₀ (past.at + length u) (wire_head (wire_program (l - 1)) (wire_rung table (l - 1)) table w₀.bits t.content u) code bits code' bits' x
        → Wires w₀ (at + length s) (wire_program l table w₀.bits s) code bits code' bits' x
    program-goes {t} {past} {u} e i a =
        let T = token_took at s h e in
        let z : past.at + length u ≡ at + length s = rw i T.ends in
        wires_moved z (program-is l table w₀.bits s some ∙ next_on (λ t. wire_head (wire_program (l - 1)) (wire_rung table (l - 1)) table w₀.bits t.content) T.is (sym i)) a

-- ---- by its head

module _ (part : List ℕ → ℕ → Reader Given) (rung : Reader Given) (table : List ℕ) (n k : ℕ) (t : Token) (u : List ℕ) where
  pub by_bit : t.tag ≡ 2 → wire_by part rung table n k t u ≡ wire_bit part table n t.content u
  unfolding wire_by
  by_bit e = rw (eq-eqb t.tag 2 e)

  pub by_all : (t.tag ≡ 2 → ⊥) → t.content ≡ 5 → wire_by part rung table n k t u ≡ wire_programs (part table) n nothing (k - 1) u
  unfolding wire_by
  by_all e f = rw (ne_eqb t.tag 2 e, eq-eqb t.content 5 f)

  pub by-rung : (t.tag ≡ 2 → ⊥) → (t.content ≡ 5 → ⊥) → wire_by part rung table n k t u ≡ rung u
  unfolding wire_by
  by-rung e f = rw (ne_eqb t.tag 2 e, ne_eqb t.content 5 f)

module _ (at l k : ℕ) (w₀ : Wired) (table s code bits : List ℕ) {r : Result (Token × Cursor) Refusal} (h : r ≡ read_at (at + length s) (read_token s)) where
  pub head-stops : {f : Refusal} {code' bits' : List ℕ} → r ≡ Err f → Wires w₀ (at + length s) (wire_head (wire_program l) (wire_rung table l) table w₀.bits k s) code bits code' bits' (Err f)
  unfolding wire_head
  head-stops e = wires_fault (rw (refused read_shape (at + length s) (read_token s) h e))

  module _ {t : Token} {past : Cursor} {u : List ℕ} (e : r ≡ Ok (t, past)) (i : u ≡ drop (past.at - at) s) where
    head_on : wire_head (wire_program l) (wire_rung table l) table w₀.bits k s ≡ wire_by (wire_program l) (wire_rung table l) table w₀.bits k t u
    unfolding wire_head
    head_on = let T = token_took at s h e in rw (T.is, ← i)

    ends_there : past.at + length u ≡ at + length s
    ends_there = let T = token_took at s h e in rw i T.ends

    pub head-bit : {code' bits' : List ℕ} {x : Result (Wired × Cursor) Refusal} → t.tag ≡ 2 → Wires w₀ (past.at + length u) (wire_bit (wire_program l) table w₀.bits t.content u) code bits code' bits' x
        → Wires w₀ (at + length s) (wire_head (wire_program l) (wire_rung table l) table w₀.bits k s) code bits code' bits' x
    head-bit q a = wires_moved ends_there (head_on ∙ by_bit (wire_program l) (wire_rung table l) table w₀.bits k t u q) a

    pub head-all : {code' bits' : List ℕ} {x : Result (Wired × Cursor) Refusal} → (t.tag ≡ 2 → ⊥) → t.content ≡ 5 → Wires w₀ (past.at + length u) (wire_programs (wire_program l table) w₀.bits nothing (k - 1) u) code bits code' bits' x
        → Wires w₀ (at + length s) (wire_head (wire_program l) (wire_rung table l) table w₀.bits k s) code bits code' bits' x
    head-all q v a = wires_moved ends_there (head_on ∙ by_all (wire_program l) (wire_rung table l) table w₀.bits k t u q v) a

    pub head-rung : {code' : List ℕ} {x : Result (Wired × Cursor) Refusal} → (t.tag ≡ 2 → ⊥) → (t.content ≡ 5 → ⊥) → WiresRung w₀ (past.at + length u) (wire_rung table l u) code code' x
        → Wires w₀ (at + length s) (wire_head (wire_program l) (wire_rung table l) table w₀.bits k s) code bits code' bits x
    head-rung q v a = wires_moved ends_there (head_on ∙ by-rung (wire_program l) (wire_rung table l) table w₀.bits k t u q v) (a bits)

-- ---- a bit

bit-large : (end l : ℕ) (w₀ : Wired) (table s : List ℕ) (name : ℕ) {code bits code' bits' : List ℕ} → operands ≤ name → Wires w₀ end (wire_bit (wire_program l) table w₀.bits name s) code bits code' bits' (Err Layout)
unfolding wire_bit
bit-large end l w₀ table s name h = wires_fault (rw (le-ltb name operands h))

bit_full : (end l : ℕ) (w₀ : Wired) (table s : List ℕ) (name : ℕ) {code bits code' bits' : List ℕ} → name < operands → room ≤ w₀.bits → Wires w₀ end (wire_bit (wire_program l) table w₀.bits name s) code bits code' bits' (Err Layout)
unfolding wire_bit
bit_full end l w₀ table s name h k = wires_fault (rw (lt-ltb name operands h, le-ltb w₀.bits room k))

-- either
pub bit_out : (end l : ℕ) (w₀ : Wired) (table s : List ℕ) (name : ℕ) {code bits code' bits' : List ℕ} → (operands ≤ name) ⊎ ((name < operands) × (room ≤ w₀.bits)) → Wires w₀ end (wire_bit (wire_program l) table w₀.bits name s) code bits code' bits' (Err Layout)
bit_out end l w₀ table s name (inl h) = bit-large end l w₀ table s name h
bit_out end l w₀ table s name (inr p) = bit_full end l w₀ table s name p.0 p.1

-- with its start value in front
abbrev pub begun : Given → ℕ → Given
begun x v = record { words = x.words; starts = v ∷ x.starts }

pub bit_is : (l n : ℕ) (table s : List ℕ) (name : ℕ) → name < operands → n < room → wire_bit (wire_program l) table n name s
    ≡ next (wire_program l (set table name n) (n + 1) s) (λ x u. next (start_number u) (λ v z. got (begun x v) z))
unfolding wire_bit
bit_is l n table s name h k = rw (lt-ltb name operands h, lt-ltb n room k)

module _ (at l : ℕ) (w₀ : Wired) (table s : List ℕ) (name : ℕ) {code bits code' bits' : List ℕ} {q : Result (Wired × Cursor) Refusal}
    (a : Wires (inside w₀) (at + length s) (wire_program l (set table name w₀.bits) (w₀.bits + 1) s) code bits code' bits' q) where
  body_came : {w : Wired} {past : Cursor} → q ≡ Ok (w, past) → Came (inside w₀) at s (wire_program l (set table name w₀.bits) (w₀.bits + 1) s) code bits code' bits' w past.at
  body_came e = came at s a e (program_tail l (set table name w₀.bits) (w₀.bits + 1) s)

  module _ {w : Wired} {past : Cursor} (e : q ≡ Ok (w, past)) where
    pub body-moved : at ≤ past.at
    body-moved = (body_came e).moved

    pub body-within : past.at ≤ at + length s
    body-within = (body_came e).within

  module _ (h : name < operands) (k : w₀.bits < room) where
    pub body-stops : {f : Refusal} {bits'' : List ℕ} → q ≡ Err f → Wires w₀ (at + length s) (wire_bit (wire_program l) table w₀.bits name s) code bits code' bits'' (Err f)
    body-stops e =
        wires_fault (bit_is l w₀.bits table s name h k ∙ ap (λ (g : m.Read Given). next g (λ x u. next (start_number u) (λ v z. got (begun x v) z)))
        (wires_refused (at + length s) (wire_program l (set table name w₀.bits) (w₀.bits + 1) s) a e))

    module _ {w : Wired} {past : Cursor} (e : q ≡ Ok (w, past)) {u : List ℕ} (i : u ≡ drop (past.at - at) s) {x : Result (ℕ × Cursor) Refusal} (o : x ≡ read_at (past.at + length u) (start_number u)) where
      -- the start value is read behind the body
      starting : wire_bit (wire_program l) table w₀.bits name s ≡ next (start_number u) (λ v z. got (begun (body_came e).given v) z)
      starting = bit_is l w₀.bits table s name h k ∙ next_on (λ x u. next (start_number u) (λ v z. got (begun x v) z)) (body_came e).is (sym i)

      pub value-stops : {f : Refusal} {bits'' : List ℕ} → x ≡ Err f → Wires w₀ (at + length s) (wire_bit (wire_program l) table w₀.bits name s) code bits code' bits'' (Err f)
      value-stops d = wires_fault (starting ∙ rw (refused read_shape (past.at + length u) (start_number u) o d))

      pub bit-done : {v : ℕ} {end : Cursor} {bits'' : List ℕ} → x ≡ Ok (v, end) → bits'' ≡ set bits' w₀.bits v
          → Wires w₀ (at + length s) (wire_bit (wire_program l) table w₀.bits name s) code bits code' bits'' (Ok (w, end))
      bit-done {v} {end} d b =
          let C = body_came e in
          let T : Took past.at u (start_number u) v end.at = took read_shape o d (start_tail u) in
          let rest : drop (end.at - past.at) u ≡ drop (end.at - at) s =
          ap (drop (end.at - past.at)) i ∙ drop-drop (end.at - past.at) (past.at - at) s ∙ (let z : past.at - at + (end.at - past.at) ≡ end.at - at = omega (arith, T.moved, C.moved) in ap (λ (y : ℕ). drop y s) z) in
          let long : past.at + length u ≡ at + length s = rw i C.ends in
          let m : end.at + length (drop (end.at - at) s) ≡ at + length s = ap (λ (y : List ℕ). end.at + length y) (sym rest) ∙ T.ends ∙ long in
          let g : wire_bit (wire_program l) table w₀.bits name s ≡ got (begun C.given v) (drop (end.at - at) s) = starting ∙ rw (T.is, rest) in
          let n : w₀.bits + 1 + length C.given.starts ≡ w₀.bits + suc (length C.given.starts) = omega arith in
          let j : w₀.bits < w₀.bits + 1 = omega arith in
          wires_got at s g m (C.counted ∙ ap (λ (y : ℕ). record { words = w₀.words + length C.given.words; bits = y }) n) C.stored
          (b ∙ ap (λ (y : List ℕ). set y w₀.bits v) C.started ∙ set_before bits (w₀.bits + 1) w₀.bits v C.given.starts j ∙ ap (λ (y : ℕ). sets (set bits w₀.bits v) y C.given.starts) (add-one w₀.bits))

-- ---- one program after another

pub record Programs (at l : ℕ) (table s : List ℕ) (w₀ : Wired) (parts : ℕ) (code₀ bits₀ : List ℕ) (here done : ℕ) (w : Wired) (around code bits : List ℕ) : Type 0 where
  pub kept-around : around ≡ table
  pub moved : at ≤ here
  pub within : here ≤ at + length s
  pub half : 2 * w.words ≤ here
  pub long : most_words ≤ length code
  pub bits-long : room ≤ length bits
  pub same : length code ≡ length code₀
  pub bits-same : length bits ≡ length bits₀
  pub before : Given
  pub counted : w ≡ after w₀ before
  pub stored : code ≡ sets code₀ w₀.words before.words
  pub started : bits ≡ sets bits₀ w₀.bits before.starts
  pub is : wire_programs (wire_program l table) w₀.bits nothing (parts - 1) s ≡ wire_programs (wire_program l table) w₀.bits before (parts - done) (drop (here - at) s)

pub programs_start : {at l : ℕ} {table s : List ℕ} {w₀ : Wired} {parts : ℕ} {code bits : List ℕ} → Fits at s table code w₀.words → room ≤ length bits → Programs at l table s w₀ parts code bits at 1 w₀ table code bits
programs_start {at} {w₀ = w₀} f b =
    let e : at - at ≡ 0 = omega arith in
    let x : w₀.words ≡ w₀.words + 0 = omega arith in
    let y : w₀.bits ≡ w₀.bits + 0 = omega arith in
    record {
      kept-around = refl;
      moved = omega arith;
      within = omega arith;
      half = f.half;
      long = f.long;
      bits-long = b;
      same = refl;
      bits-same = refl;
      before = nothing;
      counted = ap₂ (λ (p q : ℕ). record { words = p; bits = q }) x y;
      stored = refl;
      started = refl;
      is = rw e;
    }

one-program : (part : ℕ → Reader Given) (n : ℕ) (before : Given) (left : ℕ) (s : List ℕ) → 0 < left
    → wire_programs part n before left s ≡ next (part (n + length before.starts) s) (λ x. wire_programs part n (both before x) (left - 1))
unfolding wire_programs
one-program part n before zero s h = absurd (omega arith)
one-program part n before (suc left) s h = let e : suc left - 1 ≡ left = omega arith in rw e

no_program : (part : ℕ → Reader Given) (n : ℕ) (before : Given) (left : ℕ) (s : List ℕ) → left ≡ 0 → wire_programs part n before left s ≡ got before s
unfolding wire_programs
no_program part n before left s e = rw e

module _ {at l : ℕ} {table s : List ℕ} {w₀ : Wired} {parts : ℕ} {code₀ bits₀ : List ℕ} {here done : ℕ} {w : Wired} {around code bits : List ℕ} (p : Programs at l table s w₀ parts code₀ bits₀ here done w around code bits) where
  pub programs_done : {c : Cursor} → here ≡ c.at → parts ≤ done → Wires w₀ (at + length s) (wire_programs (wire_program l table) w₀.bits nothing (parts - 1) s) code₀ bits₀ code bits (Ok (w, c))
  programs_done {c} q h =
      let k = length-drop (here - at) s in
      let m : here + length (drop (here - at) s) ≡ at + length s = omega (arith, p.moved, p.within) in
      let g : wire_programs (wire_program l table) w₀.bits nothing (parts - 1) s ≡ got p.before (drop (c.at - at) s) = p.is ∙ no_program (wire_program l table) w₀.bits p.before (parts - done) (drop (here - at) s) (omega arith) ∙ rw q in
      wires_got at s g (rw (← q) m) p.counted p.stored p.started

  module _ (some : done < parts) {u : List ℕ} (i : u ≡ drop (here - at) s) {code' bits' : List ℕ} {r : Result (Wired × Cursor) Refusal} (a : Wires w (here + length u) (wire_program l around w.bits u) code bits code' bits' r) where
    step : wire_programs (wire_program l table) w₀.bits nothing (parts - 1) s ≡ next (wire_program l around w.bits u) (λ x. wire_programs (wire_program l table) w₀.bits (both p.before x) (parts - (done + 1)))
    step =
        let k : 0 < parts - done = omega arith in
        let z : parts - (done + 1) ≡ parts - done - 1 = omega arith in
        p.is ∙ ap (wire_programs (wire_program l table) w₀.bits p.before (parts - done)) (sym i) ∙ rw z (one-program (wire_program l table) w₀.bits p.before (parts - done) u k)
        ∙ ap₂ (λ (y : List ℕ) (n : ℕ). next (wire_program l y n u) (λ x. wire_programs (wire_program l table) w₀.bits (both p.before x) (parts - (done + 1)))) (sym p.kept-around) (sym (ap (λ (y : Wired). y.bits) p.counted))

    pub program_part_stops : {f : Refusal} {code'' bits'' : List ℕ} → r ≡ Err f → Wires w₀ (at + length s) (wire_programs (wire_program l table) w₀.bits nothing (parts - 1) s) code₀ bits₀ code'' bits'' (Err f)
    program_part_stops e = wires_fault (step ∙ ap (λ (g : m.Read Given). next g (λ x. wire_programs (wire_program l table) w₀.bits (both p.before x) (parts - (done + 1)))) (wires_refused (here + length u) (wire_program l around w.bits u) a e))

    pub program-more : {v : Wired} {past : Cursor} {around' : List ℕ} → around' ≡ around → r ≡ Ok (v, past) → Programs at l table s w₀ parts code₀ bits₀ past.at (done + 1) v around' code' bits'
    program-more {v} {past} o e =
        let C = came here u a e (program_tail l around w.bits u) in
        let x = program-few l around w.bits u C.given (drop (past.at - here) u) C.is in
        let long : length u ≡ length s - (here - at) = ap length i ∙ length-drop (here - at) s in
        let z : here - at + (past.at - here) ≡ past.at - at = omega (arith, C.moved, p.moved) in
        let rest : drop (past.at - here) u ≡ drop (past.at - at) s = ap (drop (past.at - here)) i ∙ drop-drop (past.at - here) (here - at) s ∙ ap (λ (y : ℕ). drop y s) z in
        let words_are : w.words ≡ w₀.words + length p.before.words = ap (λ (y : Wired). y.words) p.counted in
        let bits_are : w.bits ≡ w₀.bits + length p.before.starts = ap (λ (y : Wired). y.bits) p.counted in
        let words_now : v.words ≡ w.words + length C.given.words = ap (λ (y : Wired). y.words) C.counted in
        let bits_now : v.bits ≡ w.bits + length C.given.starts = ap (λ (y : Wired). y.bits) C.counted in
        let n = length-append p.before.words C.given.words in
        let k = length-append p.before.starts C.given.starts in
        let f : v.words ≡ w₀.words + length (p.before.words ++ C.given.words) = omega arith in
        let g : v.bits ≡ w₀.bits + length (p.before.starts ++ C.given.starts) = omega arith in
        let y : length code' ≡ length code = ap length C.stored ∙ length-sets code w.words C.given.words in
        let b : length bits' ≡ length bits = ap length C.started ∙ length-sets bits w.bits C.given.starts in
        record {
          kept-around = o ∙ p.kept-around;
          moved = omega (arith, C.moved, p.moved);
          within = omega (arith, C.within, p.moved, p.within);
          half = omega (arith, C.ends, p.half);
          long = omega (arith, p.long);
          bits-long = omega (arith, p.bits-long);
          same = y ∙ p.same;
          bits-same = b ∙ p.bits-same;
          before = both p.before C.given;
          counted = ap₂ (λ (c d : ℕ). record { words = c; bits = d }) f g;
          stored = run_more code₀ w₀.words p.before.words C.given.words words_are p.stored C.stored;
          started = run_more bits₀ w₀.bits p.before.starts C.given.starts bits_are p.started C.started;
          is = step ∙ next_on (λ x. wire_programs (wire_program l table) w₀.bits (both p.before x) (parts - (done + 1))) C.is rest;
        }

-- ---- levels fall

pub head_less : (levels : ℕ) {t : ℕ} → 5 * levels ≡ t → (levels ≡ 0 → ⊥) → 5 * (levels - 1) + 4 < t
head_less levels e h = omega arith

pub bit_less : (levels : ℕ) {t : ℕ} → 5 * levels + 4 ≡ t → 5 * levels + 3 < t
bit_less levels e = omega arith

pub programs_less : (levels : ℕ) {t : ℕ} → 5 * levels + 4 ≡ t → 5 * levels + 1 < t
programs_less levels e = omega arith

-- what the calls ask
pub ruleset program_laws = (fits_still, head_less, bit_less, programs_less)
