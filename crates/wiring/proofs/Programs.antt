-- Programs wired, by the tests that the code makes.
use Prim.Native.Nat.{ℕ, ◌+◌, ◌-◌, ◌≤◌, ◌<◌}
use mathlib.Core.Path.{◌≡◌, refl, sym, ap, ap₂, ◌∙◌}
use mathlib.Core.List.{List, [], ◌∷◌, ◌++◌}
use native.Mathlib.Omega.{arith}
use lib.ListN.{length, drop, set, length-append}
use lib.Seq.{sets, drop-drop}
use borrow.Author.Tests.{lt-ltb, le-ltb, le-leb, lt-leb}
use Rattle.std.specs.Prelude.{Result, Ok, Err}
use Rattle.std.specs.Result.{IsErrAnd}
use Rattle.model.specs.Refusals.{layout}
use Rattle.model.specs.Reading as m
use Rattle.model.specs.Reading.{got, fault, next}
use Rattle.codec_laws.proofs.NumberTrip.{fault≢got, got-value}
use Rattle.refusals.specs.declared.Refusal.{Refusal}
use Rattle.refusals.specs.declared.Refusal.TheVariants.{Layout}
use Rattle.refusals.specs.Refusing.{refusal_of}
use Rattle.refusals.proofs.Cases.{case_back}
use Rattle.refusals.proofs.Handing.{handed_on}
use Rattle.numbers.specs.declared.Cursor.{Cursor}
use Rattle.numbers.specs.Answers.{read_at, beside, kept}
use Rattle.numbers.proofs.Tails.{Tail}
use Rattle.numbers.proofs.Answering.{read_shape, took, refused, stops, refuses, gives, need-yes, need-no, kept-got, kept-fault, kept_tail}
use Rattle.bits.specs.declared.Token.{Token}
use Rattle.bits.specs.Tokens.{read_token}
use Rattle.bits.proofs.Tokens.{token_tail}
use Rattle.wiring.specs.declared.Wired.{Wired}
use Rattle.wiring.specs.Words.{operands, most_words, place_word}
use Rattle.wiring.specs.Wiring.{wire_tree, Wrote, Given, wire_coil, wire_rung, start_number, after, Wires, WiresRung, Fits}
use Rattle.wiring.proofs.Runs.{run_more}
use Rattle.wiring.proofs.Tails.{tree_tail, tree-few}
use Rattle.wiring.proofs.Expressions.{token_took, token-moved, token_far, token-fits, next_on, Gave, gave, wrote_refused}

-- ---- what is wired

pub wires_fault : {at : Wired} {end : ℕ} {g : m.Read Given} {code bits code' bits' : List ℕ} {f : Refusal} → g ≡ fault (refusal_of f) → Wires at end g code bits code' bits' (Err f)
wires_fault {f = f} e = record {
  place = rw e (ap (λ (x : Refusal). Err x) (sym (case_back f)));
  written = λ x rest d. absurd (fault≢got (refusal_of f) x rest (sym e ∙ d));
  started = λ x rest d. absurd (fault≢got (refusal_of f) x rest (sym e ∙ d));
}

-- what `?` hands on
pub wires_handed : {at : Wired} {end : ℕ} {g : m.Read Given} {code bits code' bits' : List ℕ} {r : Result (Wired × Cursor) Refusal} {f : Refusal} → IsErrAnd r (λ e. e ≡ f) → Wires at end g code bits code' bits' (Err f) → Wires at end g code bits code' bits' r
wires_handed h w = record { place = handed_on h w.place; written = w.written; started = w.started }

pub wires_moved : {at : Wired} {a b : ℕ} {g g' : m.Read Given} {code bits code' bits' : List ℕ} {r : Result (Wired × Cursor) Refusal} → a ≡ b → g' ≡ g → Wires at a g code bits code' bits' r → Wires at b g' code bits code' bits' r
wires_moved p q w = rw (q, ← p) w

pub wires_got : {w₀ : Wired} (at : ℕ) (s : List ℕ) {g : m.Read Given} {x : Given} {code bits code' bits' : List ℕ} {w : Wired} {past : Cursor} → g ≡ got x (drop (past.at - at) s)
    → past.at + length (drop (past.at - at) s) ≡ at + length s → w ≡ after w₀ x → code' ≡ sets code w₀.words x.words → bits' ≡ sets bits w₀.bits x.starts
    → Wires w₀ (at + length s) g code bits code' bits' (Ok (w, past))
wires_got {w₀} at s {x = x} {code = code} {bits = bits} {past = past} e ends n c b =
    let p : at + length s - length (drop (past.at - at) s) ≡ past.at = omega arith in
    record {
      place = rw (e, p, n);
      written = λ y rest d. (c ∙ ap (λ (z : Given). sets code w₀.words z.words) (got-value x y (drop (past.at - at) s) rest (sym e ∙ d)));
      started = λ y rest d. (b ∙ ap (λ (z : Given). sets bits w₀.bits z.starts) (got-value x y (drop (past.at - at) s) rest (sym e ∙ d)));
    }

pub record Came (w₀ : Wired) (at : ℕ) (s : List ℕ) (g : m.Read Given) (code bits code' bits' : List ℕ) (w : Wired) (place : ℕ) : Type 0 where
  pub given : Given
  pub is : g ≡ got given (drop (place - at) s)
  pub counted : w ≡ after w₀ given
  pub stored : code' ≡ sets code w₀.words given.words
  pub started : bits' ≡ sets bits w₀.bits given.starts
  pub moved : at ≤ place
  pub within : place ≤ at + length s
  pub ends : place + length (drop (place - at) s) ≡ at + length s

pub came : {w₀ : Wired} (at : ℕ) (s : List ℕ) {g : m.Read Given} {code bits code' bits' : List ℕ} {r : Result (Wired × Cursor) Refusal} {w : Wired} {past : Cursor} → Wires w₀ (at + length s) g code bits code' bits' r → r ≡ Ok (w, past) → Tail s g
    → Came w₀ at s g code bits code' bits' w past.at
came {w₀} at s {g} {past = past} w e t =
    let T = took read_shape w.place e (kept_tail (after w₀) t) in
    let K = kept-got (after w₀) g _ (drop (past.at - at) s) T.is in
    record {
      given = K.value;
      is = K.is;
      counted = sym K.value-is;
      stored = w.written K.value (drop (past.at - at) s) K.is;
      started = w.started K.value (drop (past.at - at) s) K.is;
      moved = T.moved;
      within = T.within;
      ends = T.ends;
    }

pub wires_refused : {w₀ : Wired} (end : ℕ) (g : m.Read Given) {code bits code' bits' : List ℕ} {r : Result (Wired × Cursor) Refusal} {f : Refusal} → Wires w₀ end g code bits code' bits' r → r ≡ Err f → g ≡ fault (refusal_of f)
wires_refused {w₀} end g {f = f} w e = kept-fault (after w₀) g (refusal_of f) (refused read_shape end (kept (after w₀) g) w.place e)

-- ---- a rung

-- the next reader asks no more than this one
pub fits_still : (at : ℕ) (s : List ℕ) {r : Result (Token × Cursor) Refusal} {t : Token} {past : Cursor} → r ≡ read_at (at + length s) (read_token s) → r ≡ Ok (t, past)
    → {around code u : List ℕ} {count : ℕ} → Fits at s around code count → u ≡ drop (past.at - at) s → Fits past.at u around code count
fits_still at s h e f i = record { short = token-fits at s h e i f.short; half = omega (arith, token-moved at s h e, f.half); named = f.named; long = f.long }

module _ (table : List ℕ) (t : Token) (w s : List ℕ) where
  coil-large : operands ≤ t.content → wire_coil table t w s ≡ fault layout
  unfolding wire_coil
  coil-large l = rw (le-ltb t.content operands l)

  pub coil-given : t.content < operands → wire_coil table t w s ≡ got (record { words = w ++ place_word table 9 10 t ∷ []; starts = [] }) s
  unfolding wire_coil
  coil-given l = rw (lt-ltb t.content operands l)

module _ (at l : ℕ) (w₀ : Wired) (table s code : List ℕ) {r : Result (Token × Cursor) Refusal} (h : r ≡ read_at (at + length s) (read_token s)) where
  pub rung-stops : {f : Refusal} {code' : List ℕ} → r ≡ Err f → WiresRung w₀ (at + length s) (wire_rung table l s) code code' (Err f)
  unfolding wire_rung
  rung-stops e bits = wires_fault (rw (refused read_shape (at + length s) (read_token s) h e))

  module _ {t : Token} {past : Cursor} {u code' : List ℕ} {q : Result (ℕ × Cursor) Refusal} (e : r ≡ Ok (t, past)) (i : u ≡ drop (past.at - at) s) (a : Wrote w₀.words (past.at + length u) (wire_tree table l 0 u) code code' q) where
    rung-is : wire_rung table l s ≡ next (wire_tree table l 0 u) (λ w. wire_coil table t w)
    unfolding wire_rung
    rung-is = let T = token_took at s h e in rw (T.is, ← i)

    pub rung-refused : {f : Refusal} {code'' bits : List ℕ} → q ≡ Err f → Wires w₀ (at + length s) (wire_rung table l s) code bits code'' bits (Err f)
    rung-refused d = wires_fault (rung-is ∙ rw (wrote_refused (past.at + length u) (wire_tree table l 0 u) a d))

    module _ {more : ℕ} {end : Cursor} (d : q ≡ Ok (more, end)) where
      tree_gave : Gave w₀.words past.at u (wire_tree table l 0 u) code code' more end.at
      tree_gave = gave past.at u a d (tree_tail table l 0 u)

      rung_on : wire_rung table l s ≡ wire_coil table t tree_gave.words (drop (end.at - past.at) u)
      rung_on = rung-is ∙ next_on (λ w. wire_coil table t w) tree_gave.is refl

      -- for the two bytes of each token there is a word more
      pub rung_room : {around codes : List ℕ} → Fits at s around codes w₀.words → more < most_words
      rung_room f =
          let G = tree_gave in
          let x = tree-few table l 0 u G.words (drop (end.at - past.at) u) G.is in
          let T = token_took at s h e in
          let z : past.at + length u ≡ at + length s = rw i T.ends in
          let y = token_far at s h e in
          omega (arith, G.counted, G.ends, G.within, f.half, f.short)

      pub rung-large : {code'' bits : List ℕ} → operands ≤ t.content → Wires w₀ (at + length s) (wire_rung table l s) code bits code'' bits (Err Layout)
      rung-large k = wires_fault (rung_on ∙ coil-large table t tree_gave.words (drop (end.at - past.at) u) k)

      pub rung-done : {code'' bits : List ℕ} {w n : ℕ} → t.content < operands → w ≡ place_word table 9 10 t → n ≡ more + 1 → code'' ≡ set code' more w
          → Wires w₀ (at + length s) (wire_rung table l s) code bits code'' bits (Ok (record { words = n; bits = w₀.bits }, end))
      rung-done {code''} {bits} {w} {n} k v₀ n₀ c₀ =
          let c : code'' ≡ set code' more (place_word table 9 10 t) = c₀ ∙ ap (λ (z : ℕ). set code' more z) v₀ in
          let G = tree_gave in
          let T = token_took at s h e in
          let b : drop (end.at - past.at) u ≡ drop (end.at - at) s =
          ap (drop (end.at - past.at)) i ∙ drop-drop (end.at - past.at) (past.at - at) s ∙ (let z : past.at - at + (end.at - past.at) ≡ end.at - at = omega (arith, T.moved, G.moved) in ap (λ (y : ℕ). drop y s) z) in
          let v : past.at + length u ≡ at + length s = rw i T.ends in
          let m : end.at + length (drop (end.at - at) s) ≡ at + length s = ap (λ (y : List ℕ). end.at + length y) (sym b) ∙ G.ends ∙ v in
          let x : Given = record { words = G.words ++ place_word table 9 10 t ∷ []; starts = [] } in
          let g : wire_rung table l s ≡ got x (drop (end.at - at) s) = rung_on ∙ coil-given table t G.words (drop (end.at - past.at) u) k ∙ ap (got x) b in
          let y = length-append G.words (place_word table 9 10 t ∷ []) in
          let n₁ : n ≡ w₀.words + length (G.words ++ place_word table 9 10 t ∷ []) = omega (arith, G.counted) in
          let o : w₀.bits ≡ w₀.bits + 0 = omega arith in
          wires_got at s g m (ap₂ (λ (p q : ℕ). record { words = p; bits = q }) n₁ o) (run_more code w₀.words G.words (place_word table 9 10 t ∷ []) G.counted G.stored c) refl

-- ---- a start value

module _ (at : ℕ) (s : List ℕ) {r : Result (Token × Cursor) Refusal} (h : r ≡ read_at (at + length s) (read_token s)) where
  pub start-stops : {f : Refusal} → r ≡ Err f → Err f ≡ read_at (at + length s) (start_number s)
  unfolding start_number
  start-stops e = stops read_shape beside (at + length s) (read_token s) _ h e

  module _ {t : Token} {past : Cursor} (e : r ≡ Ok (t, past)) where
    pub start-large : 1 < t.content → Err Layout ≡ read_at (at + length s) (start_number s)
    unfolding start_number
    start-large l = refuses read_shape beside at (read_token s) _ h e (token_tail s) (λ u. need-no layout _ u (lt-leb t.content 1 l))

    pub start_read : t.content ≤ 1 → Ok (t.content, past) ≡ read_at (at + length s) (start_number s)
    unfolding start_number
    start_read l = gives read_shape beside at (read_token s) _ h e (token_tail s) (λ u. need-yes layout _ u (le-leb t.content 1 l))
