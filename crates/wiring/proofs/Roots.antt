-- The root of an image, behind which the image ends: its code and its start values.
use Prim.Native.Nat.{ℕ, ◌+◌, ◌≤◌}
use mathlib.Core.Path.{◌≡◌, sym, ap, ap₂, ◌∙◌}
use mathlib.Core.Bool.{true}
use mathlib.Core.List.{List, [], ◌++◌, map, append-nil}
use native.Mathlib.Omega.{arith}
use lib.ListN.{length, take, replicate, length-replicate, get_or-replicate, length-map}
use Rattle.model.specs.Limits.{most_nesting, most_scopes, most_names}
use Rattle.model.specs.Trees.{Tree}
use Rattle.std.specs.Prelude.{Result, Ok, Err}
use Rattle.model.specs.Reading as m
use Rattle.model.specs.Reading.{got, read_tree}
use Rattle.model.specs.Writing.{tree_bytes}
use Rattle.codec_laws.specs.WellFormed.{Bytes, HeadFits}
use Rattle.codec_laws.proofs.TreeTrip.{Counts, tree_w}
use Rattle.refusals.specs.declared.Refusal.{Refusal}
use Rattle.numbers.specs.declared.Cursor.{Cursor}
use Rattle.numbers.specs.Limits.{most_image}
use Rattle.requests.specs.Panel.{is_program, bits_of}
use Rattle.requests.specs.Scanning.{address_in, starts}
use Rattle.requests.proofs.Starts.{as_many_starts}
use Rattle.ladder.specs.Code.{word_of, rungs}
use Rattle.bits.specs.Meeting.{room}
use Rattle.wiring.specs.declared.Wired.{Wired}
use Rattle.wiring.specs.Words.{operands, most_words}
use Rattle.wiring.specs.Wiring.{wire_program, wired_at, Wires, Fits, none_around, Holds, Tells}
use Rattle.wiring.proofs.Runs.{take-sets}
use Rattle.wiring.proofs.ProgramTails.{program-few}
use Rattle.numbers.proofs.Answering.{ok_same, ok-err}
use Rattle.wiring.proofs.ExpressionMeaning.{Same}
use Rattle.wiring.proofs.Meaning.{code_and_starts, program-wired}

same_none : Same none_around []
unfolding address_in
same_none = record {
  long = let e : length (replicate {A = ℕ} operands 0) ≡ operands = length-replicate {A = ℕ} operands 0 in omega arith;
  has = λ x h. get_or-replicate operands x 0 0 h;
}

counts : (h : m.Head) → HeadFits h → Counts h
unfolding most_scopes most_names
counts h f = record { scopes-few = f.scopes-to; names-few = f.names-to; symbols-few = omega (arith, f.names-from, f.names-to) }

root-wired : (h : m.Head) (s : List ℕ) (t : Tree) → HeadFits h → Bytes s → read_tree most_nesting h 0 s ≡ got t [] → is_program t ≡ true → length (bits_of t) ≤ room → length s ≤ most_image
    → wire_program 64 none_around 0 s ≡ got (code_and_starts [] 0 t) []
unfolding most_nesting bits_of
root-wired h s t f b r e few short =
    let k = counts h f in
    let w = tree_w 64 h k.scopes-few 0 t s [] b r in
    let q : s ≡ tree_bytes t ++ [] = w.0.0 in
    let z : length s ≡ length (tree_bytes t) = ap length (q ∙ append-nil (tree_bytes t)) in
    ap (wire_program 64 none_around 0) q ∙ program-wired h k t w.1 e (rw (← z) short) 64 w.2 none_around [] same_none 0 (omega arith) []

abbrev none : Wired
none = record { words = 0; bits = 0 }

module _ (at : ℕ) (s code bits : List ℕ) {around code' bits' : List ℕ} {r : Result (Wired × Cursor) Refusal} (a : Wires none (at + length s) (wire_program 64 around 0 s) code bits code' bits' r) (o : around ≡ none_around) (f : Fits at s around code 0) (l : room ≤ length bits) where
  module _ (h : m.Head) (t : Tree) (i : HeadFits h) (b : Bytes s) (q : read_tree most_nesting h 0 s ≡ got t []) (e : is_program t ≡ true) (few : length (bits_of t) ≤ room) where
    given_is : wire_program 64 around 0 s ≡ got (code_and_starts [] 0 t) []
    given_is = ap (λ (z : List ℕ). wire_program 64 z 0 s) o ∙ root-wired h s t i b q e few (omega (arith, f.short))

    answer-is : r ≡ wired_at none (at + length s) (got (code_and_starts [] 0 t) [])
    answer-is = a.place ∙ ap (wired_at none (at + length s)) given_is

    holds : {w : Wired} {past : Cursor} → r ≡ Ok (w, past) → Holds t code' bits' w
    unfolding bits_of
    holds {w} {past} d =
        let v = ap (λ (y : Wired × Cursor). y.0) (ok_same (sym d ∙ answer-is)) in
        let n : w.words ≡ length (map word_of (rungs [] 0 t)) = (let x : w.words ≡ 0 + length (map word_of (rungs [] 0 t)) = ap (λ (y : Wired). y.words) v in omega arith) in
        let k : w.bits ≡ length (starts t) = (let x : w.bits ≡ 0 + length (starts t) = ap (λ (y : Wired). y.bits) v in omega arith) in
        let m = as_many_starts t e in
        let x = program-few 64 around 0 s (code_and_starts [] 0 t) [] given_is in
        let y : length (map word_of (rungs [] 0 t)) ≤ length code = omega (arith, f.short, f.long) in
        let z : length (starts t) ≤ length bits = omega arith in
        record {
          words_are = n ∙ length-map (rungs [] 0 t) word_of;
          code_is = ap₂ (λ (c : ℕ) (p : List ℕ). take c p) n (a.written (code_and_starts [] 0 t) [] given_is) ∙ take-sets code (map word_of (rungs [] 0 t)) y;
          counted = k ∙ m;
          bits_are = ap₂ (λ (c : ℕ) (p : List ℕ). take c p) k (a.started (code_and_starts [] 0 t) [] given_is) ∙ take-sets bits (starts t) z;
        }

  pub root-read : {w : Wired} {past : Cursor} → r ≡ Ok (w, past) → Tells s code' bits' w
  root-read d h t i b q e few = holds h t i b q e few d

  pub root-fault : {x : Refusal} {w : Wired} {code'' bits'' : List ℕ} → r ≡ Err x → Tells s code'' bits'' w
  root-fault d h t i b q e few = absurd (ok-err (sym (answer-is h t i b q e few) ∙ d))

pub fits-none : {at : ℕ} {s code : List ℕ} → at + length s ≤ most_image → most_words ≤ length code → Fits at s none_around code 0
fits-none a l = record { short = a; half = omega arith; named = (let e : length (replicate {A = ℕ} operands 0) ≡ operands = length-replicate {A = ℕ} operands 0 in omega arith); long = l }
