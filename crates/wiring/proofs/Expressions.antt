-- Expressions wired, by the tests that the code makes.
use Prim.Native.Nat.{ℕ, zero, suc, ◌+◌, ◌-◌, ◌*◌, ◌≤◌, ◌<◌}
use mathlib.Core.Path.{◌≡◌, refl, sym, ap, ◌∙◌}
use mathlib.Core.List.{List, [], ◌∷◌, ◌++◌}
use native.Mathlib.Omega.{arith}
use lib.ListN.{length, drop, set, length-drop, length-append}
use lib.Seq.{sets, length-sets, drop-drop}
use borrow.Author.Tests.{eq-eqb, ne_eqb, lt-ltb, le-ltb}
use Rattle.std.specs.Prelude.{Result, Ok, Err}
use Rattle.std.specs.Result.{IsErrAnd}
use Rattle.model.specs.Refusals.{layout}
use Rattle.model.specs.Reading as m
use Rattle.model.specs.Reading.{Reader, got, fault, next}
use Rattle.codec_laws.proofs.NumberTrip.{fault≢got, got-value}
use Rattle.refusals.specs.declared.Refusal.{Refusal}
use Rattle.refusals.specs.declared.Refusal.TheVariants.{Layout}
use Rattle.refusals.specs.Refusing.{refusal_of}
use Rattle.refusals.proofs.Cases.{case_back}
use Rattle.refusals.proofs.Handing.{handed_on}
use Rattle.numbers.specs.declared.Cursor.{Cursor}
use Rattle.numbers.specs.Answers.{read_at, kept}
use Rattle.numbers.proofs.Tails.{Tail}
use Rattle.numbers.proofs.Answering.{read_shape, Took, took, refused, kept-got, kept-fault, kept_tail}
use Rattle.bits.specs.declared.Token.{Token}
use Rattle.bits.specs.Tokens.{read_token}
use Rattle.bits.proofs.Tokens.{token_tail}
use Rattle.wiring.specs.Words.{operands, most_words, place_word, others_of, ending_of}
use Rattle.wiring.specs.Wiring.{wire_parts, wire_application, wire_contact, wire_token, wire_tree, Wrote, Fits}
use Rattle.wiring.proofs.Runs.{run_more}
use Rattle.wiring.proofs.Tails.{token-two, parts_tail, tree_tail, parts-few, tree-few}

-- ---- a token

module _ (at : ℕ) (s : List ℕ) {r : Result (Token × Cursor) Refusal} {t : Token} {past : Cursor} (h : r ≡ read_at (at + length s) (read_token s)) (e : r ≡ Ok (t, past)) where
  pub token_took : Took at s (read_token s) t past.at
  token_took = took read_shape h e (token_tail s)

  pub token-moved : at ≤ past.at
  token-moved = token_took.moved

  pub token-within : past.at ≤ at + length s
  token-within = token_took.within

  pub token_far : at + 2 ≤ past.at
  token_far =
      let x = token-two s t (drop (past.at - at) s) token_took.is in
      omega (arith, token_took.moved, token_took.within, token_took.ends)

  pub token-fits : {u : List ℕ} {k : ℕ} → u ≡ drop (past.at - at) s → at + length s ≤ k → past.at + length u ≤ k
  token-fits i k = rw (i, token_took.ends) k

  pub token-room : {around code : List ℕ} {count : ℕ} → Fits at s around code count → count < most_words
  token-room f = omega (arith, token_far, token-within, f.short, f.half)

  pub fits_more : {around code u : List ℕ} {count : ℕ} → Fits at s around code count → u ≡ drop (past.at - at) s → Fits past.at u around code (count + 1)
  fits_more f i = record { short = token-fits i f.short; half = omega (arith, token_far, f.half); named = f.named; long = f.long }

  pub fits_on : {around code u : List ℕ} {count : ℕ} → Fits at s around code (count + 1) → u ≡ drop (past.at - at) s → Fits past.at u around code count
  fits_on f i = record { short = token-fits i f.short; half = omega (arith, token_far, f.half); named = f.named; long = f.long }

-- a reader that gave something goes on with it
pub next_on : {A B : Type 0} {g : m.Read A} (j : A → Reader B) {a : A} {t u : List ℕ} → g ≡ got a t → t ≡ u → next g j ≡ j a u
next_on j e d = rw (e, d)

-- ---- words written

pub wrote_fault : {count end : ℕ} {g : m.Read (List ℕ)} {code code' : List ℕ} {f : Refusal} → g ≡ fault (refusal_of f) → Wrote count end g code code' (Err f)
wrote_fault {f = f} e = record { place = rw e (ap (λ (x : Refusal). Err x) (sym (case_back f))); written = λ w rest d. absurd (fault≢got (refusal_of f) w rest (sym e ∙ d)) }

-- what `?` hands on
pub wrote_handed : {count end : ℕ} {g : m.Read (List ℕ)} {code code' : List ℕ} {r : Result (ℕ × Cursor) Refusal} {f : Refusal} → IsErrAnd r (λ e. e ≡ f) → Wrote count end g code code' (Err f) → Wrote count end g code code' r
wrote_handed h w = record { place = handed_on h w.place; written = w.written }

wrote_moved : {count a b : ℕ} {g g' : m.Read (List ℕ)} {code code' : List ℕ} {r : Result (ℕ × Cursor) Refusal} → a ≡ b → g' ≡ g → Wrote count a g code code' r → Wrote count b g' code code' r
wrote_moved p q w = rw (q, ← p) w

pub wrote_got : {count : ℕ} (at : ℕ) (s : List ℕ) {g : m.Read (List ℕ)} {w code code' : List ℕ} {more : ℕ} {past : Cursor} → g ≡ got w (drop (past.at - at) s)
    → past.at + length (drop (past.at - at) s) ≡ at + length s → more ≡ count + length w → code' ≡ sets code count w → Wrote count (at + length s) g code code' (Ok (more, past))
wrote_got {count} at s {w = w} {code = code} {past = past} e ends n c =
    let p : at + length s - length (drop (past.at - at) s) ≡ past.at = omega arith in
    record {
      place = rw (e, p, n);
      written = λ x rest d. (c ∙ ap (λ (z : List ℕ). sets code count z) (got-value w x (drop (past.at - at) s) rest (sym e ∙ d)));
    }

-- the words, and the place behind them
pub record Gave (count at : ℕ) (s : List ℕ) (g : m.Read (List ℕ)) (code code' : List ℕ) (more place : ℕ) : Type 0 where
  pub words : List ℕ
  pub is : g ≡ got words (drop (place - at) s)
  pub counted : more ≡ count + length words
  pub stored : code' ≡ sets code count words
  pub moved : at ≤ place
  pub within : place ≤ at + length s
  pub ends : place + length (drop (place - at) s) ≡ at + length s

pub gave : {count : ℕ} (at : ℕ) (s : List ℕ) {g : m.Read (List ℕ)} {code code' : List ℕ} {r : Result (ℕ × Cursor) Refusal} {more : ℕ} {past : Cursor} → Wrote count (at + length s) g code code' r → r ≡ Ok (more, past) → Tail s g
    → Gave count at s g code code' more past.at
gave {count} at s {g} {past = past} w e t =
    let T = took read_shape w.place e (kept_tail (λ (x : List ℕ). count + length x) t) in
    let K = kept-got (λ (x : List ℕ). count + length x) g _ (drop (past.at - at) s) T.is in
    record { words = K.value; is = K.is; counted = sym K.value-is; stored = w.written K.value (drop (past.at - at) s) K.is; moved = T.moved; within = T.within; ends = T.ends }

pub wrote_refused : {count : ℕ} (end : ℕ) (g : m.Read (List ℕ)) {code code' : List ℕ} {r : Result (ℕ × Cursor) Refusal} {f : Refusal} → Wrote count end g code code' r → r ≡ Err f → g ≡ fault (refusal_of f)
wrote_refused {count} end g {f = f} w e = kept-fault (λ (x : List ℕ). count + length x) g (refusal_of f) (refused read_shape end (kept (λ (x : List ℕ). count + length x) g) w.place e)

-- ---- an expression

pub tree_is : (table : List ℕ) (l j : ℕ) (s : List ℕ) → (l ≡ 0 → ⊥) → wire_tree table l j s ≡ next (read_token s) (λ t. wire_token (wire_tree table (l - 1)) table j t)
unfolding wire_tree
tree_is table zero j s h = absurd (h refl)
tree_is table (suc l) j s h = let e : l ≡ suc l - 1 = omega arith in ap (λ (k : ℕ). next (read_token s) (λ t. wire_token (wire_tree table k) table j t)) e

module _ (part : ℕ → Reader (List ℕ)) (table : List ℕ) (j : ℕ) (t : Token) (u : List ℕ) where
  pub by_application : t.tag ≡ 1 → wire_token part table j t u ≡ wire_application part j t.content u
  unfolding wire_token
  by_application e = rw (eq-eqb t.tag 1 e)

  by-large : (t.tag ≡ 1 → ⊥) → operands ≤ t.content → wire_token part table j t u ≡ fault layout
  unfolding wire_token wire_contact
  by-large e l = rw (ne_eqb t.tag 1 e, le-ltb t.content operands l)

  pub by-contact : (t.tag ≡ 1 → ⊥) → t.content < operands → wire_token part table j t u ≡ got (place_word table j (j + 3) t ∷ []) u
  unfolding wire_token wire_contact
  by-contact e l = rw (ne_eqb t.tag 1 e, lt-ltb t.content operands l)

module _ (at count l j : ℕ) (table s code : List ℕ) where
  pub tree_deep : {code' : List ℕ} → l ≡ 0 → Wrote count (at + length s) (wire_tree table l j s) code code' (Err Layout)
  unfolding wire_tree
  tree_deep e = wrote_fault (rw e)

  module _ (some : l ≡ 0 → ⊥) {r : Result (Token × Cursor) Refusal} (h : r ≡ read_at (at + length s) (read_token s)) where
    pub tree-stops : {f : Refusal} {code' : List ℕ} → r ≡ Err f → Wrote count (at + length s) (wire_tree table l j s) code code' (Err f)
    tree-stops e = wrote_fault (tree_is table l j s some ∙ rw (refused read_shape (at + length s) (read_token s) h e))

    module _ {t : Token} {past : Cursor} (e : r ≡ Ok (t, past)) where
      on : wire_tree table l j s ≡ wire_token (wire_tree table (l - 1)) table j t (drop (past.at - at) s)
      on = let T = token_took at s h e in tree_is table l j s some ∙ rw T.is

      pub tree_application : {u code' : List ℕ} {x : Result (ℕ × Cursor) Refusal} → t.tag ≡ 1 → u ≡ drop (past.at - at) s → Wrote count (past.at + length u) (wire_application (wire_tree table (l - 1)) j t.content u) code code' x
          → Wrote count (at + length s) (wire_tree table l j s) code code' x
      tree_application {u} q i a =
          let T = token_took at s h e in
          let z : past.at + length u ≡ at + length s = rw i T.ends in
          wrote_moved z (on ∙ by_application (wire_tree table (l - 1)) table j t (drop (past.at - at) s) q ∙ ap (λ (v : List ℕ). wire_application (wire_tree table (l - 1)) j t.content v) (sym i)) a

      module _ (q : t.tag ≡ 1 → ⊥) where
        pub tree-large : {code' : List ℕ} → operands ≤ t.content → Wrote count (at + length s) (wire_tree table l j s) code code' (Err Layout)
        tree-large k = wrote_fault (on ∙ by-large (wire_tree table (l - 1)) table j t (drop (past.at - at) s) q k)

        pub tree-contact : {w b more : ℕ} {code' : List ℕ} → t.content < operands → b ≡ j + 3 → w ≡ place_word table j b t → more ≡ count + 1 → code' ≡ set code count w
            → Wrote count (at + length s) (wire_tree table l j s) code code' (Ok (more, past))
        tree-contact {w} k b a n c =
            let T = token_took at s h e in
            wrote_got at s (on ∙ by-contact (wire_tree table (l - 1)) table j t (drop (past.at - at) s) q k) T.ends n (rw (← b, ← a) c)

-- ---- an application

module _ (at count l j n : ℕ) (table s code : List ℕ) {r : Result (Token × Cursor) Refusal} (h : r ≡ read_at (at + length s) (read_token s)) where
  pub application_stops : {f : Refusal} {code' : List ℕ} → r ≡ Err f → Wrote count (at + length s) (wire_application (wire_tree table l) j n s) code code' (Err f)
  unfolding wire_application
  application_stops e = wrote_fault (rw (refused read_shape (at + length s) (read_token s) h e))

  module _ {t : Token} {past : Cursor} {u code' : List ℕ} {o : ℕ} {q : Result (ℕ × Cursor) Refusal} (e : r ≡ Ok (t, past)) (i : u ≡ drop (past.at - at) s) (k : o ≡ others_of t.content)
      (a : Wrote count (past.at + length u) (wire_parts (wire_tree table l) 0 o [] (n - 1) u) code code' q) where
    behind : wire_application (wire_tree table l) j n s ≡ next (wire_parts (wire_tree table l) 0 o [] (n - 1) u) (λ w v. got (w ++ ending_of t.content j) v)
    unfolding wire_application
    behind = let T = token_took at s h e in rw (T.is, ← i, ← k)

    pub parts_stop : {f : Refusal} {code'' : List ℕ} → q ≡ Err f → Wrote count (at + length s) (wire_application (wire_tree table l) j n s) code code'' (Err f)
    parts_stop d = wrote_fault (behind ∙ rw (wrote_refused (past.at + length u) (wire_parts (wire_tree table l) 0 o [] (n - 1) u) a d))

    module _ {more : ℕ} {end : Cursor} (d : q ≡ Ok (more, end)) where
      parts_gave : Gave count past.at u (wire_parts (wire_tree table l) 0 o [] (n - 1) u) code code' more end.at
      parts_gave = gave past.at u a d (parts_tail (wire_tree table l) (tree_tail table l) (n - 1) 0 o [] u)

      -- for the two bytes of each token there are two words more
      pub parts_room : {around codes : List ℕ} → Fits at s around codes (count + 1) → more + 2 ≤ most_words
      parts_room f =
          let G = parts_gave in
          let x = parts-few (wire_tree table l) (tree-few table l) (n - 1) 0 o [] u G.words (drop (end.at - past.at) u) G.is in
          let T = token_took at s h e in
          let z : past.at + length u ≡ at + length s = rw i T.ends in
          let y = token_far at s h e in
          omega (arith, G.counted, G.ends, G.within, f.half, f.short)

      pub application_done : {all : ℕ} {code'' : List ℕ} → all ≡ more + length (ending_of t.content j) → code'' ≡ sets code' more (ending_of t.content j)
          → Wrote count (at + length s) (wire_application (wire_tree table l) j n s) code code'' (Ok (all, end))
      application_done {all} {code''} x c =
          let G = parts_gave in
          let T = token_took at s h e in
          let b : drop (end.at - past.at) u ≡ drop (end.at - at) s =
          ap (drop (end.at - past.at)) i ∙ drop-drop (end.at - past.at) (past.at - at) s ∙ (let z : past.at - at + (end.at - past.at) ≡ end.at - at = omega (arith, T.moved, G.moved) in ap (λ (y : ℕ). drop y s) z) in
          let v : past.at + length u ≡ at + length s = rw i T.ends in
          let m : end.at + length (drop (end.at - at) s) ≡ at + length s = ap (λ (y : List ℕ). end.at + length y) (sym b) ∙ G.ends ∙ v in
          let y = length-append G.words (ending_of t.content j) in
          let w : all ≡ count + length (G.words ++ ending_of t.content j) = omega (arith, G.counted) in
          let g : wire_application (wire_tree table l) j n s ≡ got (G.words ++ ending_of t.content j) (drop (end.at - at) s) = behind ∙ rw (G.is, b) in
          wrote_got at s g m w
          (run_more code count G.words (ending_of t.content j) G.counted G.stored c)

-- ---- one part after another

pub record Parts (at l : ℕ) (table s : List ℕ) (count others parts : ℕ) (code₀ : List ℕ) (here done words join : ℕ) (code : List ℕ) : Type 0 where
  pub moved : at ≤ here
  pub within : here ≤ at + length s
  pub half : 2 * words ≤ here
  pub long : most_words ≤ length code
  pub same : length code ≡ length code₀
  pub before : List ℕ
  pub counted : words ≡ count + length before
  pub stored : code ≡ sets code₀ count before
  pub is : wire_parts (wire_tree table l) 0 others [] (parts - 1) s ≡ wire_parts (wire_tree table l) join others before (parts - done) (drop (here - at) s)

pub parts-start : {at l : ℕ} {table around s : List ℕ} {count others parts : ℕ} {code : List ℕ} → Fits at s around code count → Parts at l table s count others parts code at 1 count 0 code
parts-start {at} f =
    let e : at - at ≡ 0 = omega arith in
    record { moved = omega arith; within = omega arith; half = f.half; long = f.long; same = refl; before = []; counted = omega arith; stored = refl; is = rw e }

one-part : (part : ℕ → Reader (List ℕ)) (j o : ℕ) (before : List ℕ) (left : ℕ) (s : List ℕ) → 0 < left → wire_parts part j o before left s ≡ next (part j s) (λ w. wire_parts part o o (before ++ w) (left - 1))
unfolding wire_parts
one-part part j o before zero s h = absurd (omega arith)
one-part part j o before (suc left) s h = let e : suc left - 1 ≡ left = omega arith in rw e

no_part : (part : ℕ → Reader (List ℕ)) (j o : ℕ) (before : List ℕ) (left : ℕ) (s : List ℕ) → left ≡ 0 → wire_parts part j o before left s ≡ got before s
unfolding wire_parts
no_part part j o before left s e = rw e

module _ {at l : ℕ} {table s : List ℕ} {count others parts : ℕ} {code₀ : List ℕ} {here done words join : ℕ} {code : List ℕ} (p : Parts at l table s count others parts code₀ here done words join code) where
  pub parts-done : {c : Cursor} → here ≡ c.at → parts ≤ done → Wrote count (at + length s) (wire_parts (wire_tree table l) 0 others [] (parts - 1) s) code₀ code (Ok (words, c))
  parts-done {c} q h =
      let k = length-drop (here - at) s in
      let m : here + length (drop (here - at) s) ≡ at + length s = omega (arith, p.moved, p.within) in
      let g : wire_parts (wire_tree table l) 0 others [] (parts - 1) s ≡ got p.before (drop (c.at - at) s) = p.is ∙ no_part (wire_tree table l) join others p.before (parts - done) (drop (here - at) s) (omega arith) ∙ rw q in
      wrote_got at s g (rw (← q) m) p.counted p.stored

  module _ (some : done < parts) {u : List ℕ} (i : u ≡ drop (here - at) s) {code' : List ℕ} {r : Result (ℕ × Cursor) Refusal} (w : Wrote words (here + length u) (wire_tree table l join u) code code' r) where
    step : wire_parts (wire_tree table l) 0 others [] (parts - 1) s ≡ next (wire_tree table l join u) (λ x. wire_parts (wire_tree table l) others others (p.before ++ x) (parts - (done + 1)))
    step =
        let k : 0 < parts - done = omega arith in
        let z : parts - (done + 1) ≡ parts - done - 1 = omega arith in
        p.is ∙ ap (wire_parts (wire_tree table l) join others p.before (parts - done)) (sym i) ∙ rw z (one-part (wire_tree table l) join others p.before (parts - done) u k)

    pub part-stops : {f : Refusal} {code'' : List ℕ} → r ≡ Err f → Wrote count (at + length s) (wire_parts (wire_tree table l) 0 others [] (parts - 1) s) code₀ code'' (Err f)
    part-stops e = wrote_fault (step ∙ rw (wrote_refused (here + length u) (wire_tree table l join u) w e))

    pub part-more : {more : ℕ} {past : Cursor} → r ≡ Ok (more, past) → Parts at l table s count others parts code₀ past.at (done + 1) more others code'
    part-more {more} {past} e =
        let G = gave here u w e (tree_tail table l join u) in
        let x = tree-few table l join u G.words (drop (past.at - here) u) G.is in
        let long : length u ≡ length s - (here - at) = ap length i ∙ length-drop (here - at) s in
        let z : here - at + (past.at - here) ≡ past.at - at = omega (arith, G.moved, p.moved) in
        let rest : drop (past.at - here) u ≡ drop (past.at - at) s = ap (drop (past.at - here)) i ∙ drop-drop (past.at - here) (here - at) s ∙ ap (λ (y : ℕ). drop y s) z in
        let n = length-append p.before G.words in
        let c : code' ≡ sets code₀ count (p.before ++ G.words) = run_more code₀ count p.before G.words p.counted p.stored G.stored in
        let y : length code' ≡ length code = ap length G.stored ∙ length-sets code words G.words in
        record {
          moved = omega (arith, G.moved, p.moved);
          within = omega (arith, G.within, p.moved, p.within);
          half = omega (arith, G.counted, G.ends, p.half);
          long = omega (arith, p.long);
          same = y ∙ p.same;
          before = p.before ++ G.words;
          counted = omega (arith, G.counted, p.counted);
          stored = c;
          is = step ∙ next_on (λ x. wire_parts (wire_tree table l) others others (p.before ++ x) (parts - (done + 1))) G.is rest;
        }

-- ---- levels fall

pub application_less : (levels : ℕ) {t : ℕ} → 4 * levels ≡ t → (levels ≡ 0 → ⊥) → 4 * (levels - 1) + 2 < t
application_less levels e h = omega arith

pub parts_less : (levels : ℕ) {t : ℕ} → 4 * levels + 2 ≡ t → 4 * levels + 1 < t
parts_less levels e = omega arith

-- what the calls ask
pub ruleset expression_laws = (fits_more, fits_on, application_less, parts_less)
