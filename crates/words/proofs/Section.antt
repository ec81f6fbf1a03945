-- Laws of the word section, by the tests that the code makes.
use Prim.Native.Nat.{ℕ, zero, suc, ◌+◌, ◌-◌, ◌≤◌, ◌<◌}
use mathlib.Core.Path.{◌≡◌, refl, sym, ap, ◌∙◌, subst}
use mathlib.Core.List.{List, [], ◌∷◌, ◌++◌}
use mathlib.Core.Bool.{Bool, true, false, not, ◌||◌, or-false}
use native.Mathlib.Omega.{arith}
use native.Mathlib.Nat.{not-suc-le-zero}
use native.Mathlib.Numerals.{add-one}
use Rattle.std.specs.Prelude.{Result, Ok, Err}
use lib.ListN.{length, take, drop, length-drop}
use lib.Seq.{drop-drop}
use lib.Dec.{eqb, leb}
use mir.Syntax.{w64}
use mir.Val.{Fits}
use borrow.Author.Tests.{le-leb, lt-leb, leb-true, eq-eqb, ne_eqb, not-true, not-false}
use Rattle.model.specs.Limits.{most_names, core_names, most_word_length}
use Rattle.model.specs.Refusals as m
use Rattle.model.specs.Refusals.{layout, over_limit}
use Rattle.model.specs.Reading.{Read, Reader, got, fault, next, need, byte, bytes, num, good_word, same_bytes, among, core_words, read_words}
use Rattle.laws.proofs.Members.{swap_or}
use Rattle.refusals.specs.declared.Refusal.{Refusal}
use Rattle.refusals.specs.declared.Refusal.TheVariants.{Layout, OverLimit}
use Rattle.refusals.specs.Refusing.{refusal_of}
use Rattle.refusals.proofs.Cases.{case_back}
use Rattle.numbers.specs.declared.Cursor.{Cursor}
use Rattle.numbers.specs.Answers.{answer_at, beside, read_at, placed, place_at, kept}
use Rattle.numbers.specs.Limits.{most_image}
use Rattle.numbers.proofs.Tails.{Tail, tail_give, tail_next, tail_need, num_tail}
use Rattle.numbers.proofs.Reading.{part-from}
use Rattle.numbers.proofs.Answering.{read_shape, Took, took, refused, stops, gives, refuses}
use Rattle.words.specs.Section.{most_words, word_length, may_stand, Passed, no_word, one_word, seen_after, Old, Stands, Midway, WordsRead}

-- there are as many words as the model allows
pub words_are : most_words ≡ most_names - core_names
unfolding most_names core_names
words_are = refl

-- ---- a word's length

length_tail : (s : List ℕ) → Tail s (word_length s)
unfolding word_length
length_tail s =
    tail_next _ (num_tail s) (λ k t. tail_next _ (tail_need layout (not (eqb k 0)) t) (λ x u.
    tail_next _ (tail_need over_limit (leb k most_word_length) u) (λ y v. tail_give k v)))

module _ (at : ℕ) (s : List ℕ) {r : Result (ℕ × Cursor) Refusal} (h : r ≡ read_at (at + length s) (num s)) where
  pub length-stops : {f : Refusal} → r ≡ Err f → Err f ≡ read_at (at + length s) (word_length s)
  unfolding word_length
  length-stops e = stops read_shape beside (at + length s) (num s) _ h e

  module _ {n : ℕ} {past : Cursor} (e : r ≡ Ok (n, past)) where
    pub length_none : n ≡ 0 → Err Layout ≡ read_at (at + length s) (word_length s)
    unfolding word_length
    length_none z = refuses read_shape beside at (num s) _ h e (num_tail s) (λ u. rw (eq-eqb n 0 z))

    module _ (some : n ≡ 0 → ⊥) where
      pub length_over : 32 < n → Err OverLimit ≡ read_at (at + length s) (word_length s)
      unfolding word_length most_word_length
      length_over l = refuses read_shape beside at (num s) _ h e (num_tail s) (λ u. rw (ne_eqb n 0 some, lt-leb n 32 l))

      pub length-is : n ≤ 32 → Ok (n, past) ≡ read_at (at + length s) (word_length s)
      unfolding word_length most_word_length
      length-is l = gives read_shape beside at (num s) _ h e (num_tail s) (λ u. rw (ne_eqb n 0 some, le-leb n 32 l))

-- it is at most 32, so that the end of the word can be computed
most-kept : (g : Read ℕ) {n : ℕ} {u : List ℕ}
    → next g (λ k v. next (need layout (not (eqb k 0)) v) (λ x w. next (need over_limit (leb k 32) w) (λ y z. got k z))) ≡ got n u → n ≤ 32
most-kept (fault r) e = let z : ◌≡◌ {A = ℕ} 0 1 = cc in absurd (omega arith)
most-kept (got k v) {n} {u} e = go (eqb k 0) (leb k 32) refl e
  where
    go : (a b : Bool) → leb k 32 ≡ b → next (need layout (not a) v) (λ x w. next (need over_limit b w) (λ y z. got k z)) ≡ got n u → n ≤ 32
    go true b q f = let z : ◌≡◌ {A = ℕ} 0 1 = cc in absurd (omega arith)
    go false true q f = let i : k ≡ n = cc in let l = leb-true k 32 q in omega arith
    go false false q f = let z : ◌≡◌ {A = ℕ} 0 1 = cc in absurd (omega arith)

length_most : (s : List ℕ) {u : List ℕ} {n : ℕ} → word_length s ≡ got n u → n ≤ 32
unfolding word_length most_word_length
length_most s e = most-kept (num s) e

-- ---- the words passed

-- the first of them, where its length was read
record First (k n : ℕ) (ws : List (List ℕ)) (u rest : List ℕ) : Type 0 where
  others : List (List ℕ)
  is : ws ≡ take n u ∷ others
  fits : n ≤ length u
  behind : Passed (k - 1) others (drop n u) rest

first_passed : {k n : ℕ} {ws : List (List ℕ)} {s u rest : List ℕ} → 0 < k → word_length s ≡ got n u → Passed k ws s rest → First k n ws u rest
first_passed some e no_word = absurd (omega arith)
first_passed {n = n} {u = u} some e (one_word {k = k} {n = n'} {ws = vs} {u = u'} q fits p) =
    let same : got n' u' ≡ got n u = sym q ∙ e in
    let i : n' ≡ n = cc in
    let j : u' ≡ u = cc in
    let d : k ≡ suc k - 1 = omega arith in
    rw (← i, ← j) (record { others = vs; is = refl; fits = fits; behind = rw (← d) p })

-- a part of a slice
part : (from to : ℕ) (s : List ℕ) (n : ℕ) → to ≡ from + n → take (to - from) (drop from s) ≡ take n (drop from s)
part from to s n e = let d : to - from ≡ n = omega arith in ap (λ (k : ℕ). take k (drop from s)) d

-- a word's length, read at a place
module _ (s : List ℕ) (at : ℕ) (inside : at ≤ length s) {r : Result (ℕ × Cursor) Refusal}
    (h : r ≡ read_at (at + length (take (length s - at) (drop at s))) (word_length (take (length s - at) (drop at s)))) where
  answered : r ≡ read_at (at + length (drop at s)) (word_length (drop at s))
  answered = subst (λ (l : List ℕ). r ≡ read_at (at + length l) (word_length l)) (part-from at s) h

  not_there : {f : Refusal} → r ≡ Err f → word_length (drop at s) ≡ fault (refusal_of f)
  not_there e = refused read_shape (at + length (drop at s)) (word_length (drop at s)) answered e

  module _ {n : ℕ} {past : Cursor} (e : r ≡ Ok (n, past)) where
    T : Took at (drop at s) (word_length (drop at s)) n past.at
    T = took read_shape answered e (length_tail (drop at s))

    there : word_length (drop at s) ≡ got n (drop past.at s)
    there =
        let d : at + (past.at - at) ≡ past.at = omega (arith, T.moved) in
        T.is ∙ ap (got n) (drop-drop (past.at - at) at s ∙ ap (λ (k : ℕ). drop k s) d)

    within : past.at ≤ length s
    within = omega (arith, T.within, length-drop at s)

    pub end_fits : length s ≤ most_image → Fits w64 (past.at + n)
    end_fits small = omega (arith, within, length_most (drop at s) there)

-- ---- whether a word is one of those passed

none_passed : {k : ℕ} {ws : List (List ℕ)} {s rest : List ℕ} (w : List ℕ) → k ≤ 0 → Passed k ws s rest → false ≡ among w ws
unfolding among
none_passed w e no_word = refl
none_passed w e (one_word q f p) = absurd (omega arith)

never_passed : {k : ℕ} {ws : List (List ℕ)} {s rest : List ℕ} {f : m.Refusal} → 0 < k → word_length s ≡ fault f → Passed k ws s rest → ⊥
never_passed some g no_word = omega arith
never_passed some g (one_word q x p) = let z : ◌≡◌ {A = ℕ} 0 1 = cc in omega arith

-- w was none of the words before `at`: it is one of the first k where it is one of the `left` from there on
pub record Seeking (s : List ℕ) (k : ℕ) (w : List ℕ) (at left : ℕ) : Type 0 where
  pub within : at ≤ length s
  pub rest : (b : Bool) → Old (drop at s) left w b → Old s k w b

pub seeking_start : {s : List ℕ} {k left : ℕ} {w : List ℕ} → left ≡ k → Seeking s k w 0 left
seeking_start {s} {k} {left} {w} e = record { within = omega arith; rest = λ b o. subst (λ (n : ℕ). Old s n w b) e o }

module _ {s : List ℕ} {k : ℕ} {w : List ℕ} {at left : ℕ} (g : Seeking s k w at left) where
  pub old-none : left ≤ 0 → Old s k w false
  old-none e = g.rest false (record { means = λ ws rest p. none_passed w e p })

  module _ (some : 0 < left) {r : Result (ℕ × Cursor) Refusal}
      (h : r ≡ read_at (at + length (take (length s - at) (drop at s))) (word_length (take (length s - at) (drop at s)))) where
    pub old-fault : {f : Refusal} → r ≡ Err f → Old s k w false
    old-fault e = g.rest false (record { means = λ ws rest p. absurd (never_passed some (not_there s at g.within h e) p) })

    module _ {n : ℕ} {past : Cursor} (e : r ≡ Ok (n, past)) {to : ℕ} (ends : to ≡ past.at + n) where
      first : {ws : List (List ℕ)} {rest : List ℕ} → Passed left ws (drop at s) rest → First left n ws (drop past.at s) rest
      first p = first_passed some (there s at g.within h e) p

      pub old-short : length s < to → Old s k w false
      old-short l = g.rest false (record {
        means = λ ws rest p. absurd (omega (arith, (first p).fits, length-drop past.at s, within s at g.within h e));
      })

      module _ {t : Bool} (q : t ≡ same_bytes w (take (to - past.at) (drop past.at s))) where
        same : {b : Bool} → t ≡ b → same_bytes w (take n (drop past.at s)) ≡ b
        same y = ap (same_bytes w) (sym (part past.at to s n ends)) ∙ sym q ∙ y

        pub old-here : t ≡ true → Old s k w true
        unfolding among
        old-here y = g.rest true (record { means = λ ws rest p. rw ((first p).is, same y) refl })

        pub old-further : {next : ℕ} → next + 1 ≡ left → t ≡ false → to ≤ length s → Seeking s k w to next
        unfolding among
        old-further {next} c y l = record {
          within = l;
          rest = λ b o. g.rest b (record {
            means = λ ws rest p.
                let F = first p in
                let d : drop n (drop past.at s) ≡ drop to s = rw (drop-drop, ← ends) in
                let n : left - 1 ≡ next = omega arith in
                rw (F.is, same y) (o.means F.others rest (rw (n, d) at F.behind));
          });
        }

-- ---- whether a word may stand

module _ (w : List ℕ) where
  -- the words seen are those passed and those from before
  among-seen : (ws seen : List (List ℕ)) → among w (seen_after ws seen) ≡ (among w ws || among w seen)
  unfolding seen_after among
  among-seen [] seen = refl
  among-seen (v ∷ ws) seen = among-seen ws (v ∷ seen) ∙ swap_or (among w ws) (same_bytes w v) (among w seen)

  module _ (s : List ℕ) (k : ℕ) {g : Bool} (hg : g ≡ good_word w) where
    pub stand_bad : g ≡ false → Stands s k w false
    unfolding may_stand
    stand_bad e = record { means = λ ws rest p. rw (sym hg ∙ e) refl }

    module _ (good : g ≡ true) {c : Bool} (hc : c ≡ among w core_words) where
      or_yes : (x : Bool) → (x || true) ≡ true
      or_yes true = refl
      or_yes false = refl

      pub stand_core : not c ≡ false → Stands s k w false
      unfolding may_stand
      stand_core e = record { means = λ ws rest p. rw (sym hg ∙ good, among-seen ws core_words, sym hc ∙ not-false c e, or_yes (among w ws)) refl }

      pub stand-other : not c ≡ true → {o : Bool} → Old s k w o → Stands s k w (not o)
      unfolding may_stand
      stand-other e {o} ho = record { means = λ ws rest p. rw (sym hg ∙ good, among-seen ws core_words, sym (ho.means ws rest p), sym hc ∙ not-true c e, or-false o) refl }

-- ---- the definition, a word at a time

bytes-are : (k : ℕ) (u : List ℕ) → k ≤ length u → bytes k u ≡ got (take k u) (drop k u)
unfolding bytes byte
bytes-are zero u h = refl
bytes-are (suc k) [] h = absurd (not-suc-le-zero h)
bytes-are (suc k) (b ∷ u) h = let l : k ≤ length u = omega arith in rw (bytes-are k u l) refl

bytes-short : (k : ℕ) (u : List ℕ) → length u < k → bytes k u ≡ fault layout
unfolding bytes byte
bytes-short zero u h = absurd (not-suc-le-zero h)
bytes-short (suc k) [] h = refl
bytes-short (suc k) (b ∷ u) h = let l : length u < k = omega arith in rw (bytes-short k u l) refl

-- what the definition makes of a word's length
after_length : ℕ → List (List ℕ) → ℕ → Reader (List (List ℕ))
after_length left seen k v =
    next (bytes k v) (λ w x. next (need layout (may_stand w seen) x) (λ y z. next (read_words left (w ∷ seen) z) (λ r q. got (w ∷ r) q)))

length_then : (g : Read ℕ) (j : ℕ → Reader (List (List ℕ)))
    → next g (λ k v. next (need layout (not (eqb k 0)) v) (λ x w. next (need over_limit (leb k 32) w) (λ y. j k)))
    ≡ next (next g (λ k v. next (need layout (not (eqb k 0)) v) (λ x w. next (need over_limit (leb k 32) w) (λ y z. got k z)))) j
length_then (fault r) j = refl
length_then (got k v) j = go (not (eqb k 0)) (leb k 32)
  where
    go : (a b : Bool) → next (need layout a v) (λ x w. next (need over_limit b w) (λ y. j k)) ≡ next (next (need layout a v) (λ x w. next (need over_limit b w) (λ y z. got k z))) j
    go true true = refl
    go true false = refl
    go false b = refl

words-next : (left : ℕ) (seen : List (List ℕ)) (u : List ℕ) → 0 < left → read_words left seen u ≡ next (word_length u) (after_length (left - 1) seen)
unfolding read_words word_length most_word_length after_length may_stand
words-next zero seen u some = absurd (omega arith)
words-next (suc left) seen u some =
    let d : left ≡ suc left - 1 = omega arith in
    length_then (num u) (after_length left seen) ∙ ap (λ (k : ℕ). next (word_length u) (after_length k seen)) d

kept_more : (w : List ℕ) (g : Read (List (List ℕ))) → kept (λ a. tt {0}) (next g (λ r q. got (w ∷ r) q)) ≡ kept (λ a. tt) g
kept_more w (got r q) = refl
kept_more w (fault f) = refl

module _ (left : ℕ) (seen : List (List ℕ)) (u : List ℕ) (some : 0 < left) where
  words-fault : {f : m.Refusal} → word_length u ≡ fault f → read_words left seen u ≡ fault f
  words-fault e = words-next left seen u some ∙ ap (λ (g : Read ℕ). next g (after_length (left - 1) seen)) e

  module _ {n : ℕ} {v : List ℕ} (e : word_length u ≡ got n v) where
    words_past : read_words left seen u ≡ after_length (left - 1) seen n v
    words_past = words-next left seen u some ∙ ap (λ (g : Read ℕ). next g (after_length (left - 1) seen)) e

    words-short : length v < n → read_words left seen u ≡ fault layout
    unfolding after_length
    words-short l = words_past ∙ rw (bytes-short n v l) refl

    module _ (fits : n ≤ length v) where
      words-bad : may_stand (take n v) seen ≡ false → read_words left seen u ≡ fault layout
      unfolding after_length
      words-bad b = words_past ∙ rw (bytes-are n v fits, b) refl

      words-good : may_stand (take n v) seen ≡ true → kept (λ a. tt {0}) (read_words left seen u) ≡ kept (λ a. tt) (read_words (left - 1) (take n v ∷ seen) (drop n v))
      unfolding after_length
      words-good b =
          let e' : after_length (left - 1) seen n v ≡ next (read_words (left - 1) (take n v ∷ seen) (drop n v)) (λ r q. got (take n v ∷ r) q) = rw (bytes-are n v fits, b) refl in
          ap (λ (g : Read (List (List ℕ))). kept (λ a. tt {0}) g) (words_past ∙ e') ∙ kept_more (take n v) (read_words (left - 1) (take n v ∷ seen) (drop n v))

-- ---- one word more is passed

passed_more : {k n : ℕ} {ws : List (List ℕ)} {s mid u : List ℕ} → Passed k ws s mid → word_length mid ≡ got n u → n ≤ length u → Passed (suc k) (ws ++ (take n u ∷ [])) s (drop n u)
passed_more no_word e f = one_word e f no_word
passed_more (one_word q g p) e f = one_word q g (passed_more p e f)

seen_more : (ws seen : List (List ℕ)) (w : List ℕ) → seen_after (ws ++ (w ∷ [])) seen ≡ w ∷ seen_after ws seen
unfolding seen_after
seen_more [] seen w = refl
seen_more (v ∷ ws) seen w = seen_more ws (v ∷ seen) w

-- ---- the words, by the tests that the code makes

-- `passed` words lie before `here` and `ahead` are to come: with those read, all are
pub record Reading (s : List ℕ) (start at done left here passed ahead : ℕ) : Type 0 where
  pub midway : Midway s start here passed ahead
  pub rest : (r : Result Cursor Refusal) → WordsRead s start here passed ahead r → WordsRead s start at done left r

pub reading_start : {s : List ℕ} {start at done left ahead : ℕ} → Midway s start at done left → ahead ≡ left → Reading s start at done left at done ahead
reading_start {s} {start} {at} {done} {left} m e = record {
  midway = subst (λ (n : ℕ). Midway s start at done n) (sym e) m;
  rest = λ r w. subst (λ (n : ℕ). WordsRead s start at done n r) e w;
}

module _ {s : List ℕ} {start at done left here passed ahead : ℕ} (g : Reading s start at done left here passed ahead) where
  pub words-none : ahead ≤ 0 → WordsRead s start at done left (Ok (record { at = here }))
  unfolding read_words
  words-none e =
      let z : ahead ≡ 0 = omega arith in
      let d : length s - length (drop here s) ≡ here = rw length-drop (omega (arith, g.midway.within)) in
      g.rest _ (record { means = λ ws p. rw (z, d) refl })

  module _ (some : 0 < ahead) {r : Result (ℕ × Cursor) Refusal}
      (h : r ≡ read_at (here + length (take (length s - here) (drop here s))) (word_length (take (length s - here) (drop here s)))) where
    pub section-fault : {f : Refusal} {x : Result Cursor Refusal} → r ≡ Err f → x ≡ Err f → WordsRead s start at done left x
    section-fault {f} {x} e y =
        let d : word_length (drop here s) ≡ fault (refusal_of f) = not_there s here g.midway.within h e in
        rw y (g.rest _ (record { means = λ ws p. rw (words-fault ahead (seen_after ws core_words) (drop here s) some d) (ap (λ (k : Refusal). Err k) (sym (case_back f))) }))

    module _ {n : ℕ} {past : Cursor} (e : r ≡ Ok (n, past)) {to : ℕ} (ends : to ≡ past.at + n) where
      length-here : word_length (drop here s) ≡ got n (drop past.at s)
      length-here = there s here g.midway.within h e

      pub section-short : length s < to → WordsRead s start at done left (Err Layout)
      section-short l =
          let k : length (drop past.at s) < n = omega (arith, length-drop past.at s, within s here g.midway.within h e) in
          g.rest _ (record { means = λ ws p. rw (words-short ahead (seen_after ws core_words) (drop here s) some length-here k) refl })

      module _ (fits : to ≤ length s) {b : Bool}
          (hb : Stands (take (length s - start) (drop start s)) passed (take (to - past.at) (drop past.at s)) b) where
        long : n ≤ length (drop past.at s)
        long = rw length-drop (omega arith)

        judged : (ws : List (List ℕ)) → Passed passed ws (drop start s) (drop here s) → b ≡ may_stand (take n (drop past.at s)) (seen_after ws core_words)
        judged ws p =
            hb.means ws (drop here s) (subst (λ (l : List ℕ). Passed passed ws l (drop here s)) (sym (part-from start s)) p)
            ∙ ap (λ (w : List ℕ). may_stand w (seen_after ws core_words)) (part past.at to s n ends)

        pub section-bad : b ≡ false → WordsRead s start at done left (Err Layout)
        section-bad e' = g.rest _ (record { means = λ ws p. rw (words-bad ahead (seen_after ws core_words) (drop here s) some length-here long (sym (judged ws p) ∙ e')) refl })

        goes_on : {x : Result Cursor Refusal} → b ≡ true → WordsRead s start to (passed + 1) (ahead - 1) x → WordsRead s start here passed ahead x
        goes_on {x} e' w = record {
          means = λ ws p.
              let rest : drop n (drop past.at s) ≡ drop to s = rw (drop-drop, ← ends) in
              let p' : Passed (suc passed) (ws ++ (take n (drop past.at s) ∷ [])) (drop start s) (drop to s) = subst (λ (l : List ℕ). Passed (suc passed) (ws ++ (take n (drop past.at s) ∷ [])) (drop start s) l) rest (passed_more p length-here long) in
              let a = w.means (ws ++ (take n (drop past.at s) ∷ [])) (subst (λ (k : ℕ). Passed k (ws ++ (take n (drop past.at s) ∷ [])) (drop start s) (drop to s)) (sym (add-one passed)) p') in
              let d = words-good ahead (seen_after ws core_words) (drop here s) some length-here long (sym (judged ws p) ∙ e') in
              a
              ∙ ap (λ (seen : List (List ℕ)). place_at (length s) (read_words (ahead - 1) seen (drop to s))) (seen_more ws core_words (take n (drop past.at s)))
              ∙ ap (λ (l : List ℕ). place_at (length s) (read_words (ahead - 1) (take n (drop past.at s) ∷ seen_after ws core_words) l)) (sym rest)
              ∙ sym (ap (λ (q : Read (Unit {0})). answer_at placed (length s) q) d);
        }

        pub section-good : {next : ℕ} → next + 1 ≡ ahead → b ≡ true → Reading s start at done left to (passed + 1) next
        section-good {next} c e' =
            let m = g.midway in
            let n : next ≡ ahead - 1 = omega arith in
            record {
              midway = record { small = m.small; begins = m.begins; within = fits; most = omega arith };
              rest = λ r w. g.rest r (goes_on e' (subst (λ (k : ℕ). WordsRead s start to (passed + 1) k r) n w));
            }
