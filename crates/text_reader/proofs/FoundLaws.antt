-- Words found, looked up and stored, by the tests that the code makes.
use Prim.Native.Nat.{ℕ, zero, suc, ◌+◌, ◌-◌, ◌*◌, ◌≤◌, ◌<◌}
use mathlib.Core.Path.{◌≡◌, refl, sym, ap, ap₂, ◌∙◌, subst}
use mathlib.Core.Bool.{Bool, true, false}
use mathlib.Core.List.{List, [], ◌∷◌, ◌++◌}
use mathlib.Core.Logic.{inr}
use native.Mathlib.Omega.{arith}
use native.Mathlib.Numerals.{add-one}
use mir.Syntax.{w32}
use mir.Val.{Fits}
use lib.ListN.{length, get_or, take, drop, set, length-set, length-append}
use lib.Seq.{get_or-set_same, get_or-set_other}
use lib.Dec.{ltb}
use borrow.Author.Tests.{le-leb, ltb-true, ltb-false}
use Rattle.model.specs.Limits.{most_word_length}
use Rattle.model.specs.Reading.{same_bytes, among, core_words}
use Rattle.requests.specs.Tokens.{word, Token, one, place}
use Rattle.requests.specs.FromText.{met, leaf_fits, all_fit}
use Rattle.text_laws.proofs.Words.{among-place, not_among_place, place-first, place-second, place-most}
use Rattle.text_laws.proofs.MetLaws.{met-new, met-old, found-new}
use Rattle.tokens.proofs.Names.{place_some, place_none}
use Rattle.std.specs.Prelude.{Option, Some, None, Ok, Err}
use Rattle.refusals.specs.declared.Refusal.TheVariants.{OverLimit}
use Rattle.tokens.specs.Nexts.{part}
use Rattle.text_reader.specs.Found.{core_named, word_at, words_from, found, all_words, Span, Sought, FoundAt, Numbered, Storable, Notes}

-- ---- the core words

four : length core_words ≡ 4
unfolding core_words
four = refl

-- ---- a word among those found

pub words-one : (text spans : List ℕ) (i k : ℕ) → 0 < k → words_from text spans i k ≡ word_at text spans i ∷ words_from text spans (i + 1) (k - 1)
unfolding words_from
words-one text spans i zero h = absurd (omega arith)
words-one text spans i (suc k) h =
    let d : k ≡ suc k - 1 = omega arith in
    ap₂ (λ (n m : ℕ). word_at text spans i ∷ words_from text spans n m) (sym (add-one i)) d

words_many : (text spans : List ℕ) (i k : ℕ) → length (words_from text spans i k) ≡ k
unfolding words_from
words_many text spans i zero = refl
words_many text spans i (suc k) = ap suc (words_many text spans (suc i) k)

pub found_many : (text spans : List ℕ) (n : ℕ) → length (found text spans n) ≡ n
found_many text spans n = words_many text spans 0 n

pub no_words : (text spans : List ℕ) (i : ℕ) → words_from text spans i 0 ≡ []
unfolding words_from
no_words text spans i = refl

place_here : (w v : List ℕ) (l : List (List ℕ)) → same_bytes w v ≡ true → place w (v ∷ l) ≡ 0
unfolding place
place_here w v l e = rw e

place_on : (w v : List ℕ) (l : List (List ℕ)) → same_bytes w v ≡ false → place w (v ∷ l) ≡ suc (place w l)
unfolding place
place_on w v l e = rw e

place_nothing : (w : List ℕ) → place w [] ≡ 0
unfolding place
place_nothing w = refl

-- the word is none of the first i
pub record Seeking (text spans : List ℕ) (n from to i : ℕ) : Type 0 where
  pub before : i ≤ n
  pub so_far : place (part text from to) (found text spans n) ≡ i + place (part text from to) (words_from text spans i (n - i))

pub seek_start : {text spans : List ℕ} {n from to : ℕ} → Seeking text spans n from to 0
seek_start {text} {spans} {n} {from} {to} =
    let z : n - 0 ≡ n = omega arith in
    let e = ap (λ (m : ℕ). place (part text from to) (words_from text spans 0 m)) z in
    record { before = omega arith; so_far = omega arith }

module _ {text spans : List ℕ} {n from to : ℕ} (s : Sought text spans n from to) where
  pub seek_forward : from ≤ to
  seek_forward = s.span.forward

  pub seek_within : to ≤ length text
  seek_within = s.span.within

  module _ {i : ℕ} (h : i < n) where
    pub first-there : i * 2 < length spans
    first-there = let r = s.stored.room in omega arith

    pub past_there : i * 2 + 1 < length spans
    past_there = let r = s.stored.room in omega arith

    pub span-forward : get_or spans (i * 2) 0 ≤ get_or spans (i * 2 + 1) 0
    span-forward = (s.stored.inside i h).forward

    pub span-within : get_or spans (i * 2 + 1) 0 ≤ length text
    span-within = (s.stored.inside i h).within

module _ {text spans : List ℕ} {n from to i : ℕ} (k : Seeking text spans n from to i) where
  pub seek_none : n ≤ i → FoundAt text spans n from to n
  seek_none h =
      let z : n - i ≡ 0 = omega arith in
      let e = k.so_far ∙ ap (λ (m : ℕ). i + place (part text from to) (words_from text spans i m)) z
      ∙ ap (λ (l : List (List ℕ)). i + place (part text from to) l) (no_words text spans i) ∙ ap (λ (m : ℕ). i + m) (place_nothing (part text from to)) in
      record { is = omega arith }

  module _ {f : Bool} (h : i < n) (q : f ≡ same_bytes (part text from to) (word_at text spans i)) where
    there : place (part text from to) (found text spans n) ≡ i + place (part text from to) (word_at text spans i ∷ words_from text spans (i + 1) (n - i - 1))
    there = k.so_far ∙ ap (λ (l : List (List ℕ)). i + place (part text from to) l) (words-one text spans i (n - i) (omega arith))

    pub seek_here : f ≡ true → FoundAt text spans n from to i
    seek_here e =
        let a = there ∙ ap (λ (m : ℕ). i + m) (place_here (part text from to) (word_at text spans i) (words_from text spans (i + 1) (n - i - 1)) (sym q ∙ e)) in
        record { is = omega arith }

    pub seek_on : f ≡ false → Seeking text spans n from to (i + 1)
    seek_on e =
        let a = there ∙ ap (λ (m : ℕ). i + m) (place_on (part text from to) (word_at text spans i) (words_from text spans (i + 1) (n - i - 1)) (sym q ∙ e)) in
        let d : n - i - 1 ≡ n - (i + 1) = omega arith in
        let b = ap (λ (m : ℕ). place (part text from to) (words_from text spans (i + 1) m)) d in
        record { before = omega arith; so_far = omega arith }

pub ruleset seek_laws = (seek_start, seek_forward, seek_within, first-there, past_there, span-forward, span-within, seek_none, seek_here, seek_on)

-- ---- its number

module _ (text spans : List ℕ) (n from to : ℕ) where
  module _ {o : Option ℕ} (h : o ≡ core_named (part text from to)) where
    pub symbol-core : {k : ℕ} → o ≡ Some k → Numbered text spans n from to k
    symbol-core e =
        let a = place_some (part text from to) core_words 4 h e in
        let c : place (part text from to) core_words < length core_words = subst (λ (m : ℕ). place (part text from to) core_words < m) (sym four) a.0 in
        record { is = a.1 ∙ sym (place-first (part text from to) core_words (found text spans n) c) }

    pub core-fits : {k : ℕ} → o ≡ Some k → Fits w32 k
    core-fits e = let a = place_some (part text from to) core_words 4 h e in omega (arith, a.0, a.1)

    pub symbol-found : {j : ℕ} → o ≡ None → FoundAt text spans n from to j → Numbered text spans n from to (4 + j)
    symbol-found {j} e f =
        let c : length core_words ≤ place (part text from to) core_words = subst (λ (m : ℕ). m ≤ place (part text from to) core_words) (sym four) (place_none (part text from to) core_words 4 h e) in
        let a = place-second (part text from to) core_words (found text spans n) c in
        let b = four in
        let d = f.is in
        record { is = omega arith }

  module _ {j : ℕ} (s : Sought text spans n from to) (f : FoundAt text spans n from to j) where
    found-few : j ≤ 1020
    found-few =
        let a = place-most (part text from to) (found text spans n) in
        let b = found_many text spans n in
        let d = f.is in
        let e = s.stored.few in
        omega arith

    pub found-fits : Fits w32 j
    found-fits = let l = found-few in omega arith

    pub number_fits : Fits w32 (4 + j)
    number_fits = let l = found-few in omega arith

pub ruleset symbol_laws = (seek_forward, seek_within, symbol-core, core-fits, symbol-found, found-fits, number_fits)

-- ---- one word more

by_place : {P : Type 0} (i n : ℕ) → i < n + 1 → (i < n → P) → (i ≡ n → P) → P
by_place {P} i n l f g = go (ltb i n) refl
  where
    go : (t : Bool) → ltb i n ≡ t → P
    go true e = f (ltb-true i n e)
    go false e = g (let h = ltb-false i n e in omega arith)

take-few : {A : Type 0} (n : ℕ) (l : List A) → length (take n l) ≤ n
take-few zero l = omega arith
take-few (suc n) [] = omega arith
take-few (suc n) (x ∷ l) = let e = take-few n l in omega arith

fits_more : (w : List ℕ) (ts : List Token) → length w ≤ 32 → all_fit (one (word w) ∷ ts) ≡ all_fit ts
unfolding all_fit leaf_fits most_word_length
fits_more w ts h = rw (le-leb (length w) 32 h)

abbrev first_at : List ℕ → ℕ → ℕ
first_at spans i = get_or spans (i * 2) 0

abbrev past_at : List ℕ → ℕ → ℕ
past_at spans i = get_or spans (i * 2 + 1) 0

-- the words before the last are where they were
module _ (text spans : List ℕ) (n from to : ℕ) where
  abbrev stored : List ℕ
  stored = set (set spans (n * 2) from) (n * 2 + 1) to

  first-same : (i : ℕ) → i < n → get_or stored (i * 2) 0 ≡ get_or spans (i * 2) 0
  first-same i h =
      get_or-set_other (set spans (n * 2) from) (n * 2 + 1) (i * 2) to 0 (λ e. omega arith) ∙ get_or-set_other spans (n * 2) (i * 2) from 0 (λ e. omega arith)

  past_same : (i : ℕ) → i < n → get_or stored (i * 2 + 1) 0 ≡ get_or spans (i * 2 + 1) 0
  past_same i h =
      get_or-set_other (set spans (n * 2) from) (n * 2 + 1) (i * 2 + 1) to 0 (λ e. omega arith) ∙ get_or-set_other spans (n * 2) (i * 2 + 1) from 0 (λ e. omega arith)

  words_same : (i k : ℕ) → i + k ≤ n → words_from text stored i k ≡ words_from text spans i k
  unfolding words_from
  words_same i zero h = refl
  words_same i (suc k) h =
      ap₂ (λ (w : List ℕ) (l : List (List ℕ)). w ∷ l)
      (ap₂ (λ (a b : ℕ). part text a b) (first-same i (omega arith)) (past_same i (omega arith))) (words_same (suc i) k (omega arith))

  module _ (room : n * 2 + 1 < length spans) where
    last-first : get_or stored (n * 2) 0 ≡ from
    last-first =
        get_or-set_other (set spans (n * 2) from) (n * 2 + 1) (n * 2) to 0 (λ e. omega arith) ∙ get_or-set_same spans (n * 2) from 0 (omega arith)

    last_past : get_or stored (n * 2 + 1) 0 ≡ to
    last_past = get_or-set_same (set spans (n * 2) from) (n * 2 + 1) to 0 (let e = length-set spans (n * 2) from in omega arith)

words_last : (text spans : List ℕ) (i k : ℕ) → words_from text spans i (suc k) ≡ words_from text spans i k ++ (word_at text spans (i + k) ∷ [])
unfolding words_from
words_last text spans i zero = let z : i ≡ i + 0 = omega arith in ap (λ (m : ℕ). word_at text spans m ∷ []) z
words_last text spans i (suc k) =
    let z : suc i + k ≡ i + suc k = omega arith in
    ap (λ (l : List (List ℕ)). word_at text spans i ∷ l)
    (words_last text spans (suc i) k ∙ ap (λ (m : ℕ). words_from text spans (suc i) k ++ (word_at text spans m ∷ [])) z)

found_one_more : (text spans : List ℕ) (n from to : ℕ) → n * 2 + 1 < length spans
    → found text (stored text spans n from to) (n + 1) ≡ found text spans n ++ (part text from to ∷ [])
found_one_more text spans n from to h =
    ap (λ (m : ℕ). words_from text (stored text spans n from to) 0 m) (add-one n)
    ∙ words_last text (stored text spans n from to) 0 n
    ∙ ap₂ (λ (l : List (List ℕ)) (w : List ℕ). l ++ (w ∷ [])) (words_same text spans n from to 0 n (omega arith)) last
  where
    z : 0 + n ≡ n
    z = omega arith

    last : word_at text (stored text spans n from to) (0 + n) ≡ part text from to
    last =
        ap (word_at text (stored text spans n from to)) z
        ∙ ap₂ (λ (a b : ℕ). part text a b) (last-first text spans n from to h) (last_past text spans n from to h)

module _ {text spans : List ℕ} {n from to : ℕ} (s : Storable text spans n from to) where
  word-short : length (part text from to) ≤ 32
  word-short = let a = take-few (to - from) (drop from text) in let b = s.short in omega arith

  pub note_sought : Sought text spans n from to
  note_sought = s.sought

  pub first-room : n < 1020 → n * 2 < length spans
  first-room h = let e = s.space in omega arith

  pub past_room : n < 1020 → n * 2 + 1 < length (set spans (n * 2) from)
  past_room h = let e = s.space in let a = length-set spans (n * 2) from in omega arith

  module _ {known : ℕ} (k : Numbered text spans n from to known) where
    all_many : length (all_words text spans n) ≡ 4 + n
    all_many = length-append core_words (found text spans n) ∙ ap₂ (λ (a b : ℕ). a + b) four (found_many text spans n)

    pub note_old : known < 4 + n → Notes text spans n from to spans (Ok n)
    note_old h =
        let l : place (part text from to) (all_words text spans n) < length (all_words text spans n) = let e = k.is in let a = all_many in omega arith in
        let e = among-place (part text from to) (all_words text spans n) l in
        record {
          same = refl;
          is = record {
            stored = s.sought.stored;
            fits = λ ts. fits_more (part text from to) ts word-short;
            words = λ ts. ap (λ (l : List (List ℕ)). found text spans n ++ l) (met-old (all_words text spans n) (part text from to) ts e);
          };
        }

    module _ (h : 4 + n ≤ known) where
      new : among (part text from to) (all_words text spans n) ≡ false
      new =
          let l : length (all_words text spans n) ≤ place (part text from to) (all_words text spans n) = let e = k.is in let a = all_many in omega arith in
          not_among_place (part text from to) (all_words text spans n) l

      pub note_full : 1020 ≤ n → Notes text spans n from to spans (Err OverLimit)
      note_full m = record { same = refl; is = (refl, record { over = λ ts. inr (longer ts) }) }
        where
          longer : (ts : List Token) → 1020 < length (found text spans n ++ met (all_words text spans n) (one (word (part text from to)) ∷ ts))
          longer ts =
              let a = ap length (met-new (all_words text spans n) (part text from to) ts new) in
              let b = length-append (found text spans n) (met (all_words text spans n) (one (word (part text from to)) ∷ ts)) in
              let c = found_many text spans n in
              omega arith

      pub note_new : n < 1020 → Notes text spans n from to (set (set spans (n * 2) from) (n * 2 + 1) to) (Ok (n + 1))
      note_new m = record {
        same = length-set (set spans (n * 2) from) (n * 2 + 1) to ∙ length-set spans (n * 2) from;
        is = record {
          stored = record { few = omega arith; room = room; inside = inside; short = short };
          fits = λ ts. fits_more (part text from to) ts word-short;
          words = λ ts.
              found-new core_words (found text spans n) (part text from to) ts new
              ∙ ap (λ (l : List (List ℕ)). l ++ met (core_words ++ l) ts) (sym (found_one_more text spans n from to space));
        };
      }
        where
          space : n * 2 + 1 < length spans
          space = let e = s.space in omega arith

          room : (n + 1) * 2 ≤ length (stored text spans n from to)
          room = let a = length-set (set spans (n * 2) from) (n * 2 + 1) to in let b = length-set spans (n * 2) from in let e = s.space in omega arith

          inside : (i : ℕ) → i < n + 1 → Span text (first_at (stored text spans n from to) i) (past_at (stored text spans n from to) i)
          inside i l = by_place i n l (λ h. record {
            forward = let a = first-same text spans n from to i h in let b = past_same text spans n from to i h in let c = (s.sought.stored.inside i h).forward in omega arith;
            within = let b = past_same text spans n from to i h in let c = (s.sought.stored.inside i h).within in omega arith;
          }) (λ e. subst (λ (j : ℕ). Span text (first_at (stored text spans n from to) j) (past_at (stored text spans n from to) j)) (sym e) (record {
            forward = let a = last-first text spans n from to space in let b = last_past text spans n from to space in let c = s.sought.span.forward in omega arith;
            within = let b = last_past text spans n from to space in let c = s.sought.span.within in omega arith;
          }))

          short : (i : ℕ) → i < n + 1 → past_at (stored text spans n from to) i - first_at (stored text spans n from to) i ≤ 32
          short i l = by_place i n l
              (λ h. let a = first-same text spans n from to i h in let b = past_same text spans n from to i h in let c = s.sought.stored.short i h in omega arith)
              (λ e. subst (λ (j : ℕ). past_at (stored text spans n from to) j - first_at (stored text spans n from to) j ≤ 32) (sym e) (let a = last-first text spans n from to space in let b = last_past text spans n from to space in let c = s.short in omega arith))

pub ruleset note_laws = (note_sought, first-room, past_room, note_old, note_full, note_new)
