-- The words of an image, by the tests that the code makes.
use Prim.Native.Nat.{ℕ, zero, suc, ◌+◌, ◌-◌, ◌≤◌, ◌<◌}
use mathlib.Core.Path.{◌≡◌, refl, sym, ap, ◌∙◌, subst}
use mathlib.Core.List.{List, [], ◌∷◌}
use mathlib.Core.Bool.{Bool, true, false}
use native.Mathlib.Omega.{arith}
use native.Mathlib.Numerals.{add-one}
use mir.Syntax.{w64}
use mir.Val.{Fits}
use lib.Dec.{ltb}
use lib.ListN.{length, take, drop, get_or, set, length-set, length-drop}
use lib.Seq.{length-take-le, get_or-set_same, get_or-set_other, get_or-append-add}
use borrow.Author.Tests.{ltb-true, ltb-false}
use Rattle.model.specs.Reading.{core_words}
use Rattle.text.specs.Placing.{Placed}
use Rattle.text_printer.specs.Spelling.{word_at, words_at, spelling, WordAt, Spellable, place_of, WordsHere, FindsWords}

-- ---- the word of a symbol

words-at : (image starts : List ℕ) (i k j : ℕ) → j < k → get_or (words_at image starts i k) j [] ≡ word_at image (get_or starts (i + j) 0)
unfolding words_at
words-at image starts i zero j h = absurd (omega arith)
words-at image starts i (suc k) zero h = let z : i ≡ i + 0 = omega arith in ap (λ (m : ℕ). word_at image (get_or starts m 0)) z
words-at image starts i (suc k) (suc j) h =
    let z : suc i + j ≡ i + suc j = omega arith in
    words-at image starts (suc i) k j (omega arith) ∙ ap (λ (m : ℕ). word_at image (get_or starts m 0)) z

four : length core_words ≡ 4
unfolding core_words
four = refl

own_word : (image starts : List ℕ) (n x : ℕ) → 4 ≤ x → x < 4 + n → get_or (spelling image starts n) x [] ≡ word_at image (get_or starts (x - 4) 0)
own_word image starts n x l h =
    let e : length core_words + (x - 4) ≡ x = let f = four in omega arith in
    let z : 0 + (x - 4) ≡ x - 4 = omega arith in
    ap (λ (m : ℕ). get_or (spelling image starts n) m []) (sym e) ∙ get_or-append-add core_words (words_at image starts 0 n) (x - 4) []
    ∙ words-at image starts 0 n (x - 4) (omega arith) ∙ ap (λ (m : ℕ). word_at image (get_or starts m 0)) z

module _ (image starts : List ℕ) (n : ℕ) {x : ℕ} where
  core-word : (k : ℕ) (w : List ℕ) → get_or (spelling image starts n) k [] ≡ w → x ≡ k → w ≡ get_or (spelling image starts n) x []
  core-word k w e z = sym (ap (λ (m : ℕ). get_or (spelling image starts n) m []) z ∙ e)

  pub word-lambda : x ≡ 0 → 108 ∷ 97 ∷ 109 ∷ 98 ∷ 100 ∷ 97 ∷ [] ≡ get_or (spelling image starts n) x []
  unfolding core_words
  word-lambda z = core-word 0 _ refl z

  pub word_let : x ≡ 1 → 108 ∷ 101 ∷ 116 ∷ 45 ∷ 115 ∷ 121 ∷ 110 ∷ 116 ∷ 97 ∷ 120 ∷ [] ≡ get_or (spelling image starts n) x []
  unfolding core_words
  word_let z = core-word 1 _ refl z

  pub word-quote : x ≡ 2 → 113 ∷ 117 ∷ 111 ∷ 116 ∷ 101 ∷ [] ≡ get_or (spelling image starts n) x []
  unfolding core_words
  word-quote z = core-word 2 _ refl z

  pub word-syntax : x ≡ 3 → 115 ∷ 121 ∷ 110 ∷ 116 ∷ 97 ∷ 120 ∷ [] ≡ get_or (spelling image starts n) x []
  unfolding core_words
  word-syntax z = core-word 3 _ refl z

four_more : (x : ℕ) → (x ≡ 0 → ⊥) → (x ≡ 1 → ⊥) → (x ≡ 2 → ⊥) → (x ≡ 3 → ⊥) → 4 ≤ x
four_more x a b c d = omega arith

module _ {image starts : List ℕ} {n x : ℕ} (s : Spellable image starts n x) (l : 4 ≤ x) where
  own_there : WordAt image (get_or starts (x - 4) 0)
  own_there = let d = s.declared in s.words.there (x - 4) (omega arith)

  own_long : length (word_at image (get_or starts (x - 4) 0)) ≡ get_or image (get_or starts (x - 4) 0) 0
  own_long =
      let w = own_there.ends in
      let d = length-drop (get_or starts (x - 4) 0 + 1) image in
      length-take-le (get_or image (get_or starts (x - 4) 0) 0) (drop (get_or starts (x - 4) 0 + 1) image) (omega arith)

  pub own_place : x - 4 < length starts
  own_place = let d = s.declared in let r = s.words.room in omega arith

  pub own_begins : get_or starts (x - 4) 0 < length image
  own_begins = own_there.begins

  pub own_few : get_or image (get_or starts (x - 4) 0) 0 ≤ 32
  own_few = own_there.short

  pub own_fits : Fits w64 (get_or image (get_or starts (x - 4) 0) 0)
  own_fits = let a = own_few in omega arith

module _ {image starts : List ℕ} {n x : ℕ} (s : Spellable image starts n x) (a : x ≡ 0 → ⊥) (b : x ≡ 1 → ⊥) (c : x ≡ 2 → ⊥) (d : x ≡ 3 → ⊥) where
  far : 4 ≤ x
  far = four_more x a b c d

  pub len-from : 4 ≤ x
  len-from = far

  pub len-place : x - 4 < length starts
  len-place = own_place s far

  pub len-begins : get_or starts (x - 4) 0 < length image
  len-begins = own_begins s far

  pub len-fits : Fits w64 (get_or image (get_or starts (x - 4) 0) 0)
  len-fits = own_fits s far

  pub from-fits : Fits w64 (get_or starts (x - 4) 0 + 1)
  from-fits = let p = own_begins s far in let q = s.words.small in omega arith

  pub to-fits : Fits w64 (get_or starts (x - 4) 0 + 1 + get_or image (get_or starts (x - 4) 0) 0)
  to-fits = let p = (own_there s far).ends in let q = s.words.small in omega arith

  pub to-within : get_or starts (x - 4) 0 + 1 + get_or image (get_or starts (x - 4) 0) 0 ≤ length image
  to-within = (own_there s far).ends

  taken : (p m : ℕ) → take (p + 1 + m - (p + 1)) (drop (p + 1) image) ≡ take m (drop (p + 1) image)
  taken p m = let z : p + 1 + m - (p + 1) ≡ m = omega arith in ap (λ (k : ℕ). take k (drop (p + 1) image)) z

  pub own_is : take (get_or starts (x - 4) 0 + 1 + get_or image (get_or starts (x - 4) 0) 0 - (get_or starts (x - 4) 0 + 1)) (drop (get_or starts (x - 4) 0 + 1) image) ≡ get_or (spelling image starts n) x []
  own_is = taken (get_or starts (x - 4) 0) (get_or image (get_or starts (x - 4) 0) 0) ∙ sym (own_word image starts n x far s.declared)

  pub own_small : length (take (get_or starts (x - 4) 0 + 1 + get_or image (get_or starts (x - 4) 0) 0 - (get_or starts (x - 4) 0 + 1)) (drop (get_or starts (x - 4) 0 + 1) image)) ≤ 32
  own_small = let e = ap length (taken (get_or starts (x - 4) 0) (get_or image (get_or starts (x - 4) 0) 0)) in let f = own_long s far in let g = own_few s far in omega arith

pub ruleset own_laws = (word-lambda, word_let, word-quote, word-syntax, len-from, len-place, len-begins, len-fits, from-fits, to-fits, to-within, own_is, own_small)

-- ---- written

pub placed_as : {out out' : List ℕ} {at p : ℕ} (w v : List ℕ) → w ≡ v → Placed out at w out' p → Placed out at v out' p
placed_as {out} {out'} {at} {p} w v e q = subst (λ (b : List ℕ). Placed out at b out' p) e q

-- ---- finding the words

pub place-first : (image : List ℕ) (p : ℕ) → place_of image p 0 ≡ p
unfolding place_of
place-first image p = refl

place-next : (image : List ℕ) (p i : ℕ) → place_of image p (suc i) ≡ place_of image p i + 1 + get_or image (place_of image p i) 0
unfolding place_of
place-next image p zero = refl
place-next image p (suc i) = place-next image (p + 1 + get_or image p 0) i

-- the places of the first i words are stored
pub record Finding (image : List ℕ) (first n : ℕ) (starts₀ starts : List ℕ) (at i : ℕ) : Type 0 where
  pub before : i ≤ n
  pub same : length starts ≡ length starts₀
  pub here : at ≡ place_of image first i
  pub are : (j : ℕ) → j < i → get_or starts j 0 ≡ place_of image first j

pub finding_start : {image : List ℕ} {first n : ℕ} {starts : List ℕ} → Finding image first n starts starts first 0
finding_start {image} {first} = record { before = omega arith; same = refl; here = sym (place-first image first); are = λ j l. absurd (none j l) }
  where
    none : (j : ℕ) → j < 0 → ⊥
    none j l = omega arith

module _ {image : List ℕ} {first n : ℕ} {starts₀ starts : List ℕ} {at i : ℕ} (f : Finding image first n starts₀ starts at i) where
  pub finding_length : length starts ≡ length starts₀
  finding_length = f.same

  pub finding_end : n ≤ i → FindsWords image first n starts₀ starts
  finding_end h = record { same = f.same; are = λ j l. f.are j (omega arith) }

  module _ (h : WordsHere image first n starts₀) (l : i < n) where
    pub store-room : i < length starts
    store-room = let a = h.room in let b = f.same in omega arith

    pub byte-there : at < length image
    byte-there = let a = (h.there i l).begins in let b = f.here in omega arith

    the_word : WordAt image at
    the_word = subst (WordAt image) (sym f.here) (h.there i l)

    pub byte_fits : Fits w64 (get_or image at 0)
    byte_fits = let a = the_word.short in omega arith

    pub one-fits : Fits w64 (at + 1)
    one-fits = let a = the_word.begins in let b = h.small in omega arith

    pub past_fits : Fits w64 (at + 1 + get_or image at 0)
    past_fits = let a = the_word.ends in let b = h.small in omega arith

    pub finding_more : Finding image first n starts₀ (set starts i at) (at + 1 + get_or image at 0) (i + 1)
    finding_more = record {
      before = omega arith;
      same = length-set starts i at ∙ f.same;
      here = ap (λ (p : ℕ). p + 1 + get_or image p 0) f.here ∙ sym (place-next image first i) ∙ ap (place_of image first) (sym (add-one i));
      are = λ j m. stored j m (ltb j i) refl;
    }
      where
        stored : (j : ℕ) → j < i + 1 → (t : Bool) → ltb j i ≡ t → get_or (set starts i at) j 0 ≡ place_of image first j
        stored j m true e = let k = ltb-true j i e in get_or-set_other starts i j at 0 (λ z. omega arith) ∙ f.are j k
        stored j m false e =
            let k = ltb-false j i e in
            let z : j ≡ i = omega arith in
            ap (λ (q : ℕ). get_or (set starts i at) q 0) z ∙ get_or-set_same starts i at 0 store-room ∙ f.here ∙ ap (place_of image first) (sym z)

pub ruleset find_laws = (finding_start, finding_length, finding_end, store-room, byte-there, byte_fits, one-fits, past_fits, finding_more)
