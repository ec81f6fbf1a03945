-- How long the image will be, by the tests that the code makes.
use Prim.Native.Nat.{ℕ, ◌+◌, ◌-◌, ◌*◌, ◌≤◌, ◌<◌}
use mathlib.Core.Path.{◌≡◌, refl, sym, ap, ap₂, ◌∙◌, subst}
use mathlib.Core.List.{List, [], ◌∷◌, ◌++◌}
use native.Mathlib.Omega.{arith}
use mir.Syntax.{w32, w64}
use mir.Val.{Fits}
use lib.ListN.{length, get_or, drop, length-append, length-drop}
use lib.Seq.{length-take-le}
use Rattle.model.specs.Objects.{no_sets}
use Rattle.model.specs.Writing.{num_bytes, sets_bytes, words_bytes}
use Rattle.codec_laws.proofs.Lengths.{num-one}
use Rattle.numbers.proofs.Writing.{num-short}
use Rattle.text_reader.specs.Found.{word_at, words_from, found, Spans}
use Rattle.text_reader.specs.Items.{root_from, thing_bytes, Sound, Steps, ShowsItem, ShowsItems, ItemIs}
use Rattle.text_reader.specs.Writing.{head_from, word_bytes, image_from}
use Rattle.text_endings.specs.Ending.{Measured}
use Rattle.text_reader.specs.Measuring.{WordsLong, HeadLong}
use Rattle.text_reader.specs.declared.items.Item.{Item}
use Rattle.text_reader.specs.declared.items.Item.TheVariants.{Nothing, Thing, Long}
use Rattle.std.specs.Prelude.{Option, None, Some}
use Rattle.text_reader.proofs.FoundLaws.{found_many, words-one, no_words}

-- ---- what an item says

module _ {text spans : List ℕ} {n at : ℕ} {r : Option (Item × ℕ)} (h : ItemIs text spans n at r) where
  pub item_end : r ≡ None → root_from text spans n at ≡ []
  item_end e = subst (ShowsItems text spans n at) e h.is

  module _ {x : Item} {to : ℕ} (e : r ≡ Some (x, to)) where
    item-shown : ShowsItem text spans n at to x
    item-shown = subst (ShowsItems text spans n at) e h.is

    pub item_nothing : x ≡ Nothing → Steps text spans n at to []
    item_nothing i = subst (ShowsItem text spans n at to) i item-shown

    pub item_thing : {tag content : ℕ} → x ≡ Thing tag content → (tag < 128) × Steps text spans n at to (thing_bytes tag content)
    item_thing i = subst (ShowsItem text spans n at to) i item-shown

    pub item_long : x ≡ Long → 65536 < length (root_from text spans n at)
    item_long i = subst (ShowsItem text spans n at to) i item-shown

    -- a loop from item to item ends
    pub less_nothing : x ≡ Nothing → length text - to < length text - at
    less_nothing i = let s = item_nothing i in let a = s.onward in let b = s.sound.within in omega arith

    pub less_thing : {tag content : ℕ} → x ≡ Thing tag content → length text - to < length text - at
    less_thing i = let s = (item_thing i).1 in let a = s.onward in let b = s.sound.within in omega arith

pub ruleset items_onward = (less_nothing, less_thing)

three : length (sets_bytes no_sets) ≡ 3
unfolding sets_bytes no_sets
three = refl

pub thing-long : (tag content : ℕ) → tag < 128 → length (thing_bytes tag content) ≡ 4 + length (num_bytes content)
thing-long tag content h =
    let a = length-append (num_bytes tag ++ sets_bytes no_sets) (num_bytes content) in
    let b = length-append (num_bytes tag) (sets_bytes no_sets) in
    let c = num-one tag h in
    let d = three in
    omega arith

-- ---- the root

-- `len` bytes of the root come before what stands from `at` on
pub record Measuring (text spans : List ℕ) (n at len : ℕ) : Type 0 where
  pub sound : Sound text spans n at
  pub small : len ≤ 65545
  pub total : len + length (root_from text spans n at) ≡ length (root_from text spans n 0)

pub root-start : {text spans : List ℕ} {n : ℕ} → Sound text spans n 0 → Measuring text spans n 0 0
root-start s = record { sound = s; small = omega arith; total = omega arith }

module _ {text spans : List ℕ} {n at len : ℕ} (j : Measuring text spans n at len) {most : ℕ} where
  pub root_over : most < len → Measured (root_from text spans n 0) most len
  root_over h = let t = j.total in record { exact = λ l. absurd (no l); long = λ l. omega arith }
    where
      no : len ≤ most → ⊥
      no l = omega arith

module _ {text spans : List ℕ} {n at len : ℕ} (j : Measuring text spans n at len) where
  pub root-sound : Sound text spans n at
  root-sound = j.sound

  pub root-few : len ≤ 65545
  root-few = j.small

  module _ {r : Option (Item × ℕ)} (h : ItemIs text spans n at r) where
    pub root-end : {most : ℕ} → r ≡ None → Measured (root_from text spans n 0) most len
    root-end e =
        let t = j.total in
        let z = ap length (item_end h e) in
        record { exact = λ l. omega arith; long = λ l. omega arith }

    pub root-long : {most : ℕ} {x : Item} {to : ℕ} → r ≡ Some (x, to) → x ≡ Long → most ≤ 65536 → Measured (root_from text spans n 0) most 65537
    root-long {most} e i m =
        let t = j.total in
        let z = item_long h e i in
        record { exact = λ l. absurd (no l); long = λ l. omega arith }
      where
        no : 65537 ≤ most → ⊥
        no l = omega arith

    pub root_passed : {to : ℕ} {x : Item} → r ≡ Some (x, to) → x ≡ Nothing → Measuring text spans n to len
    root_passed {to} e i =
        let s = item_nothing h e i in
        record { sound = s.sound; small = j.small; total = ap (λ (b : List ℕ). len + length b) (sym s.is) ∙ j.total }

    module _ {most tag content to k : ℕ} {x : Item} (e : r ≡ Some (x, to)) (i : x ≡ Thing tag content) (l : len ≤ most) (m : most ≤ 65536) (q : k ≡ length (num_bytes content)) where
      pub root-thing : Measuring text spans n to (len + (4 + k))
      root-thing =
          let s = item_thing h e i in
          let a = thing-long tag content s.0 in
          let b = length-append (thing_bytes tag content) (root_from text spans n to) in
          let c = ap length s.1.is in
          let t = j.total in
          let f = num-short content in
          record { sound = s.1.sound; small = omega arith; total = omega arith }

pub content-fits : {k : ℕ} (content : ℕ) → k ≡ length (num_bytes content) → Fits w64 (4 + k)
content-fits content q = let f = num-short content in omega arith

pub sum_fits : {most len k : ℕ} (content : ℕ) → k ≡ length (num_bytes content) → len ≤ most → most ≤ 65536 → Fits w64 (len + (4 + k))
sum_fits content q l m = let f = num-short content in omega arith

pub ruleset root_laws = (root-start, root_over, root-sound, root-few, root-end, root-long, root_passed, root-thing, content-fits, sum_fits, items_onward)

-- ---- the words

words_more : (w : List ℕ) (l : List (List ℕ)) → words_bytes (w ∷ l) ≡ num_bytes (length w) ++ w ++ words_bytes l
unfolding words_bytes
words_more w l = refl

no_bytes : words_bytes [] ≡ []
unfolding words_bytes
no_bytes = refl

module _ {text spans : List ℕ} {n : ℕ} (s : Spans text spans n) {i : ℕ} (h : i < n) where
  pub word-forward : get_or spans (i * 2) 0 ≤ get_or spans (i * 2 + 1) 0
  word-forward = (s.inside i h).forward

  pub word-within : get_or spans (i * 2 + 1) 0 ≤ length text
  word-within = (s.inside i h).within

  pub word_first : i * 2 < length spans
  word_first = let r = s.room in omega arith

  pub word_past : i * 2 + 1 < length spans
  word_past = let r = s.room in omega arith

  pub word-short : get_or spans (i * 2 + 1) 0 - get_or spans (i * 2) 0 ≤ 32
  word-short = s.short i h

  pub word-long : length (word_at text spans i) ≡ get_or spans (i * 2 + 1) 0 - get_or spans (i * 2) 0
  word-long =
      let a = (s.inside i h).within in
      let d = length-drop (get_or spans (i * 2) 0) text in
      length-take-le (get_or spans (i * 2 + 1) 0 - get_or spans (i * 2) 0) (drop (get_or spans (i * 2) 0) text) (omega arith)

  -- the bytes of the words from the i-th on
  pub words_step : words_bytes (words_from text spans i (n - i))
      ≡ word_bytes text (get_or spans (i * 2) 0) (get_or spans (i * 2 + 1) 0) ++ words_bytes (words_from text spans (i + 1) (n - (i + 1)))
  words_step =
      let d : n - i - 1 ≡ n - (i + 1) = omega arith in
      ap words_bytes (words-one text spans i (n - i) (omega arith))
      ∙ words_more (word_at text spans i) (words_from text spans (i + 1) (n - i - 1))
      ∙ ap₂ (λ (m k : ℕ). (num_bytes m ++ word_at text spans i) ++ words_bytes (words_from text spans (i + 1) k)) word-long d

pub words-done : (text spans : List ℕ) (n i : ℕ) → n ≤ i → words_bytes (words_from text spans i (n - i)) ≡ []
words-done text spans n i h =
    let z : n - i ≡ 0 = omega arith in
    ap (λ (k : ℕ). words_bytes (words_from text spans i k)) z ∙ ap words_bytes (no_words text spans i) ∙ no_bytes

pub words-all : (text spans : List ℕ) (n : ℕ) → words_bytes (words_from text spans 0 (n - 0)) ≡ words_bytes (found text spans n)
words-all text spans n = let z : n - 0 ≡ n = omega arith in ap (λ (k : ℕ). words_bytes (words_from text spans 0 k)) z

-- `len` bytes are those of the first i words
pub record Adding (text spans : List ℕ) (n i len : ℕ) : Type 0 where
  pub stored : Spans text spans n
  pub before : i ≤ n
  pub few : len ≤ i * 33
  pub total : len + length (words_bytes (words_from text spans i (n - i))) ≡ length (words_bytes (found text spans n))

pub adding_start : {text spans : List ℕ} {n : ℕ} → Spans text spans n → Adding text spans n 0 0
adding_start {text} {spans} {n} s = let e = ap length (words-all text spans n) in record { stored = s; before = omega arith; few = omega arith; total = omega arith }

module _ {text spans : List ℕ} {n i len : ℕ} (j : Adding text spans n i len) where
  pub adding_stored : Spans text spans n
  adding_stored = j.stored

  pub adding_end : n ≤ i → WordsLong text spans n len
  adding_end h =
      let t = j.total in
      let z = ap length (words-done text spans n i h) in
      let f = j.few in
      let b = j.before in
      let e : i ≡ n = omega arith in
      record { is = omega arith; few = subst (λ (k : ℕ). len ≤ k * 33) e f }

  module _ (h : i < n) where
    pub adding_more : Adding text spans n (i + 1) (len + (1 + (get_or spans (i * 2 + 1) 0 - get_or spans (i * 2) 0)))
    adding_more =
        let t = j.total in
        let s = j.stored in
        let w = word-short s h in
        let l = word-long s h in
        let a = ap length (words_step s h) in
        let b = length-append (word_bytes text (get_or spans (i * 2) 0) (get_or spans (i * 2 + 1) 0)) (words_bytes (words_from text spans (i + 1) (n - (i + 1)))) in
        let c = length-append (num_bytes (get_or spans (i * 2 + 1) 0 - get_or spans (i * 2) 0)) (word_at text spans i) in
        let d = num-one (get_or spans (i * 2 + 1) 0 - get_or spans (i * 2) 0) (omega arith) in
        let f = j.few in
        record { stored = s; before = omega arith; few = omega arith; total = omega arith }

    pub one-fits : Fits w64 (1 + (get_or spans (i * 2 + 1) 0 - get_or spans (i * 2) 0))
    one-fits = let w = word-short j.stored h in omega arith

    pub adding_fits : Fits w64 (len + (1 + (get_or spans (i * 2 + 1) 0 - get_or spans (i * 2) 0)))
    adding_fits = let w = word-short j.stored h in let f = j.few in let a = j.stored.few in omega arith

pub ruleset words_laws = (adding_start, adding_stored, adding_end, adding_more, one-fits, adding_fits, word-forward, word_first, word_past)

-- ---- the image

pub head-parts : (ws : List (List ℕ)) → length (head_from ws) ≡ 1 + (length (num_bytes (length ws)) + (length (words_bytes ws) + 3))
head-parts ws =
    let a = length-append (num_bytes 1) (num_bytes (length ws) ++ (words_bytes ws ++ (0 ∷ 0 ∷ 0 ∷ []))) in
    let b = length-append (num_bytes (length ws)) (words_bytes ws ++ (0 ∷ 0 ∷ 0 ∷ [])) in
    let c = length-append (words_bytes ws) (0 ∷ 0 ∷ 0 ∷ []) in
    let d = num-one 1 (omega arith) in
    omega arith

pub head-long : (text spans : List ℕ) (n : ℕ) → length (head_from (found text spans n)) ≡ 1 + (length (num_bytes n) + (length (words_bytes (found text spans n)) + 3))
head-long text spans n =
    let a = head-parts (found text spans n) in
    let b = ap (λ (k : ℕ). length (num_bytes k)) (found_many text spans n) in
    omega arith

module _ {text spans : List ℕ} {n : ℕ} (s : Spans text spans n) where
  pub count_fits : Fits w32 n
  count_fits = let a = s.few in omega arith

  module _ {k m : ℕ} (q : k ≡ length (num_bytes n)) (w : WordsLong text spans n m) where
    pub head-is : HeadLong text spans n (1 + k + m + 3)
    head-is =
        let a = head-long text spans n in
        let b = w.is in
        let c = w.few in
        let d = s.few in
        let e = num-short n in
        record { is = omega arith; few = omega arith }

    pub before-fits : Fits w64 (1 + k + m)
    before-fits = let c = w.few in let d = s.few in let e = num-short n in omega arith

    pub head-fits : Fits w64 (1 + k + m + 3)
    head-fits = let c = w.few in let d = s.few in let e = num-short n in omega arith

pub kind_fits : {k : ℕ} (n : ℕ) → k ≡ length (num_bytes n) → Fits w64 (1 + k)
kind_fits n q = let e = num-short n in omega arith

pub ruleset head_laws = (count_fits, head-is, before-fits, head-fits, kind_fits)

pub image_spans : {text spans : List ℕ} {n : ℕ} → Sound text spans n 0 → Spans text spans n
image_spans s = s.stored

module _ {text spans : List ℕ} {n head : ℕ} (h : HeadLong text spans n head) where
  total : length (image_from text spans n) ≡ head + length (root_from text spans n 0)
  total = let a = length-append (head_from (found text spans n)) (root_from text spans n 0) in let b = h.is in omega arith

  pub image-over : {most : ℕ} → most < head → Measured (image_from text spans n) most head
  image-over {most} l =
      let t = total in
      record { exact = λ m. absurd (no m); long = λ m. omega arith }
    where
      no : head ≤ most → ⊥
      no m = omega arith

  module _ {most : ℕ} (l : head ≤ most) (b : most ≤ 65536) where
    pub rest-small : most - head ≤ 65536
    rest-small = omega arith

    module _ {root : ℕ} (r : Measured (root_from text spans n 0) (most - head) root) where
      pub image-is : Measured (image_from text spans n) most (head + root)
      image-is =
          let t = total in
          record {
            exact = λ m. (let e = r.exact (omega arith) in omega arith);
            long = λ m. (let e = r.long (omega arith) in omega arith);
          }

pub image-fits : {text spans : List ℕ} {n head root : ℕ} → HeadLong text spans n head → root ≤ 65545 → Fits w64 (head + root)
image-fits h l = let f = h.few in omega arith

pub ruleset image_laws = (image_spans, image-over, rest-small, image-is, image-fits)
