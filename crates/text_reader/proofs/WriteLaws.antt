-- The image written, by the steps that the code takes.
use Prim.Native.Nat.{ℕ, ◌+◌, ◌-◌, ◌*◌, ◌≤◌, ◌<◌}
use mathlib.Core.Path.{◌≡◌, refl, sym, ap, ap₂, ◌∙◌, subst}
use mathlib.Core.List.{List, [], ◌∷◌, ◌++◌}
use native.Mathlib.Omega.{arith}
use mir.Syntax.{w32}
use mir.Val.{Fits}
use lib.ListN.{length, get_or, length-append}
use lib.Seq.{sets, length-sets}
use Rattle.model.specs.Objects.{no_sets}
use Rattle.model.specs.Writing.{num_bytes, sets_bytes, words_bytes}
use Rattle.codec_laws.proofs.Lengths.{num-one}
use Rattle.numbers.proofs.Writing.{sets_append}
use Rattle.text.specs.Placing.{Placed}
use Rattle.text.proofs.Placing.{placed_then, placed-length, Placing, begun, ended}
use Rattle.tokens.specs.Nexts.{part}
use Rattle.text_reader.specs.Found.{words_from, found, Spans}
use Rattle.text_reader.specs.Items.{root_from, thing_bytes, Sound, ItemIs}
use Rattle.text_reader.specs.Writing.{head_from, word_bytes, image_from, RootRoom, WordRoom, WordsRoom, HeadRoom, ImageRoom}
use Rattle.text_reader.specs.declared.items.Item.{Item}
use Rattle.text_reader.specs.declared.items.Item.TheVariants.{Nothing, Thing, Long}
use Rattle.std.specs.Prelude.{Option, None, Some}
use Rattle.text_reader.proofs.FoundLaws.{found_many}
use Rattle.text_reader.proofs.MeasureLaws.{item_end, item_nothing, item_thing, item_long, items_onward, word_first, word_past, words_step, words-done, words-all, head-long}

-- ---- pieces of text placed one behind another

pub number-placed : {out out' : List ℕ} {at r : ℕ} (n : ℕ) → r ≡ at + length (num_bytes n) → out' ≡ sets out at (num_bytes n) → Placed out at (num_bytes n) out' r
number-placed n e o = record { ends = e; is = o }

placing_more : {out₀ out out' bytes rest : List ℕ} {at to to' : ℕ} (xs : List ℕ) → Placing out₀ at bytes out to (xs ++ rest) → Placed out to xs out' to' → Placing out₀ at bytes out' to' rest
placing_more {out₀} {out} {out'} {bytes} {rest} {at} {to} {to'} xs w p =
    let a = w.ends in
    let b = p.ends in
    let c = length-append xs rest in
    record {
      same = placed-length p ∙ w.same;
      ends = omega arith;
      is = ap₂ (λ (l : List ℕ) (k : ℕ). sets l k rest) p.is b ∙ sets_append xs rest out to ∙ w.is;
    }

placing_room : {out₀ out bytes : List ℕ} {at to : ℕ} (xs rest : List ℕ) → at + length bytes ≤ length out₀ → Placing out₀ at bytes out to (xs ++ rest) → to + length xs ≤ length out
placing_room xs rest h w =
    let a = w.ends in
    let b = w.same in
    let c = length-append xs rest in
    omega arith

-- ---- a thing

no-sets : sets_bytes no_sets ≡ 0 ∷ 0 ∷ 0 ∷ []
unfolding sets_bytes no_sets
no-sets = refl

module _ (out : List ℕ) (at tag content : ℕ) (h : at + length (thing_bytes tag content) ≤ length out) where
  parts : length (thing_bytes tag content) ≡ length (num_bytes tag) + 3 + length (num_bytes content)
  parts =
      let a = length-append (num_bytes tag ++ sets_bytes no_sets) (num_bytes content) in
      let b = length-append (num_bytes tag) (sets_bytes no_sets) in
      let c = ap length no-sets in
      omega arith

  pub tag-room : at + length (num_bytes tag) ≤ length out
  tag-room = let a = parts in omega arith

  module _ {o₁ : List ℕ} {p₁ : ℕ} (e : p₁ ≡ at + length (num_bytes tag)) (i : o₁ ≡ sets out at (num_bytes tag)) where
    same₁ : length o₁ ≡ length out
    same₁ = ap length i ∙ length-sets out at (num_bytes tag)

    pub sets-room : p₁ + 3 ≤ length o₁
    sets-room = let a = parts in let b = same₁ in omega arith

    module _ {o₂ : List ℕ} {p₂ : ℕ} (w : Placed o₁ p₁ (0 ∷ 0 ∷ 0 ∷ []) o₂ p₂) where
      pub content-room : p₂ + length (num_bytes content) ≤ length o₂
      content-room = let a = parts in let b = same₁ in let c = placed-length w in let d = w.ends in omega arith

      module _ {o₃ : List ℕ} {r : ℕ} (f : r ≡ p₂ + length (num_bytes content)) (k : o₃ ≡ sets o₂ p₂ (num_bytes content)) where
        pub thing-placed : Placed out at (thing_bytes tag content) o₃ r
        thing-placed =
            placed_then (placed_then (number-placed tag e i) (subst (λ (b : List ℕ). Placed o₁ p₁ b o₂ p₂) (sym no-sets) w)) (number-placed content f k)

        pub thing-length : length o₃ ≡ length out
        thing-length = ap length k ∙ length-sets o₂ p₂ (num_bytes content) ∙ placed-length w ∙ same₁

pub ruleset thing_laws = (tag-room, sets-room, content-room, thing-placed, thing-length)

-- ---- the root

-- what is to be written from `to` on is the root from `here` on
pub record Rooting (out₀ : List ℕ) (at : ℕ) (text spans : List ℕ) (n : ℕ) (out : List ℕ) (here to : ℕ) : Type 0 where
  pub sound : Sound text spans n here
  pub short : length (root_from text spans n here) ≤ 65536
  pub placing : Placing out₀ at (root_from text spans n 0) out to (root_from text spans n here)

pub rooting_start : {out : List ℕ} {at : ℕ} {text spans : List ℕ} {n : ℕ} → RootRoom out at text spans n → Rooting out at text spans n out 0 at
rooting_start r = record { sound = r.sound; short = r.short; placing = begun }

module _ {out₀ : List ℕ} {at : ℕ} {text spans : List ℕ} {n : ℕ} {out : List ℕ} {here to : ℕ} (j : Rooting out₀ at text spans n out here to) where
  pub rooting_sound : Sound text spans n here
  rooting_sound = j.sound

  pub rooting_length : length out ≡ length out₀
  rooting_length = j.placing.same

  module _ {r : Option (Item × ℕ)} (h : ItemIs text spans n here r) where
    pub rooting_end : r ≡ None → Placed out₀ at (root_from text spans n 0) out to
    rooting_end e = ended (subst (Placing out₀ at (root_from text spans n 0) out to) (item_end h e) j.placing)

    pub rooting_long : {x : Item} {to : ℕ} → r ≡ Some (x, to) → x ≡ Long → Placed out₀ at (root_from text spans n 0) out to
    rooting_long e i = let a = item_long h e i in let b = j.short in absurd (no a b)
      where
        no : 65536 < length (root_from text spans n here) → length (root_from text spans n here) ≤ 65536 → ⊥
        no a b = omega arith

    pub rooting_passed : {past : ℕ} {x : Item} → r ≡ Some (x, past) → x ≡ Nothing → Rooting out₀ at text spans n out past to
    rooting_passed {past} e i =
        let s = item_nothing h e i in
        record {
          sound = s.sound;
          short = subst (λ (b : List ℕ). length b ≤ 65536) s.is j.short;
          placing = subst (Placing out₀ at (root_from text spans n 0) out to) s.is j.placing;
        }

    module _ {tag content past : ℕ} {x : Item} (e : r ≡ Some (x, past)) (i : x ≡ Thing tag content) where
      rest : Placing out₀ at (root_from text spans n 0) out to (thing_bytes tag content ++ root_from text spans n past)
      rest = subst (Placing out₀ at (root_from text spans n 0) out to) (item_thing h e i).1.is j.placing

      pub rooting_room : RootRoom out₀ at text spans n → to + length (thing_bytes tag content) ≤ length out
      rooting_room q = placing_room (thing_bytes tag content) (root_from text spans n past) q.room rest

      pub rooting_thing : {out' : List ℕ} {to' : ℕ} → Placed out to (thing_bytes tag content) out' to' → Rooting out₀ at text spans n out' past to'
      rooting_thing p =
          let s = (item_thing h e i).1 in
          let a = length-append (thing_bytes tag content) (root_from text spans n past) in
          let b = ap length s.is in
          let c = j.short in
          record { sound = s.sound; short = omega arith; placing = placing_more (thing_bytes tag content) rest p }

pub ruleset root_laws = (rooting_start, rooting_sound, rooting_length, rooting_end, rooting_long, rooting_passed, rooting_room, rooting_thing, placed-length, items_onward)

-- ---- a word

module _ {out : List ℕ} {at : ℕ} {text : List ℕ} {first past : ℕ} (h : WordRoom out at text first past) where
  pub word-forward : first ≤ past
  word-forward = h.span.forward

  pub word-within : past ≤ length text
  word-within = h.span.within

  pub length-fits : Fits w32 (past - first)
  length-fits = let a = h.short in omega arith

  long : length (word_bytes text first past) ≡ length (num_bytes (past - first)) + length (part text first past)
  long = length-append (num_bytes (past - first)) (part text first past)

  pub length-room : at + length (num_bytes (past - first)) ≤ length out
  length-room = let a = h.room in let b = long in omega arith

  module _ {o₁ : List ℕ} {p₁ : ℕ} (e : p₁ ≡ at + length (num_bytes (past - first))) (k : o₁ ≡ sets out at (num_bytes (past - first))) where
    word₁ : length o₁ ≡ length out
    word₁ = ap length k ∙ length-sets out at (num_bytes (past - first))

    pub bytes-room : p₁ + length (part text first past) ≤ length o₁
    bytes-room = let a = h.room in let b = long in let c = word₁ in omega arith

    module _ {o₂ : List ℕ} {p₂ : ℕ} (p : Placed o₁ p₁ (part text first past) o₂ p₂) where
      pub word-placed : Placed out at (word_bytes text first past) o₂ p₂
      word-placed = placed_then (number-placed (past - first) e k) p

      pub word-length : length o₂ ≡ length out
      word-length = placed-length p ∙ word₁

pub ruleset word_laws = (word-forward, word-within, length-fits, length-room, bytes-room, word-placed, word-length)

-- ---- the words

pub record Wording (out₀ : List ℕ) (at : ℕ) (text spans : List ℕ) (n : ℕ) (out : List ℕ) (i to : ℕ) : Type 0 where
  pub stored : Spans text spans n
  pub before : i ≤ n
  pub placing : Placing out₀ at (words_bytes (found text spans n)) out to (words_bytes (words_from text spans i (n - i)))

pub wording_start : {out : List ℕ} {at : ℕ} {text spans : List ℕ} {n : ℕ} → WordsRoom out at text spans n → Wording out at text spans n out 0 at
wording_start {out} {at} {text} {spans} {n} r =
    record { stored = r.stored; before = omega arith; placing = subst (Placing out at (words_bytes (found text spans n)) out at) (sym (words-all text spans n)) begun }

module _ {out₀ : List ℕ} {at : ℕ} {text spans : List ℕ} {n : ℕ} {out : List ℕ} {i to : ℕ} (j : Wording out₀ at text spans n out i to) where
  pub wording_length : length out ≡ length out₀
  wording_length = j.placing.same

  pub wording_end : n ≤ i → Placed out₀ at (words_bytes (found text spans n)) out to
  wording_end h = ended (subst (Placing out₀ at (words_bytes (found text spans n)) out to) (words-done text spans n i h) j.placing)

  module _ (h : i < n) where
    due : Placing out₀ at (words_bytes (found text spans n)) out to (word_bytes text (get_or spans (i * 2) 0) (get_or spans (i * 2 + 1) 0) ++ words_bytes (words_from text spans (i + 1) (n - (i + 1))))
    due = subst (Placing out₀ at (words_bytes (found text spans n)) out to) (words_step j.stored h) j.placing

    pub wording_first : i * 2 < length spans
    wording_first = word_first j.stored h

    pub wording_past : i * 2 + 1 < length spans
    wording_past = word_past j.stored h

    pub wording_room : WordsRoom out₀ at text spans n → WordRoom out to text (get_or spans (i * 2) 0) (get_or spans (i * 2 + 1) 0)
    wording_room r = record {
      span = j.stored.inside i h;
      short = j.stored.short i h;
      room = placing_room (word_bytes text (get_or spans (i * 2) 0) (get_or spans (i * 2 + 1) 0)) (words_bytes (words_from text spans (i + 1) (n - (i + 1)))) r.room due;
    }

    pub wording_more : {o : List ℕ} {p : ℕ} → Placed out to (word_bytes text (get_or spans (i * 2) 0) (get_or spans (i * 2 + 1) 0)) o p → Wording out₀ at text spans n o (i + 1) p
    wording_more p = record { stored = j.stored; before = omega arith; placing = placing_more (word_bytes text (get_or spans (i * 2) 0) (get_or spans (i * 2 + 1) 0)) due p }

pub ruleset words_laws = (wording_start, wording_length, wording_end, wording_first, wording_past, wording_room, wording_more, placed-length)

-- ---- the image as far as its root

module _ {out text spans : List ℕ} {n : ℕ} (h : HeadRoom out text spans n) where
  long-head : length (head_from (found text spans n)) ≡ 1 + (length (num_bytes n) + (length (words_bytes (found text spans n)) + 3))
  long-head = head-long text spans n

  pub count_fits : Fits w32 n
  count_fits = let a = h.stored.few in omega arith

  pub kind-room : 0 + length (num_bytes 1) ≤ length out
  kind-room = let a = long-head in let b = h.room in let d = num-one 1 (omega arith) in omega arith

  module _ {o₁ : List ℕ} {p₁ : ℕ} (e₁ : p₁ ≡ 0 + length (num_bytes 1)) (i₁ : o₁ ≡ sets out 0 (num_bytes 1)) where
    head₁ : length o₁ ≡ length out
    head₁ = ap length i₁ ∙ length-sets out 0 (num_bytes 1)

    at₁ : p₁ ≡ 1
    at₁ = let d = num-one 1 (omega arith) in omega arith

    pub count_room : p₁ + length (num_bytes n) ≤ length o₁
    count_room = let a = long-head in let b = h.room in let c = head₁ in let d = at₁ in omega arith

    module _ {o₂ : List ℕ} {p₂ : ℕ} (e₂ : p₂ ≡ p₁ + length (num_bytes n)) (i₂ : o₂ ≡ sets o₁ p₁ (num_bytes n)) where
      head₂ : length o₂ ≡ length out
      head₂ = ap length i₂ ∙ length-sets o₁ p₁ (num_bytes n) ∙ head₁

      pub head-words_room : WordsRoom o₂ p₂ text spans n
      head-words_room = record { stored = h.stored; room = let a = long-head in let b = h.room in let c = head₂ in let d = at₁ in omega arith }

      module _ {o₃ : List ℕ} {p₃ : ℕ} (w : Placed o₂ p₂ (words_bytes (found text spans n)) o₃ p₃) where
        pub counts-room : p₃ + 3 ≤ length o₃
        counts-room = let a = long-head in let b = h.room in let c = head₂ in let d = at₁ in let e = w.ends in let f = placed-length w in omega arith

        pub head-placed : {o₄ : List ℕ} {r : ℕ} → Placed o₃ p₃ (0 ∷ 0 ∷ 0 ∷ []) o₄ r → Placed out 0 (head_from (found text spans n)) o₄ r
        head-placed {o₄} {r} z =
            subst (λ (k : ℕ). Placed out 0 (num_bytes 1 ++ (num_bytes k ++ (words_bytes (found text spans n) ++ (0 ∷ 0 ∷ 0 ∷ [])))) o₄ r) (sym (found_many text spans n))
            (placed_then (number-placed 1 e₁ i₁) (placed_then (number-placed n e₂ i₂) (placed_then w z)))

        pub head-length : {o₄ : List ℕ} {r : ℕ} → Placed o₃ p₃ (0 ∷ 0 ∷ 0 ∷ []) o₄ r → length o₄ ≡ length out
        head-length z = placed-length z ∙ placed-length w ∙ head₂

pub ruleset head_laws = (count_fits, kind-room, count_room, head-words_room, counts-room, head-placed, head-length)

-- ---- the image

module _ {out text spans : List ℕ} {n : ℕ} (h : ImageRoom out text spans n) where
  both : length (image_from text spans n) ≡ length (head_from (found text spans n)) + length (root_from text spans n 0)
  both = length-append (head_from (found text spans n)) (root_from text spans n 0)

  pub image-head : HeadRoom out text spans n
  image-head = record { stored = h.sound.stored; room = let a = h.room in let b = both in omega arith }

  module _ {o₁ : List ℕ} {p₁ : ℕ} (w : Placed out 0 (head_from (found text spans n)) o₁ p₁) where
    pub image-root : RootRoom o₁ p₁ text spans n
    image-root =
        let a = h.room in
        let b = both in
        let c = h.short in
        let d = w.ends in
        let e = placed-length w in
        record { sound = h.sound; short = omega arith; room = omega arith }

    module _ {o₂ : List ℕ} {p₂ : ℕ} (z : Placed o₁ p₁ (root_from text spans n 0) o₂ p₂) where
      pub image-placed : Placed out 0 (image_from text spans n) o₂ p₂
      image-placed = placed_then w z

      pub image-length : length o₂ ≡ length out
      image-length = placed-length z ∙ placed-length w

pub ruleset image_laws = (image-head, image-root, image-placed, image-length)
