-- Numbers and sets passed over, by the tests that the code makes; and what they leave of bytes that were written.
use Prim.Native.Nat.{ℕ, zero, suc, ◌+◌, ◌-◌, ◌*◌, ◌≤◌, ◌<◌}
use mathlib.Core.Path.{◌≡◌, refl, sym, ap, ◌∙◌, subst}
use mathlib.Core.Bool.{Bool, true, false, not, ◌&&◌}
use mathlib.Core.List.{List, [], ◌∷◌, ◌++◌, append_assoc}
use native.Mathlib.Omega.{arith}
use lib.Dec.{ltb, leb, eqb}
use lib.ListN.{length, take, drop, get_or, length-drop, drop_of_length-le}
use borrow.Author.Tests.{lt-ltb, le-ltb, ltb-true, ltb-false, leb-true}
use Rattle.model.specs.Choice.{when◌then◌else◌}
use Rattle.model.specs.Refusals.{layout, over_limit}
use Rattle.model.specs.Objects.{Sets, count}
use Rattle.model.specs.Reading.{Read, got, fault, need, give, ◌>>◌, byte, groups, num, read_members, read_set}
use Rattle.model.specs.Writing.{num_bytes, set_bytes, sets_bytes}
use Rattle.laws.specs.Ordered.{SetsIn}
use Rattle.codec_laws.proofs.NumberTrip.{num_back, fault≢got, got-rest}
use Rattle.codec_laws.proofs.Sequence.{next-got, need-got}
use Rattle.codec_laws.proofs.SetTrip.{set_back}
use Rattle.refusals.specs.declared.Refusal.{Refusal}
use Rattle.numbers.specs.Limits.{most_image}
use Rattle.numbers.specs.Answers.{read_at}
use Rattle.numbers.specs.declared.Cursor.{Cursor}
use Rattle.std.specs.Prelude.{Result, Ok, Err}
use Rattle.numbers.proofs.Reading.{part-from}
use native.Mathlib.Numerals.{add-one}
use lib.Seq.{drop-cons}
use Rattle.text_printer.specs.declared.fronts.Front.{Front}
use Rattle.text_printer.specs.Fronts.{value_of, after_number, after_numbers, after_set, after_sets, Inside, After, FrontIs}

-- ---- a number's value

pub inside-short : {image : List ℕ} {at : ℕ} → Inside image at → at + length (take (length image - at) (drop at image)) ≤ most_image
inside-short {image} {at} w = let a = w.within in let b = w.short in let d = length-drop at image in rw part-from (omega arith)

pub inside-within : {image : List ℕ} {at : ℕ} → Inside image at → at ≤ length image
inside-within w = w.within

abbrev first : Result (ℕ × Cursor) Refusal → ℕ
first (Ok p) = p.0
first (Err f) = 0

value-got : (end : ℕ) (g : Read ℕ) {n : ℕ} {past : Cursor} → Ok (n, past) ≡ read_at end g → n ≡ value_of g
unfolding value_of
value-got end (got k s) e = ap first e
value-got end (fault r) e = absurd (let z : ◌≡◌ {A = ℕ} 0 1 = cc in omega arith)

value-fault : (end : ℕ) (g : Read ℕ) {f : Refusal} → Err f ≡ read_at end g → 0 ≡ value_of g
unfolding value_of
value-fault end (got k s) e = absurd (let z : ◌≡◌ {A = ℕ} 0 1 = cc in omega arith)
value-fault end (fault r) e = refl

module _ (image : List ℕ) (at : ℕ) {r : Result (ℕ × Cursor) Refusal} (h : r ≡ read_at (at + length (take (length image - at) (drop at image))) (num (take (length image - at) (drop at image)))) where
  whole : r ≡ read_at (at + length (drop at image)) (num (drop at image))
  whole = rw part-from at h

  pub value_read : {n : ℕ} {past : Cursor} → r ≡ Ok (n, past) → n ≡ value_of (num (drop at image))
  value_read e = value-got (at + length (drop at image)) (num (drop at image)) (sym e ∙ whole)

  pub value_none : {f : Refusal} → r ≡ Err f → 0 ≡ value_of (num (drop at image))
  value_none e = value-fault (at + length (drop at image)) (num (drop at image)) (sym e ∙ whole)

pub ruleset value_laws = (inside-short, inside-within, value_read, value_none)

-- ---- past a number

at-cons : (s : List ℕ) (i : ℕ) → i < length s → drop i s ≡ get_or s i 0 ∷ drop (i + 1) s
at-cons s i h = rw (add-one, drop-cons s i 0 h)

after_last : (b : ℕ) (s : List ℕ) → b < 128 → after_number (b ∷ s) ≡ s
unfolding after_number
after_last b s h = rw (lt-ltb b 128 h)

after_on : (b : ℕ) (s : List ℕ) → 128 ≤ b → after_number (b ∷ s) ≡ after_number s
unfolding after_number
after_on b s h = rw (le-ltb b 128 h)

after_none : after_number [] ≡ []
unfolding after_number
after_none = refl

-- the number goes on at i
pub record Passing (image : List ℕ) (at i : ℕ) : Type 0 where
  pub within : i ≤ length image
  pub so_far : after_number (drop i image) ≡ after_number (drop at image)

pub passing-start : {image : List ℕ} {at : ℕ} → at ≤ length image → Passing image at at
passing-start h = record { within = h; so_far = refl }

module _ {image : List ℕ} {at i : ℕ} (p : Passing image at i) where
  pub passing-end : length image ≤ i → After image i (after_number (drop at image))
  passing-end h =
      let d = drop_of_length-le image h in
      record { within = p.within; is = d ∙ sym after_none ∙ ap after_number (sym d) ∙ p.so_far }

  pub passing_whole : length image ≤ i → After image (length image) (after_number (drop at image))
  passing_whole h = let w = p.within in let z : i ≡ length image = omega arith in subst (λ (m : ℕ). After image m (after_number (drop at image))) z (passing-end h)

  module _ (h : i < length image) where
    pub passing-last : get_or image i 0 < 128 → After image (i + 1) (after_number (drop at image))
    passing-last l = record {
      within = omega arith;
      is = sym (after_last (get_or image i 0) (drop (i + 1) image) l) ∙ ap after_number (sym (at-cons image i h)) ∙ p.so_far;
    }

    pub passing_on : 128 ≤ get_or image i 0 → Passing image at (i + 1)
    passing_on l = record {
      within = omega arith;
      so_far = sym (after_on (get_or image i 0) (drop (i + 1) image) l) ∙ ap after_number (sym (at-cons image i h)) ∙ p.so_far;
    }

pub ruleset passing_laws = (passing-start, passing_whole, passing-last, passing_on)

-- ---- past so many numbers, and past a set

numbers-none : (s : List ℕ) → after_numbers 0 s ≡ s
unfolding after_numbers
numbers-none s = refl

numbers_more : (k : ℕ) (s : List ℕ) → 0 < k → after_numbers k s ≡ after_numbers (k - 1) (after_number s)
unfolding after_numbers
numbers_more zero s h = absurd (omega arith)
numbers_more (suc k) s h = let d : k ≡ suc k - 1 = omega arith in ap (λ (m : ℕ). after_numbers m (after_number s)) d

pub record Leaping (image : List ℕ) (at count here left : ℕ) : Type 0 where
  pub within : here ≤ length image
  pub so_far : after_numbers left (drop here image) ≡ after_numbers count (drop at image)

pub leaping_start : {image : List ℕ} {at count : ℕ} → at ≤ length image → Leaping image at count at (count - 0)
leaping_start {count = count} h = let z : count - 0 ≡ count = omega arith in record { within = h; so_far = ap (λ (k : ℕ). after_numbers k _) z }

pub leaping_within : {image : List ℕ} {at count here left : ℕ} → Leaping image at count here left → here ≤ length image
leaping_within p = p.within

module _ {image : List ℕ} {at count here k : ℕ} (p : Leaping image at count here (count - k)) where
  pub leaping_end : count ≤ k → After image here (after_numbers count (drop at image))
  leaping_end h =
      let z : count - k ≡ 0 = omega arith in
      record { within = p.within; is = sym (ap (λ (m : ℕ). after_numbers m (drop here image)) z ∙ numbers-none (drop here image)) ∙ p.so_far }

  pub leaping_on : {next : ℕ} → k < count → After image next (after_number (drop here image)) → Leaping image at count next (count - (k + 1))
  leaping_on {next} h a =
      let z : count - k - 1 ≡ count - (k + 1) = omega arith in
      subst (Leaping image at count next) z (record {
        within = a.within;
        so_far = ap (after_numbers (count - k - 1)) a.is ∙ sym (numbers_more (count - k) (drop here image) (omega arith)) ∙ p.so_far;
      })

pub ruleset leaping_laws = (leaping_start, leaping_within, leaping_end, leaping_on)

pub after-within : {image s : List ℕ} {past : ℕ} → After image past s → past ≤ length image
after-within a = a.within

pub after-inside : {image s : List ℕ} {at past : ℕ} → Inside image at → After image past s → Inside image past
after-inside i a = record { within = a.within; short = i.short }

pub set_past : (image : List ℕ) (at : ℕ) {first m r : ℕ} → m ≡ value_of (num (drop at image)) → After image first (after_number (drop at image)) → After image r (after_numbers m (drop first image))
    → After image r (after_set (drop at image))
unfolding after_set
set_past image at {first} {m} {r} e a b = record {
  within = b.within;
  is = b.is ∙ (λ i. after_numbers (e i) (a.is i));
}

pub ruleset set_laws = (inside-within, after-within, set_past)

-- ---- the front

module _ {image : List ℕ} {at tag content p₀ p₁ p₂ p₃ past : ℕ}
    (t : tag ≡ value_of (num (drop at image)))
    (a₀ : After image p₀ (after_number (drop at image))) (a₁ : After image p₁ (after_set (drop p₀ image))) (a₂ : After image p₂ (after_set (drop p₁ image))) (a₃ : After image p₃ (after_set (drop p₂ image)))
    (c : content ≡ value_of (num (drop p₃ image))) (a : After image past (after_number (drop p₃ image))) where
  pub front-is : FrontIs image at (record { tag = tag; content = content; past = past })
  front-is =
      let d : drop p₃ image ≡ after_sets (after_number (drop at image)) =
      a₃.is ∙ ap after_set a₂.is ∙ ap (λ (s : List ℕ). after_set (after_set s)) a₁.is ∙ ap after_sets a₀.is in
      record {
        tag_is = t;
        content-is = c ∙ ap (λ (s : List ℕ). value_of (num s)) d;
        past_is = record { within = a.within; is = a.is ∙ ap after_number d };
      }

pub ruleset front_laws = (inside-within, after-within, after-inside, front-is)

-- ---- bytes that were written

groups-after : (k w n v : ℕ) (s rest : List ℕ) → groups k w n s ≡ got v rest → after_number s ≡ rest
unfolding groups byte
groups-after zero w n v [] rest e = absurd (fault≢got layout v rest e)
groups-after (suc k) w n v [] rest e = absurd (fault≢got layout v rest e)
groups-after zero w n v (b ∷ s) rest e =
    let g = next-got (need over_limit (leb b 15) s) _ v rest e in
    let p = need-got over_limit (leb b 15) g.0 s g.1 g.2 in
    let f = next-got (need layout (not (eqb b 0)) g.1) _ v rest g.3 in
    let q = need-got layout (not (eqb b 0)) f.0 g.1 f.1 f.2 in
    let l = leb-true b 15 p.0 in
    after_last b s (omega arith) ∙ p.1 ∙ q.1 ∙ got-rest (n + b * w) v f.1 rest f.3
groups-after (suc k) w n v (b ∷ s) rest e = go (ltb b 128) refl e (λ x. groups-after k (w * 128) (n + (b - 128) * w) v s rest x)
  where
    go : (t : Bool) → ltb b 128 ≡ t → (when t then (need layout (not (eqb b 0)) >> give (n + b * w)) else groups k (w * 128) (n + (b - 128) * w)) s ≡ got v rest
        → (groups k (w * 128) (n + (b - 128) * w) s ≡ got v rest → after_number s ≡ rest) → after_number (b ∷ s) ≡ rest
    go true i x h =
        let f = next-got (need layout (not (eqb b 0)) s) _ v rest x in
        let q = need-got layout (not (eqb b 0)) f.0 s f.1 f.2 in
        after_last b s (ltb-true b 128 i) ∙ q.1 ∙ got-rest (n + b * w) v f.1 rest f.3
    go false i x h = after_on b s (ltb-false b 128 i) ∙ h x

num-after : (v : ℕ) (s rest : List ℕ) → num s ≡ got v rest → after_number s ≡ rest
unfolding num byte
num-after v [] rest e = absurd (fault≢got layout v rest e)
num-after v (b ∷ s) rest e = go (ltb b 128) refl e (λ x. groups-after 3 128 (b - 128) v s rest x)
  where
    go : (t : Bool) → ltb b 128 ≡ t → (when t then give b else groups 3 128 (b - 128)) s ≡ got v rest → (groups 3 128 (b - 128) s ≡ got v rest → after_number s ≡ rest)
        → after_number (b ∷ s) ≡ rest
    go true i x h = after_last b s (ltb-true b 128 i) ∙ got-rest b v s rest x
    go false i x h = after_on b s (ltb-false b 128 i) ∙ h x

members-after : (c n p : ℕ) (m v : ℕ) (s rest : List ℕ) → read_members c n p m s ≡ got v rest → after_numbers c s ≡ rest
unfolding read_members after_numbers
members-after zero n p m v s rest e = got-rest m v s rest e
members-after (suc c) n p m v s rest e =
    let g = next-got (num s) _ v rest e in
    let f = next-got (need layout (ltb p g.0 && leb g.0 n) g.1) _ v rest g.3 in
    let q = need-got layout (ltb p g.0 && leb g.0 n) f.0 g.1 f.1 f.2 in
    ap (after_numbers c) (num-after g.0 s g.1 g.2 ∙ q.1) ∙ members-after c n g.0 _ v f.1 rest f.3

value-is : (v : ℕ) (s rest : List ℕ) → num s ≡ got v rest → value_of (num s) ≡ v
unfolding value_of
value-is v s rest e = ap value_of e

set_after : (n v : ℕ) (s rest : List ℕ) → read_set n s ≡ got v rest → after_set s ≡ rest
unfolding read_set after_set
set_after n v s rest e =
    let g = next-got (num s) _ v rest e in
    (λ i. after_numbers (value-is g.0 s g.1 g.2 i) (num-after g.0 s g.1 g.2 i)) ∙ members-after g.0 n 0 _ v g.1 rest g.3

sets-after : (n : ℕ) (c : Sets) (rest : List ℕ) → n ≤ 256 → SetsIn n c → after_sets (sets_bytes c ++ rest) ≡ rest
unfolding sets_bytes
sets-after n c rest l i =
    let a = append_assoc (set_bytes c.at0 ++ set_bytes c.at1) (set_bytes c.at2) rest ∙ append_assoc (set_bytes c.at0) (set_bytes c.at1) (set_bytes c.at2 ++ rest) in
    ap after_sets a
    ∙ ap (λ (s : List ℕ). after_set (after_set s)) (set_after n c.at0 _ _ (set_back n c.at0 (set_bytes c.at1 ++ (set_bytes c.at2 ++ rest)) l i.0))
    ∙ ap after_set (set_after n c.at1 _ _ (set_back n c.at1 (set_bytes c.at2 ++ rest) l i.1))
    ∙ set_after n c.at2 _ _ (set_back n c.at2 rest l i.2)

-- an object's front: what is read of it, where its bytes lie
pub record Fronted (image : List ℕ) (r : Front) (tag content : ℕ) (rest : List ℕ) : Type 0 where
  pub tag_is : r.tag ≡ tag
  pub content-is : r.content ≡ content
  pub past_is : After image r.past rest

pub fronted : {image : List ℕ} {at : ℕ} {r : Front} (n tag content : ℕ) (c : Sets) (rest : List ℕ) → FrontIs image at r → n ≤ 256 → SetsIn n c → tag < 4294967296 → content < 4294967296
    → drop at image ≡ num_bytes tag ++ (sets_bytes c ++ (num_bytes content ++ rest)) → Fronted image r tag content rest
fronted {image} {at} {r} n tag content c rest f l i t k e =
    let a = num_back tag (sets_bytes c ++ (num_bytes content ++ rest)) t in
    let s : drop at image ≡ num_bytes tag ++ (sets_bytes c ++ (num_bytes content ++ rest)) = e in
    let b : after_sets (after_number (drop at image)) ≡ num_bytes content ++ rest =
    ap (λ (z : List ℕ). after_sets (after_number z)) e ∙ ap after_sets (num-after tag _ _ a) ∙ sets-after n c (num_bytes content ++ rest) l i in
    let d = num_back content rest k in
    record {
      tag_is = f.tag_is ∙ ap (λ (z : List ℕ). value_of (num z)) e ∙ value-is tag _ _ a;
      content-is = f.content-is ∙ ap (λ (z : List ℕ). value_of (num z)) b ∙ value-is content _ _ d;
      past_is = record { within = f.past_is.within; is = f.past_is.is ∙ ap after_number b ∙ num-after content _ _ d };
    }
