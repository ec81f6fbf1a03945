-- Stops: one law for each way out.
use mathlib.Core.Path.{◌≡◌, refl, sym, ap, ◌∙◌}
use mathlib.Core.Bool.{Bool, true, false, not, ◌||◌, or-true, or-false}
use mathlib.Core.Logic.{◌⊎◌, inl, inr}
use mathlib.Core.List.{List, [], ◌∷◌, ◌++◌}
use Prim.Native.Nat.{ℕ, ◌+◌, ◌-◌, ◌*◌, ◌/◌, ◌%◌, ◌^◌, ◌≤◌, ◌<◌}
use native.Mathlib.Nat.{zero-div, mod-lt}
use native.Mathlib.Omega.{arith}
use borrow.Author.Tests.{le-ltb, eq-eqb, eqb-true, eqb-false}
use lib.Bits.{bit_or}
use lib.Dec.{eqb, ltb, lit<}
use lib.ListN.{length, get_or, set, take, drop, replicate}
use borrow.Rule.Slice.PartMut.{put_mid, post_of}
use Rattle.std.proofs.lemmas.List.{length-take-le, length-drop, length-replicate, get_or_append_left, get_or-take, get_or-append-add, get_or-replicate}
use lib.Seq.{get_or-set_same, get_or-set_other}
use Rattle.model.specs.Limits.{most_names}
use Rattle.model.specs.Meanings.{is_among}
use Rattle.table.specs.Sizes.{table_size}
use Rattle.table.specs.Words.{Same}
use Rattle.things.specs.Making.{Roomy}
use Rattle.stops.specs.Stops.{stop_digits, stops_size, stop_names, bit_of, Bits, RepZ, no-stops, some-stops, KnownZ, IsStopped, Inside, NoneYet, Stopped}
use Rattle.stops.proofs.Bits.{set_there, set_elsewhere, one-is}
use Rattle.laws.proofs.Tests.{among-more}

-- ---- every name has a bit

pub names-are : stop_names ≡ most_names
unfolding most_names
names-are = refl

-- ---- is a name stopped

none-among : {l : List ℕ} {top z : ℕ} {zs : List ℕ} (n : ℕ) → RepZ l top z zs → z ≡ 0 → false ≡ is_among n zs
unfolding is_among
none-among n no-stops e = refl
none-among n (some-stops a b r) e = absurd (omega arith)

not-among : (n : ℕ) (zs : List ℕ) (t : Bool) → is_among n zs ≡ t → (is_among n zs ≡ true → n < stop_names) → stop_names ≤ n → false ≡ t
not-among n zs true e b h = absurd (let g : n < stop_names = b e in omega arith)
not-among n zs false e b h = refl

over-among : {l : List ℕ} {top z : ℕ} {zs : List ℕ} (n : ℕ) → RepZ l top z zs → stop_names ≤ n → false ≡ is_among n zs
unfolding is_among
over-among n no-stops h = refl
over-among {zs = zs} n (some-stops a b r) h = not-among n zs (is_among n zs) refl (r.small n) h

bit-among : {l : List ℕ} {top z : ℕ} {zs : List ℕ} (n : ℕ) → RepZ l top z zs → ¬ (z ≡ 0) → n < stop_names → bit_of l z n ≡ is_among n zs
bit-among n no-stops h g = absurd (h refl)
bit-among n (some-stops a b r) h g = r.told n g

words_inside : {l : List ℕ} {top z : ℕ} {zs : List ℕ} → RepZ l top z zs → ¬ (z ≡ 0) → z + stops_size ≤ top
words_inside no-stops h = absurd (h refl)
words_inside (some-stops a b r) h = b

module _ {l : List ℕ} {z n : ℕ} where
  pub stopped_none : z ≡ 0 → IsStopped l z n false
  stopped_none e = record { means = λ top zs r. none-among n r e }

  pub stopped-over : stop_names ≤ n → IsStopped l z n false
  stopped-over h = record { means = λ top zs r. over-among n r h }

  pub bit-ready : KnownZ l z → ¬ (z ≡ 0) → n < stop_names → Inside l z n
  bit-ready k h g = record { fits = omega (arith, words_inside k.shown h, k.inside); small = k.small; named = g }

  pub stopped-bit : {t : Bool} → ¬ (z ≡ 0) → n < stop_names → t ≡ bit_of l z n → IsStopped l z n t
  stopped-bit h g e = record { means = λ top zs r. e ∙ bit-among n r h g }

-- the test that the code makes before it looks at a bit is false
module _ {l : List ℕ} {z n : ℕ} {t : Bool} where
  pub stopped-past : ¬ (z ≡ 0) → t ≡ ltb n stop_names → (¬ (z ≡ 0) × (stop_names ≤ n)) ⊎ (z ≡ 0) → IsStopped l z n t
  stopped-past d e (inl (_, h)) = let f : t ≡ false = e ∙ le-ltb n stop_names h in rw f (stopped-over h)
  stopped-past d e (inr q) = absurd (d q)

  pub stopped-nowhere : z ≡ 0 → t ≡ not (eqb z 0) → IsStopped l z n t
  stopped-nowhere q e = let f : t ≡ false = e ∙ ap not (eq-eqb z 0 q) in rw f (stopped_none q)

-- ---- bits that are all 0

-- the k words from top on are 0
module _ {l : List ℕ} {top : ℕ} (k : ℕ) (ys : List ℕ) (r : Roomy l top stops_size) (e : k ≡ stops_size) (z : ys ≡ replicate (length (take k (drop top l))) 0) where
  long-front : length (take top l) ≡ top
  long-front = length-take-le top l (omega (arith, r.fits))

  long : length (take k (drop top l)) ≡ stops_size
  long = length-take-le k (drop top l) (omega (arith, r.fits, length-drop top l)) ∙ e

  zeros : ys ≡ replicate stops_size 0
  zeros = z ∙ ap (λ (n : ℕ). replicate n 0) long

  abbrev filled : List ℕ
  filled = put_mid top k l ys

  front : (j : ℕ) → j < top → get_or filled j 0 ≡ get_or l j 0
  front j h = get_or_append_left (take top l) (ys ++ post_of top k l) 0 j (omega (arith, long-front)) ∙ get_or-take top l j 0 h

  inside : (j : ℕ) → top ≤ j → j < top + stops_size → get_or filled j 0 ≡ 0
  inside j a b =
      let at : j ≡ length (take top l) + (j - top) = omega (arith, long-front) in
      ap (λ (n : ℕ). get_or filled n 0) at
      ∙ get_or-append-add (take top l) (ys ++ post_of top k l) (j - top) 0
      ∙ ap (λ (x : List ℕ). get_or (x ++ post_of top k l) (j - top) 0) zeros
      ∙ get_or_append_left (replicate stops_size 0) (post_of top k l) 0 (j - top) (omega (arith, length-replicate {A = ℕ} stops_size 0))
      ∙ get_or-replicate stops_size (j - top) 0 0 (omega arith)

  pub none_made : NoneYet l (put_mid top k l ys) top top (top + stops_size)
  unfolding bit_of is_among Same
  none_made = record {
    kept = front;
    place = refl;
    grows = refl;
    bits = record {
      small = λ n e. absurd (let z : ◌≡◌ {A = Bool} false true = e in let y : ◌≡◌ {A = ℕ} 0 1 = cc in omega arith);
      told = λ n g.
          ap (λ (w : ℕ). eqb (w / 2 ^ (n % stop_digits) % 2) 1) (inside (top + n / stop_digits) (omega arith) (omega arith))
          ∙ ap (λ (w : ℕ). eqb (w % 2) 1) (zero-div (2 ^ (n % stop_digits)));
    };
  }

-- ---- one name more

module _ {l : List ℕ} {z n : ℕ} (r : Inside l z n) where
  pub stop_inside : z + n / stop_digits < length l
  stop_inside = omega (arith, r.fits, r.named)

  pub stop_add : z + n / stop_digits < 2 ^ 32
  stop_add = omega (arith, r.fits, r.small, r.named)

  abbrev place : ℕ
  place = z + n / stop_digits

  abbrev after : List ℕ
  after = set l place (bit_or (get_or l place 0) (1 * 2 ^ (n % stop_digits) % 2 ^ 32))

  word-is : get_or after place 0 ≡ bit_or (get_or l place 0) (2 ^ (n % stop_digits))
  word-is = get_or-set_same l place _ 0 stop_inside ∙ ap (bit_or (get_or l place 0)) (one-is (n % stop_digits) (mod-lt n (lit< tt)))

  bit-set : bit_of after z n ≡ true
  unfolding bit_of
  bit-set = eq-eqb _ _ (ap (λ (w : ℕ). w / 2 ^ (n % stop_digits) % 2) word-is ∙ set_there (get_or l place 0) (n % stop_digits))

  bit_kept : (k : ℕ) → (k ≡ n → ⊥) → bit_of after z k ≡ bit_of l z k
  unfolding bit_of
  bit_kept k d = go (eqb (k / stop_digits) (n / stop_digits)) refl
    where
      go : (t : Bool) → eqb (k / stop_digits) (n / stop_digits) ≡ t → bit_of after z k ≡ bit_of l z k
      go true e =
          let s : k / stop_digits ≡ n / stop_digits = eqb-true _ _ e in
          let w : get_or after (z + k / stop_digits) 0 ≡ bit_or (get_or l (z + k / stop_digits) 0) (2 ^ (n % stop_digits)) =
          rw s word-is in
          ap (λ (x : ℕ). eqb (x / 2 ^ (k % stop_digits) % 2) 1) w
          ∙ ap (λ (x : ℕ). eqb x 1) (set_elsewhere (get_or l (z + k / stop_digits) 0) (n % stop_digits) (k % stop_digits) (λ q. d (omega arith)))
      go false e =
          let s : k / stop_digits ≡ n / stop_digits → ⊥ = eqb-false _ _ e in
          ap (λ (x : ℕ). eqb (x / 2 ^ (k % stop_digits) % 2) 1) (get_or-set_other l place (z + k / stop_digits) _ 0 (λ q. s (omega arith)))

  told_more : (zs : List ℕ) → Bits l z zs → Bits after z (zs ++ n ∷ [])
  told_more zs b = record {
    small = λ k e. small k (is_among k zs) refl (eqb k n) refl (sym (among-more k n zs) ∙ e);
    told = λ k h. told k h (eqb k n) refl ∙ sym (among-more k n zs);
  }
    where
      small : (k : ℕ) (t : Bool) → is_among k zs ≡ t → (u : Bool) → eqb k n ≡ u → (is_among k zs || eqb k n) ≡ true → k < stop_names
      small k true e u f h = b.small k e
      small k false e true f h = let q : k ≡ n = eqb-true k n f in omega (arith, r.named)
      small k false e false f h =
          let p : (is_among k zs || eqb k n) ≡ false = rw (e, f) refl in
          let y : ◌≡◌ {A = ℕ} 0 1 = cc in absurd (omega arith)

      told : (k : ℕ) → k < stop_names → (u : Bool) → eqb k n ≡ u → bit_of after z k ≡ (is_among k zs || eqb k n)
      told k h true f = ap (bit_of after z) (eqb-true k n f) ∙ bit-set ∙ sym (ap (λ (t : Bool). is_among k zs || t) f ∙ or-true (is_among k zs))
      told k h false f = bit_kept k (eqb-false k n f) ∙ b.told k h ∙ sym (ap (λ (t : Bool). is_among k zs || t) f ∙ or-false (is_among k zs))

  pub stop_set : Stopped l (set l (z + n / stop_digits) (bit_or (get_or l (z + n / stop_digits) 0) (1 * 2 ^ (n % stop_digits) % 2 ^ 32))) z n
  unfolding Same
  stop_set = record {
    kept = λ k h. get_or-set_other l place k _ 0 (λ e. omega arith);
    after = λ k h. get_or-set_other l place k _ 0 (λ e. omega (arith, r.named));
    told = told_more;
  }

pub ruleset laws = (stopped_none, stopped-over, bit-ready, stopped-bit, stop_inside, stop_add, stop_set)

-- ---- what a caller knows

pub known-stops : {l zs : List ℕ} {top z : ℕ} → RepZ l top z zs → top ≤ length l → length l ≤ table_size → KnownZ l z
known-stops {zs = zs} {top = top} r h g = record { top = top; things = zs; shown = r; inside = h; small = g }

pub bits-shown : {l zs : List ℕ} {top z : ℕ} → Bits l z zs → 1 ≤ z → z + stops_size ≤ top → RepZ l top z zs
bits-shown {z = z} b h g = let pos : 0 < z = omega arith in some-stops pos g b

pub none-shown : {l l' : List ℕ} {top at top' : ℕ} → NoneYet l l' top at top' → 1 ≤ top → RepZ l' top' at []
none-shown {top = top} {at = at} {top' = top'} m h =
    let pos : 1 ≤ at = omega (arith, m.place) in
    let fits : at + stops_size ≤ top' = omega (arith, m.place, m.grows) in
    bits-shown m.bits pos fits
