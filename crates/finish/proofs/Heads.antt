-- Laws of the written head.
use Prim.Native.Nat.{ℕ, suc, ◌+◌, ◌-◌, ◌≤◌, ◌<◌}
use mathlib.Core.Path.{◌≡◌, refl, sym, ap, ◌∙◌, subst}
use mathlib.Core.List.{List, ◌∷◌, ◌++◌, append_assoc}
use native.Mathlib.Omega.{arith}
use native.Mathlib.Numerals.{add-one}
use mir.Syntax.{w64}
use mir.Val.{Fits}
use lib.ListN.{length, take, drop, get_or, set, length-append, length-set}
use lib.Seq.{sets, length-sets, drop-cons, take_at, drop_at}
use Rattle.model.specs.Limits.{core_names}
use Rattle.model.specs.Writing.{num_bytes, words_bytes, head_bytes}
use Rattle.codec_laws.proofs.Lengths.{num-one}
use Rattle.numbers.proofs.Writing.{num-short}
use Rattle.model.specs.Reading as m
use Rattle.steps.specs.declared.State.{State}
use Rattle.head.specs.declared.Front.{Front}
use Rattle.head.specs.Fronts.{whole_head, Headed}
use Rattle.writer.specs.Putting.{Wrote}
use Rattle.writer.proofs.Putting.{run}
use Rattle.finish.specs.Headings.{head_after, section, WordsEnd, Longer, HeadLength, Fitting, PutsHead}

-- ---- copying: what is still to be copied makes of the output what is to be made of it

pub record Copied (image out₀ : List ℕ) (from to : ℕ) (out : List ℕ) (i : ℕ) : Type 0 where
  pub before : i ≤ to
  pub same : length out ≡ length out₀
  pub bytes : sets out i (take (to - i) (drop i image)) ≡ sets out₀ from (take (to - from) (drop from image))

pub copy_start : {image out : List ℕ} {from to : ℕ} → from ≤ to → Copied image out from to out from
copy_start h = record { before = h; same = refl; bytes = refl }

take_next : (image : List ℕ) (i to : ℕ) → i < to → to ≤ length image → take (to - i) (drop i image) ≡ get_or image i 0 ∷ take (to - (i + 1)) (drop (i + 1) image)
take_next image i to h k =
    let l : i < length image = omega arith in
    let d : to - i ≡ suc (to - (i + 1)) = omega arith in
    rw (d, drop-cons image i 0 l, add-one) refl

module _ {image out₀ : List ℕ} {from to : ℕ} {out : List ℕ} {i : ℕ} (c : Copied image out₀ from to out i) where
  pub copy_room : i < to → to ≤ length out₀ → i < length out
  copy_room h k = omega (arith, c.same)

  pub copy_more : i < to → to ≤ length image → Copied image out₀ from to (set out i (get_or image i 0)) (i + 1)
  copy_more h k =
      let b : sets (set out i (get_or image i 0)) (suc i) (take (to - (i + 1)) (drop (i + 1) image)) ≡ sets out₀ from (take (to - from) (drop from image)) =
      subst (λ (l : List ℕ). sets out i l ≡ sets out₀ from (take (to - from) (drop from image))) (take_next image i to h k) c.bytes in
      record { before = omega arith; same = length-set out i (get_or image i 0) ∙ c.same; bytes = subst (λ (k : ℕ). sets (set out i (get_or image i 0)) k (take (to - (i + 1)) (drop (i + 1) image)) ≡ sets out₀ from (take (to - from) (drop from image))) (sym (add-one i)) b }

  pub copy_done : to ≤ i → out ≡ sets out₀ from (take (to - from) (drop from image))
  copy_done h =
      let d : to - i ≡ 0 = omega arith in
      subst (λ (n : ℕ). sets out i (take n (drop i image)) ≡ sets out₀ from (take (to - from) (drop from image))) d c.bytes

pub ruleset copy_laws = (copy_start, copy_room, copy_more, copy_done)

-- ---- the parts of a head

-- kind, section, and the two counts
head-parts : (kind : ℕ) (x : m.Head) → head_bytes kind x ≡ num_bytes kind ++ (section x.words ++ (num_bytes (x.names - 4 - length x.words) ++ num_bytes x.scopes))
unfolding head_bytes core_names
head-parts kind x = regroup (num_bytes kind) (num_bytes (length x.words)) (words_bytes x.words) (num_bytes (x.names - 4 - length x.words)) (num_bytes x.scopes)
  where
    regroup : (a b c d e : List ℕ) → (((a ++ b) ++ c) ++ d) ++ e ≡ a ++ ((b ++ c) ++ (d ++ e))
    regroup a b c d e = simp append_assoc

head-long : (kind : ℕ) → kind < 128 → (x : m.Head) {n : ℕ} → n ≡ length x.words
    → length (head_bytes kind x) ≡ 1 + length (section x.words) + length (num_bytes (x.names - 4 - n)) + length (num_bytes x.scopes)
head-long kind h x {n} e =
    let a = ap length (head-parts kind x) in
    let b = length-append (num_bytes kind) (section x.words ++ (num_bytes (x.names - 4 - length x.words) ++ num_bytes x.scopes)) in
    let c = length-append (section x.words) (num_bytes (x.names - 4 - length x.words) ++ num_bytes x.scopes) in
    let d = length-append (num_bytes (x.names - 4 - length x.words)) (num_bytes x.scopes) in
    let i = ap (λ (k : ℕ). length (num_bytes (x.names - 4 - k))) e in
    omega (arith, num-one kind h)

module _ {s : List ℕ} {f : Front} (g : Headed s f) where
  end_is : f.end ≡ 1 + length (section g.words) + length (num_bytes (f.head.names - 4 - f.head.words)) + length (num_bytes f.head.scopes)
  end_is = g.ends ∙ head-long g.kind g.one_byte (whole_head g.words f.head) g.count

  inside : f.end ≤ length s
  inside =
      let a = ap length g.is in
      let b = length-append (head_bytes g.kind (whole_head g.words f.head)) g.rest in
      omega (arith, g.ends)

  -- ---- where the words end

  pub names-enough : 4 ≤ f.head.names
  names-enough = omega (arith, g.names-from)

  pub words-enough : f.head.words ≤ f.head.names - 4
  words-enough = omega (arith, g.names-from)

  pub made-before : {a : ℕ} → a ≡ length (num_bytes (f.head.names - 4 - f.head.words)) → a ≤ f.end
  made-before e = omega (arith, end_is)

  pub scopes-before : {a b : ℕ} → a ≡ length (num_bytes (f.head.names - 4 - f.head.words)) → b ≡ length (num_bytes f.head.scopes) → b ≤ f.end - a
  scopes-before e h = omega (arith, end_is)

pub words_end_is : (s : List ℕ) (f : Front) {a b : ℕ} → a ≡ length (num_bytes (f.head.names - 4 - f.head.words)) → b ≡ length (num_bytes f.head.scopes) → WordsEnd s f (f.end - a - b)
words_end_is s f e h = record { means = λ g. omega (arith, end_is g) }

pub ruleset end_laws = (names-enough, words-enough, made-before, scopes-before, words_end_is)

-- ---- with other counts

module _ {s : List ℕ} {f : Front} {t : State} (l : Longer s f t) where
  pub longer-headed : Headed s f
  longer-headed = l.headed

  pub longer-enough : 4 ≤ t.names
  longer-enough = let g = l.headed in omega (arith, g.names-from, l.more)

  pub longer-words : f.head.words ≤ t.names - 4
  longer-words = let g = l.headed in omega (arith, g.names-from, l.more)

  module _ {r : ℕ} (w : WordsEnd s f r) where
    end-small : r ≤ 65536
    end-small = let g = l.headed in omega (arith, w.means g, end_is g, inside g, g.small)

    pub first_fits : {a : ℕ} (n : ℕ) → a ≡ length (num_bytes n) → Fits w64 (r + a)
    first_fits n e = omega (arith, end-small, num-short n)

    pub second_fits : {a b : ℕ} (n m : ℕ) → a ≡ length (num_bytes n) → b ≡ length (num_bytes m) → Fits w64 (r + a + b)
    second_fits n m e h = omega (arith, end-small, num-short n, num-short m)

-- with the words of an image that was read
after-long : {s : List ℕ} {f : Front} (g : Headed s f) (t : State) (kind : ℕ) → kind < 128
    → length (head_bytes kind (head_after g.words t)) ≡ 1 + length (section g.words) + length (num_bytes (t.names - 4 - f.head.words)) + length (num_bytes t.scopes)
after-long g t kind k = head-long kind k (head_after g.words t) g.count

pub head-length_is : (s : List ℕ) (f : Front) (t : State) {r a b : ℕ} → WordsEnd s f r → a ≡ length (num_bytes (t.names - 4 - f.head.words)) → b ≡ length (num_bytes t.scopes) → HeadLength s f t (r + a + b)
head-length_is s f t w e h = record { means = λ g kind k. omega (arith, w.means g, after-long g t kind k) }

-- it is not much longer than an image
pub head_few : {s : List ℕ} {f : Front} (g : Headed s f) (t : State) (kind : ℕ) → kind < 128 → length (head_bytes kind (head_after g.words t)) ≤ 65546
head_few {f = f} g t kind k =
    let a = after-long g t kind k in
    let b = end_is g in
    let c = inside g in
    let d = g.small in
    omega (arith, num-short (t.names - 4 - f.head.words), num-short t.scopes)

pub ruleset length_laws = (longer-headed, longer-enough, longer-words, first_fits, second_fits, head-length_is)

-- ---- writing

-- the image's own bytes are the section
own_words : {s : List ℕ} {f : Front} (g : Headed s f) (start to : ℕ) → start ≡ 1 → to ≡ 1 + length (section g.words) → take (to - start) (drop start s) ≡ section g.words
own_words {s} {f} g start to e h =
    let sec = section g.words in
    let counts = num_bytes (f.head.names - 4 - length g.words) ++ num_bytes f.head.scopes in
    let is : s ≡ num_bytes g.kind ++ (sec ++ (counts ++ g.rest)) =
    g.is ∙ ap (λ (l : List ℕ). l ++ g.rest) (head-parts g.kind (whole_head g.words f.head))
    ∙ append_assoc (num_bytes g.kind) (sec ++ counts) g.rest ∙ ap (λ (l : List ℕ). num_bytes g.kind ++ l) (append_assoc sec counts g.rest) in
    let d : to - start ≡ length sec = omega arith in
    let a : drop start s ≡ sec ++ (counts ++ g.rest) = ap (drop start) is ∙ drop_at (num_bytes g.kind) (sec ++ (counts ++ g.rest)) start (num-one g.kind g.one_byte ∙ sym e) in
    ap (λ (l : List ℕ). take (to - start) l) a ∙ take_at sec (counts ++ g.rest) (to - start) (sym d)

module _ {s : List ℕ} {f : Front} {kind : ℕ} {t : State} {out : List ℕ} (y : Fitting s f kind t out) where
  pub fitting-longer : Longer s f t
  fitting-longer = y.longer

  pub fitting-headed : Headed s f
  fitting-headed = y.longer.headed

  abbrev G : Headed s f
  G = y.longer.headed

  long : length (head_bytes kind (head_after G.words t)) ≡ 1 + length (section G.words) + length (num_bytes (t.names - 4 - f.head.words)) + length (num_bytes t.scopes)
  long = after-long G t kind y.one_byte

  pub kind_fits : 0 + length (num_bytes kind) ≤ length out
  kind_fits = omega (arith, y.fits, long, num-one kind y.one_byte)

  module _ {start : ℕ} (e : start ≡ 0 + length (num_bytes kind)) {out₁ : List ℕ} (o : out₁ ≡ sets out 0 (num_bytes kind)) {behind : ℕ} (w : WordsEnd s f behind) where
    start-one : start ≡ 1
    start-one = omega (arith, num-one kind y.one_byte)

    same-one : length out₁ ≡ length out
    same-one = ap length o ∙ length-sets out 0 (num_bytes kind)

    pub copy_from : start ≤ behind
    copy_from = omega (arith, start-one, w.means G)

    pub copy_image : behind ≤ length s
    copy_image = omega (arith, w.means G, end_is G, inside G)

    pub copy_out : behind ≤ length out₁
    copy_out = omega (arith, w.means G, same-one, y.fits, long)

    module _ {out₂ : List ℕ} (p : out₂ ≡ sets out₁ start (take (behind - start) (drop start s))) where
      same-two : length out₂ ≡ length out
      same-two = ap length p ∙ length-sets out₁ start (take (behind - start) (drop start s)) ∙ same-one

      pub made-fits : behind + length (num_bytes (t.names - 4 - f.head.words)) ≤ length out₂
      made-fits = omega (arith, w.means G, same-two, y.fits, long)

      module _ {mid : ℕ} (q : mid ≡ behind + length (num_bytes (t.names - 4 - f.head.words))) {out₃ : List ℕ} (u : out₃ ≡ sets out₂ behind (num_bytes (t.names - 4 - f.head.words))) where
        pub scopes-fit : mid + length (num_bytes t.scopes) ≤ length out₃
        scopes-fit =
            let same : length out₃ ≡ length out₂ = ap length u ∙ length-sets out₂ behind (num_bytes (t.names - 4 - f.head.words)) in
            omega (arith, w.means G, same-two, y.fits, long)

        pub head_put : {r : ℕ} {out₄ : List ℕ} → r ≡ mid + length (num_bytes t.scopes) → out₄ ≡ sets out₃ mid (num_bytes t.scopes) → PutsHead s f kind t out out₄ r
        head_put {r} {out₄} a b = record {
          means = λ g.
              let made = num_bytes (t.names - 4 - f.head.words) in
              let one : Wrote (num_bytes kind) out out₁ 0 start = record { past_is = e; out-is = o } in
              let own = own_words g start behind start-one (w.means g) in
              let two : Wrote (section g.words) out₁ out₂ start behind = record {
                past_is = omega (arith, start-one, w.means g);
                out-is = p ∙ ap (sets out₁ start) own;
              } in
              let three : Wrote made out₂ out₃ behind mid = record { past_is = q; out-is = u } in
              let four : Wrote (num_bytes t.scopes) out₃ out₄ mid r = record { past_is = a; out-is = b } in
              let all : Wrote (num_bytes kind ++ (section g.words ++ (made ++ num_bytes t.scopes))) out out₄ 0 r = run one (run two (run three four)) in
              let is : num_bytes kind ++ (section g.words ++ (made ++ num_bytes t.scopes)) ≡ head_bytes kind (head_after g.words t) =
              ap (λ (n : ℕ). num_bytes kind ++ (section g.words ++ (num_bytes (t.names - 4 - n) ++ num_bytes t.scopes))) g.count ∙ sym (head-parts kind (head_after g.words t)) in
              subst (λ (l : List ℕ). Wrote l out out₄ 0 r) is all;
        }

pub ruleset put_laws = (kind_fits, fitting-headed, fitting-longer, longer-enough, longer-words, copy_from, copy_image, copy_out, made-fits, scopes-fit, head_put)
