-- The job of printing: one law for each way out.
use Prim.Native.Nat.{ℕ, zero, suc, ◌+◌, ◌-◌, ◌≤◌, ◌<◌}
use mathlib.Core.Path.{◌≡◌, refl, sym, ap, ap₂, ◌∙◌, subst}
use mathlib.Core.List.{List, [], ◌∷◌, ◌++◌, append_assoc, append-nil}
use native.Mathlib.Omega.{arith}
use mir.Syntax.{w64}
use mir.Val.{Fits}
use lib.ListN.{length, take, drop, get_or, length-append, length-drop}
use lib.Seq.{drop-drop, take_at, drop_at}
use borrow.Author.Tests.{lt-ltb}
use Rattle.model.specs.Limits.{most_scopes, most_nesting, core_names, most_word_length}
use Rattle.model.specs.Objects.{Stx, nesting}
use Rattle.model.specs.Reading.{got, fault, Head, symbols, core_words, Image}
use Rattle.model.specs.Writing.{groups_of, num_bytes, words_bytes, head_bytes, stx_bytes}
use Rattle.codec_laws.specs.WellFormed.{WordsFit, StxFits}
use Rattle.codec_laws.proofs.Sequence.{bytes_drop}
use Rattle.codec_laws.proofs.Lengths.{num-one}
use Rattle.codec_laws.proofs.ObjectTrip.{stx_w}
use Rattle.numbers.proofs.Writing.{num-short}
use Rattle.requests.specs.FromText.{base, refused}
use Rattle.requests.specs.ToText.{print_text}
use Rattle.requests.specs.TextJobs.{TextEnding, fitted, text_in, print_ending}
use Rattle.refusals.specs.declared.Refusal.{Refusal}
use Rattle.refusals.specs.declared.Refusal.TheVariants.{TooLong}
use Rattle.refusals.specs.Refusing.{refusal_of}
use Rattle.head.specs.declared.Front.{Front}
use Rattle.head.specs.Fronts.{whole_head, Headed}
use Rattle.image.specs.declared.Judgement.{Judgement}
use Rattle.std.specs.Prelude.{Result, Ok, Err}
use Rattle.image.specs.Judging.{syntax_kind, judged_as, Good, Judges}
use Rattle.text.specs.Placing.{Placed}
use Rattle.text.proofs.Placing.{placed-length}
use Rattle.text_endings.specs.declared.TextRefusal.TheVariants.{Base}
use Rattle.text_endings.specs.declared.TextRefusal.{TextRefusal}
use Rattle.text_endings.specs.Ending.{Room, Measured, Ends}
use Rattle.text_endings.proofs.EndLaws.{len-fits, ends-refused, there_is_room, ends_too_long, ends-written}
use Rattle.text_printer.specs.Spelling.{word_at, words_at, WordAt, place_of, WordsHere, FindsWords}
use Rattle.text_printer.specs.Printing.{print_of, Ready, TextReady, TextRoom}
use Rattle.text_printer.specs.Job.{GoodRoom, Writes, Prints}
use Rattle.text_printer.proofs.SpellLaws.{place-first}
use Rattle.text_printer.proofs.AheadLaws.{read_print}

-- ---- code 20, or the text

module _ {image starts : List ℕ} {n root : ℕ} (y : Ready image starts n root) {left : List ℕ} (h : length left ≡ 65) where
  pub text-ready : {out room : ℕ} → Room out room → TextReady image starts n left root room
  text-ready r = record { ready = y; room = h; most-small = r.in_image }

  pub text-room : {out : List ℕ} {room len : ℕ} → Room (length out) room → Measured (print_of image) room len → len ≤ room → TextRoom out image starts n left root
  text-room r m l = record { ready = y; counts-room = h; room = (there_is_room r m l).0 }

module _ {image out : List ℕ} {room len : ℕ} (r : Room (length out) room) (m : Measured (print_of image) room len) where
  pub text_too_long : room < len → Writes image out out (Err (Base TooLong))
  text_too_long h = record { ends = ends_too_long r m h }

  pub text-written : {out' : List ℕ} {p : ℕ} → len ≤ room → Placed out 0 (print_of image) out' p → Writes image out out' (Ok len)
  text-written h w = record { ends = ends-written r m h w.is }

pub ruleset write_laws = (len-fits, text-ready, text-room, text_too_long, text-written, placed-length)

-- ---- where the words lie

one_byte : (n : ℕ) → n < 128 → num_bytes n ≡ n ∷ []
unfolding num_bytes groups_of
one_byte n h = rw (lt-ltb n 128 h)

words_more : (w : List ℕ) (l : List (List ℕ)) → words_bytes (w ∷ l) ≡ num_bytes (length w) ++ w ++ words_bytes l
unfolding words_bytes
words_more w l = refl

-- every word has at most 32 bytes
abbrev Short : List (List ℕ) → Type 0
Short [] = Unit {0}
Short (w ∷ l) = (length w ≤ 32) × Short l

words-short : (seen ws : List (List ℕ)) → WordsFit seen ws → Short ws
unfolding most_word_length
words-short seen [] f = tt
words-short seen (w ∷ ws) f = (f.1, words-short (w ∷ seen) ws f.3)

-- the word at p, and what comes behind it
record Lies (image : List ℕ) (p : ℕ) (w rest : List ℕ) : Type 0 where
  there : WordAt image p
  is : word_at image p ≡ w
  behind : drop (p + 1 + get_or image p 0) image ≡ rest

first_byte : (image : List ℕ) (p b : ℕ) (s : List ℕ) → drop p image ≡ b ∷ s → (p < length image) × (get_or image p 0 ≡ b) × (drop (p + 1) image ≡ s)
first_byte [] zero b s e = absurd (let z = ap length e in omega arith)
first_byte [] (suc p) b s e = absurd (let z = ap length e in omega arith)
first_byte (x ∷ image) zero b s e = (omega arith, ap (λ (l : List ℕ). get_or l 0 0) e, ap (drop 1) e)
first_byte (x ∷ image) (suc p) b s e =
    let r = first_byte image p b s e in
    let q = r.0 in
    let z : suc p + 1 ≡ suc (p + 1) = omega arith in
    (omega arith, r.1, ap (λ (m : ℕ). drop m (x ∷ image)) z ∙ r.2)

word_lies : (image : List ℕ) (p : ℕ) (w rest : List ℕ) → length w ≤ 32 → drop p image ≡ num_bytes (length w) ++ (w ++ rest) → Lies image p w rest
word_lies image p w rest h e =
    let f = first_byte image p (length w) (w ++ rest) (e ∙ ap (λ (b : List ℕ). b ++ (w ++ rest)) (one_byte (length w) (omega arith))) in
    let d : drop (p + 1) image ≡ w ++ rest = f.2 in
    let l = ap length d in
    let a = length-append w rest in
    let k = length-drop (p + 1) image in
    let g = f.1 in
    let q = f.0 in
    record {
      there = record { begins = f.0; ends = omega arith; short = omega arith };
      is = ap₂ (λ (m : ℕ) (s : List ℕ). take m s) f.1 d ∙ take_at w rest (length w) refl;
      behind = ap (λ (m : ℕ). drop (p + 1 + m) image) f.1 ∙ sym (drop-drop (length w) (p + 1) image) ∙ ap (drop (length w)) d ∙ drop_at w rest (length w) refl;
    }

place-suc : (image : List ℕ) (p i : ℕ) → place_of image p (suc i) ≡ place_of image (p + 1 + get_or image p 0) i
unfolding place_of
place-suc image p i = refl

words_lie : (image : List ℕ) (ws : List (List ℕ)) (p : ℕ) (rest : List ℕ) → Short ws → drop p image ≡ words_bytes ws ++ rest
    → (i : ℕ) → i < length ws → WordAt image (place_of image p i) × (word_at image (place_of image p i) ≡ get_or ws i [])
words_lie image [] p rest h e i l = absurd (none i l)
  where
    none : (i : ℕ) → i < 0 → ⊥
    none i l = omega arith
words_lie image (w ∷ ws) p rest h e zero l =
    let y = word_lies image p w (words_bytes ws ++ rest) h.0 (e ∙ ap (λ (b : List ℕ). b ++ rest) (words_more w ws) ∙ regroup) in
    let z = place-first image p in
    (subst (WordAt image) (sym z) y.there, ap (word_at image) z ∙ y.is)
  where
    regroup : (num_bytes (length w) ++ w ++ words_bytes ws) ++ rest ≡ num_bytes (length w) ++ (w ++ (words_bytes ws ++ rest))
    regroup = simp append_assoc
words_lie image (w ∷ ws) p rest h e (suc i) l =
    let y = word_lies image p w (words_bytes ws ++ rest) h.0 (e ∙ ap (λ (b : List ℕ). b ++ rest) (words_more w ws) ∙ regroup) in
    let z = place-suc image p i in
    let r = words_lie image ws (p + 1 + get_or image p 0) rest h.1 y.behind i (less l) in
    (subst (WordAt image) (sym z) r.0, ap (word_at image) z ∙ r.1)
  where
    regroup : (num_bytes (length w) ++ w ++ words_bytes ws) ++ rest ≡ num_bytes (length w) ++ (w ++ (words_bytes ws ++ rest))
    regroup = simp append_assoc

    less : suc i < suc (length ws) → i < length ws
    less k = omega arith

-- the words at the places are those
words_are : (image starts : List ℕ) (ws : List (List ℕ)) (i : ℕ) → ((j : ℕ) → j < length ws → word_at image (get_or starts (i + j) 0) ≡ get_or ws j []) → words_at image starts i (length ws) ≡ ws
unfolding words_at
words_are image starts [] i h = refl
words_are image starts (w ∷ ws) i h =
    ap₂ (λ (v : List ℕ) (l : List (List ℕ)). v ∷ l) (ap (λ (m : ℕ). word_at image (get_or starts m 0)) z ∙ h 0 (omega arith))
    (words_are image starts ws (suc i) (λ j l. ap (λ (m : ℕ). word_at image (get_or starts m 0)) (s j) ∙ h (suc j) (omega arith)))
  where
    z : i ≡ i + 0
    z = omega arith

    s : (j : ℕ) → suc i + j ≡ i + suc j
    s j = omega arith

head-begins : (kind : ℕ) (h : Head) → head_bytes kind h ≡ num_bytes kind ++ (num_bytes (length h.words) ++ (words_bytes h.words ++ (num_bytes (h.names - core_names - length h.words) ++ num_bytes h.scopes)))
unfolding head_bytes
head-begins kind h = regroup (num_bytes kind) (num_bytes (length h.words)) (words_bytes h.words) (num_bytes (h.names - core_names - length h.words)) (num_bytes h.scopes)
  where
    regroup : (a b c d e : List ℕ) → (((a ++ b) ++ c) ++ d) ++ e ≡ a ++ (b ++ (c ++ (d ++ e)))
    regroup a b c d e = simp append_assoc

-- the word section, behind the kind and the count of words
words-section : (image : List ℕ) (f : Front) (g : Headed image f)
    → (rest : List ℕ) × (drop (1 + length (num_bytes f.head.words)) image ≡ words_bytes g.words ++ rest)
words-section image f g =
    let h = whole_head g.words f.head in
    let tail = num_bytes (h.names - core_names - length h.words) ++ num_bytes h.scopes in
    let front = num_bytes g.kind ++ num_bytes (length g.words) in
    let is : image ≡ front ++ (words_bytes g.words ++ (tail ++ g.rest)) =
    g.is ∙ ap (λ (b : List ℕ). b ++ g.rest) (head-begins g.kind h)
    ∙ regroup (num_bytes g.kind) (num_bytes (length g.words)) (words_bytes g.words) tail g.rest in
    let n = ap (λ (k : ℕ). length (num_bytes k)) g.count in
    let l : length front ≡ 1 + length (num_bytes f.head.words) =
    length-append (num_bytes g.kind) (num_bytes (length g.words)) ∙ (let a = num-one g.kind g.one_byte in omega arith) in
    (tail ++ g.rest, ap (drop (1 + length (num_bytes f.head.words))) is ∙ drop_at front (words_bytes g.words ++ (tail ++ g.rest)) (1 + length (num_bytes f.head.words)) l)
  where
    regroup : (a b c d e : List ℕ) → (a ++ (b ++ (c ++ d))) ++ e ≡ (a ++ b) ++ (c ++ (d ++ e))
    regroup a b c d e = simp append_assoc

-- ---- what a good image has

drop-within : (k : ℕ) (s : List ℕ) (a b : List ℕ) → drop k s ≡ a ++ b → 0 < length a → k ≤ length s
drop-within k s a b e h = let d = length-drop k s in let l = ap length e in let f = length-append a b in omega arith

four_symbols : (h : Head) → symbols h ≡ 4 + length h.words
unfolding symbols core_names
four_symbols h = refl

few-scopes : (h : Head) → h.scopes ≤ most_scopes → h.scopes ≤ 256
unfolding most_scopes
few-scopes h l = l

few-levels : (x : Stx) → nesting x ≤ most_nesting → nesting x ≤ 64
unfolding most_nesting
few-levels x l = l

module _ {image : List ℕ} {j : Judgement} {starts left : List ℕ} (y : GoodRoom image j starts left) {k : ℕ} (q : k ≡ length (num_bytes j.front.head.words)) where
  abbrev G : Good syntax_kind image y.good.store j
  G = y.good.good

  same_count : j.front.head.words ≡ length G.image.head.words
  same_count = G.headed.count ∙ ap length G.same-words

  short-words : Short G.image.head.words
  short-words = words-short core_words G.image.head.words G.head-fits.words-fit

  section : (rest : List ℕ) × (drop (1 + k) image ≡ words_bytes G.image.head.words ++ rest)
  section =
      let s = words-section image j.front G.headed in
      (s.0, ap (λ (m : ℕ). drop (1 + m) image) q ∙ s.1 ∙ ap (λ (ws : List (List ℕ)). words_bytes ws ++ s.0) G.same-words)

  lie : (i : ℕ) → i < j.front.head.words → WordAt image (place_of image (1 + k) i) × (word_at image (place_of image (1 + k) i) ≡ get_or G.image.head.words i [])
  lie i l = words_lie image G.image.head.words (1 + k) section.0 short-words section.1 i (let e = same_count in omega arith)

  few_words : j.front.head.words ≤ 1020
  few_words = let a = G.names-from in let b = G.names-to in omega arith

  pub good-words : WordsHere image (1 + k) j.front.head.words starts
  good-words = record {
    few = few_words;
    room = let a = y.words-room in let b = few_words in omega arith;
    small = G.short;
    there = λ i l. (lie i l).0;
  }

  module _ {starts' : List ℕ} (f : FindsWords image (1 + k) j.front.head.words starts starts') where
    pub good-ready : Ready image starts' j.front.head.words j.root
    good-ready =
        let t = stx_w most_nesting G.image.head (few-scopes G.image.head G.head-fits.scopes-to) G.image.root (drop j.root image) [] (bytes_drop j.root image G.bytes) G.root-reads in
        let c = same_count in
        record {
          whole = G.image;
          reads = G.reads;
          scopes-few = few-scopes G.image.head G.head-fits.scopes-to;
          short = G.short;
          within = G.root-within;
          bytes = t.0.0 ∙ append-nil (stx_bytes G.image.root);
          fits = subst (λ (m : ℕ). StxFits m G.image.head.scopes G.image.root) (four_symbols G.image.head ∙ ap (λ (m : ℕ). 4 + m) (sym c)) t.1;
          shallow = few-levels G.image.root t.2;
          words = record {
            few = few_words;
            room = let a = y.words-room in let b = few_words in let s = f.same in omega arith;
            there = λ i l. subst (WordAt image) (sym (f.are i l)) (lie i l).0;
            small = G.short;
          };
          spelled = ap (words_at image starts' 0) c ∙ words_are image starts' G.image.head.words 0 (λ i l. at_place i (let e = c in omega arith));
        }
      where
        at_place : (i : ℕ) → i < j.front.head.words → word_at image (get_or starts' (0 + i) 0) ≡ get_or y.good.good.image.head.words i []
        at_place i l = let z : 0 + i ≡ i = omega arith in ap (λ (m : ℕ). word_at image (get_or starts' m 0)) z ∙ ap (word_at image) (f.are i l) ∙ (lie i l).1

pub first_fits : {k : ℕ} (n : ℕ) → k ≡ length (num_bytes n) → Fits w64 (1 + k)
first_fits n q = let f = num-short n in omega arith

pub good-counts : {image : List ℕ} {j : Judgement} {starts left : List ℕ} → GoodRoom image j starts left → length left ≡ 65
good-counts y = y.counts-room

pub ruleset good_laws = (good-words, good-ready, first_fits, good-counts)

-- ---- judged

print_got : (room : ℕ) (i : Image Stx) → text_in room (got i []) ≡ fitted room (print_text i)
unfolding text_in
print_got room i = refl

print_fault : (room : ℕ) (f : Refusal) → text_in room (fault (refusal_of f)) ≡ refused (base (refusal_of f))
unfolding text_in
print_fault room f = refl

module _ {image store : List ℕ} {r : Result Judgement Refusal} (h : Judges syntax_kind image store r) where
  pub job_fault : {out : List ℕ} {f : Refusal} → r ≡ Err f → Prints image out out (Err (Base f))
  unfolding print_ending
  job_fault {out} {f} e = ends-refused (Base f) (ap (text_in (length out)) (h.is ∙ ap (judged_as syntax_kind image store) e) ∙ print_fault (length out) f)

  module _ {j : Judgement} (e : r ≡ Ok j) where
    pub job_good : {starts left : List ℕ} → 1020 ≤ length starts → length left ≡ 65 → GoodRoom image j starts left
    job_good a b = record { good = record { store = store; good = h.good j e }; words-room = a; counts-room = b }

    pub job_printed : {out out' : List ℕ} {q : Result ℕ TextRefusal} → Writes image out out' q → Prints image out out' q
    unfolding print_ending
    job_printed {out} {out'} {q} w =
        let g = h.good j e in
        subst (λ (z : TextEnding). Ends z out out' q)
        (ap (fitted (length out)) (read_print image g.image g.reads) ∙ sym (ap (text_in (length out)) g.reads ∙ print_got (length out) g.image)) w.ends

pub ruleset judged_laws = (job_fault, job_good, job_printed)
