-- The head of an image that is a slice of bytes: what the definition read, and that it is written so.
use Rattle.std.specs.Prelude.{Result, Ok, Err}
use Prim.Native.Nat.{ℕ, suc, ◌+◌, ◌-◌, ◌≤◌, ◌<◌}
use mathlib.Core.Path.{◌≡◌, refl, sym, ap, ◌∙◌}
use mathlib.Core.List.{List, [], ◌∷◌, ◌++◌}
use native.Mathlib.Omega.{arith}
use lib.ListN.{length, drop, get_or, length-drop, length-append}
use lib.Seq.{drop_at}
use mir.Syntax.{w8}
use mir.Val.{Fits}
use Rattle.model.specs.Limits.{most_names, most_scopes, core_names, most_image}
use Rattle.model.specs.Refusals.{over_limit}
use Rattle.model.specs.Reading as m
use Rattle.model.specs.Reading.{Read, Reader, got, fault, Image, symbols, read_head, read_image}
use Rattle.model.specs.Writing.{head_bytes}
use Rattle.refusals.specs.Refusing.{refusal_of, case_of}
use Rattle.refusals.proofs.Cases.{refusal_back}
use Rattle.refusals.specs.declared.Refusal.{Refusal}
use Rattle.numbers.specs.declared.Cursor.{Cursor}
use Rattle.numbers.proofs.Answering.{ok_same}
use borrow.Author.Tests.{le-leb, lt-leb}
use Rattle.codec_laws.specs.WellFormed.{Bytes, HeadFits}
use Rattle.codec_laws.proofs.HeadTrip.{head_w}
use Rattle.head.specs.Heads.{head_of, head_at, declares}
use Rattle.head.specs.declared.Head.{Head}
use Rattle.head.specs.declared.Counts.{Counts}
use Rattle.head.specs.Fronts.{whole_head, Headed}

pub bytes_of : (s : List ℕ) → ((i : ℕ) → Fits w8 (get_or s i 0)) → Bytes s
bytes_of [] h = tt
bytes_of (b ∷ s) h = (omega (arith, h 0), bytes_of s (λ i. h (suc i)))

-- ---- the length

pub image-short : {R : Type 0} (read : Reader (Image R)) (s : List ℕ) → length s ≤ 65536 → read_image read s ≡ read s
unfolding read_image most_image
image-short read s h = rw (le-leb (length s) 65536 h)

pub image-long : {R : Type 0} (read : Reader (Image R)) (s : List ℕ) → 65536 < length s → read_image read s ≡ fault over_limit
unfolding read_image most_image
image-long read s h = rw (lt-leb (length s) 65536 h)

-- ---- the head

pub record HeadHere (kind : ℕ) (s : List ℕ) (h : Head) (end : ℕ) : Type 0 where
  pub head : m.Head
  pub reads : read_head kind s ≡ got head (drop end s)
  pub is : h ≡ head_of head
  pub ends : end ≡ length (head_bytes kind head)
  pub within : end ≤ length s
  pub wrote : s ≡ head_bytes kind head ++ drop end s
  pub fits : HeadFits head

pub head-here : (kind : ℕ) (s : List ℕ) → Bytes s → {q : Result (Head × Cursor) Refusal} → q ≡ head_at (length s) (read_head kind s) → {h : Head} {c : Cursor} → q ≡ Ok (h, c) → HeadHere kind s h c.at
head-here kind s b a {h} {c} e = go (read_head kind s) refl (sym e ∙ a)
  where
    go : (g : Read m.Head) → read_head kind s ≡ g → Ok (h, c) ≡ head_at (length s) g → HeadHere kind s h c.at
    go (fault x) i q = let z : ◌≡◌ {A = ℕ} 0 1 = cc in absurd (omega arith)
    go (got x rest) i q =
        let w = head_w kind x s rest b i in
        let p : h ≡ head_of x = ap (λ (y : Head × Cursor). y.0) (ok_same q) in
        let o : c ≡ record { at = length s - length rest } = ap (λ (y : Head × Cursor). y.1) (ok_same q) in
        let d : c.at ≡ length s - length rest = ap (λ (y : Cursor). y.at) o in
        let l : length s ≡ length (head_bytes kind x) + length rest = ap length w.0.0 ∙ length-append (head_bytes kind x) rest in
        let ends : c.at ≡ length (head_bytes kind x) = omega arith in
        let k : drop c.at s ≡ rest = ap (drop c.at) w.0.0 ∙ drop_at (head_bytes kind x) rest c.at (sym ends) in
        record {
          head = x;
          reads = i ∙ ap (got x) (sym k);
          is = p;
          ends = ends;
          within = omega arith;
          wrote = w.0.0 ∙ ap (λ (v : List ℕ). head_bytes kind x ++ v) (sym k);
          fits = w.1;
        }

pub head-fault : (kind : ℕ) (s : List ℕ) {q : Result (Head × Cursor) Refusal} → q ≡ head_at (length s) (read_head kind s) → {f : Refusal} → q ≡ Err f → read_head kind s ≡ fault (refusal_of f)
head-fault kind s a {f} e = go (read_head kind s) (sym e ∙ a)
  where
    go : (g : Read m.Head) → Err f ≡ head_at (length s) g → g ≡ fault (refusal_of f)
    go (got x rest) q = let z : ◌≡◌ {A = ℕ} 0 1 = cc in absurd (omega arith)
    go (fault x) q = let i : f ≡ case_of x = cc in ap fault (sym (refusal_back x) ∙ ap refusal_of (sym i))

-- ---- the code's head

module _ {kind : ℕ} {s : List ℕ} {h : Head} {end : ℕ} (H : HeadHere kind s h end) where
  pub word_count : h.words ≡ length H.head.words
  word_count = ap (λ (x : Head). x.words) H.is

  pub name-count : h.names ≡ H.head.names
  name-count = ap (λ (x : Head). x.names) H.is

  pub scope-count : h.scopes ≡ H.head.scopes
  scope-count = ap (λ (x : Head). x.scopes) H.is

  pub symbol-count : h.words + 4 ≡ symbols H.head
  unfolding symbols core_names
  symbol-count = let p : h.words + 4 ≡ 4 + length H.head.words = omega (arith, word_count) in p

  pub names-from : 4 + h.words ≤ h.names
  unfolding symbols core_names
  names-from = omega (arith, word_count, name-count, H.fits.names-from)

  pub names-to : h.names ≤ 1024
  unfolding most_names
  names-to = omega (arith, name-count, H.fits.names-to)

  pub scopes-to : h.scopes ≤ 256
  unfolding most_scopes
  scopes-to = omega (arith, scope-count, H.fits.scopes-to)

  pub headed-by : kind < 128 → length s ≤ 65536 → Headed s (record { head = h; end = end })
  headed-by one short =
      let p : whole_head H.head.words h ≡ H.head = (λ k. record { words = H.head.words; names = name-count k; scopes = scope-count k }) in
      record {
        kind = kind;
        words = H.head.words;
        rest = drop end s;
        one_byte = one;
        is = H.wrote ∙ ap (λ (y : m.Head). head_bytes kind y ++ drop end s) (sym p);
        count = word_count;
        ends = H.ends ∙ ap (λ (y : m.Head). length (head_bytes kind y)) (sym p);
        names-from = names-from;
        small = short;
      }

  pub headed-words : (one : kind < 128) (short : length s ≤ 65536) → (headed-by one short).words ≡ H.head.words
  unfolding headed-by
  headed-words one short = refl

-- ---- what the readers behind a head ask

module _ (kind : ℕ) (s : List ℕ) (known : (i : ℕ) → Fits w8 (get_or s i 0)) {q : Result (Head × Cursor) Refusal} (a : q ≡ head_at (length s) (read_head kind s)) {h : Head} {c : Cursor} (e : q ≡ Ok (h, c)) where
  H₀ : HeadHere kind s h c.at
  H₀ = head-here kind s (bytes_of s known) a e

  pub few-scopes : h.scopes ≤ 256
  few-scopes = scopes-to H₀

  pub few-names : h.names ≤ 1024
  few-names = names-to H₀

  pub few_words : h.words ≤ 1020
  few_words = omega (arith, names-from H₀, names-to H₀)

  pub head-within : c.at ≤ 0 + length s
  head-within = omega (arith, H₀.within)

  pub rest-fits : {u : List ℕ} → length s ≤ 65536 → u ≡ drop (c.at - 0) s → c.at + length u ≤ 65536
  rest-fits short i = let d = ap length i ∙ length-drop (c.at - 0) s in omega (arith, H₀.within)

pub behind-head : (s : List ℕ) (end : ℕ) {u : List ℕ} → u ≡ drop (end - 0) s → u ≡ drop end s
behind-head s end i = i ∙ ap (λ (k : ℕ). drop k s) (let z : end - 0 ≡ end = omega arith in z)

-- the counts that the code hands on
pub counted-scopes : {n : Counts} (h : Head) → n ≡ declares h → h.scopes ≤ 256 → n.scopes ≤ 256
counted-scopes h e k = omega (arith, ap (λ (x : Counts). x.scopes) e)

pub counted-names : {n : Counts} (h : Head) → n ≡ declares h → h.names ≤ 1024 → n.names ≤ 1024
counted-names h e k = omega (arith, ap (λ (x : Counts). x.names) e)

pub ruleset head_laws = (few-scopes, few-names, few_words, head-within, rest-fits, counted-scopes, counted-names)
