-- Words and heads: what is read keeps the limits and is written again the same; what keeps the limits is read back.
use mathlib.Core.Path.{◌≡◌, refl, sym, ap, ap₂, ◌∙◌, subst}
use mathlib.Core.Logic.{◌≢◌, ◌⊎◌, inl, inr}
use Prim.Native.Nat.{ℕ, zero, suc, ◌+◌, ◌-◌, ◌≤◌, ◌<◌}
use native.Mathlib.Omega.{arith}
use mathlib.Core.Bool.{Bool, true, false, not, ◌&&◌, ◌||◌, false≢true}
use mathlib.Core.List.{List, [], ◌∷◌, ◌++◌, append_assoc}
use lib.Dec.{eqb, leb}
use lib.ListN.{length}
use Rattle.model.specs.Limits.{most_scopes, most_names, core_names, most_word_length}
use Rattle.model.specs.Refusals.{layout, over_limit, wrong_kind}
use Rattle.model.specs.Reading.{got, need, byte, bytes, num, num_up_to, good_word, among, read_words, core_words, Head, symbols, read_head}
use Rattle.model.specs.Writing.{num_bytes, words_bytes, head_bytes}
use borrow.Author.Tests.{le-leb, leb-true, ne_eqb, eqb-false, eqb-true, eq-eqb}
use Rattle.codec_laws.specs.WellFormed.{Bytes, WordsFit, HeadFits}
use Rattle.codec_laws.proofs.NumberTrip.{num_back, got-value, got-rest, fault≢got}
use Rattle.codec_laws.proofs.Sequence.{next-got, need-got, moved, Wrote, wrote, join, num_w, up_to_w, up_to_back}

-- ---- words read

byte_w : (v : ℕ) (s rest : List ℕ) → byte s ≡ got v rest → s ≡ v ∷ rest
unfolding byte
byte_w v [] rest e = absurd (fault≢got layout v rest e)
byte_w v (b ∷ s) rest e = ap₂ (λ (x : ℕ) (l : List ℕ). x ∷ l) (got-value b v s rest e) (got-rest b v s rest e)

bytes_w : (k : ℕ) (w s rest : List ℕ) → bytes k s ≡ got w rest → (s ≡ w ++ rest) × (length w ≡ k)
unfolding bytes
bytes_w zero w s rest e = moved (λ (z r : List ℕ). (s ≡ z ++ r) × (length z ≡ 0)) [] w s rest e (refl, refl)
bytes_w (suc k) w s rest e =
    let g = next-got (byte s) _ w rest e in
    let r = next-got (bytes k g.1) _ w rest g.3 in
    let p = bytes_w k r.0 g.1 r.1 r.2 in
    moved (λ (z t : List ℕ). (s ≡ z ++ t) × (length z ≡ suc k)) (g.0 ∷ r.0) w r.1 rest r.3
    (byte_w g.0 s g.1 g.2 ∙ ap (λ (z : List ℕ). g.0 ∷ z) p.0, ap suc p.1)

abbrev WordsTook : ℕ → List (List ℕ) → List ℕ → List (List ℕ) → List ℕ → Type 0
WordsTook n seen s ws rest = Wrote (words_bytes ws) s rest × (length ws ≡ n) × WordsFit seen ws

not_none : (k : ℕ) → not (eqb k 0) ≡ true → 0 < k
not_none k e = go (eqb k 0) refl e
  where
    some_more : (j : ℕ) → j ≢ 0 → 0 < j
    some_more j h = omega arith

    go : (t : Bool) → eqb k 0 ≡ t → not t ≡ true → 0 < k
    go true q p = absurd (false≢true p)
    go false q p = some_more k (eqb-false k 0 q)

words_w : (n : ℕ) (seen ws : List (List ℕ)) (s rest : List ℕ) → Bytes s → read_words n seen s ≡ got ws rest → WordsTook n seen s ws rest
unfolding read_words words_bytes
words_w zero seen ws s rest b e = moved (WordsTook 0 seen s) [] ws s rest e (wrote [] s s b refl, refl, tt)
words_w (suc n) seen ws s rest b e =
    let g = next-got (num s) _ ws rest e in
    let n₁ = next-got (need layout (not (eqb g.0 0)) g.1) _ ws rest g.3 in
    let q₁ = need-got layout (not (eqb g.0 0)) n₁.0 g.1 n₁.1 n₁.2 in
    let n₂ = next-got (need over_limit (leb g.0 most_word_length) n₁.1) _ ws rest n₁.3 in
    let q₂ = need-got over_limit (leb g.0 most_word_length) n₂.0 n₁.1 n₂.1 n₂.2 in
    let k = next-got (bytes g.0 n₂.1) _ ws rest n₂.3 in
    let p = bytes_w g.0 k.0 n₂.1 k.1 k.2 in
    let n₃ = next-got (need layout (good_word k.0 && not (among k.0 seen)) k.1) _ ws rest k.3 in
    let q₃ = need-got layout (good_word k.0 && not (among k.0 seen)) n₃.0 k.1 n₃.1 n₃.2 in
    let r = next-got (read_words n (k.0 ∷ seen) n₃.1) _ ws rest n₃.3 in
    one g.0 k.0 r.0 n₂.1 n₃.1 r.1 p.1 (not_none g.0 q₁.0) (leb-true g.0 most_word_length q₂.0) q₃.0
    (num_w g.0 s n₂.1 b (g.2 ∙ ap (got g.0) (q₁.1 ∙ q₂.1))).0 (p.0 ∙ ap (λ (z : List ℕ). k.0 ++ z) q₃.1)
    (λ b'. words_w n (k.0 ∷ seen) r.0 n₃.1 r.1 b' r.2) r.3
  where
    one : (k : ℕ) (w : List ℕ) (r : List (List ℕ)) (s₁ s₂ s₃ : List ℕ) → length w ≡ k → 0 < k → k ≤ most_word_length
        → (good_word w && not (among w seen)) ≡ true → Wrote (num_bytes k) s s₁ → s₁ ≡ w ++ s₂
        → (Bytes s₂ → WordsTook n (w ∷ seen) s₂ r s₃) → got (w ∷ r) s₃ ≡ got ws rest → WordsTook (suc n) seen s ws rest
    one k w r s₁ s₂ s₃ len some few good a c below f =
        let a₂ = wrote w s₁ s₂ a.1 c in
        let a₃ = below a₂.1 in
        moved (WordsTook (suc n) seen s) (w ∷ r) ws s₃ rest f (
          join (num_bytes (length w) ++ w) (words_bytes r) s s₂ s₃
              (join (num_bytes (length w)) w s s₁ s₂ (subst (λ (z : ℕ). Wrote (num_bytes z) s s₁) (sym len) a) a₂) a₃.0,
          ap suc a₃.1,
          (subst (λ (z : ℕ). 0 < z) (sym len) some, subst (λ (z : ℕ). z ≤ most_word_length) (sym len) few, good, a₃.2),
        )

-- ---- the head read

head-fits : (h : Head) → WordsFit core_words h.words → 4 + length h.words ≤ h.names → h.names ≤ 1024 → h.scopes ≤ 256 → HeadFits h
unfolding symbols most_names most_scopes
head-fits h a b c d = record { words-fit = a; names-from = b; names-to = c; scopes-to = d }

pub head_w : (kind : ℕ) (h : Head) (s rest : List ℕ) → Bytes s → read_head kind s ≡ got h rest → Wrote (head_bytes kind h) s rest × HeadFits h
unfolding read_head head_bytes
head_w kind h s rest b e =
    let g = next-got (num s) _ h rest e in
    let n₁ = next-got (need layout (eqb g.0 1 || eqb g.0 2) g.1) _ h rest g.3 in
    let q₁ = need-got layout (eqb g.0 1 || eqb g.0 2) n₁.0 g.1 n₁.1 n₁.2 in
    let n₂ = next-got (need wrong_kind (eqb g.0 kind) n₁.1) _ h rest n₁.3 in
    let q₂ = need-got wrong_kind (eqb g.0 kind) n₂.0 n₁.1 n₂.1 n₂.2 in
    let w = next-got (num_up_to over_limit (most_names - core_names) n₂.1) _ h rest n₂.3 in
    let ws = next-got (read_words w.0 core_words w.1) _ h rest w.3 in
    let m = next-got (num_up_to over_limit (most_names - core_names - w.0) ws.1) _ h rest ws.3 in
    let n = next-got (num_up_to over_limit most_scopes m.1) _ h rest m.3 in
    go g.0 w.0 m.0 n.0 ws.0 n₂.1 w.1 ws.1 m.1 n.1 (eqb-true g.0 kind q₂.0)
    (num_w g.0 s n₂.1 b (g.2 ∙ ap (got g.0) (q₁.1 ∙ q₂.1))).0
    (λ b'. up_to_w over_limit (most_names - core_names) w.0 n₂.1 w.1 b' w.2)
    (λ b'. words_w w.0 core_words ws.0 w.1 ws.1 b' ws.2)
    (λ b'. up_to_w over_limit (most_names - core_names - w.0) m.0 ws.1 m.1 b' m.2)
    (λ b'. up_to_w over_limit most_scopes n.0 m.1 n.1 b' n.2) n.3
  where
    made_of : (a b c : ℕ) → c ≡ a → 4 + a + b - 4 - c ≡ b
    made_of a b c p = omega arith

    from : (a b c : ℕ) → c ≡ a → 4 + c ≤ 4 + a + b
    from a b c p = omega arith

    to : (a b : ℕ) → a ≤ 1020 → b ≤ 1020 - a → 4 + a + b ≤ 1024
    to a b p q = omega arith

    go : (k w m n : ℕ) (ws : List (List ℕ)) (s₁ s₂ s₃ s₄ s₅ : List ℕ) → k ≡ kind → Wrote (num_bytes k) s s₁
        → (Bytes s₁ → Wrote (num_bytes w) s₁ s₂ × (w ≤ 1020)) → (Bytes s₂ → WordsTook w core_words s₂ ws s₃)
        → (Bytes s₃ → Wrote (num_bytes m) s₃ s₄ × (m ≤ 1020 - w)) → (Bytes s₄ → Wrote (num_bytes n) s₄ s₅ × (n ≤ 256))
        → got (record { words = ws; names = 4 + w + m; scopes = n }) s₅ ≡ got h rest → Wrote (head_bytes kind h) s rest × HeadFits h
    go k w m n ws s₁ s₂ s₃ s₄ s₅ kk a₁ f₂ f₃ f₄ f₅ f =
        let a₂ = f₂ a₁.1 in
        let a₃ = f₃ a₂.0.1 in
        let a₄ = f₄ a₃.0.1 in
        let a₅ = f₅ a₄.0.1 in
        let h₀ : Head = record { words = ws; names = 4 + w + m; scopes = n } in
        moved (λ (z : Head) (r : List ℕ). Wrote (head_bytes kind z) s r × HeadFits z) h₀ h s₅ rest f (
          join (num_bytes kind ++ num_bytes (length ws) ++ words_bytes ws ++ num_bytes (4 + w + m - 4 - length ws)) (num_bytes n) s s₄ s₅
              (join (num_bytes kind ++ num_bytes (length ws) ++ words_bytes ws) (num_bytes (4 + w + m - 4 - length ws)) s s₃ s₄
              (join (num_bytes kind ++ num_bytes (length ws)) (words_bytes ws) s s₂ s₃
              (join (num_bytes kind) (num_bytes (length ws)) s s₁ s₂ (subst (λ (z : ℕ). Wrote (num_bytes z) s s₁) kk a₁)
              (subst (λ (z : ℕ). Wrote (num_bytes z) s₁ s₂) (sym a₃.1) a₂.0))
              a₃.0)
              (subst (λ (z : ℕ). Wrote (num_bytes z) s₃ s₄) (sym (made_of w m (length ws) a₃.1)) a₄.0))
              a₅.0,
          head-fits h₀ a₃.2 (from w m (length ws) a₃.1) (to w m a₂.1 a₄.1) a₅.1,
        )

-- ---- words and the head written

bytes_back : (w rest : List ℕ) → bytes (length w) (w ++ rest) ≡ got w rest
unfolding bytes byte
bytes_back [] rest = refl
bytes_back (b ∷ w) rest = rw (bytes_back w rest)

words_back : (seen ws : List (List ℕ)) (rest : List ℕ) → WordsFit seen ws → read_words (length ws) seen (words_bytes ws ++ rest) ≡ got ws rest
unfolding read_words words_bytes
words_back seen [] rest f = refl
words_back seen (w ∷ l) rest f =
    rw (
      append_assoc (num_bytes (length w) ++ w) (words_bytes l) rest,
      append_assoc (num_bytes (length w)) w (words_bytes l ++ rest),
      num_back (length w) (w ++ (words_bytes l ++ rest)) (omega (arith, f.1)),
      ne_eqb (length w) 0 (some_bytes f.0),
      le-leb (length w) 32 f.1,
      bytes_back w (words_bytes l ++ rest),
      f.2,
      words_back (w ∷ seen) l rest f.3,
    )
  where
    some_bytes : 0 < length w → length w ≢ 0
    some_bytes h = omega arith

-- the parts of a head one after the other
head-parts : (kind : ℕ) (h : Head) (rest : List ℕ) → head_bytes kind h ++ rest
    ≡ num_bytes kind ++ (num_bytes (length h.words) ++ (words_bytes h.words ++ (num_bytes (h.names - 4 - length h.words) ++ (num_bytes h.scopes ++ rest))))
unfolding head_bytes
head-parts kind h rest =
    let a = num_bytes kind in
    let b = num_bytes (length h.words) in
    let c = words_bytes h.words in
    let d = num_bytes (h.names - 4 - length h.words) in
    let e = num_bytes h.scopes in
    append_assoc (a ++ b ++ c ++ d) e rest ∙ append_assoc (a ++ b ++ c) d (e ++ rest) ∙ append_assoc (a ++ b) c (d ++ (e ++ rest))
    ∙ append_assoc a b (c ++ (d ++ (e ++ rest)))

-- a head of kind 1 or 2
pub head_back : (kind : ℕ) (h : Head) (rest : List ℕ) → (kind ≡ 1) ⊎ (kind ≡ 2) → HeadFits h → read_head kind (head_bytes kind h ++ rest) ≡ got h rest
unfolding read_head symbols
head_back kind h rest known f =
    ap (read_head kind) (head-parts kind h rest)
    ∙ rw (
      num_back kind (num_bytes W ++ (words_bytes h.words ++ (num_bytes M ++ r₄))) (small known),
      is-kind known,
      eq-eqb kind kind refl,
      up_to_back over_limit 1020 W (words_bytes h.words ++ (num_bytes M ++ r₄)) W-le W-small,
      words_back core_words h.words (num_bytes M ++ r₄) f.words-fit,
      up_to_back over_limit (1020 - W) M r₄ M-le M-small,
      up_to_back over_limit 256 h.scopes rest f.scopes-to scopes-small,
    )
    (ap (λ (z : ℕ). got (record { words = h.words; names = z; scopes = h.scopes }) rest) all)
  where
    small : (kind ≡ 1) ⊎ (kind ≡ 2) → kind < 4294967296
    small (inl e) = omega arith
    small (inr e) = omega arith

    is-kind : (kind ≡ 1) ⊎ (kind ≡ 2) → (eqb kind 1 || eqb kind 2) ≡ true
    is-kind (inl e) = ap (λ (z : ℕ). eqb z 1 || eqb z 2) e
    is-kind (inr e) = ap (λ (z : ℕ). eqb z 1 || eqb z 2) e

    W : ℕ
    W = length h.words

    M : ℕ
    M = h.names - 4 - W

    r₄ : List ℕ
    r₄ = num_bytes h.scopes ++ rest

    from : 4 + length h.words ≤ h.names
    from = f.names-from

    to : h.names ≤ 1024
    to = f.names-to

    W-le : W ≤ 1020
    W-le = omega (arith, from, to)

    W-small : W < 4294967296
    W-small = omega (arith, from, to)

    M-le : M ≤ 1020 - W
    M-le = omega (arith, from, to)

    M-small : M < 4294967296
    M-small = omega (arith, from, to)

    scopes-small : h.scopes < 4294967296
    scopes-small = omega (arith, f.scopes-to)

    all : 4 + W + M ≡ h.names
    all = omega (arith, from, to)
