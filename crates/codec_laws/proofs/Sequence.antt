-- What a reader that succeeds says of its parts, and that a number read is written again, and a written one read back.
use mathlib.Core.Path.{◌≡◌, refl, sym, ap, ◌∙◌, subst}
use Prim.Native.Nat.{ℕ, zero, suc, ◌≤◌, ◌<◌}
use mathlib.Core.Bool.{Bool, true, false, ◌&&◌}
use mathlib.Core.List.{List, [], ◌∷◌, ◌++◌, append_assoc}
use lib.Dec.{ltb, leb}
use lib.ListN.{drop}
use Rattle.model.specs.Refusals.{Refusal, layout}
use Rattle.model.specs.Reading.{Read, got, fault, Reader, next, need, num, num_up_to, num_below}
use Rattle.model.specs.Writing.{num_bytes}
use borrow.Author.Tests.{le-leb, lt-ltb, leb-true, ltb-true}
use Rattle.laws.proofs.Tests.{and_both}
use Rattle.codec_laws.specs.WellFormed.{Bytes}
use Rattle.codec_laws.proofs.NumberTrip.{num-same, num_back, got-value, got-rest, fault≢got}

-- ---- a sequence of readers

pub next-got : {A B : Type 0} (r : Read A) (f : A → Reader B) (v : B) (rest : List ℕ) → next r f ≡ got v rest
    → (a : A) × (t : List ℕ) × (r ≡ got a t) × (f a t ≡ got v rest)
next-got (got a t) f v rest e = (a, t, refl, e)
next-got (fault c) f v rest e = absurd (fault≢got c v rest e)

pub need-got : (c : Refusal) (b : Bool) (v : Unit {0}) (s rest : List ℕ) → need c b s ≡ got v rest → (b ≡ true) × (s ≡ rest)
need-got c true v s rest e = (refl, got-rest tt v s rest e)
need-got c false v s rest e = absurd (fault≢got c v rest e)

-- what holds of the last step's value and rest holds of the whole reader's
pub moved : {A : Type 0} (P : A → List ℕ → Type 0) (a b : A) (s t : List ℕ) → got a s ≡ got b t → P a s → P b t
moved P a b s t e p = subst (λ z. P z t) (got-value a b s t e) (subst (P a) (got-rest a b s t e) p)

-- ---- s is w and then rest

-- a list of bytes, by a test
unfoldable pub all_bytes : List ℕ → Bool
all_bytes [] = true
all_bytes (b ∷ l) = ltb b 256 && all_bytes l

pub all-bytes : (l : List ℕ) → all_bytes l ≡ true → Bytes l
unfolding all_bytes
all-bytes [] e = tt
all-bytes (b ∷ l) e = let w = and_both (ltb b 256) (all_bytes l) e in (ltb-true b 256 w.0, all-bytes l w.1)

pub bytes_rest : (s t : List ℕ) → Bytes (s ++ t) → Bytes t
bytes_rest [] t h = h
bytes_rest (b ∷ s) t h = bytes_rest s t h.1

pub bytes_drop : (n : ℕ) (s : List ℕ) → Bytes s → Bytes (drop n s)
bytes_drop zero s b = b
bytes_drop (suc n) [] b = b
bytes_drop (suc n) (x ∷ s) b = bytes_drop n s b.1

abbrev pub Wrote : List ℕ → List ℕ → List ℕ → Type 0
Wrote w s rest = (s ≡ w ++ rest) × Bytes rest

pub wrote : (w s rest : List ℕ) → Bytes s → s ≡ w ++ rest → Wrote w s rest
wrote w s rest b e = (e, bytes_rest w rest (subst Bytes e b))

pub join : (a b s t rest : List ℕ) → Wrote a s t → Wrote b t rest → Wrote (a ++ b) s rest
join a b s t rest p q = (p.0 ∙ ap (λ (z : List ℕ). a ++ z) q.0 ∙ sym (append_assoc a b rest), q.1)

-- ---- numbers

pub num_w : (v : ℕ) (s rest : List ℕ) → Bytes s → num s ≡ got v rest → Wrote (num_bytes v) s rest × (v < 4294967296)
num_w v s rest b e =
    let g = num-same s rest v b e in
    (wrote (num_bytes v) s rest b g.1, g.0)

pub up_to_w : (c : Refusal) (m v : ℕ) (s rest : List ℕ) → Bytes s → num_up_to c m s ≡ got v rest → Wrote (num_bytes v) s rest × (v ≤ m)
unfolding num_up_to
up_to_w c m v s rest b e =
    let g = next-got (num s) _ v rest e in
    let n = next-got (need c (leb g.0 m) g.1) _ v rest g.3 in
    let q = need-got c (leb g.0 m) n.0 g.1 n.1 n.2 in
    moved (λ (z : ℕ) (r : List ℕ). Wrote (num_bytes z) s r × (z ≤ m)) g.0 v n.1 rest n.3
    ((num_w g.0 s n.1 b (g.2 ∙ ap (got g.0) q.1)).0, leb-true g.0 m q.0)

pub below_w : (m v : ℕ) (s rest : List ℕ) → Bytes s → num_below m s ≡ got v rest → Wrote (num_bytes v) s rest × (v < m)
unfolding num_below
below_w m v s rest b e =
    let g = next-got (num s) _ v rest e in
    let n = next-got (need layout (ltb g.0 m) g.1) _ v rest g.3 in
    let q = need-got layout (ltb g.0 m) n.0 g.1 n.1 n.2 in
    moved (λ (z : ℕ) (r : List ℕ). Wrote (num_bytes z) s r × (z < m)) g.0 v n.1 rest n.3
    ((num_w g.0 s n.1 b (g.2 ∙ ap (got g.0) q.1)).0, ltb-true g.0 m q.0)

pub up_to_back : (c : Refusal) (m v : ℕ) (rest : List ℕ) → v ≤ m → v < 4294967296 → num_up_to c m (num_bytes v ++ rest) ≡ got v rest
unfolding num_up_to
up_to_back c m v rest h k = rw (num_back v rest k, le-leb v m h)

pub below_back : (m v : ℕ) (rest : List ℕ) → v < m → v < 4294967296 → num_below m (num_bytes v ++ rest) ≡ got v rest
unfolding num_below
below_back m v rest h k = rw (num_back v rest k, lt-ltb v m h)
