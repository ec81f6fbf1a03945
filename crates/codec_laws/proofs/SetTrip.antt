-- Sets: what is read is written again the same, and what is written is read back.
use mathlib.Core.Path.{◌≡◌, refl, sym, ap, ◌∙◌, subst}
use mathlib.Core.Logic.{◌⊎◌, inl, inr}
use Prim.Native.Nat.{ℕ, zero, suc, ◌+◌, ◌^◌, ◌≤◌, ◌<◌}
use native.Mathlib.Nat.{zero-lt-suc, pow-suc, le_trans, pow-le-pow_right}
use native.Mathlib.Omega.{arith}
use mathlib.Core.Bool.{true, ◌&&◌}
use mathlib.Core.List.{List, [], ◌∷◌, ◌++◌, append_assoc}
use lib.Dec.{ltb, leb}
use lib.ListN.{length}
use lib.Bits.{or_lt}
use lib.Pow.{pow_pos}
use Rattle.model.specs.Refusals.{layout}
use Rattle.model.specs.Scopes.{Scopes, only, add, members}
use Rattle.model.specs.Reading.{got, need, num, read_members, read_set}
use Rattle.model.specs.Writing.{num_bytes, nums_bytes, list_bytes, set_bytes}
use borrow.Author.Tests.{le-leb, lt-ltb, leb-true, ltb-true}
use Rattle.codec_laws.specs.WellFormed.{Bytes}
use Rattle.codec_laws.proofs.NumberTrip.{num_back, num-same, got-value, got-rest}
use Rattle.laws.proofs.Tests.{and_both}
use Rattle.codec_laws.proofs.Sequence.{next-got, need-got, bytes_rest}
use Rattle.laws.proofs.Members.{Asc, Small, asc_of, add_all, set_of_members, members_of_set}

-- ---- sets stay small

pub pow_mono : (k n : ℕ) → k < n → 2 ^ k < 2 ^ n
pow_mono k n h = omega (arith, pow-le-pow_right {n = 2} (zero-lt-suc 1) h, pow-suc 2 k, pow_pos k)

add_small : (k n : ℕ) (m : Scopes) → k ≤ n → m < 2 ^ n → add k m < 2 ^ n
unfolding add only
add_small zero n m h q = q
add_small (suc k) n m h q = or_lt n (2 ^ k) m (pow_mono k n h) q

pub add_all_small : (p n : ℕ) (l : List ℕ) (m : Scopes) → Asc p n l → m < 2 ^ n → add_all l m < 2 ^ n
unfolding add_all
add_all_small p n [] m a h = h
add_all_small p n (k ∷ l) m a h = add_all_small k n l (add k m) a.2 (add_small k n m a.1 h)

-- ---- reading and writing

raise : (p n o : ℕ) (l : List ℕ) → n ≤ o → Asc p n l → Asc p o l
raise p n o [] h a = tt
raise p n o (k ∷ l) h a = (a.0, le_trans a.1 h, raise k n o l h a.2)

record Members (c n p : ℕ) (m v : Scopes) (s rest : List ℕ) : Type 0 where
  l : List ℕ
  len : length l ≡ c
  asc : Asc p n l
  value : v ≡ add_all l m
  same : s ≡ nums_bytes l ++ rest

members-same : (c n p : ℕ) (m v : Scopes) (s rest : List ℕ) → Bytes s → read_members c n p m s ≡ got v rest → Members c n p m v s rest
unfolding read_members add_all nums_bytes
members-same zero n p m v s rest bs e =
    record { l = []; len = refl; asc = tt; value = sym (got-value m v s rest e); same = got-rest m v s rest e }
members-same (suc c) n p m v s rest bs e =
    let g = next-got (num s) _ v rest e in
    let t = next-got (need layout (ltb p g.0 && leb g.0 n) g.1) _ v rest g.3 in
    let q = need-got layout (ltb p g.0 && leb g.0 n) t.0 g.1 t.1 t.2 in
    let k = num-same s g.1 g.0 bs g.2 in
    let r = q.1 in
    go g.0 g.1 q.0 k.1
    (members-same c n g.0 (add g.0 m) v g.1 rest (bytes_rest (num_bytes g.0) g.1 (subst Bytes k.1 bs))
    (ap (read_members c n g.0 (add g.0 m)) r ∙ t.3))
  where
    go : (k : ℕ) (t : List ℕ) → (ltb p k && leb k n) ≡ true → s ≡ num_bytes k ++ t → Members c n k (add k m) v t rest
        → Members (suc c) n p m v s rest
    go k t q b r =
        let w = and_both (ltb p k) (leb k n) q in
        record {
          l = k ∷ r.l;
          len = ap suc r.len;
          asc = (ltb-true p k w.0, leb-true k n w.1, r.asc);
          value = r.value;
          same = b ∙ ap (λ (z : List ℕ). num_bytes k ++ z) r.same ∙ sym (append_assoc (num_bytes k) (nums_bytes r.l) rest);
        }

-- a set read, and written again
pub set_same : (n v : ℕ) (s rest : List ℕ) → n ≤ 256 → Bytes s → read_set n s ≡ got v rest → (v < 2 ^ n) × (s ≡ set_bytes v ++ rest)
unfolding read_set set_bytes list_bytes
set_same n v s rest h bs e =
    let g = next-got (num s) _ v rest e in
    let k = num-same s g.1 g.0 bs g.2 in
    go g.0 g.1 k.1
    (members-same g.0 n 0 0 v g.1 rest (bytes_rest (num_bytes g.0) g.1 (subst Bytes k.1 bs)) g.3)
  where
    go : (c : ℕ) (t : List ℕ) → s ≡ num_bytes c ++ t → Members c n 0 0 v t rest → (v < 2 ^ n) × (s ≡ list_bytes (members v) ++ rest)
    go c t b r =
        let small : add_all r.l 0 < 2 ^ n = add_all_small 0 n r.l 0 r.asc (pow_pos n) in
        let asc : Asc 0 256 r.l = raise 0 n 256 r.l h r.asc in
        let is : members v ≡ r.l = ap members r.value ∙ members_of_set r.l asc (le_trans small (pow-le-pow_right {n = 2} (zero-lt-suc 1) h)) in (
          subst (λ (x : ℕ). x < 2 ^ n) (sym r.value) small,
          b ∙ ap (λ (z : List ℕ). num_bytes c ++ z) r.same ∙ sym (append_assoc (num_bytes c) (nums_bytes r.l) rest)
              ∙ ap (λ (x : ℕ). (num_bytes x ++ nums_bytes r.l) ++ rest) (sym r.len) ∙ ap (λ (z : List ℕ). list_bytes z ++ rest) (sym is),
        )

-- ---- a set written, and read again

members_back : (n p : ℕ) (m : Scopes) (l rest : List ℕ) → n ≤ 256 → Asc p n l
    → read_members (length l) n p m (nums_bytes l ++ rest) ≡ got (add_all l m) rest
unfolding read_members add_all nums_bytes
members_back n p m [] rest h a = refl
members_back n p m (k ∷ l) rest h a =
    rw (append_assoc (num_bytes k) (nums_bytes l) rest, num_back k (nums_bytes l ++ rest) (omega (arith, a.1)), lt-ltb p k a.0, le-leb k n a.1)
    (members_back n k (add k m) l rest h a.2)

pub asc_length : (p n : ℕ) (l : List ℕ) → Asc p n l → p + length l ≤ n ⊎ (l ≡ [])
asc_length p n [] a = inr refl
asc_length p n (k ∷ []) a = inl (omega (arith, a.0, a.1))
asc_length p n (k ∷ k' ∷ l) a = inl (longer (asc_length k n (k' ∷ l) a.2))
  where
    longer : k + length (k' ∷ l) ≤ n ⊎ (k' ∷ l ≡ []) → p + length (k ∷ k' ∷ l) ≤ n
    longer (inl h) = omega (arith, a.0)
    longer (inr e) = omega (arith, a.0, a.1, ap length e)

pub set_back : (n : ℕ) (m : Scopes) (rest : List ℕ) → n ≤ 256 → m < 2 ^ n → read_set n (set_bytes m ++ rest) ≡ got m rest
unfolding read_set set_bytes list_bytes
set_back n m rest h q =
    let small : Small m = le_trans q (pow-le-pow_right {n = 2} (zero-lt-suc 1) h) in
    rw (
      append_assoc (num_bytes (length (members m))) (nums_bytes (members m)) rest,
      num_back (length (members m)) (nums_bytes (members m) ++ rest) (short (asc_length 0 n (members m) (asc_of m n q))),
    )
    (members_back n 0 0 (members m) rest h (asc_of m n q) ∙ ap (λ (x : ℕ). got x rest) (set_of_members m small))
  where
    short : 0 + length (members m) ≤ n ⊎ (members m ≡ []) → length (members m) < 4294967296
    short (inl w) = omega arith
    short (inr e) = omega (arith, ap length e)
