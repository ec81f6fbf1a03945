-- A set written member by member, as the definition lists them.
use Prim.Native.Nat.{ℕ, zero, suc, ◌+◌, ◌-◌, ◌*◌, ◌/◌, ◌%◌, ◌^◌, ◌≤◌, ◌<◌}
use mathlib.Core.Path.{◌≡◌, refl, sym, ap, ap₂, ◌∙◌}
use mathlib.Core.List.{List, [], ◌∷◌, ◌++◌}
use mathlib.Core.Bool.{Bool, true, false}
use native.Mathlib.Nat.{zero-add, add-zero, suc-add, div-one}
use native.Mathlib.Omega.{arith}
use native.Mathlib.Numerals.{add-one}
use lib.ListN.{length, length-append}
use lib.Pow.{shr-shr, field, mod-mod-pow}
use lib.Seq.{sets, length-sets}
use lib.Dec.{eqb, ltb}
use borrow.Author.Tests.{ltb-true, ltb-false}
use Rattle.model.specs.Limits.{most_scopes}
use Rattle.model.specs.Scopes.{Scopes, digit, has, keep, members_from, members}
use Rattle.model.specs.Writing.{num_bytes, nums_bytes, list_bytes, set_bytes, sets_bytes}
use Rattle.scopes.specs.declared.Scope.{Scope}
use Rattle.scopes.specs.Sets.{Declared, long_members}
use Rattle.numbers.proofs.Writing.{sets_append, len-one, len-two}

-- ---- the members above k

unfoldable pub halved : ℕ → Scopes → Scopes
halved zero m = m
halved (suc k) m = halved k (m / 2)

halved_next : (k : ℕ) (m : Scopes) → halved k m / 2 ≡ halved (suc k) m
unfolding halved
halved_next zero m = refl
halved_next (suc k) m = halved_next k (m / 2)

digit-is : (k : ℕ) (m : Scopes) → eqb (halved k m % 2) 1 ≡ digit k m
unfolding halved digit
digit-is zero m = refl
digit-is (suc k) m = digit-is k (m / 2)

unfoldable pub above : ℕ → Scopes → List ℕ
above k m = members_from (256 - k) (suc k) (halved k m)

pub above_all : (m : Scopes) → above 0 m ≡ members m
unfolding above members halved most_scopes
above_all m = refl

pub above_none : (k : ℕ) (m : Scopes) → 256 ≤ k → above k m ≡ []
unfolding above members_from
above_none k m h = let e : 256 - k ≡ 0 = omega arith in rw e

above_next : (k : ℕ) (m : Scopes) → k < 256 → above k m ≡ keep (has (suc k) m) (suc k) (above (suc k) m)
unfolding above members_from has
above_next k m h =
    let e : 256 - k ≡ suc (256 - suc k) = omega arith in
    rw (e, digit-is, halved_next)

module _ (k : ℕ) (m : Scopes) (h : k < 256) {b : Bool} (e : b ≡ has (k + 1) m) where
  is : above k m ≡ keep b (k + 1) (above (k + 1) m)
  is = rw (e, add-one) (above_next k m h)

  pub above_there : b ≡ true → above k m ≡ (k + 1) ∷ above (k + 1) m
  unfolding keep
  above_there t = rw t at is

  pub above_absent : b ≡ false → above k m ≡ above (k + 1) m
  unfolding keep
  above_absent t = rw t at is

-- ---- a member takes one byte, from 128 on two

short-from : (c n : ℕ) (m : Scopes) → n + c ≤ 128 → length (nums_bytes (members_from c n m)) ≡ length (members_from c n m)
unfolding members_from keep nums_bytes
short-from zero n m h = refl
short-from (suc c) n m h = go (eqb (m % 2) 1) (members_from c (suc n) (m / 2)) (short-from c (suc n) (m / 2) (omega arith))
  where
    go : (t : Bool) (l : List ℕ) → length (nums_bytes l) ≡ length l → length (nums_bytes (keep t n l)) ≡ length (keep t n l)
    go true l r = let a = length-append (num_bytes n) (nums_bytes l) in let o = len-one n (omega arith) in omega arith
    go false l r = r

long-from : (c n : ℕ) (m : Scopes) → 128 ≤ n → n + c ≤ 16384 → length (nums_bytes (members_from c n m)) ≡ 2 * length (members_from c n m)
unfolding members_from keep nums_bytes
long-from zero n m g h = refl
long-from (suc c) n m g h = go (eqb (m % 2) 1) (members_from c (suc n) (m / 2)) (long-from c (suc n) (m / 2) (omega arith) (omega arith))
  where
    go : (t : Bool) (l : List ℕ) → length (nums_bytes l) ≡ 2 * length l → length (nums_bytes (keep t n l)) ≡ 2 * length (keep t n l)
    go true l r = let a = length-append (num_bytes n) (nums_bytes l) in let o = len-two n g (omega arith) in omega arith
    go false l r = r

-- the members among the d low digits, and those above
members_split : (d c n x : ℕ) → members_from (d + c) n x ≡ members_from d n (x % 2 ^ d) ++ members_from c (n + d) (x / 2 ^ d)
unfolding members_from keep
members_split zero c n x = rw (zero-add c, add-zero n, div-one x)
members_split (suc d) c n x =
    let same : x % 2 ^ suc d % 2 ≡ x % 2 = ap (λ (e : ℕ). x % 2 ^ e % 2) plus ∙ mod-mod-pow x d 1 in
    let half : x % 2 ^ suc d / 2 ≡ x / 2 % 2 ^ d = ap (λ (e : ℕ). x % 2 ^ e / 2) plus ∙ field x d 1 in
    let rest : x / 2 / 2 ^ d ≡ x / 2 ^ suc d = shr-shr x 1 d ∙ ap (λ (e : ℕ). x / 2 ^ e) (let e : 1 + d ≡ suc d = omega arith in e) in
    let from : suc n + d ≡ n + suc d = omega arith in
    ap (λ (e : ℕ). members_from e n x) (suc-add d c)
    ∙ ap (keep (eqb (x % 2) 1) n) (members_split d c (suc n) (x / 2))
    ∙ kept (eqb (x % 2) 1) (members_from d (suc n) (x / 2 % 2 ^ d)) (members_from c (suc n + d) (x / 2 / 2 ^ d))
    ∙ ap₂ (λ (p q : ℕ). keep (eqb p 1) n (members_from d (suc n) q) ++ members_from c (suc n + d) (x / 2 / 2 ^ d)) (sym same) (sym half)
    ∙ ap₂ (λ (p q : ℕ). members_from (suc d) n (x % 2 ^ suc d) ++ members_from c p q) from rest
  where
    plus : suc d ≡ d + 1
    plus = omega arith

    kept : (t : Bool) (k l : List ℕ) → keep t n (k ++ l) ≡ keep t n k ++ l
    kept true k l = refl
    kept false k l = refl

nums_append : (k l : List ℕ) → length (nums_bytes (k ++ l)) ≡ length (nums_bytes k) + length (nums_bytes l)
unfolding nums_bytes
nums_append [] l = sym (zero-add _)
nums_append (x ∷ k) l =
    let a = length-append (num_bytes x) (nums_bytes (k ++ l)) in
    let b = length-append (num_bytes x) (nums_bytes k) in
    let i = nums_append k l in
    omega arith

members-long : (m : Scopes) → length (nums_bytes (members m)) ≡ length (members m) + length (long_members m)
unfolding members most_scopes
members-long m =
    let low = members_from 127 1 (m % 2 ^ 127) in
    let split : members m ≡ low ++ long_members m = members_split 127 129 1 m in
    let n = ap (λ (l : List ℕ). length (nums_bytes l)) split ∙ nums_append low (long_members m) in
    let k = ap length split ∙ length-append low (long_members m) in
    let a = short-from 127 1 (m % 2 ^ 127) (omega arith) in
    let b = long-from 129 128 (m / 2 ^ 127) (omega arith) (omega arith) in
    omega arith

-- ---- the members written

-- the members above k are still to be written, `left` of them
pub record Putting (out₀ : List ℕ) (at : ℕ) (m : Scopes) (out : List ℕ) (here left k : ℕ) : Type 0 where
  pub most : k ≤ 256
  pub same : length out ≡ length out₀
  pub some : left ≡ length (above k m)
  pub past : here + length (nums_bytes (above k m)) ≡ at + length (nums_bytes (members m))
  pub bytes : sets out here (nums_bytes (above k m)) ≡ sets out₀ at (nums_bytes (members m))

pub put_members_start : {out : List ℕ} {at count : ℕ} {m : Scopes} → count ≡ length (members m) → Putting out at m out at count 0
put_members_start {out} {at} {count} {m} e =
    record {
      most = omega arith;
      same = refl;
      some = e ∙ ap length (sym (above_all m));
      past = ap (λ (l : List ℕ). at + length (nums_bytes l)) (above_all m);
      bytes = ap (λ (l : List ℕ). sets out at (nums_bytes l)) (above_all m);
    }

pub no-members : (l : List ℕ) → length l ≡ 0 → l ≡ []
no-members [] h = refl
no-members (x ∷ l) h = absurd (omega arith)

module _ {out₀ : List ℕ} {at : ℕ} {m : Scopes} {out : List ℕ} {here left k : ℕ} (p : Putting out₀ at m out here left k) where
  module _ (h : left ≤ 0) where
    none : above k m ≡ []
    none = no-members (above k m) (omega (arith, p.some))

    pub put_members_past : here ≡ at + length (nums_bytes (members m))
    unfolding nums_bytes
    put_members_past = let a : length (nums_bytes (above k m)) ≡ 0 = ap (λ (l : List ℕ). length (nums_bytes l)) none in omega (arith, p.past)

    pub put_members_bytes : out ≡ sets out₀ at (nums_bytes (members m))
    unfolding nums_bytes
    put_members_bytes = sym (ap (λ (l : List ℕ). sets out here (nums_bytes l)) none) ∙ p.bytes

  module _ (h : 0 < left) where
    put_members_next : k < 256
    put_members_next = go (ltb k 256) refl
      where
        go : (t : Bool) → ltb k 256 ≡ t → k < 256
        go true e = ltb-true k 256 e
        go false e = let a = ap length (above_none k m (ltb-false k 256 e)) in omega (arith, p.some)

    pub member_declared : {j : Scope} → j.0 ≡ k + 1 → Declared j
    member_declared e = let n = put_members_next in record { from_one = omega arith; most = omega arith }

    pub put_members_less : 256 - (k + 1) < 256 - k
    put_members_less = let n = put_members_next in omega arith

    pub put_members_fits : k + 1 < 4294967296
    put_members_fits = let n = put_members_next in omega arith

    module _ {b : Bool} (e : b ≡ has (k + 1) m) where
      pub put_members_absent : b ≡ false → Putting out₀ at m out here left (k + 1)
      put_members_absent t =
          let n = put_members_next in
          let a = above_absent k m n e t in
          record { most = omega arith; same = p.same; some = rw a at p.some; past = rw a at p.past; bytes = rw a at p.bytes }

      module _ (t : b ≡ true) where
        there : nums_bytes (above k m) ≡ num_bytes (k + 1) ++ nums_bytes (above (k + 1) m)
        unfolding nums_bytes
        there = ap nums_bytes (above_there k m put_members_next e t)

        led : length (nums_bytes (above k m)) ≡ length (num_bytes (k + 1)) + length (nums_bytes (above (k + 1) m))
        led = ap length there ∙ length-append (num_bytes (k + 1)) (nums_bytes (above (k + 1) m))

        pub member_room : at + length (nums_bytes (members m)) ≤ length out₀ → here + length (num_bytes (k + 1)) ≤ length out
        member_room r = let l = led in omega (arith, p.past, p.same)

        pub put_members_there : {out' : List ℕ} {here' : ℕ} → here' ≡ here + length (num_bytes (k + 1)) → out' ≡ sets out here (num_bytes (k + 1)) → Putting out₀ at m out' here' (left - 1) (k + 1)
        put_members_there {out'} {here'} i o =
            let n = put_members_next in
            let a = ap length (above_there k m n e t) in
            let l = led in
            record {
              most = omega arith;
              same = ap length o ∙ length-sets out here (num_bytes (k + 1)) ∙ p.same;
              some = omega (arith, p.some);
              past = omega (arith, p.past);
              bytes = rw (o, i) (sets_append (num_bytes (k + 1)) (nums_bytes (above (k + 1) m)) out here ∙ ap (sets out here) (sym there) ∙ p.bytes);
            }

-- ---- the set written

count-few : (c : ℕ) → c ≤ 256 → length (num_bytes c) ≤ 2
count-few c h = go (ltb c 128) refl
  where
    go : (t : Bool) → ltb c 128 ≡ t → length (num_bytes c) ≤ 2
    go true e = let o = len-one c (ltb-true c 128 e) in omega arith
    go false e = let o = len-two c (ltb-false c 128 e) (omega arith) in omega arith

module _ (m : Scopes) {c : ℕ} (e : c ≡ length (members m)) where
  split : set_bytes m ≡ num_bytes c ++ nums_bytes (members m)
  unfolding set_bytes list_bytes
  split = ap (λ (x : ℕ). num_bytes x ++ nums_bytes (members m)) (sym e)

  long : length (set_bytes m) ≡ length (num_bytes c) + length (nums_bytes (members m))
  long = ap length split ∙ length-append (num_bytes c) (nums_bytes (members m))

  pub set-len : {k d : ℕ} → k ≡ length (num_bytes c) → (d ≡ length (long_members m)) × (d ≤ 129) → k + c + d ≡ length (set_bytes m)
  set-len h (f, g) = let l = long in let s = members-long m in omega arith

  pub set-few : {k d : ℕ} → k ≡ length (num_bytes c) → c ≤ 256 → (d ≡ length (long_members m)) × (d ≤ 129) → k + c + d ≤ 387
  set-few h f (_, g) = let t = count-few c f in omega arith

  module _ (out : List ℕ) (at : ℕ) where
    pub count_room : at + length (set_bytes m) ≤ length out → at + length (num_bytes c) ≤ length out
    count_room h = let l = long in omega arith

    module _ {first : ℕ} (i : first ≡ at + length (num_bytes c)) where
      pub members-room : (out' : List ℕ) → length out' ≡ length out → at + length (set_bytes m) ≤ length out → first + length (nums_bytes (members m)) ≤ length out'
      members-room out' k h = let l = long in omega arith

      pub put_set_past : {r : ℕ} → r ≡ first + length (nums_bytes (members m)) → r ≡ at + length (set_bytes m)
      put_set_past h = let l = long in omega arith

      pub put_set_bytes : {out' out'' : List ℕ} → out' ≡ sets out at (num_bytes c) → out'' ≡ sets out' first (nums_bytes (members m)) → out'' ≡ sets out at (set_bytes m)
      put_set_bytes o h = h ∙ rw (split, o, i) (sets_append (num_bytes c) (nums_bytes (members m)) out at)

-- ---- three sets

module _ (a b d : Scopes) where
  three : sets_bytes (record { at0 = a; at1 = b; at2 = d }) ≡ set_bytes a ++ set_bytes b ++ set_bytes d
  unfolding sets_bytes
  three = refl

  three_long : length (sets_bytes (record { at0 = a; at1 = b; at2 = d })) ≡ length (set_bytes a) + (length (set_bytes b) + length (set_bytes d))
  three_long =
      let h = ap length three in
      let l = length-append (set_bytes a ++ set_bytes b) (set_bytes d) in
      let k = length-append (set_bytes a) (set_bytes b) in
      omega arith

  pub sets-len : {k l n : ℕ} → k ≡ length (set_bytes a) → l ≡ length (set_bytes b) → n ≡ length (set_bytes d) → k + l + n ≡ length (sets_bytes (record { at0 = a; at1 = b; at2 = d }))
  sets-len e f g = let h = three_long in omega arith

  module _ (out : List ℕ) (at : ℕ) where
    pub first-room : at + length (sets_bytes (record { at0 = a; at1 = b; at2 = d })) ≤ length out → at + length (set_bytes a) ≤ length out
    first-room h = let l = three_long in omega arith

    module _ {here : ℕ} (e : here ≡ at + length (set_bytes a)) where
      pub second-room : (out' : List ℕ) → length out' ≡ length out → at + length (sets_bytes (record { at0 = a; at1 = b; at2 = d })) ≤ length out → here + length (set_bytes b) ≤ length out'
      second-room out' k h = let l = three_long in omega arith

      module _ {here' : ℕ} (e' : here' ≡ here + length (set_bytes b)) where
        pub third-room : (out' out'' : List ℕ) → length out'' ≡ length out' → length out' ≡ length out → at + length (sets_bytes (record { at0 = a; at1 = b; at2 = d })) ≤ length out
            → here' + length (set_bytes d) ≤ length out''
        third-room out' out'' j k h = let l = three_long in omega arith

        pub sets_past : {r : ℕ} → r ≡ here' + length (set_bytes d) → r ≡ at + length (sets_bytes (record { at0 = a; at1 = b; at2 = d }))
        sets_past g = let l = three_long in omega arith

        pub sets-bytes : {out' out'' out''' : List ℕ} → out' ≡ sets out at (set_bytes a) → out'' ≡ sets out' here (set_bytes b) → out''' ≡ sets out'' here' (set_bytes d)
            → out''' ≡ sets out at (sets_bytes (record { at0 = a; at1 = b; at2 = d }))
        sets-bytes {out'} {out''} f g h =
            let p : out'' ≡ sets out at (set_bytes a ++ set_bytes b) = g ∙ rw (f, e) (sets_append (set_bytes a) (set_bytes b) out at) in
            let q : here' ≡ at + length (set_bytes a ++ set_bytes b) = let l = length-append (set_bytes a) (set_bytes b) in omega arith in
            h ∙ rw (p, q) (sets_append (set_bytes a ++ set_bytes b) (set_bytes d) out at ∙ ap (sets out at) (sym three))

pub ruleset set_writing = (put_members_start, put_members_past, put_members_bytes, member_declared, put_members_less, put_members_fits, put_members_absent, member_room, put_members_there, set-len, set-few, count_room, members-room, put_set_past, put_set_bytes, sets-len, first-room, second-room, third-room, sets_past, sets-bytes)
