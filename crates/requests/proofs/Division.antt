-- T-13: a file falls into images one after another, and two files one behind the other give the images of both.
use mathlib.Core.Path.{◌≡◌, refl, sym, ap, ◌∙◌}
use Prim.Native.Nat.{ℕ, zero, suc, ◌+◌, ◌-◌, ◌*◌, ◌≤◌, ◌<◌}
use native.Mathlib.Omega.{arith}
use mathlib.Core.Bool.{Bool, true, false, not}
use mathlib.Core.Option.{Option, none, some}
use mathlib.Core.List.{List, [], ◌∷◌, ◌++◌}
use lib.Dec.{eqb, ltb, leb}
use lib.ListN.{length, take, drop, length-append, length-drop}
use lib.Seq.{take-append-le, drop-append-le}
use borrow.Author.Tests.{le-leb, leb-true}
use Rattle.model.specs.Choice.{when◌then◌else◌, given}
use Rattle.model.specs.Refusals.{Refusal, layout, over_limit}
use Rattle.model.specs.Reading.{Read, got, fault, Reader, next, give, need, byte, groups, num}
use Rattle.codec_laws.proofs.NumberTrip.{fault≢got, got-value, got-rest}
use Rattle.codec_laws.proofs.Sequence.{next-got}
use Rattle.requests.specs.Report.{cut_off, and_then, first_of, divided, images_of}

-- ---- a number is read alike whatever follows, and takes at least one byte

-- of a reader: more bytes behind what it reads stay behind, and it makes none
record Front {A : Type 0} (r : Reader A) : Type 0 where
  more : (s t rest : List ℕ) (v : A) → r s ≡ got v rest → r (s ++ t) ≡ got v (rest ++ t)
  less : (s rest : List ℕ) (v : A) → r s ≡ got v rest → length rest ≤ length s

front-give : {A : Type 0} (a : A) → Front (give a)
front-give {A} a = record { more = same; less = λ s rest v e. omega (arith, ap length (got-rest a v s rest e)) }
  where
    same : (s t rest : List ℕ) (v : A) → got a s ≡ got v rest → got a (s ++ t) ≡ got v (rest ++ t)
    same s t rest v e = cc

front-fail : {A : Type 0} (c : Refusal) → Front {A = A} (λ s. fault c)
front-fail c = record { more = λ s t rest v e. absurd (fault≢got c v rest e); less = λ s rest v e. absurd (fault≢got c v rest e) }

front-next : {A B : Type 0} (m : Reader A) (f : A → Reader B) → Front m → ((a : A) → Front (f a)) → Front (λ s. next (m s) f)
front-next {A} {B} m f h k = record { more = further; less = shorter }
  where
    further : (s t rest : List ℕ) (v : B) → next (m s) f ≡ got v rest → next (m (s ++ t)) f ≡ got v (rest ++ t)
    further s t rest v e =
        let n = next-got (m s) f v rest e in
        ap (λ (z : Read A). next z f) (h.more s t n.1 n.0 n.2) ∙ (k n.0).more n.1 t rest v n.3

    shorter : (s rest : List ℕ) (v : B) → next (m s) f ≡ got v rest → length rest ≤ length s
    shorter s rest v e =
        let n = next-got (m s) f v rest e in
        omega (arith, h.less s n.1 n.0 n.2, (k n.0).less n.1 rest v n.3)

front_if : {A : Type 0} (b : Bool) (m n : Reader A) → Front m → Front n → Front (when b then m else n)
front_if true m n h k = h
front_if false m n h k = k

front-need : (c : Refusal) (b : Bool) → Front (need c b)
front-need c true = front-give tt
front-need c false = front-fail c

front-byte : Front byte
unfolding byte
front-byte = record { more = further; less = shorter }
  where
    further : (s t rest : List ℕ) (v : ℕ) → byte s ≡ got v rest → byte (s ++ t) ≡ got v (rest ++ t)
    further [] t rest v e = absurd (fault≢got layout v rest e)
    further (b ∷ s) t rest v e = let p = got-value b v s rest e in let q = got-rest b v s rest e in cc

    shorter : (s rest : List ℕ) (v : ℕ) → byte s ≡ got v rest → length rest ≤ length s
    shorter [] rest v e = absurd (fault≢got layout v rest e)
    shorter (b ∷ s) rest v e = omega (arith, ap length (got-rest b v s rest e))

front-last : (b w n : ℕ) → Front (λ s. next (need layout (not (eqb b 0)) s) (λ a. give (n + b * w)))
front-last b w n = front-next (need layout (not (eqb b 0))) (λ a. give (n + b * w)) (front-need layout (not (eqb b 0))) (λ a. front-give (n + b * w))

front-groups : (k w n : ℕ) → Front (groups k w n)
unfolding groups
front-groups zero w n =
    front-next byte (λ b s. next (need over_limit (leb b 15) s) (λ a s. next (need layout (not (eqb b 0)) s) (λ a. give (n + b * w)))) front-byte (λ b.
    front-next (need over_limit (leb b 15)) (λ a s. next (need layout (not (eqb b 0)) s) (λ a. give (n + b * w))) (front-need over_limit (leb b 15)) (λ a.
    front-last b w n))
front-groups (suc k) w n =
    front-next byte (λ b. when ltb b 128 then (λ s. next (need layout (not (eqb b 0)) s) (λ a. give (n + b * w))) else groups k (w * 128) (n + (b - 128) * w)) front-byte (λ b.
    front_if (ltb b 128) (λ s. next (need layout (not (eqb b 0)) s) (λ a. give (n + b * w))) (groups k (w * 128) (n + (b - 128) * w)) (front-last b w n)
    (front-groups k (w * 128) (n + (b - 128) * w)))

front_rest : (b : ℕ) → Front (when ltb b 128 then give b else groups 3 128 (b - 128))
front_rest b = front_if (ltb b 128) (give b) (groups 3 128 (b - 128)) (front-give b) (front-groups 3 128 (b - 128))

pub num-more : (s t rest : List ℕ) (n : ℕ) → num s ≡ got n rest → num (s ++ t) ≡ got n (rest ++ t)
unfolding num
num-more s t rest n e =
    (front-next byte (λ b. when ltb b 128 then give b else groups 3 128 (b - 128)) front-byte front_rest).more s t rest n e

num_less : (b : ℕ) (s rest : List ℕ) (n : ℕ) → num (b ∷ s) ≡ got n rest → length rest ≤ length s
unfolding num byte
num_less b s rest n e = (front_rest b).less s rest n e

cut_off-is : (n : ℕ) (s : List ℕ) → cut_off (got n s) ≡ (when leb n (length s) then some (take n s, drop n s) else none)
unfolding cut_off
cut_off-is n s = refl

cut_off-fault : (c : Refusal) → cut_off (fault c) ≡ none
unfolding cut_off
cut_off-fault c = refl

-- ---- how a file falls into images, whatever the bound on their count

abbrev Files : Type 0
Files = List ℕ → Option (List (List ℕ))

first-same : (f g : Files) (s : List ℕ) → ((t : List ℕ) → length t < length s → f t ≡ g t) → first_of f s ≡ first_of g s
unfolding first_of cut_off
first-same f g [] h = refl
first-same f g (b ∷ s) h = go (num (b ∷ s)) refl
  where
    cut : (n : ℕ) (rest : List ℕ) → length rest ≤ length s → (t : Bool)
        → and_then f (when t then some (take n rest, drop n rest) else none) ≡ and_then g (when t then some (take n rest, drop n rest) else none)
    cut n rest k true =
        ap (λ (z : Option (List (List ℕ))). given z (λ l. some (take n rest ∷ l))) (h (drop n rest) (omega (arith, length-drop n rest)))
    cut n rest k false = refl

    go : (o : Read ℕ) → num (b ∷ s) ≡ o → and_then f (cut_off o) ≡ and_then g (cut_off o)
    go (got n rest) e = cut n rest (num_less b s rest n e) (leb n (length rest))
    go (fault c) e = refl

one_more : (f : ℕ) (s : List ℕ) → length s ≤ f → divided (suc f) s ≡ divided f s
unfolding divided
one_more zero s h = first-same (divided zero) (λ t. none) s (λ t k. absurd (omega arith))
one_more (suc f) s h = first-same (divided (suc f)) (divided f) s (λ t k. one_more f t (omega arith))

many_more : (d n : ℕ) (s : List ℕ) → length s ≤ n → divided (d + n) s ≡ divided n s
many_more zero n s h = ap (λ (k : ℕ). divided k s) (none_more n)
  where
    none_more : (m : ℕ) → 0 + m ≡ m
    none_more m = omega arith
many_more (suc d) n s h = ap (λ (k : ℕ). divided k s) (step d n) ∙ one_more (d + n) s (omega arith) ∙ many_more d n s h
  where
    step : (c m : ℕ) → suc c + m ≡ suc (c + m)
    step c m = omega arith

enough : (n : ℕ) (s : List ℕ) → length s ≤ n → divided n s ≡ images_of s
unfolding images_of
enough n s h = ap (λ (k : ℕ). divided k s) (parts n (length s) h) ∙ many_more (n - length s) (length s) s (omega arith)
  where
    parts : (a b : ℕ) → b ≤ a → a ≡ (a - b) + b
    parts a b k = omega arith

pub one_image_at_a_time : (s : List ℕ) → images_of s ≡ first_of images_of s
unfolding images_of divided first_of
one_image_at_a_time [] = refl
one_image_at_a_time (b ∷ s) = first-same (divided (length s)) images_of (b ∷ s) (λ t h. enough (length s) t (omega arith))

-- ---- two files, one behind the other

given-same : (o : Option (List (List ℕ))) → o ≡ given o (λ y. some y)
given-same none = refl
given-same (some y) = refl

none≢some : {A : Type 0} (a : A) → none ≡ some a → ⊥
none≢some a e = let z : ◌≡◌ {A = ℕ} 0 1 = cc in omega arith

given-some : (o : Option (List (List ℕ))) (a : List ℕ) (x : List (List ℕ)) → given o (λ l. some (a ∷ l)) ≡ some x
    → (y : List (List ℕ)) × (o ≡ some y) × (a ∷ y ≡ x)
given-some none a x e = absurd (none≢some x e)
given-some (some y) a x e = (y, refl, inside (a ∷ y) x e)
  where
    inside : (p q : List (List ℕ)) → some p ≡ some q → p ≡ q
    inside p q k = cc

-- behind a file that falls into x, what is there falls as it does alone
abbrev Behind : List ℕ → List ℕ → List (List ℕ) → Type 0
Behind a b x = images_of (a ++ b) ≡ given (images_of b) (λ y. some (x ++ y))

moved_in : (o : Option (List (List ℕ))) (a : List ℕ) (x : List (List ℕ))
    → given (given o (λ y. some (x ++ y))) (λ l. some (a ∷ l)) ≡ given o (λ y. some ((a ∷ x) ++ y))
moved_in none a x = refl
moved_in (some y) a x = refl

cut-more : (n : ℕ) (rest b : List ℕ) → n ≤ length rest → cut_off (got n (rest ++ b)) ≡ some (take n rest, drop n rest ++ b)
unfolding cut_off
cut-more n rest b h =
    rw (le-leb n (length (rest ++ b)) (omega (arith, length-append rest b)), take-append-le n rest b h, drop-append-le n rest b h)

behind-first : (b a : List ℕ) (x : List (List ℕ)) → ((t : List ℕ) (y : List (List ℕ)) → length t < length a → images_of t ≡ some y → Behind t b y)
    → images_of a ≡ some x → Behind a b x
unfolding first_of
behind-first b [] x h e = given-same (images_of b) ∙ ap (λ (z : List (List ℕ)). given (images_of b) (λ y. some (z ++ y))) (nothing (sym (one_image_at_a_time []) ∙ e))
  where
    nothing : some [] ≡ some x → [] ≡ x
    nothing k = cc
behind-first b (c ∷ a) x h e = go (num (c ∷ a)) refl (sym (one_image_at_a_time (c ∷ a)) ∙ e)
  where
    cut : (n : ℕ) (rest : List ℕ) → num (c ∷ a) ≡ got n rest → (t : Bool) → leb n (length rest) ≡ t
        → and_then images_of (when t then some (take n rest, drop n rest) else none) ≡ some x → Behind (c ∷ a) b x
    cut n rest k false l q = absurd (none≢some x q)
    cut n rest k true l q =
        let g = given-some (images_of (drop n rest)) (take n rest) x q in
        one_image_at_a_time (c ∷ (a ++ b))
        ∙ ap (λ (o : Read ℕ). and_then images_of (cut_off o)) (num-more (c ∷ a) b rest n k)
        ∙ ap (λ (o : Option (List ℕ × List ℕ)). and_then images_of o) (cut-more n rest b (leb-true n (length rest) l))
        ∙ ap (λ (z : Option (List (List ℕ))). given z (λ l. some (take n rest ∷ l)))
        (h (drop n rest) g.0 (omega (arith, length-drop n rest, num_less c a rest n k)) g.1)
        ∙ moved_in (images_of b) (take n rest) g.0
        ∙ ap (λ (z : List (List ℕ)). given (images_of b) (λ y. some (z ++ y))) g.2

    opened : (n : ℕ) (rest : List ℕ) → and_then images_of (cut_off (got n rest)) ≡ some x
        → and_then images_of (when leb n (length rest) then some (take n rest, drop n rest) else none) ≡ some x
    opened n rest q = sym (ap (λ (o : Option (List ℕ × List ℕ)). and_then images_of o) (cut_off-is n rest)) ∙ q

    go : (o : Read ℕ) → num (c ∷ a) ≡ o → and_then images_of (cut_off o) ≡ some x → Behind (c ∷ a) b x
    go (got n rest) k q = cut n rest k (leb n (length rest)) refl (opened n rest q)
    go (fault r) k q = absurd (none≢some x (sym (ap (λ (o : Option (List ℕ × List ℕ)). and_then images_of o) (cut_off-fault r)) ∙ q))

behind : (n : ℕ) (a b : List ℕ) (x : List (List ℕ)) → length a ≤ n → images_of a ≡ some x → Behind a b x
behind zero a b x h e = behind-first b a x (λ t y k f. absurd (omega arith)) e
behind (suc n) a b x h e = behind-first b a x (λ t y k f. behind n t b y (omega arith) f) e

pub images-behind : (a b : List ℕ) (x : List (List ℕ)) → images_of a ≡ some x → images_of (a ++ b) ≡ given (images_of b) (λ y. some (x ++ y))
images-behind a b x e = behind (length a) a b x (omega arith) e

pub images_of_both : (a b : List ℕ) (x y : List (List ℕ)) → images_of a ≡ some x → images_of b ≡ some y → images_of (a ++ b) ≡ some (x ++ y)
images_of_both a b x y e f = images-behind a b x e ∙ ap (λ (o : Option (List (List ℕ))). given o (λ y. some (x ++ y))) f
