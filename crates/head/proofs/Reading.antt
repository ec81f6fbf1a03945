-- Reading a head, by the tests that the code makes.
use Rattle.std.specs.Prelude.{Result, Ok, Err}
use Prim.Native.Nat.{ℕ, zero, suc, ◌+◌, ◌-◌, ◌≤◌, ◌<◌}
use mathlib.Core.Path.{◌≡◌, refl, sym, ap, ◌∙◌, subst}
use mathlib.Core.Logic.{◌⊎◌, inl, inr}
use mathlib.Core.List.{List, [], ◌∷◌}
use mathlib.Core.Bool.{Bool, true, false, not, ◌||◌, ◌&&◌}
use native.Mathlib.Omega.{arith}
use native.Mathlib.Nat.{le_refl}
use lib.ListN.{length, take, drop, length-drop}
use lib.Seq.{drop-drop, take_all}
use lib.Dec.{eqb, leb}
use mir.Syntax.{w32}
use mir.Val.{Fits}
use borrow.Author.Tests.{eq-eqb, ne_eqb, leb-true}
use Rattle.model.specs.Limits.{most_names, core_names, most_scopes, most_word_length}
use Rattle.model.specs.Refusals as r
use Rattle.model.specs.Refusals.{layout, over_limit, wrong_kind}
use Rattle.model.specs.Reading.{Read, Reader, got, fault, next, need, byte, bytes, num, num_up_to, read_words, core_words, good_word, among, read_head}
use Rattle.refusals.specs.declared.Refusal.{Refusal}
use Rattle.refusals.specs.declared.Refusal.TheVariants.{Layout, WrongKind}
use Rattle.refusals.specs.Refusing.{refusal_of, case_of}
use Rattle.refusals.proofs.Cases.{case_back, refusal_back}
use Rattle.numbers.specs.declared.Cursor.{Cursor}
use Rattle.numbers.specs.Answers.{answer_at, read_at, placed, place_at, kept}
use Rattle.numbers.proofs.Tails.{behind-one, behind_trans, Tail, tail_got, tail_fault, tail_give, tail_next, tail_need, num_tail, up_to_tail}
use Rattle.numbers.proofs.Answering.{read_shape, place_shape, Took, took, refused, stops, gives, refuses}
use Rattle.codec_laws.proofs.Sequence.{next-got}
use Rattle.codec_laws.proofs.NumberTrip.{got-value}
use Rattle.words.specs.Section.{no_word, seen_after, Midway, WordsRead}
use Rattle.head.specs.declared.Head.{Head}
use Rattle.head.specs.Heads.{read_kind, read_counts, read_after_kind, head_at, CountsRead}

-- ---- the kind

kind_tail : (kind : ℕ) (s : List ℕ) → Tail s (read_kind kind s)
unfolding read_kind
kind_tail kind s =
    tail_next _ (num_tail s) (λ k t. tail_next _ (tail_need layout (eqb k 1 || eqb k 2) t) (λ x u. tail_need wrong_kind (eqb k kind) u))

-- what is kept of what follows is what follows, kept
pub kept_unit : (g : Read (Unit {0})) → kept (λ a. tt {0}) g ≡ g
kept_unit (got tt s) = refl
kept_unit (fault r) = refl

module _ (s : List ℕ) (kind : ℕ) {q : Result (ℕ × Cursor) Refusal} (h : q ≡ read_at (0 + length s) (num s)) where
  zero-end : 0 + length s ≡ length s
  zero-end = omega arith

  placed_at : {x : Result Cursor Refusal} → x ≡ answer_at placed (0 + length s) (read_kind kind s) → x ≡ place_at (length s) (read_kind kind s)
  placed_at e = e ∙ ap (λ (n : ℕ). answer_at placed n (read_kind kind s)) zero-end ∙ ap (answer_at placed (length s)) (sym (kept_unit (read_kind kind s)))

  pub kind-stops : {f : Refusal} → q ≡ Err f → Err f ≡ place_at (length s) (read_kind kind s)
  unfolding read_kind
  kind-stops e = placed_at (stops read_shape placed (0 + length s) (num s) _ h e)

  module _ {k : ℕ} {past : Cursor} (e : q ≡ Ok (k, past)) where
    unknown : eqb k 1 ≡ false → eqb k 2 ≡ false → Err Layout ≡ place_at (length s) (read_kind kind s)
    unfolding read_kind
    unknown a b = placed_at (refuses read_shape placed 0 (num s) _ h e (num_tail s) (λ u. rw (a, b)))

    kind-zero : k ≡ 0 → Err Layout ≡ place_at (length s) (read_kind kind s)
    kind-zero z = unknown (ne_eqb k 1 (λ i. omega arith)) (ne_eqb k 2 (λ i. omega arith))

    kind-over : 2 < k → Err Layout ≡ place_at (length s) (read_kind kind s)
    kind-over z = unknown (ne_eqb k 1 (λ i. omega arith)) (ne_eqb k 2 (λ i. omega arith))

    pub kind-unknown : (k ≡ 0) ⊎ ((k ≡ 0 → ⊥) × (2 < k)) → Err Layout ≡ place_at (length s) (read_kind kind s)
    kind-unknown (inl z) = kind-zero z
    kind-unknown (inr z) = kind-over z.1

    module _ (some : k ≡ 0 → ⊥) (known : k ≤ 2) where
      one_or_two : (eqb k 1 || eqb k 2) ≡ true
      one_or_two = go (eqb k 1) refl
        where
          go : (t : Bool) → eqb k 1 ≡ t → (t || eqb k 2) ≡ true
          go true i = refl
          go false i = eq-eqb k 2 (omega (arith, eqb_no k 1 i))
            where
              eqb_no : (a b : ℕ) → eqb a b ≡ false → a ≡ b → ⊥
              eqb_no a b i j = let z : true ≡ false = sym (eq-eqb a b j) ∙ i in let y : ◌≡◌ {A = ℕ} 0 1 = cc in omega arith

      pub kind-wrong : (k ≡ kind → ⊥) → Err WrongKind ≡ place_at (length s) (read_kind kind s)
      unfolding read_kind
      kind-wrong n = placed_at (refuses read_shape placed 0 (num s) _ h e (num_tail s) (λ u. rw (one_or_two, ne_eqb k kind n)))

      pub kind_right : k ≡ kind → Ok past ≡ place_at (length s) (read_kind kind s)
      unfolding read_kind
      kind_right n = placed_at (gives read_shape placed 0 (num s) _ h e (num_tail s) {l = tt} (λ u. rw (one_or_two, eq-eqb k kind n)))

-- ---- something read at the place `at` of the image s, through the image from there on

pub whole : (s : List ℕ) (at : ℕ) → take (length s - at) (drop at s) ≡ drop at s
whole s at = take_all (length s - at) (drop at s) (rw length-drop (le_refl (length s - at)))

pub record Here {K : Type 0} (s : List ℕ) (at : ℕ) (g : Reader K) (k : K) (past : ℕ) : Type 0 where
  pub reads : g (drop at s) ≡ got k (drop past s)
  pub within : past ≤ length s

module _ (s : List ℕ) (at : ℕ) (inside : at ≤ length s) (g : Reader ℕ) {q : Result (ℕ × Cursor) Refusal}
    (h : q ≡ read_at (at + length (take (length s - at) (drop at s))) (g (take (length s - at) (drop at s)))) where
  h' : q ≡ read_at (at + length (drop at s)) (g (drop at s))
  h' = subst (λ (l : List ℕ). q ≡ read_at (at + length l) (g l)) (whole s at) h

  pub here-fault : {f : Refusal} → q ≡ Err f → g (drop at s) ≡ fault (refusal_of f)
  here-fault e = refused read_shape (at + length (drop at s)) (g (drop at s)) h' e

  pub here : {k : ℕ} {past : Cursor} → q ≡ Ok (k, past) → Tail (drop at s) (g (drop at s)) → Here s at g k past.at
  here {k} {past} e t =
      let T : Took at (drop at s) (g (drop at s)) k past.at = took read_shape h' e t in
      let d : at + (past.at - at) ≡ past.at = omega (arith, T.moved) in
      let l = length-drop at s in
      record { reads = T.is ∙ ap (got k) (drop-drop (past.at - at) at s ∙ ap (λ (j : ℕ). drop j s) d); within = omega (arith, T.within) }

end-here : (s : List ℕ) (c : Cursor) → c.at ≤ length s → record { at = length s - length (drop c.at s) } ≡ c
end-here s c h = let d : length s - length (drop c.at s) ≡ c.at = rw length-drop (omega arith) in ap (λ (n : ℕ). record { at = n }) d

-- a number that was taken is at most its limit
pub at_most : (c : r.Refusal) (m k : ℕ) (u v : List ℕ) → num_up_to c m u ≡ got k v → k ≤ m
unfolding num_up_to
at_most c m k u v e = go (num u) e
  where
    go : (g : Read ℕ) → next g (λ n s. next (need c (leb n m) s) (λ x t. got n t)) ≡ got k v → k ≤ m
    go (fault x) e = let z : ◌≡◌ {A = ℕ} 0 1 = cc in absurd (omega arith)
    go (got n s) e = tested (leb n m) refl e
      where
        tested : (b : Bool) → leb n m ≡ b → next (need c b s) (λ x t. got n t) ≡ got k v → k ≤ m
        tested true q f = let i : n ≡ k = cc in omega (arith, leb-true n m q)
        tested false q f = let z : ◌≡◌ {A = ℕ} 0 1 = cc in absurd (omega arith)

-- ---- the counts

module _ (s : List ℕ) (at words : ℕ) (inside : at ≤ length s) {q : Result (ℕ × Cursor) Refusal}
    (h : q ≡ read_at (at + length (take (length s - at) (drop at s))) (num_up_to over_limit (1020 - words) (take (length s - at) (drop at s)))) where
  pub made-stops : {f : Refusal} {x : Result (Head × Cursor) Refusal} → q ≡ Err f → x ≡ Err f → CountsRead s at words x
  unfolding read_counts most_names core_names
  made-stops {f} {x} e y =
      let g = here-fault s at inside (num_up_to over_limit (1020 - words)) h e in
      record { means = λ ws n. y ∙ rw g (ap (λ (k : Refusal). Err k) (sym (case_back f))) }

  module _ {made : ℕ} {past : Cursor} (e : q ≡ Ok (made, past)) where
    H : Here s at (num_up_to over_limit (1020 - words)) made past.at
    H = here s at inside (num_up_to over_limit (1020 - words)) h e (up_to_tail over_limit (1020 - words) (drop at s))

    pub made-within : past.at ≤ length s
    made-within = H.within

    pub made-fits : length s ≤ 65536 → past.at + length (take (length s - past.at) (drop past.at s)) ≤ 65536
    made-fits l = rw (whole s past.at, length-drop) (omega (arith, made-within))

    pub made-few : words ≤ 1020 → Fits w32 (4 + words + made)
    made-few l = omega (arith, at_most over_limit (1020 - words) made (drop at s) (drop past.at s) H.reads)

    module _ {p : Result (ℕ × Cursor) Refusal} (h₂ : p ≡ read_at (past.at + length (take (length s - past.at) (drop past.at s))) (num_up_to over_limit 256 (take (length s - past.at) (drop past.at s)))) where
      pub scopes_stop : {f : Refusal} {x : Result (Head × Cursor) Refusal} → p ≡ Err f → x ≡ Err f → CountsRead s at words x
      unfolding read_counts most_names core_names most_scopes
      scopes_stop {f} {x} e₂ y =
          let g = here-fault s past.at made-within (num_up_to over_limit 256) h₂ e₂ in
          record { means = λ ws n. y ∙ rw (H.reads, g) (ap (λ (k : Refusal). Err k) (sym (case_back f))) }

      pub counts-read : {scopes : ℕ} {end : Cursor} → p ≡ Ok (scopes, end) → CountsRead s at words (Ok ((record { words = words; names = 4 + words + made; scopes = scopes }), end))
      unfolding read_counts most_names core_names most_scopes
      counts-read {scopes} {end} e₂ =
          let G = here s past.at made-within (num_up_to over_limit 256) h₂ e₂ (up_to_tail over_limit 256 (drop past.at s)) in
          record {
            means = λ ws n.
                rw (H.reads, G.reads, n, end-here s end G.within) refl;
          }

-- ---- the words

bytes_tail : (k : ℕ) (s : List ℕ) → Tail s (bytes k s)
unfolding bytes byte
bytes_tail zero s = tail_give [] s
bytes_tail (suc k) [] = tail_fault
bytes_tail (suc k) (b ∷ s) =
    tail_from_one (bytes_tail k s)
  where
    tail_from_one : {g : Read (List ℕ)} → Tail s g → Tail (b ∷ s) (next g (λ r t. got (b ∷ r) t))
    tail_from_one (tail_got w) = tail_got (behind_trans (behind-one b s) w)
    tail_from_one tail_fault = tail_fault

pub words_tail : (n : ℕ) (seen : List (List ℕ)) (s : List ℕ) → Tail s (read_words n seen s)
unfolding read_words
words_tail zero seen s = tail_give [] s
words_tail (suc n) seen s =
    tail_next _ (num_tail s) (λ k t. tail_next _ (tail_need layout (not (eqb k 0)) t) (λ x u.
    tail_next _ (tail_need over_limit (leb k most_word_length) u) (λ y v. tail_next _ (bytes_tail k v) (λ w z.
    tail_next _ (tail_need layout (good_word w && not (among w seen)) z) (λ a b.
    tail_next _ (words_tail n (w ∷ seen) b) (λ c d. tail_give (w ∷ c) d))))))

-- as many as were asked for
pub words_count : (n : ℕ) (seen ws : List (List ℕ)) (s rest : List ℕ) → read_words n seen s ≡ got ws rest → length ws ≡ n
unfolding read_words
words_count zero seen ws s rest e = let i : [] ≡ ws = cc in ap length (sym i)
words_count (suc n) seen ws s rest e =
    let a = next-got (num s) _ ws rest e in
    let b = next-got (need layout (not (eqb a.0 0)) a.1) _ ws rest a.3 in
    let c = next-got (need over_limit (leb a.0 most_word_length) b.1) _ ws rest b.3 in
    let d = next-got (bytes a.0 c.1) _ ws rest c.3 in
    let f = next-got (need layout (good_word d.0 && not (among d.0 seen)) d.1) _ ws rest d.3 in
    let g = next-got (read_words n (d.0 ∷ seen) f.1) _ ws rest f.3 in
    sym (ap length (got-value (d.0 ∷ g.0) ws g.1 rest g.3)) ∙ ap suc (words_count n (d.0 ∷ seen) g.0 f.1 g.1 g.2)

module _ (s : List ℕ) (start n : ℕ) (inside : start ≤ length s) {p : Result Cursor Refusal} (w : WordsRead s start start 0 n p) where
  first-words : p ≡ place_at (length s) (read_words n core_words (drop start s))
  unfolding seen_after
  first-words = w.means [] no_word

  words-fault : {f : Refusal} → p ≡ Err f → read_words n core_words (drop start s) ≡ fault (refusal_of f)
  words-fault {f} e = go (read_words n core_words (drop start s)) (sym e ∙ first-words)
    where
      go : (g : Read (List (List ℕ))) → Err f ≡ place_at (length s) g → g ≡ fault (refusal_of f)
      go (got a rest) q = let z : ◌≡◌ {A = ℕ} 0 1 = cc in absurd (omega arith)
      go (fault x) q = let i : f ≡ case_of x = cc in ap fault (sym (refusal_back x) ∙ ap refusal_of (sym i))

  pub record Words (past : ℕ) : Type 0 where
    pub ws : List (List ℕ)
    pub reads : read_words n core_words (drop start s) ≡ got ws (drop past s)
    pub count : length ws ≡ n
    pub within : past ≤ length s

  words-here : {c : Cursor} → p ≡ Ok c → Words c.at
  words-here {c} e = go (read_words n core_words (drop start s)) refl (words_tail n core_words (drop start s)) (sym e ∙ first-words)
    where
      go : (g : Read (List (List ℕ))) → read_words n core_words (drop start s) ≡ g → Tail (drop start s) g → Ok c ≡ place_at (length s) g → Words c.at
      go (got a rest) i (tail_got b) q =
          let at-is : c ≡ record { at = length s - length rest } = cc in
          let d : c.at ≡ length s - length rest = ap (λ (x : Cursor). x.at) at-is in
          let r : rest ≡ drop (start + b.by) s = b.is ∙ drop-drop b.by start s in
          let l : length rest ≡ length s - (start + b.by) = ap length r ∙ length-drop (start + b.by) s in
          let v : b.by ≤ length s - start = subst (λ (x : ℕ). b.by ≤ x) (length-drop start s) b.within in
          let at : start + b.by ≡ c.at = omega arith in
          let r' : rest ≡ drop c.at s = r ∙ ap (λ (x : ℕ). drop x s) at in
          record { ws = a; reads = i ∙ ap (got a) r'; count = words_count n core_words a (drop start s) rest i; within = omega arith }
      go (fault x) i tail_fault q = let z : ◌≡◌ {A = ℕ} 0 1 = cc in absurd (omega arith)

-- ---- behind the kind

module _ (s : List ℕ) (at : ℕ) (inside : at ≤ length s) {q : Result (ℕ × Cursor) Refusal}
    (h : q ≡ read_at (at + length (take (length s - at) (drop at s))) (num_up_to over_limit 1020 (take (length s - at) (drop at s)))) where
  pub count-stops : {f : Refusal} → q ≡ Err f → Err f ≡ head_at (length s) (read_after_kind (drop at s))
  unfolding read_after_kind most_names core_names
  count-stops {f} e =
      let g = here-fault s at inside (num_up_to over_limit 1020) h e in
      rw g (ap (λ (k : Refusal). Err k) (sym (case_back f)))

  module _ {n : ℕ} {past : Cursor} (e : q ≡ Ok (n, past)) where
    N : Here s at (num_up_to over_limit 1020) n past.at
    N = here s at inside (num_up_to over_limit 1020) h e (up_to_tail over_limit 1020 (drop at s))

    few : n ≤ 1020
    few = at_most over_limit 1020 n (drop at s) (drop past.at s) N.reads

    pub words_begin : length s ≤ 65536 → Midway s past.at past.at 0 n
    words_begin l = record { small = l; begins = N.within; within = N.within; most = omega (arith, few) }

    module _ {p : Result Cursor Refusal} (w : WordsRead s past.at past.at 0 n p) where
      pub words_stop : {f : Refusal} → p ≡ Err f → Err f ≡ head_at (length s) (read_after_kind (drop at s))
      unfolding read_after_kind most_names core_names
      words_stop {f} e₂ =
          let g = words-fault s past.at n N.within w e₂ in
          rw (N.reads, g) (ap (λ (k : Refusal). Err k) (sym (case_back f)))

      module _ {c : Cursor} (e₂ : p ≡ Ok c) where
        those : Words s past.at n N.within w c.at
        those = words-here s past.at n N.within w e₂

        pub words-within : c.at ≤ length s
        words-within = those.within

        pub words-few : n ≤ 1020
        words-few = few

        pub counts_go : {x : Result (Head × Cursor) Refusal} → CountsRead s c.at n x → x ≡ head_at (length s) (read_after_kind (drop at s))
        unfolding read_after_kind most_names core_names
        counts_go {x} r = (r).means those.ws those.count ∙ sym (rw (N.reads, those.reads) refl)

-- ---- the whole

kind_then : (g : Read ℕ) (kind : ℕ) {A : Type 0} (j : Reader A)
    → next g (λ k u. next (need layout (eqb k 1 || eqb k 2) u) (λ x v. next (need wrong_kind (eqb k kind) v) (λ y. j)))
    ≡ next (next g (λ k u. next (need layout (eqb k 1 || eqb k 2) u) (λ x. need wrong_kind (eqb k kind)))) (λ y. j)
kind_then (fault r) kind j = refl
kind_then (got k u) kind {A} j = go (eqb k 1 || eqb k 2) (eqb k kind)
  where
    go : (a b : Bool) → next (need layout a u) (λ x v. next (need wrong_kind b v) (λ y. j)) ≡ next (next (need layout a u) (λ x. need wrong_kind b)) (λ y. j)
    go true true = refl
    go true false = refl
    go false b = refl

head-is : (kind : ℕ) (s : List ℕ) → read_head kind s ≡ next (read_kind kind s) (λ y. read_after_kind)
unfolding read_head read_kind read_after_kind read_counts
head-is kind s = kind_then (num s) kind read_after_kind

module _ (s : List ℕ) (kind : ℕ) {p : Result Cursor Refusal} (h : p ≡ place_at (length s) (read_kind kind s)) where
  k : p ≡ answer_at placed (length s) (read_kind kind s)
  k = h ∙ ap (answer_at placed (length s)) (kept_unit (read_kind kind s))

  pub head-stops : {f : Refusal} → p ≡ Err f → Err f ≡ head_at (length s) (read_head kind s)
  head-stops {f} e =
      let g : read_kind kind s ≡ fault (refusal_of f) = refused place_shape (length s) (read_kind kind s) k e in
      rw (head-is kind s, g) (ap (λ (k : Refusal). Err k) (sym (case_back f)))

  module _ {c : Cursor} (e : p ≡ Ok c) where
    K : Took 0 s (read_kind kind s) tt c.at
    K = took place_shape (subst (λ (n : ℕ). p ≡ answer_at placed n (read_kind kind s)) (sym (let z : 0 + length s ≡ length s = omega arith in z)) k) e (kind_tail kind s)

    pub kind-within : c.at ≤ length s
    kind-within = omega (arith, K.within)

    pub head-goes : {x : Result (Head × Cursor) Refusal} → x ≡ head_at (length s) (read_after_kind (drop c.at s)) → x ≡ head_at (length s) (read_head kind s)
    head-goes {x} a =
        let d : c.at - 0 ≡ c.at = omega arith in
        let g : read_kind kind s ≡ got tt (drop c.at s) = K.is ∙ ap (λ (n : ℕ). got tt (drop n s)) d in
        a ∙ sym (rw (head-is kind s, g) refl)
