-- What a caller knows of a reader's answer, once for every kind of answer: where the place is, what the definition read there, and
-- what the definition makes of it next.
use Prim.Native.Nat.{ℕ, ◌+◌, ◌-◌, ◌≤◌}
use mathlib.Core.Path.{◌≡◌, refl, sym, ap, ◌∙◌}
use mathlib.Core.List.{List}
use mathlib.Core.Bool.{Bool, true, false}
use native.Mathlib.Omega.{arith}
use lib.ListN.{length, drop, length-drop}
use lib.Seq.{drop-drop}
use Rattle.std.specs.Prelude.{Result, Ok, Err}
use Rattle.model.specs.Refusals as m
use Rattle.model.specs.Reading.{Read, Reader, got, fault, next, need}
use Rattle.refusals.specs.declared.Refusal.{Refusal}
use Rattle.refusals.specs.Refusing.{refusal_of}
use Rattle.refusals.proofs.Cases.{refusal_back, case_back}
use Rattle.refusals.proofs.Handing.{handed_on}
use Rattle.std.specs.Result.{IsErrAnd}
use Rattle.numbers.specs.declared.Cursor.{Cursor}
use Rattle.numbers.specs.Answers.{answer_at, beside, read_at, kept, placed, place_at, seen}
use Rattle.numbers.proofs.Tails.{Behind, Tail, tail_got, tail_fault, num_tail, up_to_tail, below_tail}

-- an answer gives back what it holds
pub record Shape {K A : Type 0} (read : K → Cursor → A) : Type 0 where
  pub value : (v w : K) (c d : Cursor) → read v c ≡ read w d → v ≡ w
  pub place : (v w : K) (c d : Cursor) → read v c ≡ read w d → c ≡ d

-- something was read at `at`, where s is the image from there on: what lies behind `place` is what is left
pub record Took {K : Type 0} (at : ℕ) (s : List ℕ) (g : Read K) (k : K) (place : ℕ) : Type 0 where
  pub moved : at ≤ place
  pub within : place ≤ at + length s
  pub is : g ≡ got k (drop (place - at) s)
  pub ends : place + length (drop (place - at) s) ≡ at + length s

took_got : {K : Type 0} (at : ℕ) (s : List ℕ) (k : K) (rest : List ℕ) (place : ℕ) → Behind s rest → place ≡ at + length s - length rest → Took at s (got k rest) k place
took_got at s k rest place b w =
    let l : length rest ≡ length s - b.by = ap length b.is ∙ length-drop b.by s in
    let h = b.within in
    let d : place - at ≡ b.by = omega arith in
    let r : rest ≡ drop (place - at) s = rw d b.is in
    record { moved = omega arith; within = omega arith; is = ap (got k) r; ends = rw (← r) (omega arith) }

module _ {A : Type 0} where
  pub err_same : {f h : Refusal} → ◌≡◌ {A = Result A Refusal} (Err f) (Err h) → f ≡ h
  err_same e = cc

  pub ok_same : {a b : A} → ◌≡◌ {A = Result A Refusal} (Ok a) (Ok b) → a ≡ b
  ok_same e = cc

  pub ok-err : {a : A} {f : Refusal} → ◌≡◌ {A = Result A Refusal} (Ok a) (Err f) → ⊥
  ok-err e = let z : ◌≡◌ {A = ℕ} 0 1 = cc in omega arith

module _ {K A : Type 0} {read : K → Cursor → A} (S : Shape read) where
  took_from : {at : ℕ} {s : List ℕ} {g : Read K} {k : K} {past : Cursor} → Tail s g → Ok (read k past) ≡ answer_at read (at + length s) g → Took at s g k past.at
  took_from {at} {s} {g} {k} {past} (tail_got {a = v} {rest = rest} b) e =
      let i : v ≡ k = sym (S.value k v past (record { at = at + length s - length rest }) (ok_same e)) in
      let p : past.at ≡ at + length s - length rest = ap (λ (c : Cursor). c.at) (S.place k v past (record { at = at + length s - length rest }) (ok_same e)) in
      rw i (took_got at s k rest past.at b p)
  took_from {k = k} {past = past} (tail_fault {r = r}) e = absurd (ok-err e)

  refused-from : (end : ℕ) {f : Refusal} (g : Read K) → Err f ≡ answer_at read end g → g ≡ fault (refusal_of f)
  refused-from end {f} (got k rest) e = absurd (ok-err (sym e))
  refused-from end {f} (fault r) e = ap fault (sym (refusal_back r) ∙ ap refusal_of (sym (err_same e)))

  -- the answer r is known to be one of its two ways
  module _ {r : Result A Refusal} where
    pub took : {at : ℕ} {s : List ℕ} {g : Read K} {k : K} {past : Cursor} → r ≡ answer_at read (at + length s) g → r ≡ Ok (read k past) → Tail s g → Took at s g k past.at
    took h e t = took_from t (sym e ∙ h)

    pub refused : (end : ℕ) (g : Read K) {f : Refusal} → r ≡ answer_at read end g → r ≡ Err f → g ≡ fault (refusal_of f)
    refused end g h e = refused-from end g (sym e ∙ h)

    module _ (at : ℕ) (s : List ℕ) (g : Read K) {k : K} {past : Cursor} (h : r ≡ answer_at read (at + length s) g) (e : r ≡ Ok (read k past)) (t : Tail s g) where
      -- what `after` asks
      pub moved_on : at ≤ past.at
      moved_on = let T : Took at s g k past.at = took h e t in T.moved

      pub kept-within : past.at ≤ at + length s
      kept-within = let T : Took at s g k past.at = took h e t in T.within

      -- what the next reader asks
      pub fits_after : {u : List ℕ} {m : ℕ} → u ≡ drop (past.at - at) s → at + length s ≤ m → past.at + length u ≤ m
      fits_after {u} i l = let T : Took at s g k past.at = took h e t in rw (i, T.ends) l

    -- and so of what the definition makes of it, in an answer of any kind
    module _ {L B : Type 0} (read' : L → Cursor → B) where
      pub stops : (end : ℕ) (g : Read K) {f : Refusal} (j : K → Reader L) → r ≡ answer_at read end g → r ≡ Err f → Err f ≡ answer_at read' end (next g j)
      stops end g {f} j h e = rw (refused end g h e) (ap (λ (x : Refusal). Err x) (sym (case_back f)))

      module _ (at : ℕ) {s : List ℕ} (g : Read K) {k : K} {past : Cursor} (j : K → Reader L) (h : r ≡ answer_at read (at + length s) g) (e : r ≡ Ok (read k past)) (t : Tail s g) where
        -- it goes on with the image behind
        pub goes : {u : List ℕ} {x : Result B Refusal} → u ≡ drop (past.at - at) s → x ≡ answer_at read' (past.at + length u) (j k u) → x ≡ answer_at read' (at + length s) (next g j)
        goes {u} i a = let T : Took at s g k past.at = took h e t in rw (T.is, ← T.ends, ← i) a

        -- it gives something and reads no further
        pub gives : {l : L} → ((u : List ℕ) → j k u ≡ got l u) → Ok (read' l past) ≡ answer_at read' (at + length s) (next g j)
        gives {l} i =
            let T : Took at s g k past.at = took h e t in
            let p : at + length s - length (drop (past.at - at) s) ≡ past.at = omega (arith, T.ends) in
            rw (T.is, i (drop (past.at - at) s), p)

        -- it refuses
        pub refuses : {f : Refusal} → ((u : List ℕ) → j k u ≡ fault (refusal_of f)) → Err f ≡ answer_at read' (at + length s) (next g j)
        refuses {f} i = let T : Took at s g k past.at = took h e t in rw (T.is, i (drop (past.at - at) s), case_back)

-- ---- a value beside the place

pub read_shape : {K : Type 0} → Shape {K = K} beside
read_shape {K} = record {
  value = λ v w c d e. ap (λ (p : K × Cursor). p.0) e;
  place = λ v w c d e. ap (λ (p : K × Cursor). p.1) e;
}

module _ {K : Type 0} (at : ℕ) (s : List ℕ) (g : Read K) {r : Result (K × Cursor) Refusal} {n : K} {past : Cursor} (h : r ≡ read_at (at + length s) g) (e : r ≡ Ok (n, past)) (t : Tail s g) where
  pub read-moved : at ≤ past.at
  read-moved = moved_on read_shape at s g h e t

  pub read-within : past.at ≤ at + length s
  read-within = kept-within read_shape at s g h e t

  pub read-fits : {u : List ℕ} {m : ℕ} → u ≡ drop (past.at - at) s → at + length s ≤ m → past.at + length u ≤ m
  read-fits i l = fits_after read_shape at s g h e t i l

-- ---- two reads in a row, the second behind the first, whose answer ends at c

module _ {K L : Type 0} {at : ℕ} {s : List ℕ} {g : Read K} {a : K} {c : Cursor} (T : Took at s g a c.at) {u : List ℕ} (i : u ≡ drop (c.at - at) s) {f : Read L} {b : L} {d : Cursor} (U : Took c.at u f b d.at) where
  pub row-moved : at ≤ d.at
  row-moved = omega (arith, T.moved, U.moved)

  pub row-within : d.at ≤ at + length s
  row-within = let l = ap length i in let e = T.ends in omega (arith, U.within)

  -- what is left behind both
  pub row-rest : {v : List ℕ} → v ≡ drop (d.at - at) s → v ≡ drop (d.at - c.at) u
  row-rest l =
      let q : c.at - at + (d.at - c.at) ≡ d.at - at = omega (arith, T.moved, U.moved) in
      l ∙ sym (ap (drop (d.at - c.at)) i ∙ drop-drop (d.at - c.at) (c.at - at) s ∙ ap (λ (w : ℕ). drop w s) q)

-- ---- the place alone

pub place_shape : Shape placed
place_shape = record {
  value = λ v w c d e. refl;
  place = λ v w c d e. e;
}

-- ---- a value that is seen as another

module _ {A K : Type 0} (see : A → K) (at : ℕ) (s : List ℕ) (g : Read K) {r : Result (A × Cursor) Refusal} {v : A} {past : Cursor} (h : seen see r ≡ read_at (at + length s) g) (e : r ≡ Ok (v, past)) (t : Tail s g) where
  pub whole : seen see r ≡ Ok (see v, past)
  whole = rw e refl

  pub seen-moved : at ≤ past.at
  seen-moved = moved_on read_shape at s g h whole t

  pub seen-within : past.at ≤ at + length s
  seen-within = kept-within read_shape at s g h whole t

  pub seen-fits : {u : List ℕ} {m : ℕ} → u ≡ drop (past.at - at) s → at + length s ≤ m → past.at + length u ≤ m
  seen-fits i l = fits_after read_shape at s g h whole t i l

  -- what the definition makes of it
  module _ {L B : Type 0} (read' : L → Cursor → B) (j : K → Reader L) where
    pub seen-goes : {u : List ℕ} {y : Result B Refusal} → u ≡ drop (past.at - at) s → y ≡ answer_at read' (past.at + length u) (j (see v) u) → y ≡ answer_at read' (at + length s) (next g j)
    seen-goes i a = goes read_shape read' at g j h whole t i a

    pub seen-gives : {l : L} → ((u : List ℕ) → j (see v) u ≡ got l u) → Ok (read' l past) ≡ answer_at read' (at + length s) (next g j)
    seen-gives i = gives read_shape read' at g j h whole t i

module _ {A K : Type 0} (see : A → K) (end : ℕ) (g : Read K) {r : Result (A × Cursor) Refusal} {f : Refusal} (h : seen see r ≡ read_at end g) (e : r ≡ Err f) where
  pub unseen : seen see r ≡ Err f
  unseen = rw e refl

  pub seen-refused : g ≡ fault (refusal_of f)
  seen-refused = refused read_shape end g h unseen

  pub seen-stops : {L B : Type 0} (read' : L → Cursor → B) (j : K → Reader L) → Err f ≡ answer_at read' end (next g j)
  seen-stops read' j = stops read_shape read' end g j h unseen

-- what `?` hands on of an answer that is seen as another
pub seen_handed : {A K : Type 0} (see : A → K) (r : Result (A × Cursor) Refusal) {x : Result (K × Cursor) Refusal} {f : Refusal} → IsErrAnd r (λ e. e ≡ f) → Err f ≡ x → seen see r ≡ x
seen_handed see r h e = ap (seen see) (handed_on h refl) ∙ e

-- ---- what is kept

pub kept_next : {A B K : Type 0} (v : B → K) (g : Read A) (j : A → Reader B) → kept v (next g j) ≡ next g (λ a s. kept v (j a s))
kept_next v (got a s) j = refl
kept_next v (fault c) j = refl

pub kept_tail : {A K : Type 0} (v : A → K) {s : List ℕ} {g : Read A} → Tail s g → Tail s (kept v g)
kept_tail v (tail_got b) = tail_got b
kept_tail v tail_fault = tail_fault

pub record Kept {A K : Type 0} (v : A → K) (g : Read A) (k : K) (rest : List ℕ) : Type 0 where
  pub value : A
  pub is : g ≡ got value rest
  pub value-is : v value ≡ k

pub kept-got : {A K : Type 0} (v : A → K) (g : Read A) (k : K) (rest : List ℕ) → kept v g ≡ got k rest → Kept v g k rest
kept-got v (got a s) k rest e =
    let p : s ≡ rest = cc in
    let q : v a ≡ k = cc in
    record { value = a; is = ap (got a) p; value-is = q }
kept-got v (fault c) k rest e = let z : ◌≡◌ {A = ℕ} 0 1 = cc in absurd (omega arith)

pub kept-fault : {A K : Type 0} (v : A → K) (g : Read A) (c : m.Refusal) → kept v g ≡ fault c → g ≡ fault c
kept-fault v (got a s) c e = let z : ◌≡◌ {A = ℕ} 0 1 = cc in absurd (omega arith)
kept-fault v (fault d) c e = let p : d ≡ c = cc in ap fault p

-- ---- tests

pub need-yes : {A : Type 0} (c : m.Refusal) {t : Bool} (j : Unit {0} → Reader A) (s : List ℕ) → t ≡ true → next (need c t s) j ≡ j tt s
need-yes c j s e = rw e refl

pub need-no : {A : Type 0} (c : m.Refusal) {t : Bool} (j : Unit {0} → Reader A) (s : List ℕ) → t ≡ false → next (need c t s) j ≡ fault c
need-no c j s e = rw e refl

-- ---- a place only, of something that was read

abbrev nothing : {A : Type 0} → A → Unit {0}
nothing a = tt

module _ {A : Type 0} (at : ℕ) (s : List ℕ) (g : Read A) {x : Result Cursor Refusal} {past : Cursor} (h : x ≡ place_at (at + length s) g) (e : x ≡ Ok past) (t : Tail s g) where
  pub place_took : Took at s (kept nothing g) (tt {0}) past.at
  place_took = took place_shape h e (kept_tail nothing t)

  pub place-value : Kept nothing g (tt {0}) (drop (past.at - at) s)
  place-value = kept-got nothing g (tt {0}) (drop (past.at - at) s) place_took.is

  pub place-moved : at ≤ past.at
  place-moved = place_took.moved

  pub place-within : past.at ≤ at + length s
  place-within = place_took.within

  pub place-fits : {u : List ℕ} {m : ℕ} → u ≡ drop (past.at - at) s → at + length s ≤ m → past.at + length u ≤ m
  place-fits {u} i l = rw (i, place_took.ends) l

pub place-refused : {A : Type 0} (end : ℕ) (g : Read A) {x : Result Cursor Refusal} {f : Refusal} → x ≡ place_at end g → x ≡ Err f → g ≡ fault (refusal_of f)
place-refused end g {f = f} h e = kept-fault nothing g (refusal_of f) (refused place_shape end (kept nothing g) h e)

-- what a caller of the number readers asks for most needs
pub ruleset answering = (read-moved, read-within, read-fits, place-moved, place-within, place-fits, seen-moved, seen-within, seen-fits, num_tail, up_to_tail, below_tail)
