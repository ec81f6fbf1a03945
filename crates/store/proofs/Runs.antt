-- Runs of bindings in a store, by its words.
use mathlib.Core.Path.{◌≡◌, refl, sym, ap, ap₂, ◌∙◌, subst}
use mathlib.Core.Logic.{⊎_elim}
use mathlib.Core.Bool.{Bool, true, false}
use mathlib.Core.List.{List, [], ◌∷◌, ◌++◌, append_assoc}
use Prim.Native.Nat.{ℕ, zero, suc, ◌+◌, ◌-◌, ◌*◌, ◌%◌, ◌≤◌, ◌<◌}
use native.Mathlib.Nat.{mod-eq_of_lt, eq-or-lt_of_le}
use native.Mathlib.Omega.{arith}
use lib.ListN.{length, get_or, set, length-set}
use lib.Seq.{get_or-set_same, get_or-set_other}
use Rattle.model.specs.Limits as m
use Rattle.model.specs.Choice.{when◌then◌else◌}
use Rattle.model.specs.Scopes.{Scopes}
use Rattle.model.specs.Resolving.{Bind, bind_before, insert}
use Rattle.scopes.specs.Sets.{set_words, scopes_of}
use Rattle.scopes.proofs.Words.{words_same}
use Rattle.store.specs.declared.bindings.Binding.{Binding}
use Rattle.store.specs.Words.{bind_at, binds_from, binds_of, bind_of, Put, Placed, Shifted, Inserts, SetPut}
use Rattle.store.specs.Sizes.{binding_size, most_bindings}

-- the store has room for as many bindings as the model allows
pub bindings-are : most_bindings ≡ m.most_bindings
unfolding m.most_bindings
bindings-are = refl

-- ---- one binding

pub bind_eq : {x y t u : ℕ} {s r : Scopes} → x ≡ y → t ≡ u → s ≡ r
    → ◌≡◌ {A = Bind} (record { symb = x; target = t; set = s }) (record { symb = y; target = u; set = r })
bind_eq p q e = cc

-- the same words
pub same-bind : (l m : List ℕ) (i j : ℕ) → ((k : ℕ) → k < binding_size → get_or l (i * binding_size + k) 0 ≡ get_or m (j * binding_size + k) 0) → bind_at l i ≡ bind_at m j
unfolding bind_at
same-bind l m i j h =
    bind_eq
    (ap (λ (w : ℕ). w % 4294967296)
    (ap (λ (k : ℕ). get_or l k 0) (let e : i * binding_size ≡ i * binding_size + 0 = omega arith in e) ∙ h 0 (omega arith)
    ∙ ap (λ (k : ℕ). get_or m k 0) (let e : j * binding_size + 0 ≡ j * binding_size = omega arith in e)))
    (ap (λ (w : ℕ). w % 4294967296) (h 1 (omega arith)))
    (words_same 64 set_words l m (i * binding_size + 2) (j * binding_size + 2)
    (λ k p. ap (λ (n : ℕ). get_or l n 0) (let e : i * binding_size + 2 + k ≡ i * binding_size + (2 + k) = omega arith in e) ∙ h (2 + k) (omega arith)
    ∙ ap (λ (n : ℕ). get_or m n 0) (let e : j * binding_size + (2 + k) ≡ j * binding_size + 2 + k = omega arith in e)))

-- ---- runs

pub from-length : (l : List ℕ) (i n : ℕ) → length (binds_from l i n) ≡ n
unfolding binds_from
from-length l i zero = refl
from-length l i (suc n) = ap suc (from-length l (suc i) n)

pub binds-length : (l : List ℕ) (n : ℕ) → length (binds_of l n) ≡ n
unfolding binds_of
binds-length l n = from-length l 0 n

-- two runs of the same bindings
pub same-run : (l m : List ℕ) (i j n : ℕ) → ((k : ℕ) → k < n → bind_at l (i + k) ≡ bind_at m (j + k)) → binds_from l i n ≡ binds_from m j n
unfolding binds_from
same-run l m i j zero h = refl
same-run l m i j (suc n) h =
    ap₂ (λ (b : Bind) (r : List Bind). b ∷ r)
    (ap (bind_at l) (let e : i ≡ i + 0 = omega arith in e) ∙ h 0 (omega arith) ∙ ap (bind_at m) (let e : j + 0 ≡ j = omega arith in e))
    (same-run l m (suc i) (suc j) n
    (λ k p. ap (bind_at l) (let e : suc i + k ≡ i + suc k = omega arith in e) ∙ h (suc k) (omega arith)
    ∙ ap (bind_at m) (let e : j + suc k ≡ suc j + k = omega arith in e)))

-- a run in two parts
split_run : (l : List ℕ) (i a b : ℕ) → binds_from l i (a + b) ≡ binds_from l i a ++ binds_from l (i + a) b
unfolding binds_from
split_run l i zero b = ap₂ (binds_from l) (let e : i ≡ i + 0 = omega arith in e) (let e : 0 + b ≡ b = omega arith in e)
split_run l i (suc a) b =
    ap (binds_from l i) (let e : suc a + b ≡ suc (a + b) = omega arith in e)
    ∙ ap (λ (r : List Bind). bind_at l i ∷ r)
    (split_run l (suc i) a b ∙ ap (λ (k : ℕ). binds_from l (suc i) a ++ binds_from l k b) (let e : suc i + a ≡ i + suc a = omega arith in e))

-- what is left of a run of n from place i on
pub run_step : (l : List ℕ) (n i : ℕ) → i < n → binds_from l i (n - i) ≡ bind_at l i ∷ binds_from l (i + 1) (n - (i + 1))
unfolding binds_from
run_step l n i h =
    ap (binds_from l i) (let e : n - i ≡ suc (n - (i + 1)) = omega arith in e)
    ∙ ap (λ (k : ℕ). bind_at l i ∷ binds_from l k (n - (i + 1))) (let e : suc i ≡ i + 1 = omega arith in e)

pub run_end : (l : List ℕ) (n i : ℕ) → n ≤ i → binds_from l i (n - i) ≡ []
unfolding binds_from
run_end l n i h = ap (binds_from l i) (let e : n - i ≡ 0 = omega arith in e)

-- ---- the place of a binding: it is not before the first i

pub record Passed (b : Bind) (l : List ℕ) (n i : ℕ) : Type 0 where
  pub inside : i ≤ n
  pub so_far : insert b (binds_of l n) ≡ binds_from l 0 i ++ insert b (binds_from l i (n - i))

pub passed_none : (b : Bind) (l : List ℕ) (n : ℕ) → Passed b l n 0
unfolding binds_of binds_from
passed_none b l n = record {
  inside = omega arith;
  so_far = ap (λ (k : ℕ). insert b (binds_from l 0 k)) (let e : n ≡ n - 0 = omega arith in e);
}

module _ {b : Bind} {l : List ℕ} {n i : ℕ} (w : Passed b l n i) where
  pub passed_end : n ≤ i → Placed b l n i
  unfolding insert
  passed_end h = record {
    inside = w.inside;
    there =
        w.so_far ∙ ap (λ (r : List Bind). binds_from l 0 i ++ insert b r) (run_end l n i h)
        ∙ ap (λ (r : List Bind). binds_from l 0 i ++ b ∷ r) (sym (run_end l n i h));
  }

  pub passed_all : n ≤ i → Placed b l n n
  passed_all h = let all : i ≡ n = omega (arith, w.inside) in subst (Placed b l n) all (passed_end h)

  pub passed_here : i < n → bind_before b (bind_at l i) ≡ true → Placed b l n i
  unfolding insert
  passed_here h e = record {
    inside = w.inside;
    there =
        w.so_far ∙ ap (λ (r : List Bind). binds_from l 0 i ++ insert b r) (run_step l n i h)
        ∙ ap
        (λ (t : Bool). binds_from l 0 i
        ++ (when t then b ∷ bind_at l i ∷ binds_from l (i + 1) (n - (i + 1)) else bind_at l i ∷ insert b (binds_from l (i + 1) (n - (i + 1)))))
        e
        ∙ ap (λ (r : List Bind). binds_from l 0 i ++ b ∷ r) (sym (run_step l n i h));
  }

  pub passed_on : i < n → bind_before b (bind_at l i) ≡ false → Passed b l n (i + 1)
  unfolding insert binds_from
  passed_on h e = record {
    inside = omega arith;
    so_far =
        w.so_far ∙ ap (λ (r : List Bind). binds_from l 0 i ++ insert b r) (run_step l n i h)
        ∙ ap
        (λ (t : Bool). binds_from l 0 i
        ++ (when t then b ∷ bind_at l i ∷ binds_from l (i + 1) (n - (i + 1)) else bind_at l i ∷ insert b (binds_from l (i + 1) (n - (i + 1)))))
        e
        ∙ sym (append_assoc (binds_from l 0 i) (bind_at l i ∷ []) (insert b (binds_from l (i + 1) (n - (i + 1)))))
        ∙ ap (λ (r : List Bind). r ++ insert b (binds_from l (i + 1) (n - (i + 1)))) (sym (split_run l 0 i 1 ∙ last));
  }
    where
      last : binds_from l 0 i ++ binds_from l (0 + i) 1 ≡ binds_from l 0 i ++ bind_at l i ∷ []
      last = ap (λ (k : ℕ). binds_from l 0 i ++ binds_from l k 1) (let e : 0 + i ≡ i = omega arith in e)

-- ---- a binding put between others that were moved

-- two words and then a set are put
module _ (l l' : List ℕ) (i : ℕ) (b : Binding) {x y : ℕ} (h : i * binding_size + binding_size ≤ length l) (p : x ≡ b.symbol.0) (q : y ≡ b.target.0)
    (small : b.symbol.0 < 4294967296) (low : b.target.0 < 4294967296)
    (w : SetPut (scopes_of b.set) (set (set l (i * binding_size) x) (i * binding_size + 1) y) l' (i * binding_size + 2)) (e : length l' ≡ length l) where
  at-symbol : get_or l' (i * binding_size) 0 ≡ b.symbol.0
  at-symbol =
      w.before (i * binding_size) (omega arith)
      ∙ get_or-set_other (set l (i * binding_size) x) (i * binding_size + 1) (i * binding_size) y 0 (λ k. omega arith)
      ∙ get_or-set_same l (i * binding_size) x 0 (omega arith)
      ∙ p

  at-target : get_or l' (i * binding_size + 1) 0 ≡ b.target.0
  at-target =
      w.before (i * binding_size + 1) (omega arith)
      ∙ get_or-set_same (set l (i * binding_size) x) (i * binding_size + 1) y 0 (omega (arith, length-set l (i * binding_size) x))
      ∙ q

  stays : (k : ℕ) → (k ≡ i * binding_size → ⊥) → (k ≡ i * binding_size + 1 → ⊥) → get_or (set (set l (i * binding_size) x) (i * binding_size + 1) y) k 0 ≡ get_or l k 0
  stays k c d = get_or-set_other (set l (i * binding_size) x) (i * binding_size + 1) k y 0 d ∙ get_or-set_other l (i * binding_size) k x 0 c

  pub put_is : Put (bind_of b) l l' i
  unfolding bind_at
  put_is = record {
    long = e;
    before = λ k g. w.before k (omega arith) ∙ stays k (λ z. omega arith) (λ z. omega arith);
    after = λ k g. w.after k (omega arith) ∙ stays k (λ z. omega arith) (λ z. omega arith);
    there = bind_eq (ap (λ (z : ℕ). z % 4294967296) at-symbol ∙ mod-eq_of_lt small) (ap (λ (z : ℕ). z % 4294967296) at-target ∙ mod-eq_of_lt low) w.there;
  }

pub inserted : (b : Bind) (was moved now : List ℕ) (n i : ℕ) → n * binding_size + binding_size ≤ length moved
    → Placed b was n i → Shifted (i * binding_size) (n * binding_size) was moved → Put b moved now i → Inserts b n was now
unfolding binds_of binds_from
inserted b was moved now n i h w s e = record {
  binds =
      ap (binds_from now 0) (let k : n + 1 ≡ i + suc (n - i) = omega (arith, w.inside) in k)
      ∙ split_run now 0 i (suc (n - i))
      ∙ ap₂ ◌++◌ (same-run now was 0 0 i kept) parts
      ∙ sym w.there;
  kept = λ k g. e.after k (omega (arith, inside)) ∙ s.after k g;
}
  where
    inside : i ≤ n
    inside = w.inside

    kept : (k : ℕ) → k < i → bind_at now (0 + k) ≡ bind_at was (0 + k)
    kept k c =
        same-bind now was (0 + k) (0 + k)
        (λ j t. e.before ((0 + k) * binding_size + j) (omega arith) ∙ s.kept ((0 + k) * binding_size + j) (omega arith))

    after : (k : ℕ) → k < n - i → bind_at now (suc i + k) ≡ bind_at was (i + k)
    after k c =
        same-bind now was (suc i + k) (i + k)
        (λ j t. e.after ((suc i + k) * binding_size + j) (omega arith)
        ∙ ap (λ (m : ℕ). get_or moved m 0) (let x : (suc i + k) * binding_size + j ≡ (i + k) * binding_size + j + binding_size = omega arith in x)
        ∙ s.moved ((i + k) * binding_size + j) (omega arith) (omega (arith, inside)))

    parts : binds_from now (0 + i) (suc (n - i)) ≡ b ∷ binds_from was i (n - i)
    parts =
        ap₂ (λ (c : Bind) (r : List Bind). c ∷ r)
        (ap (bind_at now) (let x : 0 + i ≡ i = omega arith in x) ∙ e.there)
        (ap (λ (k : ℕ). binds_from now k (n - i)) (let x : suc (0 + i) ≡ suc i = omega arith in x) ∙ same-run now was (suc i) i (n - i) after)

-- ---- moving words up, the last first: those from k on have been moved

pub record Moving (k hi : ℕ) (was now : List ℕ) : Type 0 where
  pub below : k ≤ hi
  pub long : length now ≡ length was
  pub kept : (j : ℕ) → j < k + binding_size → get_or now j 0 ≡ get_or was j 0
  pub moved : (j : ℕ) → k ≤ j → j < hi → get_or now (j + binding_size) 0 ≡ get_or was j 0
  pub after : (j : ℕ) → hi + binding_size ≤ j → get_or now j 0 ≡ get_or was j 0

pub moving_start : (hi : ℕ) (l : List ℕ) → Moving hi hi l l
moving_start hi l = record {
  below = omega arith;
  long = refl;
  kept = λ j h. refl;
  moved = λ j h p. absurd (let e : ⊥ = omega arith in e);
  after = λ j h. refl;
}

-- the word below k is moved too
pub moving_on : {k hi : ℕ} {was now : List ℕ} → Moving k hi was now → 0 < k → hi + binding_size ≤ length was
    → Moving (k - 1) hi was (set now (k - 1 + binding_size) (get_or now (k - 1) 0))
moving_on {k} {hi} {was} {now} w h room = record {
  below = omega (arith, w.below);
  long = length-set now (k - 1 + binding_size) (get_or now (k - 1) 0) ∙ w.long;
  kept = λ j p. get_or-set_other now (k - 1 + binding_size) j (get_or now (k - 1) 0) 0 (λ e. omega arith) ∙ w.kept j (omega arith);
  moved = λ j p q. ⊎_elim (λ e. here j (sym e)) (λ f. above j (omega arith) q) (eq-or-lt_of_le p);
  after = λ j p. get_or-set_other now (k - 1 + binding_size) j (get_or now (k - 1) 0) 0 (λ e. omega (arith, w.below)) ∙ w.after j p;
}
  where
    there : k - 1 + binding_size < length now
    there = omega (arith, w.below, w.long)

    here : (j : ℕ) → j ≡ k - 1 → get_or (set now (k - 1 + binding_size) (get_or now (k - 1) 0)) (j + binding_size) 0 ≡ get_or was j 0
    here j e =
        ap (λ (m : ℕ). get_or (set now (k - 1 + binding_size) (get_or now (k - 1) 0)) (m + binding_size) 0) e
        ∙ get_or-set_same now (k - 1 + binding_size) (get_or now (k - 1) 0) 0 there
        ∙ w.kept (k - 1) (omega arith)
        ∙ ap (λ (m : ℕ). get_or was m 0) (sym e)

    above : (j : ℕ) → k ≤ j → j < hi → get_or (set now (k - 1 + binding_size) (get_or now (k - 1) 0)) (j + binding_size) 0 ≡ get_or was j 0
    above j p q = get_or-set_other now (k - 1 + binding_size) (j + binding_size) (get_or now (k - 1) 0) 0 (λ e. omega arith) ∙ w.moved j p q

pub moving_end : {lo k hi : ℕ} {was now : List ℕ} → Moving k hi was now → k ≡ lo → Shifted lo hi was now
moving_end w e = record { kept = λ j h. w.kept j (omega arith); moved = λ j h p. w.moved j (omega arith) p; after = w.after }
