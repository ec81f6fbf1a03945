-- Bindings: what is read keeps the limits and is written again the same; what keeps the limits is read back.
use mathlib.Core.Path.{◌≡◌, refl, sym, ap, subst, ◌∙◌}
use Prim.Native.Nat.{ℕ, zero, suc, ◌≤◌, ◌<◌}
use mathlib.Core.Bool.{Bool}
use native.Mathlib.Omega.{arith}
use mathlib.Core.List.{List, [], ◌∷◌, ◌++◌, append_assoc}
use lib.ListN.{length}
use Rattle.model.specs.Limits.{most_bindings, most_names, most_scopes}
use Rattle.model.specs.Refusals.{layout, over_limit}
use Rattle.model.specs.Resolving.{Bind, bind_before}
use Rattle.model.specs.Reading.{Read, got, next, give, need, num_up_to, num_below, read_set, Head, symbols, read_bind, read_binds_after, read_some_binds, read_binds}
use Rattle.model.specs.Writing.{num_bytes, set_bytes, bind_bytes, binds_bytes}
use Rattle.laws.specs.Ordered.{Ascending, Sorted}
use Rattle.codec_laws.specs.WellFormed.{Bytes, HeadFits, BindFits, BindsFit}
use Rattle.codec_laws.proofs.Sequence.{next-got, need-got, moved, Wrote, wrote, join, up_to_w, below_w, up_to_back, below_back}
use Rattle.codec_laws.proofs.SetTrip.{set_same, set_back}

abbrev Fit : Head → Bind → Type 0
Fit h b = BindFits (symbols h) h.names h.scopes b

abbrev pub Fits : Head → List Bind → Type 0
Fits h l = BindsFit (symbols h) h.names h.scopes l

-- ---- read

bind_w : (h : Head) → h.scopes ≤ 256 → (b : Bind) (s rest : List ℕ) → Bytes s → read_bind h s ≡ got b rest → Wrote (bind_bytes b) s rest × Fit h b
unfolding read_bind bind_bytes
bind_w h k b s rest bs e =
    let x = next-got (num_below (symbols h) s) _ b rest e in
    let w₁ = below_w (symbols h) x.0 s x.1 bs x.2 in
    let t = next-got (num_below h.names x.1) _ b rest x.3 in
    let w₂ = below_w h.names t.0 x.1 t.1 w₁.0.1 t.2 in
    let c = next-got (read_set h.scopes t.1) _ b rest t.3 in
    let q = set_same h.scopes c.0 t.1 c.1 k w₂.0.1 c.2 in
    moved (λ (z : Bind) (r : List ℕ). Wrote (bind_bytes z) s r × Fit h z) (record { symb = x.0; target = t.0; set = c.0 }) b c.1 rest c.3 (
      join (num_bytes x.0 ++ num_bytes t.0) (set_bytes c.0) s t.1 c.1 (join (num_bytes x.0) (num_bytes t.0) s x.1 t.1 w₁.0 w₂.0)
          (wrote (set_bytes c.0) t.1 c.1 w₂.0.1 q.1),
      (w₁.1, w₂.1, q.0),
    )

abbrev AfterTook : Head → ℕ → Bind → List ℕ → List Bind → List ℕ → Type 0
AfterTook h c p s l rest = Wrote (binds_bytes l) s rest × (length l ≡ c) × Fits h l × Ascending p l

after_w : (h : Head) → h.scopes ≤ 256 → (c : ℕ) (p : Bind) (l : List Bind) (s rest : List ℕ) → Bytes s → read_binds_after h c p s ≡ got l rest
    → AfterTook h c p s l rest
unfolding read_binds_after binds_bytes
after_w h k zero p l s rest b e = moved (AfterTook h 0 p s) [] l s rest e (wrote [] s s b refl, refl, tt, tt)
after_w h k (suc c) p l s rest b e =
    let x = next-got (read_bind h s) _ l rest e in
    let w₁ = bind_w h k x.0 s x.1 b x.2 in
    let n = next-got (need layout (bind_before p x.0) x.1) _ l rest x.3 in
    let q = need-got layout (bind_before p x.0) n.0 x.1 n.1 n.2 in
    let r = next-got (read_binds_after h c x.0 n.1) _ l rest n.3 in
    let w₂ = after_w h k c x.0 r.0 n.1 r.1 (subst Bytes q.1 w₁.0.1) r.2 in
    moved (AfterTook h (suc c) p s) (x.0 ∷ r.0) l r.1 rest r.3 (
      join (bind_bytes x.0) (binds_bytes r.0) s n.1 r.1 (subst (λ (z : List ℕ). Wrote (bind_bytes x.0) s z) q.1 w₁.0) w₂.0,
      ap suc w₂.1,
      (w₁.1, w₂.2),
      (q.0, w₂.3),
    )

abbrev SomeTook : Head → ℕ → List ℕ → List Bind → List ℕ → Type 0
SomeTook h c s l rest = Wrote (binds_bytes l) s rest × (length l ≡ c) × Fits h l × Sorted l

some_w : (h : Head) → h.scopes ≤ 256 → (c : ℕ) (l : List Bind) (s rest : List ℕ) → Bytes s → read_some_binds h c s ≡ got l rest → SomeTook h c s l rest
unfolding read_some_binds binds_bytes
some_w h k zero l s rest b e = moved (SomeTook h 0 s) [] l s rest e (wrote [] s s b refl, refl, tt, tt)
some_w h k (suc c) l s rest b e =
    let x = next-got (read_bind h s) _ l rest e in
    let w₁ = bind_w h k x.0 s x.1 b x.2 in
    let r = next-got (read_binds_after h c x.0 x.1) _ l rest x.3 in
    let w₂ = after_w h k c x.0 r.0 x.1 r.1 w₁.0.1 r.2 in
    moved (SomeTook h (suc c) s) (x.0 ∷ r.0) l r.1 rest r.3
    (join (bind_bytes x.0) (binds_bytes r.0) s x.1 r.1 w₁.0 w₂.0, ap suc w₂.1, (w₁.1, w₂.2), w₂.3)

pub binds_w : (h : Head) → h.scopes ≤ 256 → (l : List Bind) (s rest : List ℕ) → Bytes s → read_binds h s ≡ got l rest
    → Wrote (num_bytes (length l) ++ binds_bytes l) s rest × Fits h l × Sorted l × (length l ≤ most_bindings)
unfolding read_binds
binds_w h k l s rest b e =
    let c = next-got (num_up_to over_limit most_bindings s) _ l rest e in
    let w₁ = up_to_w over_limit most_bindings c.0 s c.1 b c.2 in
    let w₂ = some_w h k c.0 l c.1 rest w₁.0.1 c.3 in (
      join (num_bytes (length l)) (binds_bytes l) s c.1 rest (subst (λ (z : ℕ). Wrote (num_bytes z) s c.1) (sym w₂.1) w₁.0) w₂.0,
      w₂.2,
      w₂.3,
      subst (λ (z : ℕ). z ≤ most_bindings) (sym w₂.1) w₁.1,
    )

-- ---- written

bind_back : (h : Head) → HeadFits h → (b : Bind) (rest : List ℕ) → Fit h b → read_bind h (bind_bytes b ++ rest) ≡ got b rest
unfolding read_bind bind_bytes most_names most_scopes
bind_back h hf b rest f =
    rw (
      append_assoc (num_bytes b.symb ++ num_bytes b.target) (set_bytes b.set) rest,
      append_assoc (num_bytes b.symb) (num_bytes b.target) (set_bytes b.set ++ rest),
      below_back (symbols h) b.symb (num_bytes b.target ++ (set_bytes b.set ++ rest)) f.0 symb-small,
      below_back h.names b.target (set_bytes b.set ++ rest) f.1 target_small,
      set_back h.scopes b.set rest hf.scopes-to f.2,
    )
  where
    symb-small : b.symb < 4294967296
    symb-small = omega (arith, f.0, hf.names-from, hf.names-to)

    target_small : b.target < 4294967296
    target_small = omega (arith, f.1, hf.names-to)

after_back : (h : Head) → HeadFits h → (p : Bind) (l : List Bind) (rest : List ℕ) → Fits h l → Ascending p l
    → read_binds_after h (length l) p (binds_bytes l ++ rest) ≡ got l rest
unfolding read_binds_after binds_bytes
after_back h hf p [] rest f a = refl
after_back h hf p (b ∷ l) rest f a =
    ap (read_binds_after h (suc (length l)) p) (append_assoc (bind_bytes b) (binds_bytes l) rest)
    ∙ step (bind_bytes b ++ (binds_bytes l ++ rest)) (binds_bytes l ++ rest) (bind_back h hf b (binds_bytes l ++ rest) f.0) (after_back h hf b l rest f.1 a.1)
  where
    -- over any bytes: what is written is large when it unfolds
    step : (s t : List ℕ) → read_bind h s ≡ got b t → read_binds_after h (length l) b t ≡ got l rest → read_binds_after h (suc (length l)) p s ≡ got (b ∷ l) rest
    step s t e d =
        ap (λ (r : Read Bind). next r (λ c u. next (need layout (bind_before p c) u) (λ x v. next (read_binds_after h (length l) c v) (λ q. give (c ∷ q))))) e
        ∙ ap (λ (x : Bool). next (need layout x t) (λ y v. next (read_binds_after h (length l) b v) (λ q. give (b ∷ q)))) a.0
        ∙ ap (λ (x : Read (List Bind)). next x (λ q. give (b ∷ q))) d

some_back : (h : Head) → HeadFits h → (l : List Bind) (rest : List ℕ) → Fits h l → Sorted l
    → read_some_binds h (length l) (binds_bytes l ++ rest) ≡ got l rest
unfolding read_some_binds binds_bytes
some_back h hf [] rest f a = refl
some_back h hf (b ∷ l) rest f a =
    ap (read_some_binds h (suc (length l))) (append_assoc (bind_bytes b) (binds_bytes l) rest)
    ∙ step (bind_bytes b ++ (binds_bytes l ++ rest)) (binds_bytes l ++ rest) (bind_back h hf b (binds_bytes l ++ rest) f.0) (after_back h hf b l rest f.1 a)
  where
    step : (s t : List ℕ) → read_bind h s ≡ got b t → read_binds_after h (length l) b t ≡ got l rest → read_some_binds h (suc (length l)) s ≡ got (b ∷ l) rest
    step s t e d = rw (e, d)

pub binds_back : (h : Head) → HeadFits h → (l : List Bind) (rest : List ℕ) → Fits h l → Sorted l → length l ≤ most_bindings
    → read_binds h (num_bytes (length l) ++ (binds_bytes l ++ rest)) ≡ got l rest
unfolding read_binds
binds_back h hf l rest f a few =
    rw (up_to_back over_limit most_bindings (length l) (binds_bytes l ++ rest) few few-small) (some_back h hf l rest f a)
  where
    few-small : length l < 4294967296
    few-small = omega (arith, few)
