-- Meanings that keep the limits: a variable's binder is bound to its name, a macro's value is good; and what a name means.
use mathlib.Core.Path.{◌≡◌, refl, sym, ap, ◌∙◌, subst}
use mathlib.Core.Logic.{◌≢◌}
use Prim.Native.Nat.{ℕ, zero, suc, ◌≤◌}
use native.Mathlib.Omega.{arith}
use mathlib.Core.Bool.{Bool, true, false}
use mathlib.Core.Option.{Option, none, some}
use mathlib.Core.List.{List, [], ◌∷◌}
use lib.Dec.{eqb}
use Rattle.model.specs.Choice.{when◌then◌else◌}
use Rattle.model.specs.Objects.{Sets, set_at, symbol, number, point, prim, rung, Stx, atom, list}
use Rattle.model.specs.Trees.{Tree}
use Rattle.model.specs.Resolving.{means, resolve}
use Rattle.model.specs.Meanings.{Form, form_of, Meaning, core, variable, macro, stopped, unknown, Env, core_only, extend, core_meaning, meaning, is_among, meaning_among, Surroundings}
use Rattle.model.specs.Steps.{State, ok, resolve_at}
use Rattle.model.specs.Parsing.{head_form}
use Rattle.model.specs.Expanding.{head_meaning}
use Rattle.laws.specs.Ordered.{SetsIn, Sorted}
use borrow.Author.Tests.{eqb-true}
use Rattle.laws.proofs.ResolveRule.{In}
use Rattle.laws.proofs.Stable.{Later, resolve-later, later_in, keys_later, resolve_own}
use Rattle.laws.proofs.StepLaws.{resolve_at-is}
use Rattle.codec_laws.specs.WellFormed.{StxFits}
use Rattle.addresses.proofs.Outcomes.{Outcome, gives, chain, resolve_at-out}
use Rattle.laws.proofs.Tests.{or_right}
use Rattle.addresses.proofs.Fitting.{sets_more, tree-more}
use Rattle.addresses.proofs.Evaluated.{TreeGood, ValueGood}
use Rattle.addresses.proofs.States.{StateFits, keys, Grows, set_at_in}

-- the names that mean variables
unfoldable pub vars : Env → List ℕ
vars core_only = []
vars (extend n (core f) e) = vars e
vars (extend n (variable c x) e) = n ∷ vars e
vars (extend n (macro v) e) = vars e
vars (extend n stopped e) = vars e
vars (extend n unknown e) = vars e

kind : Meaning → ℕ
kind (core f) = 0
kind (variable c x) = 1
kind (macro v) = 2
kind stopped = 4
kind unknown = 3

differ : (a b : Meaning) → kind a ≢ kind b → a ≡ b → ⊥
differ a b h e = h (ap kind e)

pub form_of_none : (n : ℕ) → 4 ≤ n → form_of n ≡ none
unfolding form_of
form_of_none zero h = absurd (no_four h)
  where
    no_four : 4 ≤ 0 → ⊥
    no_four q = omega arith
form_of_none (suc zero) h = absurd (no_four h)
  where
    no_four : 4 ≤ 1 → ⊥
    no_four q = omega arith
form_of_none (suc (suc zero)) h = absurd (no_four h)
  where
    no_four : 4 ≤ 2 → ⊥
    no_four q = omega arith
form_of_none (suc (suc (suc zero))) h = absurd (no_four h)
  where
    no_four : 4 ≤ 3 → ⊥
    no_four q = omega arith
form_of_none (suc (suc (suc (suc n)))) h = refl

-- ---- where k symbols are declared

module _ (k : ℕ) where
  abbrev pub MeaningGood : ℕ → ℕ → State → Meaning → Type 0
  MeaningGood ph n s (core f) = ⊥
  MeaningGood ph n s (variable c x) = (4 ≤ n) × In (record { symb = x; target = n; set = set_at ph c }) s.binds × SetsIn s.scopes c
  MeaningGood ph n s (macro v) = ValueGood k s.names s.scopes v
  MeaningGood ph n s stopped = ⊥
  MeaningGood ph n s unknown = ⊥

  abbrev pub EnvGood : ℕ → State → Env → Type 0
  EnvGood ph s core_only = Unit {0}
  EnvGood ph s (extend n m e) = MeaningGood ph n s m × EnvGood ph s e

  pub value_grows : (s t : State) → Grows k s t → (v : Tree) → TreeGood k s.names s.scopes v → TreeGood k t.names t.scopes v
  value_grows s t w v g = record { fits = tree-more k w.names_le w.scopes_le v g.fits; owned = g.owned; shallow = g.shallow }

  pub meaning-grows : (ph n : ℕ) (s t : State) → Grows k s t → (m : Meaning) → MeaningGood ph n s m → MeaningGood ph n t m
  meaning-grows ph n s t w (core f) g = g
  meaning-grows ph n s t w (variable c x) g =
      (g.0, later_in s.scopes s.binds t.binds w.later (record { symb = x; target = n; set = set_at ph c }) g.1, sets_more w.scopes_le c g.2)
  meaning-grows ph n s t w (macro v) g = (value_grows s t w v g.0, g.1)
  meaning-grows ph n s t w stopped g = g
  meaning-grows ph n s t w unknown g = g

  pub env_grows : (ph : ℕ) (s t : State) → Grows k s t → (e : Env) → EnvGood ph s e → EnvGood ph t e
  env_grows ph s t w core_only g = tt
  env_grows ph s t w (extend n m e) g = (meaning-grows ph n s t w m g.0, env_grows ph s t w e g.1)

  -- a name that means a core form is that form's
  pub meaning-core : (ph : ℕ) (s : State) (n : ℕ) (e : Env) → EnvGood ph s e → (f : Form) → meaning n e ≡ core f → form_of n ≡ some f
  unfolding meaning core_meaning kind
  meaning-core ph s n core_only g f q = go (form_of n) q
    where
      go : (o : Option Form) → core_meaning o ≡ core f → o ≡ some f
      go none p = absurd (differ unknown (core f) (omega arith) p)
      go (some h) p = ap some (form_path h p)
        where
          form_path : (h : Form) → core h ≡ core f → h ≡ f
          form_path h p = cc
  meaning-core ph s n (extend j m e) g f q = go (eqb n j) (meaning-core ph s n e g.1 f) q
    where
      bad : (m : Meaning) → MeaningGood ph j s m → m ≡ core f → ⊥
      bad (core h) w p = w
      bad (variable c x) w p = differ (variable c x) (core f) (omega arith) p
      bad (macro v) w p = differ (macro v) (core f) (omega arith) p
      bad stopped w p = w
      bad unknown w p = w

      go : (t : Bool) → (meaning n e ≡ core f → form_of n ≡ some f) → (when t then m else meaning n e) ≡ core f → form_of n ≡ some f
      go true r p = absurd (bad m g.0 p)
      go false r p = r p

  -- a name that means a variable: its binder is bound to it
  pub meaning-variable : (ph : ℕ) (s : State) (n : ℕ) (e : Env) → EnvGood ph s e → (c : Sets) (x : ℕ) → meaning n e ≡ variable c x
      → MeaningGood ph n s (variable c x) × (is_among n (vars e) ≡ true)
  unfolding meaning core_meaning kind vars is_among
  meaning-variable ph s n core_only g c x q = absurd (go (form_of n) q)
    where
      go : (o : Option Form) → core_meaning o ≡ variable c x → ⊥
      go none p = differ unknown (variable c x) (omega arith) p
      go (some h) p = differ (core h) (variable c x) (omega arith) p
  meaning-variable ph s n (extend j m e) g c x q = go (eqb n j) refl m g.0 (meaning-variable ph s n e g.1 c x) q
    where
      go : (t : Bool) → eqb n j ≡ t → (m : Meaning) → MeaningGood ph j s m
          → (meaning n e ≡ variable c x → MeaningGood ph n s (variable c x) × (is_among n (vars e) ≡ true))
          → (when t then m else meaning n e) ≡ variable c x → MeaningGood ph n s (variable c x) × (is_among n (vars (extend j m e)) ≡ true)
      go true t (core h) w r p = absurd w
      go true t (variable c' x') w r p = (
        subst (λ (z : Meaning). MeaningGood ph n s z) p (subst (λ (z : ℕ). MeaningGood ph z s (variable c' x')) (sym (eqb-true n j t)) w),
        rw t,
      )
      go true t (macro v) w r p = absurd (differ (macro v) (variable c x) (omega arith) p)
      go true t stopped w r p = absurd w
      go true t unknown w r p = absurd w
      go false t (core h) w r p = absurd w
      go false t (variable c' x') w r p = ((r p).0, or_right (eqb n j) (is_among n (vars e)) (r p).1)
      go false t (macro v) w r p = r p
      go false t stopped w r p = absurd w
      go false t unknown w r p = absurd w

  pub meaning-macro : (ph : ℕ) (s : State) (n : ℕ) (e : Env) → EnvGood ph s e → (v : Tree) → meaning n e ≡ macro v → ValueGood k s.names s.scopes v
  unfolding meaning core_meaning kind
  meaning-macro ph s n core_only g v q = absurd (go (form_of n) q)
    where
      go : (o : Option Form) → core_meaning o ≡ macro v → ⊥
      go none p = differ unknown (macro v) (omega arith) p
      go (some h) p = differ (core h) (macro v) (omega arith) p
  meaning-macro ph s n (extend j m e) g v q = go (eqb n j) m g.0 (meaning-macro ph s n e g.1 v) q
    where
      go : (t : Bool) (m : Meaning) → MeaningGood ph j s m → (meaning n e ≡ macro v → ValueGood k s.names s.scopes v)
          → (when t then m else meaning n e) ≡ macro v → ValueGood k s.names s.scopes v
      go true (core h) w r p = absurd w
      go true (variable c x) w r p = absurd (differ (variable c x) (macro v) (omega arith) p)
      go true (macro u) w r p = subst (λ (z : Meaning). MeaningGood ph j s z) p w
      go true stopped w r p = absurd w
      go true unknown w r p = absurd w
      go false m w r p = r p

  -- ---- heads

  -- a head that makes the form f whatever is bound later
  abbrev pub Stays : ℕ → Stx → Form → State → Type 0
  Stays ph h f s = (st : State) → Later s.scopes s.binds st.binds → head_form ph h st ≡ ok (some f) st

  -- resolved heads stay resolved
  pub resolved_heads_stay_resolved : (ph : ℕ) (c : Sets) (x n : ℕ) (e : Env) (s : State) (f : Form) → EnvGood ph s e → SetsIn s.scopes c
      → resolve x (set_at ph c) s.binds ≡ means n → meaning n e ≡ core f → Stays ph (atom c (symbol x)) f s
  unfolding head_form
  resolved_heads_stay_resolved ph c x n e s f g i q p st w =
      rw (
        resolve_at-is ph c x n st (resolve-later s.scopes s.binds st.binds w x (set_at ph c) (set_at_in ph s.scopes c i) ∙ q),
        meaning-core ph s n e g f p,
      )

  -- a binder resolves to its own name for ever
  pub binder_resolves_to_its_name : (ph n : ℕ) (c : Sets) (x : ℕ) (s st : State) → StateFits k s → In (record { symb = x; target = n; set = set_at ph c }) s.binds
      → Later s.scopes s.binds st.binds → resolve_at ph c x st ≡ ok n st
  binder_resolves_to_its_name ph n c x s st g i w =
      resolve_at-is ph c x n st
      (resolve_own (record { symb = x; target = n; set = set_at ph c }) st.binds
      (keys_later s.scopes s.binds st.binds w (keys k s g))
      (later_in s.scopes s.binds st.binds w (record { symb = x; target = n; set = set_at ph c }) i))

  -- ---- request T-08: with stops

  -- what is not stopped means what it means without stops
  among-variable : (n : ℕ) (e : Env) (z : List ℕ) (c : Sets) (x : ℕ) → meaning_among n e z ≡ variable c x → meaning n e ≡ variable c x
  unfolding meaning_among kind
  among-variable n e z c x q = go (is_among n z) q
    where
      go : (b : Bool) → (when b then stopped else meaning n e) ≡ variable c x → meaning n e ≡ variable c x
      go true p = absurd (differ stopped (variable c x) (omega arith) p)
      go false p = p

  among-macro : (n : ℕ) (e : Env) (z : List ℕ) (v : Tree) → meaning_among n e z ≡ macro v → meaning n e ≡ macro v
  unfolding meaning_among kind
  among-macro n e z v q = go (is_among n z) q
    where
      go : (b : Bool) → (when b then stopped else meaning n e) ≡ macro v → meaning n e ≡ macro v
      go true p = absurd (differ stopped (macro v) (omega arith) p)
      go false p = p

  among-core : (n : ℕ) (e : Env) (z : List ℕ) (f : Form) → meaning_among n e z ≡ core f → meaning n e ≡ core f
  unfolding meaning_among kind
  among-core n e z f q = go (is_among n z) q
    where
      go : (b : Bool) → (when b then stopped else meaning n e) ≡ core f → meaning n e ≡ core f
      go true p = absurd (differ stopped (core f) (omega arith) p)
      go false p = p

  -- no meaning is a stop
  none-stopped : (ph : ℕ) (s : State) (n : ℕ) (e : Env) → EnvGood ph s e → meaning n e ≡ stopped → ⊥
  unfolding meaning core_meaning kind
  none-stopped ph s n core_only g q = go (form_of n) q
    where
      go : (o : Option Form) → core_meaning o ≡ stopped → ⊥
      go none p = differ unknown stopped (omega arith) p
      go (some h) p = differ (core h) stopped (omega arith) p
  none-stopped ph s n (extend j m e) g q = go (eqb n j) m g.0 (none-stopped ph s n e g.1) q
    where
      go : (t : Bool) (m : Meaning) → MeaningGood ph j s m → (meaning n e ≡ stopped → ⊥) → (when t then m else meaning n e) ≡ stopped → ⊥
      go true (core h) w r p = w
      go true (variable c x) w r p = differ (variable c x) stopped (omega arith) p
      go true (macro u) w r p = differ (macro u) stopped (omega arith) p
      go true stopped w r p = w
      go true unknown w r p = w
      go false m w r p = r p

  pub variable-among : (ph : ℕ) (s : State) (n : ℕ) (e : Env) (z : List ℕ) → EnvGood ph s e → (c : Sets) (x : ℕ) → meaning_among n e z ≡ variable c x
      → MeaningGood ph n s (variable c x) × (is_among n (vars e) ≡ true)
  variable-among ph s n e z g c x q = meaning-variable ph s n e g c x (among-variable n e z c x q)

  pub macro-among : (ph : ℕ) (s : State) (n : ℕ) (e : Env) (z : List ℕ) → EnvGood ph s e → (v : Tree) → meaning_among n e z ≡ macro v
      → ValueGood k s.names s.scopes v
  macro-among ph s n e z g v q = meaning-macro ph s n e g v (among-macro n e z v q)

  -- what the meaning m of a head says: a core form stays, a macro's value is good, and it is stopped only where there are stops
  abbrev pub HeadGood : ℕ → List ℕ → Stx → State → Meaning → Type 0
  HeadGood ph z h s (core f) = Stays ph h f s
  HeadGood ph z h s (variable c x) = Unit {0}
  HeadGood ph z h s (macro v) = ValueGood k s.names s.scopes v
  HeadGood ph z h s stopped = z ≡ [] → ⊥
  HeadGood ph z h s unknown = Unit {0}

  head-good : (ph : ℕ) (c : Sets) (x n : ℕ) (e : Env) (z : List ℕ) (s : State) → EnvGood ph s e → SetsIn s.scopes c → resolve x (set_at ph c) s.binds ≡ means n
      → (m : Meaning) → meaning_among n e z ≡ m → HeadGood ph z (atom c (symbol x)) s m
  unfolding meaning_among is_among
  head-good ph c x n e z s g i q (core f) p = resolved_heads_stay_resolved ph c x n e s f g i q (among-core n e z f p)
  head-good ph c x n e z s g i q (variable b y) p = tt
  head-good ph c x n e z s g i q (macro v) p = macro-among ph s n e z g v p
  head-good ph c x n e z s g i q stopped p = λ r. none-stopped ph s n e g (subst (λ (y : List ℕ). (when is_among n y then stopped else meaning n e) ≡ stopped) r p)
  head-good ph c x n e z s g i q unknown p = tt

  pub head-out : (here : Surroundings) (h : Stx) (s : State) → Sorted s.binds → EnvGood here.phase s here.meanings → StxFits k s.scopes h
      → Outcome Meaning (λ m t. HeadGood here.phase here.stops h s m × (s ≡ t)) (head_meaning here h s)
  unfolding head_meaning
  head-out here (atom c (symbol x)) s o g i =
      chain _ (resolve_at-out here.phase c x s o) (λ n t q. gives (meaning_among n here.meanings here.stops) t
      (head-good here.phase c x n here.meanings here.stops s g i.0 q.0 (meaning_among n here.meanings here.stops) refl, q.1))
  head-out here (atom c (number x)) s o g i = gives unknown s (tt, refl)
  head-out here (atom c (point x)) s o g i = gives unknown s (tt, refl)
  head-out here (atom c (prim x)) s o g i = gives unknown s (tt, refl)
  head-out here (atom c (rung x)) s o g i = gives unknown s (tt, refl)
  head-out here (list c l) s o g i = gives unknown s (tt, refl)
