-- Meanings: one law for each way out; and what a caller knows of each.
use mathlib.Core.Path.{◌≡◌, refl, sym, ap, ◌∙◌}
use mathlib.Core.List.{List}
use mathlib.Core.Bool.{Bool, true, false}
use mathlib.Core.Option.{some}
use Prim.Native.Nat.{ℕ, zero, suc, ◌+◌, ◌≤◌, ◌<◌}
use native.Mathlib.Omega.{arith}
use borrow.Author.Tests.{eq-eqb, ne_eqb, eqb-true}
use lib.ListN.{length}
use lib.Dec.{eqb}
use Rattle.model.specs.Choice.{when◌then◌else◌}
use Rattle.model.specs.Refusals.{ambiguous}
use Rattle.model.specs.Objects.{symbol, number, point, prim, rung, Sets, set_at, Stx, atom, list}
use Rattle.model.specs.Competing as k
use Rattle.model.specs.Steps.{State, ok, no}
use Rattle.model.specs.Meanings as m
use Rattle.model.specs.Meanings.{form_of, core, variable, macro, stopped, unknown, Env, core_only, core_meaning, is_among, meaning_among}
use Rattle.model.specs.Expanding.{head_meaning}
use Rattle.table.specs.Words.{get_entry, put_entry, Same}
use Rattle.table.specs.declared.Entry.{Entry}
use Rattle.table.proofs.Laws.{put_entry-below, get_put_entry}
use Rattle.scopes.specs.declared.Name.{Name}
use Rattle.store.specs.Rivalry as d
use Rattle.store.specs.Rivalry.{Decision, several, rivals_of, decided}
use Rattle.store.specs.declared.rivals.Rivals.{Rivals}
use Rattle.store.proofs.Competing.{resolve_at-decided}
use Rattle.things.specs.Making.{Roomy}
use Rattle.things.proofs.Making.{room-add, room_fits}
use Rattle.forms.specs.Names.{name_found, Names, formed}
use Rattle.forms.specs.declared.Form.{Form}
use Rattle.forms.specs.declared.Form.TheVariants as form
use Rattle.forms.specs.declared.Naming.{Naming}
use Rattle.forms.specs.declared.Naming.TheVariants.{Named, Unclear, Unnamed}
use Rattle.forms.proofs.Names.{on_named, on_unclear, on_unnamed}
use Rattle.stops.specs.Stops.{IsStopped}
use Rattle.environment.specs.Meanings.{Meant, meant-variable, meant-macro, RepE, is-core, is_entry, Known, Extended, VariableAt, MacroAt, MeaningAs, MeaningIs, CoreMeans, Means, HeadMeaning, has, unclear, meaning_found, MeansAmong, MeansAt, most_names}
use Rattle.environment.specs.declared.Meaning.{Meaning}
use Rattle.environment.specs.declared.Meaning.TheVariants as meant
use Rattle.environment.proofs.Frame.{up_m, up_e, carry_m, stays_e}
use Rattle.table.specs.Sizes.{entry_size}

-- ---- one entry more

pub extended : {l l1 : List ℕ} {top n kind i next : ℕ} → Roomy l top entry_size → l1 ≡ put_entry l top (record { at = i; next = next; name = record { 0 = n }; kind = kind })
    → Extended l l1 top n kind i next top (top + entry_size)
extended {l} {l1} {top} {n} {kind} {i} {next} r e =
    let x : Entry = record { at = i; next = next; name = record { 0 = n }; kind = kind } in
    let sm : Same top l l1 = rw e (put_entry-below l top x) in
    let g : get_entry l1 top ≡ x = rw e (get_put_entry l top x r.fits) in
    let pos : 0 < top = omega (arith, r.low) in
    let fits : top + entry_size ≤ top + entry_size = omega arith in
    record { kept = sm; grows = refl; means = λ w env d a b. is_entry pos fits d g (carry_m a sm (omega arith)) (stays_e b sm) }

-- ---- a name's meaning

module _ (n : ℕ) (f : Form) (h : formed f ≡ form_of n) where
  core-by : (r : Meaning) → ((l : List ℕ) (top : ℕ) → MeaningIs l top (has (core_meaning (formed f))) r) → CoreMeans n r
  core-by r g = record { means = λ l top. rw (sym h) (g l top) }

  pub core-lambda : f ≡ form.Lambda → CoreMeans n meant.Lambda
  unfolding core_meaning MeaningAs
  core-lambda e = core-by meant.Lambda (λ l top. rw e (record { told = refl }))

  pub core_let_syntax : f ≡ form.LetSyntax → CoreMeans n meant.LetSyntax
  unfolding core_meaning MeaningAs
  core_let_syntax e = core-by meant.LetSyntax (λ l top. rw e (record { told = refl }))

  pub core-quote : f ≡ form.Quote → CoreMeans n meant.Quote
  unfolding core_meaning MeaningAs
  core-quote e = core-by meant.Quote (λ l top. rw e (record { told = refl }))

  pub core-syntax : f ≡ form.Syntax → CoreMeans n meant.Syntax
  unfolding core_meaning MeaningAs
  core-syntax e = core-by meant.Syntax (λ l top. rw e (record { told = refl }))

  pub core-other : f ≡ form.Other → CoreMeans n meant.Unknown
  unfolding core_meaning MeaningAs
  core-other e = core-by meant.Unknown (λ l top. rw e (record { told = refl }))

none-at : {l : List ℕ} {top e : ℕ} {env : Env} → RepE l top e env → e ≡ 0 → env ≡ core_only
none-at is-core h = refl
none-at (is_entry a b d q w y) h = absurd (omega arith)

pub means-core : {l : List ℕ} {e n : ℕ} {r : Meaning} → e ≡ 0 → CoreMeans n r → Means l e n r
unfolding m.meaning
means-core {l} h k = record { means = λ top env w. rw (none-at w h) (k.means l top) }

-- what an entry says
record EntryAt (l : List ℕ) (top e : ℕ) (x : Entry) (env : Env) : Type 0 where
  meant : m.Meaning
  others : Env
  is : env ≡ m.extend x.name.0 meant others
  inside : e + entry_size ≤ top
  low : x.next < e
  shown : Meant l top x.kind x.at meant
  shown-others : RepE l top x.next others

tail_low : {l : List ℕ} {e r : ℕ} {env : Env} → RepE l e r env → 0 < e → r < e
tail_low is-core h = h
tail_low (is_entry a b d q w y) h = omega arith

entry_at : {l : List ℕ} {top e : ℕ} {x : Entry} {env : Env} → RepE l top e env → ¬ (e ≡ 0) → x ≡ get_entry l e → EntryAt l top e x env
entry_at is-core h k = absurd (h refl)
entry_at {l} {top} {e} {x} (is_entry {n = n} {kind = kind} {i = i} {r = r} {w = w} {env = env} a b d q y z) h k =
    let eh : x.at ≡ i = ap (λ (y : Entry). y.at) (k ∙ q) in
    let et : x.next ≡ r = ap (λ (y : Entry). y.next) (k ∙ q) in
    let en : x.name.0 ≡ n = ap (λ (y : Entry). y.name.0) (k ∙ q) in
    let ek : x.kind ≡ kind = ap (λ (y : Entry). y.kind) (k ∙ q) in
    let y2 : Meant l top kind i w = up_m y (omega arith) in
    let z2 : RepE l top r env = up_e z (omega arith) in
    record {
      meant = w;
      others = env;
      is = ap (λ (j : ℕ). m.extend j w env) (sym en);
      inside = b;
      low = omega (arith, et, tail_low z a);
      shown = rw (ek, eh) y2;
      shown-others = rw et z2;
    }

pub entry_inside : {l : List ℕ} {e : ℕ} → Known l e → ¬ (e ≡ 0) → e + entry_size ≤ length l
entry_inside r h = omega (arith, (entry_at r.shown h refl).inside, r.inside)

here : (k n : ℕ) (w : m.Meaning) (env : Env) → k ≡ n → m.meaning n (m.extend k w env) ≡ w
unfolding m.meaning
here k n w env z = rw (eq-eqb n k (sym z)) refl

further : (k n : ℕ) (w : m.Meaning) (env : Env) → ¬ (k ≡ n) → m.meaning n (m.extend k w env) ≡ m.meaning n env
unfolding m.meaning
further k n w env z = rw (ne_eqb n k (λ y. z (sym y))) refl

as_meant_variable : {l : List ℕ} {top kind i : ℕ} {w : m.Meaning} → Meant l top kind i w → kind ≡ 0 → MeaningIs l top (has w) (meant.Variable i)
unfolding MeaningAs
as_meant_variable (meant-variable {i = i} {x = x} {c = c} r) z = record { told = record { sets = c; symb = x; is = refl; shown = r } }
as_meant_variable (meant-macro r) z = absurd (omega arith)

as_meant_macro : {l : List ℕ} {top kind i : ℕ} {w : m.Meaning} → Meant l top kind i w → ¬ (kind ≡ 0) → MeaningIs l top (has w) (meant.Macro i)
unfolding MeaningAs
as_meant_macro (meant-variable r) z = absurd (z refl)
as_meant_macro (meant-macro {i = i} {v = v} r) z = record { told = record { value = v; is = refl; shown = r } }

module _ {l : List ℕ} {e : ℕ} {x : Entry} (h : ¬ (e ≡ 0)) (k : x ≡ get_entry l e) where
  pub others-known : Known l e → Known l x.next
  others-known r = let q = entry_at r.shown h k in record { top = r.top; thing = q.others; shown = q.shown-others; inside = r.inside; small = r.small }

  pub others_less : {T : ℕ} → Known l e → e ≡ T → x.next < T
  others_less r z = omega (arith, (entry_at r.shown h k).low)

  pub means-variable : {n : ℕ} → x.name.0 ≡ n → x.kind ≡ 0 → Means l e n (meant.Variable x.at)
  means-variable {n} z y = record { means = λ top env w. let q = entry_at w h k in rw (q.is, here x.name.0 n q.meant q.others z) (as_meant_variable q.shown y) }

  pub means-macro : {n : ℕ} → x.name.0 ≡ n → ¬ (x.kind ≡ 0) → Means l e n (meant.Macro x.at)
  means-macro {n} z y = record { means = λ top env w. let q = entry_at w h k in rw (q.is, here x.name.0 n q.meant q.others z) (as_meant_macro q.shown y) }

  pub means-further : {n : ℕ} {r : Meaning} → ¬ (x.name.0 ≡ n) → Means l x.next n r → Means l e n r
  means-further {n} z g = record { means = λ top env w. let q = entry_at w h k in rw (q.is, further x.name.0 n q.meant q.others z) (g.means top q.others q.shown-others) }

-- a name that means something is below the limit of names
form_small : (n : ℕ) → ¬ (core_meaning (form_of n) ≡ unknown) → n < most_names
unfolding form_of core_meaning
form_small zero h = omega arith
form_small (suc zero) h = omega arith
form_small (suc (suc zero)) h = omega arith
form_small (suc (suc (suc zero))) h = omega arith
form_small (suc (suc (suc (suc n)))) h = absurd (h refl)

entry_small : (n k : ℕ) (w : m.Meaning) (env : Env) → k < most_names → (¬ (m.meaning n env ≡ unknown) → n < most_names) → ¬ (m.meaning n (m.extend k w env) ≡ unknown) → n < most_names
unfolding m.meaning
entry_small n k w env d r h = by (eqb n k) refl
  where
    by : (t : Bool) → eqb n k ≡ t → n < most_names
    by true e = omega (arith, eqb-true n k e)
    by false e = r (λ g. h (ap (λ (t : Bool). when t then w else m.meaning n env) e ∙ g))

pub meant_small : {l : List ℕ} {top e : ℕ} {env : Env} → RepE l top e env → (n : ℕ) → ¬ (m.meaning n env ≡ unknown) → n < most_names
unfolding m.meaning
meant_small is-core n h = form_small n h
meant_small (is_entry {n = k} {w = w} {env = env} a b d q y z) n h =
    entry_small n k w env d (λ g. meant_small z n g) h

-- ---- with the stops

among-stopped : (n : ℕ) (env : Env) (zs : List ℕ) → is_among n zs ≡ true → meaning_among n env zs ≡ stopped
unfolding meaning_among
among-stopped n env zs h = rw h refl

among-free : (n : ℕ) (env : Env) (zs : List ℕ) → is_among n zs ≡ false → meaning_among n env zs ≡ m.meaning n env
unfolding meaning_among
among-free n env zs h = rw h refl

module _ {l : List ℕ} {e z n : ℕ} {b : Bool} (s : IsStopped l z n b) where
  pub means-stopped : b ≡ true → MeansAmong l e z n meant.Stopped
  unfolding MeaningAs
  means-stopped h = record { means = λ top env zs w y. rw (among-stopped n env zs (sym (s.means top zs y) ∙ h)) (record { told = refl }) }

  pub means-free : {r : Meaning} → b ≡ false → Means l e n r → MeansAmong l e z n r
  means-free h g = record { means = λ top env zs w y. rw (among-free n env zs (sym (s.means top zs y) ∙ h)) (g.means top env w) }

-- ---- the meaning of an object

module _ {ph n : ℕ} {l st : List ℕ} {i : ℕ} {v : Naming} (p : Names ph st n l i v) where
  pub at-unclear : {e s : ℕ} {k : Rivals} → v ≡ Unclear k → MeansAt ph st n l i e s (meant.Unclear k)
  unfolding meaning_found MeaningAs
  at-unclear z = record { means = λ top x env zs w y q. rw (on_unclear p w z) (record { told = refl }) }

  pub at_unnamed : {e s : ℕ} → v ≡ Unnamed → MeansAt ph st n l i e s meant.Unknown
  unfolding meaning_found MeaningAs
  at_unnamed z = record { means = λ top x env zs w y q. rw (on_unnamed p w z) (record { told = refl }) }

  pub at_named : {e s : ℕ} {k : Name} {r : Meaning} → v ≡ Named k → MeansAmong l e s k.0 r → MeansAt ph st n l i e s r
  unfolding meaning_found
  at_named z g = record { means = λ top x env zs w y q. rw (on_named p w z) (g.means top env zs y q) }

pub ruleset laws = (room-add, room_fits, extended, core-lambda, core_let_syntax, core-quote, core-syntax, core-other, means-core, entry_inside, others-known, others_less, means-variable, means-macro, means-further, means-stopped, means-free, at-unclear, at_unnamed, at_named)

-- ---- what a caller knows

told_as : {l : List ℕ} {top : ℕ} {q : HeadMeaning} {r s : Meaning} → MeaningIs l top q r → r ≡ s → MeaningAs l top s q
told_as a e = rw e at a.told

module _ {l : List ℕ} {top : ℕ} {q : HeadMeaning} {r : Meaning} (a : MeaningIs l top q r) where
  pub on_variable : {i : ℕ} → r ≡ meant.Variable i → VariableAt l top i q
  unfolding MeaningAs
  on_variable e = told_as a e

  pub on_macro : {i : ℕ} → r ≡ meant.Macro i → MacroAt l top i q
  unfolding MeaningAs
  on_macro e = told_as a e

  pub on_lambda : r ≡ meant.Lambda → q ≡ has (core m.lambda)
  unfolding MeaningAs
  on_lambda e = told_as a e

  pub on_let_syntax : r ≡ meant.LetSyntax → q ≡ has (core m.let_syntax)
  unfolding MeaningAs
  on_let_syntax e = told_as a e

  pub on_quote : r ≡ meant.Quote → q ≡ has (core m.quote)
  unfolding MeaningAs
  on_quote e = told_as a e

  pub on_syntax : r ≡ meant.Syntax → q ≡ has (core m.syntax)
  unfolding MeaningAs
  on_syntax e = told_as a e

  pub on_stopped : r ≡ meant.Stopped → q ≡ has stopped
  unfolding MeaningAs
  on_stopped e = told_as a e

  pub on_unknown : r ≡ meant.Unknown → q ≡ has unknown
  unfolding MeaningAs
  on_unknown e = told_as a e

  pub on_meaning_unclear : {k : Rivals} → r ≡ meant.Unclear k → q ≡ unclear (rivals_of k)
  unfolding MeaningAs
  on_meaning_unclear e = told_as a e

pub has-is : {a b : m.Meaning} → has a ≡ has b → a ≡ b
has-is e = cc

unclear-is : {a b : k.Rivals} → unclear a ≡ unclear b → a ≡ b
unclear-is e = cc

module _ (ph : ℕ) (env : Env) (zs : List ℕ) (y : State) (c : Sets) (x : ℕ) where
  by-found : (f : Decision) {w : m.Meaning} → decided x (set_at ph c) y.binds ≡ f → meaning_found (some f) env zs ≡ has w
      → head_meaning (record { phase = ph; meanings = env; stops = zs }) (atom c (symbol x)) y ≡ ok w y
  unfolding head_meaning meaning_found
  by-found (d.means n) e h = rw (resolve_at-decided ph c x y, e) (ap (λ (k : m.Meaning). ok k y) (has-is h))
  by-found (several p) e h = let z : ◌≡◌ {A = ℕ} 0 1 = cc in absurd (omega arith)

  by-several : (f : Decision) {p : k.Rivals} → decided x (set_at ph c) y.binds ≡ f → meaning_found (some f) env zs ≡ unclear p
      → head_meaning (record { phase = ph; meanings = env; stops = zs }) (atom c (symbol x)) y ≡ no ambiguous p y.left
  unfolding head_meaning meaning_found
  by-several (d.means n) e h = let z : ◌≡◌ {A = ℕ} 0 1 = cc in absurd (omega arith)
  by-several (several q) e h = rw (resolve_at-decided ph c x y, e) (ap (λ (z : k.Rivals). no ambiguous z y.left) (unclear-is h))

module _ (ph : ℕ) (env : Env) (zs : List ℕ) (y : State) where
  pub head-means : (x : Stx) {w : m.Meaning} → meaning_found (name_found ph y.binds x) env zs ≡ has w → head_meaning (record { phase = ph; meanings = env; stops = zs }) x y ≡ ok w y
  unfolding head_meaning name_found meaning_found
  head-means (atom c (symbol x)) h = by-found ph env zs y c x (decided x (set_at ph c) y.binds) refl h
  head-means (atom c (number x)) h = ap (λ (k : m.Meaning). ok k y) (has-is h)
  head-means (atom c (point x)) h = ap (λ (k : m.Meaning). ok k y) (has-is h)
  head-means (atom c (prim x)) h = ap (λ (k : m.Meaning). ok k y) (has-is h)
  head-means (atom c (rung x)) h = ap (λ (k : m.Meaning). ok k y) (has-is h)
  head-means (list c l) h = ap (λ (k : m.Meaning). ok k y) (has-is h)

  pub head-unclear : (x : Stx) {p : k.Rivals} → meaning_found (name_found ph y.binds x) env zs ≡ unclear p → head_meaning (record { phase = ph; meanings = env; stops = zs }) x y ≡ no ambiguous p y.left
  unfolding head_meaning name_found meaning_found
  head-unclear (atom c (symbol x)) h = by-several ph env zs y c x (decided x (set_at ph c) y.binds) refl h
  head-unclear (atom c (number x)) h = let z : ◌≡◌ {A = ℕ} 0 1 = cc in absurd (omega arith)
  head-unclear (atom c (point x)) h = let z : ◌≡◌ {A = ℕ} 0 1 = cc in absurd (omega arith)
  head-unclear (atom c (prim x)) h = let z : ◌≡◌ {A = ℕ} 0 1 = cc in absurd (omega arith)
  head-unclear (atom c (rung x)) h = let z : ◌≡◌ {A = ℕ} 0 1 = cc in absurd (omega arith)
  head-unclear (list c l) h = let z : ◌≡◌ {A = ℕ} 0 1 = cc in absurd (omega arith)
