-- The names of the stops: one law for each way out.
use mathlib.Core.Path.{◌≡◌, refl, sym, ap, ◌∙◌}
use mathlib.Core.Bool.{Bool, true, false, not, false≢true}
use mathlib.Core.Logic.{◌⊎◌, inl, inr}
use mathlib.Core.List.{List, [], ◌∷◌, ◌++◌, append-nil, append_assoc}
use mathlib.Core.Option.{Option, none, some}
use Prim.Native.Nat.{ℕ, ◌+◌, ◌*◌, ◌≤◌, ◌<◌}
use native.Mathlib.Omega.{arith}
use borrow.Author.Tests.{not-true, not-false}
use lib.ListN.{length}
use Rattle.std.specs.Prelude.{Result, Ok, Err}
use Rattle.model.specs.Choice.{given}
use Rattle.model.specs.Refusals.{wrong_argument}
use Rattle.model.specs.Objects.{symbol, atom}
use Rattle.model.specs.Trees.{Tree, stx, Trees, tcons}
use Rattle.model.specs.Meanings as m
use Rattle.model.specs.Meanings.{core, variable, macro, stopped, unknown, Env, meaning}
use Rattle.model.specs.Steps as ms
use Rattle.model.specs.Steps.{ok, no, after, resolve_at, unless, identifier}
use Rattle.model.specs.Evaluating.{Id, as_id, as_ids, known, stop_names}
use Rattle.environment.specs.Meanings.{RepE, Known, Means}
use Rattle.environment.specs.declared.Place.{Place}
use Rattle.environment.specs.declared.Meaning.{Meaning}
use Rattle.environment.specs.declared.Meaning.TheVariants as meant
use Rattle.environment.proofs.Frame.{carry_e}
use Rattle.environment.proofs.Laws.{on_variable, on_macro, on_lambda, on_let_syntax, on_quote, on_syntax, on_stopped, on_unknown, on_meaning_unclear, meant_small, has-is}
use Rattle.forms.specs.Names.{name_found, Names}
use Rattle.forms.specs.declared.Naming.{Naming}
use Rattle.forms.specs.declared.Naming.TheVariants.{Named, Unclear, Unnamed}
use Rattle.forms.proofs.Names.{on_named, on_unclear, on_unnamed, identifier-named, identifier-unclear}
use Rattle.refusals.specs.declared.Refusal.TheVariants.{WrongArgument}
use Rattle.scopes.specs.declared.Name.{Name}
use Rattle.steps.specs.States.{store_of, state_of, stop_of, ambiguous_of}
use Rattle.steps.specs.Agreement.{Later, gives, stops}
use Rattle.steps.specs.declared.State.{State}
use Rattle.steps.specs.declared.Stop.{Stop}
use Rattle.steps.proofs.Laws.{then_ok, then_no, unless-ok, unless-no, after-after, after-done, on_done, on_refused, later_refl, since}
use Rattle.stops.specs.Stops.{stop_names as mostStops, Bits, Inside, Stopped}
use Rattle.store.specs.Sizes.{binding_size}
use Rattle.store.specs.declared.rivals.Rivals.{Rivals}
use Rattle.table.specs.Sizes.{cell_size}
use Rattle.table.specs.Words.{get_cell, Same}
use Rattle.table.specs.declared.Cell.{Cell}
use Rattle.table.proofs.Laws.{same_refl, same_trans}
use Rattle.things.specs.Rep.{Rep, RepP}
use Rattle.things.specs.Measuring.{Seen}
use Rattle.things.proofs.Frame.{stays_p}
use Rattle.things.proofs.ByTag.{part_at, none-at}
use Rattle.asking.specs.Answering.{around}
use Rattle.asking.specs.Stopping.{HasMeaning, named_rule, ReadyNamed, StopsNamed, stop_rule, ReadyStop, StopsOne, ReadyStops, StopsAll}
use Rattle.asking.proofs.ByKind.{id_back, ids-none}

-- ---- a name's meaning

module _ {l : List ℕ} {e n : ℕ} {w : Meaning} (p : Means l e n w) where
  told-by : {t : Bool} → ((top : ℕ) (env : Env) → RepE l top e env → t ≡ known (meaning n env)) → HasMeaning l e n t
  told-by f = record { means = f }

  meaning-lambda : w ≡ meant.Lambda → HasMeaning l e n true
  unfolding known
  meaning-lambda z = told-by (λ top env r. sym (ap known (has-is (on_lambda (p.means top env r) z))))

  meaning_let_syntax : w ≡ meant.LetSyntax → HasMeaning l e n true
  unfolding known
  meaning_let_syntax z = told-by (λ top env r. sym (ap known (has-is (on_let_syntax (p.means top env r) z))))

  meaning-quote : w ≡ meant.Quote → HasMeaning l e n true
  unfolding known
  meaning-quote z = told-by (λ top env r. sym (ap known (has-is (on_quote (p.means top env r) z))))

  meaning-syntax : w ≡ meant.Syntax → HasMeaning l e n true
  unfolding known
  meaning-syntax z = told-by (λ top env r. sym (ap known (has-is (on_syntax (p.means top env r) z))))

  meaning-variable : {v : ℕ} → w ≡ meant.Variable v → HasMeaning l e n true
  unfolding known
  meaning-variable z = told-by (λ top env r. sym (ap known (has-is (on_variable (p.means top env r) z).is)))

  meaning-macro : {v : ℕ} → w ≡ meant.Macro v → HasMeaning l e n true
  unfolding known
  meaning-macro z = told-by (λ top env r. sym (ap known (has-is (on_macro (p.means top env r) z).is)))

  meaning-stopped : w ≡ meant.Stopped → HasMeaning l e n true
  unfolding known
  meaning-stopped z = told-by (λ top env r. sym (ap known (has-is (on_stopped (p.means top env r) z))))

  meaning-unknown : w ≡ meant.Unknown → HasMeaning l e n false
  unfolding known
  meaning-unknown z = told-by (λ top env r. sym (ap known (has-is (on_unknown (p.means top env r) z))))

  -- a name is never ambiguous
  meaning-unclear : {v : Rivals} {t : Bool} → w ≡ meant.Unclear v → HasMeaning l e n t
  meaning-unclear z = told-by (λ top env r. let d = on_meaning_unclear (p.means top env r) z in let y : ◌≡◌ {A = ℕ} 0 1 = cc in absurd (omega arith))

  pub meaning-none : (w ≡ meant.Unknown) ⊎ ((v : Rivals) × (w ≡ meant.Unclear v)) → HasMeaning l e n false
  meaning-none (inl z) = meaning-unknown z
  meaning-none (inr z) = meaning-unclear z.1

  pub meaning-some : (w ≡ meant.Unknown → ⊥) → ((v : Rivals) → w ≡ meant.Unclear v → ⊥) → HasMeaning l e n true
  meaning-some h k = by w refl
    where
      by : (x : Meaning) → w ≡ x → HasMeaning l e n true
      by meant.Lambda z = meaning-lambda z
      by meant.LetSyntax z = meaning_let_syntax z
      by meant.Quote z = meaning-quote z
      by meant.Syntax z = meaning-syntax z
      by (meant.Variable v) z = meaning-variable z
      by (meant.Macro v) z = meaning-macro z
      by meant.Stopped z = meaning-stopped z
      by meant.Unknown z = absurd (h z)
      by (meant.Unclear v) z = absurd (k v z)

-- ---- one name more

known-unknown : (w : m.Meaning) → known w ≡ true → ¬ (w ≡ unknown)
unfolding known
known-unknown w h e = false≢true (sym (ap known e) ∙ h)

stopped-later : {l l1 : List ℕ} {s : State} → Same s.top l l1 → Later 0 0 l l1 s s
stopped-later k = record { kept = k; grows = omega arith; fits = omega arith; spent = omega arith }

module _ {l : List ℕ} {s : State} {e : ℕ} (r : ReadyNamed l s e) where
  pub named-known : Known l e
  named-known = record { top = s.top; thing = r.meant; shown = r.known; inside = omega (arith, r.lying.fits); small = r.lying.small }

  module _ {n : ℕ} {t : Bool} (k : HasMeaning l e n t) where
    pub named-wrong : {f : Stop} → not t ≡ true → f ≡ stop_of WrongArgument s → StopsNamed e l l s n (Err f)
    unfolding named_rule
    named-wrong h same =
        rw same (record { means = λ b env a. stops _ (then_no _ (unless-no wrong_argument (state_of s b) (sym (k.means s.top env a) ∙ not-true t h))) })

    module _ (g : not t ≡ false) where
      pub named-ready : Inside l s.top n
      named-ready =
          let small : n < mostStops = meant_small r.known n (known-unknown _ (sym (k.means s.top r.meant r.known) ∙ not-false t g)) in
          record { fits = r.lying.fits; small = r.lying.small; named = small }

      pub named-stopped : {l1 : List ℕ} → Stopped l l1 s.top n → StopsNamed e l l1 s n (Ok s)
      unfolding named_rule
      named-stopped v = record {
        means = λ b env a. gives s (record {
          value = n;
          is = then_ok _ (unless-ok wrong_argument (state_of s b) (sym (k.means s.top env a) ∙ not-false t g));
          shown = record { same = refl; told = v.told };
          later = stopped-later v.kept;
        });
      }

pub ruleset named_laws = (named-known, named-wrong, named-ready, named-stopped)

-- ---- of an identifier

module _ {l st : List ℕ} {s : State} {i : ℕ} {at : Place} (r : ReadyStop l st s i at) where
  pub one_seen : Seen l i
  one_seen = record { top = s.top; thing = stx (atom r.id.sets (symbol r.id.symb)); shown = r.shown; inside = omega (arith, r.lying.fits); small = r.lying.small }

  pub one-held : s.bindings * binding_size ≤ length st
  one-held = omega (arith, r.held.few, r.held.wide)

  pub one_named_ready : ReadyNamed l s at.meanings
  one_named_ready = record { meant = r.meant; known = r.known; lying = r.lying }

module _ {l st : List ℕ} {s : State} {i : ℕ} {at : Place} {v : Naming} (p : Names at.phase st s.bindings l i v) where
  -- an identifier has a name
  pub one_unnamed : {l1 : List ℕ} {x : Result State Stop} → v ≡ Unnamed → StopsOne at st l l1 s i x
  unfolding name_found
  one_unnamed z = record { means = λ d e zs a b. let q = on_unnamed p a z in let y : ◌≡◌ {A = ℕ} 0 1 = cc in absurd (omega arith) }

  pub one-unclear : {k : Rivals} → v ≡ Unclear k → StopsOne at st l l s i (Err (ambiguous_of k s))
  unfolding stop_rule identifier
  one-unclear z = record {
    means = λ d e zs a b. stops _ (identifier-unclear at.phase (state_of s (store_of st)) (λ n. named_rule e n) (atom d.sets (symbol d.symb)) (on_unclear p a z));
  }

  pub one-named : {l1 : List ℕ} {n : Name} {x : Result State Stop} → v ≡ Named n → StopsNamed at.meanings l l1 s n.0 x → StopsOne at st l l1 s i x
  unfolding stop_rule identifier
  one-named {n = n} z g = record {
    means = λ d e zs a b.
        since 0 0 (later_refl l s) (omega arith) (omega arith)
        (identifier-named at.phase (state_of s (store_of st)) (λ n. named_rule e n) (atom d.sets (symbol d.symb)) (on_named p a z))
        (g.means (store_of st) e b);
  }

pub ruleset one_laws = (one_seen, one-held, one_named_ready, one_unnamed, one-unclear, one-named)

-- ---- of a chain of identifiers

-- the first, and the others
record Parted (t : Tree) (ts : Trees) (r : List Id) : Type 0 where
  first : Id
  others : List Id
  is : r ≡ first ∷ others
  first-is : as_id t ≡ some first
  others-are : as_ids ts ≡ some others

parted_by : (t : Tree) (ts : Trees) (o : Option Id) (q : Option (List Id)) {r : List Id} → as_id t ≡ o → as_ids ts ≡ q → given o (λ i. given q (λ l. some (i ∷ l))) ≡ some r → Parted t ts r
parted_by t ts none q a b e = let y : ◌≡◌ {A = ℕ} 0 1 = cc in absurd (omega arith)
parted_by t ts (some i) none a b e = let y : ◌≡◌ {A = ℕ} 0 1 = cc in absurd (omega arith)
parted_by t ts (some i) (some l) {r} a b e = let z : r ≡ i ∷ l = cc in record { first = i; others = l; is = z; first-is = a; others-are = b }

parted : (t : Tree) (ts : Trees) {r : List Id} → as_ids (tcons t ts) ≡ some r → Parted t ts r
unfolding as_ids
parted t ts e = parted_by t ts (as_id t) (as_ids ts) refl refl e

names-none : (here : m.Surroundings) (y : ms.State) → stop_names here [] y ≡ ok [] y
unfolding stop_names
names-none here y = refl

names_more : (here : m.Surroundings) (i : Id) (l : List Id) (y : ms.State) → stop_names here (i ∷ l) y ≡ after (stop_rule here i y) (λ n z. after (stop_names here l z) (λ r w. ok (n ∷ r) w))
unfolding stop_names stop_rule named_rule
names_more here i l y =
    sym (after-after (resolve_at here.phase i.sets i.symb y) _ _
    ∙ (λ j. after (resolve_at here.phase i.sets i.symb y) (λ n z.
    after-after (unless wrong_argument (known (meaning n here.meanings)) z) (λ u w. ok n w) (λ n v. after (stop_names here l v) (λ r w. ok (n ∷ r) w)) j)))

-- what is left, from k on, and the names of those passed
pub record StopsLeft (at : Place) (st l : List ℕ) (s : State) (k : ℕ) (ids : List Id) (e : Env) (zs : List ℕ) : Type 0 where
  pub parts : Trees
  pub left : List Id
  pub seen : List ℕ
  pub shown : RepP l s.top k parts
  pub are : as_ids parts ≡ some left
  pub meant : RepE l s.top at.meanings e
  pub bits : Bits l s.top seen
  pub whole : stop_names (around e zs at) ids (state_of s (store_of st)) ≡ after (stop_names (around e zs at) left (state_of s (store_of st))) (λ r w. ok (seen ++ r) w)

pub record Stopping (at : Place) (st l₀ : List ℕ) (s : State) (c : ℕ) (l : List ℕ) (k : ℕ) : Type 0 where
  pub ready : ReadyStops l₀ st s c at
  pub long : length l ≡ length l₀
  pub kept : Same s.top l₀ l
  pub means : (ts : Trees) (ids : List Id) (e : Env) (zs : List ℕ) → RepP l₀ s.top c ts → as_ids ts ≡ some ids → RepE l₀ s.top at.meanings e → StopsLeft at st l s k ids e zs

pub stopping-start : {at : Place} {st l : List ℕ} {s : State} {c : ℕ} → ReadyStops l st s c at → Stopping at st l s c l c
stopping-start {l = l} {s = s} r = record {
  ready = r;
  long = refl;
  kept = same_refl s.top l;
  means = λ ts ids e zs a f b. record { parts = ts; left = ids; seen = []; shown = a; are = f; meant = b; bits = r.bits; whole = sym (after-done _) };
}

module _ {at : Place} {st l₀ : List ℕ} {s : State} {c : ℕ} {l : List ℕ} {k : ℕ} (w : Stopping at st l₀ s c l k) where
  here-left : StopsLeft at st l s k w.ready.ids w.ready.meant []
  here-left = w.means w.ready.parts w.ready.ids w.ready.meant [] w.ready.shown w.ready.are w.ready.known

  pub stopping-long : length l ≡ length l₀
  stopping-long = w.long

  pub stopping-ended : k ≡ 0 → StopsAll at st l₀ l s c (Ok s)
  stopping-ended h = record {
    means = λ ts ids e zs a f b.
        let q = w.means ts ids e zs a f b in
        let y = state_of s (store_of st) in
        let none : some q.left ≡ some [] = sym q.are ∙ ap as_ids (none-at q.shown h) ∙ ids-none in
        let empty : q.left ≡ [] = cc in
        gives s (record {
          value = q.seen;
          is =
              q.whole
              ∙ ap (λ (i : List Id). after (stop_names (around e zs at) i y) (λ r z. ok (q.seen ++ r) z)) empty
              ∙ then_ok _ (names-none (around e zs at) y)
              ∙ ap (λ (r : List ℕ). ok r y) (append-nil q.seen);
          shown = record { same = refl; bits = q.bits };
          later = stopped-later w.kept;
        });
  }

  module _ (n : ¬ (k ≡ 0)) where
    pub stopping-inside : k + cell_size ≤ length l
    stopping-inside = let q = here-left in omega (arith, (part_at q.shown n refl).cell.inside, w.ready.lying.fits, w.long)

    module _ {x : Cell} (e : x ≡ get_cell l k) where
      pub stopping_less : x.tail < k
      stopping_less = (part_at here-left.shown n e).cell.low.1

      -- the identifier there, and what is left behind it
      split_left : {ids : List Id} {env : Env} {zs : List ℕ} (q : StopsLeft at st l s k ids env zs) → Parted (part_at q.shown n e).first (part_at q.shown n e).others q.left
      split_left q = let p = part_at q.shown n e in parted p.first p.others (sym (ap as_ids p.is) ∙ q.are)

      id-shown : {ids : List Id} {env : Env} {zs : List ℕ} (q : StopsLeft at st l s k ids env zs)
          → Rep l s.top x.head (stx (atom (split_left q).first.sets (symbol (split_left q).first.symb)))
      id-shown q = let p = part_at q.shown n e in rw (id_back p.first (split_left q).first-is) at p.cell.shown

      pub stopping-ready : ReadyStop l st s x.head at
      stopping-ready = record {
        id = (split_left here-left).first;
        shown = id-shown here-left;
        meant = w.ready.meant;
        known = here-left.meant;
        lying = record { fits = omega (arith, w.ready.lying.fits, w.long); small = omega (arith, w.ready.lying.small, w.long) };
        held = w.ready.held;
      }

      module _ {l1 : List ℕ} {t : Result State Stop} (g : StopsOne at st l l1 s x.head t) where
        rule_is : {ids : List Id} {env : Env} {zs : List ℕ} (q : StopsLeft at st l s k ids env zs)
            → stop_names (around env zs at) ids (state_of s (store_of st))
            ≡ after (stop_rule (around env zs at) (split_left q).first (state_of s (store_of st))) (λ a z. after (stop_names (around env zs at) (split_left q).others z) (λ r v. ok (q.seen ++ a ∷ r) v))
        rule_is {env = env} {zs = zs} q =
            let y = state_of s (store_of st) in
            let here = around env zs at in
            let p = split_left q in
            q.whole
            ∙ ap (λ (i : List Id). after (stop_names here i y) (λ r v. ok (q.seen ++ r) v)) p.is
            ∙ ap (λ (o : ms.Out (List ℕ)). after o (λ r v. ok (q.seen ++ r) v)) (names_more here p.first p.others y)
            ∙ after-after (stop_rule here p.first y) _ _
            ∙ (λ j. after (stop_rule here p.first y) (λ a z. after-after (stop_names here p.others z) (λ r w. ok (a ∷ r) w) (λ r v. ok (q.seen ++ r) v) j))

        pub stopping-refused : {f : Stop} → t ≡ Err f → StopsAll at st l₀ l1 s c (Err f)
        stopping-refused h = record {
          means = λ ts ids env zs a f b.
              let q = w.means ts ids env zs a f b in
              stops _ (rule_is q ∙ then_no _ (on_refused (g.means (split_left q).first env zs (id-shown q) q.meant) h));
        }

        pub stopping-more : {u : State} → t ≡ Ok u → length l1 ≡ length l → Stopping at st l₀ s c l1 x.tail
        stopping-more {u} h len =
            let first = g.means (split_left here-left).first w.ready.meant [] (id-shown here-left) here-left.meant in
            let keeps : Same s.top l l1 = (on_done first h).later.kept in
            record {
              ready = w.ready;
              long = len ∙ w.long;
              kept = same_trans s.top s.top l₀ l l1 (omega arith) w.kept keeps;
              means = λ ts ids env zs a f b.
                  let q = w.means ts ids env zs a f b in
                  let p = part_at q.shown n e in
                  let o = on_done (g.means (split_left q).first env zs (id-shown q) q.meant) h in
                  let y = state_of s (store_of st) in
                  record {
                    parts = p.others;
                    left = (split_left q).others;
                    seen = q.seen ++ o.value ∷ [];
                    shown = stays_p p.cell.shown-others keeps;
                    are = (split_left q).others-are;
                    meant = carry_e q.meant keeps (omega arith);
                    bits = o.shown.told q.seen q.bits;
                    whole =
                        rule_is q
                        ∙ then_ok _ o.is
                        ∙ ap (λ (v : State). after (stop_names (around env zs at) (split_left q).others (state_of v (store_of st))) (λ r z. ok (q.seen ++ o.value ∷ r) z)) o.shown.same
                        ∙ (λ j. after (stop_names (around env zs at) (split_left q).others y) (λ r z. ok (sym (append_assoc q.seen (o.value ∷ []) r) j) z));
                  };
            }

pub ruleset all_laws = (stopping-start, stopping-long, stopping-ended, stopping-inside, stopping_less, stopping-ready, stopping-refused, stopping-more)
