-- The root built in the table, and the work on it.
use Rattle.steps.specs.declared.Stop.{Stop}
use Rattle.std.specs.Prelude.{Result, Ok, Err}
use Prim.Native.Nat.{ℕ, ◌+◌, ◌≤◌}
use mathlib.Core.Path.{◌≡◌, refl, sym, ap, ◌∙◌, subst}
use mathlib.Core.List.{List, []}
use native.Mathlib.Omega.{arith}
use lib.ListN.{length, drop}
use Rattle.model.specs.Scopes.{no_scopes}
use Rattle.model.specs.Objects.{Stx}
use Rattle.model.specs.Trees.{Tree, stx, load_size}
use Rattle.model.specs.Steps as m
use Rattle.model.specs.Steps.{Step, carrying}
use Rattle.model.specs.Meanings.{of_root, core_only, nowhere}
use Rattle.model.specs.Parsing.{parse}
use Rattle.model.specs.Expanding.{evaluate, expand}
use Rattle.laws.proofs.Units.{NoRise, evaluate_no_rise, parse_no_rise, expand_no_rise, names-after, left_after_refusal}
use Rattle.store.specs.Sizes.{held_size}
use Rattle.store.specs.Words.{binds_of, Carries}
use Rattle.steps.specs.declared.State.{State}
use Rattle.steps.specs.declared.Out.{Out}
use Rattle.steps.specs.States.{Store, store_of, state_of, raised_to, Room}
use Rattle.steps.specs.Agreement.{Agrees}
use Rattle.steps.proofs.Laws.{room-later, on_done, on_refused}
use Rattle.table.specs.Sizes.{two_cells}
use Rattle.things.specs.Rep.{Rep}
use Rattle.environment.specs.Meanings.{is-core}
use Rattle.scoping.specs.Changing.{ShownObject, objects}
use Rattle.head.specs.declared.Head.{Head}
use Rattle.builder.specs.Reads.{ObjectRead, object-read, TreeRead, tree-read}
use Rattle.builder.specs.Building as built
use Rattle.builder.specs.Building.{Builds}
use Rattle.builder.specs.declared.Built.{Built}
use Rattle.builder.proofs.Sizes.{load-stx, load-some}
use Rattle.stops.specs.Stops.{no-stops}
use Rattle.environment.specs.declared.Place.{Place}
use Rattle.environment.specs.Places.{is-nowhere}
use Rattle.parse.specs.Shown.{ShownTree}
use Rattle.parse.specs.Parsing as parsing
use Rattle.parse.specs.Parsing.{Parsed}
use Rattle.expand.specs.declared.Surroundings.{Surroundings}
use Rattle.expand.specs.Cycle as expanding
use Rattle.expand.specs.Cycle.{Expanded}
use Rattle.expand.specs.Evaluation.{ReadyToEvaluate, Evaluates}
use Rattle.expand.specs.Leaves.{Around}
use Rattle.expand.proofs.Carried.{put_state}
use Rattle.image.specs.declared.Judgement.{Judgement}
use Rattle.image.specs.Judging.{Kind, syntax_kind, tree_kind, Good}
use Rattle.jobs.specs.Working as w
use Rattle.jobs.specs.Working.{opening, Empty, Loaded, itself, CameTo, Worked, FewBindings}

-- ---- any root: building it, and what the work on it came to

module _ {A : Type 0} {K : Kind A} {image st : List ℕ} {j : Judgement} {l : List ℕ} {s : State} (d : Loaded K image st j l s) where
  first : s.top ≡ 1
  first = ap (λ (x : State). x.top) d.state-is

  paid : s.left + j.size ≡ d.budget
  paid = let u = ap (λ (x : State). x.left) d.state-is in omega (arith, d.enough)

module _ {A : Type 0} {K : Kind A} {image st : List ℕ} {j : Judgement} {l : List ℕ} {s : State} (d : Loaded K image st j l s) {R : List ℕ → Tree → List ℕ → Type 0}
    (t : Tree) (read : R (drop j.root image) t []) (sized : j.size ≡ load_size t) where
  judged : built.Judged R l s.top image j.root j.front.head.scopes
  judged = record {
    thing = t;
    rest = [];
    read = read;
    room = record {
      fits = omega (arith, first d, paid d, d.lent.room, sized, load-some t);
      small = d.lent.small;
      low = omega (arith, first d);
      place = record { inside = d.good.root-within; short = d.good.short };
      few = d.good.scopes-to;
    };
  }

  room : {l' : List ℕ} {b : Built} → Builds R l l' s.top image j.root (j.root + 1) b → length l' ≡ length l → Room l' (raised_to b.top s)
  room v same = record {
    fits = omega (arith, first d, paid d, d.lent.room, sized, same, (v.means t [] read).grows);
    small = rw same d.lent.small;
    low = omega (arith, first d, v.rises);
  }

-- whatever is known of the image
abbrev with_good : {A : Type 0} {K : Kind A} {image st : List ℕ} {j : Judgement} {l : List ℕ} {s : State} → Loaded K image st j l s → Good K image st j → Loaded K image st j l s
with_good d g = record { budget = d.budget; good = g; lent = d.lent; enough = d.enough; state-is = d.state-is }

-- over any result that lies in the table
module _ {B : Type 0} (thing : B → Tree) (Shows : List ℕ → Out → B → Type 0) (rep : (l : List ℕ) (o : Out) (x : B) → Shows l o x → Rep l o.state.top o.at (thing x)) (work : Step B) (calm : NoRise work) where
  agreed : {n v top : ℕ} {l l' : List ℕ} (s : State) (b : Store) (st' : List ℕ) (a : Result Out Stop) → Room l (raised_to top s) → length l' ≡ length l
      → Agrees (record { shows = Shows; state = λ o. o.state }) n v l l' (raised_to top s) (store_of st') (work (state_of s b)) a → CameTo thing s st' l' (work (state_of s b)) a
  agreed s b st' (Ok o) fits same g =
      let y = on_done g refl in
      record {
        value = y.value;
        is = y.is;
        shown = rep _ o y.value y.shown;
        room = room-later fits y.later same;
        names-from = names-after work calm y.value _ _ y.is;
        within = omega (arith, y.later.spent);
      }
  agreed s b st' (Err f) fits same g = let y = on_refused g refl in record { is = y; within = left_after_refusal work calm _ _ _ y }

-- ---- what is in the store at the start

nothing-there : {st : List ℕ} (s : State) → Empty st → state_of s (store_of st) ≡ state_of s (opening st)
nothing-there {st} s none = λ i. record { left = s.left; names = s.names; scopes = s.scopes; binds = binds_of st s.bindings; prunable = none.prunable i; uses = none.uses i }

-- ---- a tree, evaluated

module _ {image st : List ℕ} {j : Judgement} {l : List ℕ} {s : State} (d : Loaded tree_kind image st j l s) where
  tree-reads : TreeRead j.front.head.scopes (drop j.root image) d.good.image.root []
  tree-reads = tree-read _ d.good.image.head 0 (ap (λ (y : Head). y.scopes) (sym d.good.head-is)) d.good.root-reads

  pub tree-judged : built.Judged (TreeRead j.front.head.scopes) l s.top image j.root j.front.head.scopes
  tree-judged = judged d d.good.image.root tree-reads d.good.size_is

  module _ {l' : List ℕ} {b : Built} (v : Builds (TreeRead j.front.head.scopes) l l' s.top image j.root (j.root + 1) b) (same : length l' ≡ length l) {t : State} (te : t ≡ raised_to b.top s) where
    tree-shown : Rep l' b.top b.at d.good.image.root
    tree-shown = (v.means d.good.image.root [] tree-reads).shown

    tree-room : Room l' (raised_to b.top s)
    tree-room = room d d.good.image.root tree-reads d.good.size_is v same

    module _ {place : Place} (no_use : place.intro.0 ≡ 0) where
      pub tree-ready : ReadyToEvaluate l' st t b.at place
      tree-ready =
          subst (λ (z : State). ReadyToEvaluate l' st z b.at place) (sym te)
          (record {
            thing = d.good.image.root;
            shown = tree-shown;
            placed = record {
              where_it_is = nowhere;
              stands = is-nowhere no_use;
              room = tree-room;
              few = let n = ap (λ (x : State). x.bindings) d.state-is in omega (arith, d.good.few-binds);
              wide = λ k here z. let y : ◌≡◌ {A = ℕ} 0 1 = cc in absurd (omega arith);
            };
          })

      tree-came : {st' l'' : List ℕ} (a : Result Out Stop) → Empty st → Evaluates 128 place st st' l' l'' t b.at a → length l'' ≡ length l' → CameTo itself s st' l'' (evaluate 128 nowhere d.good.image.root (state_of s (opening st))) a
      tree-came {st'} {l''} a none e more =
          let e' = subst (λ (z : State). Evaluates 128 place st st' l' l'' z b.at a) te e in
          subst (λ (z : m.State). CameTo itself s st' l'' (evaluate 128 nowhere d.good.image.root z) a) (nothing-there s none)
          (agreed itself ShownTree (λ k o x r. r.rep) (evaluate 128 nowhere d.good.image.root) (evaluate_no_rise 128 nowhere d.good.image.root) s (store_of st) st' a tree-room more
          (e'.means d.good.image.root nowhere tree-shown (is-nowhere no_use)))

pub tree-worked : {image st st' : List ℕ} {j : Judgement} {l l' l'' : List ℕ} {s t : State} {b : Built} {place : Place} {a : Result Out Stop} → Loaded tree_kind image st j l s → Empty st → place.intro.0 ≡ 0
    → Builds (TreeRead j.front.head.scopes) l l' s.top image j.root (j.root + 1) b → length l' ≡ length l → t ≡ raised_to b.top s → Evaluates 128 place st st' l' l'' t b.at a → length l'' ≡ length l'
    → Worked w.evaluating itself image st j s st' l'' a
tree-worked {a = a} d none no_use v same te e more = record {
  means = λ g. tree-came (with_good d g) v same te no_use a none e more;
}

pub ruleset tree_laws = (tree-judged, tree-ready, tree-worked)

-- ---- an object

abbrev bare : Around
bare = record { meanings = core_only; stops = [] }

few_in : {l l' : List ℕ} {s : State} {b : Store} {q : m.Out Stx} (a : Result Out Stop) → Agrees objects 1 two_cells l l' s b q a → FewBindings a
few_in (Ok o) g = (on_done g refl).shown.few
few_in (Err f) g = tt

module _ {image st : List ℕ} {j : Judgement} {l : List ℕ} {s : State} (d : Loaded syntax_kind image st j l s) where
  abbrev object : Stx
  object = d.good.image.root

  object-reads : ObjectRead j.front.head.scopes (drop j.root image) (stx object) []
  object-reads = object-read _ d.good.image.head (ap (λ (y : Head). y.scopes) (sym d.good.head-is)) d.good.root-reads

  object-sized : j.size ≡ load_size (stx object)
  object-sized = d.good.size_is ∙ sym (load-stx object)

  pub object-judged : built.Judged (ObjectRead j.front.head.scopes) l s.top image j.root j.front.head.scopes
  object-judged = judged d (stx object) object-reads object-sized

  few_so : s.bindings ≤ 512
  few_so = let n = ap (λ (x : State). x.bindings) d.state-is in omega (arith, d.good.few-binds)

  module _ {l' : List ℕ} {b : Built} (v : Builds (ObjectRead j.front.head.scopes) l l' s.top image j.root (j.root + 1) b) (same : length l' ≡ length l) {t : State} (te : t ≡ raised_to b.top s) where
    object-shown : Rep l' b.top b.at (stx object)
    object-shown = (v.means (stx object) [] object-reads).shown

    object-room : Room l' (raised_to b.top s)
    object-room = room d (stx object) object-reads object-sized v same

    -- ---- in the store st1, with nothing carried

    module _ {st1 : List ℕ} where
      pub parse-ready : held_size ≤ length st → length st1 ≡ length st → parsing.ReadyToParse l' st1 t b.at
      parse-ready wide long =
          subst (λ (z : State). parsing.ReadyToParse l' st1 z b.at) (sym te)
          (record { thing = object; shown = object-shown; room = object-room; held = record { few = few_so; wide = omega arith } })

      pub expand-ready : {at : Surroundings} → at.meanings ≡ 0 → at.stops ≡ 0 → held_size ≤ length st → length st1 ≡ length st → expanding.ReadyToExpand l' st1 t b.at at
      expand-ready {at} core unstopped wide long =
          subst (λ (z : State). expanding.ReadyToExpand l' st1 z b.at at) (sym te)
          (record { thing = object; shown = object-shown; within = record { meant = bare; known = rw (core, unstopped) (record { meant = is-core; stopped = no-stops }); room = object-room; held = record { few = few_so; wide = omega arith } } })

      module _ (put : Carries no_scopes no_scopes st st1) where
        opened : state_of s (store_of st1) ≡ state_of s (opening st)
        unfolding carrying
        opened = put_state s put few_so

        parse-came : {l'' : List ℕ} (a : Result Out Stop) → Parsed 128 0 st1 l' l'' t b.at a → length l'' ≡ length l' → CameTo itself s st1 l'' (parse 128 0 object (state_of s (opening st))) a
        parse-came {l''} a e more =
            let e' = subst (λ (z : State). Parsed 128 0 st1 l' l'' z b.at a) te e in
            subst (λ (z : m.State). CameTo itself s st1 l'' (parse 128 0 object z) a) opened
            (agreed itself ShownTree (λ k o x r. r.rep) (parse 128 0 object) (parse_no_rise 128 0 object) s (store_of st1) st1 a object-room more (e'.means object object-shown))

        module _ {ph : ℕ} {st' l'' : List ℕ} (a : Result Out Stop) (e : Expanded (record { entries = 128; phase = ph; meanings = 0; stops = 0 }) st1 st' l' l'' t b.at a) where
          expand_agrees : Agrees objects 1 two_cells l' l'' (raised_to b.top s) (store_of st') (expand 128 (of_root ph) object (state_of s (store_of st1))) a
          expand_agrees =
              let e' = subst (λ (z : State). Expanded (record { entries = 128; phase = ph; meanings = 0; stops = 0 }) st1 st' l' l'' z b.at a) te e in
              e'.means object bare object-shown (record { meant = is-core; stopped = no-stops })

          expand-came : length l'' ≡ length l' → CameTo stx s st' l'' (expand 128 (of_root ph) object (state_of s (opening st))) a
          expand-came more =
              subst (λ (z : m.State). CameTo stx s st' l'' (expand 128 (of_root ph) object z) a) opened
              (agreed stx ShownObject (λ k o x r. r.rep) (expand 128 (of_root ph) object) (expand_no_rise 128 (of_root ph) object) s (store_of st1) st' a object-room more expand_agrees)

          expand-few : FewBindings a
          expand-few = few_in a expand_agrees

module _ {image st st1 : List ℕ} {j : Judgement} {l l' : List ℕ} {s t : State} {b : Built} (d : Loaded syntax_kind image st j l s) (put : Carries no_scopes no_scopes st st1)
    (v : Builds (ObjectRead j.front.head.scopes) l l' s.top image j.root (j.root + 1) b) (same : length l' ≡ length l) (te : t ≡ raised_to b.top s) where
  pub parse-worked : {l'' : List ℕ} {a : Result Out Stop} → Parsed 128 0 st1 l' l'' t b.at a → length l'' ≡ length l' → Worked w.parsing itself image st j s st1 l'' a
  parse-worked {a = a} e more = record { means = λ g. parse-came (with_good d g) v same te put a e more }

  module _ {ph : ℕ} {st' l'' : List ℕ} {a : Result Out Stop} (e : Expanded (record { entries = 128; phase = ph; meanings = 0; stops = 0 }) st1 st' l' l'' t b.at a) where
    pub expand-worked : length l'' ≡ length l' → Worked (w.expanding ph) stx image st j s st' l'' a
    expand-worked more = record { means = λ g. expand-came (with_good d g) v same te put a e more }

    pub expand-held : FewBindings a
    expand-held = expand-few d v same te put a e

pub ruleset parse_laws = (object-judged, parse-ready, parse-worked)

pub ruleset expand_laws = (object-judged, expand-ready, expand-worked, expand-held)
