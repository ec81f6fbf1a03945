-- Primitive 8 up to what is expanded: one law for each way out; and that what is left of the rule is to expand and to flip back.
use mathlib.Core.Path.{◌≡◌, refl, sym, ap, subst, ◌∙◌}
use mathlib.Core.Bool.{Bool, true, false, not}
use mathlib.Core.List.{List, []}
use mathlib.Core.Option.{Option, none, some}
use Prim.Native.Nat.{ℕ, ◌+◌, ◌-◌, ◌≤◌}
use native.Mathlib.Omega.{arith}
use borrow.Author.Tests.{not-true, not-false}
use lib.ListN.{length}
use Rattle.std.specs.Prelude as std
use Rattle.std.specs.Prelude.{Some, None, Result, Ok, Err}
use Rattle.asking.specs.declared.Piece.{Piece}
use Rattle.model.specs.Choice.{given}
use Rattle.model.specs.Refusals.{wrong_argument}
use Rattle.model.specs.Objects.{Stx, flip_scope}
use Rattle.model.specs.Trees.{Tree, stx, Trees, as_stx, as_list}
use Rattle.model.specs.Competing.{no_rivals}
use Rattle.model.specs.Meanings as m
use Rattle.model.specs.Meanings.{Env}
use Rattle.model.specs.Steps as ms
use Rattle.model.specs.Steps.{ok, no, after, charge, flip_in}
use Rattle.model.specs.Evaluating as ev
use Rattle.model.specs.Evaluating.{Expander, Id, as_ids, or_wrong_kind, stop_names, expand_within, apply_local}
use Rattle.environment.specs.Meanings.{RepE}
use Rattle.environment.specs.declared.Place.{Place}
use Rattle.environment.proofs.Frame.{carry_e}
use Rattle.parse.specs.Parsing.{unpaid}
use Rattle.parse.proofs.Laws.{unpaid-is, top-is}
use Rattle.refusals.specs.declared.Refusal.TheVariants.{WrongArgument}
use Rattle.scopes.specs.Sets.{Declared}
use Rattle.scoping.specs.Changing.{ReadyObject, change_rule, Changes}
use Rattle.steps.specs.States.{store_of, state_of, stop_of, raised_to, charge_of}
use Rattle.steps.specs.Agreement.{Later, Gave, Agrees, gives, stops}
use Rattle.steps.specs.declared.State.{State}
use Rattle.steps.specs.declared.Stop.{Stop}
use Rattle.steps.specs.declared.Out.{Out}
use Rattle.steps.proofs.Laws.{charge_went, charge_failed, charge-ok, charge-no, then_ok, then_no, after-after, on_done, on_refused, since}
use Rattle.stops.specs.Stops.{stops_size, Bits, NoneYet}
use Rattle.stops.proofs.Frame.{carry_z}
use Rattle.stops.proofs.Laws.{bits-shown}
use Rattle.table.specs.Sizes.{unit_size}
use Rattle.table.specs.Words.{Same}
use Rattle.table.proofs.Laws.{same_trans}
use Rattle.things.specs.Rep.{Rep, RepP}
use Rattle.things.specs.Making.{Roomy}
use Rattle.things.specs.Measuring.{Seen}
use Rattle.things.proofs.Frame.{carry, stays_p}
use Rattle.asking.specs.Kinds.{ObjectAt, IsObject, IdsAt, ListsIds}
use Rattle.asking.specs.Answering.{around}
use Rattle.asking.specs.Stopping.{named, ReadyStops, StopsAll}
use Rattle.asking.specs.Pieces.{pieces, flip_rule, Flips, open_parts, open_spare, ReadyParts, OpensParts, or_wrong, open_rule, close_rule, opened_rule, ReadyToOpen, OpensPaid, Opens}
use Rattle.asking.proofs.ByKind.{on_ids, on_no_ids}
use Rattle.asking.proofs.Answering.{by_use}

-- ---- the flip

module _ {ph k : ℕ} {l l1 : List ℕ} {s : State} {i : ℕ} {a : Result Out Stop} (v : Changes (flip_scope k ph) l l1 s i a) where
  pub flip-refused : {z : ℕ} {f : Stop} → a ≡ Err f → Flips ph k z l l1 s i (Err f)
  unfolding flip_rule
  flip-refused {f = f} e = record { means = λ b x zs u c. stops f (then_no _ (on_refused (v.means b x u) e)) }

  pub flip-done : {z : ℕ} {o : Out} → a ≡ Ok o → Flips ph k z l l1 s i (Ok (record { at = o.at; stops = z; state = o.state }))
  unfolding flip_rule
  flip-done e = record {
    means = λ b x zs u c.
        let g = on_done (v.means b x u) e in
        gives _ (record {
          value = record { object = g.value; names = zs };
          is = then_ok _ g.is;
          shown = record { rep = g.shown.rep; stops = carry_z c g.later.kept g.later.grows; few = g.shown.few };
          later = g.later;
        });
  }

pub ruleset flip_laws = (flip-refused, flip-done)

-- ---- by the object and the identifiers

module _ {l st : List ℕ} (s : State) {i c : ℕ} {at : Place} (r : ReadyParts l st (unpaid s) i c at) where
  pub parts_roomy : Roomy l s.top stops_size
  unfolding unpaid
  parts_roomy = record { fits = omega (arith, r.room.fits); small = r.room.small; low = r.room.low }

  pub parts-declared : Declared at.intro
  parts-declared = r.declared

  module _ {l1 : List ℕ} {z top1 : ℕ} (k : NoneYet l l1 s.top z top1) where
    pub parts-stops : length l1 ≡ length l → ReadyStops l1 st s c at
    unfolding unpaid
    parts-stops len =
        let none : Bits l1 s.top [] = rw k.place at k.bits in
        record {
          parts = r.parts;
          ids = r.ids;
          shown = stays_p r.chain k.kept;
          are = r.are;
          meant = r.meant;
          known = carry_e r.known k.kept (omega arith);
          lying = record { fits = omega (arith, r.room.fits, len); small = omega (arith, r.room.small, len) };
          held = record { few = r.held.few; wide = r.held.wide };
          bits = none;
        }

    module _ {l2 : List ℕ} {w : Result State Stop} (g : StopsAll at st l1 l2 s c w) where
      pub parts-refused : {f : Stop} → w ≡ Err f → OpensParts at st l l2 s i c (Err f)
      unfolding open_parts
      parts-refused {f} e = record {
        means = λ x ts ids env zs a b d h. stops f (then_no _ (on_refused (g.means ts ids env zs (stays_p b k.kept) d (carry_e h k.kept (omega arith))) e));
      }

      module _ {t : State} (e : w ≡ Ok t) where
        gave : (ts : Trees) (ids : List Id) (env : Env) (zs : List ℕ) → RepP l s.top c ts → as_ids ts ≡ some ids → RepE l s.top at.meanings env
            → Gave (named s) 0 0 l1 l2 s (store_of st) (stop_names (around env zs at) ids (state_of s (store_of st))) t
        gave ts ids env zs b d h = on_done (g.means ts ids env zs (stays_p b k.kept) d (carry_e h k.kept (omega arith))) e

        own : Gave (named s) 0 0 l1 l2 s (store_of st) (stop_names (around r.meant [] at) r.ids (state_of s (store_of st))) t
        unfolding unpaid
        own = gave r.parts r.ids r.meant [] r.chain r.are r.known

        kept-all : Same s.top l l2
        kept-all = same_trans s.top s.top l l1 l2 (omega arith) k.kept own.later.kept

        module _ {u : State} (j : u ≡ raised_to top1 t) where
          u_is : u ≡ raised_to top1 s
          u_is = j ∙ ap (raised_to top1) own.shown.same

          top_now : u.top ≡ s.top + stops_size
          top_now = ap (λ (y : State). y.top) u_is ∙ k.grows

          left_now : u.left ≡ s.left
          left_now = ap (λ (y : State). y.left) u_is

          pub parts-object : length l2 ≡ length l1 → length l1 ≡ length l → ReadyObject l2 u i
          unfolding unpaid
          parts-object f h =
              let n : u.bindings ≡ s.bindings = ap (λ (y : State). y.bindings) u_is in
              record {
                thing = r.thing;
                shown = carry r.shown kept-all (omega (arith, top_now));
                room = record { fits = omega (arith, r.room.fits, top_now, left_now, f, h); small = omega (arith, r.room.small, f, h); low = omega (arith, r.room.low, top_now) };
                few = omega (arith, n, r.held.few);
              }

          later_now : Later 1 (unit_size - stops_size) l l2 (unpaid s) u
          unfolding unpaid
          later_now = record { kept = kept-all; grows = omega (arith, top_now); fits = omega (arith, top_now, left_now); spent = omega (arith, left_now) }

          pub parts-opened : {l3 : List ℕ} {y : Result Piece Stop} → Flips at.phase at.intro.0 z l2 l3 u i y → OpensParts at st l l3 s i c y
          unfolding open_parts flip_rule flip_in change_rule
          parts-opened v = record {
            means = λ x ts ids env zs a b d h.
                let o = gave ts ids env zs b d h in
                let bits : Bits l2 z o.value = subst (λ (q : ℕ). Bits l2 q o.value) (sym k.place) o.shown.bits in
                let low : 1 ≤ z = omega (arith, k.place, parts_roomy.low) in
                let fits : z + stops_size ≤ u.top = omega (arith, k.place, top_now) in
                let same : state_of t (store_of st) ≡ state_of u (store_of st) = ap (λ (y : State). state_of y (store_of st)) (sym j) in
                since 2 open_spare later_now (omega arith) (omega arith)
                (then_ok _ o.is ∙ ap (flip_rule at.intro.0 at.phase x o.value) same)
                (v.means (store_of st) x o.value (carry a kept-all (omega (arith, top_now))) (bits-shown bits low fits));
          }

pub ruleset parts_laws = (parts_roomy, parts-declared, parts-stops, parts-refused, parts-object, parts-opened)

-- ---- by two values

not-object : (k : ℕ) (here : m.Surroundings) (a b : Tree) (y : ms.State) → as_stx a ≡ none → open_rule k here a b y ≡ no wrong_argument no_rivals y.left
unfolding open_rule or_wrong
not-object k here a b y e = rw e refl

object_as : {a : Tree} (o : ObjectAt a) → as_stx a ≡ some o.object
unfolding as_stx
object_as o = ap as_stx o.is

not-ids : (k : ℕ) (here : m.Surroundings) (a b : Tree) (y : ms.State) (o : ObjectAt a) → given (as_list b) as_ids ≡ none → open_rule k here a b y ≡ no wrong_argument no_rivals y.left
unfolding open_rule or_wrong
not-ids k here a b y o e = rw (object_as o, e) refl

with_ids : (k : ℕ) (here : m.Surroundings) (a b : Tree) (y : ms.State) (o : ObjectAt a) {ids : List Id} → given (as_list b) as_ids ≡ some ids → open_rule k here a b y ≡ open_parts k here o.object ids y
unfolding open_rule or_wrong
with_ids k here a b y o e = rw (object_as o, e) refl

module _ {l st : List ℕ} (s : State) {i j : ℕ} {at : Place} (r : ReadyToOpen l st (unpaid s) i j at) where
  pub open_seen : Seen l i
  unfolding unpaid
  open_seen = record { top = s.top; thing = r.first; shown = r.shown; inside = omega (arith, r.room.fits); small = r.room.small }

  pub open_seen_second : Seen l j
  unfolding unpaid
  open_seen_second = record { top = s.top; thing = r.second; shown = r.shown-second; inside = omega (arith, r.room.fits); small = r.room.small }

  module _ {t : Bool} (d : IsObject l i t) where
    pub open_no_object : {f : Stop} → not t ≡ true → f ≡ stop_of WrongArgument s → OpensPaid at st l l s i j (Err f)
    open_no_object h same =
        rw same (record { means = λ a b k here u v c. stops _ (not-object k here a b (state_of s (store_of st)) (d.no (not-true t h) s.top a u)) })

    module _ (g : not t ≡ false) where
      the_object_lem : (a : Tree) → Rep l s.top i a → ObjectAt a
      the_object_lem a u = d.yes (not-false t g) s.top a u

      module _ {q : std.Option ℕ} (v : ListsIds l j q) where
        pub open_no_ids : {f : Stop} → q ≡ None → f ≡ stop_of WrongArgument s → OpensPaid at st l l s i j (Err f)
        open_no_ids e same =
            rw same (record { means = λ a b k here u w c. stops _ (not-ids k here a b (state_of s (store_of st)) (the_object_lem a u) (on_no_ids (v.means s.top b w) e)) })

        module _ {c : ℕ} (e : q ≡ Some c) where
          the_ids : (b : Tree) → Rep l s.top j b → IdsAt l s.top c b
          the_ids b w = on_ids (v.means s.top b w) e

          pub open_parts_ready : ReadyParts l st (unpaid s) i c at
          unfolding unpaid
          open_parts_ready =
              let o = the_object_lem r.first r.shown in
              let a : Rep l s.top i (stx o.object) = rw o.is at r.shown in
              let p = the_ids r.second r.shown-second in
              by_use (λ (k : ℕ) (here : m.Surroundings). ReadyParts l st (unpaid s) i c at) r.used (λ env zs f h z. record {
                thing = o.object;
                parts = p.parts;
                ids = p.ids;
                shown = a;
                chain = p.shown;
                are = p.are;
                meant = env;
                known = h;
                declared = f;
                room = r.room;
                held = r.held;
              })

          pub open_goes : {l1 : List ℕ} {x : Result Piece Stop} → OpensParts at st l l1 s i c x → OpensPaid at st l l1 s i j x
          open_goes {l1} {x} n = record {
            means = λ a b k here u w f.
                let o = the_object_lem a u in
                let a2 : Rep l s.top i (stx o.object) = rw o.is at u in
                let p = the_ids b w in
                let y = state_of s (store_of st) in
                by_use (λ (k : ℕ) (here : m.Surroundings). Agrees pieces 2 open_spare l l1 (unpaid s) (store_of st) (open_rule k here a b y) x) f (λ env zs g h z.
                rw (with_ids at.intro.0 (around env zs at) a b y o p.is) (n.means o.object p.parts p.ids env zs a2 p.shown p.are h));
          }

pub ruleset open_laws = (open_seen, open_seen_second, open_no_object, open_no_ids, open_parts_ready, open_goes)

-- ---- with the charge

module _ {l st : List ℕ} {s : State} {i j : ℕ} {at : Place} {y : Result State Stop} (f : y ≡ charge_of 1 s) where
  pub opened-refused : {g : Stop} → y ≡ Err g → Opens at st l l s i j (Err g)
  unfolding opened_rule
  opened-refused e =
      let q = charge_failed 1 s f e in
      rw q.is (record { means = λ a b k here u v w. stops _ (then_no _ (charge-no 1 s (store_of st) q.short)) })

  module _ {u : State} (e : y ≡ Ok u) where
    pub opened-ready : ReadyToOpen l st s i j at → ReadyToOpen l st (unpaid u) i j at
    opened-ready r = rw (unpaid-is (charge_went 1 s f e)) r

    pub opened-paid : {l1 : List ℕ} {x : Result Piece Stop} → OpensPaid at st l l1 u i j x → Opens at st l l1 s i j x
    unfolding opened_rule
    opened-paid {l1} {x} v =
        let w = charge_went 1 s f e in
        let was : u.top ≡ s.top = top-is w in
        record {
          means = λ a b k here p q h.
              let z : opened_rule k here a b (state_of s (store_of st)) ≡ open_rule k here a b (state_of u (store_of st)) =
              then_ok _ (charge-ok 1 s (store_of st) w.enough) ∙ ap (λ (t : State). open_rule k here a b (state_of t (store_of st))) (sym w.is) in
              let d : Agrees pieces 2 open_spare l l1 s (store_of st) (open_rule k here a b (state_of u (store_of st))) x = rw (unpaid-is w) at (v.means a b k here (rw was p) (rw was q) (rw was h)) in
              rw z d;
        }

pub ruleset opened_laws = (opened-refused, opened-ready, opened-paid)

-- ---- what a caller knows: the rule goes on with what was opened

module _ (expander : Expander) (k : ℕ) (here : m.Surroundings) where
  split_parts : (x : Stx) (ids : List Id) (y : ms.State) → expand_within expander k here x ids y ≡ after (open_parts k here x ids y) (close_rule expander k here)
  unfolding expand_within open_parts close_rule
  split_parts x ids y =
      sym (after-after (stop_names here ids y) _ _
      ∙ (λ j. after (stop_names here ids y) (λ z w. after-after (flip_in k here.phase x w) (λ o v. ok (record { object = o; names = z }) v) (close_rule expander k here) j)))

  split_ids : (x : Stx) (o : Option (List Id)) (y : ms.State) → or_wrong_kind o (expand_within expander k here x) y ≡ after (or_wrong o (λ ids. open_parts k here x ids) y) (close_rule expander k here)
  unfolding or_wrong_kind or_wrong
  split_ids x none y = refl
  split_ids x (some ids) y = split_parts x ids y

  split_object : (o : Option Stx) (q : Option (List Id)) (y : ms.State)
      → or_wrong_kind o (λ x. or_wrong_kind q (expand_within expander k here x)) y ≡ after (or_wrong o (λ x. or_wrong q (λ ids. open_parts k here x ids)) y) (close_rule expander k here)
  unfolding or_wrong_kind or_wrong
  split_object none q y = refl
  split_object (some x) q y = split_ids x q y

  pub open_split : (a b : Tree) (y : ms.State) → apply_local expander (m.macro_use k here) ev.expand_in a b y ≡ after (open_rule k here a b y) (close_rule expander k here)
  unfolding apply_local open_rule
  open_split a b y = split_object (as_stx a) (given (as_list b) as_ids) y

  -- with the charge
  pub opened_split : (a b : Tree) (y : ms.State)
      → after (charge 1 y) (λ z. apply_local expander (m.macro_use k here) ev.expand_in a b) ≡ after (opened_rule k here a b y) (close_rule expander k here)
  unfolding opened_rule
  opened_split a b y =
      (λ j. after (charge 1 y) (λ z w. open_split a b w j))
      ∙ sym (after-after (charge 1 y) _ _)
