-- apply_primitive: the charge of one unit, then the arguments' kinds, then the nesting of what was made.
use mathlib.Core.Path.{◌≡◌, refl, sym, ap, ◌∙◌}
use mathlib.Core.List.{List}
use Prim.Native.Nat.{ℕ, ◌+◌, ◌-◌, ◌≤◌, ◌<◌}
use native.Mathlib.Omega.{arith}
use lib.ListN.{length}
use Rattle.std.specs.Prelude.{Result, Ok, Err, Some, None}
use Rattle.refusals.specs.declared.Refusal.TheVariants.{WrongArgument, TooDeep}
use Rattle.std.specs.Prelude as std
use Rattle.steps.specs.declared.State.{State}
use Rattle.steps.specs.declared.Out.{Out}
use Rattle.steps.specs.declared.Stop.{Stop}
use Rattle.steps.specs.States.{state_of, stop_of, paid, raised_to, charge_of}
use Rattle.steps.specs.Agreement.{gives, stops}
use mathlib.Core.Option.{Option, none, some}
use borrow.Author.Tests.{le-leb, lt-leb}
use Rattle.model.specs.Limits.{most_nesting}
use Rattle.model.specs.Refusals.{wrong_argument, too_deep}
use Rattle.model.specs.Competing.{no_rivals}
use Rattle.model.specs.Steps as m
use Rattle.model.specs.Steps.{ok, no, made_tree}
use Rattle.model.specs.Trees.{Tree, tcount, tnesting}
use Rattle.model.specs.Evaluating.{primitive_of, or_wrong_kind, apply_primitive}
use Rattle.table.specs.Words.{Same}
use Rattle.things.specs.Rep.{Rep}
use Rattle.things.specs.Measuring.{Seen, Measured}
use Rattle.things.specs.declared.Extent.{Extent}
use Rattle.things.specs.declared.Made.{Made}
use Rattle.primitives.specs.Working.{ReadyAll, Pieced, wrong, piece, Works}
use Rattle.primitives.proofs.Choosing.{taken-plain}
use Rattle.steps.proofs.Laws.{Went, charge_went, charge_failed, charge-ok, charge-no, then_ok, then_no, unless-ok, unless-no}
use Rattle.applying.specs.Doing.{ReadyPrimitive, DoesPrimitive}
use Rattle.table.specs.Sizes.{unit_size}
use Rattle.store.specs.Sizes.{most_bindings}

record PieceAt (l l1 : List ℕ) (top : ℕ) (q : Option Tree) (m : Made) : Type 0 where
  value : Tree
  is : q ≡ some value
  shown : Rep l1 m.top m.at value
  kept : Same top l l1
  grows : top ≤ m.top
  fits : m.top ≤ top + unit_size

on_piece : {l l1 : List ℕ} {top : ℕ} {q : Option Tree} {r : std.Option Made} {m : Made} → Pieced l l1 top q r → r ≡ Some m → PieceAt l l1 top q m
on_piece (wrong a) e = let z : ◌≡◌ {A = ℕ} 0 1 = cc in absurd (omega arith)
on_piece {l} {l1} {top} {q} {r} {m} (piece n v i s k g f) e =
    let z : n ≡ m = cc in
    let a : PieceAt l l1 top q n = record { value = v; is = i; shown = s; kept = k; grows = g; fits = f } in
    rw z at a

on_wrong : {l l1 : List ℕ} {top : ℕ} {q : Option Tree} {r : std.Option Made} → Pieced l l1 top q r → r ≡ None → q ≡ none
on_wrong (wrong a) e = a
on_wrong (piece n v i s k g f) e = let z : ◌≡◌ {A = ℕ} 0 1 = cc in absurd (omega arith)

pub primitive-stops : {l : List ℕ} {s : State} {p x y z : ℕ} {g : Result State Stop} {e : Stop} → g ≡ charge_of 1 s → g ≡ Err e → DoesPrimitive l l s p x y z (Err e)
unfolding apply_primitive
primitive-stops {s = s} {p = p} {e = e} h k =
    let q = charge_failed 1 s h k in record {
      means = λ b other place ts a c lo. let o = taken-plain (primitive_of p) (tcount ts) c lo in rw o.is (stops e (rw q.is (then_no _ (charge-no 1 s b q.short))));
    }

module _ {l : List ℕ} {s u : State} {p x y z : ℕ} {g : Result State Stop} (r : ReadyPrimitive l s p x y z) (h : g ≡ charge_of 1 s) (e : g ≡ Ok u) where
  went : Went 1 s u
  went = charge_went 1 s h e

  left_is : u.left ≡ s.left - 1
  left_is = ap (λ (v : State). v.left) went.is

  few-kept : s.bindings ≤ most_bindings → u.bindings ≤ most_bindings
  few-kept f = rw went.is f

  pub primitive-able : ReadyAll l u.top p x y z
  primitive-able =
      let o = taken-plain (primitive_of p) (tcount r.values) r.able r.plain in
      rw went.is (record {
        which = o.which;
        is = o.is;
        thing = r.values;
        given = r.given;
        able = o.able;
        room = record { fits = omega (arith, went.enough, r.room.fits); small = r.room.small; low = r.room.low };
      })

  module _ {l1 : List ℕ} {w : std.Option Made} (d : Works l l1 u.top p x y z w) where
    worked : Works l l1 s.top p x y z w
    worked = rw went.is at d

    pub primitive-wrong : {r : Result Out Stop} → w ≡ None → r ≡ Err (stop_of WrongArgument u) → DoesPrimitive l l1 s p x y z r
    unfolding apply_primitive or_wrong_kind made_tree
    primitive-wrong k same =
        rw same
        (record {
          means = λ b other place ts a c lo.
              let o = taken-plain (primitive_of p) (tcount ts) c lo in
              rw o.is
              (stops (stop_of WrongArgument u)
              (then_ok _ (charge-ok 1 s b went.enough)
              ∙ ap (λ (v : Option Tree). or_wrong_kind v made_tree (state_of (paid 1 s) b)) (on_wrong (worked.means o.which o.is ts a o.able) k)
              ∙ ap (λ (n : ℕ). no wrong_argument no_rivals n) (sym left_is)));
        })

    module _ {j : Made} (k : w ≡ Some j) where
      pub primitive-seen : length l1 ≡ length l → Seen l1 j.at
      primitive-seen len =
          let o = taken-plain (primitive_of p) (tcount r.values) r.able r.plain in
          let v = on_piece (worked.means o.which o.is r.values r.given o.able) k in
          record {
            top = j.top;
            thing = v.value;
            shown = v.shown;
            inside = omega (arith, v.fits, r.room.fits, went.enough, len);
            small = omega (arith, r.room.small, len);
          }

      module _ {ex : Extent} (f : Measured l1 j.at ex) where
        pub primitive_deep : {r : Result Out Stop} → 64 < ex.nesting → r ≡ Err (stop_of TooDeep u) → DoesPrimitive l l1 s p x y z r
        unfolding apply_primitive or_wrong_kind made_tree most_nesting
        primitive_deep n same =
            rw same
            (record {
              means = λ b other place ts a c lo.
                  let o = taken-plain (primitive_of p) (tcount ts) c lo in
                  let v = on_piece (worked.means o.which o.is ts a o.able) k in
                  let deep : 64 < tnesting v.value = omega (arith, n, (f.means j.top v.value v.shown).nesting) in
                  rw o.is (stops (stop_of TooDeep u)
                  (then_ok _ (charge-ok 1 s b went.enough)
                  ∙ ap (λ (t : Option Tree). or_wrong_kind t made_tree (state_of (paid 1 s) b)) v.is
                  ∙ then_no _ (unless-no too_deep (state_of (paid 1 s) b) (lt-leb (tnesting v.value) 64 deep))
                  ∙ ap (λ (i : ℕ). no too_deep no_rivals i) (sym left_is)));
            })

        pub primitive-done : ex.nesting ≤ 64 → DoesPrimitive l l1 s p x y z (Ok (record { at = j.at; state = raised_to j.top u }))
        unfolding apply_primitive or_wrong_kind made_tree most_nesting
        primitive-done n =
            record {
              means = λ b other place ts a c lo.
                  let o = taken-plain (primitive_of p) (tcount ts) c lo in
                  let v = on_piece (worked.means o.which o.is ts a o.able) k in
                  let flat : tnesting v.value ≤ 64 = omega (arith, n, (f.means j.top v.value v.shown).nesting) in
                  let same : state_of (paid 1 s) b ≡ state_of (raised_to j.top u) b = rw went.is refl in
                  rw o.is (gives (record { at = j.at; state = raised_to j.top u }) (record {
                    value = v.value;
                    is =
                        then_ok _ (charge-ok 1 s b went.enough)
                        ∙ ap (λ (t : Option Tree). or_wrong_kind t made_tree (state_of (paid 1 s) b)) v.is
                        ∙ then_ok _ (unless-ok too_deep (state_of (paid 1 s) b) (le-leb (tnesting v.value) 64 flat))
                        ∙ ap (λ (t : m.State). ok v.value t) same;
                    shown = record { rep = v.shown; few = few-kept r.few };
                    later = record { kept = v.kept; grows = v.grows; fits = omega (arith, v.fits, left_is, went.enough); spent = omega (arith, left_is) };
                  }));
            }

pub ruleset working = (primitive-stops, primitive-able, primitive-wrong, primitive-seen, primitive_deep, primitive-done)
