-- Fresh names and scopes, binders and marks: one law for each way out.
use mathlib.Core.Path.{◌≡◌, refl, sym, ap, ◌∙◌}
use mathlib.Core.List.{List, []}
use mathlib.Core.Bool.{true}
use Prim.Native.Nat.{ℕ, ◌+◌, ◌-◌, ◌*◌, ◌≤◌, ◌<◌}
use native.Mathlib.Omega.{arith}
use borrow.Author.Tests.{le-leb, lt-leb, lt-ltb, le-ltb, leb-true, leb-false}
use lib.ListN.{length}
use lib.Dec.{leb, ltb}
use Rattle.std.specs.Prelude.{Result, Ok, Err}
use Rattle.model.specs.Limits.{most_names, most_scopes, most_bindings}
use Rattle.model.specs.Refusals as ref
use Rattle.model.specs.Scopes.{add}
use Rattle.model.specs.Objects.{size, Sets, set_at, change_at, symbol, content_of, Stx, atom, add_scope, flip_scope, on_sets}
use Rattle.model.specs.Trees.{stx}
use Rattle.model.specs.Resolving.{Bind}
use Rattle.model.specs.Competing.{no_rivals}
use Rattle.model.specs.Steps as ms
use Rattle.model.specs.Steps.{ok, no, after, charge, fresh_name, fresh_scope, bind}
use Rattle.model.specs.Expanding.{bind_fresh}
use Rattle.refusals.specs.declared.Refusal.TheVariants.{NoNameLeft, NoScopeLeft, NoBindingLeft}
use Rattle.scopes.specs.Sets.{scopes_of, Declared}
use Rattle.scopes.specs.declared.Name.{Name}
use Rattle.scopes.specs.declared.Scope.{Scope}
use Rattle.scopes.specs.declared.ScopeSet.{ScopeSet}
use Rattle.store.specs.Words.{bind_of, binds_of, Inserts}
use Rattle.store.specs.declared.bindings.Binding.{Binding}
pub use Rattle.store.proofs.Runs.{binds-length}
use Rattle.store.proofs.Carrying.{prunable-kept, uses-kept}
use Rattle.steps.specs.States.{Store, store_of, no_store, state_of, stop_of, raised_to, charge_of}
use Rattle.steps.specs.Agreement.{Later, Gave, Agrees, gives, stops}
use Rattle.steps.specs.declared.State.{State}
use Rattle.steps.specs.declared.Stop.{Stop}
use Rattle.steps.specs.declared.Out.{Out}
use Rattle.steps.proofs.Laws.{charge_went, charge_failed, charge-ok, charge-no, then_ok, then_no, on_test, later_refl, later_trans, room-later, on_done, on_refused, since}
use Rattle.table.specs.Words.{get_node, get_sets}
use Rattle.table.specs.declared.Node.{Node}
use Rattle.table.specs.declared.Sets as tb
use Rattle.things.specs.Rep.{Rep, is-atom, sets_of}
use Rattle.things.specs.Measuring.{Seen}
use Rattle.things.specs.declared.Made.{Made}
use Rattle.things.proofs.Frame.{up}
use Rattle.things.proofs.ByTag.{content-is}
use Rattle.things.proofs.Measuring.{node-inside}
use Rattle.copying.specs.Copying.{Copyable, Copied}
use Rattle.parse.specs.Parsing.{unpaid}
use Rattle.scoping.specs.Changing.{objects, ReadyObject, change_rule, Changes}
use Rattle.scoping.specs.Fresh.{take_rule, taken, Takes, Keys, Puts, puts_binder, PutsBinder, ReadyBinder, binders, bind_rule, Binds, BindsFresh, Added, fresh_scope_of, marks_rule, mark_rule, Marks, MarksFresh}
use Rattle.scoping.specs.declared.Binder.{Binder}
use Rattle.scoping.specs.declared.Mark.{Mark}
use Rattle.steps.proofs.Laws.{after-after}
use Rattle.table.specs.Sizes.{node_spare, unit_size}
use Rattle.store.specs.Sizes.{binding_size, held_size}

-- ---- the next name and scope

name-ok : (y : ms.State) → y.names < 1024 → fresh_name y ≡ ok y.names (record { left = y.left; names = y.names + 1; scopes = y.scopes; binds = y.binds; prunable = y.prunable; uses = y.uses })
unfolding fresh_name most_names
name-ok y h = rw (lt-ltb y.names 1024 h) refl

name-no : (y : ms.State) → 1024 ≤ y.names → fresh_name y ≡ no ref.no_name_left no_rivals y.left
unfolding fresh_name most_names
name-no y h = rw (le-ltb y.names 1024 h) refl

pub scope-ok : (y : ms.State) → y.scopes < 256 → fresh_scope y ≡ ok (y.scopes + 1) (record { left = y.left; names = y.names; scopes = y.scopes + 1; binds = y.binds; prunable = y.prunable; uses = y.uses })
unfolding fresh_scope most_scopes
scope-ok y h = rw (lt-ltb y.scopes 256 h) refl

pub scope-no : (y : ms.State) → 256 ≤ y.scopes → fresh_scope y ≡ no ref.no_scope_left no_rivals y.left
unfolding fresh_scope most_scopes
scope-no y h = rw (le-ltb y.scopes 256 h) refl

abbrev takes : State → State
takes s = record { top = s.top; left = s.left; names = s.names + 1; scopes = s.scopes + 1; bindings = s.bindings }

after-name : State → Store → ms.State
after-name s b = record { left = s.left; names = s.names + 1; scopes = s.scopes; binds = b.bindings s.bindings; prunable = b.prunable; uses = b.uses }

module _ (s : State) where
  pub take_no_name : {f : Stop} → 1024 ≤ s.names → f ≡ stop_of NoNameLeft s → Takes s (Err f)
  unfolding take_rule
  take_no_name h same = rw same (record { means = λ l b. stops _ (then_no _ (name-no (state_of s b) h)) })

  module _ (h : s.names < 1024) where
    pub take_no_scope : {f : Stop} → 256 ≤ s.scopes → f ≡ stop_of NoScopeLeft s → Takes s (Err f)
    unfolding take_rule after-name
    take_no_scope k same = rw same (record { means = λ l b. stops _ (then_ok _ (name-ok (state_of s b) h) ∙ then_no _ (scope-no (after-name s b) k)) })

    pub take_by : s.scopes < 256 → s.bindings ≤ 512 → (y : Result State Stop) → y ≡ charge_of 1 (takes s) → Takes s y
    unfolding take_rule after-name
    take_by k few (Ok u) f =
        let q = charge_went 1 (takes s) f refl in
        let us : u.scopes ≡ s.scopes + 1 = ap (λ (y : State). y.scopes) q.is in
        let ub : u.bindings ≡ s.bindings = ap (λ (y : State). y.bindings) q.is in
        let ut : u.top ≡ s.top = ap (λ (y : State). y.top) q.is in
        let uu : u.left ≡ s.left - 1 = ap (λ (y : State). y.left) q.is in
        record {
          means = λ l b. gives u (record {
            value = record { name = s.names; scope = s.scopes + 1 };
            is =
                then_ok _ (name-ok (state_of s b) h)
                ∙ then_ok _ (scope-ok (after-name s b) k)
                ∙ then_ok _ (charge-ok 1 (takes s) b q.enough)
                ∙ ap (λ (y : State). ok (record { name = s.names; scope = s.scopes + 1 }) (state_of y b)) (sym q.is);
            shown = record { name = refl; small = h; scope = us; from_one = omega (arith, us); most = omega (arith, us); few = omega (arith, ub) };
            later = record { kept = (later_refl l s).kept; grows = omega (arith, ut); fits = omega (arith, ut, uu, q.enough); spent = omega (arith, uu, q.enough) };
          });
        }
    take_by k few (Err g) f =
        let q = charge_failed 1 (takes s) f refl in
        record {
          means = λ l b. rw q.is (stops _ (
              then_ok _ (name-ok (state_of s b) h)
              ∙ then_ok _ (scope-ok (after-name s b) k)
              ∙ then_no _ (charge-no 1 (takes s) b q.short)));
        }

-- ---- a binding put into the store

module _ {l : List ℕ} {i ph : ℕ} {o : Node} (e : o ≡ get_node l i) {c : tb.Sets} (f : c ≡ get_sets l i) {z : ScopeSet} (g : scopes_of z ≡ set_at ph (sets_of c)) where
  pub keyed : (n : Name) → Keys l i n.0 ph (record { symbol = record { 0 = o.content }; target = n; set = z })
  unfolding content_of
  keyed n = record { means = λ top d x w. by w }
    where
      by : {top : ℕ} {d : Sets} {x : ℕ} → Rep l top i (stx (atom d (symbol x))) → ◌≡◌ {A = Bind} (record { symb = o.content; target = n.0; set = scopes_of z }) (record { symb = x; target = n.0; set = set_at ph d })
      by {d = d} {x = x} (is-atom a q y) =
          let same : scopes_of z ≡ set_at ph d = g ∙ ap (λ (w : tb.Sets). set_at ph (sets_of w)) f ∙ ap (set_at ph) y in
          let symb : o.content ≡ x = content-is e q in
          λ j. record { symb = symb j; target = n.0; set = same j }

module _ (st : List ℕ) (s : State) (b : Binding) where
  pub put_full : {f : Stop} → 512 ≤ s.bindings → f ≡ stop_of NoBindingLeft s → Puts st st s b (Err f)
  unfolding bind most_bindings
  put_full h same = rw same (record { means = λ l. stops (stop_of NoBindingLeft s) (rw (le-ltb (length (binds_of st s.bindings)) 512 (omega (arith, binds-length st s.bindings))) refl) })

  module _ (h : s.bindings < 512) where
    room_yet : ltb (length (binds_of st s.bindings)) 512 ≡ true
    room_yet = lt-ltb (length (binds_of st s.bindings)) 512 (omega (arith, binds-length st s.bindings))

    pub put_holds : held_size ≤ length st → s.bindings * binding_size ≤ length st
    put_holds w = omega arith

    pub put_fits : held_size ≤ length st → s.bindings * binding_size + binding_size ≤ length st
    put_fits w = omega arith

    pub put_done : {st1 : List ℕ} → Inserts (bind_of b) s.bindings st st1
        → Puts st st1 s b (Ok (record { top = s.top; left = s.left; names = s.names; scopes = s.scopes; bindings = s.bindings + 1 }))
    unfolding bind most_bindings
    put_done {st1} f =
        let t : State = record { top = s.top; left = s.left; names = s.names; scopes = s.scopes; bindings = s.bindings + 1 } in
        record {
          means = λ l. gives t (record {
            value = tt;
            is = rw (room_yet, f.binds, prunable-kept f h, uses-kept f h) refl;
            shown = record { few = omega arith };
            later = record { kept = (later_refl l s).kept; grows = omega arith; fits = omega arith; spent = omega arith };
          });
        }

-- ---- a binder

binder-is : (k ph x : ℕ) (c : Sets) → add_scope k ph (atom c (symbol x)) ≡ atom (change_at (add k) ph c) (symbol x)
unfolding add_scope on_sets
binder-is k ph x c = refl

module _ {l st : List ℕ} (s : State) {i : ℕ} (r : ReadyBinder l st (unpaid s) i) where
  pub bind_copy_ready : Copyable l s.top i
  unfolding unpaid size
  bind_copy_ready = record { thing = atom r.sets (symbol r.symb); shown = r.shown; charged = omega arith; room = omega (arith, r.room.fits); small = r.room.small; low = r.room.low }

  pub bind-wide : held_size ≤ length st
  bind-wide = r.held.wide

  pub bind-few : {t : State} {n : ℕ} → t ≡ raised_to n s → t.bindings ≤ 512
  unfolding unpaid
  bind-few e = rw e r.held.few

  module _ {ph : ℕ} {d : Scope} {l1 : List ℕ} {m : Made} (a : Added ph d.0 l l1 s.top i m.at m.top) where
    v : Copied (λ x. stx (add_scope d.0 ph x)) l l1 s.top i m.at m.top
    v = a.copied

    pub bind-seen : length l1 ≡ length l → Seen l1 m.at
    unfolding unpaid size
    bind-seen len =
        let q = v.means (atom r.sets (symbol r.symb)) r.shown in
        record { top = m.top; thing = stx (add_scope d.0 ph (atom r.sets (symbol r.symb))); shown = q.shown; inside = omega (arith, q.room, r.room.fits, len); small = omega (arith, r.room.small, len) }

    module _ {n : Name} {b : Binding} (k : Keys l1 m.at n.0 ph b) {t : State} (e : t ≡ raised_to m.top s) {st1 : List ℕ} {z : Result Binder Stop} (p : PutsBinder n d m.at st st1 t b z) where
      copied : (c : Sets) (x : ℕ) → Rep l s.top i (stx (atom c (symbol x))) → Rep l1 m.top m.at (stx (atom (change_at (add d.0) ph c) (symbol x)))
      copied c x w = rw (binder-is d.0 ph x c) at (v.means (atom c (symbol x)) w).shown

      key_of : (c : Sets) (x : ℕ) → Bind
      key_of c x = record { symb = x; target = n.0; set = set_at ph (change_at (add d.0) ph c) }

      put_as : (c : Sets) (x : ℕ) → Rep l s.top i (stx (atom c (symbol x)))
          → Agrees (puts_binder n d m.at) 0 0 l1 l1 (raised_to m.top s) (store_of st1) (bind (key_of c x) (state_of s (store_of st))) z
      unfolding key_of
      put_as c x w =
          let p2 : PutsBinder n d m.at st st1 (raised_to m.top s) b z = rw e at p in
          let a = p2.means l1 in
          rw (k.means m.top (change_at (add d.0) ph c) x (copied c x w)) at a

      as_bound : Declared d → n.0 < 1024 → (c : Sets) (x : ℕ) → Rep l s.top i (stx (atom c (symbol x))) → {q : Result Binder Stop} → Agrees (puts_binder n d m.at) 0 0 l1 l1 (raised_to m.top s) (store_of st1) (bind (key_of c x) (state_of s (store_of st))) q
          → Agrees (binders x) 1 node_spare l l1 (unpaid s) (store_of st1) (bind_rule n.0 d.0 ph c x (state_of s (store_of st))) q
      unfolding bind_rule unpaid size key_of
      as_bound known few c x w (gives o g) =
          let q = v.means (atom c (symbol x)) w in
          gives o (record {
            value = record { name = n.0; scope = d.0; sets = change_at (add d.0) ph c };
            is = then_ok _ g.is;
            shown = record {
              name = ap (λ (y : Name). y.0) g.shown.name;
              small = rw g.shown.name few;
              scope = ap (λ (y : Scope). y.0) g.shown.scope;
              declared = rw g.shown.scope known;
              rep = rw g.shown.place (up (copied c x w) g.later.grows);
              few = g.shown.few;
            };
            later = record { kept = v.kept; grows = omega (arith, v.grows, g.later.grows); fits = omega (arith, q.room, g.later.fits); spent = omega (arith, g.later.spent) };
          })
      as_bound known few c x w (stops f g) = stops f (then_no _ g)

      pub bind_all : Declared d → n.0 < 1024 → Binds ph st st1 l l1 s n.0 d.0 i z
      bind_all known few = record { means = λ c x w. as_bound known few c x w (put_as c x w) }

module _ {st st1 : List ℕ} {s : State} {b : Binding} {n : Name} {k : Scope} {at : ℕ} {y : Result State Stop} (p : Puts st st1 s b y) where
  pub put_binder_refused : {f : Stop} → y ≡ Err f → PutsBinder n k at st st1 s b (Err f)
  put_binder_refused z = record { means = λ l. stops _ (on_refused (p.means l) z) }

  pub put_binder_done : {u : State} → y ≡ Ok u → PutsBinder n k at st st1 s b (Ok (record { name = n; scope = k; at = at; state = u }))
  put_binder_done {u} z =
      record {
        means = λ l.
            let g = on_done (p.means l) z in
            gives (record { name = n; scope = k; at = at; state = u }) (record {
              value = tt;
              is = g.is;
              shown = record { name = refl; scope = refl; place = refl; few = g.shown.few };
              later = g.later;
            });
      }

-- ---- a fresh binder

bind_split : (ph : ℕ) (c : Sets) (x : ℕ) (y : ms.State) → bind_fresh ph c x y ≡ after (take_rule y) (λ t. bind_rule t.name t.scope ph c x)
unfolding bind_fresh take_rule bind_rule
bind_split ph c x y = simp after-after

module _ {s : State} {y : Result State Stop} (p : Takes s y) where
  pub fresh-refused : {ph : ℕ} {st l : List ℕ} {i : ℕ} {f : Stop} → y ≡ Err f → BindsFresh ph st st l l s i (Err f)
  fresh-refused {ph} {st} {l} z =
      record { means = λ c x w. stops _ (bind_split ph c x (state_of s (store_of st)) ∙ then_no _ (on_refused (p.means l (store_of st)) z)) }

  module _ {t : State} (z : y ≡ Ok t) where
    took : (l : List ℕ) (b : Store) → Gave (taken s.names) 1 unit_size l l s b (take_rule (state_of s b)) t
    took l b = on_done (p.means l b) z

    later_took : (l : List ℕ) (b : Store) → Later 0 0 l l s (unpaid t)
    unfolding unpaid
    later_took l b =
        let g = took l b in
        record { kept = g.later.kept; grows = g.later.grows; fits = omega (arith, g.later.fits); spent = omega (arith, g.later.spent) }

    pub fresh-declared : Declared (record { 0 = t.scopes })
    fresh-declared = let g = took [] no_store in record { from_one = g.shown.from_one; most = g.shown.most }

    pub fresh-small : s.names < 1024
    fresh-small = (took [] no_store).shown.small

    pub fresh-ready : {st l : List ℕ} {i : ℕ} → ReadyBinder l st s i → ReadyBinder l st (unpaid t) i
    unfolding unpaid
    fresh-ready {st} {l} r =
        let g = took l no_store in
        record {
          sets = r.sets;
          symb = r.symb;
          shown = up r.shown g.later.grows;
          room = room-later r.room (later_took l no_store) refl;
          held = record { few = g.shown.few; wide = r.held.wide };
        }

    pub fresh_bound : {ph : ℕ} {st st1 l l1 : List ℕ} {i : ℕ} {r : Result Binder Stop} → Binds ph st st1 l l1 t s.names t.scopes i r → BindsFresh ph st st1 l l1 s i r
    fresh_bound {ph} {st} {st1} {l} {l1} {i} {r} a =
        record {
          means = λ c x w.
              let g = took l (store_of st) in
              let named : bind_rule g.value.name g.value.scope ph c x (state_of t (store_of st)) ≡ bind_rule s.names t.scopes ph c x (state_of t (store_of st)) =
              rw (g.shown.name, sym g.shown.scope) refl in
              since 1 node_spare (later_took l (store_of st)) (omega arith) (omega arith)
              (bind_split ph c x (state_of s (store_of st)) ∙ then_ok _ g.is ∙ named)
              (a.means c x (up w g.later.grows));
        }

pub bound_to : {ph : ℕ} {st st1 l l1 : List ℕ} {s : State} {i : ℕ} {z : Result Binder Stop} {b : Binder} → BindsFresh ph st st1 l l1 s i z → z ≡ Ok b
    → (c : Sets) (x : ℕ) → Rep l s.top i (stx (atom c (symbol x))) → Gave (binders x) 1 node_spare l l1 s (store_of st1) (bind_fresh ph c x (state_of s (store_of st))) b
bound_to v e c x w = on_done (v.means c x w) e

-- ---- marks

record ScopeWent (s t : State) : Type 0 where
  some : s.scopes < 256
  is : t ≡ record { top = s.top; left = s.left; names = s.names; scopes = s.scopes + 1; bindings = s.bindings }

record ScopeFailed (s : State) (f : Stop) : Type 0 where
  none : 256 ≤ s.scopes
  is : f ≡ stop_of NoScopeLeft s

scope_went : (s : State) {x : Result State Stop} {t : State} → x ≡ fresh_scope_of s → x ≡ Ok t → ScopeWent s t
unfolding fresh_scope_of
scope_went s {x} {t} h e =
    on_test (leb 256 s.scopes) (Err (stop_of NoScopeLeft s)) (Ok (record { top = s.top; left = s.left; names = s.names; scopes = s.scopes + 1; bindings = s.bindings }))
    (λ (y : Result State Stop). y ≡ Ok t → ScopeWent s t)
    (λ b h'. let z : ◌≡◌ {A = ℕ} 0 1 = cc in absurd (omega arith))
    (λ b h'. let z : t ≡ record { top = s.top; left = s.left; names = s.names; scopes = s.scopes + 1; bindings = s.bindings } = cc in record { some = leb-false 256 s.scopes b; is = z })
    (sym h ∙ e)

scope_failed : (s : State) {x : Result State Stop} {f : Stop} → x ≡ fresh_scope_of s → x ≡ Err f → ScopeFailed s f
unfolding fresh_scope_of
scope_failed s {x} {f} h e =
    on_test (leb 256 s.scopes) (Err (stop_of NoScopeLeft s)) (Ok (record { top = s.top; left = s.left; names = s.names; scopes = s.scopes + 1; bindings = s.bindings }))
    (λ (y : Result State Stop). y ≡ Err f → ScopeFailed s f)
    (λ b h'. let z : f ≡ stop_of NoScopeLeft s = cc in record { none = leb-true 256 s.scopes b; is = z })
    (λ b h'. let z : ◌≡◌ {A = ℕ} 0 1 = cc in absurd (omega arith))
    (sym h ∙ e)

pub scope-none : (s : State) {f : Stop} → 256 ≤ s.scopes → f ≡ stop_of NoScopeLeft s → Err f ≡ fresh_scope_of s
unfolding fresh_scope_of
scope-none s h same = rw (same, le-leb 256 s.scopes h) refl

pub scope-some : (s : State) → s.scopes < 256 → Ok (record { top = s.top; left = s.left; names = s.names; scopes = s.scopes + 1; bindings = s.bindings }) ≡ fresh_scope_of s
unfolding fresh_scope_of
scope-some s h = rw (lt-leb 256 s.scopes h) refl

module _ (ph u k : ℕ) {l l1 : List ℕ} {s : State} {i : ℕ} {a : Result Out Stop} (v : Changes (add_scope u ph) l l1 s i a) where
  pub mark_use_refused : {f : Stop} → a ≡ Err f → Marks ph u k l l1 s i (Err f)
  unfolding marks_rule
  mark_use_refused e = record { means = λ b x w. stops _ (then_no _ (on_refused (v.means b x w) e)) }

  module _ {o : Out} (e : a ≡ Ok o) where
    used : (b : Store) (x : Stx) → Rep l s.top i (stx x) → Gave objects 1 node_spare l l1 s b (change_rule (add_scope u ph) x (state_of s b)) o
    used b x w = on_done (v.means b x w) e

    pub mark_ready : ReadyObject l s i → length l1 ≡ length l → ReadyObject l1 o.state o.at
    mark_ready r len =
        let g = used no_store r.thing r.shown in
        record { thing = g.value; shown = g.shown.rep; room = room-later r.room g.later len; few = g.shown.few }

    module _ {l2 : List ℕ} {d : Result Out Stop} (q : Changes (flip_scope k ph) l1 l2 o.state o.at d) where
      pub mark_intro_refused : {f : Stop} → d ≡ Err f → Marks ph u k l l2 s i (Err f)
      unfolding marks_rule
      mark_intro_refused z =
          record { means = λ b x w. let g = used b x w in stops _ (then_ok _ g.is ∙ then_no _ (on_refused (q.means b g.value g.shown.rep) z)) }

      pub mark_done : {p : Out} {m n : Scope} → Declared m → Declared n → m.0 ≡ u → n.0 ≡ k → d ≡ Ok p → Marks ph u k l l2 s i (Ok (record { at = p.at; uses = m; intro = n; state = p.state }))
      unfolding marks_rule
      mark_done {p} {m} {n} used-known known used-same same z =
          record {
            means = λ b x w.
                let g = used b x w in
                let h = on_done (q.means b g.value g.shown.rep) z in
                gives (record { at = p.at; uses = m; intro = n; state = p.state }) (record {
                  value = record { object = h.value; uses = u; intro = k };
                  is = then_ok _ g.is ∙ then_ok _ h.is;
                  shown = record { rep = h.shown.rep; uses = used-same; intro = same; uses-declared = used-known; intro-declared = known; few = h.shown.few };
                  later = later_trans 1 node_spare g.later h.later (omega arith) (omega arith);
                });
          }

module _ (s : State) {x : Result State Stop} (h : x ≡ fresh_scope_of s) where
  pub mark_no_use : {ph : ℕ} {l : List ℕ} {i : ℕ} {f : Stop} → x ≡ Err f → MarksFresh ph l l s i (Err f)
  unfolding mark_rule
  mark_no_use e = let q = scope_failed s h e in record { means = λ b y w. rw q.is (stops _ (then_no _ (scope-no (state_of s b) q.none))) }

  module _ {t : State} (e : x ≡ Ok t) {y : Result State Stop} (j : y ≡ fresh_scope_of t) where
    first : ScopeWent s t
    first = scope_went s h e

    pub mark_no_intro : {ph : ℕ} {l : List ℕ} {i : ℕ} {f : Stop} → y ≡ Err f → MarksFresh ph l l s i (Err f)
    unfolding mark_rule
    mark_no_intro z =
        let q = scope_failed t j z in
        let ts : t.scopes ≡ s.scopes + 1 = ap (λ (y : State). y.scopes) first.is in
        let tu : t.left ≡ s.left = ap (λ (y : State). y.left) first.is in
        record {
          means = λ b x w. rw (q.is, tu) (stops _ (
              then_ok _ (scope-ok (state_of s b) first.some)
              ∙ then_no _ (scope-no (record { left = s.left; names = s.names; scopes = s.scopes + 1; binds = b.bindings s.bindings; prunable = b.prunable; uses = b.uses }) (omega (arith, q.none, ts)))));
        }

    module _ {u : State} (z : y ≡ Ok u) where
      second : ScopeWent t u
      second = scope_went t j z

      pub mark_use_declared : Declared (record { 0 = t.scopes })
      mark_use_declared = let ts : t.scopes ≡ s.scopes + 1 = ap (λ (y : State). y.scopes) first.is in record { from_one = omega (arith, ts); most = omega (arith, ts, first.some) }

      pub mark_intro_declared : Declared (record { 0 = u.scopes })
      mark_intro_declared = let us : u.scopes ≡ t.scopes + 1 = ap (λ (y : State). y.scopes) second.is in record { from_one = omega (arith, us); most = omega (arith, us, second.some) }

      later-marks : (l : List ℕ) → Later 0 0 l l s u
      later-marks l =
          let ut : u.top ≡ s.top = ap (λ (y : State). y.top) second.is ∙ ap (λ (y : State). y.top) first.is in
          let uu : u.left ≡ s.left = ap (λ (y : State). y.left) second.is ∙ ap (λ (y : State). y.left) first.is in
          record { kept = (later_refl l s).kept; grows = omega (arith, ut); fits = omega (arith, ut, uu); spent = omega (arith, uu) }

      pub mark_by_ready : {l : List ℕ} {i : ℕ} → ReadyObject l s i → ReadyObject l u i
      mark_by_ready r = rw (second.is, first.is) (record { thing = r.thing; shown = r.shown; room = record { fits = r.room.fits; small = r.room.small; low = r.room.low }; few = r.few })

      pub mark_marked : {ph : ℕ} {l l1 : List ℕ} {i : ℕ} {r : Result Mark Stop} → Marks ph t.scopes u.scopes l l1 u i r → MarksFresh ph l l1 s i r
      unfolding mark_rule
      mark_marked {ph} {l} {l1} {i} {r} a =
          let ts : t.scopes ≡ s.scopes + 1 = ap (λ (y : State). y.scopes) first.is in
          let us : u.scopes ≡ s.scopes + 1 + 1 = ap (λ (y : State). y.scopes) second.is ∙ ap (λ (n : ℕ). n + 1) ts in
          let ut : u.top ≡ s.top = ap (λ (y : State). y.top) second.is ∙ ap (λ (y : State). y.top) first.is in
          record {
            means = λ b x w.
                let d = a.means b x (rw ut w) in
                let same : state_of u b ≡ record { left = s.left; names = s.names; scopes = s.scopes + 1 + 1; binds = b.bindings s.bindings; prunable = b.prunable; uses = b.uses } = rw (second.is, first.is) refl in
                let named : marks_rule ph (s.scopes + 1) (s.scopes + 1 + 1) x (record { left = s.left; names = s.names; scopes = s.scopes + 1 + 1; binds = b.bindings s.bindings; prunable = b.prunable; uses = b.uses }) ≡ marks_rule ph t.scopes u.scopes x (state_of u b) =
                λ j. marks_rule ph ((sym ts) j) ((sym us) j) x ((sym same) j) in
                let goes : mark_rule ph x (state_of s b) ≡ marks_rule ph t.scopes u.scopes x (state_of u b) =
                then_ok _ (scope-ok (state_of s b) first.some)
                ∙ then_ok _ (scope-ok (record { left = s.left; names = s.names; scopes = s.scopes + 1; binds = b.bindings s.bindings; prunable = b.prunable; uses = b.uses }) (omega (arith, second.some, ts)))
                ∙ named in
                since 1 node_spare (later-marks l) (omega arith) (omega arith) goes d;
          }

pub ruleset laws = (
  node-inside,
  take_no_name,
  take_no_scope,
  take_by,
  keyed,
  put_full,
  put_holds,
  put_fits,
  put_done,
  bind_copy_ready,
  bind-wide,
  bind-few,
  bind-seen,
  bind_all,
  put_binder_refused,
  put_binder_done,
  fresh-refused,
  fresh-declared,
  fresh-small,
  fresh-ready,
  fresh_bound,
  scope-none,
  scope-some,
  mark_use_refused,
  mark_ready,
  mark_intro_refused,
  mark_done,
  mark_no_use,
  mark_no_intro,
  mark_use_declared,
  mark_intro_declared,
  mark_by_ready,
  mark_marked,
)
