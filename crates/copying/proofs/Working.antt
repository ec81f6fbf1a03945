-- The work on one object's node and sets: one law for each way out.
use mathlib.Core.Path.{◌≡◌, refl, ap, sym, ◌∙◌}
use mathlib.Core.Bool.{true, false}
use mathlib.Core.List.{List}
use Prim.Native.Nat.{ℕ, zero, suc, ◌+◌, ◌<◌, ◌^◌}
use native.Mathlib.Omega.{arith}
use Rattle.model.specs.Scopes.{Scopes, add, flip, prune}
use Rattle.model.specs.Objects as m
use Rattle.model.specs.Objects.{change_at, on_sets}
use Rattle.model.specs.Trees.{strip}
use Rattle.scopes.specs.Sets.{scopes_of, Declared}
use Rattle.scopes.specs.declared.Scope.{Scope}
use Rattle.scopes.specs.declared.ScopeSet.{ScopeSet}
use Rattle.table.specs.Tags.{list_tag, list_value_tag, atom_value_tag}
use Rattle.table.specs.declared.Node.{Node}
use Rattle.table.specs.declared.Sets.{Sets}
use Rattle.things.specs.Rep.{sets_of}
use Rattle.things.specs.Making.{Roomy, Stored, StoredObject}
use Rattle.things.proofs.ByTag.{tag-low}
use Rattle.things.proofs.Making.{made-atom, made_list, made-datum, made-lst}
use Rattle.copying.specs.Reaching.{changing, stripping, copy_of, copies_of, Puttable, Put, PutStripped}
use Rattle.copying.specs.Working.{Sound, sound-add, sound-flip, strips, set_change, sets_change, copying_of}
use Rattle.copying.specs.declared.Act.{Act}
use Rattle.copying.specs.declared.Act.TheVariants.{Add, Flip, Prune, Strip}
use Rattle.copying.specs.declared.Work.{Work}
use Rattle.table.specs.Sizes.{node_size}

-- ---- one set

scope_added : {k : Scope} → Sound (Add k) → Declared k
scope_added (sound-add d) = d

scope_flipped : {k : Scope} → Sound (Flip k) → Declared k
scope_flipped (sound-flip d) = d

module _ {a : Act} {k : Scope} where
  pub add-declared : Sound a → a ≡ Add k → Declared k
  add-declared s e = scope_added (rw e at s)

  pub flip-declared : Sound a → a ≡ Flip k → Declared k
  flip-declared s e = scope_flipped (rw e at s)

-- ---- of the four, one strips

module _ {a : Act} where
  pub strip-strips : a ≡ Strip → true ≡ strips a
  unfolding strips
  strip-strips e = rw e

  pub others-keep : ¬ (a ≡ Strip) → false ≡ strips a
  unfolding strips
  others-keep h = by a h
    where
      by : (x : Act) → ¬ (x ≡ Strip) → false ≡ strips x
      by (Add k) n = refl
      by (Flip k) n = refl
      by (Prune p) n = refl
      by Strip n = absurd (n refl)

module _ {a : Act} {n : Scopes} (m : Scopes) where
  pub set_added : {k : Scope} → a ≡ Add k → n ≡ add k.0 m → n ≡ set_change a m
  unfolding set_change
  set_added e q = rw e q

  pub set_flipped : {k : Scope} → a ≡ Flip k → n ≡ flip k.0 m → n ≡ set_change a m
  unfolding set_change
  set_flipped e q = rw e q

  pub set_pruned : {p : ScopeSet} → a ≡ Prune p → n ≡ prune (scopes_of p) m → n ≡ set_change a m
  unfolding set_change
  set_pruned e q = rw e q

pub set-left : {a : Act} (m : Scopes) → a ≡ Strip → m ≡ set_change a m
unfolding set_change
set-left m e = rw e

-- ---- the set of the phase, among three

at_last : (f : Scopes → Scopes) (ph : ℕ) (c : m.Sets) → ¬ (ph ≡ 0) → ¬ (ph ≡ 1) → change_at f ph c ≡ record { at0 = c.at0; at1 = c.at1; at2 = f c.at2 }
unfolding change_at
at_last f zero c a b = absurd (a refl)
at_last f (suc zero) c a b = absurd (b refl)
at_last f (suc (suc n)) c a b = refl

module _ (w : Work) (s : Sets) {r : Scopes} where
  pub sets_changed0 : w.phase ≡ 0 → r ≡ set_change w.act (scopes_of s.at0)
      → ◌≡◌ {A = m.Sets} (record { at0 = r; at1 = scopes_of s.at1; at2 = scopes_of s.at2 }) (sets_change w (sets_of s))
  unfolding change_at
  sets_changed0 h e = rw h (λ j. record { at0 = e j; at1 = scopes_of s.at1; at2 = scopes_of s.at2 })

  pub sets_changed1 : w.phase ≡ 1 → r ≡ set_change w.act (scopes_of s.at1)
      → ◌≡◌ {A = m.Sets} (record { at0 = scopes_of s.at0; at1 = r; at2 = scopes_of s.at2 }) (sets_change w (sets_of s))
  unfolding change_at
  sets_changed1 h e = rw h (λ j. record { at0 = scopes_of s.at0; at1 = e j; at2 = scopes_of s.at2 })

  pub sets_changed2 : ¬ (w.phase ≡ 0) → ¬ (w.phase ≡ 1) → r ≡ set_change w.act (scopes_of s.at2)
      → ◌≡◌ {A = m.Sets} (record { at0 = scopes_of s.at0; at1 = scopes_of s.at1; at2 = r }) (sets_change w (sets_of s))
  sets_changed2 a b e = (λ j. record { at0 = scopes_of s.at0; at1 = scopes_of s.at1; at2 = e j }) ∙ sym (at_last (set_change w.act) w.phase (sets_of s) a b)

-- ---- the node of a copy

pub put_roomy : {l : List ℕ} {top : ℕ} {n : Node} → Puttable l top n → Roomy l top node_size
put_roomy r = r.room

pub tag_fits : {l : List ℕ} {top : ℕ} {n : Node} → Puttable l top n → atom_value_tag + n.tag < 2 ^ 32
tag_fits r = omega (arith, r.kind)

node-changed : (f : m.Sets → m.Sets) {l l1 : List ℕ} {top at top1 : ℕ} {n : Node} {c d : Sets} → sets_of d ≡ f (sets_of c) → StoredObject l l1 top n d at top1
    → Put (changing f) l l1 top n c at top1
unfolding copy_of copies_of on_sets
node-changed f {l} {l1} {top} {at} {top1} {n} {c} {d} q s =
    record {
      kept = s.stored.kept;
      place = s.stored.place;
      grows = s.stored.grows;
      is-atom = λ a e. made-atom a q (rw e at s);
      is-list = λ ps h r.
          let e : n ≡ record { tag = list_tag; content = n.content } = λ j. record { tag = h j; content = n.content } in
          let t : StoredObject l l1 top (record { tag = list_tag; content = n.content }) d at top1 = rw e at s in
          made_list q t r;
    }

list-gone : {l l1 : List ℕ} {top at top1 : ℕ} {n : Node} {c : Sets} → n.tag ≡ list_tag → Stored l l1 top (record { tag = list_value_tag; content = n.content }) at top1
    → Put stripping l l1 top n c at top1
unfolding copy_of copies_of strip
list-gone h s =
    record {
      kept = s.kept;
      place = s.place;
      grows = s.grows;
      is-atom = λ a e. absurd (omega (arith, ap (λ (x : Node). x.tag) e, tag-low a));
      is-list = λ ps g r. made-lst s r;
    }

atom-gone : {l l1 : List ℕ} {top at top1 : ℕ} {n : Node} {c : Sets} → ¬ (n.tag ≡ list_tag) → Stored l l1 top (record { tag = atom_value_tag + n.tag; content = n.content }) at top1
    → Put stripping l l1 top n c at top1
unfolding copy_of strip
atom-gone h s =
    record {
      kept = s.kept;
      place = s.place;
      grows = s.grows;
      is-atom = λ a e. made-datum a (rw e at s);
      is-list = λ ps g r. absurd (h g);
    }

module _ {l l1 : List ℕ} {top at top1 : ℕ} {n : Node} where
  pub list_stripped : n.tag ≡ list_tag → Stored l l1 top (record { tag = list_value_tag; content = n.content }) at top1 → PutStripped l l1 top n at top1
  list_stripped h s = record { means = λ c. list-gone h s }

  pub atom_stripped : ¬ (n.tag ≡ list_tag) → Stored l l1 top (record { tag = atom_value_tag + n.tag; content = n.content }) at top1 → PutStripped l l1 top n at top1
  atom_stripped h s = record { means = λ c. atom-gone h s }

  module _ (w : Work) {c : Sets} where
    pub put_stripped : w.act ≡ Strip → PutStripped l l1 top n at top1 → Put (copying_of w) l l1 top n c at top1
    unfolding copying_of
    put_stripped h s = rw (sym (strip-strips h)) (s.means c)

    pub put_changed : {d : Sets} → ¬ (w.act ≡ Strip) → sets_of d ≡ sets_change w (sets_of c) → StoredObject l l1 top n d at top1 → Put (copying_of w) l l1 top n c at top1
    unfolding copying_of
    put_changed h q s = rw (sym (others-keep h)) (node-changed (sets_change w) q s)

pub ruleset laws = (add-declared, flip-declared, set_added, set_flipped, set_pruned, set-left, sets_changed0, sets_changed1, sets_changed2, put_roomy, tag_fits, list_stripped, atom_stripped, put_stripped, put_changed)
