-- A reader's faults are 1, 2 and 4, and no others.
use mathlib.Core.Path.{refl}
use Prim.Native.Nat.{ℕ, zero, suc, ◌+◌, ◌-◌, ◌*◌}
use mathlib.Core.Bool.{Bool, true, false, not, ◌&&◌, ◌||◌}
use mathlib.Core.List.{List, [], ◌∷◌}
use lib.Dec.{eqb, ltb, leb}
use lib.ListN.{length}
use Rattle.model.specs.Choice.{when◌then◌else◌}
use Rattle.model.specs.Limits.{most_scopes, most_names, core_names, most_bindings, most_nesting, most_word_length, most_image, last_point, last_primitive, last_rung_word}
use Rattle.model.specs.Refusals.{Refusal, layout, over_limit, wrong_kind}
use Rattle.model.specs.Scopes.{Scopes, add}
use Rattle.model.specs.Objects.{Atom, symbol, number, point, prim, rung, Sets, Stx, atom, list, Stxs, nil, cons}
use Rattle.model.specs.Trees.{Tree, var, app, fun, datum, lst, stx, Trees, tnil, tcons}
use Rattle.model.specs.Resolving.{Bind, bind_before}
use Rattle.model.specs.Competing.{no_rivals}
use Rattle.model.specs.Reading.{Read, got, fault, Reader, next, need, byte, bytes, at_end, groups, num, num_up_to, num_below, good_word, among, core_words, read_words, Head, symbols, read_head, read_members, read_set, read_sets, read_bind, read_binds_after, read_some_binds, read_binds, read_atom, read_parts, read_content, read_stx, read_trees, read_app, read_tree_body, read_tree, Image, read_syntax, read_tree_image, read_image}
use Rattle.addresses.proofs.Outcomes.{Possible}

pub data OfReader : Refusal → Type 0 where
  of_layout : OfReader layout
  of_limit : OfReader over_limit
  of_kind : OfReader wrong_kind

pub possible : (r : Refusal) → OfReader r → Possible r no_rivals
possible r of_layout = refl
possible r of_limit = refl
possible r of_kind = refl

pub data Reads (A : Type 0) : Read A → Type 0 where
  reads : (a : A) (s : List ℕ) → Reads A (got a s)
  faults : (r : Refusal) → OfReader r → Reads A (fault r)

onward : {A B : Type 0} {o : Read A} (f : A → Reader B) → Reads A o → ((a : A) (s : List ℕ) → Reads B (f a s)) → Reads B (next o f)
onward f (reads a s) h = h a s
onward f (faults r p) h = faults r p

needs : (c : Refusal) → OfReader c → (b : Bool) (s : List ℕ) → Reads (Unit {0}) (need c b s)
needs c p true s = reads tt s
needs c p false s = faults c p

if_reads : {A : Type 0} (b : Bool) (x y : Read A) → Reads A x → Reads A y → Reads A (when b then x else y)
if_reads true x y p q = p
if_reads false x y p q = q

byte_reads : (s : List ℕ) → Reads ℕ (byte s)
unfolding byte
byte_reads [] = faults layout of_layout
byte_reads (b ∷ s) = reads b s

bytes-reads : (n : ℕ) (s : List ℕ) → Reads (List ℕ) (bytes n s)
unfolding bytes
bytes-reads zero s = reads [] s
bytes-reads (suc n) s = onward _ (byte_reads s) (λ b t. onward _ (bytes-reads n t) (λ r u. reads (b ∷ r) u))

end_reads : (s : List ℕ) → Reads (Unit {0}) (at_end s)
unfolding at_end
end_reads [] = reads tt []
end_reads (b ∷ s) = faults layout of_layout

if_at : {A : Type 0} (b : Bool) (x y : Reader A) (s : List ℕ) → Reads A (x s) → Reads A (y s) → Reads A ((when b then x else y) s)
if_at true x y s p q = p
if_at false x y s p q = q

groups-reads : (k w n : ℕ) (s : List ℕ) → Reads ℕ (groups k w n s)
unfolding groups
groups-reads zero w n s =
    onward _ (byte_reads s) (λ b t. onward _ (needs over_limit of_limit (leb b 15) t) (λ v u. onward _ (needs layout of_layout (not (eqb b 0)) u) (λ x y. reads (n + b * w) y)))
groups-reads (suc k) w n s =
    onward _ (byte_reads s) (λ b t. if_at (ltb b 128) _ _ t (onward _ (needs layout of_layout (not (eqb b 0)) t) (λ x y. reads (n + b * w) y)) (groups-reads k (w * 128) (n + (b - 128) * w) t))

num-reads : (s : List ℕ) → Reads ℕ (num s)
unfolding num
num-reads s = onward _ (byte_reads s) (λ b t. if_at (ltb b 128) _ _ t (reads b t) (groups-reads 3 128 (b - 128) t))

up_to_reads : (c : Refusal) → OfReader c → (m : ℕ) (s : List ℕ) → Reads ℕ (num_up_to c m s)
unfolding num_up_to
up_to_reads c p m s = onward _ (num-reads s) (λ n t. onward _ (needs c p (leb n m) t) (λ v u. reads n u))

below-reads : (m : ℕ) (s : List ℕ) → Reads ℕ (num_below m s)
unfolding num_below
below-reads m s = onward _ (num-reads s) (λ n t. onward _ (needs layout of_layout (ltb n m) t) (λ v u. reads n u))

words-reads : (n : ℕ) (seen : List (List ℕ)) (s : List ℕ) → Reads (List (List ℕ)) (read_words n seen s)
unfolding read_words
words-reads zero seen s = reads [] s
words-reads (suc n) seen s =
    onward _ (num-reads s) (λ k t. onward _ (needs layout of_layout (not (eqb k 0)) t) (λ v t₁. onward _ (needs over_limit of_limit (leb k most_word_length) t₁) (λ v₁ t₂.
    onward _ (bytes-reads k t₂) (λ w t₃. onward _ (needs layout of_layout (good_word w && not (among w seen)) t₃) (λ v₂ t₄.
    onward _ (words-reads n (w ∷ seen) t₄) (λ r u. reads (w ∷ r) u))))))

head-reads : (kind : ℕ) (s : List ℕ) → Reads Head (read_head kind s)
unfolding read_head
head-reads kind s =
    onward _ (num-reads s) (λ k t. onward _ (needs layout of_layout (eqb k 1 || eqb k 2) t) (λ v t₁. onward _ (needs wrong_kind of_kind (eqb k kind) t₁) (λ v₁ t₂.
    onward _ (up_to_reads over_limit of_limit (most_names - core_names) t₂) (λ w t₃. onward _ (words-reads w core_words t₃) (λ ws t₄.
    onward _ (up_to_reads over_limit of_limit (most_names - core_names - w) t₄) (λ m t₅. onward _ (up_to_reads over_limit of_limit most_scopes t₅) (λ n u.
    reads (record { words = ws; names = core_names + w + m; scopes = n }) u)))))))

members-read : (c n p : ℕ) (m : Scopes) (s : List ℕ) → Reads Scopes (read_members c n p m s)
unfolding read_members
members-read zero n p m s = reads m s
members-read (suc c) n p m s =
    onward _ (num-reads s) (λ k t. onward _ (needs layout of_layout (ltb p k && leb k n) t) (λ v u. members-read c n k (add k m) u))

set_reads : (n : ℕ) (s : List ℕ) → Reads Scopes (read_set n s)
unfolding read_set
set_reads n s = onward _ (num-reads s) (λ c t. members-read c n 0 0 t)

sets-read : (n : ℕ) (s : List ℕ) → Reads Sets (read_sets n s)
unfolding read_sets
sets-read n s =
    onward _ (set_reads n s) (λ a t. onward _ (set_reads n t) (λ b t₁. onward _ (set_reads n t₁) (λ c u. reads (record { at0 = a; at1 = b; at2 = c }) u)))

bind-reads : (h : Head) (s : List ℕ) → Reads Bind (read_bind h s)
unfolding read_bind
bind-reads h s =
    onward _ (below-reads (symbols h) s) (λ x t. onward _ (below-reads h.names t) (λ n t₁. onward _ (set_reads h.scopes t₁) (λ m u.
    reads (record { symb = x; target = n; set = m }) u)))

after-reads : (h : Head) (c : ℕ) (p : Bind) (s : List ℕ) → Reads (List Bind) (read_binds_after h c p s)
unfolding read_binds_after
after-reads h zero p s = reads [] s
after-reads h (suc c) p s =
    onward _ (bind-reads h s) (λ b t. onward _ (needs layout of_layout (bind_before p b) t) (λ v t₁. onward _ (after-reads h c b t₁) (λ r u. reads (b ∷ r) u)))

some_read : (h : Head) (c : ℕ) (s : List ℕ) → Reads (List Bind) (read_some_binds h c s)
unfolding read_some_binds
some_read h zero s = reads [] s
some_read h (suc c) s = onward _ (bind-reads h s) (λ b t. onward _ (after-reads h c b t) (λ r u. reads (b ∷ r) u))

binds-read : (h : Head) (s : List ℕ) → Reads (List Bind) (read_binds h s)
unfolding read_binds
binds-read h s = onward _ (up_to_reads over_limit of_limit most_bindings s) (λ c t. some_read h c t)

atom-reads : (h : Head) (t : ℕ) (s : List ℕ) → Reads Atom (read_atom h t s)
unfolding read_atom
atom-reads h zero s = onward _ (below-reads (symbols h) s) (λ x u. reads (symbol x) u)
atom-reads h (suc zero) s = onward _ (num-reads s) (λ x u. reads (number x) u)
atom-reads h (suc (suc zero)) s = onward _ (up_to_reads over_limit of_limit last_point s) (λ x u. reads (point x) u)
atom-reads h (suc (suc (suc zero))) s = onward _ (up_to_reads over_limit of_limit last_primitive s) (λ x u. reads (prim x) u)
atom-reads h (suc (suc (suc (suc zero)))) s = onward _ (up_to_reads over_limit of_limit last_rung_word s) (λ x u. reads (rung x) u)
atom-reads h (suc (suc (suc (suc (suc n))))) s = faults layout of_layout

parts-read : (c : ℕ) (part : Reader Stx) → ((s : List ℕ) → Reads Stx (part s)) → (s : List ℕ) → Reads Stxs (read_parts c part s)
unfolding read_parts
parts-read zero part h s = reads nil s
parts-read (suc c) part h s = onward _ (h s) (λ x t. onward _ (parts-read c part h t) (λ r u. reads (cons x r) u))

content-reads : (h : Head) (part : Reader Stx) → ((s : List ℕ) → Reads Stx (part s)) → (c : Sets) (t : ℕ) (b : Bool) (s : List ℕ)
    → Reads Stx (read_content h part c t b s)
unfolding read_content
content-reads h part k c t true s = onward _ (num-reads s) (λ n u. onward _ (parts-read n part k u) (λ r v. reads (list c r) v))
content-reads h part k c t false s = onward _ (atom-reads h t s) (λ a v. reads (atom c a) v)

stx-reads : (l : ℕ) (h : Head) (s : List ℕ) → Reads Stx (read_stx l h s)
unfolding read_stx
stx-reads zero h s = faults over_limit of_limit
stx-reads (suc l) h s =
    onward _ (up_to_reads layout of_layout 5 s) (λ t u. onward _ (sets-read h.scopes u) (λ c v. content-reads h (read_stx l h) (stx-reads l h) c t (eqb t 5) v))

syntax-reads : (s : List ℕ) → Reads (Image Stx) (read_syntax s)
unfolding read_syntax
syntax-reads s =
    onward _ (head-reads 1 s) (λ h t. onward _ (binds-read h t) (λ b t₁. onward _ (stx-reads most_nesting h t₁) (λ r t₂. onward _ (end_reads t₂) (λ v u.
    reads (record { head = h; binds = b; root = r }) u))))

pub image-reads : (s : List ℕ) → Reads (Image Stx) (read_image read_syntax s)
unfolding read_image
image-reads s = if_reads (leb (length s) most_image) (read_syntax s) (fault over_limit) (syntax-reads s) (faults over_limit of_limit)

-- ---- trees

trees-read : (c : ℕ) (part : Reader Tree) → ((s : List ℕ) → Reads Tree (part s)) → (s : List ℕ) → Reads Trees (read_trees c part s)
unfolding read_trees
trees-read zero part h s = reads tnil s
trees-read (suc c) part h s = onward _ (h s) (λ x t. onward _ (trees-read c part h t) (λ r u. reads (tcons x r) u))

app-reads : (c : ℕ) (part : Reader Tree) → ((s : List ℕ) → Reads Tree (part s)) → (s : List ℕ) → Reads Tree (read_app c part s)
unfolding read_app
app-reads zero part h s = faults layout of_layout
app-reads (suc c) part h s = onward _ (h s) (λ f t. onward _ (trees-read c part h t) (λ r u. reads (app f r) u))

body_reads : (h : Head) (tree value : Reader Tree) (object : Reader Stx) → ((s : List ℕ) → Reads Tree (tree s)) → ((s : List ℕ) → Reads Tree (value s))
    → ((s : List ℕ) → Reads Stx (object s)) → (t : ℕ) (s : List ℕ) → Reads Tree (read_tree_body h tree value object t s)
unfolding read_tree_body
body_reads h tree value object p q o zero s = onward _ (below-reads h.names s) (λ n u. reads (var n) u)
body_reads h tree value object p q o (suc zero) s = onward _ (num-reads s) (λ n u. app-reads n tree p u)
body_reads h tree value object p q o (suc (suc zero)) s = onward _ (below-reads h.names s) (λ n u. onward _ (p u) (λ b v. reads (fun n b) v))
body_reads h tree value object p q o (suc (suc (suc zero))) s = onward _ (num-reads s) (λ t u. onward _ (atom-reads h t u) (λ a v. reads (datum a) v))
body_reads h tree value object p q o (suc (suc (suc (suc zero)))) s = onward _ (num-reads s) (λ n u. onward _ (trees-read n value q u) (λ r v. reads (lst r) v))
body_reads h tree value object p q o (suc (suc (suc (suc (suc zero))))) s = onward _ (o s) (λ x u. reads (stx x) u)
body_reads h tree value object p q o (suc (suc (suc (suc (suc (suc n)))))) s = faults layout of_layout

tree-reads : (l : ℕ) (h : Head) (low : ℕ) (s : List ℕ) → Reads Tree (read_tree l h low s)
unfolding read_tree
tree-reads zero h low s = faults over_limit of_limit
tree-reads (suc l) h low s =
    onward _ (num-reads s) (λ t u. onward _ (needs layout of_layout (leb low t) u) (λ v w.
    body_reads h (read_tree l h 0) (read_tree l h 2) (read_stx (suc l) h) (tree-reads l h 0) (tree-reads l h 2) (stx-reads (suc l) h) t w))

pub tree_image_reads : (s : List ℕ) → Reads (Image Tree) (read_image read_tree_image s)
unfolding read_image read_tree_image
tree_image_reads s =
    if_reads (leb (length s) most_image) (read_tree_image s) (fault over_limit)
    (onward _ (head-reads 2 s) (λ h t. onward _ (tree-reads most_nesting h 0 t) (λ r t₁. onward _ (end_reads t₁) (λ v u.
    reads (record { head = h; binds = []; root = r }) u)))) (faults over_limit of_limit)
