-- The laws of whole images, for both kinds:
-- what is read keeps every limit; a well-formed image read and written again is the same bytes; what keeps the limits is read back.
use mathlib.Core.Path.{◌≡◌, refl, sym, ap, ◌∙◌, subst}
use mathlib.Core.Logic.{inl, inr}
use Prim.Native.Nat.{ℕ, ◌≤◌, ◌<◌}
use native.Mathlib.Omega.{arith}
use mathlib.Core.Bool.{Bool, true, false}
use mathlib.Core.List.{List, [], ◌∷◌, ◌++◌, append_assoc, append-nil}
use lib.Dec.{leb}
use lib.ListN.{length}
use Rattle.model.specs.Choice.{when◌then◌else◌}
use Rattle.model.specs.Limits.{most_names, most_scopes, most_nesting, most_image}
use Rattle.model.specs.Refusals.{layout, over_limit}
use Rattle.model.specs.Objects.{Stx}
use Rattle.model.specs.Trees.{Tree}
use Rattle.model.specs.Resolving.{Bind}
use Rattle.model.specs.Reading.{Read, got, fault, Reader, give, Head, symbols, read_head, read_binds, read_stx, read_tree, at_end, Image, read_syntax, read_tree_image, read_image, ◌>>=◌, ◌>>◌}
use Rattle.model.specs.Writing.{num_bytes, head_bytes, binds_bytes, stx_bytes, tree_bytes, syntax_bytes, tree_image_bytes}
use borrow.Author.Tests.{le-leb, leb-true}
use Rattle.codec_laws.specs.WellFormed.{Bytes, HeadFits, SyntaxFits, TreeImageFits}
use Rattle.codec_laws.proofs.NumberTrip.{got-value, fault≢got}
use Rattle.codec_laws.proofs.Sequence.{next-got, Wrote, join}
use Rattle.codec_laws.proofs.Lengths.{right_le}
use Rattle.codec_laws.proofs.ObjectTrip.{stx_w, stx_back}
use Rattle.codec_laws.proofs.TreeTrip.{Counts, tree_w, tree_back, meets_all}
use Rattle.codec_laws.proofs.HeadTrip.{head_w, head_back}
use Rattle.codec_laws.proofs.BindTrip.{binds_w, binds_back}

-- ---- the ends of an image

pub end_w : (s rest : List ℕ) (v : Unit {0}) → at_end s ≡ got v rest → s ≡ []
unfolding at_end
end_w [] rest v e = refl
end_w (b ∷ s) rest v e = absurd (fault≢got layout v rest e)

-- an image that is read is at most 65,536 bytes long
whole : {R : Type 0} (r : Reader (Image R)) (image rest : List ℕ) (i : Image R) → read_image r image ≡ got i rest
    → (r image ≡ got i rest) × (length image ≤ most_image)
unfolding read_image
whole r image rest i e = go (leb (length image) most_image) refl e
  where
    go : (b : Bool) → leb (length image) most_image ≡ b → (when b then r image else fault over_limit) ≡ got i rest
        → (r image ≡ got i rest) × (length image ≤ most_image)
    go true q f = (f, leb-true (length image) most_image q)
    go false q f = absurd (fault≢got over_limit i rest f)

read_short : {R : Type 0} (r : Reader (Image R)) (image : List ℕ) (v : Read (Image R)) → length image ≤ most_image → r image ≡ v → read_image r image ≡ v
unfolding read_image
read_short r image v h e = rw (le-leb (length image) most_image h) e

head-counts : (h : Head) → HeadFits h → Counts h
unfolding most_names most_scopes
head-counts h f = record { scopes-few = f.scopes-to; names-few = f.names-to; symbols-few = few f.names-from f.names-to }
  where
    few : symbols h ≤ h.names → h.names ≤ 1024 → symbols h < 4294967296
    few a b = omega arith

-- ---- kind 1

record SyntaxRead (image : List ℕ) (i : Image Stx) : Type 0 where
  fits : SyntaxFits i.head i.binds i.root
  same : image ≡ syntax_bytes i.head i.binds i.root

syntax-read : (image rest : List ℕ) (i : Image Stx) → Bytes image → read_image read_syntax image ≡ got i rest → SyntaxRead image i
unfolding read_syntax syntax_bytes most_nesting most_scopes
syntax-read image rest i b e₀ =
    let e = whole read_syntax image rest i e₀ in
    let h = next-got (read_head 1 image) _ i rest e.0 in
    let w₁ = head_w 1 h.0 image h.1 b h.2 in
    let l = next-got (read_binds h.0 h.1) _ i rest h.3 in
    let w₂ = binds_w h.0 w₁.1.scopes-to l.0 h.1 l.1 w₁.0.1 l.2 in
    let r = next-got (read_stx most_nesting h.0 l.1) _ i rest l.3 in
    let w₃ = stx_w most_nesting h.0 w₁.1.scopes-to r.0 l.1 r.1 w₂.0.1 r.2 in
    let z = next-got (at_end r.1) _ i rest r.3 in
    let i₀ : Image Stx = record { head = h.0; binds = l.0; root = r.0 } in
    let same : image ≡ syntax_bytes h.0 l.0 r.0 =
    text h.0 l.0 r.0 h.1 l.1 r.1 w₁.0 w₂.0 w₃.0 (end_w r.1 z.1 z.0 z.2) in
    subst (SyntaxRead image) (got-value i₀ i z.1 rest z.3)
    (record {
      fits = record {
        head-fits = w₁.1;
        binds-fit = w₂.1;
        ascending = w₂.2;
        few = w₂.3;
        root-fits = w₃.1;
        shallow = w₃.2;
        short = subst (λ (y : List ℕ). length y ≤ most_image) same e.1;
      };
      same = same;
    })
  where
    text : (h : Head) (l : List Bind) (r : Stx) (s₁ s₂ s₃ : List ℕ) → Wrote (head_bytes 1 h) image s₁ → Wrote (num_bytes (length l) ++ binds_bytes l) s₁ s₂
        → Wrote (stx_bytes r) s₂ s₃ → s₃ ≡ [] → image ≡ head_bytes 1 h ++ num_bytes (length l) ++ binds_bytes l ++ stx_bytes r
    text h l r s₁ s₂ s₃ a₁ a₂ a₃ n =
        (join (head_bytes 1 h ++ (num_bytes (length l) ++ binds_bytes l)) (stx_bytes r) image s₂ s₃
        (join (head_bytes 1 h) (num_bytes (length l) ++ binds_bytes l) image s₁ s₂ a₁ a₂) a₃).0
        ∙ ap (λ (z : List ℕ). ((head_bytes 1 h ++ (num_bytes (length l) ++ binds_bytes l)) ++ stx_bytes r) ++ z) n
        ∙ append-nil ((head_bytes 1 h ++ (num_bytes (length l) ++ binds_bytes l)) ++ stx_bytes r)
        ∙ ap (λ (z : List ℕ). z ++ stx_bytes r) (sym (append_assoc (head_bytes 1 h) (num_bytes (length l)) (binds_bytes l)))

-- what is read keeps every limit
pub syntax_read_keeps_limits : (image rest : List ℕ) (i : Image Stx) → Bytes image → read_image read_syntax image ≡ got i rest
    → SyntaxFits i.head i.binds i.root
syntax_read_keeps_limits image rest i b e = (syntax-read image rest i b e).fits

-- a well-formed image read and written again is the same bytes
pub syntax_read_then_written : (image rest : List ℕ) (i : Image Stx) → Bytes image → read_image read_syntax image ≡ got i rest
    → syntax_bytes i.head i.binds i.root ≡ image
syntax_read_then_written image rest i b e = sym (syntax-read image rest i b e).same

syntax-parts : (h : Head) (l : List Bind) (r : Stx) → syntax_bytes h l r ≡ head_bytes 1 h ++ (num_bytes (length l) ++ (binds_bytes l ++ stx_bytes r))
unfolding syntax_bytes
syntax-parts h l r =
    append_assoc (head_bytes 1 h ++ num_bytes (length l)) (binds_bytes l) (stx_bytes r)
    ∙ append_assoc (head_bytes 1 h) (num_bytes (length l)) (binds_bytes l ++ stx_bytes r)

syntax-short : (h : Head) (l : List Bind) (r : Stx) → length (syntax_bytes h l r) ≤ most_image → length (stx_bytes r) ≤ 65536
unfolding syntax_bytes most_image
syntax-short h l r s = right_le 65536 (head_bytes 1 h ++ num_bytes (length l) ++ binds_bytes l) (stx_bytes r) s

-- what keeps the limits and is written is read back as the same
pub syntax_written_then_read : (h : Head) (l : List Bind) (r : Stx) → SyntaxFits h l r
    → read_image read_syntax (syntax_bytes h l r) ≡ got (record { head = h; binds = l; root = r }) []
unfolding read_syntax most_nesting
syntax_written_then_read h l r f =
    read_short read_syntax (syntax_bytes h l r) (got (record { head = h; binds = l; root = r }) []) f.short
    (ap read_syntax (syntax-parts h l r)
    ∙ rw (
      head_back 1 h (num_bytes (length l) ++ (binds_bytes l ++ stx_bytes r)) (inl refl) f.head-fits,
      binds_back h f.head-fits l (stx_bytes r) f.binds-fit f.ascending f.few,
      root,
    ))
  where
    counts : Counts h
    counts = head-counts h f.head-fits

    root : read_stx 64 h (stx_bytes r) ≡ got r []
    root =
        ap (read_stx 64 h) (sym (append-nil (stx_bytes r)))
        ∙ stx_back h counts.scopes-few counts.symbols-few r f.root-fits (syntax-short h l r f.short) 64 f.shallow []

-- ---- kind 2

record TreeRead (image : List ℕ) (i : Image Tree) : Type 0 where
  fits : TreeImageFits i.head i.root
  same : image ≡ tree_image_bytes i.head i.root

-- an image of kind 2 whose root is read by `root`
rooted : (Head → Reader Tree) → Reader (Image Tree)
rooted root = do
  h ← read_head 2
  r ← root h
  at_end
  give (record { head = h; binds = []; root = r })

rooted_is : (image : List ℕ) → read_tree_image image ≡ rooted (λ h. read_tree most_nesting h 0) image
unfolding read_tree_image rooted
rooted_is image = refl

record RootedRead (root : Head → Reader Tree) (image : List ℕ) (i : Image Tree) : Type 0 where
  after-head : List ℕ
  after-root : List ℕ
  head_read : read_head 2 image ≡ got i.head after-head
  root-read : root i.head after-head ≡ got i.root after-root
  at-end : after-root ≡ []

rooted_read : (root : Head → Reader Tree) (image rest : List ℕ) (i : Image Tree) → rooted root image ≡ got i rest → RootedRead root image i
unfolding rooted
rooted_read root image rest i e =
    let h = next-got (read_head 2 image) _ i rest e in
    let r = next-got (root h.0 h.1) _ i rest h.3 in
    let z = next-got (at_end r.1) _ i rest r.3 in
    subst (RootedRead root image) (got-value (record { head = h.0; binds = []; root = r.0 }) i z.1 rest z.3)
    (record { after-head = h.1; after-root = r.1; head_read = h.2; root-read = r.2; at-end = end_w r.1 z.1 z.0 z.2 })

tree-read : (image rest : List ℕ) (i : Image Tree) → Bytes image → read_image read_tree_image image ≡ got i rest → TreeRead image i
unfolding tree_image_bytes most_scopes
tree-read image rest i b e₀ =
    let e = whole read_tree_image image rest i e₀ in
    let g = rooted_read (λ h. read_tree most_nesting h 0) image rest i (sym (rooted_is image) ∙ e.0) in
    let w₁ = head_w 2 i.head image g.after-head b g.head_read in
    let w₂ = tree_w most_nesting i.head w₁.1.scopes-to 0 i.root g.after-head g.after-root w₁.0.1 g.root-read in
    let same : image ≡ tree_image_bytes i.head i.root = text g.after-head g.after-root w₁.0 w₂.0 g.at-end in
    record {
      fits = record {
        head-fits = w₁.1;
        root-fits = w₂.1;
        shallow = w₂.2;
        short = subst (λ (y : List ℕ). length y ≤ most_image) same e.1;
      };
      same = same;
    }
  where
    text : (s₁ s₂ : List ℕ) → Wrote (head_bytes 2 i.head) image s₁ → Wrote (tree_bytes i.root) s₁ s₂ → s₂ ≡ []
        → image ≡ head_bytes 2 i.head ++ tree_bytes i.root
    text s₁ s₂ a₁ a₂ n =
        (join (head_bytes 2 i.head) (tree_bytes i.root) image s₁ s₂ a₁ a₂).0
        ∙ ap (λ (z : List ℕ). (head_bytes 2 i.head ++ tree_bytes i.root) ++ z) n
        ∙ append-nil (head_bytes 2 i.head ++ tree_bytes i.root)

-- what is read keeps every limit
pub tree_read_keeps_limits : (image rest : List ℕ) (i : Image Tree) → Bytes image → read_image read_tree_image image ≡ got i rest
    → TreeImageFits i.head i.root
tree_read_keeps_limits image rest i b e = (tree-read image rest i b e).fits

-- a well-formed image read and written again is the same bytes
pub tree_read_then_written : (image rest : List ℕ) (i : Image Tree) → Bytes image → read_image read_tree_image image ≡ got i rest
    → tree_image_bytes i.head i.root ≡ image
tree_read_then_written image rest i b e = sym (tree-read image rest i b e).same

tree-short : (h : Head) (r : Tree) → length (tree_image_bytes h r) ≤ most_image → length (tree_bytes r) ≤ 65536
unfolding tree_image_bytes most_image
tree-short h r s = right_le 65536 (head_bytes 2 h) (tree_bytes r) s

rooted_back : (root : Head → Reader Tree) (h : Head) (r : Tree) → HeadFits h → root h (tree_bytes r) ≡ got r []
    → rooted root (head_bytes 2 h ++ tree_bytes r) ≡ got (record { head = h; binds = []; root = r }) []
unfolding rooted at_end
rooted_back root h r f e = rw (head_back 2 h (tree_bytes r) (inr refl) f, e)

-- what keeps the limits and is written is read back as the same
pub tree_written_then_read : (h : Head) (r : Tree) → TreeImageFits h r
    → read_image read_tree_image (tree_image_bytes h r) ≡ got (record { head = h; binds = []; root = r }) []
unfolding tree_image_bytes
tree_written_then_read h r f =
    read_short read_tree_image (tree_image_bytes h r) (got (record { head = h; binds = []; root = r }) []) f.short
    (rooted_is (tree_image_bytes h r) ∙ rooted_back (λ z. read_tree most_nesting z 0) h r f.head-fits root)
  where
    root : read_tree most_nesting h 0 (tree_bytes r) ≡ got r []
    root =
        ap (read_tree most_nesting h 0) (sym (append-nil (tree_bytes r)))
        ∙ tree_back h (head-counts h f.head-fits) r f.root-fits (tree-short h r f.short) 0 (meets_all r) most_nesting f.shallow []
