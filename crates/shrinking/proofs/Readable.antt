-- The smaller image keeps every limit, so that it is well-formed and is read as what was meant.
use mathlib.Core.Path.{◌≡◌, sym, ap, ◌∙◌, subst}
use Prim.Native.Nat.{ℕ, ◌^◌, ◌≤◌, ◌<◌}
use native.Mathlib.Nat.{le_trans}
use mathlib.Core.List.{List, []}
use lib.ListN.{length}
use Rattle.model.specs.Limits.{most_scopes, most_nesting, most_image}
use Rattle.model.specs.Scopes.{Scopes}
use Rattle.model.specs.Objects.{Stx}
use Rattle.model.specs.Resolving.{Bind}
use Rattle.model.specs.Reading.{got, symbols, Image, read_syntax, read_image}
use Rattle.laws.proofs.Members.{Small}
use Rattle.codec_laws.specs.WellFormed.{Bytes, SyntaxFits}
use Rattle.codec_laws.proofs.ImageLaws.{syntax_read_keeps_limits, syntax_written_then_read}
use Rattle.addresses.proofs.States.{binds_in}
use Rattle.alike.proofs.Alike.{StxAlike}
use Rattle.alike.specs.Renumbering.{renumber_stx}
use Rattle.alike.proofs.Things.{nesting_alike}
use Rattle.alike.proofs.RenumberedSets.{most, small_of}
use Rattle.shrinking.specs.Shrunk.{kept, renumber_each, remaining, rank, with_scopes, shrunk, bytes_of, shrunk_read, smaller}
use Rattle.shrinking.proofs.Ranks.{ranked}
use Rattle.shrinking.proofs.Within.{count_most, Under, under, root_like, root-fits, BindsUnder, each_sorted, each-length, each-fit}
use Rattle.shrinking.proofs.Kept.{kept_in_lem, kept-length, kept-fit, kept_sorted, kept_sub, root_sub, remaining-few}

pub shrunk-bytes : (image rest : List ℕ) (i : Image Stx) → read_image read_syntax image ≡ got i rest → smaller image ≡ bytes_of (shrunk i)
unfolding smaller shrunk_read
shrunk-bytes image rest i e = rw e

module _ (i : Image Stx) (fit : SyntaxFits i.head i.binds i.root) where
  abbrev u : Scopes
  u = remaining i.binds i.root

  abbrev l : List Bind
  l = kept i.root i.binds

  abbrev n : ℕ
  n = i.head.scopes

  pub few-scopes : n ≤ most
  unfolding most_scopes
  few-scopes = fit.head-fits.scopes-to

  pub remaining-below : u < 2 ^ n
  remaining-below = remaining-few (symbols i.head) i.head.names n i.binds i.root fit.binds-fit fit.root-fits

  pub small_u : Small u
  small_u = small_of n u few-scopes remaining-below

  pub under_root : Under u i.root
  under_root = under u small_u i.root (root_sub i.binds i.root)

  pub binds_under : BindsUnder u n l
  binds_under b j = (
    (binds_in (symbols i.head) i.head.names n i.binds fit.binds-fit b (kept_in_lem i.root i.binds b j)).2,
    kept_sub i.binds i.root b j,
  )

  pub like_root : StxAlike (ranked u small_u) i.root (renumber_stx (rank u) i.root)
  like_root = root_like u small_u n few-scopes (symbols i.head) i.root fit.root-fits under_root

  few-kept : length (renumber_each (rank u) l) ≤ length i.binds
  few-kept = subst (λ (x : ℕ). x ≤ length i.binds) (sym (each-length (rank u) l)) (kept-length i.root i.binds)

  -- the smaller image keeps every limit
  pub shrunk-fits : length (bytes_of (shrunk i)) ≤ most_image → SyntaxFits (shrunk i).head (shrunk i).binds (shrunk i).root
  unfolding shrunk with_scopes symbols bytes_of most_scopes
  shrunk-fits short = record {
    head-fits = record {
      words-fit = fit.head-fits.words-fit;
      names-from = fit.head-fits.names-from;
      names-to = fit.head-fits.names-to;
      scopes-to = count_most u small_u;
    };
    binds-fit = each-fit u small_u n few-scopes (symbols i.head) i.head.names l
        (kept-fit (symbols i.head) i.head.names n i.root i.binds fit.binds-fit) binds_under;
    ascending = each_sorted u small_u n few-scopes l binds_under (kept_sorted i.root i.binds fit.ascending);
    few = le_trans few-kept fit.few;
    root-fits = root-fits u small_u n few-scopes (symbols i.head) i.root fit.root-fits under_root;
    shallow = subst (λ (x : ℕ). x ≤ most_nesting) (nesting_alike (ranked u small_u) like_root) fit.shallow;
    short = short;
  }

-- the smaller image is well-formed, and is read as what was meant
pub smaller-reads : (image rest : List ℕ) (i : Image Stx) → Bytes image → read_image read_syntax image ≡ got i rest → length (smaller image) ≤ most_image
    → read_image read_syntax (smaller image) ≡ got (shrunk i) []
unfolding bytes_of
smaller-reads image rest i bytes read short =
    let is : smaller image ≡ bytes_of (shrunk i) = shrunk-bytes image rest i read in
    ap (read_image read_syntax) is
    ∙ syntax_written_then_read (shrunk i).head (shrunk i).binds (shrunk i).root
    (shrunk-fits i (syntax_read_keeps_limits image rest i bytes read) (subst (λ (x : List ℕ). length x ≤ most_image) is short))
