-- The law of the round trip for the two jobs: an image printed, and its text read again.
use mathlib.Core.Path.{◌≡◌, sym, ap, ◌∙◌, subst}
use Prim.Native.Nat.{ℕ, ◌≤◌}
use mathlib.Core.List.{List, []}
use lib.ListN.{length}
use Rattle.model.specs.Limits.{most_image}
use Rattle.model.specs.Objects.{Stx}
use Rattle.model.specs.Reading.{got, Image, read_image, read_syntax}
use Rattle.model.specs.Writing.{syntax_bytes}
use borrow.Author.Tests.{le-leb}
use Rattle.codec_laws.specs.WellFormed.{Bytes}
use Rattle.codec_laws.proofs.ImageLaws.{syntax_read_keeps_limits}
use Rattle.requests.specs.FromText.{made, read_text}
use Rattle.requests.specs.ToText.{written, print_text}
use Rattle.requests.specs.TextJobs.{fitted, image_in, read_ending, text_in, print_ending}
use Rattle.text_laws.specs.Single.{single}
use Rattle.text_laws.proofs.PrintRead.{anew, print_then_read}
use Rattle.text_laws.proofs.ReadFits.{text_read_accepted}
use Rattle.text_laws.proofs.ReadPrint.{read_then_print}

-- an image's bytes
abbrev pub bytes_of : Image Stx → List ℕ
bytes_of i = syntax_bytes i.head i.binds i.root

fits_in : (room : ℕ) (b : List ℕ) → length b ≤ room → length b ≤ most_image → fitted room b ≡ made b
unfolding fitted
fits_in room b p q = rw (le-leb (length b) room p, le-leb (length b) most_image q)

pub read_ending_lem : (text : List ℕ) (i : Image Stx) (room : ℕ) → read_text text ≡ made i → length (bytes_of i) ≤ room → length (bytes_of i) ≤ most_image
    → read_ending text room ≡ made (bytes_of i)
unfolding read_ending image_in
read_ending_lem text i room e p q = rw e (fits_in room (bytes_of i) p q)

pub print_ending_lem : (image rest : List ℕ) (i : Image Stx) (room : ℕ) → read_image read_syntax image ≡ got i rest
    → length (print_text i) ≤ room → length (print_text i) ≤ most_image → print_ending image room ≡ made (print_text i)
unfolding print_ending text_in
print_ending_lem image rest i room e p q = rw e (fits_in room (print_text i) p q)

-- What the printer writes, the reader takes back to an image of the same objects without their scopes, symbols compared by spelling,
-- given enough output and a new image within 65,536 bytes.
pub record RoundTrip (image : List ℕ) (i : Image Stx) (room room' : ℕ) : Type 0 where
  pub printed : print_ending image room ≡ made (print_text i)
  pub taken_back : read_ending (print_text i) room' ≡ made (bytes_of (anew (written i)))
  pub accepted : read_image read_syntax (bytes_of (anew (written i))) ≡ got (anew (written i)) []
  pub same-objects : written (anew (written i)) ≡ written i

pub round_trip : (image rest : List ℕ) (i : Image Stx) (room room' : ℕ) → Bytes image → read_image read_syntax image ≡ got i rest
    → length (print_text i) ≤ room → length (print_text i) ≤ most_image
    → length (bytes_of (anew (written i))) ≤ room' → length (bytes_of (anew (written i))) ≤ most_image → RoundTrip image i room room'
round_trip image rest i room room' b e p q p' q' =
    let t = print_then_read i (syntax_read_keeps_limits image rest i b e) in
    record {
      printed = print_ending_lem image rest i room e p q;
      taken_back = read_ending_lem (print_text i) (anew (written i)) room' t.0 p' q';
      accepted = text_read_accepted (print_text i) (anew (written i)) t.0 q';
      same-objects = t.1;
    }

-- A text read and printed is itself with single spaces and no comments, and that is read to the same image.
pub text_trip : (text : List ℕ) (i : Image Stx) (room room' : ℕ) → read_text text ≡ made i
    → length (bytes_of i) ≤ room → length (bytes_of i) ≤ most_image → length (single text) ≤ room' → length (single text) ≤ most_image
    → (read_ending text room ≡ made (bytes_of i)) × (print_ending (bytes_of i) room' ≡ made (single text))
    × (read_ending (single text) room ≡ made (bytes_of i))
text_trip text i room room' e p q p' q' =
    let t = read_then_print text i e in (
      read_ending_lem text i room e p q,
      print_ending_lem (bytes_of i) [] i room' (text_read_accepted text i e q)
          (subst (λ (z : List ℕ). length z ≤ room') (sym t.0) p') (subst (λ (z : List ℕ). length z ≤ most_image) (sym t.0) q')
          ∙ ap (λ (z : List ℕ). made z) t.0,
      read_ending_lem (single text) i room t.1 p q,
    )
