-- Request T-11, from image bytes to image bytes, for every well-formed image: the smaller one is what it is promised to be.
use mathlib.Core.Path.{◌≡◌, refl, sym, ap, ◌∙◌, subst}
use Prim.Native.Nat.{ℕ, ◌≤◌}
use mathlib.Core.Bool.{Bool, true, false, ◌&&◌}
use mathlib.Core.List.{List}
use lib.Dec.{leb}
use lib.ListN.{length}
use Rattle.model.specs.Choice.{when◌then◌else◌}
use Rattle.model.specs.Limits.{most_image}
use Rattle.model.specs.Refusals.{too_long}
use Rattle.model.specs.Objects.{Stx}
use Rattle.model.specs.Competing.{no_rivals}
use Rattle.model.specs.Reading.{Read, got, Image, read_syntax, read_image}
use Rattle.model.specs.Jobs.{refused, written, with_image, fitted}
use Rattle.codec_laws.specs.WellFormed.{Bytes}
use Rattle.addresses.proofs.Faults.{of_layout, of_limit, of_kind, Reads, reads, faults, image-reads}
use Rattle.addresses.proofs.Endings.{with_read, fitted-is}
use Rattle.shrinking.specs.Shrunk.{shrunk, bytes_of, smaller, shrink_ending}
use Rattle.shrinking.specs.Finished.{ShrinkEnds, with_smaller, with_1, with_2, with_4, with_20, Finished}
use Rattle.shrinking.proofs.Readable.{shrunk-bytes, smaller-reads}
use Rattle.shrinking.proofs.Parses.{smaller_parses_alike}
use Rattle.shrinking.proofs.Twice.{smaller-twice}
use Rattle.shrinking.proofs.Shorter.{never_longer, smaller-within}

shrink_writes : (image rest : List ℕ) (i : Image Stx) → read_image read_syntax image ≡ got i rest → (room : ℕ) → length (smaller image) ≤ room
    → length (smaller image) ≤ most_image → shrink_ending image room ≡ written (smaller image) 0
unfolding shrink_ending
shrink_writes image rest i read room h k =
    let is : smaller image ≡ bytes_of (shrunk i) = shrunk-bytes image rest i read in
    with_read (read_image read_syntax image) (λ j. fitted room (bytes_of (shrunk j)) 0) i rest read
    ∙ ap (λ (b : List ℕ). fitted room b 0) (sym is) ∙ fitted-is room (smaller image) 0 h k

pub smaller_finished : (image rest : List ℕ) (i : Image Stx) → Bytes image → read_image read_syntax image ≡ got i rest → Finished image i
smaller_finished image rest i bytes read =
    let short = smaller-within image rest i bytes read in
    record {
      reads = smaller-reads image rest i bytes read short;
      no_longer = never_longer image rest i bytes read;
      writes = λ room h. shrink_writes image rest i read room h short;
      twice = smaller-twice image rest i bytes read short;
      parses = smaller_parses_alike image rest i bytes read short;
    }

-- ---- of any bytes

pub shrink_answers : (image : List ℕ) (room : ℕ) → ShrinkEnds image (shrink_ending image room)
unfolding shrink_ending with_image fitted
shrink_answers image room = go (read_image read_syntax image) refl (image-reads image)
  where
    sized : (b : List ℕ) → smaller image ≡ b → (t : Bool) → ShrinkEnds image (when t then written b 0 else refused too_long no_rivals 0)
    sized b e true = subst (λ (z : List ℕ). ShrinkEnds image (written z 0)) e with_smaller
    sized b e false = with_20

    go : (o : Read (Image Stx)) → read_image read_syntax image ≡ o → Reads (Image Stx) o
        → ShrinkEnds image (with_image o (λ i. fitted room (bytes_of (shrunk i)) 0))
    go o q (reads i rest) =
        let b = bytes_of (shrunk i) in
        sized b (shrunk-bytes image rest i q) (leb (length b) room && leb (length b) most_image)
    go o q (faults r of_layout) = with_1
    go o q (faults r of_limit) = with_2
    go o q (faults r of_kind) = with_4
