-- What is known of a tree image that was opened.
use Rattle.std.specs.Prelude.{ℕ, ◌≤◌, ◌≡◌, List, [], length, drop, Result, Ok, Err}
use Rattle.model.specs.Trees.{Tree, tsize}
use Rattle.model.specs.Reading.{Image, symbols, got, fault, read_tree_image, read_image}
use Rattle.model.specs.Writing.{head_bytes, tree_image_bytes}
use Rattle.refusals.specs.Refusing.{refusal_of}
use Rattle.refusals.specs.declared.Refusal.{Refusal}
use Rattle.codec_laws.specs.WellFormed.{Bytes, HeadFits}
use Rattle.numbers.specs.Limits.{most_image}
use Rattle.places.specs.Standing.{At}
use Rattle.summaries.specs.declared.opening.Opened.{Opened}

pub record OpenedAt (image : List ℕ) (o : Opened) : Type 0 where
  pub read : Image Tree
  pub reads : read_image read_tree_image image ≡ got read []
  pub bytes : Bytes image
  pub short : length image ≤ most_image
  pub head-fits : HeadFits read.head
  pub written : image ≡ tree_image_bytes read.head read.root
  pub root_is : o.root ≡ length (head_bytes 2 read.head)
  pub root-within : o.root ≤ length image
  pub at : At o.counts (drop o.root image) read.root []
  pub counts-are : o.counts ≡ record { symbols = symbols read.head; names = read.head.names; scopes = read.head.scopes }
  pub names-are : o.counts.names ≡ read.head.names
  pub size_is : o.size ≡ tsize read.root
  pub size-to : o.size ≤ most_image

pub record Opens (image : List ℕ) (r : Result Opened Refusal) : Type 0 where
  pub tree : (o : Opened) → r ≡ Ok o → OpenedAt image o
  pub refused : (f : Refusal) → r ≡ Err f → read_image read_tree_image image ≡ fault (refusal_of f)
