-- How long the image will be.
use Rattle.std.specs.Prelude.{ℕ, ◌≤◌, ◌*◌, ◌≡◌, List, length}
use Rattle.model.specs.Writing.{words_bytes}
use Rattle.text_reader.specs.Found.{found}
use Rattle.text_reader.specs.Writing.{head_from}

pub record WordsLong (text spans : List ℕ) (n r : ℕ) : Type 0 where
  pub is : r ≡ length (words_bytes (found text spans n))
  pub few : r ≤ n * 33

pub record HeadLong (text spans : List ℕ) (n r : ℕ) : Type 0 where
  pub is : r ≡ length (head_from (found text spans n))
  pub few : r ≤ 33669
