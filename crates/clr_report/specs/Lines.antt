-- Lines of text.
use Rattle.std.specs.Prelude.{◌≡◌, ◌≢◌, ℕ, ◌+◌, ◌-◌, ◌<◌, List, [], ◌∷◌, ◌++◌, length, slice_index}
use Rattle.std.specs.List.{flat_map, join_with_byte}

-- words with one space between each two
abbrev pub words_joined : List (List ℕ) → List ℕ
words_joined words = join_with_byte 32 words

-- a line: its words, and a line feed
abbrev pub line : List (List ℕ) → List ℕ
line words = words_joined words ++ 10 ∷ []

-- words that go on a line: each after a space
unfoldable pub spaced : List (List ℕ) → List ℕ
spaced words = flat_map (λ word. 32 ∷ word) words

-- a text is one line: it ends with a line feed, and holds none before
pub record IsLine (text : List ℕ) : Type 0 where
  pub ends : slice_index text (length text - 1) ≡ 10
  pub inside : (at : ℕ) → at + 1 < length text → slice_index text at ≢ 10
