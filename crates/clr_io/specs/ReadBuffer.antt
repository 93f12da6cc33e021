-- What a buffer of bytes that were read holds.
use Rattle.std.specs.Prelude.{◌≡◌, ℕ, List, ◌++◌, length, Option}
use Rattle.std.specs.Io.KnownBytes.{Consumes}

-- its room, the bytes that were given last, and those that were not yet given
pub record Buffered : Type 0 where
  pub room : ℕ
  pub given : List ℕ
  pub held : List ℕ

-- so many bytes more are held, which were taken from the bytes left
pub record TakesPiece (held held' : List ℕ) (rest rest' : Option (List ℕ)) (count : ℕ) : Type 0 where
  pub piece : List ℕ
  pub size : length piece ≡ count
  pub grows : held' ≡ held ++ piece
  pub consumes : Consumes rest rest' piece
