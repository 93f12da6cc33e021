-- What each call does to a shelf in memory.
use Rattle.std.specs.Prelude.{◌≡◌, ℕ, Bool, List, drop, length, min, IfOk, Result, is_err}
use Rattle.clr_io.specs.declared.fault.Failed.{Failed}
use Rattle.clr_io.specs.declared.memory.shelf.MemoryShelf.{MemoryShelf}
use Rattle.clr_io.specs.Calls.{IsCounted, IsFresh, fails_next}
use Rattle.clr_io.specs.Memory.{opened}

-- No call yet. It gives at most so many bytes at a time, and fails at these calls.
pub record IsNewShelf (shelf : MemoryShelf) (size : ℕ) (listed : List ℕ) : Type 0 where
  pub calls : IsFresh shelf.calls listed
  pub piece : shelf.piece ≡ size

-- `open` counts as a call, and fails at the listed calls alone.
pub record IsOpened (old new : MemoryShelf) (result : Result Bool Failed) : Type 0 where
  pub calls : IsCounted old.calls new.calls result
  pub fails : is_err result ≡ fails_next old.calls
  pub piece : new.piece ≡ old.piece

-- `read` counts as a call, and fails at the listed calls alone. It gives as much as it may.
pub record IsRead (old new : MemoryShelf) (buf : List ℕ) (result : Result ℕ Failed) : Type 0 where
  pub calls : IsCounted old.calls new.calls result
  pub fails : is_err result ≡ fails_next old.calls
  pub count : IfOk result (λ n. n ≡ min (min old.piece (length buf)) (length (drop old.at (opened old.files.items old.open_file))))
  pub piece : new.piece ≡ old.piece
