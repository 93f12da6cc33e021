-- Files whose bytes stand one after another in one list.
use Rattle.std.specs.Prelude.{ℕ, Bool, true, List, [], ◌∷◌, ◌&&◌, length, nat_le, slice_range, string_bytes}
use Rattle.clr_io.specs.declared.memory.desk.Entry.{Entry}
use Rattle.clr_io.specs.Files.{Files}

-- where the next file begins, or all bytes end
abbrev pub start_of : List Entry → ℕ → ℕ
start_of [] end = end
start_of (entry ∷ entries) end = entry.start

-- each file begins no later than the next one, and the last no later than all bytes end
abbrev pub in_order : List Entry → ℕ → Bool
in_order [] end = true
in_order (entry ∷ entries) end = nat_le entry.start (start_of entries end) && in_order entries end

-- the files, each with the bytes from its start to the next one's
abbrev pub files_in : List Entry → List ℕ → Files
files_in [] bytes = []
files_in (entry ∷ entries) bytes = (string_bytes entry.name, slice_range bytes entry.start (start_of entries (length bytes))) ∷ files_in entries bytes
