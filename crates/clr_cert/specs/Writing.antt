-- What is left on a desk where a text is written to a new file.
use Rattle.std.specs.Prelude.{◌≡◌, ℕ, List, [], ◌∷◌, ◌++◌, take, Option, option_map, ◌⊎◌}
use Rattle.std.specs.Io.KnownBytes.{Appends}
use Rattle.clr_io.specs.Files.{Files}

-- the files that were made, and one more
abbrev pub with_file : Option Files → List ℕ → List ℕ → Option Files
with_file made name bytes = option_map (λ files. files ++ (name, bytes) ∷ []) made

-- no file more, or one more with a front of the text, perhaps all or none of it
abbrev pub AddsFront : Option Files → Option Files → List ℕ → List ℕ → Type 0
AddsFront before now name text = (now ≡ before) ⊎ ((count : ℕ) × (now ≡ with_file before name (take count text)))

-- Of a text behind waiting bytes a front was written, and the rest waits.
pub record IsSent (before now : Option (List ℕ)) (waiting text rest : List ℕ) : Type 0 where
  pub sent : List ℕ
  pub whole : sent ++ rest ≡ waiting ++ text
  pub written : Appends before now sent

-- some front of the text was written
abbrev pub WritesFront : Option (List ℕ) → Option (List ℕ) → List ℕ → Type 0
WritesFront before now text = (count : ℕ) × Appends before now (take count text)
