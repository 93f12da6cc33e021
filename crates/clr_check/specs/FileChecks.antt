-- What is said of the certificate of a file.
use Rattle.std.specs.Prelude.{◌≡◌, ℕ, Bool, true, false, ◌++◌, List, [], ◌∷◌, IfSome, IsSomeAnd, Option, Some, Result, Ok, Err}
use Rattle.clr_io.specs.Files.{Files, held}
use Rattle.clr_season.specs.Season.{Season}
use Rattle.clr_cert.specs.Accepts.{claims_of}
use Rattle.clr_cert.specs.declared.claims.Claims.{Claims}
use Rattle.clr_check.specs.declared.rest.Rest.{Rest}
use Rattle.clr_check.specs.declared.rest.Rest.TheVariants.{Nothing, Few, Many}
use Rattle.clr_check.specs.declared.file.CheckError.{CheckError}
use Rattle.clr_check.specs.declared.file.CheckError.TheVariants.{Failed, Absent, TooLong, No, Memory}
use Rattle.clr_check.specs.Laws.{ClaimsHold}
use Rattle.clr_check.specs.Standing.{IsClaimOf, IsLine, IsRest, Kept, Stands, ended_text}

-- the file was read to its end: the certificate is accepted, or it has a fault
abbrev pub IsJudged : Result Claims CheckError → Type 0
IsJudged (Ok claims) = Unit {0}
IsJudged (Err (No refusal)) = Unit {0}
IsJudged (Err Failed) = ⊥
IsJudged (Err Absent) = ⊥
IsJudged (Err (TooLong max)) = ⊥
IsJudged (Err Memory) = ⊥

-- The bytes are accepted, these are their claims, and the claims hold.
pub record IsProved (season : Season) (bytes : List ℕ) (claims : Claims) : Type 0 where
  pub claimed : IsClaimOf season bytes claims
  pub holds : ClaimsHold season bytes (claims_of claims)

-- The checker stands for the lines that it was fed before and for more. These, each ended by a line feed, and the bytes to come now are the
-- bytes to come before, where the shelf tells them.
pub record IsFed (season : Season) (fed : List (List ℕ)) (held : List ℕ) (rest : Option (List ℕ)) (checker : Kept) (held' : List ℕ) (rest' : Option (List ℕ)) : Type 0 where
  pub more : List (List ℕ)
  pub stands : Stands season (fed ++ more) checker
  pub is : IfSome rest (λ behind. IsSomeAnd rest' (λ behind'. held ++ behind ≡ ended_text more ++ (held' ++ behind')))

-- The same of all bytes to come: no line feed stands behind the lines.
pub record IsFedWhole (season : Season) (fed : List (List ℕ)) (held : List ℕ) (rest : Option (List ℕ)) (checker : Kept) (kind : Rest) : Type 0 where
  pub more : List (List ℕ)
  pub last : List ℕ
  pub stands : Stands season (fed ++ more) checker
  pub line : IsLine last
  pub ends : IsRest kind last
  pub is : IfSome rest (λ behind. held ++ behind ≡ ended_text more ++ last)

-- The same of all bytes of a file.
pub record IsFedFile (season : Season) (files : Option Files) (name : List ℕ) (checker : Kept) (kind : Rest) : Type 0 where
  pub more : List (List ℕ)
  pub last : List ℕ
  pub stands : Stands season more checker
  pub line : IsLine last
  pub ends : IsRest kind last
  pub is : IfSome files (λ all. held name all ≡ Some (ended_text more ++ last))

-- reading found nothing but its end, a fault of the shelf, or too many bytes
abbrev pub IsOfReading : Result Rest CheckError → Type 0
IsOfReading (Ok rest) = Unit {0}
IsOfReading (Err Failed) = Unit {0}
IsOfReading (Err (TooLong max)) = max ≡ 268435456
IsOfReading (Err Absent) = ⊥
IsOfReading (Err (No refusal)) = ⊥
IsOfReading (Err Memory) = ⊥

-- a file was read to its end, or there is none, or the shelf failed, or there were too many bytes
abbrev pub IsOfFile : Result Rest CheckError → Type 0
IsOfFile (Ok rest) = Unit {0}
IsOfFile (Err Failed) = Unit {0}
IsOfFile (Err Absent) = Unit {0}
IsOfFile (Err (TooLong max)) = max ≡ 268435456
IsOfFile (Err (No refusal)) = ⊥
IsOfFile (Err Memory) = ⊥

-- what stands behind the last line feed: too many bytes, or these
abbrev pub rest_by : List ℕ → Bool → Rest
rest_by bytes true = Many
rest_by [] false = Nothing
rest_by (byte ∷ bytes) false = Few
