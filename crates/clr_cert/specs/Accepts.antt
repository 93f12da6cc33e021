-- Which certificates are accepted, what they claim, and the first fault of any other.
use Rattle.std.specs.Prelude.{◌≡◌, ℕ, ◌+◌, not, nat_lt, IsTrue, if◌then◌else◌, List, [], ◌∷◌, length, get_or, slice_get, Option, Some, None, option_map, find, ℤ, pos}
use Rattle.std.specs.List.{AllByRecursion}
use Rattle.std.specs.Option.{option_or}
use Rattle.clr_num.specs.Lists.{numbers}
use Rattle.clr_season.specs.Season.{Season}
use Rattle.clr_model.specs.Fits.{fits}
use Rattle.clr_model.specs.JointValue.{season_tree}
use Rattle.clr_model.specs.Policies.{Tree}
use Rattle.clr_rules.specs.Rules.{summary}
use Rattle.clr_cert.specs.declared.claims.Claims.{Claims}
use Rattle.clr_cert.specs.declared.place.Place.{Place}
use Rattle.clr_cert.specs.declared.place.Place.TheVariants.{Revenue, Bound, Exact}
use Rattle.clr_cert.specs.declared.no.No.{No}
use Rattle.clr_cert.specs.declared.no.NoKind.{NoKind}
use Rattle.clr_cert.specs.declared.no.NoKind.TheVariants.{Form, Range, Short, Extra}
use Rattle.clr_cert.specs.Conditions.{Condition, conditions, path_of}
use Rattle.clr_cert.specs.Places.{places}
use Rattle.clr_cert.specs.Reading.{are_in_range, ended_lines, entries_in, line_numbers, most_line, told, unended}

-- ---- accepted certificates

-- Among these lines, that of a place: it has the place's form, its numbers lie in their ranges, and the place's conditions hold.
pub record IsAccepted (season : Season) (lines : List (List ℕ)) (place : Place) (line : List ℕ) : Type 0 where
  pub numbers : List ℤ
  pub form : line_numbers season place line ≡ Some numbers
  pub range : IsTrue (are_in_range season place numbers)
  pub conditions : AllByRecursion (λ condition. IsTrue condition.holds) (conditions season (entries_in season lines) numbers place)

-- The bytes are as many lines as the season's certificate has places, each ended by a line feed, and each is accepted at its place.
pub record Accepts (season : Season) (bytes : List ℕ) : Type 0 where
  pub ended : unended bytes ≡ []
  pub count : length (ended_lines bytes) ≡ length (places season)
  pub each : (row : ℕ) (place : Place) → slice_get (places season) row ≡ Some place → IsAccepted season (ended_lines bytes) place (get_or (ended_lines bytes) row [])

-- ---- what they claim

-- a path, the two numbers of its revenue, a bound and, where the season fits, the two numbers of all stores together
pub record CertClaims : Type 0 where
  pub path : List ℕ
  pub low : ℤ
  pub high : ℤ
  pub bound : ℤ
  pub exact : Option (ℤ × ℤ)

-- what claims are seen as
abbrev pub claims_of : Claims → CertClaims
claims_of claims = record { path = claims.path; low = claims.low; high = claims.high; bound = claims.bound; exact = claims.exact }

abbrev pub claims_in : Season → List (List ℕ) → CertClaims
claims_in season lines = record {
  path = path_of season (entries_in season lines);
  low = told season lines Revenue 0;
  high = told season lines Revenue 1;
  bound = told season lines Bound 0;
  exact = if fits season then Some (told season lines Exact 0, told season lines Exact 1) else None;
}

abbrev pub cert_claims : Season → List ℕ → CertClaims
cert_claims season bytes = claims_in season (ended_lines bytes)

-- the policy that takes the rung of the certificate's own line for the summary of the weeks before and the stocks left
abbrev pub cert_tree : Season → List ℕ → Tree
cert_tree season bytes = season_tree season (λ prefix stocks. ((entries_in season (ended_lines bytes)).joint (length prefix) (summary season.rules prefix) stocks).0)

-- ---- the first fault

-- a fault without numbers, of a line counted from 0
abbrev pub plain_no : ℕ → NoKind → No
plain_no row kind = record { row = row + 1; kind = kind; left = pos 0; right = pos 0 }

-- the first of some conditions that fails
abbrev pub failing : ℕ → List Condition → Option No
failing row list = option_map (λ condition. record { row = row + 1; kind = condition.kind; left = condition.left; right = condition.right }) (find (λ condition. not condition.holds) list)

-- of a line with these numbers: its ranges, then its conditions
abbrev pub numbers_no : Season → List (List ℕ) → ℕ → Place → Option (List ℤ) → Option No
numbers_no season lines row place None = Some (plain_no row Form)
numbers_no season lines row place (Some numbers) =
    if are_in_range season place numbers then failing row (conditions season (entries_in season lines) numbers place) else Some (plain_no row Range)

-- of a line at this place
abbrev pub place_no : Season → List (List ℕ) → ℕ → Option Place → Option No
place_no season lines row None = Some (plain_no row Extra)
place_no season lines row (Some place) = numbers_no season lines row place (line_numbers season place (get_or lines row []))

-- The fault of one of the lines, counted from 0: where all places have had theirs, its form, its ranges, its conditions.
unfoldable pub line_no : Season → List (List ℕ) → ℕ → Option No
line_no season lines row = place_no season lines row (slice_get (places season) row)

-- the first answer among those of some items
abbrev pub first_some : {X Y : Type 0} → (X → Option Y) → List X → Option Y
first_some f [] = None
first_some f (x ∷ xs) = option_or (f x) (first_some f xs)

-- the fault of the first of the lines that has one
abbrev pub lines_no : Season → List (List ℕ) → Option No
lines_no season lines = first_some (line_no season lines) (numbers 0 (length lines))

-- what is wrong with bytes that no line feed ends, after so many lines
abbrev pub unended_kind : Season → ℕ → List ℕ → NoKind
unended_kind season count bytes = if nat_lt count (length (places season)) then (if nat_lt most_line (length bytes) then Form else Short) else Extra

-- the fault at the end, after so many lines without a fault
abbrev pub end_no : Season → ℕ → List ℕ → Option No
end_no season count [] = if nat_lt count (length (places season)) then Some (plain_no count Short) else None
end_no season count (byte ∷ bytes) = Some (plain_no count (unended_kind season count (byte ∷ bytes)))

-- the first fault of a certificate
unfoldable pub first_no : Season → List ℕ → Option No
first_no season bytes = option_or (lines_no season (ended_lines bytes)) (end_no season (length (ended_lines bytes)) (unended bytes))
