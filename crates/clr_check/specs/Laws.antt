-- What an accepted certificate proves of its numbers.
use Rattle.std.specs.Prelude.{◌≡◌, ◌↔◌, ℕ, ℤ, false, IsTrue, List, Some, None}
use Rattle.clr_rules.specs.Rules.{obeys}
use Rattle.clr_season.specs.Season.{Season, IsSeason}
use Rattle.clr_model.specs.Expected.{Encloses, Tops}
use Rattle.clr_model.specs.Fits.{fits}
use Rattle.clr_model.specs.Policies.{Abides, const_tree}
use Rattle.clr_cert.specs.Accepts.{Accepts, CertClaims, cert_claims, cert_tree, first_no}

-- No policy that abides earns more than the upper number. The policy of the certificate's own rungs abides, and what it earns lies
-- between the two.
pub record ExactHolds (season : Season) (bytes : List ℕ) (low top : ℤ) : Type 0 where
  pub tops : Tops season top
  pub abides : Abides season (cert_tree season bytes)
  pub encloses : Encloses season low top (cert_tree season bytes)

-- The path obeys, and what it earns lies between the two numbers. No policy that abides earns more than the bound. Where the season fits,
-- the two numbers of all stores together hold too.
pub record ClaimsHold (season : Season) (bytes : List ℕ) (claims : CertClaims) : Type 0 where
  pub path : IsTrue (obeys season.rules claims.path)
  pub encloses : Encloses season claims.low claims.high (const_tree claims.path)
  pub tops : Tops season claims.bound
  pub exact : IsTrue (fits season) → (numbers : ℤ × ℤ) × (claims.exact ≡ Some numbers) × ExactHolds season bytes numbers.0 numbers.1
  pub none : fits season ≡ false → claims.exact ≡ None

abbrev pub AcceptedClaimsHold : Type 0
AcceptedClaimsHold = (season : Season) (bytes : List ℕ) → IsSeason season → Accepts season bytes → ClaimsHold season bytes (cert_claims season bytes)

abbrev pub AcceptedOrRefused : Type 0
AcceptedOrRefused = (season : Season) (bytes : List ℕ) → (first_no season bytes ≡ None) ↔ Accepts season bytes
