-- What a plan writes is accepted, and claims the plan's numbers.
use Rattle.std.specs.Prelude.{◌≡◌, ℕ, IsTrue, if◌then◌else◌, List, Some, None}
use Rattle.clr_rules.specs.Rules.{obeys}
use Rattle.clr_season.specs.Season.{Season, IsSeason}
use Rattle.clr_model.specs.Fits.{fits}
use Rattle.clr_model.specs.JointValue.{joint_low, joint_top}
use Rattle.clr_model.specs.PathValue.{path_high, path_low}
use Rattle.clr_model.specs.StoreValue.{Multipliers, SumToZero, bound}
use Rattle.clr_cert.specs.Accepts.{Accepts, CertClaims, cert_claims}
use Rattle.clr_cert.specs.Entries.{AreInRange, CertEntries}
use Rattle.clr_cert.specs.Lines.{cert_text}
use Rattle.clr_cert.specs.Planned.{AreEntriesOf}

-- the numbers of a plan: a path and its two values, the bound of multipliers and, where the season fits, the two values of all stores together
abbrev pub plan_claims : Season → List ℕ → Multipliers → CertClaims
plan_claims season path m = record {
  path = path;
  low = path_low season path;
  high = path_high season path;
  bound = bound m season;
  exact = if fits season then Some (joint_low season, joint_top season) else None;
}

-- bytes are accepted, and their claims are these
pub record AreAcceptedWith (season : Season) (bytes : List ℕ) (claims : CertClaims) : Type 0 where
  pub accepted : Accepts season bytes
  pub claims_are : cert_claims season bytes ≡ claims

-- The path obeys, the multipliers sum to zero over the stores for each week and rung, and the entries are those of both and lie in their
-- ranges: then their certificate is accepted, and claims the plan's numbers.
abbrev pub PlannedIsAccepted : Type 0
PlannedIsAccepted =
    (season : Season) (path : List ℕ) (m : Multipliers) (entries : CertEntries) → IsSeason season → IsTrue (obeys season.rules path) → SumToZero season m →
    AreInRange season entries → AreEntriesOf season path m entries → AreAcceptedWith season (cert_text season entries) (plan_claims season path m)
