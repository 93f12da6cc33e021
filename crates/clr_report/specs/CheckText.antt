-- The check report: the sizes, that the certificate is accepted, and what it claims: its path with the prices and the revenue, its bound, and
-- its two numbers of all stores together.
use Rattle.std.specs.Prelude.{ℕ, List, [], ◌∷◌, ◌++◌, map, Option, None, Some, ℤ, codes}
use Rattle.clr_num.specs.Money.{money_text}
use Rattle.clr_rules.specs.Rules.{price}
use Rattle.clr_season.specs.Season.{Season}
use Rattle.clr_cert.specs.Accepts.{CertClaims}
use Rattle.clr_report.specs.Lines.{line}
use Rattle.clr_report.specs.PlanText.{path_line, prices_line, revenue_line, season_line, sizes_of}

-- the certificate is accepted
abbrev pub accepted_line : List ℕ
accepted_line = line (codes "certificate" ∷ codes "yes" ∷ [])

-- the bound over all policies, in units
abbrev pub claimed_bound_line : ℤ → List ℕ
claimed_bound_line bound = line (codes "bound" ∷ money_text bound ∷ [])

-- the two numbers of all stores together, in units; no line where there are none
abbrev pub claimed_exact_line : Option (ℤ × ℤ) → List ℕ
claimed_exact_line None = []
claimed_exact_line (Some (low, top)) = line (codes "exact" ∷ money_text low ∷ money_text top ∷ [])

-- the report on the claims of an accepted certificate
unfoldable pub check_text : Season → CertClaims → List ℕ
check_text season claims =
    season_line (sizes_of season)
    ++ accepted_line
    ++ path_line claims.path
    ++ prices_line (map (price season.rules) claims.path)
    ++ revenue_line claims.low claims.high
    ++ claimed_bound_line claims.bound
    ++ claimed_exact_line claims.exact
