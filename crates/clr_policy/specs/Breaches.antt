-- The first rule that a written branch breaks.
use Rattle.std.specs.Prelude.{◌≡◌, ℕ, ◌+◌, min, List, [], ◌∷◌, ◌++◌, length, map, take, Option, Some, None, Result, Ok, Err}
use Rattle.std.specs.Option.{option_map_or}
use Rattle.clr_num.specs.Lists.{numbers}
use Rattle.clr_rules.specs.Rules.{Rulebook, HasSummary, first_broken}
use Rattle.clr_rules.specs.declared.season_rules.Summary.{Summary}
use Rattle.clr_rules.specs.declared.season_rules.Rule.{Rule}
use Rattle.clr_policy.specs.PolicyFile.{branch_after, most_branches}
use Rattle.clr_policy.specs.declared.branches.Breach.{Breach}

-- what is found at the first number of a list at which something is found
abbrev pub first_found : {X : Type 0} → (ℕ → Option X) → List ℕ → Option X
first_found find [] = None
first_found find (n ∷ ns) = option_map_or (λ x. Some x) (find n) (first_found find ns)

-- The rule that a list of rungs breaks in the first week that breaks one: the first rule, in the order in which they are listed, that the
-- rungs up to this week break.
abbrev pub breach : Rulebook → List ℕ → Option Rule
breach rules path = first_found (λ week. first_broken rules (take week path)) (numbers 1 (length path))

-- the first branch that breaks a rule, after so many that ended, and the rule that its first such week breaks
abbrev pub first_breach : Rulebook → ℕ → List (List ℕ) → Option Breach
first_breach rules ended [] = None
first_breach rules ended (path ∷ paths) = option_map_or (λ rule. Some (record { branch = branch_after ended; rule = rule })) (breach rules path) (first_breach rules (ended + 1) paths)

-- ---- a walk over the branches

-- a week more after a prefix: the rungs still keep the rules, or break one
abbrev pub Goes : Rulebook → ℕ → List ℕ → Result Summary Rule → Type 0
Goes rules done path (Ok s) = HasSummary rules done s path
Goes rules done path (Err rule) = first_broken rules path ≡ Some rule

-- The walk over these branches after so many that ended: it finds how many have ended then, held, or the first that breaks a rule.
abbrev pub Finds : Rulebook → ℕ → List (List ℕ) → Result ℕ Breach → Type 0
Finds rules ended paths (Ok now) = (first_breach rules ended paths ≡ None) × (now ≡ min (ended + length paths) most_branches)
Finds rules ended paths (Err found) = first_breach rules ended paths ≡ Some found

-- the branches of a part, behind the rungs that stand above it
abbrev pub behind : List ℕ → List (List ℕ) → List (List ℕ)
behind prefix paths = map (λ rest. prefix ++ rest) paths
