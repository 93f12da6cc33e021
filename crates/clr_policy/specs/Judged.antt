-- What is answered of a policy: its value, or what stands against it.
use Rattle.std.specs.Prelude.{◌≡◌, ℕ, ◌+◌, ◌*◌, min, nat_lt, if◌then◌else◌, ℤ, List, [], ◌∷◌, None, Result, Ok, Err}
use Rattle.std.specs.Option.{option_map_or}
use Rattle.clr_stock.specs.Stock.{Store}
use Rattle.clr_season.specs.Season.{Season, IsSeason}
use Rattle.clr_model.specs.JointWeek.{joint_base}
use Rattle.clr_model.specs.Fits.{most_joint_base}
use Rattle.clr_policy.specs.Written.{Written, branches, object_count, most_objects, IsPolicy}
use Rattle.clr_policy.specs.Breaches.{first_breach}
use Rattle.clr_policy.specs.Unrolled.{policy_value, IsValued}
use Rattle.clr_policy.specs.declared.branches.Breach.{Breach}
use Rattle.clr_policy.specs.declared.judged.JudgeError.{JudgeError}
use Rattle.clr_policy.specs.declared.judged.JudgeError.TheVariants.{Rule, Base, Size, Memory}

-- The lists of stocks, each times the demands that stocks tell apart: for each store those below its stock, and all others as one.
abbrev pub stock_demands : ℕ → List Store → ℕ
stock_demands top [] = 1
stock_demands top (store ∷ stores) = (store.units + 1) * (min top store.units + 1) * stock_demands top stores

-- the size of a policy: so many for each rung and test, held at 10^18
abbrev pub policy_size : Season → Written → ℕ
policy_size season policy = min (object_count policy * stock_demands season.top season.stores) most_objects

abbrev pub most_policy_size : ℕ
most_policy_size = 100000000

-- a branch that breaks a rule, too many joint demands to divide by their base, or a policy of too great a size
pub data Objection : Type 0 where
  breaks_rule : Breach → Objection
  no_base : Objection
  too_large : ℕ → Objection

-- the value, unless the base or the size stands against it
abbrev pub within_limits : (ℤ → ℕ → ℤ) → Season → Written → Result ℤ Objection
within_limits div season policy =
    if nat_lt most_joint_base (joint_base season) then Err no_base else (
    if nat_lt most_policy_size (policy_size season policy) then Err (too_large (policy_size season policy)) else
    Ok (policy_value div season policy))

-- the same behind the first branch that breaks a rule
abbrev pub judgement : (ℤ → ℕ → ℤ) → Season → Written → Result ℤ Objection
judgement div season policy = option_map_or (λ breach. Err (breaks_rule breach)) (first_breach season.rules 0 (branches policy)) (within_limits div season policy)

-- What was answered is what is given, unless memory was wanting.
abbrev pub Answers : Result ℤ JudgeError → Result ℤ Objection → Type 0
Answers (Ok value) given = given ≡ Ok value
Answers (Err (Rule branch rule)) given = given ≡ Err (breaks_rule (record { branch = branch; rule = rule }))
Answers (Err Base) given = given ≡ Err no_base
Answers (Err (Size found)) given = given ≡ Err (too_large found)
Answers (Err Memory) given = Unit {0}

-- A policy of a season that breaks no rule on any branch is valued by its two values.
abbrev pub PoliciesValued : Type 0
PoliciesValued = (season : Season) (policy : Written) → IsSeason season → IsPolicy season policy → first_breach season.rules 0 (branches policy) ≡ None → IsValued season policy
