-- The numbers and the path of a season's plan.
use Rattle.std.proofs.Common.{◌≡◌, ◌∙◌, ℕ, ◌-◌, ◌^◌, ℤ, List, arith}
use Rattle.std.proofs.lemmas.Int.{to_z-of_z}
use Rattle.std.specs.Prelude.{IsTrue}
use mir.Syntax.{w128}
use Rattle.clr_average.specs.Average.{IsWithin}
use Rattle.clr_average.proofs.Reading.{read, within_128}
use Rattle.clr_average.proofs.Within.{within_more}
use Rattle.clr_rules.specs.Rules.{IsPath, Rulebook, obeys}
use Rattle.clr_rules.proofs.LiveLemmas.{obeys-are_rungs, obeys-length}

-- an amount that was passed on
pub passed_on : (told amount : ℤ) → IsWithin 100000000000000000000 amount → told ≡ read w128 amount → told ≡ amount
passed_on told amount size is = is ∙ to_z-of_z w128 amount (within_128 amount (within_more 100000000000000000000 (2 ^ 127 - 1) amount size (omega arith)))

-- a path that obeys has a rung of the ladder for each week
pub path_obeying : (rules : Rulebook) (path : List ℕ) → IsTrue (obeys rules path) → IsPath rules path
path_obeying rules path obeying = record { weeks = obeys-length rules path obeying; rungs = obeys-are_rungs rules path obeying }
