-- What an accepted certificate proves, and that it is refused where it isn't accepted.
use Rattle.std.proofs.Common.{ℕ, cond, ap, List, [], Some, None, IsTrue}
use Rattle.clr_rules.specs.Rules.{is_live}
use Rattle.clr_rules.proofs.LiveLemmas.{live_from}
use Rattle.clr_season.specs.Season.{Season, IsSeason}
use Rattle.clr_cert.specs.declared.place.Place.TheVariants.{Exact}
use Rattle.clr_cert.specs.Accepts.{Accepts}
use Rattle.clr_cert.specs.Conditions.{path_of}
use Rattle.clr_cert.specs.Reading.{ended_lines, entries_in, told}
use Rattle.clr_check.specs.Laws.{AcceptedClaimsHold}
use Rattle.clr_check.proofs.Paths.{path_encloses, path_obeys}
use Rattle.clr_check.proofs.Bounds.{bound_tops}
use Rattle.clr_check.proofs.Joints.{top_tops, tree_encloses, tree_reached}

some_obeys : (season : Season) (bytes : List ℕ) → IsSeason season → Accepts season bytes → IsTrue (is_live season.rules [])
some_obeys season bytes ok accepted = live_from season.rules [] (path_of season (entries_in season (ended_lines bytes))) (path_obeys season bytes ok accepted)

pub accepted_claims_hold_lem : AcceptedClaimsHold
accepted_claims_hold_lem season bytes ok accepted = record {
  path = path_obeys season bytes ok accepted;
  encloses = path_encloses season bytes ok accepted;
  tops = bound_tops season bytes ok accepted;
  exact = λ fit. (
    (told season (ended_lines bytes) Exact 0, told season (ended_lines bytes) Exact 1),
    ap (λ b. cond b (Some (told season (ended_lines bytes) Exact 0, told season (ended_lines bytes) Exact 1)) None) fit,
    record {
      tops = top_tops season bytes ok accepted fit;
      abides = (tree_reached season bytes ok accepted fit (some_obeys season bytes ok accepted)).abides;
      encloses = tree_encloses season bytes ok accepted fit (some_obeys season bytes ok accepted);
    },
  );
  none = λ unfit. ap (λ b. cond b (Some (told season (ended_lines bytes) Exact 0, told season (ended_lines bytes) Exact 1)) None) unfit;
}
