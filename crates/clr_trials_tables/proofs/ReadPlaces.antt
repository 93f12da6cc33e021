-- What a table has at a live summary.
use Rattle.std.proofs.Common.{◌≡◌, ℕ, ◌<◌, List, length, subst, subst₂, sym}
use Rattle.clr_rules.specs.declared.season_rules.Summary.{Summary}
use Rattle.clr_rules.specs.LiveSummaries.{IsAmong, live_pairs}
use Rattle.clr_rules.proofs.LiveLaw.{live_pairs_lem}
use Rattle.clr_season.specs.Season.{Season, IsSeason}
use Rattle.clr_model.specs.StoreValue.{AreStocks}
use Rattle.clr_joint.specs.Tables.{Entry, HasStocks, IsJointOf, choices_of, values_of}
use Rattle.clr_joint.proofs.ReadAt.{joint_reads_lem}

module _ (season : Season) (pairs : List (ℕ × Summary)) (table : List Entry) (done : ℕ) (s : Summary) (stocks : List ℕ) (is : IsSeason season) (pairs_are : pairs ≡ live_pairs season.rules) (of : IsJointOf season table) (among : IsAmong pairs done s) where
  pub has_values : AreStocks season stocks → HasStocks (values_of table done s) stocks
  has_values are =
      let (prefix, long, live, same) = (((live_pairs_lem season.rules is.rules).pairs done s).0 (subst (λ (ps : List (ℕ × Summary)). IsAmong ps done s) pairs_are among)).1 in
      subst₂ (λ n t. HasStocks (values_of table n t) stocks) long same (joint_reads_lem season table prefix stocks is of live are).has_values

  pub has_choices : done < season.rules.weeks → AreStocks season stocks → HasStocks (choices_of table done s) stocks
  has_choices early are =
      let (prefix, long, live, same) = (((live_pairs_lem season.rules is.rules).pairs done s).0 (subst (λ (ps : List (ℕ × Summary)). IsAmong ps done s) pairs_are among)).1 in
      subst₂ (λ n t. HasStocks (choices_of table n t) stocks) long same ((joint_reads_lem season table prefix stocks is of live are).has_choices (subst (λ n. n < season.rules.weeks) (sym long) early))
