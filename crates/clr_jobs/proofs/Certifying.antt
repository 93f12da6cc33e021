-- A certificate can be written from what a run holds, and it is the plan's.
use Rattle.std.proofs.Common.{◌≡◌, ◌∙◌, ℕ, zero, suc, ◌≤◌, ◌<◌, ℤ, pos, List, [], length, get_or, refl, sym, ap, subst, subst₂, arith, Some, None, Option, Contains}
use Rattle.std.specs.Prelude.{IsTrue}
use Rattle.clr_num.specs.Direction.{AtLeast, AtMost}
use Rattle.clr_num.specs.DirectionLaws.{ceil_is_direction, floor_is_direction}
use Rattle.clr_num.specs.Lists.{nth}
use Rattle.clr_num.specs.Rounding.{ceil, floor}
use Rattle.clr_rules.specs.declared.season_rules.Summary.{Summary}
use Rattle.clr_rules.specs.Rules.{IsPath, is_live, rung_at, summary}
use Rattle.clr_season.specs.Season.{IsSeason, Season}
use Rattle.clr_mult.specs.Tables.{Table, mult_at}
use Rattle.clr_model.specs.Fits.{fits}
use Rattle.clr_model.specs.StoreValue.{store_value_at}
use Rattle.clr_model.proofs.Ladders.{path_on_ladder}
use Rattle.clr_path.specs.Tables.{path_rows}
use Rattle.clr_storedp.specs.Tables.{AreOfSeason, AreSmall, AreTablesOf, values_of}
use Rattle.clr_storedp.specs.Tables.{Entry as StoreEntry}
use Rattle.clr_subgrad.specs.Run.{run_table}
use Rattle.clr_storedp.proofs.WeekRows.{small_of}
use Rattle.clr_joint.specs.Tables.{Entry, IsJointOf}
use Rattle.clr_cert.specs.Entries.{AreInRange, IsJointAnswer, IsJointCell, MayBeAsked, ask_high, ask_joint, ask_low, ask_mult, ask_rung, ask_value}
use Rattle.clr_cert.specs.Places.{all_stocks}
use Rattle.clr_words.specs.Asked.{Ask}
use Rattle.clr_cert.specs.Planned.{AreEntriesOf, joint_answer}
use Rattle.clr_jobs.specs.Held.{AreHeldOf, HasJoint, IfJoint, IsWhole, MayAsk, entries_of, joint_in}
use Rattle.clr_jobs.specs.Plans.{step_mult}
use Rattle.clr_jobs.specs.declared.entries.PlanEntries.{PlanEntries}
use Rattle.clr_jobs.proofs.Asking.{path-asked, path-ranged, path-told, store-asked, store-ranged, store-told}
use Rattle.clr_jobs.proofs.JointAsking.{joint-asked, joint-ranged, joint-told}

-- ---- where there is a table of all stores together

may-joint : (season : Season) (joint : Option (List Entry)) (weeks done : ℕ) (s : Summary) (stocks : List ℕ) → IsSeason season → IfJoint joint (IsJointOf season) → weeks ≡ season.rules.weeks → IsJointCell season done s stocks → IfJoint joint (λ table. HasJoint table weeks done s stocks)
may-joint season None weeks done s stocks facts is all cell = is
may-joint season (Some table) weeks done s stocks facts is all cell = subst (λ n. HasJoint table n done s stocks) (sym all) (joint-asked season table facts is done s stocks cell)

joint-answers : (season : Season) (joint : Option (List Entry)) (weeks done : ℕ) (s : Summary) (stocks : List ℕ) → IsSeason season → IfJoint joint (IsJointOf season) → weeks ≡ season.rules.weeks → IsJointCell season done s stocks →
    IsJointAnswer season done (joint_in joint weeks done s stocks)
joint-answers season None weeks done s stocks facts is all cell = absurd is
joint-answers season (Some table) weeks done s stocks facts is all cell = subst (λ n. IsJointAnswer season done (joint_in (Some table) n done s stocks)) (sym all) (joint-ranged season table facts is done s stocks cell)

joint-is : (season : Season) (joint : Option (List Entry)) (weeks : ℕ) (prefix stocks : List ℕ) → IsSeason season → IfJoint joint (IsJointOf season) → weeks ≡ season.rules.weeks → IsTrue (is_live season.rules prefix) → Contains (all_stocks season.stores) stocks →
    joint_in joint weeks (length prefix) (summary season.rules prefix) stocks ≡ joint_answer season prefix stocks
joint-is season None weeks prefix stocks facts is all live among = absurd is
joint-is season (Some table) weeks prefix stocks facts is all live among =
    subst (λ n. joint_in (Some table) n (length prefix) (summary season.rules prefix) stocks ≡ joint_answer season prefix stocks) (sym all) (joint-told season table facts is prefix stocks live among)

-- ---- all numbers

rung-ranged : (season : Season) (path : List ℕ) (week : ℕ) → ((k : ℕ) → k < length path → (1 ≤ get_or path k 1) × (get_or path k 1 ≤ length season.rules.prices)) → 1 ≤ week → week ≤ length path → (1 ≤ rung_at path week) × (rung_at path week ≤ length season.rules.prices)
rung-ranged season path zero on first last = absurd (omega arith)
rung-ranged season path (suc k) on first last = on k (omega arith)

module _ (season : Season) (ask : Ask) (step : ℕ) (held : PlanEntries) (facts : IsSeason season) (are : AreHeldOf season ask step held) where
  may : MayBeAsked season (MayAsk held)
  may (ask_rung week) is = (is.0, subst (λ n. week ≤ n) (sym are.path.weeks) is.1)
  may (ask_mult store week rung) is = record {
    store_from = is.first_store;
    store_to = subst (λ n. store ≤ n) (sym are.of_season.stores) is.last_store;
    week_from = is.first_week;
    week_to = subst (λ n. week ≤ n) (sym are.of_season.weeks) is.last_week;
    rung_from = is.first_rung;
    rung_to = subst (λ n. rung ≤ n) (sym are.of_season.rungs) is.last_rung;
  }
  may (ask_low done store stock) is = path-asked floor season held.path held.low are.low are.path done store stock is
  may (ask_high done store stock) is = path-asked ceil season held.path held.high are.high are.path done store stock is
  may (ask_value done store s stock) is =
      let both = store-asked ceil (mult_at held.mult) season store (nth held.tables.items store []) done s stock facts (are.tables.each store is.cell.first is.cell.last) is in
      record { first = is.cell.first; last = subst (λ n. store ≤ n) (sym are.tables.count) is.cell.last; entry = both.0; inside = both.1 }
  may (ask_joint done s stocks) is = may-joint season held.joint (length held.path) done s stocks facts (are.joint is.fit) are.path.weeks is

  ranged : AreInRange season (entries_of held)
  ranged (ask_rung week) is = rung-ranged season held.path week (path_on_ladder season.rules held.path are.path) is.0 (subst (λ n. week ≤ n) (sym are.path.weeks) is.1)
  ranged (ask_mult store week rung) is = small_of season held.mult are.of_season are.small store week rung is
  ranged (ask_low done store stock) is = path-ranged AtMost floor floor_is_direction season held.path held.low facts are.low are.path done store stock is
  ranged (ask_high done store stock) is = path-ranged AtLeast ceil ceil_is_direction season held.path held.high facts are.high are.path done store stock is
  ranged (ask_value done store s stock) is =
      store-ranged (mult_at held.mult) season store (nth held.tables.items store []) done s stock facts (small_of season held.mult are.of_season are.small) (are.tables.each store is.cell.first is.cell.last) is
  ranged (ask_joint done s stocks) is = joint-answers season held.joint (length held.path) done s stocks facts (are.joint is.fit) are.path.weeks is

  -- the certificate can be written
  pub whole-entries : IsWhole season held
  whole-entries = record { asked = may; ranges = ranged }

  -- from the entries of the plan
  pub plan-entries : AreEntriesOf season held.path (step_mult season ask step) (entries_of held)
  plan-entries = record {
    rungs = λ week first last. refl;
    mults = λ store week rung is. ap (λ t. mult_at t store week rung) are.mult;
    lows = path-told floor season held.path held.low are.low are.path;
    highs = path-told ceil season held.path held.high are.high are.path;
    values =
        λ prefix store stock live cell.
        subst (λ t. get_or (values_of (nth held.tables.items store []) (length prefix) (summary season.rules prefix)) stock (pos 0) ≡ store_value_at ceil (mult_at t) season store prefix stock) are.mult
        (store-told ceil (mult_at held.mult) season store (nth held.tables.items store []) prefix stock (are.tables.each store cell.first cell.last) live cell.held);
    joints = λ prefix stocks small live among. joint-is season held.joint (length held.path) prefix stocks facts (are.joint small) are.path.weeks live among;
  }

-- what was built is of the plan
pub held-as :
    (season : Season) (ask : Ask) (step : ℕ) (path : List ℕ) (mult : Table ℤ) (tables : List (List StoreEntry)) (joint : Option (List Entry)) (held : PlanEntries) →
    held.path ≡ path → held.low ≡ path_rows floor season path → held.high ≡ path_rows ceil season path → held.mult ≡ mult → held.tables.items ≡ tables → held.joint ≡ joint →
    IsPath season.rules path → mult ≡ run_table season ask.step step → AreOfSeason season mult → AreSmall mult → AreTablesOf ceil (mult_at mult) season tables → (IsTrue (fits season) → IfJoint joint (IsJointOf season)) →
    AreHeldOf season ask step held
held-as season ask step path mult tables joint held path_is low high mult_is tables_are joint_is is_path run of small are fit = record {
  path = subst (IsPath season.rules) (sym path_is) is_path;
  low = subst (λ p. held.low ≡ path_rows floor season p) (sym path_is) low;
  high = subst (λ p. held.high ≡ path_rows ceil season p) (sym path_is) high;
  mult = mult_is ∙ run;
  of_season = subst (AreOfSeason season) (sym mult_is) of;
  small = subst AreSmall (sym mult_is) small;
  tables = subst₂ (λ m t. AreTablesOf ceil (mult_at m) season t) (sym mult_is) (sym tables_are) are;
  joint = subst (λ j. IsTrue (fits season) → IfJoint j (IsJointOf season)) (sym joint_is) fit;
}
