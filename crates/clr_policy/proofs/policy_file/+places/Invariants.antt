use Rattle.std.proofs.Common.{◌+◌, ◌*◌}
use Rattle.serde_json.specs.Data.{depth}
use Rattle.serde_json.specs.View.{view}
use Rattle.clr_policy.proofs.policy_file.+places.Given as goal

abbrev pub decreases-place_of : goal.decreases-place_of
decreases-place_of l = 3 * depth (view l.node.now) + 2

abbrev pub decreases-week_of : goal.decreases-week_of
decreases-week_of l = 3 * depth (view l.node.now) + 1

abbrev pub decreases-choice_of : goal.decreases-choice_of
decreases-choice_of l = 3 * depth (view l.node.now) + 1

abbrev pub decreases-field_of : goal.decreases-field_of
decreases-field_of l = 3 * depth (view l.node.now)
