use Rattle.serde_json.specs.View.{view}
use Rattle.clr_policy.specs.PolicyFile.{is_test_field}
use Rattle.clr_policy.proofs.Fields.{keys_pass}
use Rattle.clr_policy.proofs.policy_file.has_test_names.Goals as goal

pub returns-in-Some : goal.returns-in-Some
returns-in-Some c = rw c.are_test_names.ensures (keys_pass is_test_field (view c.args.node.now) c.in-Some.fields.now.entries c.in-Some.ensures)
