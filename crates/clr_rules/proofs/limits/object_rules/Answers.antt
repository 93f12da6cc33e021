use Rattle.std.proofs.Common.{◌≡◌, ◌∙◌, sym, true, false, refl}
use Rattle.serde_json.specs.View.{view, members_view}
use Rattle.serde_json.specs.Find.{as_object}
use Rattle.clr_rules.specs.Limits.{all_known}
use Rattle.clr_rules.proofs.Names.{known-keys, object-known, object-field}
use Rattle.clr_rules.proofs.limits.object_rules.Goals as goal

pub returns-then-not-has_known_names-clause-gives : goal.returns-then-not-has_known_names-clause-gives
returns-then-not-has_known_names-clause-gives c =
    let members = members_view c.in-Some.members.now.entries in
    let other : all_known members ≡ false = known-keys c.in-Some.members.now.entries ∙ sym c.if-not-has_known_names.ensures in
    rw (c.refused-then-not-has_known_names.ensures, object-field (view c.args.value.now) (as_object (view c.args.value.now)) members c.in-Some.ensures other) refl

pub returns-clause-gives : goal.returns-clause-gives
returns-clause-gives c =
    let members = members_view c.in-Some.members.now.entries in
    let known : all_known members ≡ true = known-keys c.in-Some.members.now.entries ∙ sym c.if-not-has_known_names.ensures in
    rw (object-known (view c.args.value.now) (as_object (view c.args.value.now)) members c.in-Some.ensures known) c.fields.ensures.gives
