use Rattle.std.proofs.Common.{take, drop, length, ◌-◌}
use Rattle.clr_check.proofs.FieldLemmas.{after_comma, rest_is}
use Rattle.clr_check.proofs.fields.first_number.Goals as goal

pub returns : goal.returns
returns c = after_comma c.args.text.now (take (length c.args.text.now - 1) (drop 1 c.args.text.now)) c.number_before.result (rest_is c.args.text.now) c.if-text-ne44.false c.number_before.ensures
