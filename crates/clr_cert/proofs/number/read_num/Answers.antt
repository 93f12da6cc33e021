use Rattle.std.proofs.Common.{sym, ◌∙◌}
use Rattle.clr_cert.proofs.NumberTexts.{read_is, is_read}
use Rattle.clr_cert.proofs.number.read_num.Goals as goal

pub returns-clause-is : goal.returns-clause-is
returns-clause-is c n = (
  λ e. read_is c.args.field.now n (sym c.num_in.ensures ∙ e),
  λ h. c.num_in.ensures ∙ is_read c.args.field.now n h.0 h.1,
)
