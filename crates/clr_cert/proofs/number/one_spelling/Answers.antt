use Rattle.clr_cert.proofs.NumberTexts.{one_spelling_lem}
use Rattle.clr_cert.proofs.number.one_spelling.Goals as goal

pub returns : goal.returns
returns c = one_spelling_lem
