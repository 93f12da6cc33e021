use Rattle.clr_num.proofs.MoneyTexts.{money_determines, cents_determine}
use Rattle.clr_num.proofs.money.texts_determine_amounts.Goals as goal

pub returns-clause-money : goal.returns-clause-money
returns-clause-money c = money_determines

pub returns-clause-cents : goal.returns-clause-cents
returns-clause-cents c = cents_determine
