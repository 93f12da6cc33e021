use Rattle.std.proofs.Common.{◌≡◌, [], ◌∷◌, codes, decimal, rules}
use Rattle.clr_report.proofs.Spaced.{more_joined}
use Rattle.clr_report.proofs.verdict.put_branch.Goals as goal

pub returns-clause-text : goal.returns-clause-text
returns-clause-text c =
    let branch : c.from.result ≡ c.args.branch = search rules in
    let front = rw branch at c.put_count-end.ensures.text in
    more_joined (codes "policy no: branch") (decimal c.args.branch ∷ []) (c.args.word.now ∷ []) _ _ front c.put_word.ensures.text
