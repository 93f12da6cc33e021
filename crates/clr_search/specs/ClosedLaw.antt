-- What a live list of rungs begins with is live.
use Rattle.std.proofs.Common.{◌≡◌, ℕ, List, ◌++◌, true, sym, ap, ◌∙◌, append_assoc}
use Rattle.clr_rules.specs.Rules.{Rulebook, is_live, obeys}
use Rattle.clr_rules.proofs.LiveLemmas.{live_from, live_witness}

pub live_closed : (rules : Rulebook) (prefix rest : List ℕ) → is_live rules (prefix ++ rest) ≡ true → is_live rules prefix ≡ true
live_closed rules prefix rest live =
    let (more, good) = live_witness rules (prefix ++ rest) live in
    live_from rules prefix (rest ++ more) (ap (obeys rules) (sym (append_assoc prefix rest more)) ∙ good)
