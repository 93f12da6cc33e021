use Rattle.std.proofs.Common.{[], ◌∷◌, codes, decimal}
use Rattle.clr_report.proofs.Spaced.{more}
use Rattle.clr_report.proofs.refusal.put_total.Goals as goal

pub returns-clause-text : goal.returns-clause-text
returns-clause-text c =
    let a = c.args in
    let weeks = more (codes "store" ∷ decimal a.store ∷ []) (codes "week" ∷ decimal a.week ∷ []) _ _ _ c.put_labelled-store_end.ensures.text c.put_labelled-week_end.ensures.text in
    let rungs = more (codes "store" ∷ decimal a.store ∷ codes "week" ∷ decimal a.week ∷ []) (codes "rung" ∷ decimal a.rung ∷ []) _ _ _ weeks c.put_labelled-rung_end.ensures.text in
    more (codes "store" ∷ decimal a.store ∷ codes "week" ∷ decimal a.week ∷ codes "rung" ∷ decimal a.rung ∷ []) (codes "total" ∷ decimal a.found ∷ []) _ _ _ rungs c.put_labelled_wide.ensures.text
