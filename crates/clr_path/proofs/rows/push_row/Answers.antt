use Rattle.std.proofs.Common.{◌≡◌, ℕ, suc, ◌+◌, ◌-◌, ◌*◌, ◌++◌, pos, length, get_or, drop, arith, ap, ap₂, sym, ◌∙◌, subst, add-one, add-mul}
use Rattle.clr_rules.specs.Rules.{rung_at}
use Rattle.clr_model.specs.PathValue.{weighed}
use Rattle.clr_path.specs.Flat.{AreRows}
use Rattle.clr_path.proofs.Steps.{rows_more}
use Rattle.clr_path.proofs.rows.push_row.Goals as goal

last_begins : (total back width : ℕ) → total ≡ (back + 1) * width → total - width ≡ back * width
last_begins total back width is = let split : (back + 1) * width ≡ back * width + 1 * width = add-mul back 1 width in omega arith

pub returns : goal.returns
returns g c =
    let season = c.args.season.now in
    let path = c.args.path.now in
    let width = length c.args.row.now in
    let done = c.len.result - 1 - c.args.back in
    let values = c.args.values.now.items in
    let after : c.last_row-after.result.now ≡ drop (length values - width) values = c.last_row-after.ensures ∙ ap (λ v. drop (length v - width) v) c.as_slice.ensures.value in
    let before : AreRows g.R.Direction.quotient season c.args.store path (length path) width (suc c.args.back) values = subst (λ n. AreRows g.R.Direction.quotient season c.args.store path (length path) width n values) (add-one c.args.back) c.requires.rows in
    let count : suc c.args.back + 1 ≡ c.args.back + 2 = omega arith in
    subst (λ l. AreRows g.R.Direction.quotient season c.args.store path (length path) width (c.args.back + 2) l) (sym c.in_ok-extend_from_slice.ensures.items)
    (subst (λ n. AreRows g.R.Direction.quotient season c.args.store path (length path) width n (values ++ c.average_week.new.out)) count
    (rows_more g.R.Direction.quotient season c.args.store path (length path) width c.args.back done (length values - width) c.rung-rung.result values c.average_week.new.out
    before c.average_week.auto.out (omega (arith, c.requires.early, c.len.ensures)) (omega (arith, c.requires.early, c.len.ensures)) (last_begins (length values) c.args.back width c.requires.rows.size) (c.rung-rung.ensures ∙ ap (rung_at path) (add-one done))
    (λ x lt. c.average_week.ensures x (omega (arith, lt, c.average_week.auto.out)) ∙ ap₂ (λ b v. g.R.Direction.quotient (weighed season c.args.store done b c.rung-rung.result x (λ rest. get_or v rest (pos 0))) season.base) c.rung_before-before.ensures after)))
