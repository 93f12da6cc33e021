use Rattle.std.proofs.Common.{◌≡◌, ◌+◌, ◌++◌, pos, length, get_or, ap, ap₂, sym, ◌∙◌, subst, arith, rules}
use Rattle.clr_model.specs.PathValue.{weighed}
use Rattle.clr_storedp.specs.Rows.{AreAverages}
use Rattle.clr_storedp.proofs.Averages.{averages_more}
use Rattle.clr_rows.proofs.Lists.{got, written_back}
use Rattle.clr_storedp.proofs.average.average_rows.Goals as goal

pub loop-place-preserved : goal.loop-place-preserved
loop-place-preserved g c =
    let same : length c.average_week.new.out ≡ length c.loop-place.row.items = search rules in
    let out = written_back c.loop-place.row.items c.average_week.new.out c.loop-place.row.len same c.loop-place.row.ok.0 in
    let size : length c.average_week.new.out ≡ c.args.width = same ∙ c.loop-place.invariant.row in
    record {
      row = ap length out ∙ size;
      rows = subst (AreAverages g.R.Direction.quotient c.args.season.now c.args.store c.args.done c.args.width c.args.list.now c.args.after.now (c.loop-place.place + 1)) (sym (c.in_ok-extend_from_slice.ensures.items ∙ ap (λ r. c.loop-place.rows.items ++ r) (c.deref.ensures.value ∙ out)))
          (averages_more g.R.Direction.quotient c.args.season.now c.args.store c.args.done c.args.width c.args.list.now c.args.after.now c.loop-place.place c.loop-place.rows.items c.average_week.new.out c.loop-place.invariant.rows size
          (λ s at x low. c.average_week.ensures x (omega (arith, low, size))
          ∙ ap₂ (λ t v. g.R.Direction.quotient (weighed c.args.season.now c.args.store c.args.done t.last t.last x (λ rest. get_or v rest (pos 0))) c.args.season.now.base) (got c.args.list.now c.loop-place.place _ s at) c.row_of-values.ensures.row));
    }
