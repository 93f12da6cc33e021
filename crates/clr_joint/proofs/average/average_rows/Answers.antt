use Rattle.std.proofs.Common.{◌≡◌, suc, ◌<◌, ◌≤◌, ◌+◌, ◌*◌, ◌++◌, pos, List, length, get_or, slice_get, arith, ap, sym, ◌∙◌, subst}
use Rattle.std.proofs.lemmas.Option.{slice_get-get_or}
use Rattle.clr_rules.specs.declared.season_rules.Summary.{Summary}
use Rattle.clr_model.specs.JointWeek.{joint_base, joint_weighed}
use Rattle.clr_model.specs.Revenue.{full_stocks}
use Rattle.clr_rows.specs.Rows.{AreRows, AreWithin}
use Rattle.clr_rows.proofs.Lists.{got, row_end}
use Rattle.clr_rows.proofs.Places.{row_small}
use Rattle.clr_rows.proofs.WeekRows.{on_ladder, row_more}
use Rattle.clr_joint.specs.BySummary.{average_into, by_place}
use Rattle.clr_model.specs.Stocks.{place_in, stocks_at}
use Rattle.clr_joint.proofs.Averages.{average_is, within_append}
use Rattle.clr_joint.proofs.average.average_rows.Goals as goal

pub average_row-requires-clause-low : goal.average_row-requires-clause-low
average_row-requires-clause-low g c =
    let lt : c.loop-place.place < length c.args.list.now = omega (arith, c.loop-place-test.true, c.loop-place.auto.place-end) in
    (on_ladder c.args.season.now.rules (suc c.args.done) c.requires.season.rules c.requires.early c.loop-place.place _ (ap (λ (l : List Summary). slice_get l c.loop-place.place) (sym c.requires.list) ∙ slice_get-get_or c.args.list.now c.loop-place.place (record { last = 0; count = 0; age = 0 }) lt)).0

pub average_row-requires-clause-high : goal.average_row-requires-clause-high
average_row-requires-clause-high g c =
    let lt : c.loop-place.place < length c.args.list.now = omega (arith, c.loop-place-test.true, c.loop-place.auto.place-end) in
    (on_ladder c.args.season.now.rules (suc c.args.done) c.requires.season.rules c.requires.early c.loop-place.place _ (ap (λ (l : List Summary). slice_get l c.loop-place.place) (sym c.requires.list) ∙ slice_get-get_or c.args.list.now c.loop-place.place (record { last = 0; count = 0; age = 0 }) lt)).1

pub average_row-requires-clause-within : goal.average_row-requires-clause-within
average_row-requires-clause-within g c =
    let lt : c.loop-place.place < length c.args.list.now = omega (arith, c.loop-place-test.true, c.loop-place.auto.place-end) in
    row_small 1000000000000000000 c.args.width c.loop-place.place c.args.after.now c.row_of-row.result.now c.requires.within
    (subst (λ n. (c.loop-place.place + 1) * c.args.width ≤ n) (sym c.requires.after.size) (row_end c.args.width (length c.args.list.now) c.loop-place.place lt)) c.row_of-row.ensures.row c.row_of-row.ensures.size

pub loop-place-preserved : goal.loop-place-preserved
loop-place-preserved g c =
    let lt : c.loop-place.place < length c.args.list.now = omega (arith, c.loop-place-test.true, c.loop-place.auto.place-end) in
    let items : c.extend_from_slice.new.self.items ≡ c.loop-place.rows.items ++ c.in_ok-averages.averages.items = c.in_ok-extend_from_slice.ensures.items ∙ ap (λ r. c.loop-place.rows.items ++ r) c.deref.ensures.value in
    let size : length c.in_ok-averages.averages.items ≡ c.args.width = c.in_ok-averages.ensures.size ∙ c.row_of-row.ensures.size in
    record {
      rows = subst (AreRows (pos 0) c.args.width c.args.list.now (c.loop-place.place + 1) (by_place c.args.season.now (average_into g.R.Direction.quotient c.args.season.now c.args.done))) (sym items)
          (row_more (pos 0) c.args.width c.args.list.now c.loop-place.place (by_place c.args.season.now (average_into g.R.Direction.quotient c.args.season.now c.args.done)) c.loop-place.rows.items c.in_ok-averages.averages.items c.loop-place.invariant.rows size
          (λ s at x low.
          c.in_ok-averages.ensures.each x (subst (λ n. x < n) (sym c.row_of-row.ensures.size) low)
          ∙ (ap (λ (t : Summary). g.R.Direction.quotient (joint_weighed c.args.season.now c.args.done t.last t.last (stocks_at (full_stocks c.args.season.now) x) (λ week rest. get_or c.row_of-row.result.now (place_in (full_stocks c.args.season.now) rest) (pos 0))) (joint_base c.args.season.now)) (got c.args.list.now c.loop-place.place _ s at)
          ∙ average_is g.R.Direction.quotient c.args.season.now c.args.done c.args.width c.loop-place.place x c.args.list.now s c.args.after.now c.row_of-row.result.now c.requires.width c.requires.after at lt c.row_of-row.ensures.row low)));
      within = subst (AreWithin 2000000000000000000) (sym items) (within_append 2000000000000000000 c.loop-place.rows.items c.in_ok-averages.averages.items c.loop-place.invariant.within c.in_ok-averages.ensures.within);
    }
