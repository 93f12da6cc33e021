use Rattle.std.proofs.Common.{◌≡◌, ◌+◌, ◌++◌, length, ap, sym, ◌∙◌, subst, subst₂, arith, rules}
use Rattle.clr_rows.specs.Leads.{AreBestRows}
use Rattle.clr_rows.proofs.Lists.{got, written_back}
use Rattle.clr_rows.proofs.WeekRows.{best_more, item_live}
use Rattle.clr_rows.proofs.step.best_rows.Goals as goal

pub best_row-requires-clause-here : goal.best_row-requires-clause-here
best_row-requires-clause-here g c = item_live c.args.rules.now c.args.done c.loop-s.s-index c.args.list.now _ (omega (arith, c.requires.early)) c.requires.list (omega (arith, c.loop-s-test.true, c.loop-s.auto.s-index-end))

pub loop-s-preserved : goal.loop-s-preserved
loop-s-preserved g c =
    let same : length c.best_row.new.values ≡ length c.loop-s.row.items = search rules in
    let also : length c.best_row.new.choices ≡ length c.loop-s.chosen.items = search rules in
    let out = written_back c.loop-s.row.items c.best_row.new.values c.loop-s.row.len same c.loop-s.row.ok.0 in
    let chosen = written_back c.loop-s.chosen.items c.best_row.new.choices c.loop-s.chosen.len also c.loop-s.chosen.ok.0 in
    let size : length c.best_row.new.values ≡ c.args.width = same ∙ c.loop-s.invariant.row in
    let chosen_size : length c.best_row.new.choices ≡ c.args.width = also ∙ c.loop-s.invariant.chosen in
    let old : length c.deref_mut.result.now ≡ c.args.width = ap length c.deref_mut.ensures.value ∙ c.loop-s.invariant.row in
    record {
      row = ap length out ∙ size;
      chosen = ap length chosen ∙ chosen_size;
      rows = subst₂ (AreBestRows c.args.rules.now c.args.done c.args.width c.args.averages.now (g.A.Added.more c.args.added.now) (c.loop-s.s-index + 1)) (sym (c.in_ok-extend_from_slice.ensures.items ∙ ap (λ r. c.loop-s.values.items ++ r) (c.deref.ensures.value ∙ out)))
          (sym (c.in_ok-extend_from_slice-2.ensures.items ∙ ap (λ r. c.loop-s.choices.items ++ r) (c.deref-in-loop-s.ensures.value ∙ chosen)))
          (best_more c.args.rules.now c.args.done c.args.width (length c.deref_mut.result.now) c.loop-s.s-index c.args.averages.now c.loop-s.values.items c.best_row.new.values c.loop-s.choices.items c.best_row.new.choices (g.A.Added.more c.args.added.now) c.args.list.now _ c.requires.list c.loop-s.invariant.rows size chosen_size old
          (λ s at. got c.args.list.now c.loop-s.s-index _ s at) c.best_row.ensures);
    }

pub returns : goal.returns
returns g c =
    let all : c.loop-s.s-index ≡ length c.args.list.now = omega (arith, c.loop-s-test.false, c.loop-s.auto.s-index-end) in
    subst₂ (AreBestRows c.args.rules.now c.args.done c.args.width c.args.averages.now (g.A.Added.more c.args.added.now) (length c.args.list.now)) (sym c.new.ensures.values) (sym c.new.ensures.choices) (subst (λ n. AreBestRows c.args.rules.now c.args.done c.args.width c.args.averages.now (g.A.Added.more c.args.added.now) n c.loop-s.values.items c.loop-s.choices.items) all c.loop-s.invariant.rows)
