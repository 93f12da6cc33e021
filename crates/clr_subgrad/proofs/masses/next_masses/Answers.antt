use Rattle.std.proofs.Common.{◌≡◌, ◌+◌, ◌-◌, ◌*◌, ◌≤◌, ◌<◌, true, suc, length, get_or, sum, take, drop, ap, ◌∙◌, sym, subst, subst₂, arith, add-one, ◌++◌}
use Rattle.clr_rules.specs.LiveSummaries.{at_week, leads_at}
use Rattle.clr_season.specs.Season.{store_at}
use Rattle.clr_mult.specs.Tables.{mult_at, usage_at}
use Rattle.clr_rows.specs.Rows.{row_at}
use Rattle.clr_rows.proofs.Lists.{written_back}
use Rattle.clr_subgrad.proofs.Sweeps.{IsLeft, IsSwept, choices_lead, choices_size, cut, cut_inside, live_here, none_after, part_here, room_here, row_inside, rows_after, swept_more, swept_none, used_after}
use Rattle.clr_subgrad.proofs.masses.next_masses.Goals as goal

pub loop-next-init : goal.loop-next-init
loop-next-init c =
    let width : c.stock.result + 1 ≡ suc (store_at c.args.season.now c.args.store).units = omega (arith, c.stock.ensures.value) in
    let size : c.count.result * (c.stock.result + 1) ≡ length (at_week (suc c.args.done) c.args.live.now) * suc (store_at c.args.season.now c.args.store).units
    = ap (λ n. n * (c.stock.result + 1)) c.count.ensures ∙ (ap (λ n. length (at_week n c.args.live.now) * (c.stock.result + 1)) (add-one c.args.done) ∙ ap (λ w. length (at_week (suc c.args.done) c.args.live.now) * w) width) in
    record {
      next = c.first-next.ensures;
      swept = swept_none (mult_at c.args.mult.now) c.args.season.now c.args.store c.args.done (c.count.result * (c.stock.result + 1)) (at_week c.args.done c.args.live.now) (at_week (suc c.args.done) c.args.live.now) c.args.masses.now c.args.used.now c.in_ok-after.after.items size
          (c.in_ok-after.ensures.items_if_clones_equal (λ y e. cc)) c.requires.none;
    }

pub overflow_mul-row : goal.overflow_mul-row
overflow_mul-row c =
    let width : c.stock.result + 1 ≡ suc (store_at c.args.season.now c.args.store).units = omega (arith, c.stock.ensures.value) in
    let inside = cut_inside c.loop-next.place (c.stock.result + 1) (store_at c.args.season.now c.args.store).units c.args.masses.now width (row_inside (mult_at c.args.mult.now) c.args.season.now c.args.store c.args.done c.loop-next.place c.requires.early c.args.live.now c.requires.live c.args.table.now c.requires.table c.args.masses.now c.requires.masses c.in-Some.s (sym c.loop-next.invariant.next ∙ c.in-Some.is)) in
    omega (arith, inside)

pub overflow_mul-row-in-Some : goal.overflow_mul-row-in-Some
overflow_mul-row-in-Some c =
    let width : c.stock.result + 1 ≡ suc (store_at c.args.season.now c.args.store).units = omega (arith, c.stock.ensures.value) in
    let inside = cut_inside c.loop-next.place (c.stock.result + 1) (store_at c.args.season.now c.args.store).units c.args.masses.now width (row_inside (mult_at c.args.mult.now) c.args.season.now c.args.store c.args.done c.loop-next.place c.requires.early c.args.live.now c.requires.live c.args.table.now c.requires.table c.args.masses.now c.requires.masses c.in-Some.s (sym c.loop-next.invariant.next ∙ c.in-Some.is)) in
    omega (arith, inside)

pub overflow_add-row : goal.overflow_add-row
overflow_add-row c =
    let width : c.stock.result + 1 ≡ suc (store_at c.args.season.now c.args.store).units = omega (arith, c.stock.ensures.value) in
    let inside = cut_inside c.loop-next.place (c.stock.result + 1) (store_at c.args.season.now c.args.store).units c.args.masses.now width (row_inside (mult_at c.args.mult.now) c.args.season.now c.args.store c.args.done c.loop-next.place c.requires.early c.args.live.now c.requires.live c.args.table.now c.requires.table c.args.masses.now c.requires.masses c.in-Some.s (sym c.loop-next.invariant.next ∙ c.in-Some.is)) in
    omega (arith, inside)

pub offset_bounds-masses-place : goal.offset_bounds-masses-place
offset_bounds-masses-place c =
    let width : c.stock.result + 1 ≡ suc (store_at c.args.season.now c.args.store).units = omega (arith, c.stock.ensures.value) in
    let inside = cut_inside c.loop-next.place (c.stock.result + 1) (store_at c.args.season.now c.args.store).units c.args.masses.now width (row_inside (mult_at c.args.mult.now) c.args.season.now c.args.store c.args.done c.loop-next.place c.requires.early c.args.live.now c.requires.live c.args.table.now c.requires.table c.args.masses.now c.requires.masses c.in-Some.s (sym c.loop-next.invariant.next ∙ c.in-Some.is)) in
    omega (arith, inside)

pub slice_bounds-row-end : goal.slice_bounds-row-end
slice_bounds-row-end c =
    let width : c.stock.result + 1 ≡ suc (store_at c.args.season.now c.args.store).units = omega (arith, c.stock.ensures.value) in
    let inside = cut_inside c.loop-next.place (c.stock.result + 1) (store_at c.args.season.now c.args.store).units c.args.masses.now width (row_inside (mult_at c.args.mult.now) c.args.season.now c.args.store c.args.done c.loop-next.place c.requires.early c.args.live.now c.requires.live c.args.table.now c.requires.table c.args.masses.now c.requires.masses c.in-Some.s (sym c.loop-next.invariant.next ∙ c.in-Some.is)) in
    omega (arith, inside)

pub choices-choices-requires-clause-some : goal.choices-choices-requires-clause-some
choices-choices-requires-clause-some c = omega (arith, choices_size (mult_at c.args.mult.now) c.args.season.now c.args.store c.args.done c.loop-next.place c.requires.early c.args.live.now c.requires.live c.args.table.now c.requires.table c.args.masses.now c.requires.masses c.in-Some.s (sym c.loop-next.invariant.next ∙ c.in-Some.is))

pub leave_row-requires-clause-here : goal.leave_row-requires-clause-here
leave_row-requires-clause-here c = live_here (mult_at c.args.mult.now) c.args.season.now c.args.store c.args.done c.loop-next.place c.requires.early c.args.live.now c.requires.live c.args.table.now c.requires.table c.args.masses.now c.requires.masses c.in-Some.s (sym c.loop-next.invariant.next ∙ c.in-Some.is)

pub leave_row-requires-clause-choices : goal.leave_row-requires-clause-choices
leave_row-requires-clause-choices c = ap length c.choices-choices.ensures ∙ choices_size (mult_at c.args.mult.now) c.args.season.now c.args.store c.args.done c.loop-next.place c.requires.early c.args.live.now c.requires.live c.args.table.now c.requires.table c.args.masses.now c.requires.masses c.in-Some.s (sym c.loop-next.invariant.next ∙ c.in-Some.is)

pub leave_row-requires-clause-leads : goal.leave_row-requires-clause-leads
leave_row-requires-clause-leads c = λ stock lt.
    subst (λ xs. leads_at c.args.season.now.rules c.args.done c.in-Some.s (get_or xs stock 0) ≡ true) (sym c.choices-choices.ensures)
    (choices_lead (mult_at c.args.mult.now) c.args.season.now c.args.store c.args.done c.loop-next.place c.requires.early c.args.live.now c.requires.live c.args.table.now c.requires.table c.args.masses.now c.requires.masses c.in-Some.s (sym c.loop-next.invariant.next ∙ c.in-Some.is) stock (subst (λ xs. stock < length xs) c.choices-choices.ensures lt))

pub leave_row-requires-clause-room : goal.leave_row-requires-clause-room
leave_row-requires-clause-room c =
    let width : c.stock.result + 1 ≡ suc (store_at c.args.season.now c.args.store).units = omega (arith, c.stock.ensures.value) in
    subst₂ (λ items row. sum items + sum row ≤ 1000000) (sym c.deref_mut.ensures.value) (sym (cut c.loop-next.place (c.stock.result + 1) (store_at c.args.season.now c.args.store).units c.args.masses.now width))
    (room_here (mult_at c.args.mult.now) c.args.season.now c.args.store c.args.done c.loop-next.place c.requires.early c.args.live.now c.requires.live c.args.table.now c.requires.table c.args.masses.now c.requires.masses c.in-Some.s (sym c.loop-next.invariant.next ∙ c.in-Some.is) (at_week (suc c.args.done) c.args.live.now) c.args.used.now c.loop-next.used c.loop-next.after.items c.loop-next.invariant.swept c.requires.total)

pub leave_row-requires-clause-part : goal.leave_row-requires-clause-part
leave_row-requires-clause-part c = λ rung low high.
    let width : c.stock.result + 1 ≡ suc (store_at c.args.season.now c.args.store).units = omega (arith, c.stock.ensures.value) in
    subst (λ row. usage_at c.loop-next.used c.args.store (suc c.args.done) rung + sum row ≤ 1000000) (sym (cut c.loop-next.place (c.stock.result + 1) (store_at c.args.season.now c.args.store).units c.args.masses.now width))
    (part_here (mult_at c.args.mult.now) c.args.season.now c.args.store c.args.done c.loop-next.place c.requires.early c.args.live.now c.requires.live c.args.table.now c.requires.table c.args.masses.now c.requires.masses c.in-Some.s (sym c.loop-next.invariant.next ∙ c.in-Some.is) (at_week (suc c.args.done) c.args.live.now) c.args.used.now c.loop-next.used c.loop-next.after.items c.loop-next.invariant.swept c.requires.total rung low high)

pub loop-next-preserved : goal.loop-next-preserved
loop-next-preserved c =
    let width : c.stock.result + 1 ≡ suc (store_at c.args.season.now c.args.store).units = omega (arith, c.stock.ensures.value) in
    let given : IsLeft c.args.season.now c.args.store c.args.done c.in-Some.s (at_week (suc c.args.done) c.args.live.now) c.choices-choices.result.now (take (c.loop-next.place * (c.stock.result + 1) + (c.stock.result + 1) - c.loop-next.place * (c.stock.result + 1)) (drop (c.loop-next.place * (c.stock.result + 1)) c.args.masses.now)) c.deref_mut.result.now c.leave_row.new.after c.loop-next.used c.leave_row.new.used
    = record { size = c.leave_row.ensures.size; came = c.leave_row.ensures.came; total = c.leave_row.ensures.total; part = c.leave_row.ensures.part; counted = c.leave_row.ensures.used } in
    let cut_row = subst (λ row. IsLeft c.args.season.now c.args.store c.args.done c.in-Some.s (at_week (suc c.args.done) c.args.live.now) c.choices-choices.result.now row c.deref_mut.result.now c.leave_row.new.after c.loop-next.used c.leave_row.new.used) (cut c.loop-next.place (c.stock.result + 1) (store_at c.args.season.now c.args.store).units c.args.masses.now width) given in
    let left = subst₂ (λ choices items. IsLeft c.args.season.now c.args.store c.args.done c.in-Some.s (at_week (suc c.args.done) c.args.live.now) choices (row_at (suc (store_at c.args.season.now c.args.store).units) c.args.masses.now c.loop-next.place) items c.leave_row.new.after c.loop-next.used c.leave_row.new.used) c.choices-choices.ensures c.deref_mut.ensures.value cut_row in
    let back : take c.loop-next.after.len (c.leave_row.new.after ++ drop (length c.leave_row.new.after) c.loop-next.after.items) ≡ c.leave_row.new.after
    = written_back c.loop-next.after.items c.leave_row.new.after c.loop-next.after.len (c.leave_row.ensures.size ∙ ap length c.deref_mut.ensures.value) (sym c.deref_mut.ensures.len ∙ ap length c.deref_mut.ensures.value) in
    record {
      next = c.after-next.ensures c.loop-next.place (sym c.loop-next.invariant.next ∙ c.in-Some.is);
      swept = subst (λ after. IsSwept (mult_at c.args.mult.now) c.args.season.now c.args.store c.args.done (c.loop-next.place + 1) (at_week c.args.done c.args.live.now) (at_week (suc c.args.done) c.args.live.now) c.args.masses.now c.args.used.now after c.leave_row.new.used) (sym back)
          (swept_more (mult_at c.args.mult.now) c.args.season.now c.args.store c.args.done c.loop-next.place c.requires.early c.args.live.now c.requires.live c.args.table.now c.requires.table c.args.masses.now c.requires.masses c.in-Some.s (sym c.loop-next.invariant.next ∙ c.in-Some.is) (at_week (suc c.args.done) c.args.live.now) c.args.used.now c.loop-next.used c.loop-next.after.items c.loop-next.invariant.swept c.requires.total c.leave_row.new.after c.leave_row.new.used left);
    }

pub returns-clause-rows : goal.returns-clause-rows
returns-clause-rows c =
    rows_after (mult_at c.args.mult.now) c.args.season.now c.args.store c.args.done c.loop-next.place c.requires.early c.args.live.now c.requires.live c.args.masses.now (at_week (suc c.args.done) c.args.live.now) c.args.used.now c.loop-next.used c.loop-next.after.items c.loop-next.invariant.swept
    (none_after (at_week c.args.done c.args.live.now) c.loop-next.place (sym c.loop-next.invariant.next ∙ c.in_default.is))

pub returns-clause-used : goal.returns-clause-used
returns-clause-used c =
    used_after (mult_at c.args.mult.now) c.args.season.now c.args.store c.args.done c.loop-next.place c.requires.early c.args.live.now c.requires.live c.args.masses.now (at_week (suc c.args.done) c.args.live.now) c.args.used.now c.loop-next.used c.loop-next.after.items c.loop-next.invariant.swept
    (none_after (at_week c.args.done c.args.live.now) c.loop-next.place (sym c.loop-next.invariant.next ∙ c.in_default.is))
