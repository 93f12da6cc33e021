use Rattle.std.proofs.Common.{◌≡◌, ◌∙◌, ◌+◌, ◌-◌, ◌*◌, ◌<◌, ◌≤◌, ℕ, ℤ, List, ap₂, sym, subst, arith, get_or, pos, [], ◌∷◌, length}
use Rattle.clr_model.specs.Fits.{stock_lists}
use Rattle.clr_cert.specs.Conditions.{total}
use Rattle.clr_cert.specs.Entries.{most_entry}
use Rattle.clr_average.specs.Average.{IsWithin}
use Rattle.clr_check.specs.Faults.{first_fault}
use Rattle.clr_check.specs.Rows.{kept_at}
use Rattle.clr_check.proofs.ConditionsLemmas.{entry_read, exact_is, exact_none, joint_room, joint_small, opening_at, opening_none}
use Rattle.clr_check.proofs.ListNumbers.{one_list}
use Rattle.clr_check.proofs.Sides.{read_128}
use Rattle.clr_check.proofs.conditions.exact_fault.Goals as goal

pub returns-in_default : goal.returns-in_default
returns-in_default c lines row kept =
    exact_none c.args.season.now lines row c.args.tables.now c.args.numbers.now c.totals_fault.result c.rules.ensures.facts
    (opening_none c.args.season.now c.args.live.now c.start.result c.rules.result.now c.find.result c.requires.live c.rules.ensures.value c.start.ensures c.find.ensures.listed c.in_default.is)
    c.totals_fault.ensures

pub overflow_mul-at : goal.overflow_mul-at
overflow_mul-at c = let small = joint_small c.args.season.now c.args.live.now c.in-Some.place c.lists_of_stocks-lists.result c.start.result c.rules.ensures.facts c.requires.live (c.find.ensures.found c.in-Some.place c.in-Some.is) c.lists_of_stocks-lists.ensures.range in omega (arith, small)

pub overflow_sub-at : goal.overflow_sub-at
overflow_sub-at c = let some : 1 ≤ stock_lists c.args.season.now.stores = one_list c.args.season.now.stores in omega (arith, some, c.lists_of_stocks-lists.ensures.value)

pub overflow_add-at : goal.overflow_add-at
overflow_add-at c = let small = joint_small c.args.season.now c.args.live.now c.in-Some.place c.lists_of_stocks-lists.result c.start.result c.rules.ensures.facts c.requires.live (c.find.ensures.found c.in-Some.place c.in-Some.is) c.lists_of_stocks-lists.ensures.range in omega (arith, small, c.lists_of_stocks-lists.ensures.range)

pub offset_bounds-row-at : goal.offset_bounds-row-at
offset_bounds-row-at c = let small = joint_small c.args.season.now c.args.live.now c.in-Some.place c.lists_of_stocks-lists.result c.start.result c.rules.ensures.facts c.requires.live (c.find.ensures.found c.in-Some.place c.in-Some.is) c.lists_of_stocks-lists.ensures.range in omega (arith, small, c.lists_of_stocks-lists.ensures.range)

pub offset_bounds-row-at-2 : goal.offset_bounds-row-at-2
offset_bounds-row-at-2 c = let small = joint_small c.args.season.now c.args.live.now c.in-Some.place c.lists_of_stocks-lists.result c.start.result c.rules.ensures.facts c.requires.live (c.find.ensures.found c.in-Some.place c.in-Some.is) c.lists_of_stocks-lists.ensures.range in omega (arith, small, c.lists_of_stocks-lists.ensures.range)

pub bounds-row-at : goal.bounds-row-at
bounds-row-at c =
    subst (λ n. c.in-Some.place * n + (n - 1) < length c.row.result.now) (sym c.lists_of_stocks-lists.ensures.value)
    (subst (λ (r : List ℤ). c.in-Some.place * stock_lists c.args.season.now.stores + (stock_lists c.args.season.now.stores - 1) < length r) (sym c.row.ensures)
    (joint_room c.args.season.now c.args.live.now c.in-Some.place c.requires.tables.most c.start.result c.args.tables.now.joint_lows c.requires.live (c.find.ensures.found c.in-Some.place c.in-Some.is) (c.requires.tables.room 0 (omega arith)) (c.requires.tables.joint_lows c.requires.fits)))

pub bounds-row-at-2 : goal.bounds-row-at-2
bounds-row-at-2 c =
    subst (λ n. c.in-Some.place * n + (n - 1) < length c.row-2.result.now) (sym c.lists_of_stocks-lists.ensures.value)
    (subst (λ (r : List ℤ). c.in-Some.place * stock_lists c.args.season.now.stores + (stock_lists c.args.season.now.stores - 1) < length r) (sym c.row-2.ensures)
    (joint_room c.args.season.now c.args.live.now c.in-Some.place c.requires.tables.most c.start.result c.args.tables.now.joint_tops c.requires.live (c.find.ensures.found c.in-Some.place c.in-Some.is) (c.requires.tables.room 0 (omega arith)) (c.requires.tables.joint_tops c.requires.fits)))

pub returns : goal.returns
returns c lines row kept =
    let at : ℕ → ℕ = λ n. c.in-Some.place * n + (n - 1) in
    let lists : ℕ = stock_lists c.args.season.now.stores in
    let low_small : IsWithin most_entry (kept_at c.args.tables.now.joint_lows 0 (at lists)) = (c.requires.tables.joint_lows c.requires.fits).small 0 (at lists) in
    let top_small : IsWithin most_entry (kept_at c.args.tables.now.joint_tops 0 (at lists)) = (c.requires.tables.joint_tops c.requires.fits).small 0 (at lists) in
    let low : c.from-low.result ≡ kept_at c.args.tables.now.joint_lows 0 (at lists) = c.from-low.ensures ∙ entry_read _ (kept_at c.args.tables.now.joint_lows 0 (at lists)) (ap₂ (λ (r : List ℤ) n. get_or r (at n) (pos 0)) c.row.ensures c.lists_of_stocks-lists.ensures.value) low_small in
    let top : c.from-high.result ≡ kept_at c.args.tables.now.joint_tops 0 (at lists) = c.from-high.ensures ∙ entry_read _ (kept_at c.args.tables.now.joint_tops 0 (at lists)) (ap₂ (λ (r : List ℤ) n. get_or r (at n) (pos 0)) c.row-2.ensures c.lists_of_stocks-lists.ensures.value) top_small in
    exact_is c.args.season.now lines row c.args.tables.now c.args.numbers.now c.totals_fault-2.result c.rules.ensures.facts c.in-Some.place c.from-low.result c.from-high.result c.requires.fits
    (opening_at c.args.season.now c.args.live.now c.in-Some.place c.start.result c.rules.result.now c.requires.live c.rules.ensures.value c.start.ensures (c.find.ensures.found c.in-Some.place c.in-Some.is)) low top
    (c.totals_fault-2.ensures ∙ ap₂ (λ a b. first_fault (total c.args.numbers.now 0 a ∷ total c.args.numbers.now 1 b ∷ []))
    (read_128 c.from-low.result most_entry (subst (IsWithin most_entry) (sym low) low_small) (omega arith)) (read_128 c.from-high.result most_entry (subst (IsWithin most_entry) (sym top) top_small) (omega arith))) kept
