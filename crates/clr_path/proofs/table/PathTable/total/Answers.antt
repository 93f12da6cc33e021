use Rattle.std.proofs.Common.{◌≡◌, ◌<◌, ◌*◌, ◌+◌, ℤ, ◌+ℤ◌, [], length, get_or, sym, ap, ◌∙◌, subst, arith, rules, SFits, to_z, of_z}
use Rattle.std.proofs.lemmas.Int.{to_z-of_z}
use mir.Syntax.{w64, w128}
use Rattle.clr_average.specs.Average.{IsWithin}
use Rattle.clr_path.specs.Tables.{IsTable, full_value}
use Rattle.clr_path.proofs.TotalLemmas.{has_row, item_is, read_more, row_starts, size_next, sum_next}
use Rattle.clr_path.proofs.table.PathTable.total.Goals as goal

pub row-requires : goal.row-requires
row-requires g c =
    let items : c.deref-rows-items.result.now ≡ c.args.self.now = c.deref-rows-items.ensures.value ∙ c.self.view_is in
    let lt : c.loop-rows.rows-index < length c.deref-rows-items.result.now = omega (arith, c.loop-rows-test.true, c.loop-rows.auto.rows-index-end) in
    let size : length c.deref-rows-items.result.now ≡ length c.args.self.now = ap length items in
    has_row c.args.self.now c.loop-rows.rows-index c.rows-item.result (subst IsTable c.self.view_is c.self.invariant) (omega (arith, lt, size)) (item_is c.deref-rows-items.result.now c.args.self.now c.loop-rows.rows-index c.rows-item.result items lt c.rows-item.is)

pub full-requires : goal.full-requires
full-requires g c =
    let items : c.deref-rows-items.result.now ≡ c.args.self.now = c.deref-rows-items.ensures.value ∙ c.self.view_is in
    let lt : c.loop-rows.rows-index < length c.deref-rows-items.result.now = omega (arith, c.loop-rows-test.true, c.loop-rows.auto.rows-index-end) in
    let size : length c.deref-rows-items.result.now ≡ length c.args.self.now = ap length items in
    row_starts c.args.self.now c.loop-rows.rows-index c.rows-item.result c.row.result.now (subst IsTable c.self.view_is c.self.invariant) (omega (arith, lt, size)) (item_is c.deref-rows-items.result.now c.args.self.now c.loop-rows.rows-index c.rows-item.result items lt c.rows-item.is) c.row.ensures

pub loop-rows-preserved : goal.loop-rows-preserved
loop-rows-preserved g c =
    let items : c.deref-rows-items.result.now ≡ c.args.self.now = c.deref-rows-items.ensures.value ∙ c.self.view_is in
    let lt : c.loop-rows.rows-index < length c.deref-rows-items.result.now = omega (arith, c.loop-rows-test.true, c.loop-rows.auto.rows-index-end) in
    let size : length c.deref-rows-items.result.now ≡ length c.args.self.now = ap length items in
    let inside : c.loop-rows.rows-index < length c.args.self.now = omega (arith, lt, size) in
    let table : IsTable c.args.self.now = subst IsTable c.self.view_is c.self.invariant in
    let item : c.rows-item.result ≡ get_or c.args.self.now c.loop-rows.rows-index [] = item_is c.deref-rows-items.result.now c.args.self.now c.loop-rows.rows-index c.rows-item.result items lt c.rows-item.is in
    let fits : SFits w64 c.full.result = search rules in
    let value : c.from-total.result ≡ full_value c.row.result.now = c.from-total.ensures ∙ (to_z-of_z w64 c.full.result fits ∙ c.full.ensures) in
    let before : ℤ = to_z w128 c.loop-rows.total-bits in
    let read : to_z w128 (of_z w128 (before +ℤ to_z w128 (of_z w128 c.from-total.result))) ≡ before +ℤ c.from-total.result = read_more c.args.self.now c.loop-rows.rows-index c.rows-item.result c.row.result.now before c.from-total.result table inside item c.row.ensures c.loop-rows.invariant.sum c.loop-rows.invariant.size value in
    record {
      sum = read ∙ sum_next c.args.self.now c.loop-rows.rows-index c.rows-item.result c.row.result.now before c.from-total.result table inside item c.row.ensures c.loop-rows.invariant.sum c.loop-rows.invariant.size value;
      size = subst (IsWithin ((c.loop-rows.rows-index + 1) * 20000000000000000)) (sym read) (size_next c.args.self.now c.loop-rows.rows-index c.rows-item.result c.row.result.now before c.from-total.result table inside item c.row.ensures c.loop-rows.invariant.sum c.loop-rows.invariant.size value);
    }
