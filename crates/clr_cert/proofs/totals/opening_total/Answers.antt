use Rattle.std.proofs.Common.{◌+◌, ◌<◌, length, sym, ◌∙◌, subst, arith, rules, SFits, to_z, of_z}
use Rattle.std.proofs.lemmas.Int.{to_z-of_z}
use mir.Syntax.{w64, w128}
use Rattle.clr_average.specs.Average.{IsWithin}
use Rattle.clr_cert.specs.Entries.{most_entry}
use Rattle.clr_cert.specs.Tables.{ask_of, entry_of}
use Rattle.clr_cert.proofs.OpeningSums.{size_next, sum_next}
use Rattle.clr_cert.proofs.Tabled.{entry_within}
use Rattle.clr_cert.proofs.totals.opening_total.Goals as goal

pub entry-requires : goal.entry-requires
entry-requires g c =
    let low : c.loop-index.index < length c.args.season.now.stores = omega (arith, c.stores-index-end.ensures.value) in
    c.requires.asked (ask_of c.args.table 0 (c.loop-index.index + 1) c.stock-stock.result) (c.requires.rows (c.loop-index.index + 1) (omega arith) (omega (arith, low)) c.stock-stock.result (omega (arith, c.stock-stock.ensures.value)))

pub added-total-requires-clause-entry : goal.added-total-requires-clause-entry
added-total-requires-clause-entry g c =
    let low : c.loop-index.index < length c.args.season.now.stores = omega (arith, c.stores-index-end.ensures.value) in
    let told = c.requires.rows (c.loop-index.index + 1) (omega arith) (omega (arith, low)) c.stock-stock.result (omega (arith, c.stock-stock.ensures.value)) in
    let fits : SFits w64 c.entry.result = search rules in
    subst (IsWithin most_entry) (sym (to_z-of_z w64 c.entry.result fits ∙ c.entry.ensures))
    (entry_within c.args.season.now (g.E.Entries.entries c.args.entries.now) c.args.table 0 (c.loop-index.index + 1) c.stock-stock.result c.requires.ranges told)

pub loop-index-preserved : goal.loop-index-preserved
loop-index-preserved g c =
    let low : c.loop-index.index < length c.args.season.now.stores = omega (arith, c.stores-index-end.ensures.value) in
    let told = c.requires.rows (c.loop-index.index + 1) (omega arith) (omega (arith, low)) c.stock-stock.result (omega (arith, c.stock-stock.ensures.value)) in
    let fits : SFits w64 c.entry.result = search rules in
    let wide : SFits w128 c.added-total.result = search rules in
    let entry = to_z-of_z w64 c.entry.result fits ∙ c.entry.ensures in
    let next = to_z-of_z w128 c.added-total.result wide ∙ c.added-total.ensures in
    let within = subst (IsWithin most_entry) (sym entry) (entry_within c.args.season.now (g.E.Entries.entries c.args.entries.now) c.args.table 0 (c.loop-index.index + 1) c.stock-stock.result c.requires.ranges told) in
    record {
      sum = sum_next c.args.season.now (entry_of c.args.table (g.E.Entries.entries c.args.entries.now) 0) c.loop-index.index c.stock-stock.result (to_z w128 c.loop-index.total-bits) (to_z w64 (of_z w64 c.entry.result)) (to_z w128 (of_z w128 c.added-total.result)) c.loop-index.invariant.sum entry c.stock-stock.ensures.value next;
      size = size_next c.loop-index.index (to_z w128 c.loop-index.total-bits) (to_z w64 (of_z w64 c.entry.result)) (to_z w128 (of_z w128 c.added-total.result)) c.loop-index.invariant.size within next;
    }
