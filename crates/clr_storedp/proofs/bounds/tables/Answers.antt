use Rattle.std.proofs.Common.{◌≡◌, ◌+◌, suc, [], ◌∷◌, length, get_or, ap, sym, ◌∙◌, subst, arith, length-append}
use Rattle.clr_mult.specs.Tables.{mult_at}
use Rattle.clr_num.specs.Rounding.{ceil}
use Rattle.clr_rows.proofs.Lists.{each_more}
use Rattle.clr_storedp.specs.Tables.{IsTableOf}
use Rattle.clr_storedp.proofs.bounds.tables.Goals as goal

pub loop-index-preserved : goal.loop-index-preserved
loop-index-preserved c =
    let place : c.loop-index.index + 1 ≡ suc c.loop-index.index = omega arith in
    let here : IsTableOf ceil (mult_at c.args.mult.now) c.args.season.now (suc c.loop-index.index) c.in_ok-table.table
    = subst (λ n. IsTableOf ceil (mult_at c.args.mult.now) c.args.season.now n c.in_ok-table.table) place c.in_ok-table.ensures in
    record {
      count = ap length c.in_ok-push.ensures.items ∙ (length-append c.loop-index.tables.items (c.in_ok-table.table ∷ []) ∙ ap (λ n. n + 1) c.loop-index.invariant.count);
      each = λ place lt. subst (λ items. IsTableOf ceil (mult_at c.args.mult.now) c.args.season.now (suc place) (get_or items place [])) (sym c.in_ok-push.ensures.items)
          (each_more (λ k table. IsTableOf ceil (mult_at c.args.mult.now) c.args.season.now (suc k) table) c.loop-index.tables.items c.in_ok-table.table [] c.loop-index.index c.loop-index.invariant.count c.loop-index.invariant.each here place lt);
    }
