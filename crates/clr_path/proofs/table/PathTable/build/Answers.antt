use Rattle.std.proofs.Common.{◌≡◌, ◌+◌, [], ◌∷◌, ◌++◌, pos, ◌*ℤ◌, length, map, ap, ap₂, sym, ◌∙◌, subst, arith, add-one}
use Rattle.clr_num.specs.Lists.{numbers}
use Rattle.clr_model.specs.Expected.{den, season_earned}
use Rattle.clr_model.specs.Policies.{const_tree}
use Rattle.clr_model.specs.Revenue.{cent}
use Rattle.clr_model.proofs.PathBounds.{path_leans}
use Rattle.clr_path.specs.Tables.{IsTable, store_rows, table_total}
use Rattle.clr_path.proofs.Lists.{numbers_more}
use Rattle.clr_path.proofs.TableLemmas.{path_is_table, total_is}
use Rattle.clr_path.proofs.table.PathTable.build.Goals as goal

pub loop-index-preserved : goal.loop-index-preserved
loop-index-preserved g c =
    let rows = store_rows g.R.Direction.quotient c.args.season.now c.args.path.now in
    let place : c.loop-index.index + 1 ≡ 1 + c.loop-index.index = omega arith in
    c.in_ok-push.ensures.items
    ∙ (ap₂ (λ l x. l ++ x ∷ []) c.loop-index.invariant (c.in_ok-build_rows.ensures ∙ ap rows place)
    ∙ (sym (numbers_more rows 1 c.loop-index.index) ∙ ap (λ n. map rows (numbers 1 n)) (sym (add-one c.loop-index.index))))

pub invariant_of-result : goal.invariant_of-result
invariant_of-result g c =
    let rows = store_rows g.R.Direction.quotient c.args.season.now c.args.path.now in
    let all : c.loop-index.index ≡ length c.args.season.now.stores = omega (arith, c.loop-index-test.false, c.loop-index.auto.index-end, c.stores-count.ensures.value) in
    subst IsTable (sym (c.loop-index.invariant ∙ ap (λ n. map rows (numbers 1 n)) all)) (path_is_table g.R.Direction.quotient c.args.season.now c.args.path.now g.R.Direction.leans g.met.R.Direction.laws c.stores-count.ensures.facts c.requires)

pub returns-clause-total : goal.returns-clause-total
returns-clause-total g c =
    let rows = store_rows g.R.Direction.quotient c.args.season.now c.args.path.now in
    let all : c.loop-index.index ≡ length c.args.season.now.stores = omega (arith, c.loop-index-test.false, c.loop-index.auto.index-end, c.stores-count.ensures.value) in
    ap table_total (c.loop-index.invariant ∙ ap (λ n. map rows (numbers 1 n)) all) ∙ total_is g.R.Direction.quotient c.args.season.now c.args.path.now

pub returns-clause-leans : goal.returns-clause-leans
returns-clause-leans g c =
    let rows = store_rows g.R.Direction.quotient c.args.season.now c.args.path.now in
    let all : c.loop-index.index ≡ length c.args.season.now.stores = omega (arith, c.loop-index-test.false, c.loop-index.auto.index-end, c.stores-count.ensures.value) in
    subst (λ total. g.R.Direction.leans (total *ℤ den c.args.season.now c.args.season.now.rules.weeks) (pos cent *ℤ season_earned c.args.season.now (const_tree c.args.path.now)))
    (sym (ap table_total (c.loop-index.invariant ∙ ap (λ n. map rows (numbers 1 n)) all) ∙ total_is g.R.Direction.quotient c.args.season.now c.args.path.now))
    (path_leans g.R.Direction.leans g.R.Direction.quotient g.met.R.Direction.laws c.args.season.now c.stores-count.ensures.facts c.args.path.now c.requires)
