use Rattle.std.proofs.Common.{◌≡◌, ℕ, ◌≤◌, List, ap, sym, ◌∙◌, subst}
use Rattle.clr_joint.specs.Rows.{entries_of}
use Rattle.clr_model.specs.Stocks.{lists_of}
use Rattle.clr_joint.proofs.Built.{close, enclosed, first_choice, kept_is, near_best, opening_are, tops_all}
use Rattle.clr_joint.proofs.Limits.{lists_most}
use Rattle.clr_joint.proofs.Tables.{table_is}
use Rattle.clr_joint.proofs.joint.Joint.build.Goals as goal

pub count_lists-width-requires : goal.count_lists-width-requires
count_lists-width-requires c = subst (λ (us : List ℕ). lists_of us ≤ 1000000) (sym (c.deref.ensures.value ∙ c.in_ok-units.ensures.units)) (lists_most c.args.season.now c.opening_units.ensures.facts c.requires.fits)

pub invariant_of-result : goal.invariant_of-result
invariant_of-result c =
    let facts = c.opening_units.ensures.facts in
    let is = c.in_ok-copy.ensures ∙ c.requires.live in
    let width : c.count_lists-width.result ≡ lists_of c.in_ok-units.units.items = c.count_lists-width.ensures ∙ ap lists_of c.deref.ensures.value in
    kept_is c.args.season.now c.in_ok-copy.field-0 c.in_ok-units.units.items c.count_lists-width.result c.in_ok-lows.lows.items c.in_ok-tops.tops.items facts c.requires.fits is c.requires.any c.in_ok-units.ensures.units width c.in_ok-lows.ensures c.in_ok-tops.ensures

pub returns-clause-table : goal.returns-clause-table
returns-clause-table c =
    let facts = c.opening_units.ensures.facts in
    let is = c.in_ok-copy.ensures ∙ c.requires.live in
    let width : c.count_lists-width.result ≡ lists_of c.in_ok-units.units.items = c.count_lists-width.ensures ∙ ap lists_of c.deref.ensures.value in
    table_is c.args.season.now c.in_ok-copy.field-0 c.in_ok-units.units.items c.count_lists-width.result c.in_ok-lows.lows.items c.in_ok-tops.tops.items facts.rules is c.requires.any c.in_ok-units.ensures.units width c.in_ok-lows.ensures c.in_ok-tops.ensures

pub returns-clause-opening : goal.returns-clause-opening
returns-clause-opening c =
    let facts = c.opening_units.ensures.facts in
    let is = c.in_ok-copy.ensures ∙ c.requires.live in
    let width : c.count_lists-width.result ≡ lists_of c.in_ok-units.units.items = c.count_lists-width.ensures ∙ ap lists_of c.deref.ensures.value in
    opening_are c.args.season.now c.in_ok-copy.field-0 c.in_ok-units.units.items c.count_lists-width.result c.in_ok-lows.lows.items c.in_ok-tops.tops.items facts c.requires.fits is c.requires.any c.in_ok-units.ensures.units width c.in_ok-lows.ensures c.in_ok-tops.ensures

pub returns-clause-first : goal.returns-clause-first
returns-clause-first c =
    let facts = c.opening_units.ensures.facts in
    let is = c.in_ok-copy.ensures ∙ c.requires.live in
    let width : c.count_lists-width.result ≡ lists_of c.in_ok-units.units.items = c.count_lists-width.ensures ∙ ap lists_of c.deref.ensures.value in
    let of = table_is c.args.season.now c.in_ok-copy.field-0 c.in_ok-units.units.items c.count_lists-width.result c.in_ok-lows.lows.items c.in_ok-tops.tops.items facts.rules is c.requires.any c.in_ok-units.ensures.units width c.in_ok-lows.ensures c.in_ok-tops.ensures in
    first_choice c.args.season.now (entries_of c.in_ok-copy.field-0 c.in_ok-units.units.items c.count_lists-width.result c.in_ok-lows.lows.items c.in_ok-tops.tops.items) facts c.requires.any of

pub returns-clause-tops : goal.returns-clause-tops
returns-clause-tops c =
    let facts = c.opening_units.ensures.facts in
    let is = c.in_ok-copy.ensures ∙ c.requires.live in
    let width : c.count_lists-width.result ≡ lists_of c.in_ok-units.units.items = c.count_lists-width.ensures ∙ ap lists_of c.deref.ensures.value in
    let values = opening_are c.args.season.now c.in_ok-copy.field-0 c.in_ok-units.units.items c.count_lists-width.result c.in_ok-lows.lows.items c.in_ok-tops.tops.items facts c.requires.fits is c.requires.any c.in_ok-units.ensures.units width c.in_ok-lows.ensures c.in_ok-tops.ensures in
    tops_all c.args.season.now (entries_of c.in_ok-copy.field-0 c.in_ok-units.units.items c.count_lists-width.result c.in_ok-lows.lows.items c.in_ok-tops.tops.items) facts values

pub returns-clause-encloses : goal.returns-clause-encloses
returns-clause-encloses c =
    let facts = c.opening_units.ensures.facts in
    let is = c.in_ok-copy.ensures ∙ c.requires.live in
    let width : c.count_lists-width.result ≡ lists_of c.in_ok-units.units.items = c.count_lists-width.ensures ∙ ap lists_of c.deref.ensures.value in
    let values = opening_are c.args.season.now c.in_ok-copy.field-0 c.in_ok-units.units.items c.count_lists-width.result c.in_ok-lows.lows.items c.in_ok-tops.tops.items facts c.requires.fits is c.requires.any c.in_ok-units.ensures.units width c.in_ok-lows.ensures c.in_ok-tops.ensures in
    enclosed c.args.season.now (entries_of c.in_ok-copy.field-0 c.in_ok-units.units.items c.count_lists-width.result c.in_ok-lows.lows.items c.in_ok-tops.tops.items) facts c.requires.any values

pub returns-clause-close : goal.returns-clause-close
returns-clause-close c =
    let facts = c.opening_units.ensures.facts in
    let is = c.in_ok-copy.ensures ∙ c.requires.live in
    let width : c.count_lists-width.result ≡ lists_of c.in_ok-units.units.items = c.count_lists-width.ensures ∙ ap lists_of c.deref.ensures.value in
    let values = opening_are c.args.season.now c.in_ok-copy.field-0 c.in_ok-units.units.items c.count_lists-width.result c.in_ok-lows.lows.items c.in_ok-tops.tops.items facts c.requires.fits is c.requires.any c.in_ok-units.ensures.units width c.in_ok-lows.ensures c.in_ok-tops.ensures in
    close c.args.season.now (entries_of c.in_ok-copy.field-0 c.in_ok-units.units.items c.count_lists-width.result c.in_ok-lows.lows.items c.in_ok-tops.tops.items) facts c.requires.any values

pub returns-clause-near_best : goal.returns-clause-near_best
returns-clause-near_best c = near_best c.args.season.now c.opening_units.ensures.facts c.requires.any
