use Rattle.std.proofs.Common.{◌≡◌, ◌≤◌, rules}
use Rattle.clr_rules.specs.Rules.{IsRulebook, rulebook_of}
use Rattle.clr_season.specs.Season.{cells, most_cells}
use Rattle.clr_season.proofs.Parts.{parts_fit}
use Rattle.clr_season.proofs.whole.season_of_parts.Goals as goal

pub of_parts-requires : goal.of_parts-requires
of_parts-requires c =
    let book : c.in-Ok.rules ≡ rulebook_of c.args.limits c.args.calendar c.args.ladder.now = c.in-Ok.ensures.rules in
    let facts : IsRulebook (rulebook_of c.args.limits c.args.calendar c.args.ladder.now) = rw book at c.in-Ok.ensures.facts in
    let few : cells c.in-Ok.rules c.args.stock ≤ most_cells = search rules in
    let fewer : cells (rulebook_of c.args.limits c.args.calendar c.args.ladder.now) c.args.stock ≤ most_cells = rw book at few in
    rw book (parts_fit c.args.limits c.args.calendar c.args.ladder.now c.args.stock c.args.demand c.requires.limits facts c.requires.some c.requires.stores c.requires.weights fewer)
