use Rattle.std.proofs.Common.{◌*◌, ◌+◌, ◌%◌, ◌<◌, ◌≤◌, ℕ, ap₂, subst, arith, length, mul-le-mul}
use Rattle.std.proofs.lemmas.Option.{slice_get_within}
use Rattle.clr_rules.specs.LiveSummaries.{live_summaries}
use Rattle.clr_model.specs.Fits.{stock_lists}
use Rattle.clr_check.specs.Rows.{IsPut}
use Rattle.clr_cert.proofs.Counting.{few_live}
use Rattle.clr_check.proofs.Holding.{among_live, live_here, number_room, place_is}
use Rattle.clr_check.proofs.keeping.keep_joint.Goals as goal

pub place-requires : goal.place-requires
place-requires c = among_live c.args.season.now c.args.live.now c.args.done c.args.s c.requires.live c.requires.place.early c.requires.place.live

few : (a b m : ℕ) → a < m → m ≤ 1872 → b ≤ 16032024008001 → a * b ≤ 1872 * 16032024008001
few a b m p q r = mul-le-mul (less p q) r
  where
    less : a < m → m ≤ 1872 → a ≤ 1872
    less p q = omega arith

pub overflow_mul-from : goal.overflow_mul-from
overflow_mul-from c =
    let place = slice_get_within (live_summaries c.args.season.now.rules c.args.done) c.place.result c.args.s (live_here c.args.season.now c.args.live.now c.args.done c.place.result c.args.s c.requires.live c.requires.place.early c.place.ensures) in
    let most : c.place.result * c.lists_of_stocks-lists.result ≤ 1872 * 16032024008001 = few c.place.result c.lists_of_stocks-lists.result _ place (few_live c.args.season.now c.args.done c.weeks.ensures.facts) c.lists_of_stocks-lists.ensures.range in
    record { fits = omega (arith, most) }

pub overflow_add-from : goal.overflow_add-from
overflow_add-from c =
    let place = slice_get_within (live_summaries c.args.season.now.rules c.args.done) c.place.result c.args.s (live_here c.args.season.now c.args.live.now c.args.done c.place.result c.args.s c.requires.live c.requires.place.early c.place.ensures) in
    let most : c.place.result * c.lists_of_stocks-lists.result ≤ 1872 * 16032024008001 = few c.place.result c.lists_of_stocks-lists.result _ place (few_live c.args.season.now c.args.done c.weeks.ensures.facts) c.lists_of_stocks-lists.ensures.range in
    record { fits = omega (arith, most, c.requires.place.within, c.lists_of_stocks-lists.ensures.range, c.lists_of_stocks-lists.ensures.value) }

pub put-requires-clause-room : goal.put-requires-clause-room
put-requires-clause-room c =
    rw (c.requires.one, c.lists_of_stocks-lists.ensures.value)
    (number_room c.place.result (length (live_summaries c.args.season.now.rules c.args.done)) (stock_lists c.args.season.now.stores) c.args.index _
    (slice_get_within (live_summaries c.args.season.now.rules c.args.done) c.place.result c.args.s (live_here c.args.season.now c.args.live.now c.args.done c.place.result c.args.s c.requires.live c.requires.place.early c.place.ensures)) c.requires.place.within c.requires.rows.size)

pub returns : goal.returns
returns c =
    subst (λ from. IsPut c.args.rows.now (c.args.done % 2) from c.args.numbers.now c.put.new.self)
    (ap₂ (λ a b. a * b + c.args.index) (place_is c.args.season.now c.args.live.now c.args.done c.place.result c.args.s c.requires.live c.requires.place.early c.place.ensures) c.lists_of_stocks-lists.ensures.value) c.put.ensures
