use Rattle.std.proofs.Common.{◌*◌, ap₂, subst₂, length}
use Rattle.std.proofs.lemmas.Option.{slice_get_within}
use Rattle.clr_rules.specs.LiveSummaries.{live_summaries}
use Rattle.clr_check.specs.Rows.{IsPut}
use Rattle.clr_check.specs.Standing.{stock_count}
use Rattle.clr_check.proofs.Holding.{among_live, live_here, place_is, segment_room}
use Rattle.clr_check.proofs.keeping.keep_values.Goals as goal

pub place-requires : goal.place-requires
place-requires c = among_live c.args.season.now c.args.live.now c.args.done c.args.s c.requires.live c.requires.place.early c.requires.here

pub put-requires-clause-room : goal.put-requires-clause-room
put-requires-clause-room c =
    rw c.row_number.ensures
    (segment_room c.place.result (length (live_summaries c.args.season.now.rules c.args.done)) (stock_count c.args.season.now c.args.store) (length c.args.numbers.now) _
    (slice_get_within (live_summaries c.args.season.now.rules c.args.done) c.place.result c.args.s (live_here c.args.season.now c.args.live.now c.args.done c.place.result c.args.s c.requires.live c.requires.place.early c.place.ensures)) c.requires.count c.requires.rows.size)

pub returns : goal.returns
returns c =
    subst₂ (λ row from. IsPut c.args.rows.now row from c.args.numbers.now c.put.new.self) c.row_number.ensures
    (ap₂ (λ a b. a * b) (place_is c.args.season.now c.args.live.now c.args.done c.place.result c.args.s c.requires.live c.requires.place.early c.place.ensures) c.requires.count) c.put.ensures
