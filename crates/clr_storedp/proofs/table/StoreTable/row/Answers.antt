use Rattle.std.proofs.Common.{◌≡◌, ℕ, ◌<◌, ◌-◌, List, [], length, get_or, Option, unwrap_or, ap, ap₂, sym, ◌∙◌, arith}
use Rattle.std.proofs.lemmas.List.{get_or_default}
use Rattle.clr_rules.specs.LiveSummaries.{IsAmong, at_week}
use Rattle.clr_rows.specs.Rows.{WeekRows, place_of, row_at, week_at}
use Rattle.clr_storedp.specs.Tables.{Entry, values_of}
use Rattle.clr_rows.proofs.Places.{place_found, row_inside, row_small}
use Rattle.clr_storedp.proofs.TableLemmas.{among_kept, entry_values}
use Rattle.clr_storedp.proofs.table.StoreTable.row.Goals as goal

pub overflow_sub-len : goal.overflow_sub-len
overflow_sub-len g c =
    let among : IsAmong c.self.inside.live c.args.done c.args.s = among_kept c.self.inside.live c.self.inside.width c.self.inside.weeks.items c.args.self.now c.args.done c.args.s c.self.view_is c.requires in
    let early : c.args.done < length c.self.inside.weeks.items = c.self.invariant.weeks_done c.args.done c.args.s among in
    let len : c.len.result ≡ length c.self.inside.weeks.items = c.len.ensures ∙ c.self.inside.weeks.ok.0 in
    omega (arith, len, early)

pub overflow_sub-len-2 : goal.overflow_sub-len-2
overflow_sub-len-2 g c =
    let among : IsAmong c.self.inside.live c.args.done c.args.s = among_kept c.self.inside.live c.self.inside.width c.self.inside.weeks.items c.args.self.now c.args.done c.args.s c.self.view_is c.requires in
    let early : c.args.done < length c.self.inside.weeks.items = c.self.invariant.weeks_done c.args.done c.args.s among in
    let len : c.len.result ≡ length c.self.inside.weeks.items = c.len.ensures ∙ c.self.inside.weeks.ok.0 in
    omega (arith, len, early)

pub index-week-requires : goal.index-week-requires
index-week-requires g c =
    let among : IsAmong c.self.inside.live c.args.done c.args.s = among_kept c.self.inside.live c.self.inside.width c.self.inside.weeks.items c.args.self.now c.args.done c.args.s c.self.view_is c.requires in
    let early : c.args.done < length c.self.inside.weeks.items = c.self.invariant.weeks_done c.args.done c.args.s among in
    let len : c.len.result ≡ length c.self.inside.weeks.items = c.len.ensures ∙ c.self.inside.weeks.ok.0 in
    omega (arith, len, early, c.len.ensures)

pub row_of-requires : goal.row_of-requires
row_of-requires g c =
    let among : IsAmong c.self.inside.live c.args.done c.args.s = among_kept c.self.inside.live c.self.inside.width c.self.inside.weeks.items c.args.self.now c.args.done c.args.s c.self.view_is c.requires in
    let early : c.args.done < length c.self.inside.weeks.items = c.self.invariant.weeks_done c.args.done c.args.s among in
    let len : c.len.result ≡ length c.self.inside.weeks.items = c.len.ensures ∙ c.self.inside.weeks.ok.0 in
    let place : c.unwrap_or-place.result ≡ place_of (at_week c.args.done c.self.inside.live) c.args.s = c.unwrap_or-place.ensures ∙ ap (λ (o : Option ℕ). unwrap_or o 0) (c.find.ensures.listed (place_of (at_week c.args.done c.self.inside.live) c.args.s) (place_found (at_week c.args.done c.self.inside.live) c.args.s among)) in
    let week : c.index-week.result.now ≡ week_at c.self.inside.weeks.items c.args.done = c.index-week.ensures ∙ (get_or_default c.self.inside.weeks.items (c.len.result - 1 - c.args.done) c.index-week.result.now (record { values = []; choices = [] }) (omega (arith, len, early)) ∙ ap (λ n. get_or c.self.inside.weeks.items (n - 1 - c.args.done) (record { values = []; choices = [] })) len) in
    row_inside c.self.inside.live c.self.inside.width c.unwrap_or-place.result (length c.values.result.now) c.args.done c.args.s among place (ap length (c.values.ensures ∙ ap (λ (w : WeekRows). w.values) week) ∙ c.self.invariant.values c.args.done early)

pub returns-clause-values : goal.returns-clause-values
returns-clause-values g c =
    let among : IsAmong c.self.inside.live c.args.done c.args.s = among_kept c.self.inside.live c.self.inside.width c.self.inside.weeks.items c.args.self.now c.args.done c.args.s c.self.view_is c.requires in
    let early : c.args.done < length c.self.inside.weeks.items = c.self.invariant.weeks_done c.args.done c.args.s among in
    let len : c.len.result ≡ length c.self.inside.weeks.items = c.len.ensures ∙ c.self.inside.weeks.ok.0 in
    let place : c.unwrap_or-place.result ≡ place_of (at_week c.args.done c.self.inside.live) c.args.s = c.unwrap_or-place.ensures ∙ ap (λ (o : Option ℕ). unwrap_or o 0) (c.find.ensures.listed (place_of (at_week c.args.done c.self.inside.live) c.args.s) (place_found (at_week c.args.done c.self.inside.live) c.args.s among)) in
    let week : c.index-week.result.now ≡ week_at c.self.inside.weeks.items c.args.done = c.index-week.ensures ∙ (get_or_default c.self.inside.weeks.items (c.len.result - 1 - c.args.done) c.index-week.result.now (record { values = []; choices = [] }) (omega (arith, len, early)) ∙ ap (λ n. get_or c.self.inside.weeks.items (n - 1 - c.args.done) (record { values = []; choices = [] })) len) in
    c.row_of.ensures.row
    ∙ (ap₂ (λ items p. row_at c.self.inside.width items p) (c.values.ensures ∙ ap (λ (w : WeekRows). w.values) week) place
    ∙ (sym (entry_values c.self.inside.live c.self.inside.width c.self.inside.weeks.items c.args.done c.args.s among) ∙ ap (λ (t : List Entry). values_of t c.args.done c.args.s) c.self.view_is))

pub returns-clause-size : goal.returns-clause-size
returns-clause-size g c =
    let among : IsAmong c.self.inside.live c.args.done c.args.s = among_kept c.self.inside.live c.self.inside.width c.self.inside.weeks.items c.args.self.now c.args.done c.args.s c.self.view_is c.requires in
    let early : c.args.done < length c.self.inside.weeks.items = c.self.invariant.weeks_done c.args.done c.args.s among in
    let len : c.len.result ≡ length c.self.inside.weeks.items = c.len.ensures ∙ c.self.inside.weeks.ok.0 in
    let place : c.unwrap_or-place.result ≡ place_of (at_week c.args.done c.self.inside.live) c.args.s = c.unwrap_or-place.ensures ∙ ap (λ (o : Option ℕ). unwrap_or o 0) (c.find.ensures.listed (place_of (at_week c.args.done c.self.inside.live) c.args.s) (place_found (at_week c.args.done c.self.inside.live) c.args.s among)) in
    let week : c.index-week.result.now ≡ week_at c.self.inside.weeks.items c.args.done = c.index-week.ensures ∙ (get_or_default c.self.inside.weeks.items (c.len.result - 1 - c.args.done) c.index-week.result.now (record { values = []; choices = [] }) (omega (arith, len, early)) ∙ ap (λ n. get_or c.self.inside.weeks.items (n - 1 - c.args.done) (record { values = []; choices = [] })) len) in
    let values = c.values.ensures ∙ ap (λ (w : WeekRows). w.values) week in
    let inside = row_inside c.self.inside.live c.self.inside.width c.unwrap_or-place.result (length (week_at c.self.inside.weeks.items c.args.done).values) c.args.done c.args.s among place (c.self.invariant.values c.args.done early) in
    row_small 1000000000000000000 c.self.inside.width c.unwrap_or-place.result (week_at c.self.inside.weeks.items c.args.done).values c.row_of.result.now (c.self.invariant.small c.args.done early) inside
    (c.row_of.ensures.row ∙ ap (λ items. row_at c.self.inside.width items c.unwrap_or-place.result) values) c.row_of.ensures.size
