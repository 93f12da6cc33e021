use Rattle.std.proofs.Common.{◌≡◌, ℕ, ◌<◌, ◌-◌, suc, List, [], length, get_or, Option, unwrap_or, ap, ap₂, sym, ◌∙◌, arith}
use Rattle.std.proofs.lemmas.List.{get_or_default}
use Rattle.clr_rules.specs.LiveSummaries.{IsAmong, at_week}
use Rattle.clr_rows.specs.Rows.{WeekRows, place_of, row_at, week_at}
use Rattle.clr_storedp.specs.Tables.{Entry, choices_of}
use Rattle.clr_rows.proofs.Places.{place_found, row_inside}
use Rattle.clr_storedp.proofs.TableLemmas.{among_kept, entry_choices, to_come}
use Rattle.clr_storedp.proofs.table.StoreTable.choices.Goals as goal

pub overflow_sub-len : goal.overflow_sub-len
overflow_sub-len g c =
    let among : IsAmong c.self.inside.live c.args.done c.args.s = among_kept c.self.inside.live c.self.inside.width c.self.inside.weeks.items c.args.self.now c.args.done c.args.s c.self.view_is c.requires.entry in
    let early : c.args.done < length c.self.inside.weeks.items = c.self.invariant.weeks_done c.args.done c.args.s among in
    let len : c.len.result ≡ length c.self.inside.weeks.items = c.len.ensures ∙ c.self.inside.weeks.ok.0 in
    omega (arith, len, early)

pub overflow_sub-len-2 : goal.overflow_sub-len-2
overflow_sub-len-2 g c =
    let among : IsAmong c.self.inside.live c.args.done c.args.s = among_kept c.self.inside.live c.self.inside.width c.self.inside.weeks.items c.args.self.now c.args.done c.args.s c.self.view_is c.requires.entry in
    let early : c.args.done < length c.self.inside.weeks.items = c.self.invariant.weeks_done c.args.done c.args.s among in
    let len : c.len.result ≡ length c.self.inside.weeks.items = c.len.ensures ∙ c.self.inside.weeks.ok.0 in
    omega (arith, len, early)

pub index-week-requires : goal.index-week-requires
index-week-requires g c =
    let among : IsAmong c.self.inside.live c.args.done c.args.s = among_kept c.self.inside.live c.self.inside.width c.self.inside.weeks.items c.args.self.now c.args.done c.args.s c.self.view_is c.requires.entry in
    let early : c.args.done < length c.self.inside.weeks.items = c.self.invariant.weeks_done c.args.done c.args.s among in
    let len : c.len.result ≡ length c.self.inside.weeks.items = c.len.ensures ∙ c.self.inside.weeks.ok.0 in
    omega (arith, len, early, c.len.ensures)

pub row_of-requires : goal.row_of-requires
row_of-requires g c =
    let among : IsAmong c.self.inside.live c.args.done c.args.s = among_kept c.self.inside.live c.self.inside.width c.self.inside.weeks.items c.args.self.now c.args.done c.args.s c.self.view_is c.requires.entry in
    let early : c.args.done < length c.self.inside.weeks.items = c.self.invariant.weeks_done c.args.done c.args.s among in
    let len : c.len.result ≡ length c.self.inside.weeks.items = c.len.ensures ∙ c.self.inside.weeks.ok.0 in
    let place : c.unwrap_or-place.result ≡ place_of (at_week c.args.done c.self.inside.live) c.args.s = c.unwrap_or-place.ensures ∙ ap (λ (o : Option ℕ). unwrap_or o 0) (c.find.ensures.listed (place_of (at_week c.args.done c.self.inside.live) c.args.s) (place_found (at_week c.args.done c.self.inside.live) c.args.s among)) in
    let week : c.index-week.result.now ≡ week_at c.self.inside.weeks.items c.args.done = c.index-week.ensures ∙ (get_or_default c.self.inside.weeks.items (c.len.result - 1 - c.args.done) c.index-week.result.now (record { values = []; choices = [] }) (omega (arith, len, early)) ∙ ap (λ n. get_or c.self.inside.weeks.items (n - 1 - c.args.done) (record { values = []; choices = [] })) len) in
    let later : suc c.args.done < length c.self.inside.weeks.items = to_come c.self.inside.live c.self.inside.width c.self.inside.weeks.items c.args.self.now c.args.done c.args.s c.self.view_is among c.self.invariant c.requires.some in
    row_inside c.self.inside.live c.self.inside.width c.unwrap_or-place.result (length c.choices.result.now) c.args.done c.args.s among place (ap length (c.choices.ensures ∙ ap (λ (w : WeekRows). w.choices) week) ∙ c.self.invariant.choices c.args.done later)

pub returns : goal.returns
returns g c =
    let among : IsAmong c.self.inside.live c.args.done c.args.s = among_kept c.self.inside.live c.self.inside.width c.self.inside.weeks.items c.args.self.now c.args.done c.args.s c.self.view_is c.requires.entry in
    let early : c.args.done < length c.self.inside.weeks.items = c.self.invariant.weeks_done c.args.done c.args.s among in
    let len : c.len.result ≡ length c.self.inside.weeks.items = c.len.ensures ∙ c.self.inside.weeks.ok.0 in
    let place : c.unwrap_or-place.result ≡ place_of (at_week c.args.done c.self.inside.live) c.args.s = c.unwrap_or-place.ensures ∙ ap (λ (o : Option ℕ). unwrap_or o 0) (c.find.ensures.listed (place_of (at_week c.args.done c.self.inside.live) c.args.s) (place_found (at_week c.args.done c.self.inside.live) c.args.s among)) in
    let week : c.index-week.result.now ≡ week_at c.self.inside.weeks.items c.args.done = c.index-week.ensures ∙ (get_or_default c.self.inside.weeks.items (c.len.result - 1 - c.args.done) c.index-week.result.now (record { values = []; choices = [] }) (omega (arith, len, early)) ∙ ap (λ n. get_or c.self.inside.weeks.items (n - 1 - c.args.done) (record { values = []; choices = [] })) len) in
    c.row_of.ensures.row
    ∙ (ap₂ (λ items p. row_at c.self.inside.width items p) (c.choices.ensures ∙ ap (λ (w : WeekRows). w.choices) week) place
    ∙ (sym (entry_choices c.self.inside.live c.self.inside.width c.self.inside.weeks.items c.args.done c.args.s among) ∙ ap (λ (t : List Entry). choices_of t c.args.done c.args.s) c.self.view_is))
