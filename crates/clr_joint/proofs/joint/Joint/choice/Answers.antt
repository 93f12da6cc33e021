use Rattle.std.proofs.Common.{◌≡◌, ℕ, ◌<◌, ◌≤◌, ◌+◌, ◌*◌, List, length, get_or, Option, unwrap_or, arith, ap, ap₂, sym, ◌∙◌, subst}
use Rattle.clr_rules.specs.LiveSummaries.{at_week}
use Rattle.clr_rows.specs.Rows.{WeekRows, place_of, row_at, week_at}
use Rattle.clr_rows.proofs.Places.{place_found}
use Rattle.clr_model.specs.Stocks.{place_in}
use Rattle.clr_joint.proofs.Tables.{among_kept, read_choice}
use Rattle.clr_joint.proofs.joint.Joint.choice.Goals as goal

pub place_of_stocks-place-requires-clause-same : goal.place_of_stocks-place-requires-clause-same
place_of_stocks-place-requires-clause-same c =
    let row : c.unwrap_or-row.result ≡ place_of (at_week c.args.done c.self.inside.live) c.args.s
    = c.unwrap_or-row.ensures ∙ ap (λ (o : Option ℕ). unwrap_or o 0) (c.find.ensures.listed (place_of (at_week c.args.done c.self.inside.live) c.args.s) (place_found (at_week c.args.done c.self.inside.live) c.args.s (among_kept c.self.inside.live c.self.inside.units.items c.self.inside.width c.self.inside.lows.items c.self.inside.tops.items c.args.self.now c.args.done c.args.s c.self.view_is c.requires.entry))) in
    let read = read_choice c.self.inside.live c.self.inside.units.items c.self.inside.width c.self.inside.lows.items c.self.inside.tops.items c.args.self.now c.args.done c.args.s c.args.stocks.now c.unwrap_or-row.result c.self.view_is c.self.invariant c.requires.entry c.requires.stocks row in
    read.long ∙ ap length (sym c.deref.ensures.value)

pub place_of_stocks-place-requires-clause-inside : goal.place_of_stocks-place-requires-clause-inside
place_of_stocks-place-requires-clause-inside c =
    let row : c.unwrap_or-row.result ≡ place_of (at_week c.args.done c.self.inside.live) c.args.s
    = c.unwrap_or-row.ensures ∙ ap (λ (o : Option ℕ). unwrap_or o 0) (c.find.ensures.listed (place_of (at_week c.args.done c.self.inside.live) c.args.s) (place_found (at_week c.args.done c.self.inside.live) c.args.s (among_kept c.self.inside.live c.self.inside.units.items c.self.inside.width c.self.inside.lows.items c.self.inside.tops.items c.args.self.now c.args.done c.args.s c.self.view_is c.requires.entry))) in
    let read = read_choice c.self.inside.live c.self.inside.units.items c.self.inside.width c.self.inside.lows.items c.self.inside.tops.items c.args.self.now c.args.done c.args.s c.args.stocks.now c.unwrap_or-row.result c.self.view_is c.self.invariant c.requires.entry c.requires.stocks row in
    subst (λ (us : List ℕ). place_in us c.args.stocks.now < 18446744073709551616) (sym c.deref.ensures.value) (omega (arith, read.place, c.self.invariant.few))

pub choice_at-requires-clause-done : goal.choice_at-requires-clause-done
choice_at-requires-clause-done c =
    let row : c.unwrap_or-row.result ≡ place_of (at_week c.args.done c.self.inside.live) c.args.s
    = c.unwrap_or-row.ensures ∙ ap (λ (o : Option ℕ). unwrap_or o 0) (c.find.ensures.listed (place_of (at_week c.args.done c.self.inside.live) c.args.s) (place_found (at_week c.args.done c.self.inside.live) c.args.s (among_kept c.self.inside.live c.self.inside.units.items c.self.inside.width c.self.inside.lows.items c.self.inside.tops.items c.args.self.now c.args.done c.args.s c.self.view_is c.requires.entry))) in
    let read = read_choice c.self.inside.live c.self.inside.units.items c.self.inside.width c.self.inside.lows.items c.self.inside.tops.items c.args.self.now c.args.done c.args.s c.args.stocks.now c.unwrap_or-row.result c.self.view_is c.self.invariant c.requires.entry c.requires.stocks row in
    subst (λ (weeks : List WeekRows). c.args.done < length weeks) (sym c.deref-2.ensures.value) read.early

pub choice_at-requires-clause-row : goal.choice_at-requires-clause-row
choice_at-requires-clause-row c =
    let row : c.unwrap_or-row.result ≡ place_of (at_week c.args.done c.self.inside.live) c.args.s
    = c.unwrap_or-row.ensures ∙ ap (λ (o : Option ℕ). unwrap_or o 0) (c.find.ensures.listed (place_of (at_week c.args.done c.self.inside.live) c.args.s) (place_found (at_week c.args.done c.self.inside.live) c.args.s (among_kept c.self.inside.live c.self.inside.units.items c.self.inside.width c.self.inside.lows.items c.self.inside.tops.items c.args.self.now c.args.done c.args.s c.self.view_is c.requires.entry))) in
    let read = read_choice c.self.inside.live c.self.inside.units.items c.self.inside.width c.self.inside.lows.items c.self.inside.tops.items c.args.self.now c.args.done c.args.s c.args.stocks.now c.unwrap_or-row.result c.self.view_is c.self.invariant c.requires.entry c.requires.stocks row in
    subst (λ (weeks : List WeekRows). (c.unwrap_or-row.result + 1) * c.self.inside.width ≤ length (week_at weeks c.args.done).choices) (sym c.deref-2.ensures.value) read.fits

pub choice_at-requires-clause-place : goal.choice_at-requires-clause-place
choice_at-requires-clause-place c =
    let row : c.unwrap_or-row.result ≡ place_of (at_week c.args.done c.self.inside.live) c.args.s
    = c.unwrap_or-row.ensures ∙ ap (λ (o : Option ℕ). unwrap_or o 0) (c.find.ensures.listed (place_of (at_week c.args.done c.self.inside.live) c.args.s) (place_found (at_week c.args.done c.self.inside.live) c.args.s (among_kept c.self.inside.live c.self.inside.units.items c.self.inside.width c.self.inside.lows.items c.self.inside.tops.items c.args.self.now c.args.done c.args.s c.self.view_is c.requires.entry))) in
    let read = read_choice c.self.inside.live c.self.inside.units.items c.self.inside.width c.self.inside.lows.items c.self.inside.tops.items c.args.self.now c.args.done c.args.s c.args.stocks.now c.unwrap_or-row.result c.self.view_is c.self.invariant c.requires.entry c.requires.stocks row in
    let place : c.place_of_stocks-place.result ≡ place_in c.self.inside.units.items c.args.stocks.now = c.place_of_stocks-place.ensures ∙ ap (λ (us : List ℕ). place_in us c.args.stocks.now) c.deref.ensures.value in
    subst (λ n. n < c.self.inside.width) (sym place) read.place

pub returns : goal.returns
returns c =
    let row : c.unwrap_or-row.result ≡ place_of (at_week c.args.done c.self.inside.live) c.args.s
    = c.unwrap_or-row.ensures ∙ ap (λ (o : Option ℕ). unwrap_or o 0) (c.find.ensures.listed (place_of (at_week c.args.done c.self.inside.live) c.args.s) (place_found (at_week c.args.done c.self.inside.live) c.args.s (among_kept c.self.inside.live c.self.inside.units.items c.self.inside.width c.self.inside.lows.items c.self.inside.tops.items c.args.self.now c.args.done c.args.s c.self.view_is c.requires.entry))) in
    let read = read_choice c.self.inside.live c.self.inside.units.items c.self.inside.width c.self.inside.lows.items c.self.inside.tops.items c.args.self.now c.args.done c.args.s c.args.stocks.now c.unwrap_or-row.result c.self.view_is c.self.invariant c.requires.entry c.requires.stocks row in
    let place : c.place_of_stocks-place.result ≡ place_in c.self.inside.units.items c.args.stocks.now = c.place_of_stocks-place.ensures ∙ ap (λ (us : List ℕ). place_in us c.args.stocks.now) c.deref.ensures.value in
    c.from.ensures ∙ (c.choice_at.ensures ∙ (ap₂ (λ (weeks : List WeekRows) (k : ℕ). get_or (row_at c.self.inside.width (week_at weeks c.args.done).choices c.unwrap_or-row.result) k 0) c.deref-2.ensures.value place ∙ read.is))
