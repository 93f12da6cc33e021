use Rattle.std.proofs.Common.{rules, ◌≡◌, ℕ, ◌<◌, ◌≤◌, ◌+◌, ◌*◌, pos, List, length, get_or, Option, unwrap_or, arith, ap, ap₂, sym, ◌∙◌, subst, SFits, to_z, of_z}
use Rattle.std.proofs.lemmas.Int.{to_z-of_z}
use mir.Syntax.{w64}
use Rattle.clr_rules.specs.LiveSummaries.{at_week}
use Rattle.clr_average.specs.Average.{IsWithin}
use Rattle.clr_rows.specs.Rows.{WeekRows, place_of, row_at, week_at}
use Rattle.clr_rows.proofs.Places.{place_found}
use Rattle.clr_model.specs.Stocks.{place_in}
use Rattle.clr_joint.proofs.Tables.{among_kept, read_values}
use Rattle.clr_joint.proofs.joint.Joint.at.Goals as goal

pub place_of_stocks-place-requires-clause-same : goal.place_of_stocks-place-requires-clause-same
place_of_stocks-place-requires-clause-same c =
    let row : c.unwrap_or-row.result ≡ place_of (at_week c.args.done c.self.inside.live) c.args.s
    = c.unwrap_or-row.ensures ∙ ap (λ (o : Option ℕ). unwrap_or o 0) (c.find.ensures.listed (place_of (at_week c.args.done c.self.inside.live) c.args.s) (place_found (at_week c.args.done c.self.inside.live) c.args.s (among_kept c.self.inside.live c.self.inside.units.items c.self.inside.width c.self.inside.lows.items c.self.inside.tops.items c.args.self.now c.args.done c.args.s c.self.view_is c.requires.entry))) in
    let read = read_values c.self.inside.live c.self.inside.units.items c.self.inside.width c.self.inside.lows.items c.self.inside.tops.items c.args.self.now c.args.done c.args.s c.args.stocks.now c.unwrap_or-row.result c.self.view_is c.self.invariant c.requires.entry c.requires.stocks row in
    read.long ∙ ap length (sym c.deref.ensures.value)

pub place_of_stocks-place-requires-clause-inside : goal.place_of_stocks-place-requires-clause-inside
place_of_stocks-place-requires-clause-inside c =
    let row : c.unwrap_or-row.result ≡ place_of (at_week c.args.done c.self.inside.live) c.args.s
    = c.unwrap_or-row.ensures ∙ ap (λ (o : Option ℕ). unwrap_or o 0) (c.find.ensures.listed (place_of (at_week c.args.done c.self.inside.live) c.args.s) (place_found (at_week c.args.done c.self.inside.live) c.args.s (among_kept c.self.inside.live c.self.inside.units.items c.self.inside.width c.self.inside.lows.items c.self.inside.tops.items c.args.self.now c.args.done c.args.s c.self.view_is c.requires.entry))) in
    let read = read_values c.self.inside.live c.self.inside.units.items c.self.inside.width c.self.inside.lows.items c.self.inside.tops.items c.args.self.now c.args.done c.args.s c.args.stocks.now c.unwrap_or-row.result c.self.view_is c.self.invariant c.requires.entry c.requires.stocks row in
    subst (λ (us : List ℕ). place_in us c.args.stocks.now < 18446744073709551616) (sym c.deref.ensures.value) (omega (arith, read.place, c.self.invariant.few))

pub value_at-low-requires-clause-done : goal.value_at-low-requires-clause-done
value_at-low-requires-clause-done c =
    let row : c.unwrap_or-row.result ≡ place_of (at_week c.args.done c.self.inside.live) c.args.s
    = c.unwrap_or-row.ensures ∙ ap (λ (o : Option ℕ). unwrap_or o 0) (c.find.ensures.listed (place_of (at_week c.args.done c.self.inside.live) c.args.s) (place_found (at_week c.args.done c.self.inside.live) c.args.s (among_kept c.self.inside.live c.self.inside.units.items c.self.inside.width c.self.inside.lows.items c.self.inside.tops.items c.args.self.now c.args.done c.args.s c.self.view_is c.requires.entry))) in
    let read = read_values c.self.inside.live c.self.inside.units.items c.self.inside.width c.self.inside.lows.items c.self.inside.tops.items c.args.self.now c.args.done c.args.s c.args.stocks.now c.unwrap_or-row.result c.self.view_is c.self.invariant c.requires.entry c.requires.stocks row in
    subst (λ (weeks : List WeekRows). c.args.done < length weeks) (sym c.deref-2.ensures.value) read.early

pub value_at-low-requires-clause-row : goal.value_at-low-requires-clause-row
value_at-low-requires-clause-row c =
    let row : c.unwrap_or-row.result ≡ place_of (at_week c.args.done c.self.inside.live) c.args.s
    = c.unwrap_or-row.ensures ∙ ap (λ (o : Option ℕ). unwrap_or o 0) (c.find.ensures.listed (place_of (at_week c.args.done c.self.inside.live) c.args.s) (place_found (at_week c.args.done c.self.inside.live) c.args.s (among_kept c.self.inside.live c.self.inside.units.items c.self.inside.width c.self.inside.lows.items c.self.inside.tops.items c.args.self.now c.args.done c.args.s c.self.view_is c.requires.entry))) in
    let read = read_values c.self.inside.live c.self.inside.units.items c.self.inside.width c.self.inside.lows.items c.self.inside.tops.items c.args.self.now c.args.done c.args.s c.args.stocks.now c.unwrap_or-row.result c.self.view_is c.self.invariant c.requires.entry c.requires.stocks row in
    subst (λ (weeks : List WeekRows). (c.unwrap_or-row.result + 1) * c.self.inside.width ≤ length (week_at weeks c.args.done).values) (sym c.deref-2.ensures.value) read.low_row

pub value_at-low-requires-clause-place : goal.value_at-low-requires-clause-place
value_at-low-requires-clause-place c =
    let row : c.unwrap_or-row.result ≡ place_of (at_week c.args.done c.self.inside.live) c.args.s
    = c.unwrap_or-row.ensures ∙ ap (λ (o : Option ℕ). unwrap_or o 0) (c.find.ensures.listed (place_of (at_week c.args.done c.self.inside.live) c.args.s) (place_found (at_week c.args.done c.self.inside.live) c.args.s (among_kept c.self.inside.live c.self.inside.units.items c.self.inside.width c.self.inside.lows.items c.self.inside.tops.items c.args.self.now c.args.done c.args.s c.self.view_is c.requires.entry))) in
    let read = read_values c.self.inside.live c.self.inside.units.items c.self.inside.width c.self.inside.lows.items c.self.inside.tops.items c.args.self.now c.args.done c.args.s c.args.stocks.now c.unwrap_or-row.result c.self.view_is c.self.invariant c.requires.entry c.requires.stocks row in
    let place : c.place_of_stocks-place.result ≡ place_in c.self.inside.units.items c.args.stocks.now = c.place_of_stocks-place.ensures ∙ ap (λ (us : List ℕ). place_in us c.args.stocks.now) c.deref.ensures.value in
    subst (λ n. n < c.self.inside.width) (sym place) read.place

pub value_at-top-requires-clause-done : goal.value_at-top-requires-clause-done
value_at-top-requires-clause-done c =
    let row : c.unwrap_or-row.result ≡ place_of (at_week c.args.done c.self.inside.live) c.args.s
    = c.unwrap_or-row.ensures ∙ ap (λ (o : Option ℕ). unwrap_or o 0) (c.find.ensures.listed (place_of (at_week c.args.done c.self.inside.live) c.args.s) (place_found (at_week c.args.done c.self.inside.live) c.args.s (among_kept c.self.inside.live c.self.inside.units.items c.self.inside.width c.self.inside.lows.items c.self.inside.tops.items c.args.self.now c.args.done c.args.s c.self.view_is c.requires.entry))) in
    let read = read_values c.self.inside.live c.self.inside.units.items c.self.inside.width c.self.inside.lows.items c.self.inside.tops.items c.args.self.now c.args.done c.args.s c.args.stocks.now c.unwrap_or-row.result c.self.view_is c.self.invariant c.requires.entry c.requires.stocks row in
    subst (λ (weeks : List WeekRows). c.args.done < length weeks) (sym c.deref-3.ensures.value) read.also

pub value_at-top-requires-clause-row : goal.value_at-top-requires-clause-row
value_at-top-requires-clause-row c =
    let row : c.unwrap_or-row.result ≡ place_of (at_week c.args.done c.self.inside.live) c.args.s
    = c.unwrap_or-row.ensures ∙ ap (λ (o : Option ℕ). unwrap_or o 0) (c.find.ensures.listed (place_of (at_week c.args.done c.self.inside.live) c.args.s) (place_found (at_week c.args.done c.self.inside.live) c.args.s (among_kept c.self.inside.live c.self.inside.units.items c.self.inside.width c.self.inside.lows.items c.self.inside.tops.items c.args.self.now c.args.done c.args.s c.self.view_is c.requires.entry))) in
    let read = read_values c.self.inside.live c.self.inside.units.items c.self.inside.width c.self.inside.lows.items c.self.inside.tops.items c.args.self.now c.args.done c.args.s c.args.stocks.now c.unwrap_or-row.result c.self.view_is c.self.invariant c.requires.entry c.requires.stocks row in
    subst (λ (weeks : List WeekRows). (c.unwrap_or-row.result + 1) * c.self.inside.width ≤ length (week_at weeks c.args.done).values) (sym c.deref-3.ensures.value) read.top_row

pub value_at-top-requires-clause-place : goal.value_at-top-requires-clause-place
value_at-top-requires-clause-place c =
    let row : c.unwrap_or-row.result ≡ place_of (at_week c.args.done c.self.inside.live) c.args.s
    = c.unwrap_or-row.ensures ∙ ap (λ (o : Option ℕ). unwrap_or o 0) (c.find.ensures.listed (place_of (at_week c.args.done c.self.inside.live) c.args.s) (place_found (at_week c.args.done c.self.inside.live) c.args.s (among_kept c.self.inside.live c.self.inside.units.items c.self.inside.width c.self.inside.lows.items c.self.inside.tops.items c.args.self.now c.args.done c.args.s c.self.view_is c.requires.entry))) in
    let read = read_values c.self.inside.live c.self.inside.units.items c.self.inside.width c.self.inside.lows.items c.self.inside.tops.items c.args.self.now c.args.done c.args.s c.args.stocks.now c.unwrap_or-row.result c.self.view_is c.self.invariant c.requires.entry c.requires.stocks row in
    let place : c.place_of_stocks-place.result ≡ place_in c.self.inside.units.items c.args.stocks.now = c.place_of_stocks-place.ensures ∙ ap (λ (us : List ℕ). place_in us c.args.stocks.now) c.deref.ensures.value in
    subst (λ n. n < c.self.inside.width) (sym place) read.place

pub returns-clause-value : goal.returns-clause-value
returns-clause-value c =
    let row : c.unwrap_or-row.result ≡ place_of (at_week c.args.done c.self.inside.live) c.args.s
    = c.unwrap_or-row.ensures ∙ ap (λ (o : Option ℕ). unwrap_or o 0) (c.find.ensures.listed (place_of (at_week c.args.done c.self.inside.live) c.args.s) (place_found (at_week c.args.done c.self.inside.live) c.args.s (among_kept c.self.inside.live c.self.inside.units.items c.self.inside.width c.self.inside.lows.items c.self.inside.tops.items c.args.self.now c.args.done c.args.s c.self.view_is c.requires.entry))) in
    let read = read_values c.self.inside.live c.self.inside.units.items c.self.inside.width c.self.inside.lows.items c.self.inside.tops.items c.args.self.now c.args.done c.args.s c.args.stocks.now c.unwrap_or-row.result c.self.view_is c.self.invariant c.requires.entry c.requires.stocks row in
    let place : c.place_of_stocks-place.result ≡ place_in c.self.inside.units.items c.args.stocks.now = c.place_of_stocks-place.ensures ∙ ap (λ (us : List ℕ). place_in us c.args.stocks.now) c.deref.ensures.value in
    let low_fits : SFits w64 c.value_at-low.result = search rules in
    let low : to_z w64 (of_z w64 c.value_at-low.result) ≡ get_or (row_at c.self.inside.width (week_at c.self.inside.lows.items c.args.done).values c.unwrap_or-row.result) (place_in c.self.inside.units.items c.args.stocks.now) (pos 0)
    = to_z-of_z w64 c.value_at-low.result low_fits ∙ (c.value_at-low.ensures ∙ ap₂ (λ (weeks : List WeekRows) (k : ℕ). get_or (row_at c.self.inside.width (week_at weeks c.args.done).values c.unwrap_or-row.result) k (pos 0)) c.deref-2.ensures.value place) in
    let top_fits : SFits w64 c.value_at-top.result = search rules in
    let top : to_z w64 (of_z w64 c.value_at-top.result) ≡ get_or (row_at c.self.inside.width (week_at c.self.inside.tops.items c.args.done).values c.unwrap_or-row.result) (place_in c.self.inside.units.items c.args.stocks.now) (pos 0)
    = to_z-of_z w64 c.value_at-top.result top_fits ∙ (c.value_at-top.ensures ∙ ap₂ (λ (weeks : List WeekRows) (k : ℕ). get_or (row_at c.self.inside.width (week_at weeks c.args.done).values c.unwrap_or-row.result) k (pos 0)) c.deref-3.ensures.value place) in
    ap₂ (λ a b. (a, b)) (low ∙ read.low_is) (top ∙ read.top_is)

pub returns-clause-low_size : goal.returns-clause-low_size
returns-clause-low_size c =
    let row : c.unwrap_or-row.result ≡ place_of (at_week c.args.done c.self.inside.live) c.args.s
    = c.unwrap_or-row.ensures ∙ ap (λ (o : Option ℕ). unwrap_or o 0) (c.find.ensures.listed (place_of (at_week c.args.done c.self.inside.live) c.args.s) (place_found (at_week c.args.done c.self.inside.live) c.args.s (among_kept c.self.inside.live c.self.inside.units.items c.self.inside.width c.self.inside.lows.items c.self.inside.tops.items c.args.self.now c.args.done c.args.s c.self.view_is c.requires.entry))) in
    let read = read_values c.self.inside.live c.self.inside.units.items c.self.inside.width c.self.inside.lows.items c.self.inside.tops.items c.args.self.now c.args.done c.args.s c.args.stocks.now c.unwrap_or-row.result c.self.view_is c.self.invariant c.requires.entry c.requires.stocks row in
    let place : c.place_of_stocks-place.result ≡ place_in c.self.inside.units.items c.args.stocks.now = c.place_of_stocks-place.ensures ∙ ap (λ (us : List ℕ). place_in us c.args.stocks.now) c.deref.ensures.value in
    let low_fits : SFits w64 c.value_at-low.result = search rules in
    let low : to_z w64 (of_z w64 c.value_at-low.result) ≡ get_or (row_at c.self.inside.width (week_at c.self.inside.lows.items c.args.done).values c.unwrap_or-row.result) (place_in c.self.inside.units.items c.args.stocks.now) (pos 0)
    = to_z-of_z w64 c.value_at-low.result low_fits ∙ (c.value_at-low.ensures ∙ ap₂ (λ (weeks : List WeekRows) (k : ℕ). get_or (row_at c.self.inside.width (week_at weeks c.args.done).values c.unwrap_or-row.result) k (pos 0)) c.deref-2.ensures.value place) in
    subst (IsWithin 1000000000000000000) (sym low) read.low_small

pub returns-clause-top_size : goal.returns-clause-top_size
returns-clause-top_size c =
    let row : c.unwrap_or-row.result ≡ place_of (at_week c.args.done c.self.inside.live) c.args.s
    = c.unwrap_or-row.ensures ∙ ap (λ (o : Option ℕ). unwrap_or o 0) (c.find.ensures.listed (place_of (at_week c.args.done c.self.inside.live) c.args.s) (place_found (at_week c.args.done c.self.inside.live) c.args.s (among_kept c.self.inside.live c.self.inside.units.items c.self.inside.width c.self.inside.lows.items c.self.inside.tops.items c.args.self.now c.args.done c.args.s c.self.view_is c.requires.entry))) in
    let read = read_values c.self.inside.live c.self.inside.units.items c.self.inside.width c.self.inside.lows.items c.self.inside.tops.items c.args.self.now c.args.done c.args.s c.args.stocks.now c.unwrap_or-row.result c.self.view_is c.self.invariant c.requires.entry c.requires.stocks row in
    let place : c.place_of_stocks-place.result ≡ place_in c.self.inside.units.items c.args.stocks.now = c.place_of_stocks-place.ensures ∙ ap (λ (us : List ℕ). place_in us c.args.stocks.now) c.deref.ensures.value in
    let top_fits : SFits w64 c.value_at-top.result = search rules in
    let top : to_z w64 (of_z w64 c.value_at-top.result) ≡ get_or (row_at c.self.inside.width (week_at c.self.inside.tops.items c.args.done).values c.unwrap_or-row.result) (place_in c.self.inside.units.items c.args.stocks.now) (pos 0)
    = to_z-of_z w64 c.value_at-top.result top_fits ∙ (c.value_at-top.ensures ∙ ap₂ (λ (weeks : List WeekRows) (k : ℕ). get_or (row_at c.self.inside.width (week_at weeks c.args.done).values c.unwrap_or-row.result) k (pos 0)) c.deref-3.ensures.value place) in
    subst (IsWithin 1000000000000000000) (sym top) read.top_small
