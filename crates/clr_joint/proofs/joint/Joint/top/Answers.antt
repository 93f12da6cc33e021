use Rattle.std.proofs.Common.{rules, ◌≡◌, ◌<◌, ◌≤◌, ◌-◌, ◌*◌, ℤ, pos, List, length, get_or, arith, ap, sym, ◌∙◌, subst, SFits, to_z, of_z}
use Rattle.std.proofs.lemmas.Int.{to_z-of_z}
use mir.Syntax.{w64}
use Rattle.clr_average.specs.Average.{IsWithin}
use Rattle.clr_rows.specs.Rows.{WeekRows, row_at, week_at}
use Rattle.clr_joint.proofs.Tables.{opening_is}
use Rattle.clr_joint.proofs.joint.Joint.top.Goals as goal

pub overflow_sub-self-inside : goal.overflow_sub-self-inside
overflow_sub-self-inside c =
    let read = opening_is c.self.inside.live c.self.inside.units.items c.self.inside.width c.self.inside.lows.items c.self.inside.tops.items c.args.self.now c.self.view_is c.self.invariant in
    read.some

pub value_at-requires-clause-done : goal.value_at-requires-clause-done
value_at-requires-clause-done c =
    let read = opening_is c.self.inside.live c.self.inside.units.items c.self.inside.width c.self.inside.lows.items c.self.inside.tops.items c.args.self.now c.self.view_is c.self.invariant in
    subst (λ (weeks : List WeekRows). 0 < length weeks) (sym c.deref.ensures.value) read.also

pub value_at-requires-clause-row : goal.value_at-requires-clause-row
value_at-requires-clause-row c =
    let read = opening_is c.self.inside.live c.self.inside.units.items c.self.inside.width c.self.inside.lows.items c.self.inside.tops.items c.args.self.now c.self.view_is c.self.invariant in
    subst (λ (weeks : List WeekRows). 1 * c.self.inside.width ≤ length (week_at weeks 0).values) (sym c.deref.ensures.value) read.top_row

pub value_at-requires-clause-place : goal.value_at-requires-clause-place
value_at-requires-clause-place c =
    let read = opening_is c.self.inside.live c.self.inside.units.items c.self.inside.width c.self.inside.lows.items c.self.inside.tops.items c.args.self.now c.self.view_is c.self.invariant in
    omega (arith, read.some)

pub returns-clause-value : goal.returns-clause-value
returns-clause-value c =
    let read = opening_is c.self.inside.live c.self.inside.units.items c.self.inside.width c.self.inside.lows.items c.self.inside.tops.items c.args.self.now c.self.view_is c.self.invariant in
    let fits : SFits w64 c.value_at.result = search rules in
    let value : to_z w64 (of_z w64 c.value_at.result) ≡ get_or (row_at c.self.inside.width (week_at c.self.inside.tops.items 0).values 0) (c.self.inside.width - 1) (pos 0)
    = to_z-of_z w64 c.value_at.result fits ∙ (c.value_at.ensures ∙ ap (λ (weeks : List WeekRows). get_or (row_at c.self.inside.width (week_at weeks 0).values 0) (c.self.inside.width - 1) (pos 0)) c.deref.ensures.value) in
    value ∙ sym (ap (λ (p : ℤ × ℤ). p.1) read.is)

pub returns-clause-size : goal.returns-clause-size
returns-clause-size c =
    let read = opening_is c.self.inside.live c.self.inside.units.items c.self.inside.width c.self.inside.lows.items c.self.inside.tops.items c.args.self.now c.self.view_is c.self.invariant in
    let fits : SFits w64 c.value_at.result = search rules in
    let value : to_z w64 (of_z w64 c.value_at.result) ≡ get_or (row_at c.self.inside.width (week_at c.self.inside.tops.items 0).values 0) (c.self.inside.width - 1) (pos 0)
    = to_z-of_z w64 c.value_at.result fits ∙ (c.value_at.ensures ∙ ap (λ (weeks : List WeekRows). get_or (row_at c.self.inside.width (week_at weeks 0).values 0) (c.self.inside.width - 1) (pos 0)) c.deref.ensures.value) in
    subst (IsWithin 1000000000000000000) (sym value) read.top_small
