use Rattle.std.proofs.Common.{◌≡◌, ◌*◌, pos, ap, replicate, rules}
use Rattle.clr_mult.specs.Tables.{place}
use Rattle.clr_mult.proofs.Places.{repeated_at, repeated_is}
use Rattle.clr_mult.proofs.StepLemmas.{zero_sums}
use Rattle.clr_mult.proofs.mult.Mult.zero.Goals as goal

pub invariant_of-result : goal.invariant_of-result
invariant_of-result c =
    let zeros : c.in_ok-entries.entries.items ≡ replicate (c.args.weeks * c.args.rungs * c.args.stores) (pos 0) = search rules in
    (record { sizes = c.requires; count = search rules }, zero_sums c.args.stores c.args.weeks c.args.rungs c.in_ok-entries.entries.items zeros)

pub returns-clause-table : goal.returns-clause-table
returns-clause-table c =
    let zeros : c.in_ok-entries.entries.items ≡ replicate (c.args.weeks * c.args.rungs * c.args.stores) (pos 0) = search rules in
    ap (λ xs. record { stores = c.args.stores; weeks = c.args.weeks; rungs = c.args.rungs; entries = xs }) (repeated_is c.args.stores c.args.weeks c.args.rungs (pos 0) c.in_ok-entries.entries.items c.requires zeros)

pub returns-clause-entries : goal.returns-clause-entries
returns-clause-entries c = λ store week rung within.
    let zeros : c.in_ok-entries.entries.items ≡ replicate (c.args.weeks * c.args.rungs * c.args.stores) (pos 0) = search rules in
    repeated_at c.in_ok-entries.entries.items (c.args.weeks * c.args.rungs * c.args.stores) (place c.args.stores c.args.rungs store week rung) (pos 0) zeros
