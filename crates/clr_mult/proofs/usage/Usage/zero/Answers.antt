use Rattle.std.proofs.Common.{◌≡◌, ◌*◌, ap, replicate, rules}
use Rattle.clr_mult.specs.Tables.{place}
use Rattle.clr_mult.proofs.Places.{repeated_at, repeated_is}
use Rattle.clr_mult.proofs.usage.Usage.zero.Goals as goal

pub returns-clause-table : goal.returns-clause-table
returns-clause-table c =
    let zeros : c.in_ok-entries.entries.items ≡ replicate (c.args.weeks * c.args.rungs * c.args.stores) 0 = search rules in
    ap (λ xs. record { stores = c.args.stores; weeks = c.args.weeks; rungs = c.args.rungs; entries = xs }) (repeated_is c.args.stores c.args.weeks c.args.rungs 0 c.in_ok-entries.entries.items c.requires zeros)

pub returns-clause-entries : goal.returns-clause-entries
returns-clause-entries c = λ store week rung within.
    let zeros : c.in_ok-entries.entries.items ≡ replicate (c.args.weeks * c.args.rungs * c.args.stores) 0 = search rules in
    repeated_at c.in_ok-entries.entries.items (c.args.weeks * c.args.rungs * c.args.stores) (place c.args.stores c.args.rungs store week rung) 0 zeros
