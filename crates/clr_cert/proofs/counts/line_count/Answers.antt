use Rattle.std.proofs.Common.{◌≡◌, ◌*◌, length, ap₂, ◌∙◌, arith, rules, if◌then◌else◌}
use Rattle.clr_model.specs.Fits.{fits}
use Rattle.clr_cert.specs.Places.{has_lengths}
use Rattle.clr_cert.proofs.Counting.{length-places}
use Rattle.clr_cert.proofs.counts.line_count.Goals as goal

pub returns-clause-value : goal.returns-clause-value
returns-clause-value c =
    let all = length-places c.args.season.now in
    let lengths : c.from-lengths.result ≡ (if has_lengths c.args.season.now then 1 else 0) = search rules in
    let exact : c.from-exact.result ≡ (if fits c.args.season.now then 1 else 0) = search rules in
    let mults : c.from.result * c.from-2.result ≡ c.args.season.now.rules.weeks * length c.args.season.now.rules.prices = ap₂ (λ a b. a * b) (c.from.ensures ∙ c.weeks.ensures.value) (c.from-2.ensures ∙ c.rungs.ensures.value) in
    omega (arith, c.value_lines.ensures.value)
