use Rattle.std.proofs.Common.{◌≡◌, ◌∙◌, ℤ, sym, ap₂, arith, length, [], ◌∷◌, to_z, of_z}
use mir.Syntax.{w128}
use Rattle.std.proofs.lemmas.Int.{to_z-of_z}
use Rattle.clr_cert.specs.Conditions.{at_least, at_most}
use Rattle.clr_cert.specs.Lines.{stocks_at}
use Rattle.clr_cert.specs.declared.no.NoKind.TheVariants as kind
use Rattle.clr_check.specs.Faults.{first_fault}
use Rattle.clr_check.proofs.JointFaults.{end_first, end_later}
use Rattle.clr_check.proofs.JointLists.{list_length}
use Rattle.clr_check.proofs.JointSums.{small_of, worth_most, worth_whole}
use Rattle.clr_check.proofs.Sides.{read_128}
use Rattle.clr_check.proofs.joint.last_joint_fault.Goals as goal

pub returns-then-is_some : goal.returns-then-is_some
returns-then-is_some c entries s rung =
    let season = c.args.season.now in
    let value : ℤ = c.worth_of_rest-value.result in
    let read : to_z w128 (of_z w128 value) ≡ value = read_128 value 4000000000000000000000000000 (worth_most season value (small_of season c.requires.fits) c.worth_of_rest-value.ensures.size) (omega arith) in
    end_first season entries s (stocks_at season c.args.index) rung c.args.low c.args.top value (c.worth_of_rest-value.ensures.value ∙ worth_whole season (stocks_at season c.args.index) (list_length season (length season.stores) 0 c.args.index (omega arith) c.requires.index)) c.high_low-fault.result
    (c.high_low-fault.ensures ∙ ap₂ (λ a b. first_fault (at_most kind.JointLow a b ∷ [])) (to_z-of_z w128 c.args.low c.ranges.low) read) (sym c.if-is_some.ensures)

pub returns : goal.returns
returns c entries s rung =
    let season = c.args.season.now in
    let value : ℤ = c.worth_of_rest-value.result in
    let read : to_z w128 (of_z w128 value) ≡ value = read_128 value 4000000000000000000000000000 (worth_most season value (small_of season c.requires.fits) c.worth_of_rest-value.ensures.size) (omega arith) in
    end_later season entries s (stocks_at season c.args.index) rung c.args.low c.args.top value (c.worth_of_rest-value.ensures.value ∙ worth_whole season (stocks_at season c.args.index) (list_length season (length season.stores) 0 c.args.index (omega arith) c.requires.index)) c.high_low-fault.result c.short_top.result
    (c.high_low-fault.ensures ∙ ap₂ (λ a b. first_fault (at_most kind.JointLow a b ∷ [])) (to_z-of_z w128 c.args.low c.ranges.low) read) (sym c.if-is_some.ensures)
    (c.short_top.ensures ∙ ap₂ (λ a b. first_fault (at_least kind.JointTop a b ∷ [])) (to_z-of_z w128 c.args.top c.ranges.top) read)
