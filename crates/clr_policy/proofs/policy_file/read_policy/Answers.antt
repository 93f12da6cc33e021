use Rattle.std.proofs.Common.{refl, subst}
use Rattle.serde_json.specs.Errors.{IsMemory}
use Rattle.serde_json.specs.View.{view}
use Rattle.clr_policy.specs.Written.{written}
use Rattle.clr_policy.specs.PolicyFile.{Gives, place, policy_of}
use Rattle.clr_policy.proofs.Fields.{data-read, gives-unread}
use Rattle.clr_policy.proofs.policy_file.read_policy.Goals as goal

pub returns-in-Ok-clause-gives : goal.returns-in-Ok-clause-gives
unfolding policy_of
returns-in-Ok-clause-gives c =
    let text = c.without_mark.result.now in
    rw (data-read c.args.bytes.now text (view c.in-Ok.value) c.without_mark.ensures c.in-Ok.ensures.ok.0 c.in-Ok.ensures.ok.1)
    (subst (λ weeks. Gives written c.place_of.result (place c.args.season.now (view c.in-Ok.value) weeks 0)) c.weeks.ensures.value (c.place_of.ensures.gives 0 refl))

pub returns-in-Err-clause-gives : goal.returns-in-Err-clause-gives
returns-in-Err-clause-gives c =
    let text = c.without_mark.result.now in
    gives-unread c.args.season.now c.args.bytes.now text c.unread.result (IsMemory c.in-Err.error) c.without_mark.ensures c.in-Err.ensures.err c.unread.ensures.memory c.unread.ensures.other
