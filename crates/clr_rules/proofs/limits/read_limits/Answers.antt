use Rattle.serde_json.specs.Errors.{IsMemory}
use Rattle.serde_json.specs.View.{view}
use Rattle.clr_rules.specs.Limits.{limits_of}
use Rattle.clr_rules.proofs.Names.{data-read, gives-unread}
use Rattle.clr_rules.proofs.limits.read_limits.Goals as goal

pub returns-in-Ok-clause-gives : goal.returns-in-Ok-clause-gives
unfolding limits_of
returns-in-Ok-clause-gives c =
    let text = c.without_mark.result.now in
    rw (data-read c.args.bytes.now text (view c.in-Ok.value) c.without_mark.ensures c.in-Ok.ensures.ok.0 c.in-Ok.ensures.ok.1) c.object_rules.ensures.gives

pub returns-in-Err-clause-gives : goal.returns-in-Err-clause-gives
returns-in-Err-clause-gives c =
    let text = c.without_mark.result.now in
    gives-unread c.args.bytes.now text c.unread.result (IsMemory c.in-Err.error) c.without_mark.ensures c.in-Err.ensures.err c.unread.ensures.memory c.unread.ensures.other
