use Rattle.clr_check.proofs.file.accepted_hold.Goals as goal

pub returns : goal.returns
returns c bytes accepts = c.accepted_claims_hold.ensures c.args.season.now bytes c.stores.ensures.facts accepts
