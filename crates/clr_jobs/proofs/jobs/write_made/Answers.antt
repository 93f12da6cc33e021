use Rattle.std.proofs.Common.{◌≡◌, ap, refl, subst, sym}
use Rattle.std.specs.Prelude.{Contains}
use Rattle.clr_jobs.specs.Making.{made_docs}
use Rattle.clr_jobs.specs.Ready.{docs_ready}
use Rattle.clr_jobs.proofs.jobs.write_made.Goals as goal

pub returns-in-Err-clause-failed : goal.returns-in-Err-clause-failed
returns-in-Err-clause-failed g c = λ doc is.
    let same : c.in-Err.doc ≡ doc = cc in
    let docs : docs_ready c.args.ready.now ≡ made_docs = ap docs_ready c.in-Make.is in
    (subst (λ named. Contains named doc) (sym docs) (subst (λ named. Contains made_docs named) same (c.in-Err.ensures.named c.in-Err.doc refl)), c.in-Err.ensures.rose)
