use Rattle.std.proofs.Common.{inl, map, string_bytes, subst}
use Rattle.std.specs.Prelude.{IsErrOf}
use Rattle.clr_cert.proofs.Sending.{on_ok}
use Rattle.clr_jobs.specs.Outputs.{Leaves, Wrote}
use Rattle.clr_jobs.specs.Ready.{docs_ready, outputs_of}
use Rattle.clr_jobs.specs.Runs.{docs_asked}
use Rattle.clr_jobs.proofs.Writing.{writing-caused, writing-memory, written}
use Rattle.clr_jobs.proofs.Taking.{few-taken}
use Rattle.clr_jobs.proofs.jobs.work.Goals as goal

pub returns-clause-ok : goal.returns-clause-ok
returns-clause-ok g c =
    on_ok c.write_outputs.result c.write_outputs.ensures.ok
    (written (g.H.Shelf.files c.args.shelf.now) (map string_bytes c.args.words.now) (outputs_of c.in_ok-ready.ready)
    (λ outputs. Wrote outputs (g.D.Desk.made c.args.desk.now) (g.D.Desk.made c.write_outputs.new.desk) (g.O.Sink.written c.args.out.now) (g.O.Sink.written c.write_outputs.new.out)) c.in_ok-ready.ensures.writes)

pub returns-clause-caused : goal.returns-clause-caused
returns-clause-caused g c = λ ending is.
    writing-caused (g.H.Shelf.files c.args.shelf.now) (map string_bytes c.args.words.now) (g.H.Shelf.taken c.prepare.new.shelf) _ _ _ (docs_ready c.in_ok-ready.ready) ending c.in_ok-ready.ensures.docs c.in_ok-ready.ensures.passes (c.write_outputs.ensures.ends ending is)
    (λ doc by. c.write_outputs.ensures.failed doc (subst (IsErrOf c.write_outputs.result) by is))

pub returns-clause-leaves : goal.returns-clause-leaves
returns-clause-leaves g c = λ ending is doc by.
    written (g.H.Shelf.files c.args.shelf.now) (map string_bytes c.args.words.now) (outputs_of c.in_ok-ready.ready)
    (λ outputs. Leaves (docs_asked (map string_bytes c.args.words.now)) outputs (g.D.Desk.made c.args.desk.now) (g.D.Desk.made c.write_outputs.new.desk) (g.O.Sink.written c.args.out.now) (g.O.Sink.written c.write_outputs.new.out) doc)
    c.in_ok-ready.ensures.writes
    (subst (λ docs. Leaves docs (outputs_of c.in_ok-ready.ready) (g.D.Desk.made c.args.desk.now) (g.D.Desk.made c.write_outputs.new.desk) (g.O.Sink.written c.args.out.now) (g.O.Sink.written c.write_outputs.new.out) doc) c.in_ok-ready.ensures.docs
    (c.write_outputs.ensures.leaves doc (subst (IsErrOf c.write_outputs.result) by is)))

pub returns-clause-quiet : goal.returns-clause-quiet
returns-clause-quiet g c = λ ending is other. writing-memory ending _ (c.write_outputs.ensures.ends ending is) other (λ memory. c.write_outputs.ensures.memory (subst (IsErrOf c.write_outputs.result) memory is))

pub returns-clause-passes : goal.returns-clause-passes
returns-clause-passes g c = on_ok c.write_outputs.result c.write_outputs.ensures.ok (λ wrote. c.in_ok-ready.ensures.passes)

pub returns-clause-within : goal.returns-clause-within
returns-clause-within g c = λ reads. inl (few-taken c.in_ok-ready.ready _ _ (c.in_ok-ready.ensures.within reads))
