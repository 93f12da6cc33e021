use Rattle.std.proofs.Common.{◌≡◌, ◌∙◌}
use Rattle.std.specs.Prelude.{IfSome, None}
use Rattle.clr_words.specs.Asked.{ask_of}
use Rattle.clr_check.proofs.Refused.{accepted_or_refused_lem}
use Rattle.clr_jobs.specs.Checking.{cert_path, check_ends, ending_unaccepted}
use Rattle.clr_jobs.proofs.Checked.{Says, accepted_passes, error_ends, few_accepted, if_ok}
use Rattle.clr_jobs.proofs.Ends.{same-error}
use Rattle.clr_jobs.proofs.check.check_season.Goals as goal

pub returns-in-Ok-check_file-clause-passes : goal.returns-in-Ok-check_file-clause-passes
returns-in-Ok-check_file-clause-passes g c =
    let name : c.as_str.result.now ≡ cert_path (ask_of c.args.asked.now) = c.as_str.ensures.value ∙ c.in-Ok.ensures in
    let ok = c.in-Ok-check_file.ensures in
    let (bytes, is, proof) = rw name at ok.proved in
    let read = rw name at ok.read tt in
    let passes : IfSome (g.H.Shelf.files c.args.shelf.now) (λ held. check_ends c.args.season.now (ask_of c.args.asked.now) held ≡ None) =
    accepted_passes (g.H.Shelf.files c.args.shelf.now) c.args.season.now (ask_of c.args.asked.now) (g.H.Shelf.taken c.check_file.new.shelf) bytes accepted_or_refused_lem (few_accepted (g.H.Shelf.taken c.check_file.new.shelf) c.in-Ok-check_file.claims ok.too_long) read is proof.claimed.accepted in
    if_ok c.claims_report.result _ passes

pub returns-clause-ends : goal.returns-clause-ends
returns-clause-ends g c = λ ending is.
    let same : c.unaccepted.result ≡ ending = same-error c.unaccepted.result ending is in
    let by : c.unaccepted.result ≡ ending_unaccepted c.in-Err.error = c.unaccepted.ensures in
    let name : c.as_str.result.now ≡ cert_path (ask_of c.args.asked.now) = c.as_str.ensures.value ∙ c.in-Ok.ensures in
    let says : Says (g.H.Shelf.files c.args.shelf.now) c.args.season.now (cert_path (ask_of c.args.asked.now)) (g.H.Shelf.taken c.check_file.new.shelf) (g.H.Shelf.faults c.args.shelf.now) (g.H.Shelf.faults c.check_file.new.shelf) c.in-Err.error = record {
      failed = c.in-Err.ensures.failed;
      absent = rw name at c.in-Err.ensures.absent;
      too_long = c.in-Err.ensures.too_long;
      limit = c.in-Err.ensures.limit;
      longer = rw name at c.in-Err.ensures.longer;
      refused = rw name at c.in-Err.ensures.refused;
      read = rw name at c.in-Err.ensures.read;
    } in
    rw (← same)
    (rw by (error_ends (g.H.Shelf.files c.args.shelf.now) c.args.season.now (ask_of c.args.asked.now) (g.H.Shelf.taken c.check_file.new.shelf) (g.H.Shelf.faults c.args.shelf.now) (g.H.Shelf.faults c.check_file.new.shelf) c.in-Err.error says))
