use Rattle.std.proofs.Common.{◌≡◌, ◌∙◌, sym, Some, rules, string_bytes}
use Rattle.std.specs.Prelude.{Err, IfSome}
use Rattle.clr_io.specs.Files.{held}
use Rattle.clr_words.specs.Asked.{ask_of}
use Rattle.clr_jobs.specs.Judging.{ends_of_bytes, judge_ends, policy_path}
use Rattle.clr_jobs.proofs.Judged.{held_fails, held_passes, if_it_reports}
use Rattle.clr_jobs.proofs.judge.judge_season.Goals as goal

pub returns-in_err-bytes-clause-ends : goal.returns-in_err-bytes-clause-ends
unfolding judge_ends
returns-in_err-bytes-clause-ends g c = λ ending is.
    let exit : c.from_residual.result ≡ Err c.in_err-bytes.field-0.0 = search rules in
    let folder : c.as_str.result.now ≡ string_bytes c.args.asked.now.folder = c.as_str.ensures.value in
    rw folder at (c.in_err-bytes.ensures.ends (ends_of_bytes c.args.season.now) ending (sym exit ∙ is))

pub returns-clause-passes : goal.returns-clause-passes
returns-clause-passes g c =
    let bytes : c.deref.result.now ≡ c.in_ok-bytes.bytes.items = c.deref.ensures.value in
    let is : IfSome (g.H.Shelf.files c.args.shelf.now) (λ all. held (policy_path (string_bytes c.args.asked.now.folder)) all ≡ Some c.in_ok-bytes.bytes.items) = rw c.as_str.ensures.value at c.in_ok-bytes.ensures.bytes in
    let passes = rw bytes at c.judge_bytes.ensures.passes in
    if_it_reports c.judge_bytes.result _ _ (held_passes (g.H.Shelf.files c.args.shelf.now) c.args.season.now (ask_of c.args.asked.now) c.in_ok-bytes.bytes.items is c.in_ok-bytes.ensures.short) passes

pub returns-clause-ends : goal.returns-clause-ends
returns-clause-ends g c = λ ending err.
    let bytes : c.deref.result.now ≡ c.in_ok-bytes.bytes.items = c.deref.ensures.value in
    let is : IfSome (g.H.Shelf.files c.args.shelf.now) (λ all. held (policy_path (string_bytes c.args.asked.now.folder)) all ≡ Some c.in_ok-bytes.bytes.items) = rw c.as_str.ensures.value at c.in_ok-bytes.ensures.bytes in
    let says = rw bytes at (c.judge_bytes.ensures.ends ending err) in
    held_fails (g.H.Shelf.files c.args.shelf.now) c.args.season.now (ask_of c.args.asked.now) c.in_ok-bytes.bytes.items (g.H.Shelf.taken c.fetch.new.shelf) (g.H.Shelf.faults c.args.shelf.now) (g.H.Shelf.faults c.fetch.new.shelf) ending is c.in_ok-bytes.ensures.short says
