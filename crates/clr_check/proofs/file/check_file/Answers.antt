use Rattle.std.proofs.Common.{◌≡◌, ◌↔◌, ◌++◌}
use Rattle.std.specs.Prelude.{Some, IsErrOf, IsOk, Ok, Err}
use Rattle.clr_cert.specs.Accepts.{Accepts, first_no}
use Rattle.clr_cert.specs.declared.claims.Claims.{Claims}
use Rattle.clr_cert.specs.declared.no.No.{No}
use Rattle.clr_check.specs.Standing.{IsClaimOf, ended_text}
use Rattle.clr_check.specs.declared.file.CheckError.{CheckError}
use Rattle.clr_check.specs.declared.file.CheckError.TheVariants as e
use Rattle.clr_check.proofs.FileAnswers.{no_accepted, no_refused, of_file, ok_accepted, ok_refused, proved}
use Rattle.clr_check.proofs.file.check_file.Goals as goal

pub returns-in-Ok-finish-clause-proved : goal.returns-in-Ok-finish-clause-proved
returns-in-Ok-finish-clause-proved g c =
    let season = c.args.season.now in
    let fed = c.in_ok-rest.ensures.fed season c.in-Ok.ensures.stands in
    let bytes = ended_text fed.more ++ fed.last in
    let claim : IsClaimOf season bytes c.in-Ok-finish.claims = c.in-Ok-finish.ensures.answer season fed.more fed.last fed.stands fed.line fed.ends in
    (bytes, fed.is, proved season bytes c.in-Ok-finish.claims c.accepted_hold.ensures claim)

pub returns-in-Ok-finish-clause-accepted : goal.returns-in-Ok-finish-clause-accepted
returns-in-Ok-finish-clause-accepted g c judged =
    let season = c.args.season.now in
    let fed = c.in_ok-rest.ensures.fed season c.in-Ok.ensures.stands in
    let bytes = ended_text fed.more ++ fed.last in
    let claim : IsClaimOf season bytes c.in-Ok-finish.claims = c.in-Ok-finish.ensures.answer season fed.more fed.last fed.stands fed.line fed.ends in
    of_file (λ b. IsOk {T = Claims} {E = CheckError} (Ok c.in-Ok-finish.claims) ↔ Accepts season b) bytes (g.H.Shelf.files c.args.shelf.now) c.args.name.now fed.is (ok_accepted season bytes c.in-Ok-finish.claims claim)

pub returns-in-Ok-finish-clause-refused : goal.returns-in-Ok-finish-clause-refused
returns-in-Ok-finish-clause-refused g c judged =
    let season = c.args.season.now in
    let fed = c.in_ok-rest.ensures.fed season c.in-Ok.ensures.stands in
    let bytes = ended_text fed.more ++ fed.last in
    let claim : IsClaimOf season bytes c.in-Ok-finish.claims = c.in-Ok-finish.ensures.answer season fed.more fed.last fed.stands fed.line fed.ends in
    of_file (λ b. (refusal : No) → IsErrOf {T = Claims} {E = CheckError} (Ok c.in-Ok-finish.claims) (e.No refusal) ↔ (first_no season b ≡ Some refusal)) bytes (g.H.Shelf.files c.args.shelf.now) c.args.name.now fed.is
    (ok_refused season bytes c.in-Ok-finish.claims c.accepted_or_refused.ensures claim)

pub returns-clause-accepted : goal.returns-clause-accepted
returns-clause-accepted g c judged =
    let season = c.args.season.now in
    let fed = c.in_ok-rest.ensures.fed season c.in-Ok.ensures.stands in
    let bytes = ended_text fed.more ++ fed.last in
    let first : first_no season bytes ≡ Some c.in-Err-finish.no = c.in-Err-finish.ensures.answer season fed.more fed.last fed.stands fed.line fed.ends in
    of_file (λ b. IsOk {T = Claims} {E = CheckError} (Err (e.No c.in-Err-finish.no)) ↔ Accepts season b) bytes (g.H.Shelf.files c.args.shelf.now) c.args.name.now fed.is (no_accepted season bytes c.in-Err-finish.no c.accepted_or_refused.ensures first)

pub returns-clause-refused : goal.returns-clause-refused
returns-clause-refused g c judged =
    let season = c.args.season.now in
    let fed = c.in_ok-rest.ensures.fed season c.in-Ok.ensures.stands in
    let bytes = ended_text fed.more ++ fed.last in
    let first : first_no season bytes ≡ Some c.in-Err-finish.no = c.in-Err-finish.ensures.answer season fed.more fed.last fed.stands fed.line fed.ends in
    of_file (λ b. (refusal : No) → IsErrOf {T = Claims} {E = CheckError} (Err (e.No c.in-Err-finish.no)) (e.No refusal) ↔ (first_no season b ≡ Some refusal)) bytes (g.H.Shelf.files c.args.shelf.now) c.args.name.now fed.is
    (no_refused season bytes c.in-Err-finish.no first)
