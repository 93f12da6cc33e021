-- How the job `check` ends, and what it reports.
use Rattle.std.proofs.Common.{◌≡◌, ◌<◌, ◌≤◌, ◌↔◌, ℕ, ◌==◌, List, length, arith, refl, ap, ◌∙◌, subst, inl, inr}
use Rattle.std.specs.Prelude.{IfOk, IfSome, IsErrOf, IsSomeAnd, Option, Some, None, Result, Ok, Err, IsTrue}
use Rattle.std.proofs.lemmas.Bool.{and_parts, cases_lt, eqb-true, le-leb, lt-leb}
use Rattle.clr_io.specs.Causes.{Rose}
use Rattle.clr_io.specs.Files.{Files, held}
use Rattle.clr_rules.specs.Rules.{IsPath, Rulebook, are_rungs, keeps_rules, obeys}
use Rattle.clr_season.specs.Season.{Season}
use Rattle.clr_words.specs.Asked.{Ask}
use Rattle.clr_cert.specs.Accepts.{Accepts, claims_of, first_no}
use Rattle.clr_cert.specs.declared.no.No.{No}
use Rattle.clr_check.specs.FileChecks.{IsJudged, IsProved}
use Rattle.clr_check.specs.Laws.{AcceptedOrRefused}
use Rattle.clr_cert.specs.declared.claims.Claims.{Claims}
use Rattle.clr_check.specs.declared.file.CheckError.{CheckError}
use Rattle.clr_check.specs.declared.file.CheckError.TheVariants as c
use Rattle.clr_report.specs.CheckText.{check_text}
use Rattle.clr_report.specs.declared.note.Doc.TheVariants.{Certificate}
use Rattle.clr_report.specs.declared.note.Cause.TheVariants.{Absent, TooLong, CertificateNo}
use Rattle.clr_jobs.specs.Checking.{CheckReports, cert_path, check_ends, ending_unaccepted, ends_of_cert, most_cert}
use Rattle.clr_jobs.specs.FileEnds.{EndsBy}

-- a path that obeys is one of the season
pub path_obeys : (rules : Rulebook) (path : List ℕ) → IsTrue (obeys rules path) → IsPath rules path
path_obeys rules path is =
    let parts = and_parts (length path == rules.weeks) (keeps_rules rules path) is in
    let weeks : length path ≡ rules.weeks = eqb-true (length path) rules.weeks parts.0 in
    record {
      weeks = weeks;
      rungs = (and_parts (are_rungs rules path) _ parts.1).0;
    }

-- ---- by the file

cert_absent : (season : Season) (given : Option (List ℕ)) → given ≡ None → ends_of_cert season given ≡ Some (Absent Certificate)
cert_absent season given is = rw is refl

cert_long : (season : Season) (given : Option (List ℕ)) → IsSomeAnd given (λ bytes. most_cert < length bytes) → ends_of_cert season given ≡ Some (TooLong Certificate most_cert)
cert_long season None h = absurd h
cert_long season (Some bytes) h = rw (lt-leb (length bytes) most_cert h) refl

cert_no : (season : Season) (taken : ℕ) (refusal : No) (given : Option (List ℕ)) → taken ≤ most_cert → IsSomeAnd given (λ bytes. taken ≡ length bytes) → IsSomeAnd given (λ bytes. first_no season bytes ≡ Some refusal) → ends_of_cert season given ≡ Some (CertificateNo refusal)
cert_no season taken refusal None few read first = absurd read
cert_no season taken refusal (Some bytes) few read first = let short : length bytes ≤ most_cert = omega arith in rw (le-leb (length bytes) most_cert short, first) refl

cert_ok : (season : Season) (taken : ℕ) (given : Option (List ℕ)) → taken ≤ most_cert → IsSomeAnd given (λ bytes. taken ≡ length bytes) → IsSomeAnd given (λ bytes. first_no season bytes ≡ None) → ends_of_cert season given ≡ None
cert_ok season taken None few read first = absurd read
cert_ok season taken (Some bytes) few read first = let short : length bytes ≤ most_cert = omega arith in rw (le-leb (length bytes) most_cert short, first) refl

-- ---- by an error

-- what the checking of a file says where it answers an error
pub record Says (files : Option Files) (season : Season) (name : List ℕ) (taken faults_old faults_new : ℕ) (error : CheckError) : Type 0 where
  pub failed : IsErrOf {T = Claims} (Err error) c.Failed → Rose faults_old faults_new
  pub absent : IfSome files (λ all. IsErrOf {T = Claims} (Err error) c.Absent ↔ ((held name all ≡ None) × (¬ IsErrOf {T = Claims} (Err error) c.Failed) × (¬ IsErrOf {T = Claims} (Err error) c.Memory)))
  pub too_long : IsErrOf {T = Claims} (Err error) (c.TooLong 268435456) ↔ ((268435456 < taken) × ¬ IsErrOf {T = Claims} (Err error) c.Memory)
  pub limit : (max : ℕ) → IsErrOf {T = Claims} (Err error) (c.TooLong max) → max ≡ 268435456
  pub longer : IsErrOf {T = Claims} (Err error) (c.TooLong 268435456) → IfSome files (λ all. IsSomeAnd (held name all) (λ bytes. 268435456 < length bytes))
  pub refused : IsJudged (Err error) → IfSome files (λ all. IsSomeAnd (held name all) (λ bytes. (refusal : No) → IsErrOf {T = Claims} (Err error) (c.No refusal) ↔ (first_no season bytes ≡ Some refusal)))
  pub read : IsJudged (Err error) → IfSome files (λ all. IsSomeAnd (held name all) (λ bytes. taken ≡ length bytes))

with_held : (P Q : List ℕ → Type 0) (given : Option (List ℕ)) → ((bytes : List ℕ) → P bytes → Q bytes) → IsSomeAnd given P → IsSomeAnd given Q
with_held P Q None f h = absurd h
with_held P Q (Some bytes) f h = f bytes h

absent_said : (files : Option Files) (season : Season) (ask : Ask) (taken faults_old faults_new : ℕ) → Says files season (cert_path ask) taken faults_old faults_new c.Absent →
    IfSome files (λ all. check_ends season ask all ≡ Some (Absent Certificate))
unfolding check_ends
absent_said None season ask taken faults_old faults_new says = tt
absent_said (Some files) season ask taken faults_old faults_new says = cert_absent season (held (cert_path ask) files) (says.absent.0 refl).0

long_said : (files : Option Files) (season : Season) (ask : Ask) → IfSome files (λ all. IsSomeAnd (held (cert_path ask) all) (λ bytes. 268435456 < length bytes)) → IfSome files (λ all. check_ends season ask all ≡ Some (TooLong Certificate 268435456))
unfolding check_ends
long_said None season ask longer = tt
long_said (Some files) season ask longer = cert_long season (held (cert_path ask) files) longer

no_said : (files : Option Files) (season : Season) (ask : Ask) (taken : ℕ) (refusal : No) → taken ≤ most_cert → IfSome files (λ all. IsSomeAnd (held (cert_path ask) all) (λ bytes. taken ≡ length bytes)) →
    IfSome files (λ all. IsSomeAnd (held (cert_path ask) all) (λ bytes. (other : No) → IsErrOf {T = Claims} {E = CheckError} (Err (c.No refusal)) (c.No other) ↔ (first_no season bytes ≡ Some other))) →
    IfSome files (λ all. check_ends season ask all ≡ Some (CertificateNo refusal))
unfolding check_ends
no_said None season ask taken refusal few read refused = tt
no_said (Some files) season ask taken refusal few read refused =
    cert_no season taken refusal (held (cert_path ask) files) few read
    (with_held (λ bytes. (other : No) → IsErrOf {T = Claims} {E = CheckError} (Err (c.No refusal)) (c.No other) ↔ (first_no season bytes ≡ Some other)) (λ bytes. first_no season bytes ≡ Some refusal) (held (cert_path ask) files) (λ bytes h. (h refusal).0 refl) refused)

-- no more than the limit was taken, unless the answer says so
few_taken : (taken : ℕ) (refusal : No) → IsErrOf {T = Claims} {E = CheckError} (Err (c.No refusal)) (c.TooLong 268435456) ↔ ((268435456 < taken) × ¬ IsErrOf {T = Claims} {E = CheckError} (Err (c.No refusal)) c.Memory) → taken ≤ most_cert
few_taken taken refusal too_long = elim (cases_lt most_cert taken) [
  | inl over ↦ let e : ◌≡◌ {A = Result Claims CheckError} (Err (c.No refusal)) (Err (c.TooLong 268435456)) = too_long.1 (over, λ is. cc is) in cc e
  | inr within ↦ within
]

pub error_ends : (files : Option Files) (season : Season) (ask : Ask) (taken faults_old faults_new : ℕ) (error : CheckError) → Says files season (cert_path ask) taken faults_old faults_new error →
    EndsBy files (check_ends season ask) Certificate taken faults_old faults_new (ending_unaccepted error)
error_ends files season ask taken faults_old faults_new c.Failed says = (refl, says.failed refl)
error_ends files season ask taken faults_old faults_new c.Absent says = (refl, absent_said files season ask taken faults_old faults_new says)
error_ends files season ask taken faults_old faults_new (c.TooLong max) says =
    let is : max ≡ 268435456 = says.limit max refl in
    rw is (long_ends files season ask taken (subst (λ (n : ℕ). IsErrOf {T = Claims} {E = CheckError} (Err (c.TooLong n)) (c.TooLong 268435456) ↔ ((268435456 < taken) × ¬ IsErrOf {T = Claims} {E = CheckError} (Err (c.TooLong n)) c.Memory)) is says.too_long)
    (says.longer (ap (λ (n : ℕ). Err (c.TooLong n)) is)))
  where
    long_ends : (fs : Option Files) (s : Season) (a : Ask) (t : ℕ) → IsErrOf {T = Claims} {E = CheckError} (Err (c.TooLong 268435456)) (c.TooLong 268435456) ↔ ((268435456 < t) × ¬ IsErrOf {T = Claims} {E = CheckError} (Err (c.TooLong 268435456)) c.Memory) →
        IfSome fs (λ all. IsSomeAnd (held (cert_path a) all) (λ bytes. 268435456 < length bytes)) →
        EndsBy fs (check_ends s a) Certificate t faults_old faults_new (TooLong Certificate 268435456)
    long_ends fs s a t too_long longer = (refl, refl, (too_long.0 refl).0, long_said fs s a longer)
error_ends files season ask taken faults_old faults_new (c.No refusal) says = no_said files season ask taken refusal (few_taken taken refusal says.too_long) (says.read tt) (says.refused tt)
error_ends files season ask taken faults_old faults_new c.Memory says = tt

-- ---- by a report

-- what holds anyway holds where there is a value
pub if_ok : {T E : Type 0} (result : Result T E) (P : Type 0) → P → IfOk result (λ _. P)
if_ok (Ok value) P holds = holds
if_ok (Err error) P holds = tt

-- no more than the limit was taken of an accepted certificate
pub few_accepted : (taken : ℕ) (claims : Claims) → IsErrOf {T = Claims} {E = CheckError} (Ok claims) (c.TooLong 268435456) ↔ ((268435456 < taken) × ¬ IsErrOf {T = Claims} {E = CheckError} (Ok claims) c.Memory) → taken ≤ most_cert
few_accepted taken claims too_long = elim (cases_lt most_cert taken) [
  | inl over ↦ let e : ◌≡◌ {A = Result Claims CheckError} (Ok claims) (Err (c.TooLong 268435456)) = too_long.1 (over, λ is. cc is) in cc e
  | inr within ↦ within
]

-- an accepted certificate is reported
pub accepted_passes : (files : Option Files) (season : Season) (ask : Ask) (taken : ℕ) (bytes : List ℕ) → AcceptedOrRefused → taken ≤ most_cert → IfSome files (λ all. IsSomeAnd (held (cert_path ask) all) (λ b. taken ≡ length b)) →
    IfSome files (λ all. held (cert_path ask) all ≡ Some bytes) → Accepts season bytes → IfSome files (λ all. check_ends season ask all ≡ None)
unfolding check_ends
accepted_passes None season ask taken bytes law few read is accepts = tt
accepted_passes (Some files) season ask taken bytes law few read is accepts =
    cert_ok season taken (held (cert_path ask) files) few read (rw is ((law season bytes).1 accepts))

pub reported : (files : Option Files) (season : Season) (ask : Ask) (bytes : List ℕ) (claims : Claims) (text : List ℕ) → IfSome files (λ all. held (cert_path ask) all ≡ Some bytes) → IsProved season bytes claims → text ≡ check_text season (claims_of claims) →
    CheckReports files season ask text
reported files season ask bytes claims text read proof told = (
  bytes,
  record {
    read = read;
    accepted = proof.claimed.accepted;
    holds = rw (← proof.claimed.same) proof.holds;
    told = told ∙ ap (check_text season) proof.claimed.same;
  },
)
