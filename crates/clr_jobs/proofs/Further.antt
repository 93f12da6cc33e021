-- How runs end by a further file that is read behind the season, and what they give where it is read.
use Rattle.std.proofs.Common.{◌≡◌, inr, arith, refl, sym, ap, subst, ◌∙◌, ℕ, ◌≤◌, List, [], Some, None}
use Rattle.std.specs.Prelude.{◌≢◌, IfSome, Option, Ok}
use Rattle.clr_io.specs.Causes.{Rose}
use Rattle.clr_io.specs.Files.{Files}
use Rattle.clr_words.specs.Asked.{Ask}
use Rattle.clr_words.specs.declared.asked.Job.{Job}
use Rattle.clr_words.specs.declared.asked.Job.TheVariants as j
use Rattle.clr_season.specs.Reads.{season_in}
use Rattle.clr_season.specs.Season.{IsSeason, Season}
use Rattle.clr_report.specs.declared.note.Cause.TheVariants.{Words, Refused, NoPath, ReadFault, Absent, WriteFault, TooLong, Cells, Size, Base, CertificateNo, PolicyJson, PolicyShape, PolicyUnknown, PolicyRule, Memory}
use Rattle.clr_report.specs.declared.note.Doc.{Doc}
use Rattle.clr_report.specs.declared.note.Cause.{Cause}
use Rattle.clr_jobs.specs.Checking.{CheckReports, check_ends}
use Rattle.clr_jobs.specs.FileEnds.{EndsBy, limit_of}
use Rattle.clr_jobs.specs.Judging.{JudgeReports, judge_ends}
use Rattle.clr_jobs.specs.Outputs.{Outputs}
use Rattle.clr_jobs.specs.Runs.{ByFiles, Gives, GivesBy, OfSeason, ReachesDoc, ReadEnds, ends_by, further_doc, job_ends}

-- a count that rose later rose
pub rose_later : (before mid now : ℕ) → before ≤ mid → Rose mid now → Rose before now
rose_later before mid now first rose = omega (arith, first, rose)

-- how the job ends behind its season
abbrev pub EndsBehind : Job → (Season → Ask → Files → Option Cause) → Type 0
EndsBehind job ends = (held : Files) (ask : Ask) (season : Season) → ask.job ≡ job → season_in held ask.folder ≡ Ok season → ends_by held ask ≡ ends season ask held

module _ (job : Job) (ends : Season → Ask → Files → Option Cause) (behind : EndsBehind job ends) (files : Option Files) (ask : Ask) (season : Season) (of : ask.job ≡ job) (is : IfSome files (λ held. season_in held ask.folder ≡ Ok season)) (facts : IsSeason season) where
  said : (told : Option Files) (ending : Cause) → IfSome told (λ held. season_in held ask.folder ≡ Ok season) → IfSome told (λ held. ends season ask held ≡ Some ending) → IfSome told (λ held. ends_by held ask ≡ Some ending)
  said None ending reads given = tt
  said (Some held) ending reads given = behind held ask season of reads ∙ given

  says : (ending : Cause) → job ≢ j.Make → IfSome files (λ held. ends season ask held ≡ Some ending) → ByFiles files ask ending
  says ending reads given = ((λ make. reads (sym of ∙ make)), said files ending is given)

  passes-so : (told : Option Files) → IfSome told (λ held. season_in held ask.folder ≡ Ok season) → IfSome told (λ held. ends season ask held ≡ None) → IfSome told (λ held. ends_by held ask ≡ None)
  passes-so None reads given = tt
  passes-so (Some held) reads given = behind held ask season of reads ∙ given

  -- it comes to its outputs
  pub further-passes : IfSome files (λ held. ends season ask held ≡ None) → IfSome files (λ held. ends_by held ask ≡ None)
  further-passes given = passes-so files is given

  -- it reaches the further file
  reached : (doc asked : Doc) → job ≢ j.Make → further_doc job ≡ Some doc → asked ≡ doc → ReachesDoc files ask asked
  reached doc asked reads named same =
      ((λ make. reads (sym of ∙ make)), inr (subst (λ job. further_doc job ≡ Some asked) (sym of) (subst (λ d. further_doc job ≡ Some d) (sym same) named), (season, is, facts, tt)))

  -- it ends by the further file
  pub further-ends : (doc : Doc) (taken before mid now : ℕ) (ending : Cause) → job ≢ j.Make → further_doc job ≡ Some doc → before ≤ mid → EndsBy files (ends season ask) doc taken mid now ending → ReadEnds files ask taken (Rose before now) ending
  further-ends doc taken before mid now Words reads named first given = given
  further-ends doc taken before mid now (Refused named_doc row column why) reads named first given = absurd given
  further-ends doc taken before mid now NoPath reads named first given = absurd given
  further-ends doc taken before mid now (ReadFault failed) reads named first (same, rose) = (rose_later before mid now first rose, reached doc failed reads named same)
  further-ends doc taken before mid now (Absent lacking) reads named first (same, given) = (reached doc lacking reads named same, says (Absent lacking) reads given)
  further-ends doc taken before mid now (WriteFault failed) reads named first given = given
  further-ends doc taken before mid now (TooLong long max) reads named first (same, limit, more, given) = (limit ∙ ap limit_of (sym same), more, reached doc long reads named same, says (TooLong long max) reads given)
  further-ends doc taken before mid now (Cells found) reads named first given = absurd given
  further-ends doc taken before mid now (Size found) reads named first given = says (Size found) reads given
  further-ends doc taken before mid now Base reads named first given = says Base reads given
  further-ends doc taken before mid now (CertificateNo reason) reads named first given = says (CertificateNo reason) reads given
  further-ends doc taken before mid now PolicyJson reads named first given = says PolicyJson reads given
  further-ends doc taken before mid now (PolicyShape branch) reads named first given = says (PolicyShape branch) reads given
  further-ends doc taken before mid now (PolicyUnknown branch) reads named first given = says (PolicyUnknown branch) reads given
  further-ends doc taken before mid now (PolicyRule branch rule) reads named first given = says (PolicyRule branch rule) reads given
  further-ends doc taken before mid now Memory reads named first given = tt

-- ---- judge

pub judge-behind : EndsBehind j.Judge judge_ends
judge-behind held ask season of is = subst (λ job. job_ends job held ask ≡ judge_ends season ask held) (sym of) (rw is refl)

pub judge-gives : (files : Option Files) (ask : Ask) (outputs : Outputs) → ask.job ≡ j.Judge → OfSeason files ask (λ season. (outputs.made ≡ []) × JudgeReports files season ask outputs.report) → Gives files ask outputs
judge-gives files ask outputs judge gives = subst (λ job. GivesBy job files ask outputs) (sym judge) gives

-- what is written of a policy, by the files of the shelf as they were before its season was read
pub judge-written : (files told : Option Files) (ask : Ask) (season : Season) (text : List ℕ) → told ≡ files → ask.job ≡ j.Judge → IfSome files (λ held. season_in held ask.folder ≡ Ok season) → IsSeason season →
    JudgeReports told season ask text → Gives files ask (record { made = []; report = text })
judge-written files told ask season text same judge is facts reports = judge-gives files ask _ judge (season, is, facts, (refl, subst (λ f. JudgeReports f season ask text) same reports))

-- ---- check

pub check-behind : EndsBehind j.Check check_ends
check-behind held ask season of is = subst (λ job. job_ends job held ask ≡ check_ends season ask held) (sym of) (rw is refl)

pub check-gives : (files : Option Files) (ask : Ask) (outputs : Outputs) → ask.job ≡ j.Check → OfSeason files ask (λ season. (outputs.made ≡ []) × CheckReports files season ask outputs.report) → Gives files ask outputs
check-gives files ask outputs check gives = subst (λ job. GivesBy job files ask outputs) (sym check) gives

-- what is written of a certificate, by the files of the shelf as they were before its season was read
pub check-written : (files told : Option Files) (ask : Ask) (season : Season) (text : List ℕ) → told ≡ files → ask.job ≡ j.Check → IfSome files (λ held. season_in held ask.folder ≡ Ok season) → IsSeason season →
    CheckReports told season ask text → Gives files ask (record { made = []; report = text })
check-written files told ask season text same check is facts reports = check-gives files ask _ check (season, is, facts, (refl, subst (λ f. CheckReports f season ask text) same reports))
