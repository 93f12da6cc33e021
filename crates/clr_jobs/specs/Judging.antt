-- The job `judge`: how it ends by the policy file, and what it reports.
use Rattle.std.specs.Prelude.{◌≡◌, ◌++◌, ◌∷◌, ℕ, ℤ, List, codes, length, nat_le, if◌then◌else◌, IfSome, IsSomeAnd, Option, Some, None, Result, Ok, Err}
use Rattle.clr_io.specs.Files.{Files, held}
use Rattle.clr_num.specs.Rounding.{ceil, floor}
use Rattle.clr_words.specs.Asked.{Ask}
use Rattle.clr_season.specs.Season.{Season}
use Rattle.clr_season.specs.Reads.{most_bytes}
use Rattle.clr_policy.specs.Judged.{Objection, breaks_rule, judgement, no_base, too_large}
use Rattle.clr_policy.specs.PolicyFile.{Fault, no_json, no_shape, no_store, policy_of}
use Rattle.clr_policy.specs.Unrolled.{IsValued, policy_value}
use Rattle.clr_policy.specs.Written.{IsPolicy, Written, held_objects}
use Rattle.clr_policy.specs.declared.judged.JudgeError.{JudgeError}
use Rattle.clr_policy.specs.declared.judged.JudgeError.TheVariants as j
use Rattle.clr_policy.specs.declared.policy.PolicyError.{PolicyError}
use Rattle.clr_policy.specs.declared.policy.PolicyError.TheVariants as p
use Rattle.clr_report.specs.JudgeText.{judge_text}
use Rattle.clr_report.specs.declared.note.Doc.TheVariants.{Policy}
use Rattle.clr_report.specs.declared.note.Cause.TheVariants.{Absent, TooLong, Size, Base, PolicyJson, PolicyShape, PolicyUnknown, PolicyRule, Memory}
use Rattle.clr_report.specs.declared.note.Cause.{Cause}

-- ---- how it ends

-- the name of the policy file: the folder's word, a slash, and the name in the folder
abbrev pub policy_path : List ℕ → List ℕ
policy_path folder = folder ++ 47 ∷ codes "policy.json"

-- by a fault of the policy file
abbrev pub ending_of_fault : Fault → Cause
ending_of_fault no_json = PolicyJson
ending_of_fault (no_shape branch) = PolicyShape branch
ending_of_fault (no_store branch) = PolicyUnknown branch

-- by what stands against a policy
abbrev pub ending_of_objection : Objection → Cause
ending_of_objection (breaks_rule breach) = PolicyRule breach.branch breach.rule
ending_of_objection no_base = Base
ending_of_objection (too_large found) = Size found

-- by a judgement, unless it is a value
abbrev pub ends_of_judgement : Result ℤ Objection → Option Cause
ends_of_judgement (Ok value) = None
ends_of_judgement (Err objection) = Some (ending_of_objection objection)

-- by what the policy file is read as: its first fault, or what stands against the policy
abbrev pub ends_of_reading : Season → Result Written Fault → Option Cause
ends_of_reading season (Ok policy) = ends_of_judgement (judgement floor season policy)
ends_of_reading season (Err fault) = Some (ending_of_fault fault)

-- by its bytes
abbrev pub ends_of_bytes : Season → List ℕ → Option Cause
ends_of_bytes season bytes = ends_of_reading season (policy_of season bytes)

-- by a file: that it isn't held, that it is too long, and then its bytes
abbrev pub ends_of_file : (List ℕ → Option Cause) → Option (List ℕ) → Option Cause
ends_of_file by_bytes None = Some (Absent Policy)
ends_of_file by_bytes (Some bytes) = if nat_le (length bytes) most_bytes then by_bytes bytes else Some (TooLong Policy most_bytes)

-- How the job ends by the policy file of the folder that is asked, where the folder read to this season. Nothing where it reports.
unfoldable pub judge_ends : Season → Ask → Files → Option Cause
judge_ends season ask files = ends_of_file (ends_of_bytes season) (held (policy_path ask.folder) files)

-- by an error of the reading
abbrev pub ending_unread : PolicyError → Cause
ending_unread p.Json = PolicyJson
ending_unread (p.Shape branch) = PolicyShape branch
ending_unread (p.Unknown branch) = PolicyUnknown branch
ending_unread p.Memory = Memory

-- by an error of the judging
abbrev pub ending_unvalued : JudgeError → Cause
ending_unvalued (j.Rule branch rule) = PolicyRule branch rule
ending_unvalued j.Base = Base
ending_unvalued (j.Size found) = Size found
ending_unvalued j.Memory = Memory

-- ---- what it reports

-- the report on a policy: its number of rungs and tests, and its values rounded down and rounded up
abbrev pub policy_text : Season → Written → List ℕ
policy_text season policy = judge_text season (held_objects policy) (policy_value floor season policy) (policy_value ceil season policy)

-- The text is the report on a policy. The policy's tree abides by the rules, and what it earns lies between its two values, which are at
-- most a unit apart for each week. Where the files are told, it is what the policy file of the folder reads to.
pub record IsJudged (files : Option Files) (season : Season) (folder : List ℕ) (policy : Written) (text : List ℕ) : Type 0 where
  pub read : IfSome files (λ all. IsSomeAnd (held (policy_path folder) all) (λ bytes. policy_of season bytes ≡ Ok policy))
  pub whole : IsPolicy season policy
  pub valued : IsValued season policy
  pub told : text ≡ policy_text season policy

abbrev pub JudgeReports : Option Files → Season → Ask → List ℕ → Type 0
JudgeReports files season ask text = (policy : Written) × IsJudged files season ask.folder policy text
