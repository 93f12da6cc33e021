-- What the words of the command line ask.
use Rattle.std.specs.Prelude.{◌≡◌, ◌≤◌, ℕ, List, [], ◌∷◌, codes, Option, Some, None, option_map, string_bytes, Result, Ok, Err, if◌then◌else◌}
use Rattle.std.specs.Str.{bytes_eq}
use Rattle.clap.specs.Words.{Kinds, Row, Text, fault_of, matches_of}
use Rattle.clr_words.specs.Line.{clearance, line_of, number_in, text_in}
use Rattle.clr_words.specs.declared.asked.Asked.{Asked}
use Rattle.clr_words.specs.declared.asked.Job.{Job}
use Rattle.clr_words.specs.declared.asked.Job.TheVariants.{Plan, Check, Judge, Make}
use Rattle.clr_words.specs.declared.asked.WordsError.{WordsError}
use Rattle.clr_words.specs.declared.asked.WordsError.TheVariants.{Faulty, Memory}

-- what is asked
pub record Ask : Type 0 where
  pub job : Job
  pub folder : Text
  pub steps : ℕ
  pub step : ℕ
  pub nodes : ℕ
  pub cert : Text
  pub seed : ℕ

-- each number is within its limits
pub record IsAsk (ask : Ask) : Type 0 where
  pub steps : ask.steps ≤ 100
  pub some_step : 1 ≤ ask.step
  pub step : ask.step ≤ 10
  pub nodes : ask.nodes ≤ 10000000
  pub seed : ask.seed ≤ 999999999

-- the job of a word
abbrev pub job_of : Text → Option Job
job_of word =
    if bytes_eq word (codes "plan") then Some Plan
    else (if bytes_eq word (codes "check") then Some Check
    else (if bytes_eq word (codes "judge") then Some Judge
    else (if bytes_eq word (codes "make") then Some Make else None)))

-- what the matches ask for a job
abbrev pub ask_for : List Row → Job → Ask
ask_for rows job = record {
  job = job;
  folder = text_in (codes "folder") rows;
  steps = number_in (codes "steps") rows;
  step = number_in (codes "step") rows;
  nodes = number_in (codes "nodes") rows;
  cert = text_in (codes "cert") rows;
  seed = number_in (codes "seed") rows;
}

-- what the matches ask, and nothing where their job is none of the four
unfoldable pub asked_in : List Row → Option Ask
asked_in rows = option_map (ask_for rows) (job_of (text_in (codes "job") rows))

-- nothing where there is a fault
abbrev pub unless_faulty : Kinds → Option Ask → Option Ask
unless_faulty [] ask = ask
unless_faulty (kind ∷ kinds) ask = None

-- what the words ask: nothing exactly where clap's definition gives a fault, or the job is none of
-- the four
unfoldable pub asked_of : List Text → Option Ask
asked_of words =
    unless_faulty (fault_of clearance (line_of words)) (asked_in (matches_of clearance (line_of words)))

-- what was read, without where it lies in memory
abbrev pub ask_of : Asked → Ask
ask_of asked = record {
  job = asked.job;
  folder = string_bytes asked.folder;
  steps = asked.steps;
  step = asked.step;
  nodes = asked.nodes;
  cert = string_bytes asked.cert;
  seed = asked.seed;
}

-- What was answered is what the words ask, unless memory was wanting.
abbrev pub Answers : Result Asked WordsError → Option Ask → Type 0
Answers (Ok asked) ask = ask ≡ Some (ask_of asked)
Answers (Err Faulty) ask = ask ≡ None
Answers (Err Memory) ask = Unit {0}
