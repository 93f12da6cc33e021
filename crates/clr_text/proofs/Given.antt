-- A reader of a text, and the records that it has given.
use Rattle.std.proofs.Common.{Bor, List, ℕ, ◌≡◌, ◌≤◌, ◌∙◌, ◌++◌, ◌∷◌, [], length, sym, refl, ap, arith, inl, inr, true, false, None, Some}
use Rattle.csv.specs.Reading.{ReadRecord, Reached, Ready, default_config, records, source_of, strip_bom, with_flexible, with_names_headers}
use Rattle.csv.specs.declared.reader.Reader.{Reader}
use Rattle.csv.specs.declared.reader.ReaderBuilder.{ReaderBuilder}
use Rattle.csv.specs.declared.reader.Trim.TheVariants as trim
use Rattle.csv.specs.declared.parser.State.TheVariants as st
use Rattle.csv.proofs.ReadFacts.{rows-end, rows-more}
use Rattle.clr_text.proofs.Records.{reached-count, records-begin, records-reached, strip_bom-shorter}
use Rattle.clr_text.specs.Tables.{Rows}

-- a reader that has given these records of the bytes, in turn
pub record HasGiven (bytes : List ℕ) (found : Rows) (reader : Reader (Bor (List ℕ))) : Type 0 where
  pub trim : reader.trim ≡ trim.None
  pub ready : Ready reader
  pub config : reader.config ≡ default_config
  pub left : List ℕ
  pub source : source_of (λ s. Some s.now) reader ≡ Some left
  pub reached : Reached default_config st.StartRecord (strip_bom bytes) found reader.state left

-- a reader that was just made, and trims nothing
pub given-none : (bytes : List ℕ) (first second third : ReaderBuilder) (reader : Reader (Bor (List ℕ))) → first.config ≡ default_config → first.trim ≡ trim.None → second ≡ with_names_headers first false → third ≡ with_flexible second true
    → reader.config ≡ third.config → reader.trim ≡ third.trim → reader.has_headers ≡ third.has_headers → reader.headers ≡ None → reader.state ≡ st.StartRecord → source_of (λ s. Some s.now) reader ≡ Some (strip_bom bytes) → HasGiven bytes [] reader
unfolding Reached
given-none bytes first second third reader plain untrimmed named flexible config trims headed none state source =
    let built : third ≡ with_flexible (with_names_headers first false) true = flexible ∙ ap (λ (b : ReaderBuilder). with_flexible b true) named in
    record {
      trim = rw built at trims ∙ untrimmed;
      ready = inr (inr (rw built at headed, none));
      config = rw built at config ∙ plain;
      left = strip_bom bytes;
      source = source;
      reached = (sym state, refl);
    }

-- a record more
pub given-more : (bytes : List ℕ) (found : Rows) (fields : List (List ℕ)) (old new : Reader (Bor (List ℕ))) → HasGiven bytes found old → ReadRecord (λ s. Some s.now) old new true fields → new.first ≡ true → HasGiven bytes (found ++ fields ∷ []) new
given-more bytes found fields old new given read first =
    let more = rows-more (λ (s : Bor (List ℕ)). Some s.now) old new fields default_config st.StartRecord (strip_bom bytes) given.left found given.config given.source given.reached read in
    record {
      trim = read.3 ∙ given.trim;
      ready = inl first;
      config = read.2 ∙ given.config;
      left = more.0;
      source = more.1;
      reached = more.2;
    }

-- no record more
pub given-all : (bytes : List ℕ) (found : Rows) (old new : Reader (Bor (List ℕ))) → HasGiven bytes found old → ReadRecord (λ s. Some s.now) old new false [] → found ≡ records default_config (strip_bom bytes)
given-all bytes found old new given read =
    let end = rows-end (λ (s : Bor (List ℕ)). Some s.now) old new [] default_config given.left given.config given.source read in
    records-reached default_config old.state (strip_bom bytes) given.left found given.reached end

-- what was given comes first
pub given-begin : (bytes : List ℕ) (found : Rows) (reader : Reader (Bor (List ℕ))) → HasGiven bytes found reader → (rest : Rows) × (records default_config (strip_bom bytes) ≡ found ++ rest)
given-begin bytes found reader given = records-begin default_config reader.state (strip_bom bytes) given.left found given.reached

-- each record takes a byte
pub given-count : (bytes : List ℕ) (found : Rows) (reader : Reader (Bor (List ℕ))) → HasGiven bytes found reader → length found ≤ length bytes
given-count bytes found reader given =
    let count = reached-count default_config st.StartRecord reader.state (strip_bom bytes) given.left found refl given.reached in
    let shorter = strip_bom-shorter bytes in
    omega (arith, count, shorter)
