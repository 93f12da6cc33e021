-- What a parse gives of an option of one value that has a default.
use Rattle.std.proofs.Common.{◌≡◌, ◌∙◌, ◌<◌, ◌≤◌, ap, ℕ, zero, suc, Bool, true, false, List, [], ◌∷◌, length, Some, None, refl, sym, subst, inl, inr, arith}
use Rattle.std.specs.Prelude.{find, option_map, slice_get}
use Rattle.std.specs.List.{All, slice_index_or}
use Rattle.std.specs.Str.{bytes_eq}
use Rattle.std.specs.Borrow.{Bor}
use Rattle.std.proofs.lemmas.List.Elements.{All-head}
use Rattle.std.proofs.lemmas.Slice.Eq.{bytes_eq-Decides}
use Rattle.clap.specs.Built.{IsAuto, IsParsedFrom, SameRules}
use Rattle.clap.specs.Facts.{Entry, EntryPasses, EntryValuesPass, HasReading, IsFilledEntry, IsGroupEntry, IsKnownGroup, PassesArg, ReadsByParser, WantsDefault, args_of, groups_of, least_values, parser_of, parser_of_value}
use Rattle.clap.specs.Matches.{found_of, matched_of, one_text}
use Rattle.clap.specs.Values.{Accepts, read_as, reading_of}
use Rattle.clap.specs.Walk.{Text}
use Rattle.clap.specs.declared.builder.action.ArgAction.TheVariants.{Count, Set}
use Rattle.clap.specs.declared.builder.arg.Arg.{Arg}
use Rattle.clap.specs.declared.builder.command.Command.{Command}
use Rattle.clap.specs.declared.builder.command.Command.TheViews.{out-Command}
use Rattle.clap.specs.declared.builder.value_parser.Reading.{Reading}
use Rattle.clap.specs.declared.builder.value_parser.ValueParser.{ValueParser}
use Rattle.clap.specs.declared.parser.matches.ArgMatches.{ArgMatches}
use Rattle.clap.specs.declared.parser.matches.Found.{Found}
use Rattle.clap.specs.declared.parser.matches.MatchedArg.{MatchedArg}
use Rattle.clap.proofs.CallerLemmas.{default_present, entry_by_id, same_rules_by_id}

-- an argument of a command that takes one value, has a default, and shares its id with none
pub record IsOption (old : Command) (k : ℕ) (d : Arg) (q : ValueParser) : Type 0 where
  pub within : k < length (args_of old)
  pub default : WantsDefault (slice_index_or (args_of old) k d)
  pub set : (slice_index_or (args_of old) k d).action ≡ Some Set
  pub delimiter : (slice_index_or (args_of old) k d).val_delim ≡ None
  pub least : 1 ≤ least_values (slice_index_or (args_of old) k d)
  pub parser : (slice_index_or (args_of old) k d).value_parser ≡ Some q
  pub unique : (j : ℕ) (e : Arg) → j < length (args_of old)
      → bytes_eq (slice_index_or (args_of old) j e).id.now (slice_index_or (args_of old) k d).id.now ≡ true → j ≡ k
  pub named : (slice_index_or (args_of old) k d).id.now ≡ [] → ⊥
  pub own : IsAuto (slice_index_or (args_of old) k d) → ⊥

-- the first entry of an id that one has
entry_found : (xs : List Entry) (id : Text) (i : ℕ) → i < length xs → ((d : Entry) → bytes_eq (slice_index_or xs i d).0.now id ≡ true)
    → (x : MatchedArg) × (option_map (λ e. e.1) (find (λ e. bytes_eq e.0.now id) xs) ≡ Some x)
entry_found [] id i lt has = absurd (omega arith)
entry_found (e ∷ es) id zero lt has = (e.1, rw (has e) refl)
entry_found (e ∷ es) id (suc i) lt has = go (bytes_eq e.0.now id) refl (entry_found es id i (omega arith) has)
  where
    go : (b : Bool) → bytes_eq e.0.now id ≡ b → ((x : MatchedArg) × (option_map (λ e. e.1) (find (λ e. bytes_eq e.0.now id) es) ≡ Some x))
        → (x : MatchedArg) × (option_map (λ e. e.1) (find (λ e. bytes_eq e.0.now id) (e ∷ es)) ≡ Some x)
    go true is rest = (e.1, rw is refl)
    go false is rest = (rest.0, rw is rest.1)

-- the first of some values that all pass
first_passes : (P : Bor Text → Type 0) (how : Reading) (vs : List (Bor Text)) → 0 < length vs → All P vs
    → (v : Bor Text) × (option_map (λ s. read_as how s.now) (slice_get vs 0) ≡ Some (read_as how v.now)) × P v
first_passes P how [] lt all = absurd (omega arith)
first_passes P how (v ∷ vs) lt all = (v, refl, All-head P v vs all)

-- the first value of an id, by its entry
read_first : (f : Found) (id : Text) (x : MatchedArg) (how : Reading) (P : Bor Text → Type 0) → matched_of f id ≡ Some x → x.reading ≡ how
    → 0 < length x.vals.items → All P x.vals.items → (v : Bor Text) × (one_text f id ≡ Some (read_as how v.now)) × P v
read_first f id x how P found is some all = finish (first_passes P how x.vals.items some all)
  where
    finish : ((v : Bor Text) × (option_map (λ s. read_as how s.now) (slice_get x.vals.items 0) ≡ Some (read_as how v.now)) × P v)
        → (v : Bor Text) × (one_text f id ≡ Some (read_as how v.now)) × P v
    finish first = (first.0, rw (found, is) first.1, first.2)

module _ (old : Command) (m : ArgMatches) (p : IsParsedFrom old m) (k : ℕ) (d : Arg) (q : ValueParser) (o : IsOption old k d q) where
  abbrev name : Text
  name = (slice_index_or (args_of old) k d).id.now

  abbrev Passed : Text → Type 0
  Passed t = Accepts (slice_index_or (args_of old) k d).ignore_case q t

  -- an argument of the built command with the option's id is the option
  rules_of_same : (j : ℕ) (x : Arg) → j < length (args_of p.built) → slice_index_or (args_of p.built) j x ≡ x
      → bytes_eq x.id.now name ≡ true → SameRules (slice_index_or (args_of old) k d) x
  rules_of_same j x high at same = same_rules_by_id old m p k d o.within o.unique o.own j x high at same

  value_passes : (v : Text) → PassesArg p.built name v → Passed v
  value_passes v h =
      let s = rules_of_same h.0 h.1 h.2 h.3 h.4.0 in
      let is_q : parser_of h.1 ≡ q = ap parser_of_value (s.parser q o.parser) in
      let as_q : Accepts h.1.ignore_case q v = subst (λ (w : ValueParser). Accepts h.1.ignore_case w v) is_q h.4.1 in
      subst (λ (b : Bool). Accepts b q v) s.ignore_case as_q

  reading_is : (r : Reading) → HasReading p.built name r → r ≡ reading_of q
  reading_is r h =
      let s = rules_of_same h.0 h.1 h.2 h.3 h.4.0 in
      sym h.4.1 ∙ ap (λ (w : ValueParser). reading_of w) (ap parser_of_value (s.parser q o.parser))

  module _ (none : groups_of p.built ≡ []) where
    no_group : IsKnownGroup p.built name → ⊥
    no_group (inl empty) = o.named empty
    no_group (inr some) =
        let bad : 0 < 0 = rw none at some in
        absurd (omega arith)

    has_value : (e : Entry) → e.0.now ≡ name → IsFilledEntry p.built e → 0 < length e.1.vals.items
    has_value e key (inl h) = absurd (no_group (rw key at h.1))
    has_value e key (inr (inl some)) = some
    has_value e key (inr (inr (inl h))) =
        let any = h.1 in
        let s = rules_of_same any.0 any.1 any.2 any.3 (rw key at any.4.0) in
        let is_set : any.1.action ≡ Some Set = s.action Set o.set in
        let bad : Set ≡ Count = rw is_set at any.4.1 in
        cc
    has_value e key (inr (inr (inr h))) =
        let s = rules_of_same h.0 h.1 h.2 h.3 (rw key at h.4.0) in
        elim h.4.1 [
          | inl zero_values ↦
              let one = s.least o.set o.least in
              absurd (omega arith)
          | inr splits ↦
              let bad : false ≡ true = rw (s.val_delim, o.delimiter) at splits in
              cc
        ]

    no_group_entry : (e : Entry) → e.0.now ≡ name → IsGroupEntry p.built e → e.1.is_group ≡ true → ⊥
    no_group_entry e key h is = no_group (rw key at (h is))

    values_pass : (e : Entry) → e.0.now ≡ name → (e.1.is_group ≡ true → ⊥) → EntryValuesPass p.built e → All (λ v. PassesArg p.built name v.now) e.1.vals.items
    values_pass e key plain (inl group) = absurd (plain group)
    values_pass e key plain (inr values) = rw key at values

    entry_reading : (e : Entry) → e.0.now ≡ name → (e.1.is_group ≡ true → ⊥) → ReadsByParser p.built e → e.1.reading ≡ reading_of q
    entry_reading e key plain (inl group) = absurd (plain group)
    entry_reading e key plain (inr h) = reading_is e.1.reading (rw key at h)

    -- what one entry of the option gives
    entry_reads : (e : Entry) → matched_of (found_of m) name ≡ Some e.1 → e.0.now ≡ name → EntryPasses p.built e
        → (v : Bor Text) × (one_text (found_of m) name ≡ Some (read_as (reading_of q) v.now)) × PassesArg p.built name v.now
    entry_reads e found key pass =
        let plain = no_group_entry e key pass.3 in
        read_first (found_of m) name e.1 (reading_of q) (λ v. PassesArg p.built name v.now) found (entry_reading e key plain pass.4)
        (has_value e key pass.1) (values_pass e key plain pass.0)

    passed : ((v : Bor Text) × (one_text (found_of m) name ≡ Some (read_as (reading_of q) v.now)) × PassesArg p.built name v.now)
        → (t : Text) × (one_text (found_of m) name ≡ Some (read_as (reading_of q) t)) × Passed t
    passed read = (read.0.now, read.1, value_passes read.0.now read.2)

    -- the option has a value, which passed its parser and is read as its parser says
    pub option_reads : (out-Command old).has_globals ≡ false
        → (t : Text) × (one_text (found_of m) name ≡ Some (read_as (reading_of q) t)) × Passed t
    option_reads globals =
        let parsed = p.parsed (p.from.globals ∙ globals) in
        let has = default_present old m p globals k d o.within o.default in
        let x = entry_found (found_of m).entries.items name has.0 has.1 has.2 in
        let e = entry_by_id (EntryPasses p.built) (found_of m).entries.items name x.0 parsed.values x.1 in
        passed (entry_reads e.0 (x.1 ∙ ap Some (sym e.1)) ((bytes_eq-Decides e.0.0.now name).0 e.2) e.3)
