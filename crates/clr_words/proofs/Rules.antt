-- The numbers of the command, from its rules.
use Rattle.std.proofs.Common.{◌≡◌, ◌∙◌, ◌<◌, ◌+◌, ◌==◌, ◌&&◌, ◌||◌, ap, ℕ, zero, suc, Bool, true, false, not, List, [], ◌∷◌, length, map, codes, Option, Some, None, is_some, refl, sym, subst, inl, inr, arith, true≢false, eqb-true}
use Rattle.std.specs.Prelude.{pos}
use Rattle.std.specs.List.{slice_index_or}
use Rattle.std.specs.Str.{bytes_eq}
use Rattle.std.proofs.Math.ListN.{get_or-map}
use Rattle.std.proofs.lemmas.List.{length-map}
use Rattle.std.proofs.lemmas.Slice.Eq.{bytes_eq-Decides}
use Rattle.clap.specs.Built.{IsParsedFrom}
use Rattle.clap.specs.Facts.{args_of, groups_of, least_values}
use Rattle.clap.specs.Matches.{found_of, one_text}
use Rattle.clap.specs.Simple.{App, app_of, shape_of}
use Rattle.clap.specs.Texts.{items_of}
use Rattle.clap.specs.Values.{IsSignedIn}
use Rattle.clap.specs.Lexer.{without_minus}
use Rattle.clap.specs.Walk.{Row, Rule, Text, is_simple_arg, one_of, rows_of, rule_of, texts}
use Rattle.clap.specs.declared.builder.arg.Arg.{Arg}
use Rattle.clap.specs.declared.builder.command.Command.{Command}
use Rattle.clap.specs.declared.builder.value_parser.ValueParser.TheVariants as vp
use Rattle.clap.specs.declared.parser.matches.ArgMatches.{ArgMatches}
use Rattle.clap.proofs.SimpleLemmas.{all_simple, is_nil, plain_fields, simple_groups}
use Rattle.clap.proofs.WalkLemmas.{both, one_text-rows}
use Rattle.clr_words.specs.Line.{HasNumbers, IsNumberIn, clearance, number_option}
use Rattle.clr_words.proofs.Options.{IsOption, option_reads}
use Rattle.clr_words.proofs.Readings.{signed_read}

is_none : {X : Type 0} (o : Option X) → not (is_some o) ≡ true → o ≡ None
is_none None e = refl
is_none (Some x) e = absurd (true≢false (sym e))

-- whether an id stands at place k alone, of the places from i on
abbrev stands_once : Text → ℕ → ℕ → List Rule → Bool
stands_once id k i [] = true
stands_once id k i (r ∷ rs) = ((i == k) || not (bytes_eq r.id id)) && stands_once id k (i + 1) rs

first_holds : (b c : Bool) → (b || not c) ≡ true → c ≡ true → b ≡ true
first_holds true c e t = refl
first_holds false true e t = absurd (true≢false (sym e))
first_holds false false e t = absurd (true≢false (sym t))

only_place : (id : Text) (k i : ℕ) (rs : List Rule) (j : ℕ) (r : Rule) → stands_once id k i rs ≡ true → j < length rs
    → bytes_eq (slice_index_or rs j r).id id ≡ true → i + j ≡ k
only_place id k i [] j r once lt same = absurd (omega arith)
only_place id k i (x ∷ rs) zero r once lt same =
    let here : (i == k) ≡ true = first_holds (i == k) (bytes_eq x.id id) (both _ _ once).0 same in
    omega (arith, eqb-true i k here)
only_place id k i (x ∷ rs) (suc j) r once lt same =
    let next : i + 1 + j ≡ k = only_place id k (i + 1) rs j r (both ((i == k) || not (bytes_eq x.id id)) _ once).1 (omega arith) same in
    omega arith

-- whether a name is of the caller's own, and none that clap gives
abbrev is_own : Text → Bool
is_own name = not (bytes_eq name []) && (not (bytes_eq name (codes "help")) && not (bytes_eq name (codes "version")))

differs : (a b : Text) → not (bytes_eq a b) ≡ true → a ≡ b → ⊥
differs a b e same = true≢false (sym (ap not (sym ((bytes_eq-Decides a b).1 same)) ∙ e))

-- what a simple argument has none of
simple_facts : (a : Arg) → is_simple_arg a ≡ true → (a.default_vals_ifs.items ≡ []) × (a.val_delim ≡ None)
simple_facts a e =
    let overrides = both _ _ e in
    let conditions = both _ _ overrides.1 in
    let groups = both _ _ conditions.1 in
    let delimiter = both _ _ groups.1 in
    (is_nil _ conditions.0, is_none _ delimiter.0)

own_facts : (name : Text) → is_own name ≡ true → (name ≡ [] → ⊥) × (name ≡ codes "help" → ⊥) × (name ≡ codes "version" → ⊥)
own_facts name e =
    let empty = both _ _ e in
    let others = both _ _ empty.1 in
    (differs name [] empty.0, differs name (codes "help") others.0, differs name (codes "version") others.1)

module _ (old : Command) (rules : List Rule) (same : map rule_of (args_of old) ≡ rules) where
  rule_at : (j : ℕ) (e : Arg) → rule_of (slice_index_or (args_of old) j e) ≡ slice_index_or rules j (rule_of e)
  rule_at j e = sym (get_or-map rule_of (args_of old) j e) ∙ ap (λ rs. slice_index_or rs j (rule_of e)) same

  count : length (args_of old) ≡ length rules
  count = sym (length-map (args_of old) rule_of) ∙ ap length same

  -- an option of a number, by its rule
  number_is : (k : ℕ) (d : Arg) (name standard : Text) (low high : ℕ) → k < length rules
      → slice_index_or rules k (rule_of d) ≡ number_option name low high standard
      → stands_once name k 0 rules ≡ true → is_own name ≡ true
      → IsOption old k d (vp.Signed (pos low) (pos high))
  number_is k d name standard low high lt at once own =
      let a = slice_index_or (args_of old) k d in
      let is : rule_of a ≡ number_option name low high standard = rule_at k d ∙ at in
      let id : a.id.now ≡ name = ap (λ (r : Rule). r.id) is in
      let simple : (a.default_vals_ifs.items ≡ []) × (a.val_delim ≡ None) = simple_facts a (ap (λ (r : Rule). r.is_simple) is) in
      let one : length (texts (items_of a.default_vals)) ≡ 1 = ap (λ (r : Rule). length r.defaults) is in
      let range : a.num_vals ≡ None = ap (λ (r : Rule). r.range) is in
      record {
        within = omega (arith, count);
        default = (simple.0, omega (arith, one, length-map (items_of a.default_vals) (λ s. s.now)));
        set = ap (λ (r : Rule). r.action) is;
        delimiter = simple.1;
        least = rw (range, least_values) (omega arith);
        parser = ap (λ (r : Rule). r.parser) is;
        unique = λ j e inside clash.
            let clash_id : bytes_eq (slice_index_or rules j (rule_of e)).id name ≡ true = rw (← ap (λ (r : Rule). r.id) (rule_at j e), ← id) clash in
            omega (arith, only_place name k 0 rules j (rule_of e) once (omega (arith, count)) clash_id);
        named = λ empty. (own_facts name own).0 (sym id ∙ empty);
        own = λ auto. elim auto [
          | inl help ↦ (own_facts name own).1 (sym id ∙ help)
          | inr version ↦ (own_facts name own).2 (sym id ∙ version)
        ];
      }

some_arg : (xs : List Arg) → 0 < length xs → Arg
some_arg [] lt = absurd (omega arith)
some_arg (x ∷ xs) lt = x

-- the number of an option, from its value
number_within : (low high : ℕ) (name t : Text) (rows : List Row) → one_of name rows ≡ Some (without_minus t) → IsSignedIn (pos low) (pos high) t
    → IsNumberIn low high name rows
number_within low high name t rows is passed =
    let r = signed_read low high t passed in
    record { numeral = rw is r.numeral; least = rw is r.least; most = rw is r.most }

module _ (old : Command) (m : ArgMatches) (app : app_of old ≡ clearance) (p : IsParsedFrom old m) where
  rules_are : map rule_of (args_of old) ≡ clearance.top.rules
  rules_are = ap (λ (a : App). a.top.rules) app

  is_plain : (shape_of old).is_plain ≡ true
  unfolding clearance
  is_plain = ap (λ (a : App). a.top.is_plain) app

  no_groups : groups_of p.built ≡ []
  unfolding clearance
  no_groups =
      let simple : all_simple (shape_of old).rules ≡ true = ap (λ (a : App). all_simple a.top.rules) app in
      (p.from.same_groups (simple_groups old simple)).1 ∙ (plain_fields old is_plain).groups

  number_holds : (k : ℕ) (d : Arg) (name standard : Text) (low high : ℕ) → k < length clearance.top.rules
      → slice_index_or clearance.top.rules k (rule_of d) ≡ number_option name low high standard
      → stands_once name k 0 clearance.top.rules ≡ true → is_own name ≡ true
      → IsNumberIn low high name (rows_of (found_of m))
  number_holds k d name standard low high lt at once own =
      let o = number_is old clearance.top.rules rules_are k d name standard low high lt at once own in
      let id : (slice_index_or (args_of old) k d).id.now ≡ name = ap (λ (r : Rule). r.id) (rule_at old clearance.top.rules rules_are k d ∙ at) in
      let read = option_reads old m p k d _ o no_groups (plain_fields old is_plain).globals in
      let text : one_text (found_of m) name ≡ Some (without_minus read.0) = subst (λ (n : Text). one_text (found_of m) n ≡ Some (without_minus read.0)) id read.1 in
      number_within low high name read.0 (rows_of (found_of m)) (sym (one_text-rows (found_of m) name) ∙ text) read.2

  -- each of the four numbers is within its limits
  pub numbers_hold : HasNumbers (rows_of (found_of m))
  unfolding clearance
  numbers_hold =
      let count : length (args_of old) ≡ 7 = sym (length-map (args_of old) rule_of) ∙ ap (λ (rs : List Rule). length rs) rules_are in
      let d = some_arg (args_of old) (omega arith) in
      record {
        steps = number_holds 2 d (codes "steps") (codes "20") 0 100 (omega arith) refl refl refl;
        step = number_holds 3 d (codes "step") (codes "1") 1 10 (omega arith) refl refl refl;
        nodes = number_holds 4 d (codes "nodes") (codes "100000") 0 10000000 (omega arith) refl refl refl;
        seed = number_holds 6 d (codes "seed") (codes "1") 0 999999999 (omega arith) refl refl refl;
      }
