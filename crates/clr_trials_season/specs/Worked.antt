-- The numbers of one season's certificate: one store, two weeks, two rungs and two units.
use Rattle.std.specs.Prelude.{ℕ, ◌+◌, ◌*◌, nat_lt, if◌then◌else◌, ℤ, pos, List, [], ◌∷◌, slice_index_or as get_or}
use Rattle.clr_rules.specs.declared.season_rules.Summary.{Summary}
use Rattle.clr_cert.specs.Entries.{CertEntries}

-- the rungs of the weeks, from week 1
abbrev pub rungs : List ℕ
rungs = 1 ∷ 1 ∷ 2 ∷ []

-- by weeks done and stock
abbrev pub path_values : List ℤ
path_values = pos 0 ∷ pos 700000000 ∷ pos 1100000000 ∷ pos 0 ∷ pos 400000000 ∷ pos 800000000 ∷ pos 0 ∷ pos 0 ∷ pos 0 ∷ []

-- by weeks done, last rung from 0 and stock
abbrev pub store_values : List ℤ
store_values =
    pos 0 ∷ pos 0 ∷ pos 0 ∷ pos 0 ∷ pos 750000000 ∷ pos 1150000000 ∷ pos 0 ∷ pos 0 ∷ pos 0
    ∷ pos 0 ∷ pos 0 ∷ pos 0 ∷ pos 0 ∷ pos 500000000 ∷ pos 800000000 ∷ pos 0 ∷ pos 400000000 ∷ pos 800000000
    ∷ []

abbrev pub choices : List ℕ
choices = 1 ∷ 1 ∷ 1 ∷ 1 ∷ 1 ∷ 1 ∷ 1 ∷ 1 ∷ 1 ∷ 1 ∷ 1 ∷ 1 ∷ 1 ∷ 1 ∷ 2 ∷ 2 ∷ 2 ∷ 2 ∷ []

abbrev pub place : ℕ → Summary → ℕ → ℕ
place done s stock = (done * 3 + s.last) * 3 + stock

abbrev pub worked : CertEntries
worked = record {
  rung = λ week. get_or rungs week 1;
  mult = λ store week rung. pos 0;
  low = λ done store stock. get_or path_values (done * 3 + stock) (pos 0);
  high = λ done store stock. get_or path_values (done * 3 + stock) (pos 0);
  value = λ done store s stock. get_or store_values (place done s stock) (pos 0);
  joint = λ done s stocks. (
    if nat_lt done 2 then get_or choices (place done s (get_or stocks 0 0)) 1 else 0,
    get_or store_values (place done s (get_or stocks 0 0)) (pos 0),
    get_or store_values (place done s (get_or stocks 0 0)) (pos 0),
  );
}
