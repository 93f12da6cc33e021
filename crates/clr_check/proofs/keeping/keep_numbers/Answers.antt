use Rattle.std.proofs.Common.{◌≡◌, ◌∙◌, ◌*◌, ◌+◌, ◌%◌, ap, subst, arith, length, refl, take, drop, IsTrue}
use Rattle.clr_model.specs.Fits.{stock_lists}
use Rattle.clr_cert.specs.Entries.{most_entry}
use Rattle.clr_cert.specs.Places.{IsPlaceOf}
use Rattle.clr_cert.specs.Reading.{are_in_range, count_at}
use Rattle.clr_check.specs.Rows.{IsPut}
use Rattle.clr_check.specs.Standing.{AreMultsKept, live_place, row_number, stock_count}
use Rattle.clr_check.proofs.Holding.{all_small, one_number}
use Rattle.clr_check.proofs.Kept.{bound_kept, exact_kept, high_kept, joint_kept, low_kept, mults_kept, path_kept, revenue_kept, value_kept}
use Rattle.clr_check.proofs.Rooms.{highs_stay, joint_room, joint_small, joints_stay, lows_stay, read_total, value_room, values_stay}
use Rattle.clr_check.proofs.keeping.keep_numbers.Goals as goal

pub returns-in-Path-clause-keeps : goal.returns-in-Path-clause-keeps
returns-in-Path-clause-keeps c = rw c.in-Path.is (λ lines row here told before. path_kept c.args.season.now lines row c.args.tables.now c.args.numbers.now c.requires.facts c.keep_path.new.path here told c.keep_path.ensures.there before)

pub returns-in-Mult-clause-keeps : goal.returns-in-Mult-clause-keeps
returns-in-Mult-clause-keeps c = rw c.in-Mult.is (λ lines row here told before. mults_kept c.args.season.now lines row c.args.tables.now c.args.numbers.now c.requires.facts c.in-Mult.week c.in-Mult.rung c.keep_mults.new.rows here told (subst (IsPlaceOf c.args.season.now) c.in-Mult.is c.requires.place) (subst (λ n. AreMultsKept c.args.season.now c.in-Mult.week c.in-Mult.rung c.args.numbers.now n c.args.tables.now.mults c.keep_mults.new.rows) refl c.keep_mults.ensures.kept) before)

pub returns-in-Low-clause-keeps : goal.returns-in-Low-clause-keeps
returns-in-Low-clause-keeps c = rw c.in-Low.is (λ lines row here told before. low_kept c.args.season.now lines row c.args.tables.now c.args.numbers.now c.requires.facts c.in-Low.done c.in-Low.store c.put.new.self here told (subst (IsPlaceOf c.args.season.now) c.in-Low.is c.requires.place) (c.requires.count ∙ ap (count_at c.args.season.now) c.in-Low.is) (subst (λ r. IsPut c.args.tables.now.lows r 0 c.args.numbers.now c.put.new.self) c.row_number.ensures c.put.ensures) before)

pub returns-in-High-clause-keeps : goal.returns-in-High-clause-keeps
returns-in-High-clause-keeps c = rw c.in-High.is (λ lines row here told before. high_kept c.args.season.now lines row c.args.tables.now c.args.numbers.now c.requires.facts c.in-High.done c.in-High.store c.put-in-High.new.self here told (subst (IsPlaceOf c.args.season.now) c.in-High.is c.requires.place) (c.requires.count ∙ ap (count_at c.args.season.now) c.in-High.is) (subst (λ r. IsPut c.args.tables.now.highs r 0 c.args.numbers.now c.put-in-High.new.self) c.row_number-in-High.ensures c.put-in-High.ensures) before)

pub keep_values-requires-clause-rows : goal.keep_values-requires-clause-rows
keep_values-requires-clause-rows c = value_room c.args.season.now c.in-Value.done c.in-Value.store c.args.tables.now (subst (IsPlaceOf c.args.season.now) c.in-Value.is c.requires.place).0 c.requires.tables

pub keep_joint-requires-clause-rows : goal.keep_joint-requires-clause-rows
keep_joint-requires-clause-rows c =
    let place = subst (IsPlaceOf c.args.season.now) c.in-Joint.is c.requires.place in
    joint_room c.args.season.now c.in-Joint.done c.requires.tables.most c.args.tables.now.joint_lows (c.requires.tables.room c.in-Joint.done place.early) (c.requires.tables.joint_lows place.fit)

pub keep_joint-requires-in-Joint-clause-rows : goal.keep_joint-requires-in-Joint-clause-rows
keep_joint-requires-in-Joint-clause-rows c =
    let place = subst (IsPlaceOf c.args.season.now) c.in-Joint.is c.requires.place in
    joint_room c.args.season.now c.in-Joint.done c.requires.tables.most c.args.tables.now.joint_tops (c.requires.tables.room c.in-Joint.done place.early) (c.requires.tables.joint_tops place.fit)

pub returns-in-Low-clause-tables : goal.returns-in-Low-clause-tables
returns-in-Low-clause-tables c = lows_stay c.args.season.now c.args.tables.now c.args.numbers.now c.requires.tables c.row_number.result 0 c.put.new.self (all_small most_entry c.args.numbers.now (subst (λ p. IsTrue (are_in_range c.args.season.now p c.args.numbers.now)) c.in-Low.is c.requires.range)) c.put.ensures

pub returns-in-High-clause-tables : goal.returns-in-High-clause-tables
returns-in-High-clause-tables c = highs_stay c.args.season.now c.args.tables.now c.args.numbers.now c.requires.tables c.row_number-in-High.result 0 c.put-in-High.new.self (all_small most_entry c.args.numbers.now (subst (λ p. IsTrue (are_in_range c.args.season.now p c.args.numbers.now)) c.in-High.is c.requires.range)) c.put-in-High.ensures

pub returns-in-Value-clause-tables : goal.returns-in-Value-clause-tables
returns-in-Value-clause-tables c = values_stay c.args.season.now c.args.tables.now c.args.numbers.now c.requires.tables (row_number c.in-Value.store c.in-Value.done) (live_place c.args.season.now c.in-Value.done c.in-Value.s * stock_count c.args.season.now c.in-Value.store) c.keep_values.new.rows
    (all_small most_entry c.args.numbers.now (subst (λ p. IsTrue (are_in_range c.args.season.now p c.args.numbers.now)) c.in-Value.is c.requires.range)) c.keep_values.ensures

pub returns-in-Value-clause-keeps : goal.returns-in-Value-clause-keeps
returns-in-Value-clause-keeps c = rw c.in-Value.is (λ lines row here told before. value_kept c.args.season.now lines row c.args.tables.now c.args.numbers.now c.requires.facts c.in-Value.done c.in-Value.store c.in-Value.s c.keep_values.new.rows here told (subst (IsPlaceOf c.args.season.now) c.in-Value.is c.requires.place) (c.requires.count ∙ ap (count_at c.args.season.now) c.in-Value.is) c.keep_values.ensures before)

pub returns-in-Joint-clause-tables : goal.returns-in-Joint-clause-tables
returns-in-Joint-clause-tables c =
    let size : length c.args.numbers.now ≡ 3 = c.requires.count ∙ ap (count_at c.args.season.now) c.in-Joint.is in
    let small = joint_small c.args.season.now c.in-Joint.done c.args.numbers.now size (subst (λ p. IsTrue (are_in_range c.args.season.now p c.args.numbers.now)) c.in-Joint.is c.requires.range) in
    joints_stay c.args.season.now c.args.tables.now c.args.numbers.now c.requires.tables (c.in-Joint.done % 2) (live_place c.args.season.now c.in-Joint.done c.in-Joint.s * stock_lists c.args.season.now.stores + c.in-Joint.index) (take 1 (drop 1 c.args.numbers.now)) (take 1 (drop 2 c.args.numbers.now)) c.keep_joint.new.rows c.keep_joint-in-Joint.new.rows
    ((one_number c.args.numbers.now 1 (omega (arith, size))).1.1 most_entry small.0) ((one_number c.args.numbers.now 2 (omega (arith, size))).1.1 most_entry small.1) c.keep_joint.ensures c.keep_joint-in-Joint.ensures

pub returns-in-Joint-clause-keeps : goal.returns-in-Joint-clause-keeps
returns-in-Joint-clause-keeps c =
    let size : length c.args.numbers.now ≡ 3 = c.requires.count ∙ ap (count_at c.args.season.now) c.in-Joint.is in
    let ones = one_number c.args.numbers.now 1 (omega (arith, size)) in
    let twos = one_number c.args.numbers.now 2 (omega (arith, size)) in
    rw c.in-Joint.is (λ lines row here told before. joint_kept c.args.season.now lines row c.args.tables.now c.args.numbers.now c.requires.facts c.in-Joint.done c.in-Joint.s c.in-Joint.index (take 1 (drop 1 c.args.numbers.now)) (take 1 (drop 2 c.args.numbers.now)) c.keep_joint.new.rows c.keep_joint-in-Joint.new.rows here told
    (subst (IsPlaceOf c.args.season.now) c.in-Joint.is c.requires.place) ones.0 ones.1.0 twos.0 twos.1.0 c.keep_joint.ensures c.keep_joint-in-Joint.ensures before)

pub returns-in-Revenue-clause-keeps : goal.returns-in-Revenue-clause-keeps
returns-in-Revenue-clause-keeps c =
    let size : length c.args.numbers.now ≡ 2 = c.requires.count ∙ ap (count_at c.args.season.now) c.in-Revenue.is in
    let range = subst (λ p. IsTrue (are_in_range c.args.season.now p c.args.numbers.now)) c.in-Revenue.is c.requires.range in
    rw c.in-Revenue.is (λ lines row here told before. revenue_kept c.args.season.now lines row c.args.tables.now c.args.numbers.now c.requires.facts _ _ here told (read_total c.args.numbers.now 0 range (omega (arith, size))) (read_total c.args.numbers.now 1 range (omega (arith, size))) before)

pub returns-in-Bound-clause-keeps : goal.returns-in-Bound-clause-keeps
returns-in-Bound-clause-keeps c =
    let size : length c.args.numbers.now ≡ 1 = c.requires.count ∙ ap (count_at c.args.season.now) c.in-Bound.is in
    let range = subst (λ p. IsTrue (are_in_range c.args.season.now p c.args.numbers.now)) c.in-Bound.is c.requires.range in
    rw c.in-Bound.is (λ lines row here told before. bound_kept c.args.season.now lines row c.args.tables.now c.args.numbers.now c.requires.facts _ here told (read_total c.args.numbers.now 0 range (omega (arith, size))) before)

pub returns-in-Exact-clause-keeps : goal.returns-in-Exact-clause-keeps
returns-in-Exact-clause-keeps c =
    let size : length c.args.numbers.now ≡ 2 = c.requires.count ∙ ap (count_at c.args.season.now) c.in-Exact.is in
    let range = subst (λ p. IsTrue (are_in_range c.args.season.now p c.args.numbers.now)) c.in-Exact.is c.requires.range in
    rw c.in-Exact.is (λ lines row here told before. exact_kept c.args.season.now lines row c.args.tables.now c.args.numbers.now c.requires.facts _ _ here told (read_total c.args.numbers.now 0 range (omega (arith, size))) (read_total c.args.numbers.now 1 range (omega (arith, size))) before)
