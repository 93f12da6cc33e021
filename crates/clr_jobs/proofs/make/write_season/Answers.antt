use Rattle.std.proofs.Common.{◌≡◌, ◌∙◌, ◌∷◌, [], refl, rules, subst, sym, string_bytes}
use Rattle.std.specs.Prelude.{Err, IsErrOf}
use Rattle.clr_cert.specs.Writing.{with_file}
use Rattle.clr_cert.specs.Writing.{AddsFront as AddsFileFront}
use Rattle.clr_cert.proofs.Sending.{on_ok}
use Rattle.clr_report.specs.declared.note.Doc.TheVariants as d
use Rattle.clr_jobs.proofs.Making.{made-demand, made-ladder, made-stock}
use Rattle.clr_jobs.proofs.Writing.{failed-so, leaves-first, leaves-next, made-next, same-document}
use Rattle.clr_jobs.proofs.make.write_season.Goals as goal

pub returns-in_err-write_document-clause-leaves : goal.returns-in_err-write_document-clause-leaves
returns-in_err-write_document-clause-leaves g c = λ doc is.
    let exit : c.from_residual.result ≡ Err c.in_err-write_document.field-0.0 = search rules in
    let failed : c.in_err-write_document.field-0.0 ≡ doc = same-document c.in_err-write_document.field-0.0 doc (subst (λ result. IsErrOf result doc) exit is) in
    let named : doc ≡ d.Rules = sym failed ∙ c.in_err-write_document.ensures.named c.in_err-write_document.field-0.0 refl in
    let front : AddsFileFront (g.D.Desk.made c.args.desk.now) (g.D.Desk.made c.write_document.new.desk) (string_bytes c.args.season.now.names.rules) c.args.season.now.made.rules.items = rw (c.as_str.ensures.value, c.deref.ensures.value) at c.in_err-write_document.ensures.front in
    leaves-first d.Rules doc (d.Ladder ∷ d.Stock ∷ d.Demand ∷ []) (g.D.Desk.made c.args.desk.now) (g.D.Desk.made c.write_document.new.desk) (string_bytes c.args.season.now.names.rules) c.args.season.now.made.rules.items ((string_bytes c.args.season.now.names.ladder, c.args.season.now.made.ladder.items) ∷ (string_bytes c.args.season.now.names.stock, c.args.season.now.made.stock.items) ∷ (string_bytes c.args.season.now.names.demand, c.args.season.now.made.demand.items) ∷ []) named front

pub returns-in_err-write_document-2-clause-leaves : goal.returns-in_err-write_document-2-clause-leaves
returns-in_err-write_document-2-clause-leaves g c = λ doc is.
    let exit : c.from_residual-in_err-write_document-2.result ≡ Err c.in_err-write_document-2.field-0.0 = search rules in
    let failed : c.in_err-write_document-2.field-0.0 ≡ doc = same-document c.in_err-write_document-2.field-0.0 doc (subst (λ result. IsErrOf result doc) exit is) in
    let named : doc ≡ d.Ladder = sym failed ∙ c.in_err-write_document-2.ensures.named c.in_err-write_document-2.field-0.0 refl in
    let made0 : g.D.Desk.made c.write_document.new.desk ≡ with_file (g.D.Desk.made c.args.desk.now) (string_bytes c.args.season.now.names.rules) c.args.season.now.made.rules.items = rw (c.as_str.ensures.value, c.deref.ensures.value) at c.in_ok-write_document.ensures.ok in
    let front : AddsFileFront (g.D.Desk.made c.write_document.new.desk) (g.D.Desk.made c.write_document-2.new.desk) (string_bytes c.args.season.now.names.ladder) c.args.season.now.made.ladder.items = rw (c.as_str-2.ensures.value, c.deref-2.ensures.value) at c.in_err-write_document-2.ensures.front in
    leaves-next d.Rules doc (d.Ladder ∷ d.Stock ∷ d.Demand ∷ []) (g.D.Desk.made c.args.desk.now) (g.D.Desk.made c.write_document.new.desk) (g.D.Desk.made c.write_document-2.new.desk) (string_bytes c.args.season.now.names.rules) c.args.season.now.made.rules.items ((string_bytes c.args.season.now.names.ladder, c.args.season.now.made.ladder.items) ∷ (string_bytes c.args.season.now.names.stock, c.args.season.now.made.stock.items) ∷ (string_bytes c.args.season.now.names.demand, c.args.season.now.made.demand.items) ∷ []) made0 (leaves-first d.Ladder doc (d.Stock ∷ d.Demand ∷ []) (g.D.Desk.made c.write_document.new.desk) (g.D.Desk.made c.write_document-2.new.desk) (string_bytes c.args.season.now.names.ladder) c.args.season.now.made.ladder.items ((string_bytes c.args.season.now.names.stock, c.args.season.now.made.stock.items) ∷ (string_bytes c.args.season.now.names.demand, c.args.season.now.made.demand.items) ∷ []) named front)

pub returns-in_err-write_document-3-clause-leaves : goal.returns-in_err-write_document-3-clause-leaves
returns-in_err-write_document-3-clause-leaves g c = λ doc is.
    let exit : c.from_residual-in_err-write_document-3.result ≡ Err c.in_err-write_document-3.field-0.0 = search rules in
    let failed : c.in_err-write_document-3.field-0.0 ≡ doc = same-document c.in_err-write_document-3.field-0.0 doc (subst (λ result. IsErrOf result doc) exit is) in
    let named : doc ≡ d.Stock = sym failed ∙ c.in_err-write_document-3.ensures.named c.in_err-write_document-3.field-0.0 refl in
    let made0 : g.D.Desk.made c.write_document.new.desk ≡ with_file (g.D.Desk.made c.args.desk.now) (string_bytes c.args.season.now.names.rules) c.args.season.now.made.rules.items = rw (c.as_str.ensures.value, c.deref.ensures.value) at c.in_ok-write_document.ensures.ok in
    let made1 : g.D.Desk.made c.write_document-2.new.desk ≡ with_file (g.D.Desk.made c.write_document.new.desk) (string_bytes c.args.season.now.names.ladder) c.args.season.now.made.ladder.items = rw (c.as_str-2.ensures.value, c.deref-2.ensures.value) at c.in_ok-write_document-2.ensures.ok in
    let front : AddsFileFront (g.D.Desk.made c.write_document-2.new.desk) (g.D.Desk.made c.write_document-3.new.desk) (string_bytes c.args.season.now.names.stock) c.args.season.now.made.stock.items = rw (c.as_str-3.ensures.value, c.deref-3.ensures.value) at c.in_err-write_document-3.ensures.front in
    leaves-next d.Rules doc (d.Ladder ∷ d.Stock ∷ d.Demand ∷ []) (g.D.Desk.made c.args.desk.now) (g.D.Desk.made c.write_document.new.desk) (g.D.Desk.made c.write_document-3.new.desk) (string_bytes c.args.season.now.names.rules) c.args.season.now.made.rules.items ((string_bytes c.args.season.now.names.ladder, c.args.season.now.made.ladder.items) ∷ (string_bytes c.args.season.now.names.stock, c.args.season.now.made.stock.items) ∷ (string_bytes c.args.season.now.names.demand, c.args.season.now.made.demand.items) ∷ []) made0 (leaves-next d.Ladder doc (d.Stock ∷ d.Demand ∷ []) (g.D.Desk.made c.write_document.new.desk) (g.D.Desk.made c.write_document-2.new.desk) (g.D.Desk.made c.write_document-3.new.desk) (string_bytes c.args.season.now.names.ladder) c.args.season.now.made.ladder.items ((string_bytes c.args.season.now.names.stock, c.args.season.now.made.stock.items) ∷ (string_bytes c.args.season.now.names.demand, c.args.season.now.made.demand.items) ∷ []) made1 (leaves-first d.Stock doc (d.Demand ∷ []) (g.D.Desk.made c.write_document-2.new.desk) (g.D.Desk.made c.write_document-3.new.desk) (string_bytes c.args.season.now.names.stock) c.args.season.now.made.stock.items ((string_bytes c.args.season.now.names.demand, c.args.season.now.made.demand.items) ∷ []) named front))

pub returns-clause-ok : goal.returns-clause-ok
returns-clause-ok g c =
    let made0 : g.D.Desk.made c.write_document.new.desk ≡ with_file (g.D.Desk.made c.args.desk.now) (string_bytes c.args.season.now.names.rules) c.args.season.now.made.rules.items = rw (c.as_str.ensures.value, c.deref.ensures.value) at c.in_ok-write_document.ensures.ok in
    let made1 : g.D.Desk.made c.write_document-2.new.desk ≡ with_file (g.D.Desk.made c.write_document.new.desk) (string_bytes c.args.season.now.names.ladder) c.args.season.now.made.ladder.items = rw (c.as_str-2.ensures.value, c.deref-2.ensures.value) at c.in_ok-write_document-2.ensures.ok in
    let made2 : g.D.Desk.made c.write_document-3.new.desk ≡ with_file (g.D.Desk.made c.write_document-2.new.desk) (string_bytes c.args.season.now.names.stock) c.args.season.now.made.stock.items = rw (c.as_str-3.ensures.value, c.deref-3.ensures.value) at c.in_ok-write_document-3.ensures.ok in
    on_ok c.write_document-4.result c.write_document-4.ensures.ok (λ made.
    let made3 : g.D.Desk.made c.write_document-4.new.desk ≡ with_file (g.D.Desk.made c.write_document-3.new.desk) (string_bytes c.args.season.now.names.demand) c.args.season.now.made.demand.items = rw (c.as_str-4.ensures.value, c.deref-4.ensures.value) at made in
    made-next (g.D.Desk.made c.args.desk.now) (g.D.Desk.made c.write_document.new.desk) (g.D.Desk.made c.write_document-4.new.desk) (string_bytes c.args.season.now.names.rules) c.args.season.now.made.rules.items ((string_bytes c.args.season.now.names.ladder, c.args.season.now.made.ladder.items) ∷ (string_bytes c.args.season.now.names.stock, c.args.season.now.made.stock.items) ∷ (string_bytes c.args.season.now.names.demand, c.args.season.now.made.demand.items) ∷ []) made0 (made-next (g.D.Desk.made c.write_document.new.desk) (g.D.Desk.made c.write_document-2.new.desk) (g.D.Desk.made c.write_document-4.new.desk) (string_bytes c.args.season.now.names.ladder) c.args.season.now.made.ladder.items ((string_bytes c.args.season.now.names.stock, c.args.season.now.made.stock.items) ∷ (string_bytes c.args.season.now.names.demand, c.args.season.now.made.demand.items) ∷ []) made1 (made-next (g.D.Desk.made c.write_document-2.new.desk) (g.D.Desk.made c.write_document-3.new.desk) (g.D.Desk.made c.write_document-4.new.desk) (string_bytes c.args.season.now.names.stock) c.args.season.now.made.stock.items ((string_bytes c.args.season.now.names.demand, c.args.season.now.made.demand.items) ∷ []) made2 made3)))

pub returns-clause-leaves : goal.returns-clause-leaves
returns-clause-leaves g c = λ doc is.
    let named : doc ≡ d.Demand = c.write_document-4.ensures.named doc is in
    let made0 : g.D.Desk.made c.write_document.new.desk ≡ with_file (g.D.Desk.made c.args.desk.now) (string_bytes c.args.season.now.names.rules) c.args.season.now.made.rules.items = rw (c.as_str.ensures.value, c.deref.ensures.value) at c.in_ok-write_document.ensures.ok in
    let made1 : g.D.Desk.made c.write_document-2.new.desk ≡ with_file (g.D.Desk.made c.write_document.new.desk) (string_bytes c.args.season.now.names.ladder) c.args.season.now.made.ladder.items = rw (c.as_str-2.ensures.value, c.deref-2.ensures.value) at c.in_ok-write_document-2.ensures.ok in
    let made2 : g.D.Desk.made c.write_document-3.new.desk ≡ with_file (g.D.Desk.made c.write_document-2.new.desk) (string_bytes c.args.season.now.names.stock) c.args.season.now.made.stock.items = rw (c.as_str-3.ensures.value, c.deref-3.ensures.value) at c.in_ok-write_document-3.ensures.ok in
    let given : AddsFileFront (g.D.Desk.made c.write_document-3.new.desk) (g.D.Desk.made c.write_document-4.new.desk) c.as_str-4.result.now c.deref-4.result.now = failed-so c.write_document-4.result doc is c.write_document-4.ensures.front in
    let front : AddsFileFront (g.D.Desk.made c.write_document-3.new.desk) (g.D.Desk.made c.write_document-4.new.desk) (string_bytes c.args.season.now.names.demand) c.args.season.now.made.demand.items = rw (c.as_str-4.ensures.value, c.deref-4.ensures.value) at given in
    leaves-next d.Rules doc (d.Ladder ∷ d.Stock ∷ d.Demand ∷ []) (g.D.Desk.made c.args.desk.now) (g.D.Desk.made c.write_document.new.desk) (g.D.Desk.made c.write_document-4.new.desk) (string_bytes c.args.season.now.names.rules) c.args.season.now.made.rules.items ((string_bytes c.args.season.now.names.ladder, c.args.season.now.made.ladder.items) ∷ (string_bytes c.args.season.now.names.stock, c.args.season.now.made.stock.items) ∷ (string_bytes c.args.season.now.names.demand, c.args.season.now.made.demand.items) ∷ []) made0 (leaves-next d.Ladder doc (d.Stock ∷ d.Demand ∷ []) (g.D.Desk.made c.write_document.new.desk) (g.D.Desk.made c.write_document-2.new.desk) (g.D.Desk.made c.write_document-4.new.desk) (string_bytes c.args.season.now.names.ladder) c.args.season.now.made.ladder.items ((string_bytes c.args.season.now.names.stock, c.args.season.now.made.stock.items) ∷ (string_bytes c.args.season.now.names.demand, c.args.season.now.made.demand.items) ∷ []) made1 (leaves-next d.Stock doc (d.Demand ∷ []) (g.D.Desk.made c.write_document-2.new.desk) (g.D.Desk.made c.write_document-3.new.desk) (g.D.Desk.made c.write_document-4.new.desk) (string_bytes c.args.season.now.names.stock) c.args.season.now.made.stock.items ((string_bytes c.args.season.now.names.demand, c.args.season.now.made.demand.items) ∷ []) made2 (leaves-first d.Demand doc [] (g.D.Desk.made c.write_document-3.new.desk) (g.D.Desk.made c.write_document-4.new.desk) (string_bytes c.args.season.now.names.demand) c.args.season.now.made.demand.items [] named front)))

pub returns-in_err-write_document-2-clause-named : goal.returns-in_err-write_document-2-clause-named
returns-in_err-write_document-2-clause-named g c = λ doc is.
    let exit : c.from_residual-in_err-write_document-2.result ≡ Err c.in_err-write_document-2.field-0.0 = search rules in
    let failed : c.in_err-write_document-2.field-0.0 ≡ doc = same-document c.in_err-write_document-2.field-0.0 doc (subst (λ result. IsErrOf result doc) exit is) in
    made-ladder doc (sym failed ∙ c.in_err-write_document-2.ensures.named c.in_err-write_document-2.field-0.0 refl)

pub returns-in_err-write_document-3-clause-named : goal.returns-in_err-write_document-3-clause-named
returns-in_err-write_document-3-clause-named g c = λ doc is.
    let exit : c.from_residual-in_err-write_document-3.result ≡ Err c.in_err-write_document-3.field-0.0 = search rules in
    let failed : c.in_err-write_document-3.field-0.0 ≡ doc = same-document c.in_err-write_document-3.field-0.0 doc (subst (λ result. IsErrOf result doc) exit is) in
    made-stock doc (sym failed ∙ c.in_err-write_document-3.ensures.named c.in_err-write_document-3.field-0.0 refl)

pub returns-clause-named : goal.returns-clause-named
returns-clause-named g c = λ doc is. made-demand doc (c.write_document-4.ensures.named doc is)
