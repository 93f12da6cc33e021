use Rattle.std.proofs.Common.{◌≡◌, ◌++◌, ◌∷◌, map, suc, arith, ap, ◌∙◌, rules, SFits, to_z, of_z}
use Rattle.std.proofs.lemmas.Int.{to_z-of_z}
use mir.Syntax.{w64}
use Rattle.std.specs.Fmt.{signed_decimal}
use Rattle.clr_num.specs.Lists.{numbers}
use Rattle.clr_season.specs.Season.{store_at}
use Rattle.clr_cert.specs.Lines.{number_fields}
use Rattle.clr_cert.specs.Tables.{entry_of}
use Rattle.clr_cert.proofs.Texts.{more_from_0}
use Rattle.clr_cert.proofs.line_buffer.LineBuffer.put_entries.Goals as goal

pub loop-stock-preserved : goal.loop-stock-preserved
loop-stock-preserved g c =
    let fits : SFits w64 c.entry.result = search rules in
    record {
      text = more_from_0 (λ number. 44 ∷ signed_decimal number) (entry_of c.args.table (g.E.Entries.entries c.args.entries.now) c.args.done c.args.store) c.loop-stock.stock c.args.self.now c.loop-stock.self c.put_field.new.self (to_z w64 (of_z w64 c.entry.result)) c.loop-stock.invariant.text c.put_field.ensures.text (to_z-of_z w64 c.entry.result fits ∙ c.entry.ensures);
      size = omega (arith, c.loop-stock.invariant.size, c.put_field.ensures.size);
    }

pub returns-clause-text : goal.returns-clause-text
returns-clause-text g c =
    let all : c.loop-stock.stock ≡ suc (store_at c.args.season.now c.args.store).units = omega (arith, c.stock-stock-end.ensures.value, c.loop-stock.auto.stock-end) in
    c.loop-stock.invariant.text ∙ ap (λ n. c.args.self.now ++ number_fields (map (entry_of c.args.table (g.E.Entries.entries c.args.entries.now) c.args.done c.args.store) (numbers 0 n))) all
