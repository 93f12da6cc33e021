use Rattle.std.proofs.Common.{◌≡◌, ◌+◌, ◌<◌, ◌∷◌, ◌++◌, [], Err, length, take, drop, refl, sym, ap, ◌∙◌, subst, arith, rules, append-nil}
use Rattle.clr_cert.specs.Lines.{cert_text, line_at, lines_text}
use Rattle.clr_cert.specs.Places.{places}
use Rattle.clr_cert.specs.Writing.{IsSent}
use Rattle.clr_cert.proofs.Sending.{first_place, lines_more, next_place, nothing_sent, on_err, place_of_row, sent_front, sent_more, text_split}
use Rattle.clr_cert.proofs.write.write_lines.Goals as goal

pub loop-row-init : goal.loop-row-init
loop-row-init g c = record {
  at = first_place c.args.season.now;
  text = nothing_sent (g.K.Sink.written c.args.sink.now) c.args.lines.now c.requires.empty;
  room = omega (arith, ap length c.requires.empty);
  around = refl;
  later = omega arith;
}

pub put_line-requires-clause-place : goal.put_line-requires-clause-place
put_line-requires-clause-place g c = place_of_row c.args.season.now c.loop-row._row c.loop-row.place c.line_count-row-end.ensures.facts c.loop-row.invariant.at

pub loop-row-preserved : goal.loop-row-preserved
loop-row-preserved g c =
    let entries = g.E.Entries.entries c.args.entries.now in
    let low : c.loop-row._row < length (places c.args.season.now) = omega (arith, c.line_count-row-end.ensures.value) in
    record {
      at = next_place c.args.season.now c.loop-row._row c.next-place.result low (c.next-place.ensures.after c.loop-row._row c.loop-row.invariant.at);
      text =
          subst (λ t. IsSent (g.K.Sink.written c.args.sink.now) (g.K.Sink.written c.send_if_full.new.sink) [] t c.send_if_full.new.lines) (sym (lines_more c.args.season.now entries c.loop-row._row c.loop-row.place c.loop-row.invariant.at low))
          (sent_more (g.K.Sink.written c.args.sink.now) (g.K.Sink.written c.loop-row.sink) (g.K.Sink.written c.send_if_full.new.sink) (lines_text c.args.season.now entries (take c.loop-row._row (places c.args.season.now))) (line_at c.args.season.now entries c.loop-row.place ++ 10 ∷ []) c.loop-row.lines c.put_line.new.self c.send_if_full.new.lines
          c.loop-row.invariant.text c.put_line.ensures.text c.in_ok-send_if_full.ensures.ok);
      room = c.in_ok-send_if_full.ensures.room;
      around = c.in_ok-send_if_full.ensures.around ∙ c.loop-row.invariant.around;
      later = omega (arith, c.loop-row.invariant.later, c.in_ok-send_if_full.ensures.cause.later);
    }

pub returns-in_err-send_if_full-clause-err : goal.returns-in_err-send_if_full-clause-err
returns-in_err-send_if_full-clause-err g c =
    let entries = g.E.Entries.entries c.args.entries.now in
    let low : c.loop-row._row < length (places c.args.season.now) = omega (arith, c.line_count-row-end.ensures.value) in
    let text = lines_text c.args.season.now entries (take c.loop-row._row (places c.args.season.now)) in
    let rest = lines_text c.args.season.now entries (drop (c.loop-row._row + 1) (places c.args.season.now)) in
    let whole : cert_text c.args.season.now entries ≡ (text ++ (line_at c.args.season.now entries c.loop-row.place ++ 10 ∷ [])) ++ rest = text_split c.args.season.now entries (c.loop-row._row + 1) ∙ ap (λ t. t ++ rest) (lines_more c.args.season.now entries c.loop-row._row c.loop-row.place c.loop-row.invariant.at low) in
    let exit : c.from_residual.result ≡ Err c.in_err-send_if_full.field-0.0 = search rules in
    rw exit (sent_front (g.K.Sink.written c.args.sink.now) (g.K.Sink.written c.loop-row.sink) (g.K.Sink.written c.send_if_full.new.sink) text (line_at c.args.season.now entries c.loop-row.place ++ 10 ∷ []) c.loop-row.lines c.put_line.new.self rest (cert_text c.args.season.now entries)
    c.loop-row.invariant.text c.put_line.ensures.text c.in_err-send_if_full.ensures.err whole)

pub returns-clause-err : goal.returns-clause-err
returns-clause-err g c =
    let entries = g.E.Entries.entries c.args.entries.now in
    let text = lines_text c.args.season.now entries (take c.loop-row._row (places c.args.season.now)) in
    let rest = lines_text c.args.season.now entries (drop c.loop-row._row (places c.args.season.now)) in
    let whole : cert_text c.args.season.now entries ≡ (text ++ []) ++ rest = text_split c.args.season.now entries c.loop-row._row ∙ ap (λ t. t ++ rest) (sym (append-nil text)) in
    on_err c.send.result c.send.ensures.err (λ front. sent_front (g.K.Sink.written c.args.sink.now) (g.K.Sink.written c.loop-row.sink) (g.K.Sink.written c.send.new.sink) text [] c.loop-row.lines c.loop-row.lines rest (cert_text c.args.season.now entries)
    c.loop-row.invariant.text (sym (append-nil c.loop-row.lines)) front whole)
