use Rattle.std.proofs.Common.{option_map, option_and_then, take, ap, ◌∙◌, inr}
use Rattle.clr_io.specs.Files.{around_last, last_bytes}
use Rattle.clr_cert.proofs.Sending.{file_written, on_err, on_ok}
use Rattle.clr_jobs.proofs.make.write_file.Goals as goal

pub returns-clause-ok : goal.returns-clause-ok
returns-clause-ok g c =
    let new = g.met.D.Desk.shows c.create.new.self in
    let end = g.met.D.Desk.shows c.write_whole.new.sink in
    on_ok c.write_whole.result c.write_whole.ensures.ok (λ written. file_written (g.D.Desk.made c.args.desk.now) (g.D.Desk.made c.write_whole.new.sink) c.args.name.now c.args.bytes.now
    (g.D.Sink.around c.create.new.self) (g.D.Sink.around c.write_whole.new.sink) (g.D.Sink.written c.create.new.self) (g.D.Sink.written c.write_whole.new.sink)
    (new.0 ∙ ap (option_map around_last) c.in_ok-create.ensures.ok) (new.1 ∙ ap (option_and_then last_bytes) c.in_ok-create.ensures.ok) end.0 end.1 c.write_whole.ensures.around written)

pub returns-clause-front : goal.returns-clause-front
returns-clause-front g c =
    let new = g.met.D.Desk.shows c.create.new.self in
    let end = g.met.D.Desk.shows c.write_whole.new.sink in
    on_err c.write_whole.result c.write_whole.ensures.err (λ front. inr (
      front.0,
      file_written (g.D.Desk.made c.args.desk.now) (g.D.Desk.made c.write_whole.new.sink) c.args.name.now (take front.0 c.args.bytes.now)
          (g.D.Sink.around c.create.new.self) (g.D.Sink.around c.write_whole.new.sink) (g.D.Sink.written c.create.new.self) (g.D.Sink.written c.write_whole.new.sink)
          (new.0 ∙ ap (option_map around_last) c.in_ok-create.ensures.ok) (new.1 ∙ ap (option_and_then last_bytes) c.in_ok-create.ensures.ok) end.0 end.1 c.write_whole.ensures.around front.2,
    ))
