-- Each exit is a case of how the call ends, and its outcome is reported.
use Rattle.std.proofs.Common.{refl, sym, ◌∙◌}
use Rattle.std.specs.Prelude.{Err, option_copied}
use Rattle.commands.specs.Solve.{mine_files}
use Rattle.commands.specs.Solved.{solved, unmade, unopened}
use Rattle.commands.proofs.Calling.{runs_solve}
use Rattle.commands.proofs.Reading.{are_from_front}
use Rattle.commands.proofs.Writing.{may_write}
use Rattle.commands.proofs.solve.solve_call.Goals as goal

pub returns-in-Err : goal.returns-in-Err
returns-in-Err g c = record {
  outcome = Err c.in-Err.fault;
  ends = unopened c.in-Err.fault c.in-Err.ensures.lacked (record { unwritten = refl; reported = refl });
  status = c.report_fault.ensures.status;
  reported = c.report_fault.ensures.tells;
}

pub returns-in-Err-make_outputs : goal.returns-in-Err-make_outputs
returns-in-Err-make_outputs g c = record {
  outcome = Err c.in-Err-make_outputs.fault;
  ends = unmade c.in-Err-make_outputs.fault _ c.open_mine.new.files c.in-Ok.ensures.opened
      c.in-Err-make_outputs.ensures.unmade c.in-Err-make_outputs.ensures.spared (record { unwritten = refl; reported = refl });
  status = c.report_fault-in-Err-make_outputs.ensures.status;
  reported = c.report_fault-in-Err-make_outputs.ensures.tells;
}

pub run_solve-outcome-requires-clause-write : goal.run_solve-outcome-requires-clause-write
run_solve-outcome-requires-clause-write g c κs within =
    let made = c.in-Ok-make_outputs in
    let options = c.args.options.now in
    may_write options.settings (option_copied options.journal) (option_copied options.certificate) _ _ _ _
    c.writer_of-journal.ensures.unwritten (c.writer_of-journal.ensures.named ∙ made.ensures.journal_named)
    c.writer_of-certificate.ensures.unwritten (c.writer_of-certificate.ensures.named ∙ made.ensures.certificate_named)

pub returns : goal.returns
returns g c =
    let made = c.in-Ok-make_outputs in
    let run = c.run_solve-outcome in
    let journal = c.output_of.ensures.named ∙ run.ensures.journal_stays ∙ c.writer_of-journal.ensures.named ∙ made.ensures.journal_named in
    let certificate = c.output_of-2.ensures.named ∙ run.ensures.certificate_stays ∙ c.writer_of-certificate.ensures.named ∙ made.ensures.certificate_named in
    record {
      outcome = c.end_outputs.result;
      ends = solved run.result _ _ (record {
        journal = c.writer_of-journal.result;
        journal_left = run.new.journal;
        certificate = c.writer_of-certificate.result;
        certificate_left = run.new.certificate;
      }) c.open_mine.new.files c.make_outputs.new.files c.readers_of-mine.result (mine_files run.new.model run.new.prec run.new.fixed)
          c.in-Ok.ensures.opened made.ensures.made
          (are_from_front _ _ _ c.in-Ok.mine.fixed c.readers_of-mine.result c.in-Ok.ensures.named c.readers_of-mine.ensures.named
          c.readers_of-mine.ensures.model c.readers_of-mine.ensures.prec c.readers_of-mine.ensures.fixed)
          run.ensures.files_kept
          (record {
            journal_new = rw (sym made.ensures.journal_named) c.writer_of-journal.ensures;
            certificate_new = rw (sym made.ensures.certificate_named) c.writer_of-certificate.ensures;
            runs = runs_solve _ _ _ run.result run.ensures.done run.ensures.journaled run.ensures.certified run.ensures.within run.ensures.refused;
          })
          (rw (sym journal, sym certificate, sym c.output_of.ensures.known, sym c.output_of-2.ensures.known) c.end_outputs.ensures);
      status = c.report_fault-2.ensures.status;
      reported = c.report_fault-2.ensures.tells;
    }
