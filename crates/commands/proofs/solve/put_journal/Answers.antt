-- What went of the entries to the writer went of the journal.
use Rattle.std.proofs.Common.{subst}
use Rattle.solver.specs.Searched.{EndsFixed}
use Rattle.commands.specs.Solve.{fixed_in, fixed_instance_of}
use Rattle.commands.proofs.Journaling.{journal_put}
use Rattle.commands.proofs.solve.put_journal.Goals as goal

pub returns-in-Shared-clause-put : goal.returns-in-Shared-clause-put
returns-in-Shared-clause-put g c =
    let old = g.J.OutBytes.progress c.in-Some.writer in
    let new = g.J.OutBytes.progress c.put_entries.new.writer in
    let fixed_mine = fixed_instance_of c.args.fixed_mine.now in
    let ended = subst (λ mode. EndsFixed mode fixed_mine.mine (fixed_in fixed_mine) c.args.solved.now.0 c.args.solved.now.1.items) c.in-Shared.is c.requires.ended in
    rw (c.in-Some.is, c.in-Some.writer-is, c.in-Shared.is)
    (journal_put fixed_mine c.in-Shared.workers c.in-Shared.chunk c.in-Shared.budget c.args.solved.now.0 c.args.solved.now.1.items c.deref.result.now old new c.put_entries.result ended
    c.deref.ensures.value c.put_entries.ensures.written c.put_entries.ensures.refused).0

pub returns-in-Shared-clause-refused : goal.returns-in-Shared-clause-refused
returns-in-Shared-clause-refused g c =
    let old = g.J.OutBytes.progress c.in-Some.writer in
    let new = g.J.OutBytes.progress c.put_entries.new.writer in
    let fixed_mine = fixed_instance_of c.args.fixed_mine.now in
    let ended = subst (λ mode. EndsFixed mode fixed_mine.mine (fixed_in fixed_mine) c.args.solved.now.0 c.args.solved.now.1.items) c.in-Shared.is c.requires.ended in
    rw (c.in-Some.is, c.in-Some.writer-is, c.in-Shared.is)
    (journal_put fixed_mine c.in-Shared.workers c.in-Shared.chunk c.in-Shared.budget c.args.solved.now.0 c.args.solved.now.1.items c.deref.result.now old new c.put_entries.result ended
    c.deref.ensures.value c.put_entries.ensures.written c.put_entries.ensures.refused).1
