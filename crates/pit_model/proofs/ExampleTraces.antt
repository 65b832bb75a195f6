-- The traces and the journals over them, by computation.
use Rattle.std.proofs.Common.{◌<◌, ◌≤◌, refl, sym, ◌∙◌, arith, []}
use Rattle.pit_model.specs.declared.journal.Verdict.TheVariants.{Stale}
use Rattle.std.proofs.lemmas.Bool.{false≢true, true≢false}
use Rattle.std.proofs.lemmas.List.Elements.{All-cons, All-head, All-nil}
use Rattle.pit_model.specs.declared.journal.Entry.{Entry}
use Rattle.pit_model.specs.FirstRun.{first_run}
use Rattle.pit_model.specs.ExampleMines.{split_fork}
use Rattle.pit_model.specs.ExampleTraces.{CutTrace, JournalsOfForks, KeptTrace, RunOfCutFork, SplitTrace, TracesOfForks, journal_entry, split_last}
use Rattle.pit_model.proofs.FirstRuns.{first_merger_is_least}

cut_trace : CutTrace
cut_trace = record {
  opens = record { excesses_are = refl; strong_are = refl; mergers_are = refl; rank_is = refl };
  first = record { path_is = refl; amounts_are = refl; gives = refl };
  once = record { excesses_are = refl; strong_are = refl; mergers_are = refl; rank_is = refl };
  second = record { path_is = refl; amounts_are = refl; gives = refl };
  twice = record { excesses_are = refl; strong_are = refl; mergers_are = refl; rank_is = refl };
  third = record { path_is = refl; amounts_are = refl; gives = refl };
  last = record { excesses_are = refl; strong_are = refl; mergers_are = refl; rank_is = refl };
}

split_trace : SplitTrace
split_trace = record {
  first = record { path_is = refl; amounts_are = refl; gives = refl };
  once = record { excesses_are = refl; strong_are = refl; mergers_are = refl; rank_is = refl };
  second = record { path_is = refl; amounts_are = refl; gives = refl };
  twice = record { excesses_are = refl; strong_are = refl; mergers_are = refl; rank_is = refl };
  third = record { path_is = refl; amounts_are = refl; gives = refl };
  last = record { excesses_are = refl; strong_are = refl; mergers_are = refl; rank_is = refl };
}

kept_trace : KeptTrace
kept_trace = record {
  third = record { path_is = refl; amounts_are = refl; gives = refl };
  last = record { excesses_are = refl; strong_are = refl; mergers_are = refl; rank_is = refl };
}

run_of_cut_fork : RunOfCutFork
unfolding first_run
run_of_cut_fork = record {
  first = refl;
  then = refl;
  last = refl;
  end = refl;
  twice = refl;
  ended = refl;
  stays = refl;
  positive = refl;
  version = record { mergers = (refl, (refl, tt)); gives = refl };
}

pub traces_of_forks : TracesOfForks
traces_of_forks = record { cuts = cut_trace; splits = split_trace; keeps = kept_trace; runs = run_of_cut_fork }

abbrev Seated : Entry → Type 0
Seated e = (e.seat ≤ 3) × (e.arc < 3)

pub journals_of_forks : JournalsOfForks
journals_of_forks = record {
  settles = record {
    lawful = (refl, (refl, (refl, (refl, (refl, (refl, tt))))));
    none_left = first_merger_is_least split_fork split_last;
  };
  replayed = refl;
  counted = refl;
  listed = refl;
  seated = All-cons Seated (journal_entry 3 2 Stale) [] (omega arith, omega arith) (All-nil Seated);
  no_seat_behind = λ seated. let h = All-head Seated (journal_entry 4 2 Stale) [] seated in absurd (omega arith);
  no_arc_behind = λ seated. let h = All-head Seated (journal_entry 3 3 Stale) [] seated in absurd (omega arith);
  spends = record {
    lawful = (refl, (refl, (refl, (refl, (refl, (refl, tt))))));
    left = (1, refl);
    allowed = refl;
    made = refl;
  };
  spent_replayed = refl;
  within = (refl, (refl, (refl, (refl, (refl, (refl, tt))))));
  opens = record { lawful = (refl, (refl, (refl, tt))); left = (2, refl); allowed = refl; made = refl };
  not_open = λ is. true≢false is.allowed;
  not_spent_at_its_end = λ is. false≢true (sym (first_merger_is_least split_fork split_last is.left.0) ∙ is.left.1);
  differs = record { before = 1; next = refl; lawful = (refl, tt); differs = λ lawful. let h = lawful.1.0 in absurd cc };
  not_late = λ lawful. let h = lawful.1.1.1.1.0 in absurd cc;
  not_spent = λ lawful. let h = lawful.1.0 in absurd cc;
}
