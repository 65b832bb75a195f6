-- At the start all words are 0 and all rows are fresh.
use Rattle.std.proofs.Common.{[], sym, ◌∙◌, subst, ℕ, List}
use Rattle.atomic_table.specs.Table.{opening}
use Rattle.proposals.specs.Ledger.{Boarded, opener}
use Rattle.proposals.proofs.Dealing.{may_open}
use Rattle.proposals.proofs.board.UnnamedBoard.new.Goals as goal

pub of_words-requires : goal.of_words-requires
of_words-requires c = subst (λ (ws : List ℕ). Boarded c.args.workers (opening ws [] (opener c.args.workers))) (sym (c.as_slice.ensures.value ∙ c.in_ok-words.ensures.items_if_clones_equal (λ y e. e))) (may_open c.args.workers)
