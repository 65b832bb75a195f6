-- The id that names nothing.
use Rattle.std.specs.Prelude.{[]}
use Rattle.logbook.specs.Pages.{Book}
use Rattle.pit_model.specs.Mine.{Instance}

abbrev pub no_book : Book
no_book = record { number = 0; log_name = 0; cells_name = 0 }

-- a mine of no blocks
abbrev pub no_mine : Instance
no_mine = record { blocks = 0; values = []; pairs = [] }
