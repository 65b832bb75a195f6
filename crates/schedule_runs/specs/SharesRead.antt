-- The shares of a schedule that a text lists: a place that is named more than once has the sum of its shares.
use Rattle.std.specs.Prelude.{◌≡◌, ℕ, ◌+◌, ◌*◌, ◌<◌, ◌≤◌, ◌==◌, ℤ, pos, List, length, get_or, Ok}
use Rattle.pit_model.specs.Sum.{total, when}
use Rattle.schedule_model.specs.Problem.{Problem}
use Rattle.schedule_model.specs.Schedule.{whole_block}
use Rattle.schedule_texts.specs.ScheduleText.{shares_in}
use Rattle.schedule_runs.specs.declared.shares.Share.{Share}
use Rattle.schedule_runs.specs.Limited.{number_at}

abbrev pub no_share : Share
no_share = record { block = 0; period = 0; destination = 0; amount = 0 }

abbrev pub share_in : List Share → ℕ → Share
share_in listed j = get_or listed j no_share

-- a share of a block of the problem, in one of its periods and to one of its destinations, and not above a whole block
pub record IsShareOf (problem : Problem) (share : Share) : Type 0 where
  pub block : share.block < problem.blocks
  pub period : share.period < problem.periods
  pub destination : share.destination < problem.destinations
  pub most : share.amount ≤ whole_block

-- share j, as it is listed
pub record IsListedShare (numbers : List ℤ) (j : ℕ) (share : Share) : Type 0 where
  pub block : number_at numbers (4 * j) ≡ pos share.block
  pub period : number_at numbers (4 * j + 1) ≡ pos share.period
  pub destination : number_at numbers (4 * j + 2) ≡ pos share.destination
  pub amount : number_at numbers (4 * j + 3) ≡ pos share.amount

-- share j, as it is listed, is one of a block of the problem
pub record IsLawfulShare (problem : Problem) (numbers : List ℤ) (j : ℕ) : Type 0 where
  pub share : Share
  pub listed : IsListedShare numbers j share
  pub lawful : IsShareOf problem share

pub record AreListed (problem : Problem) (numbers : List ℤ) (listed : List Share) : Type 0 where
  pub count : length numbers ≡ length listed * 4
  pub each : (j : ℕ) → j < length listed → IsListedShare numbers j (share_in listed j)
  pub lawful : (j : ℕ) → j < length listed → IsShareOf problem (share_in listed j)

-- where a share stands in the list of all shares
abbrev pub place_of : Problem → Share → ℕ
place_of problem share = (share.period * problem.blocks + share.block) * problem.destinations + share.destination

-- the sum of the first shares, `count` of them, at a place
abbrev pub sum_at : Problem → List Share → ℕ → ℕ → ℤ
sum_at problem listed count i = total count (λ j. when (place_of problem (share_in listed j) == i) (pos (share_in listed j).amount))

-- all shares: at each place the sum of those that are listed there
pub record AreSums (problem : Problem) (listed : List Share) (count : ℕ) (shares : List ℕ) : Type 0 where
  pub size : length shares ≡ problem.periods * problem.blocks * problem.destinations
  pub sums : (i : ℕ) → i < length shares → pos (get_or shares i 0) ≡ sum_at problem listed count i
  pub most : (i : ℕ) → i < length shares → get_or shares i 0 ≤ whole_block

-- the text spells these shares of the problem's blocks
pub record SpellsShares (text : List ℕ) (problem : Problem) (shares : List ℕ) : Type 0 where
  pub numbers : List ℤ
  pub read : shares_in problem.blocks problem.periods problem.destinations text ≡ Ok numbers
  pub listed : List Share
  pub are_listed : AreListed problem numbers listed
  pub are_sums : AreSums problem listed (length listed) shares
