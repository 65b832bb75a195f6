-- The production scheduling problem of an open pit: in which period each block is mined and where it is sent, within limits.
use Rattle.std.specs.Prelude.{ℕ, ◌+◌, ◌*◌, ◌==◌, ℤ, pos, ◌*ℤ◌, List, length, get_or, ltb}
use Rattle.pit_model.specs.Sum.{total, when}
use Rattle.schedule_model.specs.declared.term.Term.{Term}
use Rattle.schedule_model.specs.declared.term.Effect.{Effect}
use Rattle.schedule_model.specs.declared.term.Effect.TheVariants.{Value, Use}

-- blocks 0 .. blocks-1 with the pairs (u, p) of "u needs p"; the amounts in the columns of each block, block by block; the terms of
-- all destinations; the discount factor of each period; and the capacities of each limit, limit by limit. All numbers are in millionths.
pub record Problem : Type 0 where
  pub blocks : ℕ
  pub pairs : List (ℕ × ℕ)
  pub periods : ℕ
  pub destinations : ℕ
  pub columns : ℕ
  pub amounts : List ℤ
  pub terms : List Term
  pub discounts : List ℤ
  pub limits : ℕ
  pub capacities : List ℤ

abbrev pub amount_in : Problem → ℕ → ℕ → ℤ
amount_in problem b column = get_or problem.amounts (b * problem.columns + column) (pos 0)

abbrev pub no_term : Term
no_term = record { destination = 0; effect = Value; column = 0; lag = 0 }

abbrev pub term_at : Problem → ℕ → Term
term_at problem k = get_or problem.terms k no_term

-- a number of a period, which is 0 after the last period
abbrev pub until_end : Problem → ℕ → ℤ → ℤ
until_end problem t x = when (ltb t problem.periods) x

abbrev pub discount : Problem → ℕ → ℤ
discount problem t = until_end problem t (get_or problem.discounts t (pos 0))

-- a number of each limit in each period
abbrev pub of_limit : Problem → List ℤ → ℕ → ℕ → ℤ
of_limit problem numbers r t = until_end problem t (get_or numbers (r * problem.periods + t) (pos 0))

abbrev pub capacity : Problem → ℕ → ℕ → ℤ
capacity problem r t = of_limit problem problem.capacities r t

-- what a term yields for a whole block that is mined in a period, discounted to the begin
abbrev pub yield_of : Problem → ℕ → ℕ → ℕ → Effect → ℕ → ℤ
yield_of problem b t column Value lag = amount_in problem b column *ℤ discount problem (t + lag)
yield_of problem b t column (Use limit) lag = pos 0

-- what it uses of limit r in period s
abbrev pub use_of : Problem → ℕ → ℕ → ℕ → Effect → ℕ → ℕ → ℕ → ℤ
use_of problem b t column Value lag r s = pos 0
use_of problem b t column (Use limit) lag r s = when (limit == r) (when (t + lag == s) (amount_in problem b column))

-- the discounted value of a whole block that is mined in period t and sent to destination d
abbrev pub gain : Problem → ℕ → ℕ → ℕ → ℤ
gain problem b t d =
    total (length problem.terms)
    (λ k. when ((term_at problem k).destination == d) (yield_of problem b t (term_at problem k).column (term_at problem k).effect (term_at problem k).lag))

-- what the block then uses of limit r in period s
abbrev pub used : Problem → ℕ → ℕ → ℕ → ℕ → ℕ → ℤ
used problem b t d r s =
    total (length problem.terms)
    (λ k. when ((term_at problem k).destination == d) (use_of problem b t (term_at problem k).column (term_at problem k).effect (term_at problem k).lag r s))
