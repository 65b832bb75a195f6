-- The words that lines begin with.
use Rattle.std.specs.Prelude.{ℕ, List, codes}
use Rattle.schedule_texts.specs.declared.word.Word.{Word}
use Rattle.schedule_texts.specs.declared.word.Word.TheVariants as words

unfoldable pub text_of : Word → List ℕ
text_of words.Problem = codes "PROBLEM"
text_of words.Schedule = codes "SCHEDULE"
text_of words.Prices = codes "PRICES"
text_of words.Blocks = codes "BLOCKS"
text_of words.Periods = codes "PERIODS"
text_of words.Destinations = codes "DESTINATIONS"
text_of words.Columns = codes "COLUMNS"
text_of words.Limits = codes "LIMITS"
text_of words.Values = codes "VALUES"
text_of words.Uses = codes "USES"
text_of words.Shares = codes "SHARES"
text_of words.Discounts = codes "DISCOUNTS"
text_of words.Capacities = codes "CAPACITIES"
text_of words.Value = codes "VALUE"
text_of words.Use = codes "USE"
text_of words.Amounts = codes "AMOUNTS"
text_of words.Share = codes "SHARE"
text_of words.Price = codes "PRICE"
