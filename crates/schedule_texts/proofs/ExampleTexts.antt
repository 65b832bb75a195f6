-- The texts of two blocks, and those at fault, are read by computing.
use Rattle.std.proofs.Common.{refl}
use Rattle.minelib_reader.specs.Text.{fields_of, rows_from}
use Rattle.minelib_reader.specs.Number.{cut_at, decimal_of, digits_of, millionths_of, signed_of}
use Rattle.report.specs.HeadLines.{field_line, number_line, same_line}
use Rattle.schedule_texts.specs.ExampleTexts.{TextsAtFault, TextsOfTwoBlocks}
use Rattle.schedule_texts.specs.Section.{count_of, lines_from, numeric_field, numeric_fields, own_fields, same_count, section_line}
use Rattle.schedule_texts.specs.ProblemText.{counts_of, lists_of_rows, sections_of, titled}
use Rattle.schedule_texts.specs.ScheduleText.{prices_of_rows, shares_of_rows, sizes_of}
use Rattle.schedule_texts.specs.Words.{text_of}

pub texts_of_two_blocks : TextsOfTwoBlocks
unfolding fields_of rows_from cut_at decimal_of digits_of millionths_of signed_of field_line number_line same_line count_of lines_from numeric_field numeric_fields own_fields same_count section_line counts_of lists_of_rows sections_of titled prices_of_rows shares_of_rows sizes_of text_of
texts_of_two_blocks = record { problem = refl; schedule = refl; prices = refl; of_more_blocks = refl; of_more_periods = refl; of_more_limits = refl; shifted = refl }

pub texts_at_fault : TextsAtFault
unfolding fields_of rows_from cut_at decimal_of digits_of millionths_of signed_of field_line number_line same_line count_of lines_from numeric_field numeric_fields own_fields same_count section_line titled shares_of_rows sizes_of text_of
texts_at_fault = record { lawful = refl; other_word = refl; wider = refl; no_whole = refl; no_decimal = refl; ends = refl; goes_on = refl }
