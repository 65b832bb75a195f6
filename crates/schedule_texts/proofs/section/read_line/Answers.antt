-- A line is its word, its number if lines are numbered, and then its numbers.
use Rattle.std.proofs.Common.{rules, arith, ◌≡◌, ℤ, List, Ok, ◌++◌, length, true}
use Rattle.std.specs.Prelude.{◌==◌}
use Rattle.std.specs.Str.{bytes_eq}
use Rattle.minelib_reader.specs.Text.{row, fields_of}
use Rattle.schedule_texts.specs.Section.{AddsNumbers, numeric_fields}
use Rattle.schedule_texts.specs.Words.{text_of}
use Rattle.schedule_texts.proofs.NumberLemmas.{if_ok_map, line_added}
use Rattle.schedule_texts.proofs.section.read_line.Goals as goal

pub returns-clause-ok : goal.returns-clause-ok
returns-clause-ok c =
    let r = row c.args.r.line (fields_of c.args.r.text.now) in
    let rest = c.in-Some.rest.now in
    let fields = fields_of c.in_ok-own.own.now in
    let named : bytes_eq c.in-Some.first.now (text_of c.args.word) ≡ true = search rules in
    let wide : (length fields == c.args.columns.width) ≡ true = search rules in
    if_ok_map _ (λ _. AddsNumbers c.args.word c.args.columns c.args.place r c.args.numbers.now.items c.read_numbers.new.numbers.items) c.read_numbers.result
    (λ _ done. line_added c.args.word c.args.columns c.args.place r c.in-Some.first.now (fields_of rest) fields done.0 c.args.numbers.now.items c.read_numbers.new.numbers.items c.in-Some.ensures.field named c.in_ok-own.ensures wide done.1 done.2)
    c.read_numbers.ensures.ok
