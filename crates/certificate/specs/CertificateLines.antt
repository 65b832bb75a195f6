-- The text of a certificate: the checks of each line in their order, and the reading of all lines by them.
use Rattle.std.specs.Prelude.{ℕ, zero, suc, ℤ, pos, ◌+◌, ◌^◌, Bool, true, false, nat_lt, nat_le, ◌==◌, ◌&&◌, List, [], ◌∷◌, ◌++◌, length, set, Option, Some, None, Result, Ok, Err, codes, replicate, if◌then◌else◌}
use Rattle.faults.specs.declared.fault.Fault.{Fault}
use Rattle.faults.specs.declared.refusal.Refusal.{Refusal}
use Rattle.faults.specs.declared.refusal.Refusal.TheVariants.{OverLimit, NotWhole, IdOutOfPlace, WrongFieldCount, EndsEarly, AfterEnd, CountsDiffer}
use Rattle.faults.specs.declared.source.Source.TheVariants.{Certificate}
use Rattle.minelib_reader.specs.Checks.{◌>>=◌, ok_if}
use Rattle.std.specs.List.{slice_get}
use Rattle.std.specs.Option.{ok_or}
use Rattle.faults.specs.Refused.{at_line}
use Rattle.minelib_reader.specs.Text.{Row, rows_of, count_of_lines, two_of}
use Rattle.minelib_reader.specs.Number.{whole_of, digits_of}
use Rattle.minelib_reader.specs.Upit.{are_words}
use Rattle.pit_model.specs.Fixed.{FixedLists}
use Rattle.pit_model.specs.Graph.{Graph}
use Rattle.certificate.specs.declared.due.CertificateLine.{CertificateLine}
use Rattle.certificate.specs.declared.due.CertificateLine.TheVariants.{Head, Block, Arc}
use Rattle.certificate.specs.declared.due.Head.{Head as HeadLine}
use Rattle.certificate.specs.declared.due.Head.TheVariants.{Title, Blocks, Arcs, FixedCount, FixedBlock, Count}
use Rattle.certificate.specs.declared.due.Kind.{Kind}
use Rattle.certificate.specs.declared.due.Kind.TheVariants.{Forced, Barred}
use Rattle.report.specs.HeadLines.{three_of, title_line, number_line, same_line}
use Rattle.report.specs.LineByLine.{read_from}

abbrev pub in_certificate : Refusal → ℕ → Fault
in_certificate refusal line = at_line Certificate refusal line

-- the one field of a line that has one
abbrev pub one_of : List (List ℕ) → Option (List ℕ)
one_of (a ∷ []) = Some a
one_of fs = None

-- the number, counted from k on, of the first of the pairs that is (u, p)
unfoldable pub arc_from : ℕ → List (ℕ × ℕ) → ℕ → ℕ → Option ℕ
arc_from k [] u p = None
arc_from k (q ∷ qs) u p = if (q.0 == u) && (q.1 == p) then Some k else arc_from (k + 1) qs u p

abbrev pub arc_of : List (ℕ × ℕ) → ℕ → ℕ → Option ℕ
arc_of pairs u p = arc_from 0 pairs u p

-- how many lines of a kind follow
unfoldable pub count_line : List ℕ → ℕ → Row → Result ℕ Fault
count_line word most r = do
  n ← number_line Certificate word r
  few ← ok_if (nat_le n most) (in_certificate OverLimit r.line)
  Ok n

-- a block of n, which is at least from
unfoldable pub id_line : ℕ → ℕ → Row → Result ℕ Fault
id_line n from r = do
  field ← ok_or (one_of r.fields) (in_certificate WrongFieldCount r.line)
  id ← ok_or (whole_of field) (in_certificate NotWhole r.line)
  place ← ok_if (nat_lt id n && nat_le from id) (in_certificate IdOutOfPlace r.line)
  Ok id

-- the arc of a pair of the graph, which is at least from (so the pair is greater than the ones before, since arcs are
-- numbered in the order of pairs), and the amount on it
unfoldable pub arc_line : List (ℕ × ℕ) → ℕ → Row → Result (ℕ × ℕ) Fault
arc_line pairs from r = do
  parts ← ok_or (three_of r.fields) (in_certificate WrongFieldCount r.line)
  u ← ok_or (whole_of parts.0) (in_certificate NotWhole r.line)
  p ← ok_or (whole_of parts.1) (in_certificate NotWhole r.line)
  arc ← ok_or (arc_of pairs u p) (in_certificate IdOutOfPlace r.line)
  place ← ok_if (nat_le from arc) (in_certificate IdOutOfPlace r.line)
  amount ← ok_or (digits_of 31 parts.2) (in_certificate NotWhole r.line)
  limit ← ok_if (nat_lt 0 amount && nat_le amount (10 ^ 30)) (in_certificate OverLimit r.line)
  Ok (arc, amount)

-- no list names a block
abbrev pub is_empty : List ℕ → Bool
is_empty [] = true
is_empty (id ∷ ids) = false

abbrev pub fixes_nothing : FixedLists → Bool
fixes_nothing lists = is_empty lists.forced && is_empty lists.barred

-- the blocks of a kind, and the word before how many they are
abbrev pub list_of : FixedLists → Kind → List ℕ
list_of lists Forced = lists.forced
list_of lists Barred = lists.barred

abbrev pub kind_word : Kind → List ℕ
kind_word Forced = codes "FORCED:"
kind_word Barred = codes "BARRED:"

-- the title of format 1, which has no place for fixed blocks
unfoldable pub first_format : FixedLists → Row → Result Bool Fault
first_format lists r = do
  title ← title_line Certificate (codes "PITCERT") r
  none ← ok_if (fixes_nothing lists) (in_certificate CountsDiffer r.line)
  Ok false

-- the title: whether it is that of format 2, which names the fixed blocks
unfoldable pub format_line : FixedLists → Row → Result Bool Fault
format_line lists r = if are_words (codes "PITCERT") (codes "2") (two_of r.fields) then Ok true else first_format lists r

-- how many blocks of a kind follow, which are as many as the list has
unfoldable pub fixed_count_line : ℕ → FixedLists → Kind → Row → Result CertificateLine Fault
fixed_count_line n lists kind r = do
  count ← count_line (kind_word kind) n r
  same ← ok_if (count == length (list_of lists kind)) (in_certificate CountsDiffer r.line)
  Ok (Head (FixedBlock kind 0 0))

-- how many blocks of the pit follow
unfoldable pub inside_line : ℕ → Row → Result CertificateLine Fault
inside_line n r = do
  count ← count_line (codes "IN:") n r
  Ok (Block count 0)

-- the line behind the last block of a kind
abbrev pub behind_fixed : ℕ → FixedLists → Kind → Row → Result CertificateLine Fault
behind_fixed n lists Forced r = fixed_count_line n lists Barred r
behind_fixed n lists Barred r = inside_line n r

-- a fixed block, which is this one
unfoldable pub fixed_id_line : ℕ → ℕ → ℕ → Row → Result ℕ Fault
fixed_id_line n from id r = do
  named ← id_line n from r
  same ← ok_if (named == id) (in_certificate CountsDiffer r.line)
  Ok named

-- a block of a kind, which is the one of the list, or behind the last the line that follows
unfoldable pub fixed_block_line : ℕ → FixedLists → Kind → ℕ → ℕ → Option ℕ → Row → Result CertificateLine Fault
fixed_block_line n lists kind at from None r = behind_fixed n lists kind r
fixed_block_line n lists kind at from (Some id) r = do
  named ← fixed_id_line n from id r
  Ok (Head (FixedBlock kind (at + 1) (named + 1)))

-- which line is due behind a line before the blocks of the pit
unfoldable pub head_line : Graph → FixedLists → HeadLine → Row → Result CertificateLine Fault
head_line graph lists Title r = do
  names_fixed ← format_line lists r
  Ok (Head (Blocks names_fixed))
head_line graph lists (Blocks names_fixed) r = do
  same ← same_line Certificate (codes "BLOCKS:") graph.blocks r
  Ok (Head (Arcs names_fixed))
head_line graph lists (Arcs names_fixed) r = do
  same ← same_line Certificate (codes "ARCS:") (length graph.pairs) r
  Ok (Head (if names_fixed then FixedCount Forced else Count))
head_line graph lists (FixedCount kind) r = fixed_count_line graph.blocks lists kind r
head_line graph lists (FixedBlock kind at from) r = fixed_block_line graph.blocks lists kind at from (slice_get (list_of lists kind) at) r
head_line graph lists Count r = inside_line graph.blocks r

-- what the lines so far give, and which line is due
pub record State : Type 0 where
  pub due : CertificateLine
  pub pit : List ℕ
  pub flow : List ℤ

abbrev pub state : CertificateLine → List ℕ → List ℤ → State
state due pit flow = record { due = due; pit = pit; flow = flow }

-- a block, while some are left, and then how many arcs follow
unfoldable pub block_step : Graph → ℕ → ℕ → List ℕ → List ℤ → Row → Result State Fault
block_step graph zero from pit flow r = do
  count ← count_line (codes "FLOW:") (length graph.pairs) r
  Ok (state (Arc count 0) pit flow)
block_step graph (suc left) from pit flow r = do
  id ← id_line graph.blocks from r
  Ok (state (Block left (id + 1)) (pit ++ id ∷ []) flow)

-- an arc, while some are left
unfoldable pub arc_step : Graph → ℕ → ℕ → List ℕ → List ℤ → Row → Result State Fault
arc_step graph zero from pit flow r = Err (in_certificate AfterEnd r.line)
arc_step graph (suc left) from pit flow r = do
  arc ← arc_line graph.pairs from r
  Ok (state (Arc left (arc.0 + 1)) pit (set flow arc.0 (pos arc.1)))

-- what a line gives where it is the one that is due
unfoldable pub step_at : Graph → FixedLists → CertificateLine → List ℕ → List ℤ → Row → Result State Fault
step_at graph lists (Head head) pit flow r = do
  due ← head_line graph lists head r
  Ok (state due pit flow)
step_at graph lists (Block left from) pit flow r = block_step graph left from pit flow r
step_at graph lists (Arc left from) pit flow r = arc_step graph left from pit flow r

-- a certificate without where it lies in memory
pub record PitAndFlow : Type 0 where
  pub pit : List ℕ
  pub flow : List ℤ

abbrev pub pit_and_flow : List ℕ → List ℤ → PitAndFlow
pit_and_flow pit flow = record { pit = pit; flow = flow }

-- the text ends here: nothing may be left; count is the number of its lines
unfoldable pub end_at : ℕ → CertificateLine → List ℕ → List ℤ → Result PitAndFlow Fault
end_at count (Arc zero from) pit flow = Ok (pit_and_flow pit flow)
end_at count _ pit flow = Err (in_certificate EndsEarly (count + 1))

abbrev pub step : Graph → FixedLists → State → Row → Result State Fault
step graph lists s r = step_at graph lists s.due s.pit s.flow r

abbrev pub end : ℕ → State → Result PitAndFlow Fault
end count s = end_at count s.due s.pit s.flow

-- all lines, one after the other
abbrev pub certificate_from : Graph → FixedLists → ℕ → State → List Row → Result PitAndFlow Fault
certificate_from graph lists count s rows = read_from (step graph lists) (end count) s rows

-- at the start no block is listed, and no arc carries anything
abbrev pub first_state : Graph → State
first_state graph = state (Head Title) [] (replicate (length graph.pairs) (pos 0))

-- the certificate of the graph with these fixed blocks that a text spells, or its first fault
abbrev pub certificate_of : Graph → FixedLists → List ℕ → Result PitAndFlow Fault
certificate_of graph lists text = certificate_from graph lists (count_of_lines text) (first_state graph) (rows_of text)
