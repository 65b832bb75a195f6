-- What is spelled is read: the lines before the blocks of the pit, one after the other.
use Rattle.std.proofs.Common.{◌≡◌, ℕ, ◌+◌, ◌≤◌, Bool, true, false, List, [], ◌∷◌, ◌++◌, length, Option, Some, None, Result, Ok, refl, sym, ap, ◌∙◌, arith, append_assoc}
use Rattle.std.specs.Prelude.{ℤ, codes, if◌then◌else◌}
use Rattle.std.specs.List.{slice_get}
use Rattle.std.proofs.lemmas.List.{append-nil, length_push}
use Rattle.std.proofs.lemmas.Option.{slice_get_past}
use Rattle.faults.specs.declared.fault.Fault.{Fault}
use Rattle.faults.specs.declared.source.Source.TheVariants.{Certificate}
use Rattle.minelib_reader.specs.Text.{Row}
use Rattle.pit_model.specs.Fixed.{FixedLists}
use Rattle.pit_model.specs.Graph.{Graph}
use Rattle.report.specs.HeadLines.{SpellsNumber}
use Rattle.report.proofs.HeadRead.{reads_same}
use Rattle.report.proofs.ReadingOn.{read_on}
use Rattle.certificate.specs.declared.due.CertificateLine.{CertificateLine}
use Rattle.certificate.specs.declared.due.CertificateLine.TheVariants.{Head, Block}
use Rattle.certificate.specs.declared.due.Head.{Head as HeadLine}
use Rattle.certificate.specs.declared.due.Head.TheVariants.{Title, Blocks, Arcs, FixedCount, FixedBlock, Count}
use Rattle.certificate.specs.declared.due.Kind.{Kind}
use Rattle.certificate.specs.declared.due.Kind.TheVariants.{Forced, Barred}
use Rattle.certificate.specs.CertificateLines.{PitAndFlow, State, behind_fixed, certificate_from, end, fixed_block_line, head_line, list_of, state, step, step_at, kind_word}
use Rattle.certificate.specs.CertificateGrammar.{SpellsPitBlocks, SpellsFormat}
use Rattle.certificate.specs.CertificateGrammar.SpellsFormat.{with_fixed, without_fixed}
use Rattle.certificate.proofs.LinesRead.{reads_first_format, reads_second_format, reads_fixed_count, reads_fixed_block, reads_inside}

-- where the next block starts behind these
abbrev pub from_after : ℕ → List ℕ → ℕ
from_after from [] = from
from_after from (id ∷ ids) = from_after (id + 1) ids

pub next_of : (front ids : List ℕ) (id : ℕ) → slice_get (front ++ id ∷ ids) (length front) ≡ Some id
next_of [] ids id = refl
next_of (x ∷ front) ids id = next_of front ids id

module _ (graph : Graph) (lists : FixedLists) (count : ℕ) (pit : List ℕ) (flow : List ℤ) where
  abbrev reading : State → List Row → Result PitAndFlow Fault
  reading s rows = certificate_from graph lists count s rows

  abbrev at_head : HeadLine → State
  at_head head = state (Head head) pit flow

  -- one line
  head_on : (head : HeadLine) (due : CertificateLine) (r : Row) (rows : List Row) → head_line graph lists head r ≡ Ok due → reading (at_head head) (r ∷ rows) ≡ reading (state due pit flow) rows
  unfolding step_at
  head_on head due r rows h =
      let one : step_at graph lists (Head head) pit flow r ≡ Ok (state due pit flow) = rw h refl in
      read_on (step graph lists) (end count) (at_head head) (state due pit flow) r rows one

  -- ---- the fixed blocks of a kind

  fixed_block_on : (kind : Kind) (at from : ℕ) (o : Option ℕ) (due : CertificateLine) (r : Row) (rows : List Row) → slice_get (list_of lists kind) at ≡ o
      → fixed_block_line graph.blocks lists kind at from o r ≡ Ok due → reading (at_head (FixedBlock kind at from)) (r ∷ rows) ≡ reading (state due pit flow) rows
  unfolding head_line
  fixed_block_on kind at from o due r rows is h = head_on (FixedBlock kind at from) due r rows
      (ap (λ (x : Option ℕ). fixed_block_line graph.blocks lists kind at from x r) is ∙ h)

  fixed_blocks_read : (kind : Kind) (front ids : List ℕ) (from : ℕ) (rows rest : List Row) → list_of lists kind ≡ front ++ ids → SpellsPitBlocks graph.blocks from rows ids
      → reading (at_head (FixedBlock kind (length front) from)) (rows ++ rest) ≡ reading (at_head (FixedBlock kind (length (list_of lists kind)) (from_after from ids))) rest
  fixed_blocks_read kind front [] from [] rest is s =
      ap (λ (xs : List ℕ). reading (at_head (FixedBlock kind (length xs) from)) rest) (sym (is ∙ append-nil front))
  fixed_blocks_read kind front [] from (r ∷ rows) rest is s = absurd s
  fixed_blocks_read kind front (id ∷ ids) from [] rest is s = absurd s
  fixed_blocks_read kind front (id ∷ ids) from (r ∷ rows) rest is s =
      let here : slice_get (list_of lists kind) (length front) ≡ Some id = ap (λ (xs : List ℕ). slice_get xs (length front)) is ∙ next_of front ids id in
      let size : length front + 1 ≡ length (front ++ id ∷ []) = sym (length_push front id) in
      fixed_block_on kind (length front) from (Some id) (Head (FixedBlock kind (length front + 1) (id + 1))) r (rows ++ rest) here
      (reads_fixed_block graph.blocks lists kind (length front) from id r s.0)
      ∙ ap (λ (k : ℕ). reading (at_head (FixedBlock kind k (id + 1))) (rows ++ rest)) size
      ∙ fixed_blocks_read kind (front ++ id ∷ []) ids (id + 1) rows rest (is ∙ sym (append_assoc front (id ∷ []) ids)) s.1

  fixed_kind_read : (kind : Kind) (rows : List Row) (next : Row) (rest : List Row) (due : CertificateLine) → SpellsPitBlocks graph.blocks 0 rows (list_of lists kind)
      → behind_fixed graph.blocks lists kind next ≡ Ok due → reading (at_head (FixedBlock kind 0 0)) (rows ++ next ∷ rest) ≡ reading (state due pit flow) rest
  unfolding fixed_block_line
  fixed_kind_read kind rows next rest due s h =
      fixed_blocks_read kind [] (list_of lists kind) 0 rows (next ∷ rest) refl s
      ∙ fixed_block_on kind (length (list_of lists kind)) (from_after 0 (list_of lists kind)) None due next rest (slice_get_past (list_of lists kind) (length (list_of lists kind)) (omega arith)) h

  fixed_count_on : (kind : Kind) (r : Row) (rows : List Row) → SpellsNumber (kind_word kind) (length (list_of lists kind)) r → length (list_of lists kind) ≤ graph.blocks
      → reading (at_head (FixedCount kind)) (r ∷ rows) ≡ reading (at_head (FixedBlock kind 0 0)) rows
  unfolding head_line
  fixed_count_on kind r rows names few = head_on (FixedCount kind) (Head (FixedBlock kind 0 0)) r rows (reads_fixed_count graph.blocks lists kind r names few)

  -- ---- the whole head

  title_on : (names_fixed : Bool) (title blocks arcs : Row) (rows : List Row) → head_line graph lists Title title ≡ Ok (Head (Blocks names_fixed))
      → SpellsNumber (codes "BLOCKS:") graph.blocks blocks → SpellsNumber (codes "ARCS:") (length graph.pairs) arcs
      → reading (at_head Title) (title ∷ blocks ∷ arcs ∷ rows) ≡ reading (at_head (if names_fixed then FixedCount Forced else Count)) rows
  unfolding head_line
  title_on names_fixed title blocks arcs rows t b a =
      let two : head_line graph lists (Blocks names_fixed) blocks ≡ Ok (Head (Arcs names_fixed)) = rw (reads_same Certificate (codes "BLOCKS:") graph.blocks blocks b) refl in
      let three : head_line graph lists (Arcs names_fixed) arcs ≡ Ok (Head (if names_fixed then FixedCount Forced else Count)) = rw (reads_same Certificate (codes "ARCS:") (length graph.pairs) arcs a) refl in
      head_on Title (Head (Blocks names_fixed)) title (blocks ∷ arcs ∷ rows) t
      ∙ head_on (Blocks names_fixed) (Head (Arcs names_fixed)) blocks (arcs ∷ rows) two
      ∙ head_on (Arcs names_fixed) (Head (if names_fixed then FixedCount Forced else Count)) arcs rows three

  pub format_read : (title blocks arcs : Row) (fixed : List Row) (inside : Row) (rows : List Row) (n : ℕ) → SpellsFormat graph.blocks lists title fixed
      → SpellsNumber (codes "BLOCKS:") graph.blocks blocks → SpellsNumber (codes "ARCS:") (length graph.pairs) arcs → SpellsNumber (codes "IN:") n inside → n ≤ graph.blocks
      → reading (at_head Title) (title ∷ blocks ∷ arcs ∷ (fixed ++ inside ∷ rows)) ≡ reading (state (Block n 0) pit flow) rows
  unfolding head_line
  format_read title blocks arcs fixed inside rows n (without_fixed fields none empty) b a i few =
      let one : head_line graph lists Title title ≡ Ok (Head (Blocks false)) = rw (reads_first_format lists title fields none) refl in
      ap (λ (xs : List Row). reading (at_head Title) (title ∷ blocks ∷ arcs ∷ (xs ++ inside ∷ rows))) empty
      ∙ title_on false title blocks arcs (inside ∷ rows) one b a
      ∙ head_on Count (Block n 0) inside rows (reads_inside graph.blocks n inside i few)
  format_read title blocks arcs fixed inside rows n (with_fixed fields forced barred are f g) b a i few =
      let one : head_line graph lists Title title ≡ Ok (Head (Blocks true)) = rw (reads_second_format lists title fields) refl in
      let lines : fixed ++ inside ∷ rows ≡ f.count ∷ (f.blocks ++ g.count ∷ (g.blocks ++ inside ∷ rows)) =
      ap (λ (xs : List Row). xs ++ inside ∷ rows) are ∙ append_assoc forced barred (inside ∷ rows)
      ∙ ap (λ (xs : List Row). xs ++ (barred ++ inside ∷ rows)) f.are ∙ ap (λ (xs : List Row). f.count ∷ (f.blocks ++ (xs ++ inside ∷ rows))) g.are in
      ap (λ (xs : List Row). reading (at_head Title) (title ∷ blocks ∷ arcs ∷ xs)) lines
      ∙ title_on true title blocks arcs (f.count ∷ (f.blocks ++ g.count ∷ (g.blocks ++ inside ∷ rows))) one b a
      ∙ fixed_count_on Forced f.count (f.blocks ++ g.count ∷ (g.blocks ++ inside ∷ rows)) f.names f.few
      ∙ fixed_kind_read Forced f.blocks g.count (g.blocks ++ inside ∷ rows) (Head (FixedBlock Barred 0 0)) f.spelled (reads_fixed_count graph.blocks lists Barred g.count g.names g.few)
      ∙ fixed_kind_read Barred g.blocks inside rows (Block n 0) g.spelled (reads_inside graph.blocks n inside i few)
