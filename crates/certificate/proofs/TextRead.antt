-- What is spelled is read: the head, the blocks, and the arcs, one line after the other.
use Rattle.std.proofs.Common.{◌≡◌, ℕ, zero, suc, ◌+◌, ◌<◌, ◌≤◌, List, [], ◌∷◌, ◌++◌, set, length, Ok, refl, sym, ap, ◌∙◌, arith, ⊎_elim, append_assoc}
use Rattle.std.specs.Prelude.{ℤ, pos, codes, replicate}
use Rattle.std.proofs.lemmas.Bool.{cases_eq, cases_lt}
use Rattle.std.proofs.lemmas.List.{append-nil, get_or-set_same, get_or-set_other, length-set, length-replicate, ext_get_or}
use Rattle.minelib_reader.specs.Text.{Row}
use Rattle.pit_model.specs.Fixed.{FixedLists}
use Rattle.pit_model.specs.Graph.{Graph, AreRising}
use Rattle.certificate.specs.declared.due.CertificateLine.TheVariants.{Block, Arc}
use Rattle.optimality.specs.Check.{amount}
use Rattle.certificate.specs.CertificateLines.{State, PitAndFlow, pit_and_flow, state, first_state, step, end, block_step, arc_step, step_at, end_at, certificate_from, count_line, arc_line}
use Rattle.certificate.specs.CertificateGrammar.{SpellsPitBlock, SpellsPitBlocks, SpellsFlow, SpellsCertificateRows}
use Rattle.report.specs.LineByLine.{read_from}
use Rattle.report.proofs.ReadingOn.{read_on}
use Rattle.certificate.proofs.LinesRead.{reads_count, reads_id, reads_arc}
use Rattle.certificate.proofs.HeadRead.{format_read, from_after}

-- at the start no arc carries anything
pub none_carried : (m k : ℕ) → amount (replicate m (pos 0)) k ≡ pos 0
none_carried zero k = refl
none_carried (suc m) zero = refl
none_carried (suc m) (suc k) = none_carried m k

module _ (graph : Graph) (lists : FixedLists) (count : ℕ) where
  -- one line
  step_on : (s t : State) (r : Row) (rows : List Row) → step_at graph lists s.due s.pit s.flow r ≡ Ok t → certificate_from graph lists count s (r ∷ rows) ≡ certificate_from graph lists count t rows
  step_on s t r rows h = read_on (step graph lists) (end count) s t r rows h

  block_read : (left from id : ℕ) (pit : List ℕ) (flow : List ℤ) (r : Row) → SpellsPitBlock graph.blocks from r id
      → step_at graph lists (Block (suc left) from) pit flow r ≡ Ok (state (Block left (id + 1)) (pit ++ id ∷ []) flow)
  unfolding step_at block_step
  block_read left from id pit flow r s = rw (reads_id graph.blocks from r id s) refl

  blocks_read : (from : ℕ) (rows rest : List Row) (front ids : List ℕ) (flow : List ℤ) → SpellsPitBlocks graph.blocks from rows ids
      → certificate_from graph lists count (state (Block (length ids) from) front flow) (rows ++ rest) ≡ certificate_from graph lists count (state (Block 0 (from_after from ids)) (front ++ ids) flow) rest
  blocks_read from [] rest front [] flow s = ap (λ (xs : List ℕ). certificate_from graph lists count (state (Block 0 from) xs flow) rest) (sym (append-nil front))
  blocks_read from [] rest front (id ∷ ids) flow s = absurd s
  blocks_read from (r ∷ rows) rest front [] flow s = absurd s
  blocks_read from (r ∷ rows) rest front (id ∷ ids) flow s =
      step_on (state (Block (suc (length ids)) from) front flow) (state (Block (length ids) (id + 1)) (front ++ id ∷ []) flow) r (rows ++ rest) (block_read (length ids) from id front flow r s.0)
      ∙ blocks_read (id + 1) rows rest (front ++ id ∷ []) ids flow s.1
      ∙ ap (λ (xs : List ℕ). certificate_from graph lists count (state (Block 0 (from_after (id + 1) ids)) xs flow) rest) (append_assoc front (id ∷ []) ids)

  carrying_read : (from n : ℕ) (pit : List ℕ) (flow : List ℤ) (r : Row) → count_line (codes "FLOW:") (length graph.pairs) r ≡ Ok n
      → step_at graph lists (Block 0 from) pit flow r ≡ Ok (state (Arc n 0) pit flow)
  unfolding step_at block_step
  carrying_read from n pit flow r h = rw h refl

  arc_read : (left from : ℕ) (pit : List ℕ) (flow : List ℤ) (r : Row) (arc : ℕ × ℕ) → arc_line graph.pairs from r ≡ Ok arc
      → step_at graph lists (Arc (suc left) from) pit flow r ≡ Ok (state (Arc left (arc.0 + 1)) pit (set flow arc.0 (pos arc.1)))
  unfolding step_at arc_step
  arc_read left from pit flow r arc h = rw h refl

  ended : (from : ℕ) (pit : List ℕ) (flow : List ℤ) → certificate_from graph lists count (state (Arc 0 from) pit flow) [] ≡ Ok (pit_and_flow pit flow)
  unfolding read_from end_at
  ended from pit flow = refl

  -- the flow so far is that of the certificate below the next arc, and 0 from there on
  flow_read : (from : ℕ) (rows : List Row) (pit : List ℕ) (now flow : List ℤ) → AreRising graph.pairs → length now ≡ length graph.pairs → length flow ≡ length graph.pairs
      → ((k : ℕ) → k < from → amount now k ≡ amount flow k) → ((k : ℕ) → from ≤ k → amount now k ≡ pos 0) → SpellsFlow graph.pairs from rows flow
      → certificate_from graph lists count (state (Arc (length rows) from) pit now) rows ≡ Ok (pit_and_flow pit flow)
  flow_read from [] pit now flow rising size counted below above s =
      let same : now ≡ flow = ext_get_or (pos 0) now flow (size ∙ sym counted)
      (λ k l. ⊎_elim (λ (h : k < from). below k h) (λ (h : from ≤ k). above k h ∙ sym (s k h)) (cases_lt k from)) in
      ended from pit now ∙ ap (λ (xs : List ℤ). Ok (pit_and_flow pit xs)) same
  flow_read from (r ∷ rows) pit now flow rising size counted below above s =
      let arc : ℕ = s.0 in
      let a = s.1 in
      let next : List ℤ = set now s.0 (pos a.size) in
      let room : s.0 < length now = omega (arith, a.known) in
      let up = a.rising in
      let here : amount (set now s.0 (pos a.size)) s.0 ≡ pos a.size = get_or-set_same now s.0 (pos a.size) (pos 0) room in
      let other : (k : ℕ) → (k ≡ s.0 → ⊥) → amount (set now s.0 (pos a.size)) k ≡ amount now k = λ k ne. get_or-set_other now s.0 k (pos a.size) (pos 0) ne in
      step_on (state (Arc (suc (length rows)) from) pit now) (state (Arc (length rows) (s.0 + 1)) pit (set now s.0 (pos a.size))) r rows
      (arc_read (length rows) from pit now r (s.0, a.size) (reads_arc graph.pairs from r s.0 (amount flow s.0) rising s.1))
      ∙ flow_read (s.0 + 1) rows pit (set now s.0 (pos a.size)) flow rising (length-set now s.0 (pos a.size) ∙ size) counted
      (λ k l. ⊎_elim
      (λ (e : k ≡ s.0). ap (amount (set now s.0 (pos a.size))) e ∙ here ∙ sym a.is_amount ∙ ap (amount flow) (sym e))
      (λ (ne : k ≡ s.0 → ⊥). other k ne ∙ ⊎_elim (λ (h : k < from). below k h) (λ (h : from ≤ k). above k h ∙ sym (s.2 k h (omega arith))) (cases_lt k from))
      (cases_eq k s.0))
      (λ k l. other k (λ e. omega arith) ∙ above k (omega arith))
      s.3

  pub reads : (rows : List Row) (c : PitAndFlow) → AreRising graph.pairs → SpellsCertificateRows graph lists rows c → certificate_from graph lists count (first_state graph) rows ≡ Ok c
  reads rows c rising s =
      let lines : rows ≡ s.title ∷ s.blocks ∷ s.arcs ∷ (s.fixed ++ s.pit.count ∷ (s.pit.blocks ++ s.carrying ∷ s.amounts)) =
      s.are ∙ ap (λ (xs : List Row). s.title ∷ s.blocks ∷ s.arcs ∷ (s.fixed ++ (xs ++ s.carrying ∷ s.amounts))) s.pit.are in
      ap (certificate_from graph lists count (first_state graph)) lines
      ∙ format_read graph lists count [] (replicate (length graph.pairs) (pos 0)) s.title s.blocks s.arcs s.fixed s.pit.count (s.pit.blocks ++ s.carrying ∷ s.amounts) (length c.pit) s.format s.names_blocks s.names_arcs s.pit.names s.pit.few
      ∙ blocks_read 0 s.pit.blocks (s.carrying ∷ s.amounts) [] c.pit (replicate (length graph.pairs) (pos 0)) s.pit.spelled
      ∙ step_on (state (Block 0 (from_after 0 c.pit)) c.pit (replicate (length graph.pairs) (pos 0))) (state (Arc (length s.amounts) 0) c.pit (replicate (length graph.pairs) (pos 0))) s.carrying s.amounts
      (carrying_read (from_after 0 c.pit) (length s.amounts) c.pit (replicate (length graph.pairs) (pos 0)) s.carrying (reads_count (codes "FLOW:") (length s.amounts) (length graph.pairs) s.carrying s.names_carrying s.few_carrying))
      ∙ flow_read 0 s.amounts c.pit (replicate (length graph.pairs) (pos 0)) c.flow rising (length-replicate (length graph.pairs) (pos 0)) s.counted
      (λ k l. absurd (omega arith)) (λ k l. none_carried (length graph.pairs) k) s.flow
