-- What is read is spelled: the head, the blocks, and the arcs, one line after the other.
use Rattle.std.proofs.Common.{◌≡◌, ℕ, zero, suc, ◌+◌, ◌<◌, ◌≤◌, List, [], ◌∷◌, ◌++◌, set, length, Ok, refl, sym, ap, subst, ◌∙◌, arith, append_assoc}
use Rattle.std.specs.Prelude.{ℤ, pos, codes, replicate}
use Rattle.std.proofs.lemmas.List.{append-nil, get_or-set_same, get_or-set_other, length-set, length-replicate}
use Rattle.minelib_reader.specs.Text.{Row}
use Rattle.minelib_reader.proofs.CheckLemmas.{passed, passing, same_value}
use Rattle.pit_model.specs.Fixed.{FixedLists}
use Rattle.pit_model.specs.Graph.{Graph}
use Rattle.certificate.specs.declared.due.CertificateLine.TheVariants.{Block, Arc}
use Rattle.optimality.specs.Check.{amount}
use Rattle.certificate.specs.CertificateLines.{State, PitAndFlow, pit_and_flow, state, first_state, step, end, block_step, arc_step, step_at, end_at, certificate_from, count_line, id_line, arc_line}
use Rattle.certificate.specs.CertificateGrammar.{SpellsPitBlock, SpellsPitBlocks, SpellsArc, SpellsFlow, SpellsCertificateRows}
use Rattle.report.specs.HeadLines.{SpellsNumber}
use Rattle.report.specs.LineByLine.{read_from}
use Rattle.report.proofs.ReadingOn.{read_back}
use Rattle.certificate.proofs.LinesRead.{count_found, id_found, arc_line_found}
use Rattle.certificate.proofs.TextRead.{none_carried}
use Rattle.certificate.proofs.HeadFound.{head_found}

-- what the lines of the arcs tell, where the flow before them is now
record FlowFound (graph : Graph) (left from : ℕ) (front : List ℕ) (now : List ℤ) (rows : List Row) (c : PitAndFlow) : Type 0 where
  all : length rows ≡ left
  pit : c.pit ≡ front
  counted : length c.flow ≡ length graph.pairs
  below : (k : ℕ) → k < from → amount c.flow k ≡ amount now k
  spelled : SpellsFlow graph.pairs from rows c.flow

-- what the lines of the blocks and those behind them tell
record BlocksFound (graph : Graph) (left from : ℕ) (front : List ℕ) (rows : List Row) (c : PitAndFlow) : Type 0 where
  ids : List Row
  carrying : Row
  amounts : List Row
  are : rows ≡ ids ++ carrying ∷ amounts
  own : List ℕ
  pit : c.pit ≡ front ++ own
  all : length own ≡ left
  spelled : SpellsPitBlocks graph.blocks from ids own
  names : SpellsNumber (codes "FLOW:") (length amounts) carrying
  few : length amounts ≤ length graph.pairs
  flow : SpellsFlow graph.pairs 0 amounts c.flow
  counted : length c.flow ≡ length graph.pairs

module _ (graph : Graph) (lists : FixedLists) (count : ℕ) where
  -- one line
  step_back : (s : State) (r : Row) (rows : List Row) (c : PitAndFlow) → certificate_from graph lists count s (r ∷ rows) ≡ Ok c
      → (t : State) × (step_at graph lists s.due s.pit s.flow r ≡ Ok t) × (certificate_from graph lists count t rows ≡ Ok c)
  step_back s r rows c e = read_back (step graph lists) (end count) s r rows c e

  end_back : (from : ℕ) (pit : List ℕ) (now : List ℤ) (c : PitAndFlow) → certificate_from graph lists count (state (Arc 0 from) pit now) [] ≡ Ok c → pit_and_flow pit now ≡ c
  unfolding read_from end_at
  end_back from pit now c e = same_value (pit_and_flow pit now) c e

  no_end : (left from : ℕ) (pit : List ℕ) (now : List ℤ) (c : PitAndFlow) → certificate_from graph lists count (state (Arc (suc left) from) pit now) [] ≡ Ok c → ⊥
  unfolding read_from end_at
  no_end left from pit now c e = cc

  no_end_of_blocks : (left from : ℕ) (pit : List ℕ) (now : List ℤ) (c : PitAndFlow) → certificate_from graph lists count (state (Block left from) pit now) [] ≡ Ok c → ⊥
  unfolding read_from end_at
  no_end_of_blocks left from pit now c e = cc

  no_more : (from : ℕ) (pit : List ℕ) (now : List ℤ) (r : Row) (t : State) → step_at graph lists (Arc 0 from) pit now r ≡ Ok t → ⊥
  unfolding step_at arc_step
  no_more from pit now r t e = cc

  arc_back : (left from : ℕ) (pit : List ℕ) (now : List ℤ) (r : Row) (t : State) → step_at graph lists (Arc (suc left) from) pit now r ≡ Ok t
      → (arc : ℕ × ℕ) × SpellsArc graph.pairs from r arc.0 (pos arc.1) × (state (Arc left (arc.0 + 1)) pit (set now arc.0 (pos arc.1)) ≡ t)
  unfolding step_at arc_step
  arc_back left from pit now r t e =
      let a = passed (arc_line graph.pairs from r) (λ arc. passing (state (Arc left (arc.0 + 1)) pit (set now arc.0 (pos arc.1)))) t e in
      (a.value, arc_line_found graph.pairs from r a.value a.here, same_value (state (Arc left (a.value.0 + 1)) pit (set now a.value.0 (pos a.value.1))) t a.behind)

  block_back : (left from : ℕ) (pit : List ℕ) (now : List ℤ) (r : Row) (t : State) → step_at graph lists (Block (suc left) from) pit now r ≡ Ok t
      → (id : ℕ) × SpellsPitBlock graph.blocks from r id × (state (Block left (id + 1)) (pit ++ id ∷ []) now ≡ t)
  unfolding step_at block_step
  block_back left from pit now r t e =
      let a = passed (id_line graph.blocks from r) (λ id. passing (state (Block left (id + 1)) (pit ++ id ∷ []) now)) t e in
      (a.value, id_found graph.blocks from r a.value a.here, same_value (state (Block left (a.value + 1)) (pit ++ a.value ∷ []) now) t a.behind)

  carrying_back : (from : ℕ) (pit : List ℕ) (now : List ℤ) (r : Row) (t : State) → step_at graph lists (Block 0 from) pit now r ≡ Ok t
      → (n : ℕ) × SpellsNumber (codes "FLOW:") n r × (n ≤ length graph.pairs) × (state (Arc n 0) pit now ≡ t)
  unfolding step_at block_step
  carrying_back from pit now r t e =
      let a = passed (count_line (codes "FLOW:") (length graph.pairs) r) (λ n. passing (state (Arc n 0) pit now)) t e in
      let f = count_found (codes "FLOW:") (length graph.pairs) r a.value a.here in
      (a.value, f.0, f.1, same_value (state (Arc a.value 0) pit now) t a.behind)

  flow_found : (left from : ℕ) (pit : List ℕ) (now : List ℤ) (rows : List Row) (c : PitAndFlow) → length now ≡ length graph.pairs → ((k : ℕ) → from ≤ k → amount now k ≡ pos 0)
      → certificate_from graph lists count (state (Arc left from) pit now) rows ≡ Ok c → FlowFound graph left from pit now rows c
  flow_found zero from pit now [] c size above e =
      let is = end_back from pit now c e in
      subst (λ (x : PitAndFlow). FlowFound graph 0 from pit now [] x) is (record { all = refl; pit = refl; counted = size; below = λ k l. refl; spelled = above })
  flow_found (suc left) from pit now [] c size above e = absurd (no_end left from pit now c e)
  flow_found zero from pit now (r ∷ rows) c size above e =
      let a = step_back (state (Arc 0 from) pit now) r rows c e in absurd (no_more from pit now r a.0 a.1)
  flow_found (suc left) from pit now (r ∷ rows) c size above e =
      let a = step_back (state (Arc (suc left) from) pit now) r rows c e in
      let b = arc_back left from pit now r a.0 a.1 in
      let arc : ℕ = b.0.0 in
      let next : List ℤ = set now b.0.0 (pos b.0.1) in
      let room : b.0.0 < length now = omega (arith, b.1.known) in
      let up = b.1.rising in
      let here : amount (set now b.0.0 (pos b.0.1)) b.0.0 ≡ pos b.0.1 = get_or-set_same now b.0.0 (pos b.0.1) (pos 0) room in
      let other : (k : ℕ) → (k ≡ b.0.0 → ⊥) → amount (set now b.0.0 (pos b.0.1)) k ≡ amount now k = λ k ne. get_or-set_other now b.0.0 k (pos b.0.1) (pos 0) ne in
      let rest = flow_found left (b.0.0 + 1) pit (set now b.0.0 (pos b.0.1)) rows c (length-set now b.0.0 (pos b.0.1) ∙ size)
      (λ k l. other k (λ same. omega arith) ∙ above k (omega arith))
      (ap (λ (t : State). certificate_from graph lists count t rows) b.2 ∙ a.2) in
      let is : amount c.flow b.0.0 ≡ pos b.0.1 = rest.below b.0.0 (omega arith) ∙ here in
      record {
        all = ap suc rest.all;
        pit = rest.pit;
        counted = rest.counted;
        below = λ k l. rest.below k (omega arith) ∙ other k (λ same. omega arith);
        spelled = (
          b.0.0,
          subst (λ (x : ℤ). SpellsArc graph.pairs from r b.0.0 x) (sym is) b.1,
          λ k l h. rest.below k (omega arith) ∙ other k (λ same. omega arith) ∙ above k l,
          rest.spelled,
        );
      }

  blocks_found : (left from : ℕ) (front : List ℕ) (now : List ℤ) (rows : List Row) (c : PitAndFlow) → length now ≡ length graph.pairs → ((k : ℕ) → amount now k ≡ pos 0)
      → certificate_from graph lists count (state (Block left from) front now) rows ≡ Ok c → BlocksFound graph left from front rows c
  blocks_found left from front now [] c size none e = absurd (no_end_of_blocks left from front now c e)
  blocks_found zero from front now (r ∷ rows) c size none e =
      let a = step_back (state (Block 0 from) front now) r rows c e in
      let b = carrying_back from front now r a.0 a.1 in
      let f = flow_found b.0 0 front now rows c size (λ k l. none k) (ap (λ (t : State). certificate_from graph lists count t rows) b.3 ∙ a.2) in
      record {
        ids = [];
        carrying = r;
        amounts = rows;
        are = refl;
        own = [];
        pit = f.pit ∙ sym (append-nil front);
        all = refl;
        spelled = tt;
        names = subst (λ (n : ℕ). SpellsNumber (codes "FLOW:") n r) (sym f.all) b.1;
        few = subst (λ (n : ℕ). n ≤ length graph.pairs) (sym f.all) b.2;
        flow = f.spelled;
        counted = f.counted;
      }
  blocks_found (suc left) from front now (r ∷ rows) c size none e =
      let a = step_back (state (Block (suc left) from) front now) r rows c e in
      let b = block_back left from front now r a.0 a.1 in
      let f = blocks_found left (b.0 + 1) (front ++ b.0 ∷ []) now rows c size none (ap (λ (t : State). certificate_from graph lists count t rows) b.2 ∙ a.2) in
      record {
        ids = r ∷ f.ids;
        carrying = f.carrying;
        amounts = f.amounts;
        are = ap (λ (xs : List Row). r ∷ xs) f.are;
        own = b.0 ∷ f.own;
        pit = f.pit ∙ append_assoc front (b.0 ∷ []) f.own;
        all = ap suc f.all;
        spelled = (b.1, f.spelled);
        names = f.names;
        few = f.few;
        flow = f.flow;
        counted = f.counted;
      }

  pub spelled : (rows : List Row) (c : PitAndFlow) → certificate_from graph lists count (first_state graph) rows ≡ Ok c → SpellsCertificateRows graph lists rows c
  spelled rows c e =
      let h = head_found graph lists count [] (replicate (length graph.pairs) (pos 0)) c rows e in
      let f = h.fixed in
      let i = f.inside in
      let g = blocks_found i.many 0 [] (replicate (length graph.pairs) (pos 0)) f.rest c (length-replicate (length graph.pairs) (pos 0)) (λ k. none_carried (length graph.pairs) k) i.read in
      let many : length c.pit ≡ i.many = ap length g.pit ∙ g.all in
      record {
        title = h.title;
        blocks = h.blocks;
        arcs = h.arcs;
        fixed = f.fixed;
        inside = f.line ∷ g.ids;
        carrying = g.carrying;
        amounts = g.amounts;
        are = h.are ∙ ap (λ (xs : List Row). h.title ∷ h.blocks ∷ h.arcs ∷ xs) (f.are ∙ ap (λ (xs : List Row). f.fixed ++ f.line ∷ xs) g.are);
        format = f.format;
        names_blocks = h.names_blocks;
        names_arcs = h.names_arcs;
        pit = record {
          count = f.line;
          blocks = g.ids;
          are = refl;
          names = subst (λ (n : ℕ). SpellsNumber (codes "IN:") n f.line) (sym many) i.names;
          few = subst (λ (n : ℕ). n ≤ graph.blocks) (sym many) i.few;
          spelled = subst (λ (xs : List ℕ). SpellsPitBlocks graph.blocks 0 g.ids xs) (sym g.pit) g.spelled;
        };
        names_carrying = g.names;
        few_carrying = g.few;
        flow = g.flow;
        counted = g.counted;
      }
