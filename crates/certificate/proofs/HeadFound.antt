-- What is read is spelled: the lines before the blocks of the pit, one after the other.
use Rattle.std.proofs.Common.{◌≡◌, ℕ, ◌+◌, ◌≤◌, Bool, true, false, List, [], ◌∷◌, ◌++◌, length, Option, Some, None, Result, Ok, refl, sym, ap, ◌∙◌, arith, append_assoc}
use Rattle.std.specs.Prelude.{ℤ, codes, if◌then◌else◌}
use Rattle.std.specs.List.{slice_get}
use Rattle.std.proofs.lemmas.List.{append-nil, length_push}
use Rattle.std.proofs.lemmas.Option.{slice_get_past}
use Rattle.faults.specs.declared.fault.Fault.{Fault}
use Rattle.faults.specs.declared.source.Source.TheVariants.{Certificate}
use Rattle.minelib_reader.specs.Text.{Row}
use Rattle.minelib_reader.proofs.CheckLemmas.{passed, passing, same_value}
use Rattle.pit_model.specs.Fixed.{FixedLists}
use Rattle.pit_model.specs.Graph.{Graph}
use Rattle.report.specs.HeadLines.{same_line, SpellsNumber}
use Rattle.report.specs.LineByLine.{read_from}
use Rattle.report.proofs.HeadRead.{same_found}
use Rattle.report.proofs.ReadingOn.{read_back}
use Rattle.certificate.specs.declared.due.CertificateLine.{CertificateLine}
use Rattle.certificate.specs.declared.due.CertificateLine.TheVariants.{Head, Block}
use Rattle.certificate.specs.declared.due.Head.{Head as HeadLine}
use Rattle.certificate.specs.declared.due.Head.TheVariants.{Title, Blocks, Arcs, FixedCount, FixedBlock, Count}
use Rattle.certificate.specs.declared.due.Kind.{Kind}
use Rattle.certificate.specs.declared.due.Kind.TheVariants.{Forced, Barred}
use Rattle.certificate.specs.CertificateLines.{PitAndFlow, State, behind_fixed, certificate_from, end, end_at, fixed_block_line, format_line, head_line, list_of, state, step, step_at, kind_word}
use Rattle.certificate.specs.CertificateGrammar.{SpellsPitBlocks, SpellsFormat}
use Rattle.certificate.specs.CertificateGrammar.SpellsFormat.{with_fixed, without_fixed}
use Rattle.certificate.proofs.LinesRead.{IsFormat, format_found, fixed_count_found, fixed_block_found, inside_found}
use Rattle.certificate.proofs.HeadRead.{next_of}

module _ (graph : Graph) (lists : FixedLists) (count : ℕ) (pit : List ℕ) (flow : List ℤ) (c : PitAndFlow) where
  abbrev reading : State → List Row → Result PitAndFlow Fault
  reading s rows = certificate_from graph lists count s rows

  abbrev at_head : HeadLine → State
  at_head head = state (Head head) pit flow

  -- one line, which there is
  record LineFound (head : HeadLine) (rows : List Row) : Type 0 where
    line : Row
    rest : List Row
    are : rows ≡ line ∷ rest
    due : CertificateLine
    gives : head_line graph lists head line ≡ Ok due
    read : reading (state due pit flow) rest ≡ Ok c

  step_back : (head : HeadLine) (r : Row) (t : State) → step_at graph lists (Head head) pit flow r ≡ Ok t
      → (due : CertificateLine) × (head_line graph lists head r ≡ Ok due) × (state due pit flow ≡ t)
  unfolding step_at
  step_back head r t e =
      let a = passed (head_line graph lists head r) (λ due. passing (state due pit flow)) t e in
      (a.value, a.here, same_value (state a.value pit flow) t a.behind)

  no_end : (head : HeadLine) → reading (at_head head) [] ≡ Ok c → ⊥
  unfolding read_from end_at
  no_end head e = cc

  head_back : (head : HeadLine) (rows : List Row) → reading (at_head head) rows ≡ Ok c → LineFound head rows
  head_back head [] e = absurd (no_end head e)
  head_back head (r ∷ rows) e =
      let a = read_back (step graph lists) (end count) (at_head head) r rows c e in
      let b = step_back head r a.0 a.1 in
      record { line = r; rest = rows; are = refl; due = b.0; gives = b.1; read = ap (λ (t : State). reading t rows) b.2 ∙ a.2 }

  -- ---- the fixed blocks of a kind

  record KindFound (kind : Kind) (from : ℕ) (ids : List ℕ) (rows : List Row) : Type 0 where
    blocks : List Row
    next : Row
    rest : List Row
    are : rows ≡ blocks ++ next ∷ rest
    spelled : SpellsPitBlocks graph.blocks from blocks ids
    due : CertificateLine
    gives : behind_fixed graph.blocks lists kind next ≡ Ok due
    read : reading (state due pit flow) rest ≡ Ok c

  line_of_block : (kind : Kind) (at from : ℕ) (o : Option ℕ) (r : Row) (due : CertificateLine) → slice_get (list_of lists kind) at ≡ o → head_line graph lists (FixedBlock kind at from) r ≡ Ok due
      → fixed_block_line graph.blocks lists kind at from o r ≡ Ok due
  unfolding head_line
  line_of_block kind at from o r due is e = ap (λ (x : Option ℕ). fixed_block_line graph.blocks lists kind at from x r) (sym is) ∙ e

  behind_last : (kind : Kind) (at from : ℕ) (r : Row) (due : CertificateLine) → fixed_block_line graph.blocks lists kind at from None r ≡ Ok due → behind_fixed graph.blocks lists kind r ≡ Ok due
  unfolding fixed_block_line
  behind_last kind at from r due e = e

  kind_found : (kind : Kind) (front ids : List ℕ) (from : ℕ) (rows : List Row) → list_of lists kind ≡ front ++ ids
      → reading (at_head (FixedBlock kind (length front) from)) rows ≡ Ok c → KindFound kind from ids rows
  kind_found kind front [] from rows is e =
      let a = head_back (FixedBlock kind (length front) from) rows e in
      let last : slice_get (list_of lists kind) (length front) ≡ None =
      ap (λ (xs : List ℕ). slice_get xs (length front)) (is ∙ append-nil front) ∙ slice_get_past front (length front) (omega arith) in
      record {
        blocks = [];
        next = a.line;
        rest = a.rest;
        are = a.are;
        spelled = tt;
        due = a.due;
        gives = behind_last kind (length front) from a.line a.due (line_of_block kind (length front) from None a.line a.due last a.gives);
        read = a.read;
      }
  kind_found kind front (id ∷ ids) from rows is e =
      let a = head_back (FixedBlock kind (length front) from) rows e in
      let here : slice_get (list_of lists kind) (length front) ≡ Some id = ap (λ (xs : List ℕ). slice_get xs (length front)) is ∙ next_of front ids id in
      let b = fixed_block_found graph.blocks lists kind (length front) from id a.line a.due (line_of_block kind (length front) from (Some id) a.line a.due here a.gives) in
      let size : length (front ++ id ∷ []) ≡ length front + 1 = length_push front id in
      let f = kind_found kind (front ++ id ∷ []) ids (id + 1) a.rest (is ∙ sym (append_assoc front (id ∷ []) ids))
      (ap (λ (k : ℕ). reading (at_head (FixedBlock kind k (id + 1))) a.rest) size ∙ ap (λ (due : CertificateLine). reading (state due pit flow) a.rest) b.1 ∙ a.read) in
      record {
        blocks = a.line ∷ f.blocks;
        next = f.next;
        rest = f.rest;
        are = a.are ∙ ap (λ (xs : List Row). a.line ∷ xs) f.are;
        spelled = (b.0, f.spelled);
        due = f.due;
        gives = f.gives;
        read = f.read;
      }

  -- ---- the lines behind the title

  -- how many blocks of the pit follow
  pub record InsideFound (line : Row) (rest : List Row) : Type 0 where
    pub many : ℕ
    pub names : SpellsNumber (codes "IN:") many line
    pub few : many ≤ graph.blocks
    pub read : reading (state (Block many 0) pit flow) rest ≡ Ok c

  inside_back : (line : Row) (rest : List Row) (due : CertificateLine) → behind_fixed graph.blocks lists Barred line ≡ Ok due → reading (state due pit flow) rest ≡ Ok c → InsideFound line rest
  inside_back line rest due e read =
      let f = inside_found graph.blocks line due e in
      record { many = f.0; names = f.1; few = f.2; read = ap (λ (d : CertificateLine). reading (state d pit flow) rest) f.3 ∙ read }

  -- the lines of the fixed blocks, and the line behind them
  pub record FixedFound (title : Row) (rows : List Row) : Type 0 where
    pub fixed : List Row
    pub line : Row
    pub rest : List Row
    pub are : rows ≡ fixed ++ line ∷ rest
    pub format : SpellsFormat graph.blocks lists title fixed
    pub inside : InsideFound line rest

  count_back : (kind : Kind) (r : Row) (due : CertificateLine) → head_line graph lists (FixedCount kind) r ≡ Ok due
      → SpellsNumber (kind_word kind) (length (list_of lists kind)) r × (length (list_of lists kind) ≤ graph.blocks) × (Head (FixedBlock kind 0 0) ≡ due)
  unfolding head_line
  count_back kind r due e = fixed_count_found graph.blocks lists kind r due e

  plain_back : (r : Row) (due : CertificateLine) → head_line graph lists Count r ≡ Ok due → behind_fixed graph.blocks lists Barred r ≡ Ok due
  unfolding head_line
  plain_back r due e = e

  fixed_found : (names_fixed : Bool) (title : Row) (rows : List Row) → IsFormat lists title names_fixed
      → reading (at_head (if names_fixed then FixedCount Forced else Count)) rows ≡ Ok c → FixedFound title rows
  fixed_found false title rows t e =
      let a = head_back Count rows e in
      record { fixed = []; line = a.line; rest = a.rest; are = a.are; format = without_fixed t.0 t.1 refl; inside = inside_back a.line a.rest a.due (plain_back a.line a.due a.gives) a.read }
  fixed_found true title rows t e =
      let a = head_back (FixedCount Forced) rows e in
      let b = count_back Forced a.line a.due a.gives in
      let f = kind_found Forced [] lists.forced 0 a.rest refl (ap (λ (due : CertificateLine). reading (state due pit flow) a.rest) b.2 ∙ a.read) in
      let g = fixed_count_found graph.blocks lists Barred f.next f.due f.gives in
      let h = kind_found Barred [] lists.barred 0 f.rest refl (ap (λ (due : CertificateLine). reading (state due pit flow) f.rest) g.2 ∙ f.read) in
      let forced : List Row = a.line ∷ f.blocks in
      let barred : List Row = f.next ∷ h.blocks in
      record {
        fixed = forced ++ barred;
        line = h.next;
        rest = h.rest;
        are = a.are ∙ ap (λ (xs : List Row). a.line ∷ xs) (f.are ∙ ap (λ (xs : List Row). f.blocks ++ f.next ∷ xs) h.are) ∙ sym (append_assoc forced barred (h.next ∷ h.rest));
        format = with_fixed t forced barred refl
            (record { count = a.line; blocks = f.blocks; are = refl; names = b.0; few = b.1; spelled = f.spelled })
            (record { count = f.next; blocks = h.blocks; are = refl; names = g.0; few = g.1; spelled = h.spelled });
        inside = inside_back h.next h.rest h.due h.gives h.read;
      }

  -- ---- the whole head

  pub record HeadFound (rows : List Row) : Type 0 where
    pub title : Row
    pub blocks : Row
    pub arcs : Row
    pub behind : List Row
    pub are : rows ≡ title ∷ blocks ∷ arcs ∷ behind
    pub names_blocks : SpellsNumber (codes "BLOCKS:") graph.blocks blocks
    pub names_arcs : SpellsNumber (codes "ARCS:") (length graph.pairs) arcs
    pub fixed : FixedFound title behind

  title_back : (r : Row) (due : CertificateLine) → head_line graph lists Title r ≡ Ok due → (names_fixed : Bool) × IsFormat lists r names_fixed × (Head (Blocks names_fixed) ≡ due)
  unfolding head_line
  title_back r due e =
      let a = passed (format_line lists r) (λ names_fixed. passing (Head (Blocks names_fixed))) due e in
      (a.value, format_found lists r a.value a.here, same_value (Head (Blocks a.value)) due a.behind)

  blocks_back : (names_fixed : Bool) (r : Row) (due : CertificateLine) → head_line graph lists (Blocks names_fixed) r ≡ Ok due → SpellsNumber (codes "BLOCKS:") graph.blocks r × (Head (Arcs names_fixed) ≡ due)
  unfolding head_line
  blocks_back names_fixed r due e =
      let a = passed (same_line Certificate (codes "BLOCKS:") graph.blocks r) (λ same. passing (Head (Arcs names_fixed))) due e in
      (same_found Certificate (codes "BLOCKS:") graph.blocks r a.value a.here, same_value (Head (Arcs names_fixed)) due a.behind)

  arcs_back : (names_fixed : Bool) (r : Row) (due : CertificateLine) → head_line graph lists (Arcs names_fixed) r ≡ Ok due
      → SpellsNumber (codes "ARCS:") (length graph.pairs) r × (Head (if names_fixed then FixedCount Forced else Count) ≡ due)
  unfolding head_line
  arcs_back names_fixed r due e =
      let a = passed (same_line Certificate (codes "ARCS:") (length graph.pairs) r) (λ same. passing (Head (if names_fixed then FixedCount Forced else Count))) due e in
      (same_found Certificate (codes "ARCS:") (length graph.pairs) r a.value a.here, same_value (Head (if names_fixed then FixedCount Forced else Count)) due a.behind)

  pub head_found : (rows : List Row) → reading (at_head Title) rows ≡ Ok c → HeadFound rows
  head_found rows e =
      let a = head_back Title rows e in
      let t = title_back a.line a.due a.gives in
      let b = head_back (Blocks t.0) a.rest (ap (λ (due : CertificateLine). reading (state due pit flow) a.rest) t.2 ∙ a.read) in
      let u = blocks_back t.0 b.line b.due b.gives in
      let d = head_back (Arcs t.0) b.rest (ap (λ (due : CertificateLine). reading (state due pit flow) b.rest) u.1 ∙ b.read) in
      let v = arcs_back t.0 d.line d.due d.gives in
      record {
        title = a.line;
        blocks = b.line;
        arcs = d.line;
        behind = d.rest;
        are = a.are ∙ ap (λ (xs : List Row). a.line ∷ xs) (b.are ∙ ap (λ (xs : List Row). b.line ∷ xs) d.are);
        names_blocks = u.0;
        names_arcs = v.0;
        fixed = fixed_found t.0 a.line d.rest t.1 (ap (λ (due : CertificateLine). reading (state due pit flow) d.rest) v.1 ∙ d.read);
      }
