-- The grammar of a certificate's text, by its lines with fields.
use Rattle.std.specs.Prelude.{◌≡◌, ℕ, ℤ, pos, ◌+◌, ◌^◌, ◌<◌, ◌≤◌, List, [], ◌∷◌, ◌++◌, length, Some, codes}
use Rattle.minelib_reader.specs.Text.{Row, rows_of}
use Rattle.minelib_reader.specs.Number.{whole_of, digits_of}
use Rattle.pit_model.specs.Fixed.{FixedLists}
use Rattle.pit_model.specs.Graph.{Graph, first_of, second_of}
use Rattle.mine_graph.specs.FixedBlocks.{no_lists}
use Rattle.report.specs.HeadLines.{SpellsNumber}
use Rattle.optimality.specs.Check.{amount}
use Rattle.certificate.specs.CertificateLines.{PitAndFlow}

-- the line of a block of n, which is at least from
pub record SpellsPitBlock (n from : ℕ) (r : Row) (id : ℕ) : Type 0 where
  pub field : List ℕ
  pub fields : r.fields ≡ field ∷ []
  pub is_id : whole_of field ≡ Some id
  pub known : id < n
  pub rising : from ≤ id

-- the lines of blocks, rising
abbrev pub SpellsPitBlocks : ℕ → ℕ → List Row → List ℕ → Type 0
SpellsPitBlocks n from [] [] = Unit {0}
SpellsPitBlocks n from [] (id ∷ ids) = ⊥
SpellsPitBlocks n from (r ∷ rows) [] = ⊥
SpellsPitBlocks n from (r ∷ rows) (id ∷ ids) = SpellsPitBlock n from r id × SpellsPitBlocks n (id + 1) rows ids

-- how many blocks follow behind this word, and the lines of these, rising
pub record SpellsList (word : List ℕ) (n : ℕ) (rows : List Row) (ids : List ℕ) : Type 0 where
  pub count : Row
  pub blocks : List Row
  pub are : rows ≡ count ∷ blocks
  pub names : SpellsNumber word (length ids) count
  pub few : length ids ≤ n
  pub spelled : SpellsPitBlocks n 0 blocks ids

-- the title, and the lines of the fixed blocks: format 1 has none, and is lawful where nothing is fixed; format 2 lists them
pub data SpellsFormat (n : ℕ) (lists : FixedLists) (title : Row) (rows : List Row) : Type 0 where
  without_fixed : title.fields ≡ codes "PITCERT" ∷ codes "1" ∷ [] → lists ≡ no_lists → rows ≡ [] → SpellsFormat n lists title rows
  with_fixed : title.fields ≡ codes "PITCERT" ∷ codes "2" ∷ [] → (forced barred : List Row) → rows ≡ forced ++ barred
      → SpellsList (codes "FORCED:") n forced lists.forced → SpellsList (codes "BARRED:") n barred lists.barred → SpellsFormat n lists title rows

-- the line of an arc with its amount: the arc is at least from
pub record SpellsArc (pairs : List (ℕ × ℕ)) (from : ℕ) (r : Row) (arc : ℕ) (x : ℤ) : Type 0 where
  pub needs : List ℕ
  pub needed : List ℕ
  pub number : List ℕ
  pub fields : r.fields ≡ needs ∷ needed ∷ number ∷ []
  pub known : arc < length pairs
  pub needs_is : whole_of needs ≡ Some (first_of pairs arc)
  pub needed_is : whole_of needed ≡ Some (second_of pairs arc)
  pub rising : from ≤ arc
  pub size : ℕ
  pub is_size : digits_of 31 number ≡ Some size
  pub some : 0 < size
  pub within : size ≤ 10 ^ 30
  pub is_amount : x ≡ pos size

-- the lines of arcs, rising; an arc without a line carries nothing
abbrev pub SpellsFlow : List (ℕ × ℕ) → ℕ → List Row → List ℤ → Type 0
SpellsFlow pairs from [] flow = (k : ℕ) → from ≤ k → amount flow k ≡ pos 0
SpellsFlow pairs from (r ∷ rows) flow =
    (arc : ℕ) × SpellsArc pairs from r arc (amount flow arc) × ((k : ℕ) → from ≤ k → k < arc → amount flow k ≡ pos 0)
    × SpellsFlow pairs (arc + 1) rows flow

-- the lines of a certificate of the graph with these fixed blocks
pub record SpellsCertificateRows (graph : Graph) (lists : FixedLists) (rows : List Row) (c : PitAndFlow) : Type 0 where
  pub title : Row
  pub blocks : Row
  pub arcs : Row
  pub fixed : List Row
  pub inside : List Row
  pub carrying : Row
  pub amounts : List Row
  pub are : rows ≡ title ∷ blocks ∷ arcs ∷ (fixed ++ (inside ++ carrying ∷ amounts))
  pub format : SpellsFormat graph.blocks lists title fixed
  pub names_blocks : SpellsNumber (codes "BLOCKS:") graph.blocks blocks
  pub names_arcs : SpellsNumber (codes "ARCS:") (length graph.pairs) arcs
  pub pit : SpellsList (codes "IN:") graph.blocks inside c.pit
  pub names_carrying : SpellsNumber (codes "FLOW:") (length amounts) carrying
  pub few_carrying : length amounts ≤ length graph.pairs
  pub flow : SpellsFlow graph.pairs 0 amounts c.flow
  pub counted : length c.flow ≡ length graph.pairs

-- the text spells this certificate of the graph with these fixed blocks
abbrev pub SpellsCertificate : Graph → FixedLists → List ℕ → PitAndFlow → Type 0
SpellsCertificate graph lists text c = SpellsCertificateRows graph lists (rows_of text) c
