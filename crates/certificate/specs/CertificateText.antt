-- The text of a certificate.
use Rattle.std.specs.Prelude.{ℕ, ℤ, pos, int_lt, unsigned_abs, if◌then◌else◌, List, ◌++◌, length, codes, decimal}
use Rattle.std.specs.List.{flat_map}
use Rattle.pit_model.specs.Fixed.{FixedLists}
use Rattle.pit_model.specs.Graph.{Graph, first_of, second_of}
use Rattle.pit_model.specs.Mine.{members}
use Rattle.pit_model.specs.PitText.{line_of}
use Rattle.optimality.specs.Check.{amount}
use Rattle.certificate.specs.CertificateLines.{fixes_nothing, kind_word}
use Rattle.certificate.specs.declared.due.Kind.TheVariants.{Forced, Barred}

-- the arcs that carry something, rising
abbrev pub carrying : List ℤ → ℕ → List ℕ
carrying flow m = members m (λ k. int_lt (pos 0) (amount flow k))

-- the line of an arc: the block that needs, the block that is needed, and the amount
unfoldable pub flow_line : List (ℕ × ℕ) → List ℤ → ℕ → List ℕ
flow_line pairs flow k =
    decimal (first_of pairs k) ++ codes " " ++ decimal (second_of pairs k) ++ codes " " ++ decimal (unsigned_abs (amount flow k)) ++ codes "\n"

-- the title and the counts of the graph
unfoldable pub graph_head : List ℕ → ℕ → ℕ → List ℕ
graph_head format n m = codes "PITCERT " ++ format ++ codes "\nBLOCKS: " ++ decimal n ++ codes "\nARCS: " ++ decimal m ++ codes "\n"

-- how many blocks are in a list, behind this word, and a line for each
unfoldable pub list_text : List ℕ → List ℕ → List ℕ
list_text word ids = word ++ codes " " ++ decimal (length ids) ++ codes "\n" ++ flat_map line_of ids

-- format 2 where a block is fixed, with both lists, and else format 1
abbrev pub certificate_head : Graph → FixedLists → List ℕ
certificate_head graph lists =
    if fixes_nothing lists then graph_head (codes "1") graph.blocks (length graph.pairs)
    else (graph_head (codes "2") graph.blocks (length graph.pairs) ++ list_text (kind_word Forced) lists.forced ++ list_text (kind_word Barred) lists.barred)

unfoldable pub flow_head : ℕ → List ℕ
flow_head count = codes "FLOW: " ++ decimal count ++ codes "\n"

abbrev pub certificate_text : Graph → FixedLists → List ℕ → List ℤ → List ℕ
certificate_text graph lists pit flow =
    certificate_head graph lists ++ list_text (codes "IN:") pit
    ++ flow_head (length (carrying flow (length graph.pairs))) ++ flat_map (flow_line graph.pairs flow) (carrying flow (length graph.pairs))
