-- Format 2: its title and the counts of the graph, and both lists, one after the other.
use Rattle.std.proofs.Common.{◌≡◌, ◌∙◌, ◌++◌, Bool, false, List, ℕ, length, ap, sym}
use Rattle.std.specs.Prelude.{codes, if◌then◌else◌}
use Rattle.report.proofs.PutLemmas.{puts_then, puts_as}
use Rattle.certificate.specs.declared.due.Kind.TheVariants.{Forced, Barred}
use Rattle.certificate.specs.CertificateLines.{fixes_nothing, kind_word}
use Rattle.certificate.specs.CertificateText.{graph_head, list_text}
use Rattle.certificate.proofs.writer.put_head.Goals as goal

pub returns-clause-puts : goal.returns-clause-puts
returns-clause-puts g c =
    let graph = c.args.graph.now in
    let lists = c.args.fixed.now.lists in
    let some : fixes_nothing lists ≡ false = sym c.fixes_nothing.ensures ∙ c.if-fixes_nothing.false in
    let forced : list_text c.word_of.result.now c.forced.result.now ≡ list_text (kind_word Forced) lists.forced =
    ap (λ (word : List ℕ). list_text word c.forced.result.now) c.word_of.ensures ∙ ap (list_text (kind_word Forced)) c.forced.ensures in
    let barred : list_text c.word_of-2.result.now c.barred.result.now ≡ list_text (kind_word Barred) lists.barred =
    ap (λ (word : List ℕ). list_text word c.barred.result.now) c.word_of-2.ensures ∙ ap (list_text (kind_word Barred)) c.barred.ensures in
    let two = puts_then _ _ _ _ _ _ _ _ c.put_graph_head-2.ensures.puts (puts_as forced c.put_list.ensures.puts) in
    let three = puts_then _ _ _ _ _ _ _ _ two (puts_as barred c.put_list-2.ensures.puts) in
    let first : List ℕ = graph_head (codes "1") graph.blocks (length graph.pairs) in
    let second : List ℕ = graph_head (codes "2") graph.blocks (length graph.pairs) ++ list_text (kind_word Forced) lists.forced ++ list_text (kind_word Barred) lists.barred in
    puts_as (ap (λ (none : Bool). if none then first else second) (sym some)) three
