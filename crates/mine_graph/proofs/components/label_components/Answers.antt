-- A block without a component begins the next one; any other one is passed over.
use Rattle.std.proofs.Common.{◌≡◌, ℕ, ◌+◌, ◌-◌, ◌<◌, arith, ap, drop, false, get_or, length, sym, take, ◌∙◌, List}
use Rattle.std.proofs.lemmas.List.{get_or-drop, get_or-take, get_or_default, length-drop, length-take-le}
use Rattle.mine_graph.specs.BreadthFirst.{is_visited, queued}
use Rattle.mine_graph.proofs.Labelling.{class_more, class_passed, classes_had, AreLabelled}
use Rattle.mine_graph.proofs.components.label_components.Goals as goal
use Rattle.mine_graph.proofs.components.label_components.Goals.{then-not-index, else-not-index}

pub loop-root-preserved : goal.loop-root-preserved
loop-root-preserved c =
    let graph = c.args.predecessors.now in
    let was = c.loop-root.invariant in
    let search = c.loop-root.search in
    let root : ℕ = c.loop-root.root in
    let inside : root < graph.blocks = omega (arith, c.loop-root-test.true, was.classes.size) in
    let below : root < length search.marks.items = omega (arith, inside, was.have.size, was.classes.size) in
    let here : is_visited search root ≡ c.index.result.now = sym (c.index.ensures ∙ get_or_default search.marks.items root c.index.result.now false below) in
    elim c.if-not-index.branch [
      | then-not-index w ↦
          let spread = w.visit_joined.new.self in
          let queue : List ℕ = w.deref.result.now in
          let takes = w.visit_joined.ensures in
          let row : List ℕ = take (spread.tail - search.tail) (drop search.tail queue) in
          let fits = length-drop search.tail queue in
          let size : length row ≡ spread.tail - search.tail = length-take-le (spread.tail - search.tail) (drop search.tail queue) (omega (arith, fits, takes.trail.room, w.deref.ensures.len)) in
          let at : (x : ℕ) → x < length row → get_or row x 0 ≡ queued spread (search.tail + x) =
          λ x l. get_or-take (spread.tail - search.tail) (drop search.tail queue) x 0 (omega (arith, l, size)) ∙ get_or-drop search.tail queue x 0 ∙ ap (λ q. get_or q (search.tail + x) 0) w.deref.ensures.value in
          let count : search.tail + length row ≡ spread.tail = omega (arith, size, takes.more) in
          let given : AreLabelled row c.loop-root.count c.loop-root.labels w.label_all.new.labels = record { size = w.label_all.ensures.size; given = w.label_all.ensures.given; kept = w.label_all.ensures.kept } in
          let fresh : is_visited search root ≡ false = here ∙ w.if-not-index.true in
          rw (w.labels-is, w.count-is, w.search-is) (record {
            classes = class_more graph c.loop-root.labels c.loop-root.count root c.requires.range was.classes inside search spread was.have fresh takes w.label_all.new.labels row count at given;
            have = classes_had graph c.loop-root.labels c.loop-root.count root c.requires.range was.classes inside search spread was.have fresh takes w.label_all.new.labels row count at given;
          })
      | else-not-index w ↦ rw (w.labels-is, w.count-is, w.search-is) (record {
        classes = class_passed graph c.loop-root.labels c.loop-root.count root was.classes inside
            (λ free. omega (arith, free, was.have.some root (here ∙ w.if-not-index.false), was.classes.few, was.classes.size, inside));
        have = was.have;
      })
    ]
