-- A block lies in one part: what pairs join to it lies in each set that they do not leave. The rest of a factor is one, since the
-- shell before it is.
use Rattle.std.proofs.Common.{◌≡◌, ℕ, zero, suc, ◌<◌, not, Bool, true, sym, ap, subst, ◌∙◌, arith, ⊎_elim, List, length}
use Rattle.std.specs.Prelude.{IsTrue, ℤ, pos}
use Rattle.std.proofs.lemmas.List.{ext_get_or}
use Rattle.std.proofs.lemmas.Bool.{false≢true}
use Rattle.pit_model.specs.declared.direction.Direction.{Direction}
use Rattle.pit_model.specs.declared.direction.Direction.TheVariants.{Least, Greatest}
use Rattle.pit_model.specs.Graph.{AreSamePairs, Graph, IsGraph, first_of, second_of}
use Rattle.pit_model.specs.Mine.{Instance, instance_of}
use Rattle.pit_model.specs.Fixed.{transposed}
use Rattle.pit_model.specs.Part.{AreConnected, AreNeighbours, IsClass}
use Rattle.pit_model.specs.Deposit.{Deposit, graph_of, mine_at, values_at}
use Rattle.pit_model.specs.Shells.{IsShellBefore, factor_of}
use Rattle.pit_model.specs.FirstRun.{HasMerger, HasNoMerger, first_run}
use Rattle.pit_model.specs.OneEnd.{BudgetEndsOneWay, PartsAreOne, SearchedIsOne, ShellRestIsOne}
use Rattle.pit_model.specs.Pit.{no_blocks_fixed}
use Rattle.pit_model.specs.Direction.{IsSearched, IsDual}
use Rattle.pit_model.proofs.OneOrder.{pairs_have_one_order}
use Rattle.pit_model.proofs.Members.{members_ext}
use Rattle.pit_model.proofs.OneRest.{one_part, rest_is_one}
use Rattle.pit_model.proofs.Uniqueness.{pit_is_one, same_truth}

-- a set that no pair leaves holds both of two blocks that are joined, or neither
joined : (graph : Graph) (set : ℕ → Bool) → ((k : ℕ) → k < length graph.pairs → set (first_of graph.pairs k) ≡ set (second_of graph.pairs k)) → (u v : ℕ) → AreNeighbours graph.pairs u v → set u ≡ set v
joined graph set together u v n =
    ⊎_elim
    (λ e. ap set (sym e.0) ∙ together n.0 n.1 ∙ ap set e.1)
    (λ e. ap set (sym e.1) ∙ sym (together n.0 n.1) ∙ ap set e.0)
    n.2

connected : (graph : Graph) (set : ℕ → Bool) → ((k : ℕ) → k < length graph.pairs → set (first_of graph.pairs k) ≡ set (second_of graph.pairs k)) → (steps u v : ℕ) → AreConnected graph.pairs steps u v → set u ≡ set v
connected graph set together zero u v c = ap set c
connected graph set together (suc steps) u v c = connected graph set together steps u c.0 c.1 ∙ joined graph set together c.0 v c.2

-- one part lies within another with which it has a block in common
within : (graph : Graph) (set other : ℕ → Bool) (root second u : ℕ) → IsClass graph set root → IsClass graph other second → u < graph.blocks → IsTrue (set u) → IsTrue (other u)
    → (v : ℕ) → v < graph.blocks → IsTrue (set v) → IsTrue (other v)
within graph set other root second u is is_other l here there v below h =
    let to_u = is.connected u l here in
    let to_v = is.connected v below h in
    let at_root : other root ≡ true = connected graph other is_other.together to_u.0 root u to_u.1 ∙ there in
    sym (connected graph other is_other.together to_v.0 root v to_v.1) ∙ at_root

pub parts_are_one : PartsAreOne
parts_are_one graph set other root second u is is_other l here there =
    let forth = within graph set other root second u is is_other l here there in
    let back = within graph other set second root u is_other is l there here in
    let up = is_other.least root is.inside (forth root is.inside is.member) in
    let down = is.least second is_other.inside (back second is_other.inside is_other.member) in
    (omega arith, λ v below. same_truth (set v) (other v) (forth v below) (back v below))

-- the shell before is one set
before_is_one : (direction : Direction) (deposit : Deposit) (factors : List ℕ) (k : ℕ) (before other : ℕ → Bool) → IsShellBefore direction deposit factors k before
    → IsShellBefore direction deposit factors k other → (u : ℕ) → u < deposit.blocks → before u ≡ other u
before_is_one direction deposit factors zero before other is is_other u l = is u ∙ sym (is_other u)
before_is_one direction deposit factors (suc k) before other is is_other u l = (pit_is_one direction (mine_at deposit (factor_of factors k)) no_blocks_fixed before other is is_other).blocks u l

pub shell_rest_is_one : ShellRestIsOne
shell_rest_is_one direction deposit factors k rest other is is_other =
    let same = before_is_one direction deposit factors k is.before is_other.before is.is_before is_other.is_before in
    let factor = factor_of factors k in
    let blocks : is.blocks ≡ is_other.blocks =
    is.outside.is_part.blocks_are ∙ members_ext deposit.blocks (λ u. not (is.before u)) (λ u. not (is_other.before u)) (λ u l. ap not (same u l)) ∙ sym is_other.outside.is_part.blocks_are in
    let one = one_part (graph_of deposit) is.part is_other.part (λ u. not (is.before u)) (λ u. not (is_other.before u)) is.blocks is_other.blocks blocks
    is.outside.is_part is.outside.is_graph is_other.outside.is_part is_other.outside.is_graph in
    is.rest_is
    ∙ ap (λ (n : ℕ). instance_of n (values_at deposit factor is.blocks) is.part.pairs) one.0
    ∙ ap (λ (xs : List ℕ). instance_of is_other.part.blocks (values_at deposit factor xs) is.part.pairs) blocks
    ∙ ap (λ (ps : List (ℕ × ℕ)). instance_of is_other.part.blocks (values_at deposit factor is_other.blocks) ps) one.1
    ∙ sym is_other.rest_is

not_both : (rest other : Instance) (budget : ℕ) → rest ≡ other → HasMerger rest (first_run rest budget) → HasNoMerger other (first_run other budget) → ⊥
not_both rest other budget same left none =
    let there : HasMerger other (first_run other budget) = subst (λ mine. HasMerger mine (first_run mine budget)) same left in
    false≢true (sym (none there.0) ∙ there.1)

same_through : (ps qs rs : List (ℕ × ℕ)) → AreSamePairs ps qs → AreSamePairs ps rs → AreSamePairs qs rs
same_through ps qs rs q r = record {
  count = sym q.count ∙ r.count;
  forth = λ k l. let at = q.back k l in let there = r.forth at.0 at.1 in (there.0, there.1, there.2 ∙ at.2);
  back = λ k l. let at = r.back k l in let there = q.forth at.0 at.1 in (there.0, there.1, there.2 ∙ at.2);
}

-- an instance has one dual
dual_is_one : (mine other second : Instance) → IsDual mine other → IsDual mine second → IsGraph other.blocks other.pairs → IsGraph second.blocks second.pairs → other ≡ second
dual_is_one mine other second is is_second graph second_graph =
    let blocks : other.blocks ≡ second.blocks = is.reversed.same_blocks ∙ sym is_second.reversed.same_blocks in
    let mine_blocks : other.blocks ≡ mine.blocks = is.reversed.same_blocks in
    let count : length other.values ≡ length second.values = is.counted ∙ blocks ∙ sym is_second.counted in
    let values : other.values ≡ second.values = ext_get_or (pos 0) other.values second.values count (λ u l.
    let below : u < mine.blocks = subst (λ n. u < n) (is.counted ∙ mine_blocks) l in
    is.negated u below ∙ sym (is_second.negated u below)) in
    let pairs : other.pairs ≡ second.pairs = pairs_have_one_order other.pairs second.pairs (same_through (transposed mine.pairs) other.pairs second.pairs is.reversed.pairs_are is_second.reversed.pairs_are) graph.rising second_graph.rising in
    ap (λ n. instance_of n other.values other.pairs) blocks
    ∙ ap (λ (vs : List ℤ). instance_of second.blocks vs other.pairs) values
    ∙ ap (λ (ps : List (ℕ × ℕ)). instance_of second.blocks second.values ps) pairs

pub searched_is_one : SearchedIsOne
searched_is_one Least mine fixed searched other is is_other = rest_is_one mine fixed searched other is is_other
searched_is_one Greatest mine fixed searched other is is_other =
    let same : is.0 ≡ is_other.0 = rest_is_one mine fixed is.0 is_other.0 is.1 is_other.1 in
    dual_is_one is_other.0 searched other (subst (λ (rest : Instance). IsDual rest searched) same is.2) is_other.2 is.3 is_other.3

pub budget_ends_one_way : BudgetEndsOneWay
budget_ends_one_way = record {
  of_mine = λ direction mine fixed searched other budget is is_other left none.
      not_both searched other budget (searched_is_one direction mine fixed searched other is is_other) left none;
  of_factor = λ direction deposit factors k rest second searched other budget is is_second searched_is other_is left none.
      let same = shell_rest_is_one direction deposit factors k rest second is is_second in
      let here = subst (λ (m : Instance). IsSearched direction m no_blocks_fixed searched) same searched_is in
      not_both searched other budget (searched_is_one direction second no_blocks_fixed searched other here other_is) left none;
}
