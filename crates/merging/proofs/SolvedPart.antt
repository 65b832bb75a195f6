-- A part of an instance as an instance of its own.
use Rattle.std.proofs.Common.{◌≡◌, ℕ, ◌<◌, Bool, eqb, ap, sym, ◌∙◌, subst, arith, List, get_or, length}
use Rattle.pit_model.specs.Graph.{Graph}
use Rattle.std.proofs.lemmas.List.{get_or_default}
use Rattle.pit_model.specs.Mine.{Instance}
use Rattle.pit_model.specs.Part.{IsPart}
use Rattle.mine_graph.specs.declared.part.Part.{Part}
use Rattle.mine_graph.specs.Parts.{AreParts}
use Rattle.pit_model.proofs.Members.{members_each, members_rise}
use Rattle.std.specs.List.{All}
use Rattle.merging.specs.Parts.{IsPartOf, graph_of_instance}

pub same_graph : (g : Graph) (blocks : ℕ) (pairs : List (ℕ × ℕ)) → blocks ≡ g.blocks → pairs ≡ g.pairs → record { blocks = blocks; pairs = pairs } ≡ g
same_graph g blocks pairs b p = ap (λ x. record { blocks = x; pairs = pairs }) b ∙ ap (λ y. record { blocks = g.blocks; pairs = y }) p

-- each of the parts is one
pub parts_of : (mine : Instance) (whole : Graph) (parts : List Part) → whole ≡ graph_of_instance mine → AreParts whole parts → All (IsPartOf mine) parts
parts_of mine whole parts is fall i d l =
    let here : get_or parts i (get_or parts i d) ≡ get_or parts i d = get_or_default parts i (get_or parts i d) d l in
    let part = fall.each i (get_or parts i d) (l, here) in
    ((λ u. eqb (fall.label u) i), subst (λ g. IsPart g (λ u. eqb (fall.label u) i) ((get_or parts i d).blocks.items) ((get_or parts i d).graph)) is part)

-- what a part on whose blocks a list stands says of that list
module _ (whole own : Graph) (set : ℕ → Bool) (blocks : List ℕ) (is : IsPart whole set blocks own) where
  pub blocks_below : (u : ℕ) → u < length blocks → get_or blocks u 0 < whole.blocks
  blocks_below u l =
      let each = members_each whole.blocks set u (subst (λ (xs : List ℕ). u < length xs) is.blocks_are l) in
      let same = ap (λ xs. get_or xs u 0) is.blocks_are in
      let below = each.0 in
      omega arith

  pub blocks_apart : (u v : ℕ) → u < v → v < length blocks → get_or blocks u 0 < get_or blocks v 0
  blocks_apart = subst (λ (xs : List ℕ). (u v : ℕ) → u < v → v < length xs → get_or xs u 0 < get_or xs v 0) (sym is.blocks_are) (members_rise whole.blocks set)

-- the same part, where its graphs and its blocks were taken from memory
pub same_part : (mine own : Instance) (set : ℕ → Bool) (blocks : List ℕ) (whole_now own_now : Graph) (blocks_now : List ℕ)
    → whole_now ≡ graph_of_instance mine → own_now ≡ graph_of_instance own → blocks_now ≡ blocks → IsPart (graph_of_instance mine) set blocks (graph_of_instance own) → IsPart whole_now set blocks_now own_now
same_part mine own set blocks whole_now own_now blocks_now w o b is =
    subst (λ g. IsPart g set blocks_now own_now) (sym w)
    (subst (λ g. IsPart (graph_of_instance mine) set blocks_now g) (sym o)
    (subst (λ xs. IsPart (graph_of_instance mine) set xs (graph_of_instance own)) (sym b) is))

pub graph_is : (g : Graph) (mine : Instance) → g.blocks ≡ mine.blocks → g.pairs ≡ mine.pairs → g ≡ graph_of_instance mine
graph_is g mine b p = sym (same_graph g mine.blocks mine.pairs (sym b) (sym p))
