-- What is found on the instance that is searched, by the numbers of the whole mine.
use Rattle.std.specs.Global.{Vec}
use Rattle.std.proofs.Common.{◌≡◌, ℕ, ◌<◌, ◌||◌, ◌≤◌, Bool, true, not, refl, sym, ap, subst, ◌∙◌, List, [], ◌∷◌, get_or, length}
use Rattle.std.specs.Prelude.{IsTrue, Option, None, Some}
use Rattle.std.specs.List.{All}
use Rattle.std.proofs.lemmas.Bool.{eq-eqb, or_left, or_right}
use Rattle.pit_model.specs.declared.direction.Direction.{Direction}
use Rattle.pit_model.specs.declared.direction.Direction.TheVariants.{Least, Greatest}
use Rattle.pit_model.specs.Mine.{Instance, members}
use Rattle.pit_model.specs.Pit.{IsPit, ListsPit, no_blocks_fixed}
use Rattle.pit_model.specs.Direction.{IsSearched, IsDual}
use Rattle.pit_model.specs.Fixed.{FixedLists, IsNothingFixed, IsRestOf, all_open, some_fixed, fixed_of, graph_of_mine, is_among}
use Rattle.pit_model.proofs.Fixed.{rest_gives_pit}
use Rattle.pit_model.proofs.Members.{members_below, members_each, members_few}
use Rattle.pit_model.proofs.Dual.{complement_is_greatest}
use Rattle.mine_graph.specs.FixedBlocks.{FixedBlocks, forced_closure, barred_closure, no_lists}
use Rattle.merging.specs.Reduced.{IsRestIn, ListsJoined}
use Rattle.merging.specs.declared.reduced_mine.ReducedMine.{ReducedMine}
use Rattle.pit_search.specs.Searched.{IsOpenPart, IsSearchOf}
use Rattle.pit_search.specs.declared.searched.Searched.{Searched}

-- ---- the rest
pub none_named : (lists : FixedLists) → lists ≡ no_lists → IsNothingFixed (fixed_of lists)
none_named lists none = record { none_forced = λ u. ap (λ (l : FixedLists). is_among l.forced u) none; none_barred = λ u. ap (λ (l : FixedLists). is_among l.barred u) none }

pub none_is_rest : (mine : Instance) (lists : FixedLists) → lists ≡ no_lists → IsRestOf mine (fixed_of lists) mine
none_is_rest mine lists none = all_open (none_named lists none) refl

first_among : (x : ℕ) (xs : List ℕ) → is_among (x ∷ xs) x ≡ true
first_among x xs = or_left _ _ (eq-eqb x x refl)

-- a block of a list that is not empty
pub named_block : (forced barred : List ℕ) → (record { forced = forced; barred = barred } ≡ no_lists → ⊥) → (u : ℕ) × IsTrue (is_among forced u || is_among barred u)
named_block (x ∷ xs) barred some = (x, or_left _ _ (first_among x xs))
named_block [] (y ∷ ys) some = (y, or_right (is_among [] y) _ (first_among y ys))
named_block [] [] some = absurd (some refl)

pub is_rest_of : (mine : Instance) (fixed : FixedBlocks) (rest : ReducedMine) → (fixed.lists ≡ no_lists → ⊥) → IsRestIn mine fixed rest → IsRestOf mine (fixed_of fixed.lists) rest.mine
is_rest_of mine fixed rest some is =
    let named = named_block fixed.lists.forced fixed.lists.barred some in
    some_fixed named.0 named.1 (forced_closure fixed) (barred_closure fixed) rest.blocks.items (graph_of_mine rest.mine) is.is_rest is.mine_is

-- ---- pits
pub plain_pit : (direction : Direction) (mine : Instance) (lists : FixedLists) (pit : List ℕ) → lists ≡ no_lists → ListsPit direction mine no_blocks_fixed pit → ListsPit direction mine (fixed_of lists) pit
plain_pit direction mine lists pit none shown = subst (λ (l : FixedLists). ListsPit direction mine (fixed_of l) pit) (sym none) shown

pub joined_pit : (direction : Direction) (mine : Instance) (fixed : FixedBlocks) (rest : ReducedMine) (found pit : List ℕ) → IsRestIn mine fixed rest → ListsPit direction rest.mine no_blocks_fixed found
    → ((set : ℕ → Bool) → found ≡ members (length rest.blocks.items) set → ListsJoined mine.blocks fixed rest.blocks.items set pit) → ListsPit direction mine (fixed_of fixed.lists) pit
joined_pit direction mine fixed rest found pit is shown joined =
    let list = joined shown.set (shown.listed ∙ ap (λ n. members n shown.set) is.is_rest.is_part.count) in
    let here = subst (λ (m : Instance). IsPit direction m no_blocks_fixed shown.set) is.mine_is shown.is_pit in
    record {
      set = list.after;
      listed = list.listed;
      is_pit = rest_gives_pit direction mine (fixed_of fixed.lists) (forced_closure fixed) (barred_closure fixed) rest.blocks.items (graph_of_mine rest.mine) shown.set list.after is.is_rest here list.joined;
    }

-- the blocks outside the pit of the dual instance
pub turned_pit : (mine other : Instance) (found list : List ℕ) → IsDual mine other → ListsPit Least other no_blocks_fixed found
    → ((set : ℕ → Bool) → found ≡ members mine.blocks set → list ≡ members mine.blocks (λ u. not (set u))) → ListsPit Greatest mine no_blocks_fixed list
turned_pit mine other found list is shown outside = record {
  set = λ u. not (shown.set u);
  listed = outside shown.set (shown.listed ∙ ap (λ n. members n shown.set) is.reversed.same_blocks);
  is_pit = complement_is_greatest mine other shown.set is shown.is_pit;
}

-- ---- what is searched
pub rest_is : (mine : Instance) (fixed : FixedBlocks) (blocks : Option (Vec ℕ)) (rest : Instance) → IsOpenPart mine fixed blocks rest → IsRestOf mine (fixed_of fixed.lists) rest
rest_is mine fixed None rest is = subst (λ (m : Instance). IsRestOf mine (fixed_of fixed.lists) m) (sym is.1) (none_is_rest mine fixed.lists is.0)
rest_is mine fixed (Some blocks) rest is = is_rest_of mine fixed (record { blocks = blocks; mine = rest }) is.0 is.1

pub is_searched : (direction : Direction) (mine : Instance) (fixed : FixedBlocks) (searched : Searched) → IsSearchOf direction mine fixed searched → IsSearched direction mine (fixed_of fixed.lists) searched.instance
is_searched Least mine fixed searched is = subst (λ (m : Instance). IsRestOf mine (fixed_of fixed.lists) m) (sym is.faced) (rest_is mine fixed searched.blocks is.rest is.open_part)
is_searched Greatest mine fixed searched is = (is.rest, rest_is mine fixed searched.blocks is.rest is.open_part, is.faced.0, is.faced.1)

-- the blocks of a set lie below its bound
pub inside_listed : (n : ℕ) (found : List ℕ) (set : ℕ → Bool) → found ≡ members n set → (i : ℕ) → i < length found → get_or found i 0 < n
inside_listed n found set listed i l =
    let each = (members_each n set i (subst (λ (xs : List ℕ). i < length xs) listed l)).0 in
    subst (λ v. v < n) (sym (ap (λ (xs : List ℕ). get_or xs i 0) listed)) each

-- and so the values of each of them can be summed
pub listed_few : (n : ℕ) (pit : List ℕ) (set : ℕ → Bool) → pit ≡ members n set → length pit ≤ n
listed_few n pit set listed = subst (λ xs. length xs ≤ n) (sym listed) (members_few n set)

pub listed_below : (n : ℕ) (pit : List ℕ) (set : ℕ → Bool) → pit ≡ members n set → All (λ u. u < n) pit
listed_below n pit set listed = subst (λ xs. All (λ u. u < n) xs) (sym listed) (members_below n set)

-- what was found of the rest lies in it
pub found_inside : (mine : Instance) (fixed : FixedBlocks) (rest : ReducedMine) (found : List ℕ) (set : ℕ → Bool) → IsRestIn mine fixed rest → found ≡ members rest.mine.blocks set
    → (i : ℕ) → i < length found → get_or found i 0 < length rest.blocks.items
found_inside mine fixed rest found set is listed =
    inside_listed (length rest.blocks.items) found set (listed ∙ ap (λ n. members n set) is.is_rest.is_part.count)
