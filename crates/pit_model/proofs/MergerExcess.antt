-- What a merger makes of excesses and parents: what is known of its path, put together.
use Rattle.std.proofs.Common.{◌≡◌, suc, true, false, refl, ◌∙◌, arith, ⊎_elim}
use Rattle.std.specs.Prelude.{ℤ, ◌<ℤ◌, int_lt}
use Rattle.std.proofs.lemmas.Int.{ints}
use Rattle.pit_model.specs.Merger.{carried, merger_path}
use Rattle.pit_model.specs.MergerExcess.{MergerMovesExcess}
use Rattle.pit_model.proofs.Gathered.{is_merge_path}
use Rattle.pit_model.proofs.Merged.{excess_last, excess_off, excess_place, falls, on_path, parent_at, parent_last, parent_past}

below : (x y : ℤ) → x <ℤ y → int_lt x y ≡ true
below x y l = grind (arith, ints)

irreflexive : (x : ℤ) → int_lt x x ≡ false
irreflexive x = grind (arith, ints)

pub merger_moves_excess : MergerMovesExcess
merger_moves_excess mine tree k simple good merger =
    let path = merger_path mine tree k in
    let found = is_merge_path mine tree k simple good merger in
    let last = found.end in
    let mid = found.mid in
    let way = found.way in (
      last,
      record {
        size = way.size;
        begins = refl;
        falls = falls mine tree path last mid simple good way;
        goes_on = λ i l same.
            let keeps : int_lt (carried mine tree path (suc i)) (carried mine tree path i) ≡ false = rw same (irreflexive (carried mine tree path i)) in
            parent_at mine tree path last mid simple good way i l ∙ rw keeps refl;
        held_back = λ i l less.
            let cuts : int_lt (carried mine tree path (suc i)) (carried mine tree path i) ≡ true = below (carried mine tree path (suc i)) (carried mine tree path i) less in
            parent_at mine tree path last mid simple good way i l ∙ rw cuts refl;
        keeps = excess_place mine tree path last mid simple good way;
        stays_root = parent_last mine tree path last mid simple good way;
        gains = excess_last mine tree path last mid simple good way;
        other_excess = excess_off mine tree path last mid simple good way;
        other_parent = λ u l off.
            ⊎_elim
            (λ on. absurd (off on.0 on.1 on.2))
            (λ out. parent_past mine tree path last mid simple good way u l (let past = out.0 in omega arith))
            (on_path mine tree path last mid simple good way u);
      },
    )
