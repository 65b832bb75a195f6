-- What the grammar of a block model file spells is read, and what is read is spelled: coordinates, attributes, a line, all lines.
-- Its idea: the checks of a line pass one by one exactly where the parts of its grammar hold.
use Rattle.std.proofs.Common.{◌≡◌, ℕ, ℤ, ◌+◌, ◌-◌, ◌<◌, ◌≤◌, true, eqb, ltb, leb, List, [], ◌∷◌, ◌++◌, length, map, Option, Some, Result, Ok, refl, sym, ap, subst, ◌∙◌, arith, eq-eqb}
use Rattle.std.specs.Prelude.{pos, neg_ℤ, ◌≤ℤ◌, int_le}
use Rattle.std.proofs.lemmas.Int.{ints}
use Rattle.std.proofs.lemmas.Bool.{eqb-true, ltb-true, leb-true, lt-ltb, le-leb, and_parts}
use Rattle.std.proofs.lemmas.List.{length-map}
use Rattle.faults.specs.declared.fault.Fault.{Fault}
use Rattle.faults.specs.declared.refusal.Refusal.TheVariants.{OverLimit, NotWhole, NotDecimal, IdOutOfPlace, WrongFieldCount}
use Rattle.minelib_reader.specs.Checks.{◌>>=◌, ok_if}
use Rattle.std.specs.Option.{ok_or}
use Rattle.minelib_reader.specs.Text.{Row, four_and_more}
use Rattle.minelib_reader.specs.Number.{whole_of, signed_of, decimal_of}
use Rattle.minelib_reader.specs.Table.{Place, Table, table}
use Rattle.pit_model.specs.Size.{most_blocks}
use Rattle.minelib_reader.specs.Blocks.{most_columns, in_blocks, width_line, is_coordinate, coordinate_of, front_of, attribute_of, attributes_of, block_line, blocks_from, as_table, table_of_rows}
use Rattle.minelib_reader.specs.BlocksGrammar.{SpellsCoordinate, SpellsBlock, SpellsBlocks, SpellsRows}
use Rattle.minelib_reader.proofs.CheckLemmas.{passed, passing, same_value, value_there, test_holds}
use Rattle.std.proofs.lemmas.Option.{same_Some}
use Rattle.minelib_reader.proofs.BlocksLineLemmas.{length_attributes}
use Rattle.minelib_reader.proofs.BlocksFaultLemmas.{width_is}

le_is : (x y : ℤ) → int_le x y ≡ true → x ≤ℤ y
le_is x y h = grind (arith, ints)

le_true : (x y : ℤ) → x ≤ℤ y → int_le x y ≡ true
le_true x y h = grind (arith, ints)

cons_is : {A : Type 0} (x y : A) (xs ys : List A) → (x ∷ xs) ≡ (y ∷ ys) → (x ≡ y) × (xs ≡ ys)
cons_is x y xs ys e = (cc, cc)

-- ---- what is spelled is read

reads_coordinate : (line : ℕ) (field : List ℕ) (c : ℤ) → SpellsCoordinate field c → coordinate_of line field ≡ Ok c
unfolding coordinate_of
reads_coordinate line field c s = rw (s.is, le_true (neg_ℤ (pos 2147483648)) c s.low, le_true c (pos 2147483647) s.high) refl

reads_attributes : (line : ℕ) (fields : List (List ℕ)) (vs : List ℤ) → map decimal_of fields ≡ map Some vs → attributes_of line fields ≡ Ok vs
unfolding attributes_of attribute_of
reads_attributes line [] [] are = refl
reads_attributes line [] (v ∷ vs) are = absurd cc
reads_attributes line (f ∷ fields) [] are = absurd cc
reads_attributes line (f ∷ fields) (v ∷ vs) are =
    let is = cons_is (decimal_of f) (Some v) (map decimal_of fields) (map Some vs) are in
    rw (is.0, reads_attributes line fields vs is.1) refl

reads_block : (width i : ℕ) (r : Row) (place : Place) (own : List ℤ) → SpellsBlock width i r place own → block_line width i r ≡ Ok (place, own)
unfolding block_line front_of
reads_block width i r place own s =
    let count : length s.others ≡ width = sym (length-map s.others decimal_of) ∙ ap length s.are_attributes ∙ length-map own Some ∙ s.wide in
    rw (
      s.fields,
      eq-eqb (length s.others) width count,
      s.is_id,
      eq-eqb i i refl,
      lt-ltb i most_blocks s.known,
      reads_coordinate r.line s.x place.0 s.is_x,
      reads_coordinate r.line s.y place.1 s.is_y,
      reads_coordinate r.line s.z place.2 s.is_z,
      reads_attributes r.line s.others own s.are_attributes,
    ) refl

reads_blocks : (width i : ℕ) (rows : List Row) (places : List Place) (attributes : List ℤ) → SpellsBlocks width i rows places attributes → blocks_from width i rows ≡ Ok (places, attributes)
unfolding blocks_from
reads_blocks width i [] places attributes s = ap (λ (ps : List Place). passing (ps, [])) (sym s.0) ∙ ap (λ (vs : List ℤ). passing (places, vs)) (sym s.1)
reads_blocks width i (r ∷ rows) places attributes s =
    let one = reads_block width i r s.0 s.1 s.4 in
    let behind = reads_blocks width (i + 1) rows s.2 s.3 s.7 in
    rw (one, behind) (ap (λ (ps : List Place). passing (ps, s.1 ++ s.3)) (sym s.5) ∙ ap (λ (vs : List ℤ). passing (places, vs)) (sym s.6))

-- the first line says how wide the table is
reads_width : (width : ℕ) (r : Row) (place : Place) (own : List ℤ) → width ≤ most_columns → SpellsBlock width 0 r place own → width_line r ≡ Ok width
unfolding width_line
reads_width width r place own narrow s =
    let count : length s.others ≡ width = sym (length-map s.others decimal_of) ∙ ap length s.are_attributes ∙ length-map own Some ∙ s.wide in
    let size : length r.fields ≡ length s.others + 4 = ap length s.fields ∙ omega arith in
    let four : leb 4 (length r.fields) ≡ true = le-leb 4 (length r.fields) (omega (arith, size)) in
    let rest : length r.fields - 4 ≡ width = omega (arith, size, count) in
    rw (four, rest, le-leb width most_columns narrow) refl

pub reads : (rows : List Row) (t : Table) → SpellsRows rows t → table_of_rows rows ≡ Ok t
unfolding table_of_rows blocks_from
reads [] t s = ap (λ (x : Table). passing x) (sym s)
reads (r ∷ rows) t s =
    let first = s.1 in
    let width = reads_width t.width r first.0 first.1 s.0 first.4 in
    let blocks = reads_blocks t.width 0 (r ∷ rows) t.places t.attributes first in
    rw width (ap (as_table t.width) blocks)

-- ---- what is read is spelled

coordinate_spelled : (line : ℕ) (field : List ℕ) (c : ℤ) → coordinate_of line field ≡ Ok c → SpellsCoordinate field c
unfolding coordinate_of
coordinate_spelled line field c e =
    let a = passed (ok_or (signed_of field) (in_blocks NotWhole line)) (λ v. ok_if (is_coordinate v) (in_blocks OverLimit line) >>= λ fits. passing v) c e in
    let b = passed (ok_if (is_coordinate a.value) (in_blocks OverLimit line)) (λ fits. passing a.value) c a.behind in
    let within = and_parts (int_le (neg_ℤ (pos 2147483648)) a.value) (int_le a.value (pos 2147483647)) (test_holds (is_coordinate a.value) (in_blocks OverLimit line) b.value b.here) in
    let all : SpellsCoordinate field a.value = record {
      is = value_there (signed_of field) (in_blocks NotWhole line) a.value a.here;
      low = le_is (neg_ℤ (pos 2147483648)) a.value within.0;
      high = le_is a.value (pos 2147483647) within.1;
    } in
    subst (λ (x : ℤ). SpellsCoordinate field x) (same_value a.value c b.behind) all

attributes_spelled : (line : ℕ) (fields : List (List ℕ)) (vs : List ℤ) → attributes_of line fields ≡ Ok vs → map decimal_of fields ≡ map Some vs
unfolding attributes_of attribute_of
attributes_spelled line [] vs e = ap (map Some) (same_value [] vs e)
attributes_spelled line (f ∷ fields) vs e =
    let a = passed (attribute_of line f) (λ v. attributes_of line fields >>= λ others. passing (v ∷ others)) vs e in
    let b = passed (attributes_of line fields) (λ others. passing (a.value ∷ others)) vs a.behind in
    let is = value_there (decimal_of f) (in_blocks NotDecimal line) a.value a.here in
    ap (λ (x : Option ℤ). x ∷ map decimal_of fields) is ∙ ap (λ (xs : List (Option ℤ)). Some a.value ∷ xs) (attributes_spelled line fields b.value b.here)
    ∙ ap (map Some) (same_value (a.value ∷ b.value) vs b.behind)

-- what the checks of a line's front tell, where it passes them
record FrontFound (width i : ℕ) (r : Row) (front : Place × List (List ℕ)) : Type 0 where
  pub id : List ℕ
  pub x : List ℕ
  pub y : List ℕ
  pub z : List ℕ
  pub fields : r.fields ≡ id ∷ x ∷ y ∷ z ∷ front.1
  pub is_id : whole_of id ≡ Some i
  pub known : i < most_blocks
  pub is_x : SpellsCoordinate x front.0.0
  pub is_y : SpellsCoordinate y front.0.1
  pub is_z : SpellsCoordinate z front.0.2
  pub wide : length front.1 ≡ width

abbrev Parts : Type 0
Parts = List ℕ × List ℕ × List ℕ × List ℕ × List (List ℕ)

five : (fs : List (List ℕ)) (p : Parts) → four_and_more fs ≡ Some p → fs ≡ p.0 ∷ p.1 ∷ p.2 ∷ p.3 ∷ p.4
five [] p e = absurd cc
five (a ∷ []) p e = absurd cc
five (a ∷ b ∷ []) p e = absurd cc
five (a ∷ b ∷ c ∷ []) p e = absurd cc
five (a ∷ b ∷ c ∷ d ∷ fs) p e = ap (λ (x : Parts). x.0 ∷ x.1 ∷ x.2 ∷ x.3 ∷ x.4) (same_Some (a, b, c, d, fs) p e)

front_found : (width i : ℕ) (r : Row) (front : Place × List (List ℕ)) → front_of width i r ≡ Ok front → FrontFound width i r front
unfolding front_of
front_found width i r front e =
    let third = λ (p : Parts) (x y : ℤ). coordinate_of r.line p.3 >>= λ z. passing ((x, y, z), p.4) in
    let second = λ (p : Parts) (x : ℤ). coordinate_of r.line p.2 >>= third p x in
    let first = λ (p : Parts) (u : Unit {0}). coordinate_of r.line p.1 >>= second p in
    let few = λ (p : Parts) (id : ℕ) (u : Unit {0}). ok_if (ltb id most_blocks) (in_blocks OverLimit r.line) >>= first p in
    let placed = λ (p : Parts) (id : ℕ). ok_if (eqb id i) (in_blocks IdOutOfPlace r.line) >>= few p id in
    let named = λ (p : Parts) (u : Unit {0}). ok_or (whole_of p.0) (in_blocks NotWhole r.line) >>= placed p in
    let wide = λ (p : Parts). ok_if (eqb (length p.4) width) (in_blocks WrongFieldCount r.line) >>= named p in
    let a = passed (ok_or (four_and_more r.fields) (in_blocks WrongFieldCount r.line)) wide front e in
    let b = passed (ok_if (eqb (length a.value.4) width) (in_blocks WrongFieldCount r.line)) (named a.value) front a.behind in
    let c = passed (ok_or (whole_of a.value.0) (in_blocks NotWhole r.line)) (placed a.value) front b.behind in
    let d = passed (ok_if (eqb c.value i) (in_blocks IdOutOfPlace r.line)) (few a.value c.value) front c.behind in
    let f = passed (ok_if (ltb c.value most_blocks) (in_blocks OverLimit r.line)) (first a.value) front d.behind in
    let x = passed (coordinate_of r.line a.value.1) (second a.value) front f.behind in
    let y = passed (coordinate_of r.line a.value.2) (third a.value x.value) front x.behind in
    let z = passed (coordinate_of r.line a.value.3) (λ v. passing ((x.value, y.value, v), a.value.4)) front y.behind in
    let here : c.value ≡ i = eqb-true c.value i (test_holds (eqb c.value i) (in_blocks IdOutOfPlace r.line) d.value d.here) in
    let below : c.value < most_blocks = ltb-true c.value most_blocks (test_holds (ltb c.value most_blocks) (in_blocks OverLimit r.line) f.value f.here) in
    let all : FrontFound width i r ((x.value, y.value, z.value), a.value.4) = record {
      id = a.value.0;
      x = a.value.1;
      y = a.value.2;
      z = a.value.3;
      fields = five r.fields a.value (value_there (four_and_more r.fields) (in_blocks WrongFieldCount r.line) a.value a.here);
      is_id = value_there (whole_of a.value.0) (in_blocks NotWhole r.line) c.value c.here ∙ ap (λ (k : ℕ). Some k) here;
      known = subst (λ (k : ℕ). k < most_blocks) here below;
      is_x = coordinate_spelled r.line a.value.1 x.value x.here;
      is_y = coordinate_spelled r.line a.value.2 y.value y.here;
      is_z = coordinate_spelled r.line a.value.3 z.value z.here;
      wide = eqb-true (length a.value.4) width (test_holds (eqb (length a.value.4) width) (in_blocks WrongFieldCount r.line) b.value b.here);
    } in
    subst (λ (v : Place × List (List ℕ)). FrontFound width i r v) {x = ((x.value, y.value, z.value), a.value.4)} (same_value ((x.value, y.value, z.value), a.value.4) front z.behind) all

block_spelled : (width i : ℕ) (r : Row) (block : Place × List ℤ) → block_line width i r ≡ Ok block → SpellsBlock width i r block.0 block.1
unfolding block_line
block_spelled width i r block e =
    let a = passed (front_of width i r) (λ front. attributes_of r.line front.1 >>= λ own. passing (front.0, own)) block e in
    let b = passed (attributes_of r.line a.value.1) (λ own. passing (a.value.0, own)) block a.behind in
    let f = front_found width i r a.value a.here in
    let all : SpellsBlock width i r a.value.0 b.value = record {
      id = f.id;
      x = f.x;
      y = f.y;
      z = f.z;
      others = a.value.1;
      fields = f.fields;
      is_id = f.is_id;
      known = f.known;
      is_x = f.is_x;
      is_y = f.is_y;
      is_z = f.is_z;
      are_attributes = attributes_spelled r.line a.value.1 b.value b.here;
      wide = length_attributes r.line a.value.1 b.value b.here ∙ f.wide;
    } in
    subst (λ (v : Place × List ℤ). SpellsBlock width i r v.0 v.1) (same_value (a.value.0, b.value) block b.behind) all

abbrev onto : Place × List ℤ → List Place × List ℤ → Result (List Place × List ℤ) Fault
onto block others = passing (block.0 ∷ others.0, block.1 ++ others.1)

blocks_spelled : (width i : ℕ) (rows : List Row) (b : List Place × List ℤ) → blocks_from width i rows ≡ Ok b → SpellsBlocks width i rows b.0 b.1
unfolding blocks_from
blocks_spelled width i [] b e =
    let none = same_value ([], []) b e in
    (sym (ap (λ (x : List Place × List ℤ). x.0) none), sym (ap (λ (x : List Place × List ℤ). x.1) none))
blocks_spelled width i (r ∷ rows) b e =
    let a = passed (block_line width i r) (λ block. blocks_from width (i + 1) rows >>= onto block) b e in
    let d = passed (blocks_from width (i + 1) rows) (onto a.value) b a.behind in
    let is = same_value (a.value.0 ∷ d.value.0, a.value.1 ++ d.value.1) b d.behind in (
      a.value.0,
      a.value.1,
      d.value.0,
      d.value.1,
      block_spelled width i r a.value a.here,
      sym (ap (λ (x : List Place × List ℤ). x.0) is),
      sym (ap (λ (x : List Place × List ℤ). x.1) is),
      blocks_spelled width (i + 1) rows d.value d.here,
    )

width_narrow : (r : Row) (w : ℕ) → width_line r ≡ Ok w → w ≤ most_columns
unfolding width_line
width_narrow r w e =
    let few = λ (u : Unit {0}). ok_if (leb (length r.fields - 4) most_columns) (in_blocks OverLimit r.line) >>= λ v. passing (length r.fields - 4) in
    let a = passed (ok_if (leb 4 (length r.fields)) (in_blocks WrongFieldCount r.line)) few w e in
    let b = passed (ok_if (leb (length r.fields - 4) most_columns) (in_blocks OverLimit r.line)) (λ v. passing (length r.fields - 4)) w a.behind in
    subst (λ (k : ℕ). k ≤ most_columns) (width_is r w e) (leb-true (length r.fields - 4) most_columns (test_holds (leb (length r.fields - 4) most_columns) (in_blocks OverLimit r.line) b.value b.here))

pub spelled : (rows : List Row) (t : Table) → table_of_rows rows ≡ Ok t → SpellsRows rows t
unfolding table_of_rows blocks_from
spelled [] t e = sym (same_value (table 0 [] []) t e)
spelled (r ∷ rows) t e =
    let a = passed (width_line r) (λ w. as_table w (blocks_from w 0 (r ∷ rows))) t e in
    let b = passed (blocks_from a.value 0 (r ∷ rows)) (λ blocks. passing (table a.value blocks.0 blocks.1)) t a.behind in
    let all : SpellsRows (r ∷ rows) (table a.value b.value.0 b.value.1) = (width_narrow r a.value a.here, blocks_spelled a.value 0 (r ∷ rows) b.value b.here) in
    subst (λ (x : Table). SpellsRows (r ∷ rows) x) (same_value (table a.value b.value.0 b.value.1) t b.behind) all
