-- Two shells at one factor are one; and the text of a list of shells is a function of their factors, blocks and worths.
use Rattle.std.proofs.Common.{◌≡◌, ℕ, ◌-◌, eqb, Bool, true, false, refl, sym, ap, subst, ◌∙◌, arith, ⊎_elim, List, [], ◌∷◌, ◌++◌, length}
use Rattle.std.specs.Prelude.{ℤ, map, codes, decimal, Option, Some, None}
use Rattle.std.specs.List.{All, find, flat_map, list_any, slice_get}
use Rattle.std.specs.Option.{option_map, option_map_or}
use Rattle.std.proofs.lemmas.Bool.{cases_Bool}
use Rattle.std.proofs.lemmas.List.{length-map}
use Rattle.std.proofs.lemmas.List.Elements.{All-tail}
use Rattle.std.proofs.lemmas.List.Folds.{flat_map-map}
use Rattle.std.proofs.lemmas.Option.{slice_get-map}
use Rattle.pit_model.specs.declared.shell.Shell.{Shell}
use Rattle.pit_model.specs.declared.direction.Direction.{Direction}
use Rattle.pit_model.specs.Mine.{worth}
use Rattle.pit_model.specs.Deposit.{Deposit, mine_at}
use Rattle.pit_model.specs.PitText.{with_decimals}
use Rattle.pit_model.specs.Shells.{IsShell}
use Rattle.pit_model.specs.ShellText.{shells_head, shell_line, block_factor_line, has_block, first_factor, last_pit, shells_text}
use Rattle.pit_model.specs.Pit.{IsPit, no_blocks_fixed}
use Rattle.pit_model.specs.Uniqueness.{ShellsAreOne, plain}
use Rattle.pit_model.proofs.Uniqueness.{pit_is_one}

abbrev pub Plain : Type 0
Plain = ℕ × List ℕ × ℤ

one_shell : (direction : Direction) (deposit : Deposit) (s t : Shell) → IsShell direction deposit s → IsShell direction deposit t → s.factor ≡ t.factor → plain s ≡ plain t
one_shell direction deposit s t is is_other at =
    let one = pit_is_one direction (mine_at deposit s.factor) no_blocks_fixed is.set is_other.set is.is_pit (subst (λ k. IsPit direction (mine_at deposit k) no_blocks_fixed is_other.set) (sym at) is_other.is_pit) in
    let blocks : s.pit.items ≡ t.pit.items = is.listed ∙ one.listed ∙ sym is_other.listed in
    let worths : s.worth ≡ t.worth = is.worth_is ∙ one.worths ∙ ap (λ k. worth (mine_at deposit k) is_other.set) at ∙ sym is_other.worth_is in
    ap (λ k. (k, s.pit.items, s.worth)) at ∙ ap (λ xs. (t.factor, xs, s.worth)) blocks ∙ ap (λ w. (t.factor, t.pit.items, w)) worths

same_list : (direction : Direction) (deposit : Deposit) (ss ts : List Shell) → All (IsShell direction deposit) ss → All (IsShell direction deposit) ts → map (λ s. s.factor) ss ≡ map (λ s. s.factor) ts → map plain ss ≡ map plain ts
same_list direction deposit [] [] each others at = refl
same_list direction deposit [] (t ∷ ts) each others at = absurd cc
same_list direction deposit (s ∷ ss) [] each others at = absurd cc
same_list direction deposit (s ∷ ss) (t ∷ ts) each others at =
    let first : s.factor ≡ t.factor = cc in
    let behind : map (λ s. s.factor) ss ≡ map (λ s. s.factor) ts = cc in
    let here = one_shell direction deposit s t (each 0 s (omega arith)) (others 0 t (omega arith)) first in
    let rest = same_list direction deposit ss ts (All-tail (IsShell direction deposit) s ss each) (All-tail (IsShell direction deposit) t ts others) behind in
    ap (λ p. p ∷ map plain ss) here ∙ ap (λ ps. plain t ∷ ps) rest

-- the parts of the text, of plain shells
unfoldable pub plain_line : Plain → List ℕ
plain_line p = decimal p.0 ++ codes " " ++ decimal (length p.1) ++ codes " " ++ with_decimals 9 p.2 ++ codes "\n"

unfoldable pub plain_has : ℕ → Plain → Bool
plain_has u p = list_any (λ v. eqb v u) p.1

unfoldable pub plain_first : List Plain → ℕ → ℕ
plain_first ps u = option_map_or (λ p. p.0) (find (plain_has u) ps) 0

unfoldable pub plain_block : List Plain → ℕ → List ℕ
plain_block ps u = decimal u ++ codes " " ++ decimal (plain_first ps u) ++ codes "\n"

unfoldable pub plain_last : List Plain → List ℕ
plain_last ps = option_map_or (λ p. p.1) (slice_get ps (length ps - 1)) []

unfoldable pub plain_text : ℕ → List Plain → List ℕ
plain_text n ps = shells_head n (length ps) ++ flat_map plain_line ps ++ flat_map (plain_block ps) (plain_last ps)

lines_are : (ss : List Shell) → flat_map shell_line ss ≡ flat_map plain_line (map plain ss)
unfolding shell_line plain_line
lines_are ss = sym (flat_map-map plain_line plain ss)

first_is : (u : ℕ) (ss : List Shell) → first_factor ss u ≡ plain_first (map plain ss) u
unfolding plain_first plain_has
first_is u [] = refl
first_is u (s ∷ ss) = ⊎_elim
    (λ (yes : has_block u s ≡ true). rw yes refl)
    (λ (no : has_block u s ≡ false). rw no (first_is u ss))
    (cases_Bool (has_block u s))

blocks_are : (us : List ℕ) (ss : List Shell) → flat_map (block_factor_line ss) us ≡ flat_map (plain_block (map plain ss)) us
unfolding block_factor_line plain_block
blocks_are [] ss = refl
blocks_are (u ∷ us) ss = rw (first_is u ss, blocks_are us ss) refl

last_of : (o : Option Shell) → option_map_or (λ (s : Shell). s.pit.items) o [] ≡ option_map_or (λ (p : Plain). p.1) (option_map plain o) []
last_of None = refl
last_of (Some s) = refl

last_is : (ss : List Shell) → last_pit ss ≡ plain_last (map plain ss)
unfolding plain_last
last_is ss =
    last_of (slice_get ss (length ss - 1))
    ∙ ap (λ o. option_map_or (λ (p : Plain). p.1) o []) (sym (slice_get-map plain ss (length ss - 1)))
    ∙ ap (λ k. option_map_or (λ (p : Plain). p.1) (slice_get (map plain ss) (k - 1)) []) (sym (length-map ss plain))

pub text_is : (n : ℕ) (ss : List Shell) → shells_text n ss ≡ plain_text n (map plain ss)
unfolding plain_text
text_is n ss =
    ap (λ k. shells_head n k ++ flat_map shell_line ss ++ flat_map (block_factor_line ss) (last_pit ss)) (sym (length-map ss plain))
    ∙ ap (λ ls. shells_head n (length (map plain ss)) ++ ls ++ flat_map (block_factor_line ss) (last_pit ss)) (lines_are ss)
    ∙ ap (λ ls. shells_head n (length (map plain ss)) ++ flat_map plain_line (map plain ss) ++ ls)
    (blocks_are (last_pit ss) ss ∙ ap (flat_map (plain_block (map plain ss))) (last_is ss))

pub shells_are_one : ShellsAreOne
shells_are_one direction deposit factors ss ts are others =
    let same = same_list direction deposit ss ts are.each others.each (are.factors_are ∙ sym others.factors_are) in
    (same, text_is deposit.blocks ss ∙ ap (plain_text deposit.blocks) same ∙ sym (text_is deposit.blocks ts))
