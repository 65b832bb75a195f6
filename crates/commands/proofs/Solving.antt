-- The pit of the mine that was read gives its text: it is the pit of the instance, whose pairs stand in another order than
-- in the file, and that order does not matter.
use Rattle.std.proofs.Common.{◌≡◌, ℕ, refl, sym, ap, ◌∙◌, subst, Bool, List}
use Rattle.std.specs.Prelude.{ℤ, Ok, Err}
use Rattle.minelib_reader.specs.Device.{Progress, Writes}
use Rattle.faults.specs.declared.fault.Fault.{Fault}
use Rattle.pit_model.specs.declared.direction.Direction.{Direction}
use Rattle.pit_model.specs.Pit.{ListsPit}
use Rattle.pit_model.specs.Fixed.{FixedLists, fixed_of}
use Rattle.pit_model.specs.Graph.{AreSamePairs}
use Rattle.pit_model.specs.Mine.{Instance, instance_of, members, worth}
use Rattle.pit_model.specs.PitText.{pit_text}
use Rattle.pit_model.proofs.SamePairs.{turned, pit_knows_no_order}
use Rattle.pit_search.specs.declared.found_pit.FoundPit.{FoundPit}
use Rattle.pit_search.specs.Searched.{IsFound}
use Rattle.commands.specs.Solve.{Files, FixedInstance, HoldsMine, IsPitText, Solves, IsDone, IsCutShort, fixed_in}
use Rattle.commands.specs.declared.status.Status.TheVariants.{Done}

pub shown_text :
    (direction : Direction) (fixed_mine : FixedInstance) (pit : List ℕ) (n : ℕ) (sum : ℤ) → n ≡ fixed_mine.mine.blocks → ListsPit direction fixed_mine.mine (fixed_in fixed_mine) pit
    → ((set : ℕ → Bool) → pit ≡ members fixed_mine.mine.blocks set → sum ≡ worth fixed_mine.mine set)
    → IsPitText direction fixed_mine (pit_text n pit sum)
shown_text direction fixed_mine pit n sum count shown summed = record {
  pit = shown.set;
  is_pit = shown.is_pit;
  is_text =
      ap (λ m. pit_text m pit sum) count
      ∙ ap (λ p. pit_text fixed_mine.mine.blocks p sum) shown.listed
      ∙ ap (pit_text fixed_mine.mine.blocks (members fixed_mine.mine.blocks shown.set)) (summed shown.set shown.listed);
}

-- the text of the pit that a search found
pub found_text :
    (direction : Direction) (fixed_mine : FixedInstance) (found : FoundPit) (pit : List ℕ) (n : ℕ) → n ≡ fixed_mine.mine.blocks → pit ≡ found.blocks.items → IsFound direction fixed_mine.mine (fixed_in fixed_mine) found
    → IsPitText direction fixed_mine (pit_text n pit found.worth)
found_text direction fixed_mine found pit n count same is =
    shown_text direction fixed_mine pit n found.worth count (subst (λ p. ListsPit direction fixed_mine.mine (fixed_in fixed_mine) p) (sym same) is.listed) (λ set listed. is.worth_is set (sym same ∙ listed))

abbrev task_on : Instance → FixedLists → FixedInstance
task_on mine lists = record { mine = mine; lists = lists }

-- the pit and its text do not depend on the order of the pairs
text_moves :
    (direction : Direction) (lists : FixedLists) (blocks n : ℕ) (values vs : List ℤ) (ps qs : List (ℕ × ℕ)) (text : List ℕ) → blocks ≡ n → values ≡ vs → AreSamePairs ps qs
    → IsPitText direction (task_on (instance_of blocks values ps) lists) text → IsPitText direction (task_on (instance_of n vs qs) lists) text
text_moves direction lists blocks n values vs ps qs text same_n same_v same t =
    subst (λ b. IsPitText direction (task_on (instance_of b vs qs) lists) text) same_n
    (subst (λ v. IsPitText direction (task_on (instance_of blocks v qs) lists) text) same_v
    (record { pit = t.pit; is_pit = pit_knows_no_order direction blocks values ps qs (fixed_of lists) t.pit same t.is_pit; is_text = t.is_text }))

pub solves : (direction : Direction) (files : Files) (fixed_mine : FixedInstance) (text : List ℕ) → HoldsMine files fixed_mine → IsPitText direction fixed_mine text → Solves direction files text
solves direction files fixed_mine text holds t = let gave = holds.gave in record {
  upit = gave.upit;
  pairs = gave.pairs;
  lists = fixed_mine.lists;
  given = gave.given;
  fixed_given = gave.fixed_given;
  acyclic = gave.acyclic;
  solved = text_moves direction fixed_mine.lists fixed_mine.mine.blocks gave.upit.n fixed_mine.mine.values gave.upit.values fixed_mine.mine.pairs gave.pairs text gave.blocks gave.values (turned gave.pairs fixed_mine.mine.pairs gave.same) t;
}

pub done :
    (direction : Direction) (files : Files) (fixed_mine : FixedInstance) (before after : Progress) → HoldsMine files fixed_mine
    → (text : List ℕ) → IsPitText direction fixed_mine text → Writes {E = Fault} before after text (Ok tt)
    → IsDone direction files before after Done
done direction files fixed_mine before after holds text t w = record {
  done = refl;
  text = text;
  solves = solves direction files fixed_mine text holds t;
  wrote = w;
}

pub cut_short :
    (direction : Direction) (files : Files) (fixed_mine : FixedInstance) (before after : Progress) (e : Fault) → HoldsMine files fixed_mine
    → (text : List ℕ) → IsPitText direction fixed_mine text → Writes {E = Fault} before after text (Err e)
    → IsCutShort direction files before after
cut_short direction files fixed_mine before after e holds text t w = record {
  text = text;
  solves = solves direction files fixed_mine text holds t;
  wrote = w;
}
