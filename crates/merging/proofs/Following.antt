-- The entries of a journal are decided again, one by one.
use Rattle.std.proofs.Common.{◌≡◌, ℕ, suc, ◌+◌, ◌<◌, ◌≤◌, sym, ap, ◌∙◌, subst, arith, List, [], ◌∷◌, ◌++◌, take, length, get_or, Option}
use Rattle.std.proofs.Math.Seq.{take-suc}
use Rattle.pit_model.specs.declared.journal.Entry.{Entry}
use Rattle.pit_model.specs.Mine.{Instance}
use Rattle.pit_model.specs.Tree.{MineTree, opening}
use Rattle.pit_model.specs.Journal.{lawful_verdict, tree_after, count_after, applied_count, IsLawful, replay}
use Rattle.pit_model.specs.Replay.{DiffersAt}
use Rattle.pit_model.proofs.Journals.{lawful-snoc, lawful-last, replay-snoc, applied_count-snoc, count_after-most}

-- so many entries of a journal were decided again: each has its lawful verdict, and this is their tree, and how many mergers they make
pub record Follows (mine : Instance) (budget : Option ℕ) (journal : List Entry) (i : ℕ) (tree : MineTree) (made : ℕ) : Type 0 where
  pub same : tree.mine ≡ mine
  pub lawful : IsLawful mine budget (take i journal)
  pub replayed : tree.tree ≡ replay mine (take i journal)
  pub counted : made ≡ applied_count (take i journal)
  pub most : made ≤ i

-- the first so many entries and the next one
next_taken : (journal : List Entry) (i : ℕ) (none : Entry) → i < length journal → take (i + 1) journal ≡ take i journal ++ get_or journal i none ∷ []
next_taken journal i none inside = let next : i + 1 ≡ suc i = omega arith in ap (λ n. take n journal) next ∙ take-suc journal i none inside

module _ (mine : Instance) (budget : Option ℕ) (journal : List Entry) (i : ℕ) (tree : MineTree) (made : ℕ) (follows : Follows mine budget journal i tree made) where
  -- the verdict that is lawful on the next entry
  verdict_here : (arc : ℕ) → lawful_verdict tree.mine budget tree.tree made arc ≡ lawful_verdict mine budget (replay mine (take i journal)) (applied_count (take i journal)) arc
  verdict_here arc = (λ j. lawful_verdict (follows.same j) budget (follows.replayed j) (follows.counted j) arc)

  -- `none` is what a list has past its end
  pub follows_more :
      (none : Entry) (next : MineTree) (count : ℕ) → i < length journal → let entry = get_or journal i none in
      entry.verdict ≡ lawful_verdict tree.mine budget tree.tree made entry.arc → next.mine ≡ tree.mine → next.tree ≡ tree_after tree.mine tree.tree entry
      → count ≡ count_after made entry → Follows mine budget journal (i + 1) next count
  follows_more none next count inside lawful same after counted =
      let entry = get_or journal i none in let taken = next_taken journal i none inside in record {
        same = same ∙ follows.same;
        lawful = rw taken (lawful-snoc mine budget (take i journal) entry (opening mine) 0 follows.lawful (lawful ∙ verdict_here entry.arc));
        replayed = after ∙ (λ j. tree_after (follows.same j) (follows.replayed j) entry) ∙ sym (replay-snoc mine (take i journal) entry) ∙ ap (replay mine) (sym taken);
        counted = counted ∙ ap (λ n. count_after n entry) follows.counted ∙ sym (applied_count-snoc (take i journal) entry) ∙ ap applied_count (sym taken);
        most = let m = count_after-most made entry in let k = follows.most in let c = counted in (omega arith);
      }

  pub differs_here :
      (none : Entry) → i < length journal → let entry = get_or journal i none in
      (entry.verdict ≡ lawful_verdict tree.mine budget tree.tree made entry.arc → ⊥) → DiffersAt mine budget journal (i + 1)
  differs_here none inside differs = record {
    before = i;
    next = omega arith;
    lawful = follows.lawful;
    differs = λ all. let entry = get_or journal i none in
        differs (lawful-last mine budget (take i journal) entry (opening mine) 0 (subst (IsLawful mine budget) (next_taken journal i none inside) all) ∙ sym (verdict_here entry.arc));
  }
