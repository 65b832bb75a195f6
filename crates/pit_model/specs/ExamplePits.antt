-- The pits of small mines, worked out by hand, and what shows them. A definition of closed, worth, pit, flow or certificate with
-- a sign, a comparison or a quantifier changed makes one of these false.
use Rattle.std.specs.Prelude.{◌≡◌, ℕ, ℤ, pos, neg_ℤ, List, [], ◌∷◌, get_or}
use Rattle.pit_model.specs.declared.direction.Direction.TheVariants.{Greatest, Least}
use Rattle.pit_model.specs.declared.shell.Shell.{Shell}
use Rattle.pit_model.specs.Pit.{Fixed, IsPit, no_blocks_fixed}
use Rattle.pit_model.specs.Mine.{instance_of, IsClosed, worth}
use Rattle.pit_model.specs.Flow.{HasResidual}
use Rattle.pit_model.specs.Certificate.{Certifies, IsCertificate}
use Rattle.pit_model.specs.Deposit.{value_at}
use Rattle.pit_model.specs.Fixed.{IsClash, IsFixedCertificate, IsRestOf, fixed_of, is_among}
use Rattle.pit_model.specs.Direction.{IsSearched}
use Rattle.pit_model.specs.Shells.{IsRest, IsShell}
use Rattle.pit_model.specs.Uniqueness.{plain}
use Rattle.pit_model.specs.ExampleMines.{cut_fork, field, pair_deposit, three_deposit, two_blocks}

abbrev pub amounts : List ℤ → ℕ → ℤ
amounts flows k = get_or flows k (pos 0)

abbrev pub loss : ℕ → ℤ
loss x = neg_ℤ (pos x)

-- the law: a block that pays for what it needs is dug with it; one that only just does is not, unless the greatest pit is asked for
pub record PitsOfTwoBlocks : Type 0 where
  pub pays : IsPit Least (two_blocks (loss 3) (pos 5)) no_blocks_fixed (is_among (0 ∷ 1 ∷ []))
  pub worth_is : worth (two_blocks (loss 3) (pos 5)) (is_among (0 ∷ 1 ∷ [])) ≡ pos 2
  pub breaks_even : IsPit Least (two_blocks (loss 5) (pos 5)) no_blocks_fixed (is_among [])
  pub not_both : IsPit Least (two_blocks (loss 5) (pos 5)) no_blocks_fixed (is_among (0 ∷ 1 ∷ [])) → ⊥
  pub not_alone : IsClosed (two_blocks (loss 5) (pos 5)) (is_among (1 ∷ [])) → ⊥
  pub waste_alone : IsClosed (two_blocks (loss 5) (pos 5)) (is_among (0 ∷ []))
  pub greatest : IsPit Greatest (two_blocks (loss 5) (pos 5)) no_blocks_fixed (is_among (0 ∷ 1 ∷ []))
  pub not_nothing : IsPit Greatest (two_blocks (loss 5) (pos 5)) no_blocks_fixed (is_among []) → ⊥
  pub searched : IsSearched Greatest (two_blocks (loss 5) (pos 5)) no_blocks_fixed (instance_of 2 (pos 5 ∷ loss 5 ∷ []) ((0, 1) ∷ []))

-- the law: two flows show the pit of the fork; each condition refuses what breaks it alone
pub record CertificatesOfSmallMines : Type 0 where
  pub shows : IsCertificate cut_fork (1 ∷ 2 ∷ []) (pos 0 ∷ pos 1 ∷ pos 5 ∷ [])
  pub shows_too : IsCertificate cut_fork (1 ∷ 2 ∷ []) (pos 0 ∷ pos 2 ∷ pos 5 ∷ [])
  pub not_lacking : Certifies cut_fork (is_among (1 ∷ 2 ∷ [])) (amounts (pos 0 ∷ pos 1 ∷ pos 6 ∷ [])) → ⊥
  pub not_entering : Certifies cut_fork (is_among (1 ∷ 2 ∷ [])) (amounts (pos 1 ∷ pos 1 ∷ pos 5 ∷ [])) → ⊥
  pub not_unreached : Certifies (two_blocks (loss 5) (pos 5)) (is_among (0 ∷ 1 ∷ [])) (amounts (pos 5 ∷ [])) → ⊥
  pub not_open : Certifies (two_blocks (loss 5) (pos 5)) (is_among (1 ∷ [])) (amounts (pos 0 ∷ [])) → ⊥
  pub not_left : Certifies (two_blocks (loss 3) (pos 5)) (is_among []) (amounts (pos 3 ∷ [])) → ⊥
  pub not_backward : Certifies (two_blocks (pos 1) (loss 1)) (is_among []) (amounts (loss 1 ∷ [])) → ⊥
  pub down : HasResidual cut_fork (amounts []) 2 1
  pub back : HasResidual cut_fork (amounts (pos 0 ∷ pos 0 ∷ pos 5 ∷ [])) 1 2
  pub not_back : HasResidual cut_fork (amounts (pos 0 ∷ pos 1 ∷ pos 0 ∷ [])) 1 2 → ⊥

abbrev pub fix : List ℕ → List ℕ → Fixed
fix forced barred = fixed_of (record { forced = forced; barred = barred })

-- the law: with block 3 forced in, 0 and 1 must be dug too, and block 2 is the rest; with block 0 barred, 2 and 3 must be left
pub record FixedPitsOfField : Type 0 where
  pub forced_shows : IsFixedCertificate field (fix (3 ∷ []) []) (0 ∷ 1 ∷ 2 ∷ 3 ∷ []) (pos 0 ∷ pos 0 ∷ pos 0 ∷ [])
  pub forced : IsPit Least field (fix (3 ∷ []) []) (is_among (0 ∷ 1 ∷ 2 ∷ 3 ∷ []))
  pub forced_worth : worth field (is_among (0 ∷ 1 ∷ 2 ∷ 3 ∷ [])) ≡ pos 5
  pub rest : IsRestOf field (fix (3 ∷ []) []) (instance_of 1 (pos 10 ∷ []) [])
  pub barred : IsPit Least field (fix [] (0 ∷ [])) (is_among [])
  pub clash : IsClash field.pairs (fix (3 ∷ []) (0 ∷ 1 ∷ [])) 0
  pub no_clash : IsClash field.pairs (fix (2 ∷ []) (1 ∷ [])) 1 → ⊥
  pub free : IsPit Least field no_blocks_fixed (is_among (0 ∷ 2 ∷ []))

-- the law: at 400 per mille the second block only just pays for both; so it is dug at 1000, and at 400 for the greatest pit
pub record ShellsOfPair : Type 0 where
  pub waste_at_300 : value_at pair_deposit 300 0 ≡ loss 3000000000
  pub ore_at_300 : value_at pair_deposit 300 1 ≡ pos 2000000000
  pub ore_at_400 : value_at pair_deposit 400 1 ≡ pos 3000000000
  pub ore_at_1000 : value_at pair_deposit 1000 1 ≡ pos 9000000000
  pub at_400 : (shell : Shell) → plain shell ≡ (400, [], pos 0) → IsShell Least pair_deposit shell
  pub greatest_at_400 : (shell : Shell) → plain shell ≡ (400, 0 ∷ 1 ∷ [], pos 0) → IsShell Greatest pair_deposit shell
  pub at_1000 : (shell : Shell) → plain shell ≡ (1000, 0 ∷ 1 ∷ [], pos 6000000000) → IsShell Least pair_deposit shell
  pub rest_at_800 : IsRest Least three_deposit (500 ∷ 800 ∷ 900 ∷ []) 1 (instance_of 1 (pos 0 ∷ []) [])
