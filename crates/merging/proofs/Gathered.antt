-- What several threads gave of the parts, as one list or the first refusal.
use Rattle.std.proofs.Common.{Vec, Global, ◌≡◌, ℕ, zero, suc, ◌<◌, sym, arith, subst, List, [], ◌∷◌, map, get_or, length, Result, Ok, Err}
use Rattle.std.specs.Prelude.{MatchResult}
use Rattle.std.specs.List.{AllZip, Contains}
use Rattle.pit_model.specs.Mine.{Instance}
use Rattle.faults.specs.declared.fault.Fault.{Fault}
use Rattle.faults.specs.Refused.{no_memory}
use Rattle.mine_graph.specs.declared.part.Part.{Part}
use Rattle.merging.specs.declared.solved_part.SolvedPart.{SolvedPart}
use Rattle.merging.specs.Parts.{IsSolvedPart}

-- what one part gave
abbrev pub Gave : Instance → Part → Result SolvedPart Fault → Type 0
Gave mine part r = MatchResult r (IsSolvedPart mine part) (λ e. e ≡ no_memory)

pub all_oks : (mine : Instance) (xs : List Part) (ys : List SolvedPart) → AllZip (Gave mine) xs (map Ok ys) → AllZip (IsSolvedPart mine) xs ys
all_oks mine [] [] h = tt
all_oks mine [] (y ∷ ys) h = absurd h
all_oks mine (x ∷ xs) [] h = absurd h
all_oks mine (x ∷ xs) (y ∷ ys) h = (h.0, all_oks mine xs ys h.1)

gave_at : (mine : Instance) (xs : List Part) (rs : List (Result SolvedPart Fault)) (e : Fault) (k : ℕ) → AllZip (Gave mine) xs rs → k < length rs → get_or rs k (Err e) ≡ Err e → e ≡ no_memory
gave_at mine [] [] e k h l at = absurd (omega arith)
gave_at mine [] (r ∷ rs) e k h l at = absurd h
gave_at mine (x ∷ xs) [] e k h l at = absurd h
gave_at mine (x ∷ xs) (r ∷ rs) e zero h l at = subst (Gave mine x) at h.0
gave_at mine (x ∷ xs) (r ∷ rs) e (suc k) h l at = gave_at mine xs rs e k h.1 (omega arith) at

pub only_memory : (mine : Instance) (xs : List Part) (rs : List (Result SolvedPart Fault)) (e : Fault) → AllZip (Gave mine) xs rs → Contains rs (Err e) → e ≡ no_memory
only_memory mine xs rs e h c = gave_at mine xs rs e c.0 h c.1 c.2

-- all were solved, or the first refusal is one of a part
pub gathered : (mine : Instance) (parts : List Part) (rs : List (Result SolvedPart Fault)) (r : Result (Vec SolvedPart Global) Fault) → AllZip (Gave mine) parts rs
    → MatchResult r (λ v. (ys : List SolvedPart) × (rs ≡ map Ok ys) × (v.items ≡ ys)) (λ e. Contains rs (Err e))
    → MatchResult r (λ v. AllZip (IsSolvedPart mine) parts v.items) (λ e. e ≡ no_memory)
gathered mine parts rs (Ok v) h g = subst (AllZip (IsSolvedPart mine) parts) (sym g.2) (all_oks mine parts g.0 (subst (AllZip (Gave mine) parts) g.1 h))
gathered mine parts rs (Err e) h g = only_memory mine parts rs e h g
