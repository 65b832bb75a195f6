-- One share more, or the first that is none of the problem.
use Rattle.std.proofs.Common.{◌≡◌, ℕ, ◌+◌, ◌*◌, ◌<◌, List, [], ◌∷◌, ◌++◌, length, arith}
use Rattle.schedule_runs.proofs.Pushed.{count_pushed, each_from_start}
use Rattle.schedule_runs.specs.SharesRead.{IsListedShare, IsShareOf, no_share, share_in}
use Rattle.schedule_runs.specs.declared.shares.Share.{Share}
use Rattle.schedule_runs.proofs.shares.listed_shares.Goals as goal

pub returns-in-None-clause-refused : goal.returns-in-None-clause-refused
returns-in-None-clause-refused c =
    let listed : List Share = c.loop-j.listed.items in
    let invariant = c.loop-j.invariant in
    let fours = c.requires.1 in (
      omega arith,
      record {
        broken = c.in-None.ensures.none;
        before = λ i h. record { share = share_in listed i; listed = invariant.each i h; lawful = invariant.lawful i h };
      },
    )

pub loop-j-preserved : goal.loop-j-preserved
loop-j-preserved c =
    let xs : List Share = c.loop-j.listed.items in
    let ys : List Share = c.push.new.self.items in
    let x : Share = c.in-Some.share in
    let j = c.loop-j.j in
    let invariant = c.loop-j.invariant in
    let are : ys ≡ xs ++ x ∷ [] = c.in_ok-push-in-Some.ensures.items in
    record {
      count = count_pushed xs ys x j are invariant.count;
      each = each_from_start no_share (IsListedShare c.args.numbers.now) xs ys x j are invariant.count invariant.each c.in-Some.ensures.listed;
      lawful = each_from_start no_share (λ (i : ℕ) (s : Share). IsShareOf c.args.problem.now s) xs ys x j are invariant.count invariant.lawful c.in-Some.ensures.lawful;
    }
