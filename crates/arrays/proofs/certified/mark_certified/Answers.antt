-- The certificate of the mine is one of the marks, since the set is marked.
use Rattle.std.proofs.Common.{rules, ◌≡◌, ◌≤◌, ◌∙◌, ℕ, List, length, get_or, pos, sym, subst, ap}
use Rattle.std.specs.Int.{w128}
use Rattle.std.proofs.lemmas.Int.{to_z-of_z}
use mir.Val.{SFits}
use Rattle.pit_model.specs.Mine.{members}
use Rattle.pit_model.proofs.Duality.{certificate_gives_pit}
use Rattle.arrays.specs.Solved.{AreMarks}
use Rattle.arrays.proofs.Marking.{listed_few}
use Rattle.arrays.proofs.certified.mark_certified.Goals as goal

pub worth-requires-clause-few : goal.worth-requires-clause-few
worth-requires-clause-few c =
    let shown = c.in_ok-certificate.ensures.certifies.certifies in
    subst (λ (xs : List ℕ). length xs ≤ c.in_ok-mine.mine.blocks) (sym c.deref-2.ensures.value) (listed_few c.in_ok-mine.mine.blocks c.in_ok-certificate.certificate.pit.items shown.set shown.listed)

pub returns-clause-marked : goal.returns-clause-marked
returns-clause-marked c =
    let mine = c.in_ok-mine.mine in
    let encoded = c.in_ok-mine.ensures.encoded in
    let shown = c.in_ok-certificate.ensures.certifies.certifies in
    let size : length c.args.marks.now ≡ mine.blocks = c.if-marks-values.false ∙ sym encoded.blocks in
    let listed = c.deref.ensures.value ∙ shown.listed ∙ ap (λ n. members n shown.set) (sym size) in
    let fits : SFits w128 c.worth.result = search rules in
    record {
      certified = record {
        mine = mine;
        encoded = encoded;
        set = shown.set;
        marks_are = subst (λ n. AreMarks n shown.set c.write_marks.new.marks) size (c.write_marks.ensures shown.set listed);
        count = shown.counted ∙ encoded.pairs_are.count;
        certifies = shown.certifies;
      };
      is_pit = certificate_gives_pit mine shown.set (λ k. get_or c.in_ok-certificate.certificate.flow.items k (pos 0)) c.law.ensures.graph.in_range shown.certifies;
      worth_is = to_z-of_z w128 c.worth.result fits ∙ c.worth.ensures.set shown.set (c.deref-2.ensures.value ∙ shown.listed);
    }
