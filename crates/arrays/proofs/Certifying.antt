-- In rows that rise the place of a need is the number of its pair; and a certificate of the mine is one of the marks.
use Rattle.std.proofs.Common.{◌≡◌, inl, inr, ℕ, zero, suc, ◌+◌, ◌-◌, ◌<◌, ◌≤◌, Bool, true, false, List, length, get_or, refl, sym, ap, subst, ◌∙◌, arith, ⊎_elim}
use Rattle.std.specs.Prelude.{ℤ, ◌==◌, if◌then◌else◌}
use Rattle.std.proofs.lemmas.Bool.{cases_Bool, cases_lt, eqb-true, true≢false}
use Rattle.pit_model.specs.Certificate.{IsCertificate}
use Rattle.pit_model.specs.Graph.{AreInRange, AreRising, AreSamePairs, IsGraph}
use Rattle.pit_model.specs.Mine.{Instance, members}
use Rattle.pit_model.proofs.Members.{members_ext, members_rise}
use Rattle.pit_model.proofs.OneOrder.{pairs_have_one_order}
use Rattle.optimality.proofs.SameSet.{members_agree}
use Rattle.optimality.specs.Check.{AreAscending as AreRisingBlocks}
use Rattle.arrays.specs.Certified.{CertifyMarks}
use Rattle.csr.specs.Rows.{pairs_of, IsCsr, RowsRise}
use Rattle.csr.proofs.Begun.{csr_offsets}
use Rattle.csr.proofs.Rising.{rows_rising}
use Rattle.csr.proofs.Spelled.{seconds_of_rows}
use Rattle.arrays.specs.Solved.{AreMarks}
use Rattle.arrays.specs.Encoded.{IsEncoded, EncodesMine, EncodesPairs}
use Rattle.arrays.proofs.OneMine.{arrays_encode_one_mine, pairs_are_one}
use Rattle.arrays.proofs.Encoding.{spell}

-- the pairs of rows that rise stand in order
pairs_rise : (n : ℕ) (starts needs : List ℕ) (pairs : List (ℕ × ℕ)) → IsCsr n (length needs) starts → AreInRange pairs n → RowsRise starts needs → EncodesPairs starts needs pairs → AreRising pairs
pairs_rise n starts needs pairs rows range rise is =
    let same = pairs_are_one n starts needs pairs (pairs_of starts needs) rows is (spell n starts needs rows) in
    let within = subst (λ q. AreInRange q n) same range in
    subst AreRising (sym same)
    (rows_rising (pairs_of starts needs) starts needs n (λ k l. (within k l).0) (csr_offsets starts needs n rows) (seconds_of_rows starts needs) rise)

same_in_range : (ps qs : List (ℕ × ℕ)) (n : ℕ) → AreSamePairs ps qs → AreInRange qs n → AreInRange ps n
same_in_range ps qs n same range k l =
    let f = same.forth k l in
    let r = range f.0 f.1 in
    (subst (λ (q : ℕ × ℕ). q.0 < n) f.2 r.0, subst (λ (q : ℕ × ℕ). q.1 < n) f.2 r.1)

-- so they are the mine's, by their places
pub in_order : (values : List ℤ) (starts needs : List ℕ) (mine : Instance) → IsGraph mine.blocks mine.pairs → RowsRise starts needs → IsEncoded values starts needs mine → EncodesMine values starts needs mine
in_order values starts needs mine graph rise is =
    let whole = is.encoded in
    let one = pairs_have_one_order is.pairs mine.pairs is.same (pairs_rise mine.blocks starts needs is.pairs whole.rows (same_in_range is.pairs mine.pairs mine.blocks is.same graph.in_range) rise whole.pairs_are) graph.rising in
    record {
      blocks = whole.blocks;
      values_are = whole.values_are;
      rows = whole.rows;
      pairs_are = subst (λ (ps : List (ℕ × ℕ)). EncodesPairs starts needs ps) one whole.pairs_are;
    }

-- of marks that are 0 or 1, the blocks with a 1 are the set's
marks_of : (n : ℕ) (marks : List ℕ) (set : ℕ → Bool) → length marks ≡ n → ((u : ℕ) → u < length marks → get_or marks u 0 ≤ 1) → members (length marks) (λ u. get_or marks u 0 == 1) ≡ members n set → AreMarks n set marks
marks_of n marks set size few same =
    let here = subst (λ m. members m (λ u. get_or marks u 0 == 1) ≡ members n set) size same in
    record {
      count = size;
      each = λ u l. ⊎_elim
          (λ (on : set u ≡ true).
          let mark = eqb-true (get_or marks u 0) 1 (members_agree n set (λ v. get_or marks v 0 == 1) (sym here) u l on) in
          mark ∙ sym (ap (λ b. if b then 1 else 0) on))
          (λ (off : set u ≡ false). ⊎_elim
          (λ (one : (get_or marks u 0 == 1) ≡ true). absurd (true≢false (sym (members_agree n (λ v. get_or marks v 0 == 1) set here u l one) ∙ off)))
          (λ (other : (get_or marks u 0 == 1) ≡ false).
          let least = few u (omega arith) in
          let apart : get_or marks u 0 ≡ 1 → ⊥ = λ e. true≢false (sym (ap (λ x. x == 1) e) ∙ other) in
          let zero_mark : get_or marks u 0 ≡ 0 = omega arith in
          zero_mark ∙ sym (ap (λ b. if b then 1 else 0) off))
          (cases_Bool (get_or marks u 0 == 1)))
          (cases_Bool (set u));
    }

-- a mark is 1 exactly where the set holds the block
mark_is : (n : ℕ) (marks : List ℕ) (set : ℕ → Bool) → AreMarks n set marks → (u : ℕ) → u < n → (get_or marks u 0 == 1) ≡ set u
mark_is n marks set are u l = ⊎_elim
    (λ (on : set u ≡ true). ap (λ x. x == 1) (are.each u l ∙ ap (λ b. if b then 1 else 0) on) ∙ sym on)
    (λ (off : set u ≡ false). ap (λ x. x == 1) (are.each u l ∙ ap (λ b. if b then 1 else 0) off) ∙ sym off)
    (cases_Bool (set u))

module _ (values : List ℤ) (starts needs marks : List ℕ) (amounts : List ℤ) (mine : Instance) (pit : List ℕ) (encoded : EncodesMine values starts needs mine)
    (listed : pit ≡ members (length marks) (λ u. get_or marks u 0 == 1)) (size : length marks ≡ mine.blocks) (few : (u : ℕ) → u < length marks → get_or marks u 0 ≤ 1) where
  pub certify_marks : IsCertificate mine pit amounts → CertifyMarks values starts needs marks amounts
  certify_marks is = record {
    mine = mine;
    encoded = encoded;
    set = is.set;
    marks_are = marks_of mine.blocks marks is.set size few (sym listed ∙ is.listed);
    count = is.counted ∙ encoded.pairs_are.count;
    certifies = is.certifies;
  }

  pub marks_certify : CertifyMarks values starts needs marks amounts → IsCertificate mine pit amounts
  marks_certify are =
      let one : are.mine ≡ mine = arrays_encode_one_mine values starts needs are.mine mine are.encoded encoded in
      let same = ap (λ n. members n (λ u. get_or marks u 0 == 1)) are.marks_are.count
      ∙ members_ext are.mine.blocks (λ u. get_or marks u 0 == 1) are.set (mark_is are.mine.blocks marks are.set are.marks_are) in
      subst (λ (m : Instance). IsCertificate m pit amounts) one (record {
        set = are.set;
        listed = listed ∙ same;
        counted = are.count ∙ sym are.encoded.pairs_are.count;
        certifies = are.certifies;
      })

pub blocks_rise : (n : ℕ) (test : ℕ → Bool) (blocks : List ℕ) → blocks ≡ members n test → AreRisingBlocks blocks
blocks_rise n test blocks is = subst AreRisingBlocks (sym is) (members_rise n test)
