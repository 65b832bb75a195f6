-- Arrays encode one list of pairs, since a place lies in one row, and so one mine.
use Rattle.std.proofs.Common.{◌≡◌, ℕ, ◌<◌, List, length, get_or, ap, sym, ◌∙◌, arith}
use Rattle.std.specs.Prelude.{ℤ}
use Rattle.std.proofs.lemmas.List.{ext_get_or}
use Rattle.pit_model.specs.Graph.{first_of}
use Rattle.pit_model.specs.Mine.{instance_of}
use Rattle.csr.proofs.Spelled.{pair_same}
use Rattle.csr.specs.Rows.{IsCsr}
use Rattle.arrays.specs.Encoded.{ArraysEncodeOneMine, EncodesPairs}
use Rattle.arrays.proofs.Encoding.{one_row}

pub pairs_are_one : (n : ℕ) (starts needs : List ℕ) (ps qs : List (ℕ × ℕ)) → IsCsr n (length needs) starts → EncodesPairs starts needs ps → EncodesPairs starts needs qs → ps ≡ qs
pairs_are_one n starts needs ps qs rows p q = ext_get_or (0, 0) ps qs (p.count ∙ sym q.count) (λ k l.
    let size : length ps ≡ length needs = p.count in
    let less : k < length needs = omega arith in
    pair_same (get_or ps k (0, 0)) (get_or qs k (0, 0))
    (one_row n (length needs) starts rows (first_of ps k) (first_of qs k) k (p.block k less) (q.block k less))
    (p.needed k less ∙ sym (q.needed k less)))

pub arrays_encode_one_mine : ArraysEncodeOneMine
arrays_encode_one_mine values starts needs mine other s t =
    ap (λ (n : ℕ). instance_of n mine.values mine.pairs) (s.blocks ∙ sym t.blocks)
    ∙ ap (λ (vs : List ℤ). instance_of other.blocks vs mine.pairs) (s.values_are ∙ sym t.values_are)
    ∙ ap (λ (ps : List (ℕ × ℕ)). instance_of other.blocks other.values ps) (pairs_are_one mine.blocks starts needs mine.pairs other.pairs s.rows s.pairs_are t.pairs_are)
