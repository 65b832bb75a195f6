-- Reading a precedence file piece by piece: what was read so far, and what comes of whatever is read behind it.
use Rattle.std.proofs.Common.{◌≡◌, ℕ, Bool, true, false, List, [], ◌++◌, Ok, Err, Option, None, Some, refl, sym, ap, ◌∙◌, append_assoc, subst}
use Rattle.std.specs.Io.KnownBytes.{Keeps}
use Rattle.std.proofs.lemmas.List.{append-nil}
use Rattle.faults.specs.declared.fault.Fault.{Fault}
use Rattle.faults.specs.declared.refusal.Refusal.TheVariants.{NoMemory}
use Rattle.faults.specs.declared.source.Source.TheVariants.{Precedence}
use Rattle.minelib_reader.specs.Answer.{FailsBy, IsRead, ReadsText, Refuses}
use Rattle.minelib_reader.specs.Device.{Progress}
use Rattle.minelib_reader.specs.Marks.{AddsRows, with_pairs}
use Rattle.minelib_reader.specs.Pieces.{IsPiece}
use Rattle.minelib_reader.specs.Prec.{pairs_from, prec_of}
use Rattle.minelib_reader.specs.Text.{Row, rows_at, lines_at}
use Rattle.minelib_reader.proofs.AnswerLemmas.{refuses_memory, refuses_read}
use Rattle.minelib_reader.proofs.PieceLemmas.{rows_behind}

-- what is kept from one state to the next is kept over both
pub keeps_on : (old between new : Option (List ℕ)) → Keeps old between → Keeps between new → Keeps old new
keeps_on None between new one two = tt
keeps_on (Some xs) None new one two = absurd one
keeps_on (Some xs) (Some ys) None one two = absurd two
keeps_on (Some xs) (Some ys) (Some zs) one two = two ∙ one

-- the pairs of the lines read so far, with those of what was kept and whatever comes behind it, are those of the whole text
pub record HasRead (n : ℕ) (old now : Progress) (from total line : ℕ) (kept : List ℕ) (pairs : List (ℕ × ℕ)) : Type 0 where
  pub text : List ℕ
  pub bytes : now.bytes ≡ old.bytes ++ text
  pub failures : now.failures ≡ old.failures
  pub read : (more : List ℕ) → with_pairs pairs (pairs_from n from total (rows_at line (kept ++ more))) ≡ prec_of n (text ++ more)

module _ (n : ℕ) (old now next : Progress) (AtEnd : Type 0) (from total line : ℕ) (before piece kept : List ℕ) (pairs : List (ℕ × ℕ)) (r : HasRead n old now from total line before pairs) where
  -- what was read with a piece
  read_with : (ended : Bool) → IsPiece now next AtEnd before piece kept ended → List ℕ
  read_with ended p = r.text ++ p.text

  bytes_with : (ended : Bool) (p : IsPiece now next AtEnd before piece kept ended) → next.bytes ≡ old.bytes ++ (r.text ++ p.text)
  bytes_with ended p = p.bytes ∙ ap (λ (bs : List ℕ). bs ++ p.text) r.bytes ∙ append_assoc old.bytes r.text p.text

  -- what stands behind a piece stands behind what was kept before and what was read
  parts_with : (ended : Bool) (p : IsPiece now next AtEnd before piece kept ended) (more : List ℕ) → piece ++ (kept ++ more) ≡ before ++ (p.text ++ more)
  parts_with ended p more = sym (append_assoc piece kept more) ∙ ap (λ (bs : List ℕ). bs ++ more) (sym p.parts) ∙ append_assoc before p.text more

  -- the rows of a piece and of whatever comes behind it are those of the whole text
  rows_with : (p : IsPiece now next AtEnd before piece kept false) (more : List ℕ) →
      with_pairs pairs (pairs_from n from total (rows_at line piece ++ rows_at (lines_at line piece) (kept ++ more))) ≡ prec_of n ((r.text ++ p.text) ++ more)
  rows_with p more =
      ap (λ (rs : List Row). with_pairs pairs (pairs_from n from total rs)) (sym (rows_behind line piece (kept ++ more) (p.more refl).0))
      ∙ ap (λ (bs : List ℕ). with_pairs pairs (pairs_from n from total (rows_at line bs))) (parts_with false p more)
      ∙ r.read (p.text ++ more) ∙ ap (prec_of n) (sym (append_assoc r.text p.text more))

  pub goes_on : (p : IsPiece now next AtEnd before piece kept false) (from' total' line' : ℕ) (pairs' : List (ℕ × ℕ)) → AddsRows n from total (rows_at line piece) pairs pairs' from' total'
      → line' ≡ lines_at line piece → HasRead n old next from' total' line' kept pairs'
  goes_on p from' total' line' pairs' added counted = record {
    text = r.text ++ p.text;
    bytes = bytes_with false p;
    failures = p.failures ∙ r.failures;
    read = λ more. added (rows_at line' (kept ++ more)) ∙ ap (λ (k : ℕ). with_pairs pairs (pairs_from n from total (rows_at line piece ++ rows_at k (kept ++ more)))) counted ∙ rows_with p more;
  }

  -- the rows of the last piece are all that are left
  rows_at_end : (p : IsPiece now next AtEnd before piece kept true) → with_pairs pairs (pairs_from n from total (rows_at line piece ++ [])) ≡ prec_of n (r.text ++ p.text)
  rows_at_end p =
      let whole : piece ≡ before ++ p.text = sym (append-nil piece) ∙ ap (λ (bs : List ℕ). piece ++ bs) (sym (p.last refl).1) ∙ sym p.parts in
      ap (λ (rs : List Row). with_pairs pairs (pairs_from n from total rs)) (append-nil (rows_at line piece))
      ∙ ap (λ (bs : List ℕ). with_pairs pairs (pairs_from n from total (rows_at line bs))) whole
      ∙ r.read p.text

  pub ends : (p : IsPiece now next AtEnd before piece kept true) (from' total' : ℕ) (pairs' : List (ℕ × ℕ)) → AddsRows n from total (rows_at line piece) pairs pairs' from' total' → prec_of n (r.text ++ p.text) ≡ Ok pairs'
  unfolding pairs_from
  ends p from' total' pairs' added =
      let one : with_pairs pairs' (pairs_from n from' total' []) ≡ Ok pairs' = ap (λ (ps : List (ℕ × ℕ)). Ok ps) (append-nil pairs') in
      sym (rows_at_end p) ∙ sym (added []) ∙ one

  -- all that was read at the end of the text
  pub read_to_end : (p : IsPiece now next AtEnd before piece kept true) → IsRead old next AtEnd (r.text ++ p.text)
  read_to_end p = record { bytes = bytes_with true p; failures = p.failures ∙ r.failures; ended = (p.last refl).0 }

  abbrev Faulty : Fault → Type 0
  Faulty e = (behind : List Row) → FailsBy e.refusal e (with_pairs pairs (pairs_from n from total (rows_at line piece ++ behind)))

  abbrev Refused : Fault → Progress → Type 0 → Type 0
  Refused e last End = Refuses e.refusal Precedence e old last (ReadsText old last End (λ text. prec_of n text ≡ Err e))

  -- a fault in the last piece is one of the text
  pub faulty_end : (ended : Bool) → IsPiece now next AtEnd before piece kept ended → ended ≡ true → (e : Fault) → Faulty e → Refused e next AtEnd
  faulty_end true p is e fails = refuses_read e.refusal Precedence e old next AtEnd (prec_of n) (r.text ++ p.text) (read_to_end p) (subst (FailsBy e.refusal e) (rows_at_end p) (fails []))
  faulty_end false p is e fails = absurd cc

  -- a fault in a piece is one of the text, whatever is read behind it
  pub faulty_piece : (ended : Bool) → IsPiece now next AtEnd before piece kept ended → ended ≡ false → (e : Fault) → Faulty e → (last : Progress) (End : Type 0) (more : List ℕ) → IsRead next last End more → Refused e last End
  faulty_piece true p is e fails last End more rest = absurd cc
  faulty_piece false p is e fails last End more rest =
      let all : IsRead old last End ((r.text ++ p.text) ++ more) = record {
        bytes = rest.bytes ∙ ap (λ (bs : List ℕ). bs ++ more) (bytes_with false p) ∙ append_assoc old.bytes (r.text ++ p.text) more;
        failures = rest.failures ∙ p.failures ∙ r.failures;
        ended = rest.ended;
      } in
      refuses_read e.refusal Precedence e old last End (prec_of n) ((r.text ++ p.text) ++ more) all
      (subst (FailsBy e.refusal e) (rows_with p more) (fails (rows_at (lines_at line piece) (kept ++ more))))

  -- memory was refused
  pub no_room : (ended : Bool) → IsPiece now next AtEnd before piece kept ended → (e : Fault) → e.refusal ≡ NoMemory → Faulty e → (End : Type 0) → Refused e next End
  no_room ended p e memory fails End = refuses_memory e.refusal Precedence e old next (ReadsText old next End (λ text. prec_of n text ≡ Err e)) _ memory (p.failures ∙ r.failures) (fails [])
