-- Pieces that are put one after the other: what is sent and what waits, together, is the text.
use Rattle.std.proofs.Common.{◌≡◌, ℕ, ◌+◌, Bool, true, false, List, [], ◌++◌, sym, ap, subst, ◌∙◌, append_assoc, arith}
use Rattle.std.proofs.lemmas.Bool.{true≢false, false≢true}
use Rattle.std.proofs.lemmas.List.{append-nil}
use Rattle.std.specs.Prelude.{Result, Ok, Err}
use Rattle.faults.specs.declared.fault.Fault.{Fault}
use Rattle.minelib_reader.specs.Device.{Progress, Begins, Writes}
use Rattle.report.specs.Puts.{Waiting, AnswersWrite, PutCases, Puts}

-- sent, then waiting: first x with y behind it, then more
joined : (x y a b c : List ℕ) (z : List ℕ) → x ++ y ≡ a ++ b → z ≡ y ++ c → x ++ z ≡ a ++ (b ++ c)
joined x y a b c z e h = ap (λ (t : List ℕ). x ++ t) h ∙ sym (append_assoc x y c) ∙ ap (λ (t : List ℕ). t ++ c) e ∙ append_assoc a b c

cases_then : (p q r : Progress) (f g h : Bool) (before between after a b : List ℕ) → PutCases p f before q g between a → PutCases q g between r h after b → PutCases p f before r h after (a ++ b)
cases_then p q r true true true before between after a b x y = (y.0 ∙ x.0, y.1 ∙ x.1)
cases_then p q r true true false before between after a b x y = y
cases_then p q r true false true before between after a b x y = absurd x
cases_then p q r true false false before between after a b x y = absurd x
cases_then p q r false true true before between after a b x y =
    let sent : List ℕ = x.0.0 in
    let begins : Begins sent (before ++ (a ++ b)) = (
      x.0.1.0 ++ b,
      sym (append_assoc before a b) ∙ ap (λ (t : List ℕ). t ++ b) x.0.1.1 ∙ append_assoc sent x.0.1.0 b,
    ) in
    ((sent, begins, y.0 ∙ x.0.2), y.1 ∙ x.1)
cases_then p q r false true false before between after a b x y = absurd y
cases_then p q r false false true before between after a b x y =
    let sent : List ℕ = x.0.0 in
    let more : List ℕ = y.0.0 in
    let begins : Begins (sent ++ more) (before ++ (a ++ b)) = (
      y.0.1.0,
      sym (joined sent between before a b (more ++ y.0.1.0) x.0.2 (sym y.0.1.1)) ∙ sym (append_assoc sent more y.0.1.0),
    ) in
    ((sent ++ more, begins, y.0.2 ∙ ap (λ (t : List ℕ). t ++ more) x.0.1 ∙ append_assoc p.bytes sent more), omega (arith, y.1, x.1))
cases_then p q r false false false before between after a b x y =
    let sent : List ℕ = x.0.0 in
    let more : List ℕ = y.0.0 in (
      (
        sent ++ more,
        y.0.1 ∙ ap (λ (t : List ℕ). t ++ more) x.0.1 ∙ append_assoc p.bytes sent more,
        append_assoc sent more after ∙ joined sent between before a b (more ++ after) x.0.2 y.0.2,
      ),
      y.1 ∙ x.1,
    )

pub puts_then : (p q r : Progress) (o s t : Waiting) (a b : List ℕ) → Puts p o q s a → Puts q s r t b → Puts p o r t (a ++ b)
puts_then p q r o s t a b x y = record { cases = cases_then p q r o.failed s.failed t.failed o.bytes s.bytes t.bytes a b x.cases y.cases }

pub puts_as : {p q : Progress} {o s : Waiting} {a b : List ℕ} → a ≡ b → Puts p o q s a → Puts p o q s b
puts_as {p} {q} {o} {s} e x = subst (λ (t : List ℕ). Puts p o q s t) e x

append_cases : (p q : Progress) (f g : Bool) (before between after text : List ℕ) → PutCases p f before q g between [] → after ≡ between ++ text → PutCases p f before q g after text
append_cases p q true true before between after text x e = x
append_cases p q true false before between after text x e = absurd x
append_cases p q false true before between after text x e =
    let sent : List ℕ = x.0.0 in
    let begins : Begins sent (before ++ text) = (
      x.0.1.0 ++ text,
      sym (append_assoc before [] text) ∙ ap (λ (t : List ℕ). t ++ text) x.0.1.1 ∙ append_assoc sent x.0.1.0 text,
    ) in
    ((sent, begins, x.0.2), x.1)
append_cases p q false false before between after text x e = ((x.0.0, x.0.1, joined x.0.0 between before [] text after x.0.2 e), x.1)

-- a text is let wait behind what waits
pub puts_append : (p q : Progress) (o s t : Waiting) (text : List ℕ) → Puts p o q s [] → t.bytes ≡ s.bytes ++ text → t.failed ≡ s.failed → Puts p o q t text
puts_append p q o s t text x bytes failed =
    record { cases = subst (λ (h : Bool). PutCases p o.failed o.bytes q h t.bytes text) (sym failed) (append_cases p q o.failed s.failed o.bytes s.bytes t.bytes text x.cases bytes) }

end_ok : (p q : Progress) (text : List ℕ) (f g : Bool) (before between : List ℕ) → PutCases p f before q g between text → before ≡ [] → f ≡ false → between ≡ [] → g ≡ false
    → (q.bytes ≡ p.bytes ++ text) × (q.failures ≡ p.failures)
end_ok p q text true g before between x none fine sent ok = absurd (true≢false fine)
end_ok p q text false true before between x none fine sent ok = absurd (true≢false ok)
end_ok p q text false false before between x none fine sent ok =
    let whole : x.0.0 ≡ text = sym (append-nil x.0.0) ∙ ap (λ (t : List ℕ). x.0.0 ++ t) (sym sent) ∙ x.0.2 ∙ ap (λ (t : List ℕ). t ++ text) none in
    (x.0.1 ∙ ap (λ (t : List ℕ). p.bytes ++ t) whole, x.1)

end_err : (p q : Progress) (text : List ℕ) (f g : Bool) (before between : List ℕ) → PutCases p f before q g between text → before ≡ [] → f ≡ false → g ≡ true
    → ((front : List ℕ) × Begins front text × (q.bytes ≡ p.bytes ++ front)) × (q.failures ≡ p.failures + 1)
end_err p q text true g before between x none fine failed = absurd (true≢false fine)
end_err p q text false false before between x none fine failed = absurd (false≢true failed)
end_err p q text false true before between x none fine failed =
    let begins : Begins x.0.0 text = (x.0.1.0, ap (λ (t : List ℕ). t ++ text) (sym none) ∙ x.0.1.1) in
    ((x.0.0, begins, x.0.2), x.1)

-- from an empty buffer to an empty one: the text was written, or a beginning of it
pub puts_end : (p q : Progress) (o s : Waiting) (text : List ℕ) (result : Result (Unit {0}) Fault) → Puts p o q s text
    → o.bytes ≡ [] → o.failed ≡ false → s.bytes ≡ [] → AnswersWrite s result → Writes p q text result
puts_end p q o s text (Ok x) puts none fine sent ok = end_ok p q text o.failed s.failed o.bytes s.bytes puts.cases none fine sent ok
puts_end p q o s text (Err e) puts none fine sent failed = end_err p q text o.failed s.failed o.bytes s.bytes puts.cases none fine failed.0
