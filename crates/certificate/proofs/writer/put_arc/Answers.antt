-- The pieces of the line, one after the other.
use Rattle.std.proofs.Common.{◌≡◌, ◌∙◌, ℕ, ap, rules, get_or}
use Rattle.std.specs.Prelude.{pos, unsigned_abs, decimal}
use Rattle.std.proofs.lemmas.Int.{to_z-of_z}
use mir.Val.{SFits}
use mir.Syntax.{w128}
use Rattle.report.proofs.PutLemmas.{puts_then, puts_as}
use Rattle.optimality.specs.Check.{amount}
use Rattle.certificate.specs.CertificateText.{flow_line}
use Rattle.certificate.proofs.writer.put_arc.Goals as goal

pub returns-clause-puts : goal.returns-clause-puts
unfolding flow_line
returns-clause-puts g c =
    let fits : SFits w128 (get_or c.args.flow.now c.args.k (pos 0)) = search rules in
    let size : c.unsigned_abs.result ≡ unsigned_abs (amount c.args.flow.now c.args.k) = c.unsigned_abs.ensures.value ∙ ap unsigned_abs (to_z-of_z w128 (get_or c.args.flow.now c.args.k (pos 0)) fits) in
    let one = puts_as (ap (λ (q : ℕ × ℕ). decimal q.0) c.arc-u.ensures) c.put_number.ensures.puts in
    let two = puts_then _ _ _ _ _ _ _ _ one c.put.ensures.puts in
    let three = puts_then _ _ _ _ _ _ _ _ two (puts_as (ap (λ (q : ℕ × ℕ). decimal q.1) c.arc-u.ensures) c.put_number-2.ensures.puts) in
    let four = puts_then _ _ _ _ _ _ _ _ three c.put-2.ensures.puts in
    let five = puts_then _ _ _ _ _ _ _ _ four (puts_as (ap decimal size) c.put_number-3.ensures.puts) in
    puts_then _ _ _ _ _ _ _ _ five c.end_line.ensures.puts
