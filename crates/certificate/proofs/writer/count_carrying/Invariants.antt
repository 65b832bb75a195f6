-- So many of the arcs so far carry something.
use Rattle.std.proofs.Common.{◌≡◌, length}
use Rattle.certificate.specs.CertificateText.{carrying}
use Rattle.certificate.proofs.writer.count_carrying.Given as goal

abbrev pub invariant-loop-k : goal.invariant-loop-k
invariant-loop-k l = l.count ≡ length (carrying l.flow l.k)
