-- The first fault of the text of a certificate: that of the least line that breaks a check, and on it the first check.
use Rattle.std.specs.Prelude.{ℕ, List, Option}
use Rattle.faults.specs.declared.fault.Fault.{Fault}
use Rattle.faults.specs.FirstFault.{IsFirstFault}
use Rattle.minelib_reader.specs.Text.{rows_of, count_of_lines}
use Rattle.pit_model.specs.Fixed.{FixedLists}
use Rattle.pit_model.specs.Graph.{Graph}
use Rattle.report.specs.LineByLine.{line_fault_after}
use Rattle.certificate.specs.CertificateLines.{step, end, first_state}

-- the first check that the text breaks in its line with fields number k, counted from 0
abbrev pub certificate_fault_at : Graph → FixedLists → List ℕ → ℕ → Option Fault
certificate_fault_at graph lists text k = line_fault_after (step graph lists) (end (count_of_lines text)) (first_state graph) (rows_of text) k

abbrev pub IsFirstCertificateFault : Graph → FixedLists → List ℕ → Fault → Type 0
IsFirstCertificateFault graph lists text fault = IsFirstFault (certificate_fault_at graph lists text) fault
