-- What the line that is due gives, by what its check gives.
use Rattle.std.proofs.Common.{◌≡◌, ℕ, suc, ◌+◌, List, [], ◌∷◌, ◌++◌, set, length, Ok, Err, refl, sym, ap, ◌∙◌}
use Rattle.std.specs.Prelude.{ℤ, pos, codes}
use Rattle.faults.specs.declared.fault.Fault.{Fault}
use Rattle.faults.specs.declared.refusal.Refusal.TheVariants.{AfterEnd}
use Rattle.minelib_reader.specs.Text.{Row}
use Rattle.pit_model.specs.Graph.{Graph}
use Rattle.certificate.specs.declared.due.CertificateLine.TheVariants.{Block, Arc}
use Rattle.certificate.specs.CertificateLines.{in_certificate, count_line, id_line, arc_line, block_step, arc_step, state}

module _ (graph : Graph) (from : ℕ) (r : Row) where
  pub last_block : (left m count : ℕ) (pit : List ℕ) (flow : List ℤ) → left ≡ 0 → m ≡ length graph.pairs → count_line (codes "FLOW:") m r ≡ Ok count
      → block_step graph left from pit flow r ≡ Ok (state (Arc count 0) pit flow)
  unfolding block_step
  last_block left m count pit flow none is h = let here = ap (λ k. count_line (codes "FLOW:") k r) (sym is) ∙ h in rw (none, here) refl

  pub last_block_fails : (e : Fault) (left m : ℕ) (pit : List ℕ) (flow : List ℤ) → left ≡ 0 → m ≡ length graph.pairs → count_line (codes "FLOW:") m r ≡ Err e
      → block_step graph left from pit flow r ≡ Err e
  unfolding block_step
  last_block_fails e left m pit flow none is h = let here = ap (λ k. count_line (codes "FLOW:") k r) (sym is) ∙ h in rw (none, here) refl

  pub next_block : (left rest n id : ℕ) (pit : List ℕ) (flow : List ℤ) → left ≡ suc rest → n ≡ graph.blocks → id_line n from r ≡ Ok id
      → block_step graph left from pit flow r ≡ Ok (state (Block rest (id + 1)) (pit ++ id ∷ []) flow)
  unfolding block_step
  next_block left rest n id pit flow more is h = let here = ap (λ k. id_line k from r) (sym is) ∙ h in rw (more, here) refl

  pub next_block_fails : (e : Fault) (left rest n : ℕ) (pit : List ℕ) (flow : List ℤ) → left ≡ suc rest → n ≡ graph.blocks → id_line n from r ≡ Err e
      → block_step graph left from pit flow r ≡ Err e
  unfolding block_step
  next_block_fails e left rest n pit flow more is h = let here = ap (λ k. id_line k from r) (sym is) ∙ h in rw (more, here) refl

  pub no_arc : (left : ℕ) (pit : List ℕ) (flow : List ℤ) → left ≡ 0 → arc_step graph left from pit flow r ≡ Err (in_certificate AfterEnd r.line)
  unfolding arc_step
  no_arc left pit flow none = rw none refl

  pub next_arc : (left rest : ℕ) (arc : ℕ × ℕ) (pit : List ℕ) (flow : List ℤ) → left ≡ suc rest → arc_line graph.pairs from r ≡ Ok arc
      → arc_step graph left from pit flow r ≡ Ok (state (Arc rest (arc.0 + 1)) pit (set flow arc.0 (pos arc.1)))
  unfolding arc_step
  next_arc left rest arc pit flow more h = rw (more, h) refl

  pub next_arc_fails : (e : Fault) (left rest : ℕ) (pit : List ℕ) (flow : List ℤ) → left ≡ suc rest → arc_line graph.pairs from r ≡ Err e
      → arc_step graph left from pit flow r ≡ Err e
  unfolding arc_step
  next_arc_fails e left rest pit flow more h = rw (more, h) refl
