-- One line more.
use Rattle.std.proofs.Common.{◌≡◌, ◌∙◌, [], ◌++◌, ◌+◌, List, take, get_or, ap, sym}
use Rattle.std.specs.List.{flat_map}
use Rattle.std.proofs.lemmas.List.{flat_map_more, take_more}
use Rattle.pit_model.specs.declared.shell.Shell.{Shell}
use Rattle.pit_model.specs.ShellText.{shell_line}
use Rattle.report.proofs.PutLemmas.{puts_then, puts_as}
use Rattle.report.proofs.shells.put_shells.Goals as goal

pub loop-i-preserved : goal.loop-i-preserved
loop-i-preserved g c =
    let shells = c.args.shells.now in
    let i = c.loop-i.i in
    let shell = c.index-shells-i.result in
    let here : get_or shells i shell ≡ shell = sym c.index-shells-i.is in
    let more : flat_map shell_line (take i shells) ++ shell_line shell ≡ flat_map shell_line (take (i + 1) shells) =
    ap (λ (s : Shell). flat_map shell_line (take i shells) ++ shell_line s) (sym here)
    ∙ flat_map_more shell_line [] (take i shells) (get_or shells i shell) ∙ ap (λ (xs : List Shell). flat_map shell_line xs) (sym (take_more shells i shell c.loop-i-test.true)) in
    record {
      puts = puts_as more (puts_then _ _ _ _ _ _ _ _ c.loop-i.invariant.puts c.put_shell.ensures.puts);
      ready = c.put_shell.ensures.ready;
    }
