-- The head, the lines of the shells and those of the blocks, and at the end nothing waits.
use Rattle.std.proofs.Common.{◌≡◌, ◌∙◌, ◌++◌, List, ℕ, [], length, sym, ap, subst}
use Rattle.std.specs.List.{flat_map, AllPairs}
use Rattle.std.proofs.lemmas.List.{append-nil}
use Rattle.pit_model.specs.declared.shell.Shell.{Shell}
use Rattle.pit_model.specs.Shells.{IsWithin}
use Rattle.pit_model.specs.ShellText.{block_factor_line, last_pit, shell_line, shells_head, shells_text}
use Rattle.report.proofs.PutLemmas.{puts_then, puts_as, puts_end}
use Rattle.report.proofs.shells.write_shells.Goals as goal

pub put_blocks-requires-clause-nested : goal.put_blocks-requires-clause-nested
put_blocks-requires-clause-nested g c = subst (λ (xs : List Shell). AllPairs IsWithin xs) (sym c.deref-2.ensures.value) c.requires.nested

pub returns-clause-text : goal.returns-clause-text
returns-clause-text g c =
    let n = c.args.list.now.n in
    let items = c.args.list.now.shells.items in
    let all : c.deref.result.now ≡ items = c.deref.ensures.value in
    let count = c.len.ensures ∙ c.args.list.now.shells.ok.0 in
    let head = puts_as (ap (shells_head n) count) c.put_shells_head.ensures.puts in
    let lines = puts_as (ap (λ (xs : List Shell). flat_map shell_line xs) all) c.put_shells.ensures.puts in
    let last : c.last_pit.result.now ≡ last_pit items = c.last_pit.ensures ∙ ap last_pit c.deref-3.ensures.value in
    let blocks = puts_as (ap (λ (xs : List Shell). flat_map (block_factor_line xs) c.last_pit.result.now) c.deref-2.ensures.value ∙ ap (λ (us : List ℕ). flat_map (block_factor_line items) us) last) c.put_blocks.ensures.puts in
    let two = puts_then _ _ _ _ _ _ _ _ head lines in
    let three = puts_then _ _ _ _ _ _ _ _ two blocks in
    let whole : ((shells_head n (length items) ++ flat_map shell_line items) ++ flat_map (block_factor_line items) (last_pit items)) ++ [] ≡ shells_text n items =
    append-nil ((shells_head n (length items) ++ flat_map shell_line items) ++ flat_map (block_factor_line items) (last_pit items)) in
    puts_end _ _ _ _ _ c.finish.result (puts_as whole (puts_then _ _ _ _ _ _ _ _ three c.finish.ensures.puts))
    c.new-out.ensures.bytes c.new-out.ensures.failed c.finish.ensures.none c.finish.ensures.answers
