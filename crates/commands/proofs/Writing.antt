-- The new writers of a run may be there where they are.
use Rattle.std.proofs.Common.{◌≡◌, false, ap, arith, inl, inr, refl}
use Rattle.std.specs.Prelude.{◌⊎◌, Option, None, Some, is_some}
use Rattle.std.proofs.lemmas.Bool.{true≢false}
use Rattle.minelib_reader.specs.Device.{Progress}
use Rattle.pit_model.specs.declared.direction.Direction.{Direction}
use Rattle.pit_model.specs.declared.direction.Direction.TheVariants.{Least, Greatest}
use Rattle.solver.specs.declared.mode.Mode.{Mode}
use Rattle.solver.specs.declared.mode.Mode.TheVariants.{Single, Parts, Shared}
use Rattle.commands.specs.Chosen.{IsCountable, progress_of}
use Rattle.commands.specs.Journaled.{MayJournal}
use Rattle.commands.specs.Run.{MayWrite}
use Rattle.commands.specs.declared.options.SolveSettings.{SolveSettings}
use Rattle.commands.specs.Made.{certificate_toward, wanted_journal, journal_toward}
use Rattle.commands.specs.Solved.{IsUnwrittenIfAny}

countable : {W : Type 0} → (progress : W → Progress) (writer : Option W) → IsUnwrittenIfAny progress writer → IsCountable (progress_of progress writer)
countable progress None new = tt
countable progress (Some writer) new = let none = ap (λ (p : Progress). p.failures) new in omega arith

not_there : {W : Type 0} → (progress : W → Progress) (writer : Option W) → is_some writer ≡ false → progress_of progress writer ≡ None
not_there progress None named = refl
not_there progress (Some writer) named = absurd (true≢false named)

-- mode shared alone has a journal
may_journal : {T J : Type 0} → (mode : Mode) (direction : Direction) (name : Option T) (progress : J → Progress) (journal : Option J)
    → is_some journal ≡ is_some (journal_toward direction mode name) → MayJournal mode (progress_of progress journal)
may_journal (Shared workers budget chunk) direction name progress journal named = inr tt
may_journal (Single budget) Least name progress journal named = inl (not_there progress journal named)
may_journal (Single budget) Greatest name progress journal named = inl (not_there progress journal named)
may_journal Parts Least name progress journal named = inl (not_there progress journal named)
may_journal Parts Greatest name progress journal named = inl (not_there progress journal named)

-- and the least pit alone has one or a certificate
may_record : {T J C : Type 0} → (mode : Mode) (direction : Direction) (journal_name certificate_name : Option T) (journal_at : J → Progress) (journal : Option J) (certificate_at : C → Progress) (certificate : Option C)
    → is_some journal ≡ is_some (journal_toward direction mode journal_name) → is_some certificate ≡ is_some (certificate_toward direction certificate_name)
    → (direction ≡ Least) ⊎ ((progress_of journal_at journal ≡ None) × (progress_of certificate_at certificate ≡ None))
may_record mode Least journal_name certificate_name journal_at journal certificate_at certificate named certificate_named = inl refl
may_record mode Greatest journal_name certificate_name journal_at journal certificate_at certificate named certificate_named =
    inr (not_there journal_at journal named, not_there certificate_at certificate certificate_named)

pub may_write : {T J C : Type 0} → (settings : SolveSettings) (journal_name certificate_name : Option T) (journal_at : J → Progress) (certificate_at : C → Progress) (journal : Option J) (certificate : Option C)
    → IsUnwrittenIfAny journal_at journal → is_some journal ≡ is_some (wanted_journal settings journal_name)
    → IsUnwrittenIfAny certificate_at certificate → is_some certificate ≡ is_some (certificate_toward settings.pit certificate_name)
    → MayWrite journal_at certificate_at settings journal certificate
may_write settings journal_name certificate_name journal_at certificate_at journal certificate journal_new journal_named certificate_new certificate_named = record {
  journal_countable = countable journal_at journal journal_new;
  certificate_countable = countable certificate_at certificate certificate_new;
  may_journal = may_journal settings.mode settings.pit journal_name journal_at journal journal_named;
  may_record = may_record settings.mode settings.pit journal_name certificate_name journal_at journal certificate_at certificate journal_named certificate_named;
}
