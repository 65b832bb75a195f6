-- What a name leads to in memory, and what becomes of the outputs.
use Rattle.std.specs.Prelude.{◌≡◌, ℕ, Bool, List, [], ◌∷◌, Option, None, Some, IsSome, if◌then◌else◌}
use Rattle.std.specs.Option.{option_map}
use Rattle.std.specs.Str.{bytes_eq}
use Rattle.faults.specs.declared.source.Source.{Source}
use Rattle.faults.specs.declared.source.Source.TheVariants as sources
use Rattle.memory_files.specs.declared.files.MemoryFile.{MemoryFile}
use Rattle.memory_files.specs.declared.files.MemoryFiles.{MemoryFiles}
use Rattle.memory_files.specs.declared.files.MemoryOutput.{MemoryOutput}

-- the bytes of the first file of that name
unfoldable pub text_under : List MemoryFile → List ℕ → Option (List ℕ)
text_under [] name = None
text_under (file ∷ files) name = if bytes_eq file.name.now name then Some file.text.now else text_under files name

-- the file of that name was opened: its bytes are to be read, and nothing changed
pub record OpensInMemory (old : MemoryFiles) (name : List ℕ) (text : Option (List ℕ)) (new : MemoryFiles) : Type 0 where
  pub is_there : IsSome text
  pub holds : text_under old.files.now name ≡ text
  pub same : new ≡ old

-- there is none, and nothing changed
pub record LacksInMemory (old : MemoryFiles) (name : List ℕ) (new : MemoryFiles) : Type 0 where
  pub is_missing : text_under old.files.now name ≡ None
  pub same : new ≡ old

-- an output has this name and was not kept
pub record IsNamed (name : List ℕ) (output : MemoryOutput) : Type 0 where
  pub named : output.name.items ≡ name
  pub unkept : output.text ≡ None

-- the output of that name was made, and is empty
abbrev pub MakesInMemory : Source → MemoryFiles → List ℕ → Option (List ℕ) → MemoryFiles → Type 0
MakesInMemory sources.Journal old name holds new = IsNamed name new.journal × (holds ≡ Some []) × (new.certificate ≡ old.certificate) × (new.files ≡ old.files)
MakesInMemory sources.Certificate old name holds new = IsNamed name new.certificate × (holds ≡ Some []) × (new.journal ≡ old.journal) × (new.files ≡ old.files)
MakesInMemory _ old name holds new = ⊥

-- an output is kept under its name with what it holds, or is not kept
pub record IsKeptOrNot (old new : MemoryOutput) (holds : Option (List ℕ)) (is_kept : Bool) : Type 0 where
  pub named : new.name ≡ old.name
  pub left : option_map (λ text. text.items) new.text ≡ (if is_kept then holds else None)

-- an output was ended
abbrev pub EndsInMemory : Source → MemoryFiles → Option (List ℕ) → Bool → MemoryFiles → Type 0
EndsInMemory sources.Journal old holds is_kept new = IsKeptOrNot old.journal new.journal holds is_kept × (new.certificate ≡ old.certificate) × (new.files ≡ old.files)
EndsInMemory sources.Certificate old holds is_kept new = IsKeptOrNot old.certificate new.certificate holds is_kept × (new.journal ≡ old.journal) × (new.files ≡ old.files)
EndsInMemory _ old holds is_kept new = ⊥
