-- The first file of a name, found one by one.
use Rattle.std.proofs.Common.{◌≡◌, ◌∙◌, ◌<◌, ◌+◌, ℕ, Bool, true, false, List, [], ap, drop, get_or, length, subst, sym}
use Rattle.std.specs.Prelude.{Option, Some, None, if◌then◌else◌}
use Rattle.std.specs.Str.{bytes_eq}
use Rattle.std.proofs.lemmas.List.{drop_more}
use Rattle.std.proofs.Math.Seq.{drop-length}
use Rattle.memory_files.specs.declared.files.MemoryFile.{MemoryFile}
use Rattle.memory_files.specs.MemoryRelations.{text_under}

abbrev pub no_file : MemoryFile
no_file = record { name = record { ref_ptr = (0, 0); now = [] }; text = record { ref_ptr = (0, 0); now = [] } }

-- what is under the name in the files from one on, by what that one is called
step :
    (files : List MemoryFile) (name : List ℕ) (k : ℕ) (file : MemoryFile) (is_named : Bool) → k < length files → bytes_eq (get_or files k file).name.now name ≡ is_named
    → text_under (drop k files) name ≡ (if is_named then Some (get_or files k file).text.now else text_under (drop (k + 1) files) name)
unfolding text_under
step files name k file is_named inside named =
    ap (λ fs. text_under fs name) (drop_more files k file inside)
    ∙ ap (λ it. if it then Some (get_or files k file).text.now else text_under (drop (k + 1) files) name) named

pub found :
    (files : List MemoryFile) (name : List ℕ) (k : ℕ) (file : MemoryFile) → k < length files → bytes_eq (get_or files k file).name.now name ≡ true
    → text_under (drop k files) name ≡ text_under files name → Some (get_or files k file).text.now ≡ text_under files name
found files name k file inside named before = sym (step files name k file true inside named) ∙ before

pub passed :
    (files : List MemoryFile) (name : List ℕ) (k : ℕ) (file : MemoryFile) → k < length files → bytes_eq (get_or files k file).name.now name ≡ false
    → text_under (drop k files) name ≡ text_under files name → text_under (drop (k + 1) files) name ≡ text_under files name
passed files name k file inside named before = sym (step files name k file false inside named) ∙ before

pub missing : (files : List MemoryFile) (name : List ℕ) (k : ℕ) → k ≡ length files → text_under (drop k files) name ≡ text_under files name → None ≡ text_under files name
unfolding text_under
missing files name k all before = sym (ap (λ fs. text_under fs name) (ap (λ n. drop n files) all ∙ drop-length files)) ∙ before
