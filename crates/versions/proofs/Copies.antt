-- What the copies and the publisher keep, arc by arc.
use Rattle.std.proofs.Common.{◌≡◌, ℕ, true, Result, Ok, Err, IsOk, MatchResult, List, [], ◌∷◌, ◌++◌, sym, ap, ◌∙◌, subst}
use Rattle.std.specs.Prelude.{IsTrue}
use Rattle.pit_model.specs.Mine.{Instance}
use Rattle.pit_model.specs.Tree.{Tree, is_merger}
use Rattle.pit_model.specs.Merger.{merged}
use Rattle.pit_model.specs.Version.{IsVersion}
use Rattle.pit_model.proofs.Versions.{version-snoc}
use Rattle.versions.specs.Published.{Copied, taken_in, are_same, IsPublished}
use Rattle.versions.proofs.Same.{same_where}

abbrev pub grown_copy : Copied → List ℕ × ℕ → Copied
grown_copy now addition = record { mine = now.mine; tree = merged now.mine now.tree addition.1; arcs = addition.0 ++ addition.1 ∷ [] }

-- a merger was made, of an arc that comes behind the arcs so far
pub takes_in :
    (before : Copied) (addition : List ℕ × ℕ) → are_same before.arcs addition.0 ≡ true → IsTrue (is_merger before.mine before.tree addition.1)
    → grown_copy before addition ≡ taken_in before addition
takes_in before addition same is = rw (same, is) (λ i. grown_copy before addition)

-- what is published goes on with the list
pub published_more :
    (mine : Instance) (copy next : Copied) (arcs more : List ℕ) (pending left : List (List ℕ × ℕ)) (arc : ℕ) → IsPublished mine copy arcs pending
    → IsTrue (is_merger copy.mine copy.tree arc) → next ≡ taken_in copy (arcs, arc) → more ≡ arcs ++ arc ∷ [] → left ≡ [] → IsPublished mine next more left
published_more mine copy next arcs more pending left arc was is to list none =
    let now : next ≡ grown_copy copy (arcs, arc) = to ∙ sym (takes_in copy (arcs, arc) (same_where copy.arcs arcs was.known) is) in
    let version : IsVersion mine (merged mine copy.tree arc) (arcs ++ arc ∷ []) = version-snoc mine copy.tree arcs arc was.version (subst (λ m. IsTrue (is_merger m copy.tree arc)) was.instance is) in record {
      instance = ap (λ t. t.mine) now ∙ was.instance;
      version = subst (λ (p : Tree × List ℕ). IsVersion mine p.0 p.1) (λ i. (sym (ap (λ t. t.tree) now ∙ ap (λ m. merged m copy.tree arc) was.instance) i, sym list i)) version;
      known = ap (λ t. t.arcs) now ∙ sym list;
      none_left = none;
    }

pub ok_side : {X E : Type 0} (r : Result X E) (P Q : Type 0) → IsOk r → MatchResult r (λ _. P) (λ _. Q) → P
ok_side (Ok x) P Q is h = h
ok_side (Err e) P Q is h = absurd (cc is)
