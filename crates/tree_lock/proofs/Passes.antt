-- A pass over the board that has come to a worker: the entries so far stand under rising seats up to it,
-- and each word up to it was looked at.
use Rattle.std.proofs.Common.{◌≡◌, ℕ, zero, suc, add-one, ◌+◌, ◌-◌, ◌<◌, ◌≤◌, true, List, [], ◌∷◌, ◌++◌, length, append_assoc, append-nil, sym, refl, ap, ◌∙◌, subst, arith, length-append}
use Rattle.std.specs.List.{range_with_len}
use Rattle.pit_model.specs.declared.journal.Entry.{Entry}
use Rattle.tree_lock.specs.PublishedJournal.{entry_of}
use Rattle.tree_lock.specs.HolderState.{HolderState, with_look}
use Rattle.tree_lock.specs.Served.{LooksAtFirst, AreRisingSeats, Serves, ServesOne}

abbrev pub AreUpTo : ℕ → List Entry → Type 0
AreUpTo w [] = Unit {0}
AreUpTo w (e ∷ es) = (e.seat ≤ w) × AreUpTo w es

pub record HasCome (w n : ℕ) (h k : HolderState) : Type 0 where
  pub served : Serves h k n
  pub upto : AreUpTo w served.more
  pub looked : LooksAtFirst w h k

further : (w v : ℕ) (es : List Entry) → w ≤ v → AreUpTo w es → AreUpTo v es
further w v [] le u = tt
further w v (e ∷ es) le u = (let a = u.0 in omega arith, further w v es le u.1)

upto_snoc : (w : ℕ) (es : List Entry) (e : Entry) → AreUpTo w es → e.seat ≤ w → AreUpTo w (es ++ e ∷ [])
upto_snoc w [] e u le = (le, tt)
upto_snoc w (x ∷ xs) e u le = (u.0, upto_snoc w xs e u.1 le)

rising_snoc : (v w : ℕ) (es : List Entry) (e : Entry) → v ≤ w → AreRisingSeats v es → AreUpTo w es → w < e.seat → AreRisingSeats v (es ++ e ∷ [])
rising_snoc v w [] e le r u lt = (omega arith, tt)
rising_snoc v w (x ∷ xs) e le r u lt = (r.0, rising_snoc x.seat w xs e u.0 r.1 u.1 lt)

range_more : (a n b : ℕ) → a + n ≡ b → range_with_len a (suc n) ≡ range_with_len a n ++ b ∷ []
range_more a zero b e = let same : a ≡ b = omega arith in ap (λ (x : ℕ). x ∷ []) same
range_more a (suc n) b e = ap (λ (l : List ℕ). a ∷ l) (range_more (a + 1) n b (omega arith))

-- a look at the word of the next worker
looks_on : (w : ℕ) (h k : HolderState) → LooksAtFirst w h k → k.looks ++ ((w + 1) - 1) ∷ [] ≡ h.looks ++ range_with_len 0 (w + 1)
looks_on w h k s =
    let cell : (w + 1) - 1 ≡ w = omega arith in
    ap (λ (l : List ℕ). l ++ ((w + 1) - 1) ∷ []) s
    ∙ (append_assoc h.looks (range_with_len 0 w) (((w + 1) - 1) ∷ [])
    ∙ ap (λ (l : List ℕ). h.looks ++ l) (ap (λ (x : ℕ). range_with_len 0 w ++ x ∷ []) cell ∙ sym (ap (range_with_len 0) (add-one w) ∙ range_more 0 w w (omega arith))))

pub begins : (h : HolderState) → HasCome 0 0 h h
begins h = record {
  served = record { more = []; journal = sym (append-nil h.journal); counted = refl; rising = tt; mine = refl; budget = refl };
  upto = tt;
  looked = sym (append-nil h.looks);
}

-- a look that nothing came of
pub skips : (w n : ℕ) (h k k' : HolderState) → HasCome w n h k → k' ≡ with_look k ((w + 1) - 1) → HasCome (w + 1) n h k'
skips w n h k k' s e = let f = s.served in subst (HasCome (w + 1) n h) (sym e) record {
  served = record { more = f.more; journal = f.journal; counted = f.counted; rising = f.rising; mine = f.mine; budget = f.budget };
  upto = further w (w + 1) f.more (omega arith) s.upto;
  looked = looks_on w h k s.looked;
}

pub adds : (w n : ℕ) (h k k' : HolderState) → HasCome w n h k → ServesOne (w + 1) k k' true → HasCome (w + 1) (n + 1) h k'
adds w n h k k' s d =
    let e : Entry = entry_of (w + 1) d.0 d.1 in
    let f = s.served in
    subst (HasCome (w + 1) (n + 1) h) (sym d.2.1) record {
      served = record {
        more = f.more ++ e ∷ [];
        journal = ap (λ (l : List Entry). l ++ e ∷ []) f.journal ∙ append_assoc h.journal f.more (e ∷ []);
        counted = omega (arith, length-append f.more (e ∷ []), f.counted);
        rising = rising_snoc 0 w f.more e (omega arith) f.rising s.upto (omega arith);
        mine = f.mine;
        budget = f.budget;
      };
      upto = upto_snoc (w + 1) f.more e (further w (w + 1) f.more (omega arith) s.upto) (omega arith);
      looked = looks_on w h k s.looked;
    }

few : (v w : ℕ) (es : List Entry) → v ≤ w → AreRisingSeats v es → AreUpTo w es → v + length es ≤ w
few v w [] le r u = omega arith
few v w (x ∷ xs) le r u = let h = few x.seat w xs u.0 r.1 u.1 in let a = r.0 in omega arith

pub count_within : (w n : ℕ) (h k : HolderState) → HasCome w n h k → n ≤ w
count_within w n h k s = let f = s.served in let b = few 0 w f.more (omega arith) f.rising s.upto in let c = f.counted in omega arith
