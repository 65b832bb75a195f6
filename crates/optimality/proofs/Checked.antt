-- What the passes of the check have found together is that the conditions of a certificate with fixed blocks hold.
use Rattle.std.proofs.Common.{◌≡◌, ℕ, ◌<◌, ◌≤◌, Bool, true, false, ltb, refl, sym, ap, ◌∙◌, arith, subst, ⊎_elim, List, length}
use Rattle.std.specs.Prelude.{◌↔◌, ◌&&◌, ℤ, pos, ◌≤ℤ◌, IsTrue}
use Rattle.std.proofs.lemmas.Bool.{and_parts, and_from, cases_lt, false≢true, lt-ltb, ltb-true, true≢false, false_from_ne_true}
use Rattle.std.proofs.lemmas.List.{get_or_past}
use Rattle.std.proofs.lemmas.List.Elements.{All-get_or}
use Rattle.pit_model.specs.declared.direction.Direction.TheVariants.{Least}
use Rattle.pit_model.specs.Mine.{Instance, PairsInRange, arcs, source, target, members}
use Rattle.pit_model.specs.Certificate.{IsCertificate}
use Rattle.pit_model.specs.Pit.{Fixed, ListsPit, no_blocks_fixed}
use Rattle.pit_model.specs.Fixed.{AreSettled, CertifiesOpen, IsFixedCertificate, IsNothingFixed, fixed_of, graph_of_mine, is_among, is_open, transposed}
use Rattle.pit_model.proofs.Duality.{certificate_gives_pit}
use Rattle.pit_model.proofs.Fixed.{closure_is_one}
use Rattle.pit_model.proofs.OpenCertificates.{none_fixed_certifies, open_certificate_gives_fixed_pit}
use Rattle.mine_graph.specs.FixedBlocks.{FixedBlocks, IsFixedOf, forced_closure, barred_closure}
use Rattle.mine_graph.proofs.Among.{among_at}
use Rattle.optimality.specs.Check.{has, amount, open_in, AreAmounts, AreExcesses, AreReached, PairsAllow, BlocksAllow}
use Rattle.optimality.proofs.SameSet.{members_agree, reached_same}

-- the same set, with what is dug and left by other names
module _ (mine : Instance) (flow : ℕ → ℤ) (dug left set own_dug own_left own_set : ℕ → Bool) (range : PairsInRange mine)
    (dug_is : (u : ℕ) → own_dug u ≡ dug u) (left_is : (u : ℕ) → own_left u ≡ left u)
    (dug_below : (u : ℕ) → dug u ≡ true → u < mine.blocks) (set_below : (u : ℕ) → own_set u ≡ true → u < mine.blocks)
    (forth : (u : ℕ) → u < mine.blocks → set u ≡ true → own_set u ≡ true)
    (back : (u : ℕ) → u < mine.blocks → own_set u ≡ true → set u ≡ true) where
  open_is : (u : ℕ) → is_open own_dug own_left u ≡ is_open dug left u
  open_is u = rw (dug_is u, left_is u) refl

  open_back : (u : ℕ) → is_open own_dug own_left u ≡ true → is_open dug left u ≡ true
  open_back u e = sym (open_is u) ∙ e

  open_same : CertifiesOpen mine dug left set flow → CertifiesOpen mine own_dug own_left own_set flow
  open_same c = record {
    keeps = λ u h. let d = sym (dug_is u) ∙ h in forth u (dug_below u d) (c.keeps u d);
    misses = λ u h. false_from_ne_true (own_set u) (λ e. true≢false (sym (back u (set_below u e) e) ∙ c.misses u (sym (left_is u) ∙ h)));
    closed = λ k l h. forth (target mine k) (range k l).1 (c.closed k l (back (source mine k) (range k l).0 h));
    not_negative = c.not_negative;
    idle = λ k l h. c.idle k l (ap (λ b. b && is_open dug left (target mine k)) (sym (open_is (source mine k))) ∙ ap (λ b. is_open own_dug own_left (source mine k) && b) (sym (open_is (target mine k))) ∙ h);
    inside = λ u l o h. c.inside u l (open_back u o) (back u l h);
    outside = λ u l o no. c.outside u l (open_back u o) (λ h. no (forth u l h));
    none_enters = λ k l h no. c.none_enters k l (back (target mine k) (range k l).1 h) (λ i. no (forth (source mine k) (range k l).0 i));
    reached = λ u l o h.
        let r = c.reached u l (open_back u o) (back u l h) in (
          r.0,
          reached_same mine flow (λ v. set v && is_open dug left v) (λ v. own_set v && is_open own_dug own_left v)
              (λ v m p. let q = and_parts (set v) (is_open dug left v) p in and_from (own_set v) (is_open own_dug own_left v) (forth v m q.0) (open_is v ∙ q.1)) r.0 u l r.1,
        );
  }

module _ (mine : Instance) (fixed : FixedBlocks) (pit : List ℕ) (flow : List ℤ) (inside : List Bool)
    (of_mine : IsFixedOf (graph_of_mine mine) fixed) (range : PairsInRange mine) (counted : length flow ≡ arcs mine)
    (size : length inside ≡ mine.blocks) (listed : pit ≡ members mine.blocks (has inside)) where
  abbrev pub Meets : Type 0
  Meets = CertifiesOpen mine (forced_closure fixed) (barred_closure fixed) (has inside) (amount flow)

  -- what must be dug are blocks of the mine
  dug_below : (u : ℕ) → forced_closure fixed u ≡ true → u < mine.blocks
  dug_below u h = ltb-true u mine.blocks (of_mine.settled.dug_is.least (λ v. ltb v mine.blocks)
      (λ v e. let at = among_at fixed.lists.forced v e in lt-ltb v mine.blocks (subst (λ x. x < mine.blocks) at.3 (All-get_or (λ u. u < mine.blocks) fixed.lists.forced at.0 0 at.2 of_mine.fixable.forced_below)))
      (λ k l h. lt-ltb (target mine k) mine.blocks (range k l).1)
      u h)

  marked_below : (u : ℕ) → has inside u ≡ true → u < mine.blocks
  marked_below u e = ⊎_elim
      (λ (l : u < mine.blocks). l)
      (λ (l : mine.blocks ≤ u). absurd (false≢true (sym (get_or_past inside u false (omega arith)) ∙ e)))
      (cases_lt u mine.blocks)

  -- the conditions hold of the marks exactly where the list with the flow is a certificate
  pub listed_meets : Meets → IsFixedCertificate mine (fixed_of fixed.lists) pit flow
  listed_meets c = record { dug = forced_closure fixed; left = barred_closure fixed; settled = of_mine.settled; set = has inside; listed = listed; counted = counted; certifies = c }

  pub meets : IsFixedCertificate mine (fixed_of fixed.lists) pit flow → Meets
  meets c =
      let dug_is = closure_is_one mine.pairs (is_among fixed.lists.forced) (forced_closure fixed) c.dug of_mine.settled.dug_is c.settled.dug_is in
      open_same mine (amount flow) c.dug c.left c.set (forced_closure fixed) (barred_closure fixed) (has inside) range
      dug_is
      (closure_is_one (transposed mine.pairs) (is_among fixed.lists.barred) (barred_closure fixed) c.left of_mine.settled.left_is c.settled.left_is)
      (λ u h. dug_below u (dug_is u ∙ h)) marked_below
      (members_agree mine.blocks c.set (has inside) (sym c.listed ∙ listed))
      (members_agree mine.blocks (has inside) c.set (sym listed ∙ c.listed))
      c.certifies

  -- a certificate's pairs pass
  pub pairs_take : (a : Bool) → IsTrue a ↔ PairsAllow mine.pairs (open_in fixed) flow inside (arcs mine) → Meets → IsTrue a
  pairs_take a one c = one.1 (λ k l. record {
    closed = λ h. c.closed k l h;
    none_enters = λ h f. c.none_enters k l h (λ e. false≢true (sym f ∙ e));
    idle = λ h. c.idle k l h;
  })

  module _ (excesses : List ℤ) (both seen : List Bool) (a b : Bool)
      (amounts : AreAmounts flow)
      (marks : (u : ℕ) → u < mine.blocks → has both u ≡ (has inside u && open_in fixed u))
      (sums : AreExcesses mine flow excesses)
      (reached : AreReached mine flow both seen)
      (one : IsTrue a ↔ PairsAllow mine.pairs (open_in fixed) flow inside (arcs mine))
      (two : IsTrue b ↔ BlocksAllow fixed excesses inside seen mine.blocks) where
    gives : IsTrue (a && b) → Meets
    gives e =
        let p = and_parts a b e in
        let x = one.0 p.0 in
        let y = two.0 p.1 in
        record {
          keeps = λ u h. (y u (dug_below u h)).keeps h;
          misses = λ u h. false_from_ne_true (has inside u) (λ e. true≢false (sym e ∙ (y u (marked_below u e)).misses h));
          closed = λ k l h. (x k l).closed h;
          not_negative = λ k l. (amounts k (subst (λ m. k < m) (sym counted) l)).0;
          idle = λ k l h. (x k l).idle h;
          inside = λ u l o h. subst (λ z. pos 0 ≤ℤ z) (sums u l) ((y u l).within o h).1;
          outside = λ u l o h. subst (λ z. z ≤ℤ pos 0) (sums u l) ((y u l).outside o (false_from_ne_true (has inside u) h));
          none_enters = λ k l h f. (x k l).none_enters h (false_from_ne_true (has inside (source mine k)) f);
          reached = λ u l o h.
              let r = (reached u l).0 ((y u l).within o h).0 in
              (r.0, reached_same mine (amount flow) (has both) (λ v. has inside v && open_in fixed v) (λ v m e. sym (marks v m) ∙ e) r.0 u l r.1);
        }

    takes : Meets → IsTrue (a && b)
    takes c = and_from a b
        (pairs_take a one c)
        (two.1 (λ u l. record {
          keeps = λ h. c.keeps u h;
          misses = λ h. c.misses u h;
          within = λ o h.
              let r = c.reached u l o h in
              ((reached u l).1 (r.0, reached_same mine (amount flow) (λ v. has inside v && open_in fixed v) (has both) (λ v m e. marks v m ∙ e) r.0 u l r.1), subst (λ z. pos 0 ≤ℤ z) (sym (sums u l)) (c.inside u l o h));
          outside = λ o h. subst (λ z. z ≤ℤ pos 0) (sym (sums u l)) (c.outside u l o (λ e. false≢true (sym h ∙ e)));
        }))

    pub certified : IsTrue (a && b) ↔ IsFixedCertificate mine (fixed_of fixed.lists) pit flow
    certified = (λ e. listed_meets (gives e), λ c. takes (meets c))

-- a certificate shows the pit
pub shows_fixed : (mine : Instance) (fixed : Fixed) (pit : List ℕ) (flow : List ℤ) → PairsInRange mine → IsFixedCertificate mine fixed pit flow → ListsPit Least mine fixed pit
shows_fixed mine fixed pit flow range c =
    record { set = c.set; listed = c.listed; is_pit = open_certificate_gives_fixed_pit mine fixed c.dug c.left c.set (amount flow) range c.settled c.certifies }

-- where nothing is fixed, it is a certificate as it is without fixed blocks
pub none_fixed_is : (mine : Instance) (fixed : Fixed) (dug left : ℕ → Bool) (pit : List ℕ) (flow : List ℤ) → AreSettled mine.pairs fixed dug left → IsNothingFixed fixed
    → IsFixedCertificate mine fixed pit flow ↔ IsCertificate mine pit flow
none_fixed_is mine fixed dug left pit flow settled none = (
  λ c. record { set = c.set; listed = c.listed; counted = c.counted; certifies = (none_fixed_certifies mine fixed c.dug c.left c.set (amount flow) none c.settled).0 c.certifies },
  λ c. record { dug = dug; left = left; settled = settled; set = c.set; listed = c.listed; counted = c.counted; certifies = (none_fixed_certifies mine fixed dug left c.set (amount flow) none settled).1 c.certifies },
)

pub shows : (mine : Instance) (pit : List ℕ) (flow : List ℤ) → PairsInRange mine → IsCertificate mine pit flow → ListsPit Least mine no_blocks_fixed pit
shows mine pit flow range c = record { set = c.set; listed = c.listed; is_pit = certificate_gives_pit mine c.set (amount flow) range c.certifies }
