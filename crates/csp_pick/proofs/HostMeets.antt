-- The host that is picked is valid, and each literal of the cell on hosts is true of it.
use Rattle.std.proofs.Common.{◌≡◌, ◌≢◌, ◌∙◌, refl, sym, ap, subst, ℕ, Bool, true, false, not, List, [], ◌∷◌, get_or, filter, Some, None, All, Any, inl, inr, codes}
use Rattle.std.specs.List.{list_any}
use Rattle.std.proofs.lemmas.Bool.{false_from_ne_true, false≢true, not-true}
use Rattle.std.proofs.lemmas.List.Elements.{All-contains, All-contains_itself}
use Rattle.csp_model.proofs.EqualityDecided.{same_host_decides}
use Rattle.csp_model.specs.DecideEnds.{is_host_under}
use Rattle.csp_model.specs.DecideEquality.{same_host}
use Rattle.csp_model.specs.DecideMatching.{is_domain_host}
use Rattle.csp_model.specs.Paths.{host_text}
use Rattle.csp_model.specs.Validity.{IsValidHost}
use Rattle.csp_model.specs.declared.check.CheckPart.TheVariants as part
use Rattle.csp_model.specs.declared.url.Host.{Host}
use Rattle.csp_model.specs.declared.url.Host.TheVariants.{Domain, Address}
use Rattle.csp_facts.specs.Atoms.{part_of, IsValidAtom}
use Rattle.csp_facts.specs.Follows.{follows_true, Refutes}
use Rattle.csp_facts.specs.declared.atom.Atom.{Atom}
use Rattle.csp_facts.specs.declared.atom.Atom.TheVariants.{HostIs, HostUnder, HostDomain}
use Rattle.csp_facts.specs.declared.atom.Literal.{Literal}
use Rattle.csp_cell.specs.Cells.{IsCell, IsOf, Region, places}
use Rattle.csp_pick.specs.Fresh.{IsNumbered}
use Rattle.csp_pick.specs.Parts.{agrees, IsDenied, MeetPart, host_holds}
use Rattle.csp_pick.specs.Said.{host_of, suffix_of, is_on_domains, text_of}
use Rattle.csp_pick.proofs.HostDomains.{alone_under, below_under}
use Rattle.csp_pick.proofs.PairsMet.{some_passes}
use Rattle.csp_pick.proofs.Placed.{said_by, of_filter, filter_has, positive_of, beside_placed, denial_of, unrefuted, agrees_placed, agrees_denied, follows_placed, placed_meets}

-- A host that is another one than an atom names

other_text : (host other : Host) → Some (host_text other) ≢ Some (host_text host) → same_host host other ≡ false
other_text host other apart = false_from_ne_true (same_host host other) (λ e.
    apart (ap (λ (h : Host). Some (host_text h)) (sym ((same_host_decides host other).0 e))))

abbrev IsUnsaid : List ℕ → Atom → Type 0
IsUnsaid text a = text_of a ≢ Some text

below_atom : (s text : List ℕ) (a : Atom) → IsNumbered (codes "other") (46 ∷ s) text → IsUnsaid text a → follows_true (HostUnder s) a ≢ Some true → host_holds (Domain text) a ≡ false
below_atom s text (HostIs other) is unsaid lets = other_text (Domain text) other unsaid
below_atom s text (HostUnder t) is unsaid lets =
    false_from_ne_true (is_host_under (Domain text) t) (λ under. lets (rw (below_under s text t is under) refl))
below_atom s text HostDomain is unsaid lets = absurd (lets refl)
below_atom s text a is unsaid lets = refl

alone_atom : (text : List ℕ) (a : Atom) → IsNumbered (codes "other") [] text → IsUnsaid text a → is_on_domains a ≡ false → host_holds (Domain text) a ≡ false
alone_atom text (HostIs other) is unsaid off = other_text (Domain text) other unsaid
alone_atom text (HostUnder t) is unsaid off = alone_under text t is
alone_atom text HostDomain is unsaid off = cc
alone_atom text a is unsaid off = refl

address_atom : (text : List ℕ) (a : Atom) → IsUnsaid text a → host_holds (Address text) a ≡ false
address_atom text (HostIs other) unsaid = other_text (Address text) other unsaid
address_atom text (HostUnder t) unsaid = refl
address_atom text HostDomain unsaid = refl
address_atom text a unsaid = refl

abbrev NoneSays : List Literal → List ℕ → Type 0
NoneSays ls text = All (λ l. IsUnsaid text l.atom) ls

module _ (ls : List Literal) (text : List ℕ) (fresh : NoneSays ls text) where
  pub below_denied : (s : List ℕ) → IsNumbered (codes "other") (46 ∷ s) text → All (λ l. follows_true (HostUnder s) l.atom ≢ Some true) ls → IsDenied ls (Domain text)
  below_denied s is lets k d h = below_atom s text (get_or ls k d).atom is (fresh k d h) (lets k d h)

  pub alone_denied : IsNumbered (codes "other") [] text → All (λ l. is_on_domains l.atom ≡ false) ls → IsDenied ls (Domain text)
  alone_denied is off k d h = alone_atom text (get_or ls k d).atom is (fresh k d h) (off k d h)

  pub address_denied : IsDenied ls (Address text)
  address_denied k d h = address_atom text (get_or ls k d).atom (fresh k d h)

-- The literals of a cell

is_host : (a : Atom) (h : Host) → host_of a ≡ Some h → a ≡ HostIs h
is_host (HostIs g) h e = ap HostIs cc
is_host a h e = absurd cc

is_suffix : (a : Atom) (s : List ℕ) → suffix_of a ≡ Some s → a ≡ HostUnder s
is_suffix (HostUnder t) s e = ap HostUnder cc
is_suffix a s e = absurd cc

is_domains : (a : Atom) → is_on_domains a ≡ true → a ≡ HostDomain
is_domains HostDomain e = refl
is_domains a e = cc

known : (host : Host) (a : Atom) → part_of a ≡ part.Host → follows_true (HostIs host) a ≡ Some (host_holds host a)
known host (HostIs other) on = refl
known host (HostUnder t) on = refl
known host HostDomain on = refl
known host a on = absurd cc

left : (a : Atom) → part_of a ≡ part.Host → host_of a ≡ None → suffix_of a ≡ None → a ≡ HostDomain
left HostDomain on no_host no_suffix = refl
left a on no_host no_suffix = absurd cc

-- what a literal that only stands beside +HostUnder isn't decided to be
undecided : (s : List ℕ) (a : Atom) (sign : Bool) → places (record { atom = a; positive = sign }) ≡ false → follows_true (HostUnder s) a ≢ Some (not sign)
    → follows_true (HostUnder s) a ≢ Some true
undecided s a false unplaced apart = apart
undecided s (HostIs h) true unplaced apart = absurd (false≢true (sym unplaced))
undecided s (HostUnder t) true unplaced apart = absurd (false≢true (sym unplaced))
undecided s HostDomain true unplaced apart = absurd (false≢true (sym unplaced))
undecided s a true unplaced apart = λ e. cc

module _ (cell : Region) (is : IsCell cell) where
  abbrev ls : List Literal
  ls = cell.literals

  abbrev others : List Literal
  others = filter (λ l. not (places l)) ls

  denied : (host : Host) (l : Literal) → part_of l.atom ≡ part.Host → places l ≡ false → host_holds host l.atom ≡ false → agrees (host_holds host) l ≡ true
  denied host l on unplaced fails = agrees_denied (host_holds host) l (denial_of part.Host l (λ e. cc) on unplaced) fails

  -- a literal names the host

  pub wanted_meets : (host : Host) → Any (λ l. host_of l.atom ≡ Some host) (filter places ls) → MeetPart part.Host (host_holds host) ls
  wanted_meets host said =
      let (m, has, placing, says) = said_by host_of places ls host said in
      placed_meets part.Host (host_holds host) ls m is.pairs has (positive_of m placing)
      (λ a on. ap (λ b. follows_true b a) (is_host m.atom host says) ∙ known host a on)

  pub wanted_is_valid : (host : Host) → Any (λ l. host_of l.atom ≡ Some host) (filter places ls) → IsValidHost host
  wanted_is_valid host said =
      let (m, has, placing, says) = said_by host_of places ls host said in
      subst IsValidAtom (is_host m.atom host says) (All-contains (IsOf cell.shape) ls m is.each has).0

  -- a literal asks for a suffix

  module _ (s : List ℕ) (said : Any (λ l. suffix_of l.atom ≡ Some s) (filter places ls)) where
    pub suffix_is_valid : IsValidAtom (HostUnder s)
    suffix_is_valid =
        let (m, has, placing, says) = said_by suffix_of places ls s said in
        subst IsValidAtom (is_suffix m.atom s says) (All-contains (IsOf cell.shape) ls m is.each has).0

    beside : (m l : Literal) → m.atom ≡ HostUnder s → m.positive ≡ true → ¬ Refutes m l → follows_true (HostUnder s) l.atom ≢ Some (not l.positive)
    beside m l at sign apart e = apart (follows_placed m l.atom sign ∙ ap (λ b. follows_true b l.atom) at ∙ e)

    pub suffix_open : All (λ l. follows_true (HostUnder s) l.atom ≢ Some true) others
    suffix_open =
        let (m, has, placing, says) = said_by suffix_of places ls s said in
        λ k d h.
        let l = get_or others k d in
        let (there, unplaced) = filter_has (λ l. not (places l)) ls l (All-contains_itself others k d h) in
        undecided s l.atom l.positive (not-true (places l) unplaced)
        (beside m l (is_suffix m.atom s says) (positive_of m placing) (All-contains (λ n. ¬ Refutes m n) ls l (unrefuted ls m is.pairs has) there))

    pub suffix_meets : (host : Host) → is_host_under host s ≡ true → IsDenied others host → MeetPart part.Host (host_holds host) ls
    suffix_meets host under fails k d h on =
        let (m, has, placing, says) = said_by suffix_of places ls s said in
        let at = is_suffix m.atom s says in
        let l = get_or ls k d in
        elim (beside_placed ls m is.pairs has placing k d h (ap part_of at ∙ sym on)) [
          | inl same ↦ subst (λ n. agrees (host_holds host) n ≡ true) same
              (agrees_placed (host_holds host) m (positive_of m placing) (ap (host_holds host) at ∙ under))
          | inr (unplaced, apart) ↦ denied host l on unplaced (of_filter (λ n. not (places n)) (λ n. host_holds host n.atom ≡ false) ls fails k d h (ap not unplaced))
        ]

  -- no literal does either

  module _ (no_host : All (λ l. host_of l.atom ≡ None) (filter places ls)) (no_suffix : All (λ l. suffix_of l.atom ≡ None) (filter places ls)) where
    unplaced_meets : (host : Host) → (All (λ l. places l ≡ true → l.atom ≡ HostDomain → is_domain_host host ≡ true) ls) → IsDenied others host
        → MeetPart part.Host (host_holds host) ls
    unplaced_meets host domains fails k d h on = by_place (places l) refl
      where
        l : Literal
        l = get_or ls k d

        by_place : (placing : Bool) → places l ≡ placing → agrees (host_holds host) l ≡ true
        by_place true placing =
            let at = left l.atom on (of_filter places (λ n. host_of n.atom ≡ None) ls no_host k d h placing) (of_filter places (λ n. suffix_of n.atom ≡ None) ls no_suffix k d h placing) in
            agrees_placed (host_holds host) l (positive_of l placing) (ap (host_holds host) at ∙ domains k d h placing at)
        by_place false unplaced = denied host l on unplaced (of_filter (λ n. not (places n)) (λ n. host_holds host n.atom ≡ false) ls fails k d h (ap not unplaced))

    pub domain_meets : (host : Host) → is_domain_host host ≡ true → IsDenied others host → MeetPart part.Host (host_holds host) ls
    domain_meets host domain fails = unplaced_meets host (λ k d h placing at. domain) fails

    -- where domains are denied no literal asks for one
    pub address_meets : (host : Host) → list_any (λ (l : Literal). is_on_domains l.atom) others ≡ true → IsDenied others host → MeetPart part.Host (host_holds host) ls
    address_meets host some fails =
        let (n, found, on) = some_passes (λ (l : Literal). is_on_domains l.atom) others some in
        let (there, unplaced) = filter_has (λ l. not (places l)) ls n found in
        let denial = denial_of part.Host n (λ e. cc) (ap part_of (is_domains n.atom on)) (not-true (places n) unplaced) in
        unplaced_meets host (λ k d h placing at.
        let l = get_or ls k d in
        let apart = All-contains (λ m. ¬ Refutes l m) ls n (unrefuted ls l is.pairs (All-contains_itself ls k d h)) there in
        absurd (apart (follows_placed l n.atom (positive_of l placing) ∙ rw (at, is_domains n.atom on, denial) refl))) fails
