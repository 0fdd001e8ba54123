-- The names of what sources ask for apart from URLs, and what they say.
use Rattle.std.proofs.Common.{◌≡◌, ◌∙◌, sym, ap, ap₂, refl, subst, ℕ, ◌<◌, ◌==◌, Bool, true, false, ◌||◌, not, cond, List, [], ◌∷◌, ◌++◌, map, length, Option, Some, None, All}
use Rattle.std.specs.List.{AllZip, cons_option, filter_map, list_any, slice_get, slice_index_or}
use Rattle.std.specs.Option.{option_map}
use Rattle.std.proofs.lemmas.Bool.{false≢true, true≢false}
use Rattle.std.proofs.lemmas.Bool.Decides.{Decides-eqb, same_from_decides}
use Rattle.std.proofs.lemmas.List.Elements.{All-cons, All-head, All-nil, All-tail}
use Rattle.std.proofs.lemmas.Option.{get_or_from_slice_get, slice_get_within}
use Rattle.csp_model.specs.DecideEquality.{same_hash}
use Rattle.csp_model.specs.DecideTokens.{is_hash}
use Rattle.csp_model.specs.declared.check.Digest.{Digest}
use Rattle.csp_model.specs.declared.source.Hash.{Hash}
use Rattle.csp_model.specs.declared.source.Source.{Source}
use Rattle.csp_model.specs.declared.source.Source.TheVariants as source
use Rattle.csp_model.specs.declared.url.Origin.{Origin}
use Rattle.csp_model.proofs.EqualityDecided.{same_hash_decides}
use Rattle.csp_facts.specs.Holding.{has_hash}
use Rattle.csp_facts.specs.Vocabulary.{hash_of_source}
use Rattle.csp_facts.specs.declared.atom.Atom.{Atom}
use Rattle.csp_facts.specs.declared.atom.Atom.TheVariants.{DigestIs, IntegrityHas, IntegrityOutside, NonceIs}
use Rattle.csp_branch.specs.Numbers.{AreInOrder}
use Rattle.csp_formula.specs.Compiled.{digest_fact, digest_of, has_pair, integrity_sentence, nonce_fact, other_hashes, pairs_sentence}
use Rattle.csp_formula.specs.Sentences.{Sentence, Fact, Not, all_of, any_of}
use Rattle.csp_formula.specs.Surely.{surely}
use Rattle.csp_formula.proofs.MembersOf.{own_has}
use Rattle.csp_answer.specs.Answers.{IsIntegrityThere, denial_in, integrity_in, name_in}
use Rattle.csp_answer.specs.Asking.{AmountTo, names_but, word_name, word_names, word_sentence}
use Rattle.csp_answer.specs.Naming.{ArePairs, IsSourceNamed, StandAt}
use Rattle.csp_answer.specs.declared.answer.Integrity.{Integrity}
use Rattle.csp_answer.specs.declared.conjunction.Conjunction.{Conjunction}
use Rattle.csp_answer.specs.declared.naming.PairNames.{PairNames}
use Rattle.csp_answer.specs.declared.naming.SourceNames.{SourceNames}
use Rattle.csp_answer.specs.declared.words.WordKind.{WordKind}
use Rattle.csp_answer.specs.declared.words.WordKind.TheVariants as word
use Rattle.csp_answer.proofs.Among.{among_same, ended_among}
use Rattle.csp_answer.proofs.Amounts.{and_always, joined, never, one}
use Rattle.csp_answer.proofs.AskedParts.{atom_of}

-- Words as atoms

abbrev pub word_atom : WordKind → Source → Option Atom
word_atom word.Nonce (source.Nonce value) = Some (NonceIs value)
word_atom word.Pair (source.Digest hash) = Some (IntegrityHas hash)
word_atom word.Digest (source.Digest hash) = option_map DigestIs (digest_of hash)
word_atom which s = None

abbrev pub word_atoms : WordKind → List Source → List Atom
word_atoms which sources = filter_map (word_atom which) sources

nonce_facts : (sources : List Source) → filter_map nonce_fact sources ≡ map Fact (word_atoms word.Nonce sources)
nonce_facts [] = refl
nonce_facts (source.Nonce value ∷ sources) = ap (λ fs. Fact (NonceIs value) ∷ fs) (nonce_facts sources)
nonce_facts (s ∷ sources) = nonce_facts sources

pub pair_facts : (sources : List Source) → map has_pair (filter_map hash_of_source sources) ≡ map Fact (word_atoms word.Pair sources)
pair_facts [] = refl
pair_facts (source.Digest hash ∷ sources) = ap (λ fs. has_pair hash ∷ fs) (pair_facts sources)
pair_facts (s ∷ sources) = pair_facts sources

one_digest : (found : Option Digest) (facts : List Sentence) (atoms : List Atom) → facts ≡ map Fact atoms
    → cons_option (option_map (λ d. Fact (DigestIs d)) found) facts ≡ map Fact (cons_option (option_map DigestIs found) atoms)
one_digest None facts atoms same = same
one_digest (Some digest) facts atoms same = ap (λ fs. Fact (DigestIs digest) ∷ fs) same

digest_facts : (sources : List Source) → filter_map digest_fact sources ≡ map Fact (word_atoms word.Digest sources)
digest_facts [] = refl
digest_facts (source.Digest hash ∷ sources) = one_digest (digest_of hash) (filter_map digest_fact sources) (word_atoms word.Digest sources) (digest_facts sources)
digest_facts (s ∷ sources) = digest_facts sources

word_says : (which : WordKind) (sources : List Source) → any_of (map Fact (word_atoms which sources)) ≡ word_sentence which sources
word_says word.Nonce sources = ap any_of (sym (nonce_facts sources))
word_says word.Pair sources = ap any_of (sym (pair_facts sources))
word_says word.Digest sources = ap any_of (sym (digest_facts sources))

-- Names of words

-- the conjunction of one name
abbrev pub alone : ℕ → Conjunction
alone name = record { lead = Some name; port = None; path = None }

module _ (atoms : List Atom) where
  word_named : (which : WordKind) (self : Origin) (s : Source) (names : SourceNames) → IsSourceNamed atoms self s names
      → option_map (slice_get atoms) (word_name which s names) ≡ option_map Some (word_atom which s)
  word_named word.Nonce self (source.Nonce value) names named = named.lead
  word_named word.Pair self (source.Digest hash) names named = named.lead
  word_named word.Digest self (source.Digest hash) names named = named.rest
  word_named which self s names named = refl

  one_stands : (name : Option ℕ) (atom : Option Atom) (names : List ℕ) (given : List Atom) → option_map (slice_get atoms) name ≡ option_map Some atom → StandAt atoms names given
      → StandAt atoms (cons_option name names) (cons_option atom given)
  one_stands None None names given is stand = stand
  one_stands None (Some atom) names given is stand = absurd cc
  one_stands (Some name) None names given is stand = absurd cc
  one_stands (Some name) (Some atom) names given is stand =
      let here : slice_get atoms name ≡ Some atom = cc in ap₂ (λ (x : Option Atom) (xs : List (Option Atom)). x ∷ xs) here stand

  pub words_stand : (which : WordKind) (self : Origin) (sources : List Source) (names : List SourceNames) → AllZip (IsSourceNamed atoms self) sources names
      → StandAt atoms (word_names which sources names) (word_atoms which sources)
  words_stand which self [] [] named = refl
  words_stand which self [] (n ∷ names) named = absurd named
  words_stand which self (s ∷ sources) [] named = absurd named
  words_stand which self (s ∷ sources) (n ∷ names) named =
      one_stands (word_name which s n) (word_atom which s) (word_names which sources names) (word_atoms which sources) (word_named which self s n named.0)
      (words_stand which self sources names named.1)

  -- names that stand for these atoms

  pub names_amount : (names : List ℕ) (given : List Atom) → StandAt atoms names given → AmountTo atoms (any_of (map Fact given)) (map alone names)
  names_amount [] [] stand = never atoms
  names_amount [] (a ∷ given) stand = absurd cc
  names_amount (n ∷ names) [] stand = absurd cc
  names_amount (n ∷ names) (a ∷ given) stand =
      let here : slice_get atoms n ≡ Some a = cc in
      let later : StandAt atoms names given = cc in
      joined atoms (Fact a) (any_of (map Fact given)) (alone n ∷ []) (map alone names)
      (one atoms (alone n) (Fact a) (λ ls. and_always (surely ls (name_in atoms n)) ∙ ap (λ x. surely ls (Fact x)) (atom_of atoms n a here))
      (ended_among (name_in atoms n) (Fact a) true (among_same (name_in atoms n) (Fact a) (ap Fact (atom_of atoms n a here))))
      (record { lead = slice_get_within atoms n a here; port = tt; path = tt }))
      (names_amount names given later)

  pub words_amount : (which : WordKind) (self : Origin) (sources : List Source) (names : List SourceNames) → AllZip (IsSourceNamed atoms self) sources names
      → AmountTo atoms (word_sentence which sources) (map alone (word_names which sources names))
  words_amount which self sources names named =
      subst (λ s. AmountTo atoms s (map alone (word_names which sources names))) (word_says which sources)
      (names_amount (word_names which sources names) (word_atoms which sources) (words_stand which self sources names named))

  pub names_say : (names : List ℕ) (given : List Atom) → StandAt atoms names given → map (name_in atoms) names ≡ map Fact given
  names_say [] [] stand = refl
  names_say [] (a ∷ given) stand = absurd cc
  names_say (n ∷ names) [] stand = absurd cc
  names_say (n ∷ names) (a ∷ given) stand =
      let here : slice_get atoms n ≡ Some a = cc in
      let later : StandAt atoms names given = cc in
      ap₂ (λ (x : Sentence) (xs : List Sentence). x ∷ xs) (ap Fact (atom_of atoms n a here)) (names_say names given later)

  pub names_there : (names : List ℕ) (given : List Atom) → StandAt atoms names given → All (λ n. n < length atoms) names
  names_there [] given stand = All-nil (λ n. n < length atoms)
  names_there (n ∷ names) [] stand = absurd cc
  names_there (n ∷ names) (a ∷ given) stand =
      let here : slice_get atoms n ≡ Some a = cc in
      let later : StandAt atoms names given = cc in
      All-cons (λ n. n < length atoms) n names (slice_get_within atoms n a here) (names_there names given later)

-- The rule on integrity metadata

-- an atom has one name, by the law that says so
pub one_by_law : (atoms : List Atom)
    → ((xs : List Atom) (i j : ℕ) (d : Atom) → AreInOrder xs → i < length xs → j < length xs → slice_index_or xs i d ≡ slice_index_or xs j d → i ≡ j)
    → AreInOrder atoms → (i j : ℕ) (a : Atom) → slice_get atoms i ≡ Some a → slice_get atoms j ≡ Some a → i ≡ j
one_by_law atoms law rise i j a is at =
    law atoms i j a rise (slice_get_within atoms i a is) (slice_get_within atoms j a at)
    (get_or_from_slice_get atoms i a a is ∙ sym (get_or_from_slice_get atoms j a a at))

module _ (atoms : List Atom) (one_name : (i j : ℕ) (a : Atom) → slice_get atoms i ≡ Some a → slice_get atoms j ≡ Some a → i ≡ j) where
  same_pair : (n m : ℕ) (h g : Hash) → slice_get atoms n ≡ Some (IntegrityHas h) → slice_get atoms m ≡ Some (IntegrityHas g) → (n == m) ≡ same_hash g h
  same_pair n m h g is at =
      same_from_decides (n == m) (same_hash g h) (Decides-eqb n m) (
        λ e. let same = (same_hash_decides g h).0 e in one_name n m (IntegrityHas h) is (at ∙ ap (λ x. Some (IntegrityHas x)) same),
        λ e. (same_hash_decides g h).1 (let both : Some (IntegrityHas g) ≡ Some (IntegrityHas h) = sym at ∙ sym (ap (slice_get atoms) e) ∙ is in cc),
      )

  abbrev Pairs : List ℕ → List Hash → Type 0
  Pairs names hashes = map (slice_get atoms) names ≡ map (λ (h : Hash). Some (IntegrityHas h)) hashes

  own_pair : (n : ℕ) (h : Hash) → slice_get atoms n ≡ Some (IntegrityHas h) → (names : List ℕ) (hashes : List Hash) → Pairs names hashes
      → list_any (λ m. n == m) names ≡ has_hash hashes h
  own_pair n h is [] [] stand = refl
  own_pair n h is [] (g ∷ hashes) stand = absurd cc
  own_pair n h is (m ∷ names) [] stand = absurd cc
  own_pair n h is (m ∷ names) (g ∷ hashes) stand =
      let here : slice_get atoms m ≡ Some (IntegrityHas g) = cc in
      let later : Pairs names hashes = cc in
      ap₂ (λ (a b : Bool). a || b) (same_pair n m h g is here) (own_pair n h is names hashes later)

  kept : (b d : Bool) (n : ℕ) (h : Hash) (names : List ℕ) (hashes : List Hash) → b ≡ d → denial_in atoms n ≡ Not (has_pair h)
      → map (denial_in atoms) names ≡ map (λ g. Not (has_pair g)) hashes
      → map (denial_in atoms) (cond (not b) (n ∷ names) names) ≡ map (λ g. Not (has_pair g)) (cond (not d) (h ∷ hashes) hashes)
  kept true true n h names hashes same here later = later
  kept true false n h names hashes same here later = absurd (true≢false same)
  kept false true n h names hashes same here later = absurd (false≢true same)
  kept false false n h names hashes same here later = ap₂ (λ (x : Sentence) (xs : List Sentence). x ∷ xs) here later

  others_say : (own : List ℕ) (sources : List Source) → Pairs own (filter_map hash_of_source sources) → (names : List ℕ) (hashes : List Hash) → Pairs names hashes
      → map (denial_in atoms) (names_but names own) ≡ map (λ h. Not (has_pair h)) (other_hashes hashes sources)
  others_say own sources stands [] [] stand = refl
  others_say own sources stands [] (h ∷ hashes) stand = absurd cc
  others_say own sources stands (n ∷ names) [] stand = absurd cc
  others_say own sources stands (n ∷ names) (h ∷ hashes) stand =
      let here : slice_get atoms n ≡ Some (IntegrityHas h) = cc in
      let later : Pairs names hashes = cc in
      kept (list_any (λ m. n == m) own) (list_any (is_hash h) sources) n h (names_but names own) (other_hashes hashes sources)
      (own_pair n h here own (filter_map hash_of_source sources) stands ∙ sym (own_has sources h))
      (ap (λ a. Not (Fact a)) (atom_of atoms n (IntegrityHas h) here)) (others_say own sources stands names hashes later)

  pair_atoms : (sources : List Source) → map Some (word_atoms word.Pair sources) ≡ map (λ (h : Hash). Some (IntegrityHas h)) (filter_map hash_of_source sources)
  pair_atoms [] = refl
  pair_atoms (source.Digest hash ∷ sources) = ap (λ (xs : List (Option Atom)). Some (IntegrityHas hash) ∷ xs) (pair_atoms sources)
  pair_atoms (s ∷ sources) = pair_atoms sources

  own_said : (sources : List Source) (own : List ℕ) → StandAt atoms own (word_atoms word.Pair sources)
      → any_of (map (name_in atoms) own) ≡ pairs_sentence sources
  own_said sources own stand = ap any_of (names_say atoms own (word_atoms word.Pair sources) stand) ∙ word_says word.Pair sources

  pub integrity_says : (hashes : List Hash) (pairs : PairNames) (self : Origin) (sources : List Source) (names : List SourceNames) (made : Integrity)
      → ArePairs atoms hashes pairs → AllZip (IsSourceNamed atoms self) sources names → made.outside ≡ pairs.outside
      → made.own.items ≡ word_names word.Pair sources names → made.others.items ≡ names_but pairs.pairs.items (word_names word.Pair sources names)
      → integrity_in atoms (Some made) ≡ integrity_sentence hashes sources
  integrity_says hashes pairs self sources names made are named outside own others =
      let stand = words_stand atoms word.Pair self sources names named in
      let whole = word_names word.Pair sources names in
      ap (λ n. all_of (denial_in atoms n ∷ (map (denial_in atoms) made.others.items ++ any_of (map (name_in atoms) made.own.items) ∷ []))) outside
      ∙ ap (λ a. all_of (Not (Fact a) ∷ (map (denial_in atoms) made.others.items ++ any_of (map (name_in atoms) made.own.items) ∷ []))) (atom_of atoms pairs.outside IntegrityOutside are.outside)
      ∙ ap₂ (λ (xs : List Sentence) (x : Sentence). all_of (Not (Fact IntegrityOutside) ∷ (xs ++ x ∷ [])))
      (ap (map (denial_in atoms)) others ∙ others_say whole sources (stand ∙ pair_atoms sources) pairs.pairs.items hashes are.pairs)
      (ap (λ ns. any_of (map (name_in atoms) ns)) own ∙ own_said sources whole stand)

  kept_there : (P : ℕ → Type 0) (b : Bool) (n : ℕ) (names : List ℕ) → P n → All P names → All P (cond b (n ∷ names) names)
  kept_there P true n names here later = All-cons P n names here later
  kept_there P false n names here later = later

  but_there : (P : ℕ → Type 0) (names own : List ℕ) → All P names → All P (names_but names own)
  but_there P [] own all = all
  but_there P (n ∷ names) own all =
      kept_there P (not (list_any (λ m. n == m) own)) n (names_but names own) (All-head P n names all) (but_there P names own (All-tail P n names all))

  pairs_there : (names : List ℕ) (hashes : List Hash) → Pairs names hashes → All (λ n. n < length atoms) names
  pairs_there [] hashes stand = All-nil (λ n. n < length atoms)
  pairs_there (n ∷ names) [] stand = absurd cc
  pairs_there (n ∷ names) (h ∷ hashes) stand =
      let here : slice_get atoms n ≡ Some (IntegrityHas h) = cc in
      let later : Pairs names hashes = cc in
      All-cons (λ n. n < length atoms) n names (slice_get_within atoms n (IntegrityHas h) here) (pairs_there names hashes later)

  pub integrity_there : (hashes : List Hash) (pairs : PairNames) (self : Origin) (sources : List Source) (names : List SourceNames) (made : Integrity)
      → ArePairs atoms hashes pairs → AllZip (IsSourceNamed atoms self) sources names → made.outside ≡ pairs.outside
      → made.own.items ≡ word_names word.Pair sources names → made.others.items ≡ names_but pairs.pairs.items (word_names word.Pair sources names)
      → IsIntegrityThere (length atoms) made
  integrity_there hashes pairs self sources names made are named outside own others =
      let whole = word_names word.Pair sources names in
      record {
        outside = subst (λ n. n < length atoms) (sym outside) (slice_get_within atoms pairs.outside IntegrityOutside are.outside);
        others = subst (All (λ n. n < length atoms)) (sym others) (but_there (λ n. n < length atoms) pairs.pairs.items whole (pairs_there pairs.pairs.items hashes are.pairs));
        own = subst (All (λ n. n < length atoms)) (sym own) (names_there atoms whole (word_atoms word.Pair sources) (words_stand atoms word.Pair self sources names named));
      }
