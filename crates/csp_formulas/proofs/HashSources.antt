-- The set of a list's hash-sources, and the denials of the other hashes.
use Rattle.std.proofs.Common.{◌≡◌, ◌≢◌, ◌∙◌, sym, ap, refl, subst, Bool, true, false, not, List, [], ◌∷◌, ◌++◌, map, Bor, Vec, Global}
use Rattle.std.specs.BTreeSet.{BTreeSet}
use Rattle.std.specs.List.{filter_map, list_any}
use Rattle.std.proofs.lemmas.Bool.{cond-true, cond-false, not_from_false, not_from_true}
use Rattle.std.proofs.lemmas.List.{append-nil, append_assoc, map-append}
use Rattle.std.proofs.lemmas.List.Elements.{filter_map-append}
use Rattle.csp_model.specs.DecideTokens.{is_hash}
use Rattle.csp_model.specs.declared.source.Hash.{Hash}
use Rattle.csp_model.specs.declared.source.Source.{Source}
use Rattle.csp_model.specs.declared.source.Source.TheVariants as source
use Rattle.csp_facts.specs.Vocabulary.{hash_of_source}
use Rattle.csp_facts.specs.declared.atom.Atom.TheVariants.{IntegrityOutside}
use Rattle.csp_facts.proofs.VocabularySeen.{Knows, Gains, knows_more}
use Rattle.csp_formula.specs.Sentences.{Sentence, Not, Fact, all_of}
use Rattle.csp_formulas.specs.Formulas.{sentence_of, sentence_step}
use Rattle.csp_formula.specs.Compiled.{has_pair, pairs_sentence, other_hashes, integrity_sentence}
use Rattle.csp_formulas.specs.HashSets.{IsSetOf}
use Rattle.csp_formulas.specs.declared.formula.Formula.{Formula}
use Rattle.csp_formulas.specs.declared.formula.Formula.TheOpen.{Formula-F}
use Rattle.csp_formulas.specs.declared.formula.Formula.TheVariants.{Every, rolls-Every}
use Rattle.csp_formulas.specs.declared.formula.Formula.TheFolds.{fold-roll-Formula}
use Rattle.csp_formula.proofs.MembersOf.{own_has}

-- The set

abbrev pub hashes_in : List Source → List Hash
hashes_in sources = filter_map hash_of_source sources

pub knows_hash : (old now : BTreeSet (Bor Hash)) (sources : List Source) (h : Hash) → Gains old now h → Knows old (hashes_in sources)
    → Knows now (hashes_in (sources ++ source.Digest h ∷ []))
knows_hash old now sources h gains knows =
    subst (Knows now) (sym (filter_map-append hash_of_source sources (source.Digest h ∷ []))) (knows_more old now (hashes_in sources) h gains knows)

no_hash : (s : Source) → ((h : Hash) → s ≢ source.Digest h) → hashes_in (s ∷ []) ≡ []
no_hash (source.Digest h) other = absurd (other h refl)
no_hash s other = refl

pub knows_other : (set : BTreeSet (Bor Hash)) (sources : List Source) (s : Source) → ((h : Hash) → s ≢ source.Digest h) → Knows set (hashes_in sources)
    → Knows set (hashes_in (sources ++ s ∷ []))
knows_other set sources s other knows =
    subst (Knows set) (sym (filter_map-append hash_of_source sources (s ∷ []) ∙ ap (λ hs. hashes_in sources ++ hs) (no_hash s other) ∙ append-nil (hashes_in sources))) knows

pub knows_all : (set : BTreeSet (Bor Hash)) (sources : List Source) → Knows set (hashes_in sources) → IsSetOf sources set
knows_all set sources knows h = knows h ∙ sym (own_has sources h)

-- The denials

abbrev pub denied : Hash → Sentence
denied h = Not (has_pair h)

abbrev test : List Source → Hash → Bool
test sources h = not (list_any (is_hash h) sources)

pub one_denied : (made : List Formula) (f : Formula) (x : Hash) (hashes rest : List Hash) (sources : List Source) (whole : List Sentence)
    → hashes ≡ x ∷ rest → sentence_of f ≡ denied x → list_any (is_hash x) sources ≡ false
    → map sentence_of made ++ map denied (other_hashes hashes sources) ≡ whole
    → map sentence_of (made ++ f ∷ []) ++ map denied (other_hashes rest sources) ≡ whole
one_denied made f x hashes rest sources whole front says out so_far =
    let more = map denied (other_hashes rest sources) in
    ap (λ xs. xs ++ more) (map-append sentence_of made (f ∷ []))
    ∙ append_assoc (map sentence_of made) (sentence_of f ∷ []) more
    ∙ ap (λ s. map sentence_of made ++ s ∷ more) says
    ∙ ap (λ hs. map sentence_of made ++ map denied hs) (sym (ap (λ hs. other_hashes hs sources) front ∙ cond-true (test sources x) (x ∷ other_hashes rest sources) (other_hashes rest sources) (not_from_false (list_any (is_hash x) sources) out)))
    ∙ so_far

pub one_own : (made : List Formula) (x : Hash) (hashes rest : List Hash) (sources : List Source) (whole : List Sentence)
    → hashes ≡ x ∷ rest → list_any (is_hash x) sources ≡ true
    → map sentence_of made ++ map denied (other_hashes hashes sources) ≡ whole
    → map sentence_of made ++ map denied (other_hashes rest sources) ≡ whole
one_own made x hashes rest sources whole front own so_far =
    ap (λ hs. map sentence_of made ++ map denied hs) (sym (ap (λ hs. other_hashes hs sources) front ∙ cond-false (test sources x) (x ∷ other_hashes rest sources) (other_hashes rest sources) (not_from_true (list_any (is_hash x) sources) own)))
    ∙ so_far

says_Every : (v : Vec Formula Global) → sentence_of (Every v) ≡ all_of (map sentence_of v.items)
says_Every v = ap sentence_of (sym (rolls-Every v)) ∙ fold-roll-Formula Sentence sentence_step (Formula-F.Every v)

pub integrity_made : (v : Vec Formula Global) (made : List Formula) (last : Formula) (hashes rest : List Hash) (sources : List Source)
    → v.items ≡ made ++ last ∷ [] → rest ≡ [] → sentence_of last ≡ pairs_sentence sources
    → map sentence_of made ++ map denied (other_hashes rest sources) ≡ Not (Fact IntegrityOutside) ∷ map denied (other_hashes hashes sources)
    → sentence_of (Every v) ≡ integrity_sentence hashes sources
integrity_made v made last hashes rest sources items past says so_far =
    let before : map sentence_of made ≡ Not (Fact IntegrityOutside) ∷ map denied (other_hashes hashes sources) =
    sym (append-nil (map sentence_of made)) ∙ sym (ap (λ hs. map sentence_of made ++ map denied (other_hashes hs sources)) past) ∙ so_far in
    says_Every v ∙ ap (λ fs. all_of (map sentence_of fs)) items
    ∙ ap all_of (map-append sentence_of made (last ∷ []) ∙ ap (λ xs. xs ++ sentence_of last ∷ []) before
    ∙ ap (λ s. (Not (Fact IntegrityOutside) ∷ map denied (other_hashes hashes sources)) ++ s ∷ []) says)
