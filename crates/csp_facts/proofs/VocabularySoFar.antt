-- What a vocabulary has so far, source by source.
use Rattle.std.proofs.Common.{◌≡◌, ◌≢◌, ◌∙◌, sym, ap, Bool, true, false, not, List, [], ◌∷◌, ◌++◌, AllPairs, Bor}
use Rattle.std.specs.BTreeSet.{BTreeSet}
use Rattle.std.proofs.lemmas.Bool.{not-true, not-false}
use Rattle.csp_model.specs.declared.source.Hash.{Hash}
use Rattle.csp_facts.specs.Holding.{has_hash}
use Rattle.csp_facts.specs.Vocabulary.{distinct}
use Rattle.csp_facts.proofs.VocabularyDistinct.{has_hash-distinct, distinct_known, distinct_new, apart_more}
use Rattle.csp_facts.proofs.VocabularySeen.{is_seen, Knows, Gains, knows_more}

-- of the hashes of the list, the set has each, and the first of each were made
pub record SoFar (seen : BTreeSet (Bor Hash)) (made hs : List Hash) : Type 0 where
  pub knows : Knows seen hs
  pub firsts : made ≡ distinct hs
  pub apart : AllPairs (λ (g h : Hash). g ≢ h) made

-- a hash that was there
pub with_known : (seen now : BTreeSet (Bor Hash)) (made hs : List Hash) (h : Hash) (added : Bool) → added ≡ not (is_seen seen h) → added ≡ false → Gains seen now h
    → SoFar seen made hs → SoFar now made (hs ++ h ∷ [])
with_known seen now made hs h added is old gains so_far = record {
  knows = knows_more seen now hs h gains so_far.knows;
  firsts = so_far.firsts ∙ sym (distinct_known hs h (sym (so_far.knows h) ∙ not-false (is_seen seen h) (sym is ∙ old)));
  apart = so_far.apart;
}

-- a new one
pub with_new : (seen now : BTreeSet (Bor Hash)) (made hs : List Hash) (h : Hash) (added : Bool) → added ≡ not (is_seen seen h) → added ≡ true → Gains seen now h
    → SoFar seen made hs → SoFar now (made ++ h ∷ []) (hs ++ h ∷ [])
with_new seen now made hs h added is new gains so_far =
    let missing = sym (so_far.knows h) ∙ not-true (is_seen seen h) (sym is ∙ new) in
    record {
      knows = knows_more seen now hs h gains so_far.knows;
      firsts = ap (λ firsts. firsts ++ h ∷ []) so_far.firsts ∙ sym (distinct_new hs h missing);
      apart = apart_more made h (ap (λ firsts. has_hash firsts h) so_far.firsts ∙ has_hash-distinct hs h ∙ missing) so_far.apart;
    }
