-- The first of each hash, in a list to which one more is added at its end.
use Rattle.std.proofs.Common.{◌≡◌, ◌≢◌, ◌↔◌, ◌∙◌, sym, ap, subst, refl, true, false, not, List, [], ◌∷◌, ◌++◌, AllPairs, Contains}
use Rattle.std.specs.List.{filter}
use Rattle.std.proofs.lemmas.Bool.{false≢true}
use Rattle.std.proofs.lemmas.List.Elements.{Contains-get_or}
use Rattle.std.proofs.lemmas.List.Quantifiers.{all_pairs_push}
use Rattle.csp_model.specs.DecideEquality.{same_hash}
use Rattle.csp_model.specs.declared.source.Hash.{Hash}
use Rattle.csp_model.proofs.FirstOfEach.{first_of_each, has_key-first_of_each, first_known, first_new}
use Rattle.csp_model.proofs.EqualityDecided.{same_hash_decides}
use Rattle.csp_facts.specs.Holding.{has_hash}
use Rattle.csp_facts.specs.Vocabulary.{distinct}
use Rattle.csp_facts.proofs.HoldingDecided.{has_hash_decides}

-- a hash is its own key
abbrev itself : Hash → Hash
itself h = h

is_first_of_each : (hs : List Hash) → distinct hs ≡ first_of_each itself same_hash hs
is_first_of_each [] = refl
is_first_of_each (h ∷ hs) = ap (λ kept. h ∷ filter (λ g. not (same_hash g h)) kept) (is_first_of_each hs)

pub has_hash-distinct : (hs : List Hash) (g : Hash) → has_hash (distinct hs) g ≡ has_hash hs g
has_hash-distinct hs g =
    ap (λ firsts. has_hash firsts g) (is_first_of_each hs) ∙ has_key-first_of_each itself same_hash same_hash_decides hs g

-- a hash that is there adds nothing
pub distinct_known : (hs : List Hash) (h : Hash) → has_hash hs h ≡ true → distinct (hs ++ h ∷ []) ≡ distinct hs
distinct_known hs h known =
    is_first_of_each (hs ++ h ∷ []) ∙ first_known itself same_hash same_hash_decides hs h known ∙ sym (is_first_of_each hs)

-- a new one is added at the end
pub distinct_new : (hs : List Hash) (h : Hash) → has_hash hs h ≡ false → distinct (hs ++ h ∷ []) ≡ distinct hs ++ h ∷ []
distinct_new hs h new =
    is_first_of_each (hs ++ h ∷ []) ∙ first_new itself same_hash same_hash_decides hs h new
    ∙ ap (λ firsts. firsts ++ h ∷ []) (sym (is_first_of_each hs))

-- and differs from those before it
pub apart_more : (hs : List Hash) (h : Hash) → has_hash hs h ≡ false → AllPairs (λ (g h : Hash). g ≢ h) hs → AllPairs (λ (g h : Hash). g ≢ h) (hs ++ h ∷ [])
apart_more hs h new apart =
    all_pairs_push (λ g h. g ≢ h) hs h apart
    (λ k d within e. false≢true (sym new ∙ (has_hash_decides hs h).1 (subst (Contains hs) e (Contains-get_or hs k d within))))

-- no hash is lost, and none is new
pub Contains-distinct : (hs : List Hash) (h : Hash) → Contains (distinct hs) h ↔ Contains hs h
Contains-distinct hs h = (
  λ there. (has_hash_decides hs h).0 (sym (has_hash-distinct hs h) ∙ (has_hash_decides (distinct hs) h).1 there),
  λ there. (has_hash_decides (distinct hs) h).0 (has_hash-distinct hs h ∙ (has_hash_decides hs h).1 there),
)
