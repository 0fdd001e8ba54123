-- A list without one token is as reading makes it, where the list is.
use Rattle.std.proofs.Common.{arith, ◌≡◌, ◌≢◌, ◌∙◌, sym, ap, refl, subst, ℕ, zero, suc, ◌+◌, ◌<◌, ◌≤◌, List, [], ◌∷◌, length, map, max, get_or}
use Rattle.std.specs.List.{fold, flat_map, remove, sum_by}
use Rattle.std.proofs.Math.Nat.{le_trans, le-max_left, le-max_right, max-le}
use Rattle.std.proofs.lemmas.List.Sums.{fold-append}
use Rattle.csp_model.specs.Policies.{IsReadable, IsReadablePolicy, token_count, longest_text}
use Rattle.csp_model.specs.Reading.{source_of}
use Rattle.csp_model.specs.declared.policy.Directive.{Directive}
use Rattle.csp_model.specs.declared.policy.Policy.{Policy}
use Rattle.csp_model.specs.declared.policy.PolicyList.{PolicyList}
use Rattle.csp_tidy.specs.Candidates.{change_at, directive_without, policy_without, without}
use Rattle.csp_tidy.specs.declared.place.TokenPlace.{TokenPlace}
use Rattle.csp_tidy.proofs.Changes.{length_change, all_changed, map_removed}

-- Counts

module _ {A : Type 0} (step : ℕ → A → ℕ) (grows : (a b : ℕ) (x : A) → a ≤ b → step a x ≤ step b x) where
  fold_grows : (xs : List A) (a b : ℕ) → a ≤ b → fold step a xs ≤ fold step b xs
  fold_grows [] a b less = less
  fold_grows (x ∷ xs) a b less = fold_grows xs (step a x) (step b x) (grows a b x less)

  fold_changed : (f : A → A) → ((a : ℕ) (x : A) → step a (f x) ≤ step a x) → (n : ℕ) (xs : List A) (a b : ℕ) → a ≤ b → fold step a (change_at f n xs) ≤ fold step b xs
  fold_changed f fewer n [] a b less = less
  fold_changed f fewer zero (x ∷ xs) a b less = fold_grows xs (step a (f x)) (step b x) (le_trans (fewer a x) (grows a b x less))
  fold_changed f fewer (suc n) (x ∷ xs) a b less = fold_changed f fewer n xs (step a x) (step b x) (grows a b x less)

fold_flat : {A B : Type 0} (step : ℕ → B → ℕ) (f : A → List B) (xs : List A) (a : ℕ) → fold step a (flat_map f xs) ≡ fold (λ b x. fold step b (f x)) a xs
fold_flat step f [] a = refl
fold_flat step f (x ∷ xs) a = fold-append step a (f x) (flat_map f xs) ∙ fold_flat step f xs (fold step a (f x))

removed_shorter : {A : Type 0} (n : ℕ) (xs : List A) → length (remove xs n) ≤ length xs
removed_shorter zero [] = omega arith
removed_shorter (suc n) [] = omega arith
removed_shorter zero (x ∷ xs) = omega arith
removed_shorter (suc n) (x ∷ xs) = let rest = removed_shorter n xs in omega (arith, rest)

-- The tokens

abbrev tokens_in : Directive → ℕ
tokens_in d = length d.tokens

fewer_directive : (t a : ℕ) (d : Directive) → a + tokens_in (directive_without t d) ≤ a + tokens_in d
fewer_directive t a d = let fewer = removed_shorter t d.tokens in omega (arith, fewer)

fewer_policy : (n t a : ℕ) (p : Policy) → a + sum_by tokens_in (policy_without n t p).directives ≤ a + sum_by tokens_in p.directives
fewer_policy n t a p =
    let fewer = fold_changed (λ a (d : Directive). a + tokens_in d) (λ a b d less. omega (arith, less)) (directive_without t) (fewer_directive t) n p.directives 0 0 (omega arith) in
    omega (arith, fewer)

fewer_tokens : (list : PolicyList) (place : TokenPlace) → token_count (without list place).policies ≤ token_count list.policies
fewer_tokens list place =
    fold_changed (λ a (p : Policy). a + sum_by tokens_in p.directives) (λ a b p less. omega (arith, less)) (policy_without place.directive place.token)
    (fewer_policy place.directive place.token) place.policy list.policies 0 0 (omega arith)

-- The longest text

abbrev longer : ℕ → List ℕ → ℕ
longer n text = max n (length text)

longer_grows : (a b : ℕ) (text : List ℕ) → a ≤ b → longer a text ≤ longer b text
longer_grows a b text less = max-le (le_trans less (le-max_left b (length text))) (le-max_right b (length text))

abbrev texts_in : Directive → List (List ℕ)
texts_in d = d.name ∷ d.tokens

abbrev texts_of : Policy → List (List ℕ)
texts_of p = flat_map texts_in p.directives

removed_least : (n : ℕ) (texts : List (List ℕ)) (a b : ℕ) → a ≤ b → fold longer a (remove texts n) ≤ fold longer b texts
removed_least zero [] a b less = less
removed_least (suc n) [] a b less = less
removed_least zero (text ∷ texts) a b less = fold_grows longer longer_grows texts a (longer b text) (le_trans less (le-max_left b (length text)))
removed_least (suc n) (text ∷ texts) a b less = removed_least n texts (longer a text) (longer b text) (longer_grows a b text less)

least_directive : (t a : ℕ) (d : Directive) → fold longer a (texts_in (directive_without t d)) ≤ fold longer a (texts_in d)
least_directive t a d = removed_least t d.tokens (longer a d.name) (longer a d.name) (omega arith)

least_policy : (n t a : ℕ) (p : Policy) → fold longer a (texts_of (policy_without n t p)) ≤ fold longer a (texts_of p)
least_policy n t a p =
    let step = λ (b : ℕ) (d : Directive). fold longer b (texts_in d) in
    let least = fold_changed step (λ b c d less. fold_grows longer longer_grows (texts_in d) b c less) (directive_without t) (least_directive t) n p.directives a a (omega arith) in
    let old = fold_flat longer texts_in p.directives a in
    let new = fold_flat longer texts_in (policy_without n t p).directives a in
    omega (arith, least, old, new)

least_texts : (list : PolicyList) (place : TokenPlace) → longest_text (without list place).policies ≤ longest_text list.policies
least_texts list place =
    let step = λ (b : ℕ) (p : Policy). fold longer b (texts_of p) in
    let least = fold_changed step (λ b c p less. fold_grows longer longer_grows (texts_of p) b c less) (policy_without place.directive place.token)
    (least_policy place.directive place.token) place.policy list.policies 0 0 (omega arith) in
    let old = fold_flat longer texts_of list.policies 0 in
    let new = fold_flat longer texts_of (without list place).policies 0 in
    omega (arith, least, old, new)

-- Policies

some_changed : {A : Type 0} (f : A → A) (n : ℕ) (xs : List A) → xs ≢ [] → change_at f n xs ≢ []
some_changed f n [] some = absurd (some refl)
some_changed f zero (x ∷ xs) some = λ is. cc is
some_changed f (suc n) (x ∷ xs) some = λ is. cc is

name_at : (t n : ℕ) (ds : List Directive) (i : ℕ) (d : Directive) → (get_or (change_at (directive_without t) n ds) i d).name ≡ (get_or ds i d).name
name_at t n [] i d = refl
name_at t zero (e ∷ ds) zero d = refl
name_at t zero (e ∷ ds) (suc i) d = refl
name_at t (suc n) (e ∷ ds) zero d = refl
name_at t (suc n) (e ∷ ds) (suc i) d = name_at t n ds i d

abbrev pub HasRead : Directive → Type 0
HasRead d = d.sources ≡ map source_of d.tokens

pub read_without : (t : ℕ) (d : Directive) → HasRead d → HasRead (directive_without t d)
read_without t d read = ap (λ ss. remove ss t) read ∙ sym (map_removed source_of t d.tokens)

readable_policy : (n t : ℕ) (p : Policy) → IsReadablePolicy p → IsReadablePolicy (policy_without n t p)
readable_policy n t p is = record {
  some = some_changed (directive_without t) n p.directives is.some;
  distinct = λ i j d low within. λ same.
      is.distinct i j d low (subst (λ (m : ℕ). j < m) (length_change (directive_without t) n p.directives) within)
      (sym (name_at t n p.directives i d) ∙ same ∙ name_at t n p.directives j d);
  read = all_changed HasRead (directive_without t) n p.directives (read_without t) is.read;
  origin = is.origin;
}

pub readable_without : (list : PolicyList) (place : TokenPlace) → IsReadable list → IsReadable (without list place)
readable_without list place is =
    let f = policy_without place.directive place.token in
    let long = length_change f place.policy list.policies in
    let fewer = fewer_tokens list place in
    let least = least_texts list place in
    let policies = is.policies in
    let tokens = is.tokens in
    let texts = is.texts in
    record {
      policies = omega (arith, long, policies);
      tokens = le_trans fewer tokens;
      texts = le_trans least texts;
      each = all_changed IsReadablePolicy f place.policy list.policies (readable_policy place.directive place.token) is.each;
    }
